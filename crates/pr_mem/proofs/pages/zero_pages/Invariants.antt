use Rattle.std.proofs.Common.{◌≡◌, ◌≤◌, map, replicate}
use Rattle.std.specs.Arc.{arc_value}
use Rattle.pr_num.specs.Layout.{page_size}
use Rattle.pr_mem.proofs.pages.zero_pages.Given as goal

abbrev pub invariant-loop : goal.invariant-loop
invariant-loop l = record {
  zeros : arc_value l.zeros ≡ replicate page_size 0;
  pages : map arc_value l.pages.items ≡ replicate l.counter (replicate page_size 0);
  within : l.counter ≤ l.count;
}
