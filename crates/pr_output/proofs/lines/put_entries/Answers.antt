use Rattle.std.proofs.Common.{rules, arith, ◌∙◌}
use Rattle.pr_io.proofs.Known.{with_end-nil}
use Rattle.pr_plain.proofs.LineLemmas.{entries_text-none}
use Rattle.pr_output.proofs.Entries.{entries_text-parts, entries_text-block}
use Rattle.pr_output.proofs.Joined.{with_end-second, Puts-second, Puts-cut, Puts-nothing}
use Rattle.pr_output.proofs.lines.put_entries.Goals as goal

pub loop-at-init : goal.loop-at-init
loop-at-init g c = record {
  within = omega arith;
  lines = grind (arith, with_end-nil, entries_text-none);
  faults = search rules;
}

pub loop-at-preserved : goal.loop-at-preserved
loop-at-preserved g c =
    let block = c.in_ok-next.ensures in
    let put = rw c.deref.ensures.value at c.in_ok-put.ensures.puts in
    record {
      within = block.within;
      lines = rw block.lines (with_end-second _ _ _ _ _ c.loop-at.invariant.lines put.all);
      faults = put.no_fault (λ is. cc) ∙ c.loop-at.invariant.faults;
    }

pub returns-in_err-next : goal.returns-in_err-next
returns-in_err-next g c =
    rw (entries_text-parts c.loop-at.at c.args.history.now.entries)
    (Puts-second _ _ _ _ _ _ _ _ _ c.loop-at.invariant.lines c.loop-at.invariant.faults
    (Puts-nothing _ _ _ _ (search rules)))

pub returns-in_err-put : goal.returns-in_err-put
returns-in_err-put g c =
    let block = c.in_ok-next.ensures in
    let put = rw c.deref.ensures.value at c.in_err-put.ensures.puts in
    rw (entries_text-block c.loop-at.at c.in_ok-next.next c.args.history.now.entries c.fill_block.new.block.items
    block.lines)
    (Puts-second _ _ _ _ _ _ _ _ _ c.loop-at.invariant.lines c.loop-at.invariant.faults
    (Puts-cut _ _ _ _ _ _ _ _ (search rules) put))
