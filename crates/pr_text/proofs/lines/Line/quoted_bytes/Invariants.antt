use Rattle.std.proofs.Common.{◌≡◌, ◌≤◌, ◌++◌, length, take}
use Rattle.std.specs.List.{flat_map}
use Rattle.pr_num.specs.declared.limits.TheConstants.{LINE_LIMIT}
use Rattle.pr_text.specs.Quotes.{quoted_byte}
use Rattle.pr_text.proofs.lines.Line.quoted_bytes.Given as goal

abbrev pub invariant-loop-b : goal.invariant-loop-b
invariant-loop-b l = record {
  written : l.self ≡ l.initial.self ++ flat_map quoted_byte (take l.b-index l.bytes);
  within : length l.self ≤ LINE_LIMIT;
}
