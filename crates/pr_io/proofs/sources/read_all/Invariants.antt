use Rattle.std.proofs.Common.{◌≡◌, ◌+◌, ◌-◌, ◌<◌, ◌≤◌, length, vec_len}
use Rattle.pr_io.specs.Known.{with_front}
use Rattle.pr_io.proofs.sources.read_all.Given as goal

-- what came so far; each read brought at least one byte, and was made at the limit or below
abbrev pub invariant-loop-piece : goal.invariant-loop-piece
invariant-loop-piece g l = record {
  room : 0 < length l.piece;
  front : g.S.Source.left l.fn.source ≡ with_front l.bytes.items (g.S.Source.left l.source);
  faults : g.S.Source.faults l.source ≡ g.S.Source.faults l.fn.source;
  reads : g.S.Source.reads l.source ≤ g.S.Source.reads l.fn.source + length l.bytes.items;
  bounded : g.S.Source.reads l.source ≤ g.S.Source.reads l.fn.source + (l.limit + 1);
}

abbrev pub decreases-loop-piece : goal.decreases-loop-piece
decreases-loop-piece g l = l.limit + 1 - vec_len l.bytes
