use Rattle.std.proofs.Common.{◌≡◌, take}
use Rattle.pr_io.specs.Known.{with_end}
use Rattle.pr_commands.specs.Giving.{text_of}
use Rattle.pr_commands.proofs.answers.write_pieces.Given as goal

-- the pieces so far were written, and no write failed
abbrev pub invariant-loop-piece : goal.invariant-loop-piece
invariant-loop-piece g l = record {
  written : g.K.Sink.written l.sink ≡ with_end (g.K.Sink.written l.fn.sink) (text_of (take l.piece-index l.pieces));
  faults : g.K.Sink.faults l.sink ≡ g.K.Sink.faults l.fn.sink;
}
