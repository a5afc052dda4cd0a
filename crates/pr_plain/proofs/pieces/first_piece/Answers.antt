use Rattle.std.proofs.Common.{sym}
use Rattle.pr_plain.proofs.PieceLemmas.{piece_none, piece_some}
use Rattle.pr_plain.proofs.pieces.first_piece.Goals as goal

pub returns-in-None : goal.returns-in-None
returns-in-None c = piece_none c.args.cut c.args.bytes.now (sym c.in-None.ensures)

pub returns-in-Some : goal.returns-in-Some
returns-in-Some c = piece_some c.args.cut c.args.bytes.now c.in-Some.end (sym c.in-Some.ensures)
