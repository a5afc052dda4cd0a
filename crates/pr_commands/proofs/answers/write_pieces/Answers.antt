use Rattle.std.proofs.Common.{◌∙◌, Err, ap, refl}
use Rattle.std.proofs.lemmas.Result.{err_from_is_err_and}
use Rattle.pr_commands.proofs.PieceLemmas.{piece-at, piece-failed, piece-next, piece-none}
use Rattle.pr_commands.proofs.answers.write_pieces.Goals as goal

pub loop-piece-init : goal.loop-piece-init
loop-piece-init g c = record { written = piece-none _; faults = refl }

pub returns-in_err-write_all-clause-put : goal.returns-in_err-write_all-clause-put
returns-in_err-write_all-clause-put g c =
    let p = err_from_is_err_and c.from_residual.result c.from_residual.ensures.1 in
    let write = c.in_err-write_all.ensures in
    piece-failed _ _ _ c.args.pieces.now c.loop-piece.piece-index _
    (piece-at c.args.pieces.now c.loop-piece.piece-index _ c.loop-piece-test.true) c.loop-piece.invariant.written
    c.from_residual.result _ _ _
    (p.1 ∙ ap Err p.2) c.loop-piece.invariant.faults write.front write.failed write.never_falls

pub loop-piece-preserved : goal.loop-piece-preserved
loop-piece-preserved g c = record {
  written =
      piece-next _ _ _ c.args.pieces.now c.loop-piece.piece-index _
      (piece-at c.args.pieces.now c.loop-piece.piece-index _ c.loop-piece-test.true) c.loop-piece.invariant.written
      c.in_ok-write_all.ensures.all;
  faults = c.in_ok-write_all.ensures.no_fault ∙ c.loop-piece.invariant.faults;
}
