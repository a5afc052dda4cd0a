use Rattle.std.proofs.Common.{◌≡◌, ◌++◌, take}
use Rattle.std.specs.List.{flat_map}
use Rattle.pr_hist.specs.Pictures.{piece_text}
use Rattle.pr_hist.proofs.pictures.write_pieces.Given as goal

-- the texts so far
abbrev pub invariant-loop-piece : goal.invariant-loop-piece
invariant-loop-piece l = l.text ≡ l.fn.text ++ flat_map piece_text (take l.piece-index l.pieces)
