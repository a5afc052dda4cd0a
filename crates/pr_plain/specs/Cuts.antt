-- Bytes in pieces.
use Rattle.std.specs.Prelude.{ℕ, ◌==◌, Option, Some, None, List, []}
use Rattle.std.specs.List.{slice_split}

-- the pieces of what is left; there are none where nothing is left, and one where no bytes are left
abbrev pub pieces_left : ℕ → Option (List ℕ) → List (List ℕ)
pieces_left cut None = []
pieces_left cut (Some bytes) = slice_split (λ b. b == cut) bytes
