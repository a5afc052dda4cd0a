-- Where the names of a program stand.
use Rattle.std.specs.Prelude.{◌≡◌, ◌+◌, ◌*◌, ◌/◌, ℕ, Bool, true, Option, Some, None, List, [], ◌∷◌, length, Result, Ok, Err, nat_le, nat_lt, if◌then◌else◌}
use Rattle.std.specs.Str.{bytes_eq}
use Rattle.std.specs.Map.{lookup}
use Rattle.std.specs.BTreeMap.{get}
use Rattle.pr_num.specs.Layout.{data_base, text_base}
use Rattle.pr_num.specs.Limits.{code_limit, data_limit, instruction_size}
use Rattle.pr_text.specs.Keys.{key_cmp}
use Rattle.pr_asm.specs.declared.places.Place.{Place}
use Rattle.pr_asm.specs.declared.places.Places.{Places}
use Rattle.pr_asm.specs.declared.layouts.Layout.{Layout}
use Rattle.pr_asm.specs.declared.statements.Statement.{Statement}
use Rattle.pr_asm.specs.declared.statements.Statement.TheVariants.{Blank, Label, Data, Code}
use Rattle.pr_asm.specs.declared.refusals.AsmKind.{AsmKind}
use Rattle.std.specs.Option.{option_or}

-- data begins at a multiple of 8
abbrev pub aligned : ℕ → ℕ
aligned n = (n + 7) / 8 * 8

-- whether so many bytes and zeros stay within 65,536 bytes of data, after so many
abbrev pub has_room : ℕ → ℕ → ℕ → Bool
has_room above len zeros = nat_le (aligned above + len + zeros) data_limit

-- whether a statement stays within 4,096 instructions and 65,536 bytes of data, below what stands above it
unfoldable pub fits : Layout → Statement → Bool
fits above Blank = true
fits above (Label name) = true
fits above (Data name bytes zeros) = has_room above.bytes (length bytes) zeros
fits above (Code i name) = nat_lt above.code code_limit

-- what stands above the next line
unfoldable pub grown : Layout → Statement → Layout
grown above Blank = above
grown above (Label name) = above
grown above (Data name bytes zeros) = record { code = above.code; bytes = aligned above.bytes + length bytes + zeros }
grown above (Code i name) = record { code = above.code + 1; bytes = above.bytes }

-- a statement past a limit takes no room
unfoldable pub layout_after : Layout → Statement → Layout
layout_after above s = if fits above s then grown above s else above

-- the name that a statement places, and its value: a label's is the address of the next instruction, that of data the
-- address of its first byte
unfoldable pub placed : Layout → ℕ → Statement → Option (List ℕ × Place)
placed above line Blank = None
placed above line (Label name) = Some (name, record { line = line; value = text_base + instruction_size * above.code })
placed above line (Data name bytes zeros) = Some (name, record { line = line; value = data_base + aligned above.bytes })
placed above line (Code i name) = None

-- a list with one more at the head, if there is one
abbrev pub and_then_all : {A : Type 0} → Option A → List A → List A
and_then_all None xs = xs
and_then_all (Some x) xs = x ∷ xs

-- the names that the well formed lines place, in the order of the lines, which count from `line`
unfoldable pub placed_from : Layout → ℕ → List (Result Statement AsmKind) → List (List ℕ × Place)
placed_from above line [] = []
placed_from above line (Err kind ∷ rest) = placed_from above (line + 1) rest
placed_from above line (Ok s ∷ rest) =
    and_then_all (placed above line s) (placed_from (layout_after above s) (line + 1) rest)

-- where a name is placed first
unfoldable pub place_among : List (List ℕ × Place) → List ℕ → Option Place
place_among places name = lookup (bytes_eq name) places

-- nothing stands above the first line
abbrev pub nothing_above : Layout
nothing_above = record { code = 0; bytes = 0 }

-- where each name of a program is placed, by what its lines say
unfoldable pub place_in : ℕ → List (Result Statement AsmKind) → List ℕ → Option Place
place_in first reads name = place_among (placed_from nothing_above first reads) name

-- where a table of places has a name
unfoldable pub found : Places → List ℕ → Option Place
found places name = get key_cmp places.map (record { name = name })

-- What one line does to the places: with the names that it places, the names below it are found where they were.
pub record SeesLine (old new : Places) (above below : Layout) (line : ℕ)
    (read : Result Statement AsmKind) : Type 0 where
  pub same : (rest : List (Result Statement AsmKind)) (name : List ℕ)
      → option_or (found new name) (place_among (placed_from below (line + 1) rest) name)
      ≡ option_or (found old name) (place_among (placed_from above line (read ∷ rest)) name)
