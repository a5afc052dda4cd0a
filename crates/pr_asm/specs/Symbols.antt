-- Which label an address belongs to.
use Rattle.std.specs.Prelude.{◌≡◌, ◌+◌, ◌-◌, ◌*◌, ◌≤◌, ◌<◌, ◌&&◌, ℕ, Bool, true, Option, Some, None, List, [], ◌∷◌, ◌++◌, option_map, nat_le, if◌then◌else◌}
use Rattle.std.specs.List.{All}
use Rattle.pr_num.specs.Layout.{text_base}
use Rattle.pr_num.specs.Limits.{instruction_size}
use Rattle.pr_num.specs.Programs.{Program, Label}

-- the address of a label: that of the instruction that it stands before
abbrev pub label_address : Label → ℕ
label_address l = text_base + instruction_size * l.place

-- whether an address is not below the best one so far, if there is one
abbrev pub reaches : Option (List ℕ × ℕ) → ℕ → Bool
reaches None at = true
reaches (Some best) at = nat_le best.1 at

-- the better of the best label so far, with its address, and one more: a higher one at or below pc, or a later one at
-- the same address
unfoldable pub nearer : ℕ → Option (List ℕ × ℕ) → Label → Option (List ℕ × ℕ)
nearer pc best l =
    if nat_le (label_address l) pc && reaches best (label_address l) then Some (l.name, label_address l) else best

unfoldable pub nearest : ℕ → Option (List ℕ × ℕ) → List Label → Option (List ℕ × ℕ)
nearest pc best [] = best
nearest pc best (l ∷ ls) = nearest pc (nearer pc best l) ls

-- the last label at or below pc, and how far pc lies past it
unfoldable pub symbol_at : Program → ℕ → Option (List ℕ × ℕ)
symbol_at p pc = option_map (λ l. (l.0, pc - l.1)) (nearest pc None p.labels)

-- One of these labels is the last at or below pc: it has this name, and pc lies so far past it. No label at or below
-- pc is higher, and none of those on later lines is as high.
pub record IsSymbol (labels : List Label) (pc : ℕ) (name : List ℕ) (distance : ℕ) : Type 0 where
  pub label : Label
  pub before : List Label
  pub after : List Label
  pub whole : labels ≡ before ++ label ∷ after
  pub named : name ≡ label.name
  pub far : label_address label + distance ≡ pc
  pub highest : All (λ l. label_address l ≤ pc → label_address l ≤ label_address label) before
  pub latest : All (λ l. label_address l ≤ pc → label_address l < label_address label) after
