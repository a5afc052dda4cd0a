-- How a text is divided into its parts, and where it stops.
use Rattle.std.specs.Prelude.{◌≡◌, ◌⊎◌, ◌+◌, ℕ, true, false, Some, None, List, [], ◌∷◌, ◌++◌, length, Ok, Err}
use Rattle.std.specs.List.{AllByRecursion, flat_map}
use Rattle.pr_scen.specs.Blocks.{part_added, parts_added}
use Rattle.pr_scen.specs.Drafts.{nothing, made}
use Rattle.pr_scen.specs.Lines.{is_end}
use Rattle.pr_scen.specs.Parts.{Part, line, block, endless, begins_block, parts_of}
use Rattle.pr_scen.specs.Scenarios.{Scenario}
use Rattle.pr_scen.specs.declared.drafts.Draft.{Draft}
use Rattle.pr_scen.specs.Refusals.{ScenFault}

-- ---- parts

-- the lines of a part that is whole
abbrev pub lines_in : Part → List (List ℕ)
lines_in (line n this) = this ∷ []
lines_in (block n first body last) = first ∷ (body ++ last ∷ [])
lines_in (endless n first) = first ∷ []

-- A part that begins at line n: a line outside blocks, or a line that begins a block, those of the block, and the first
-- line after it whose first word is `end`.
abbrev pub IsPartAt : ℕ → Part → Type 0
IsPartAt n (line m this) = (m ≡ n) × (begins_block this ≡ false)
IsPartAt n (block m first body last) =
    (m ≡ n) × (begins_block first ≡ true) × AllByRecursion (λ this. is_end this ≡ false) body × (is_end last ≡ true)
IsPartAt n (endless m first) = ⊥

-- parts, one after the other, from line n on
unfoldable pub ArePartsFrom : ℕ → List Part → Type 0
ArePartsFrom n [] = Unit {0}
ArePartsFrom n (part ∷ parts) = IsPartAt n part × ArePartsFrom (n + length (lines_in part)) parts

-- Lines that encode a scenario: they are whole parts, one after another, which are accepted in turn and make it.
pub record EncodeScenario (lines : List (List ℕ)) (s : Scenario) : Type 0 where
  pub parts : List Part
  pub read : Draft
  pub divided : ArePartsFrom 1 parts
  pub whole : lines ≡ flat_map lines_in parts
  pub accepted : parts_added nothing parts ≡ Ok read
  pub makes : s ≡ made read

-- ---- refusals

-- Of these parts, which follow what was read, one is the first that is refused: those above it are accepted one after
-- another, and it cannot follow them.
pub record StopsAt (d : Draft) (parts : List Part) (fault : ScenFault) : Type 0 where
  pub above : List Part
  pub this : Part
  pub below : List Part
  pub read : Draft
  pub whole : parts ≡ above ++ this ∷ below
  pub accepted : parts_added d above ≡ Ok read
  pub refused : part_added read this ≡ Err fault

-- the first line of these lines that is refused
abbrev pub IsFirstFault : List (List ℕ) → ScenFault → Type 0
IsFirstFault lines fault = StopsAt nothing (parts_of lines) fault
