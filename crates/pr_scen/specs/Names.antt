-- Names in the order in which they were given.
use Rattle.std.specs.Prelude.{◌≡◌, ℕ, Option, List}
use Rattle.std.specs.BTreeMap.{BTreeMap, get}
use Rattle.std.specs.List.{position_from}
use Rattle.std.specs.Str.{bytes_eq}
use Rattle.pr_text.specs.Keys.{key_cmp}
use Rattle.pr_text.specs.declared.keys.Key.{Key}

-- the place of a name among others, if it is one of them
unfoldable pub place_of : List (List ℕ) → List ℕ → Option ℕ
place_of names name = position_from (bytes_eq name) 0 names

-- a map finds each of these names at its place, and no other name
pub record IsIndex (names : List (List ℕ)) (places : BTreeMap Key ℕ) : Type 0 where
  pub found : (name : List ℕ) → get key_cmp places (record { name = name }) ≡ place_of names name
