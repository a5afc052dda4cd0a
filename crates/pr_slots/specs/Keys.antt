use Rattle.std.specs.Prelude.{◌≡◌, ◌≤◌, ℕ, List, Option, Some, None, IsSome, is_some, length, map, count_by, slice_index_or}
use Rattle.slab.specs.Slab.{Slab, get, slab_len}

-- How the places are kept: a slab has the things, and each number has the key of its own, if its place is not free.

-- the thing of a key
abbrev pub thing_of : {T : Type 0} → Slab T → Option ℕ → Option T
thing_of slab None = None
thing_of slab (Some key) = get slab key

-- the places by number
abbrev pub places_of : {T : Type 0} → Slab T → List (Option ℕ) → List (Option T)
places_of slab keys = map (thing_of slab) keys

-- Each number's key has a thing, no two numbers have one key, and the slab has no other thing and room for all.
pub record IsKeyed {T : Type 0} (slab : Slab T) (keys : List (Option ℕ)) : Type 0 where
  pub room : length keys ≤ slab.capacity
  pub counted : slab_len slab ≡ count_by is_some keys
  pub there : (number key : ℕ) → slice_index_or keys number None ≡ Some key → IsSome (get slab key)
  pub apart : (m n key : ℕ) → slice_index_or keys m None ≡ Some key → slice_index_or keys n None ≡ Some key → m ≡ n
