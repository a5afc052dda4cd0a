use Rattle.std.specs.Prelude.{◌≡◌, ◌==◌, ◌&&◌, ◌+◌, ℕ, suc, zero, Bool, true, nat_lt, nat_le, List, [], ◌∷◌, Option, None, Some, slice_get, if◌then◌else◌}

-- Things under ids, as a list of pairs of an id and its thing, with rising ids.

-- whether the ids rise strictly, from a least one on
abbrev pub rises_from : {X : Type 0} → ℕ → List (ℕ × X) → Bool
rises_from low [] = true
rises_from low (e ∷ es) = nat_le low e.0 && rises_from (e.0 + 1) es

-- each id is above the one before it, so that none stands twice
abbrev pub IsRising : {X : Type 0} → List (ℕ × X) → Type 0
IsRising es = rises_from 0 es ≡ true

-- the thing under an id
abbrev pub under : {X : Type 0} → ℕ → List (ℕ × X) → Option X
under id [] = None
under id (e ∷ es) = if e.0 == id then Some e.1 else under id es

-- the list with the thing under an id changed, or as it was where the id does not stand
abbrev pub change_under : {X : Type 0} → ℕ → (X → X) → List (ℕ × X) → List (ℕ × X)
change_under id f [] = []
change_under id f (e ∷ es) = if e.0 == id then (e.0, f e.1) ∷ es else e ∷ change_under id f es

-- the list with this thing under an id that stands
abbrev pub put_under : {X : Type 0} → ℕ → X → List (ℕ × X) → List (ℕ × X)
put_under id w [] = []
put_under id w (e ∷ es) = if e.0 == id then (e.0, w) ∷ es else e ∷ put_under id w es

-- the list with this thing at a place, under the id that stands there
abbrev pub put_at : {X : Type 0} → ℕ → X → List (ℕ × X) → List (ℕ × X)
put_at i w [] = []
put_at zero w (e ∷ es) = (e.0, w) ∷ es
put_at (suc i) w (e ∷ es) = e ∷ put_at i w es

-- the thing at a place
abbrev pub thing_at : {X : Type 0} → ℕ → List (ℕ × X) → Option X
thing_at i [] = None
thing_at zero (e ∷ es) = Some e.1
thing_at (suc i) (e ∷ es) = thing_at i es

-- the id at a place
abbrev pub id_at : {X : Type 0} → ℕ → List (ℕ × X) → Option ℕ
id_at i [] = None
id_at zero (e ∷ es) = Some e.0
id_at (suc i) (e ∷ es) = id_at i es

-- every thing changed, each under its id
abbrev pub map_each : {X Y : Type 0} → (X → Y) → List (ℕ × X) → List (ℕ × Y)
map_each f [] = []
map_each f (e ∷ es) = (e.0, f e.1) ∷ map_each f es

-- the list with one more thing under an id, behind those of lower ids
abbrev pub inserted : {X : Type 0} → ℕ → X → List (ℕ × X) → List (ℕ × X)
inserted id x [] = (id, x) ∷ []
inserted id x (e ∷ es) = if nat_lt e.0 id then e ∷ inserted id x es else (id, x) ∷ e ∷ es

-- the list without an id and its thing
abbrev pub without_id : {X : Type 0} → ℕ → List (ℕ × X) → List (ℕ × X)
without_id id [] = []
without_id id (e ∷ es) = if e.0 == id then es else e ∷ without_id id es

-- how many ids at the start are below this one: the place of the first id that is not
abbrev pub place_from : {X : Type 0} → ℕ → List (ℕ × X) → ℕ
place_from low [] = 0
place_from low (e ∷ es) = if nat_lt e.0 low then suc (place_from low es) else 0

-- the place of the first id above one, or of the first id of all
abbrev pub place_after : {X : Type 0} → Option ℕ → List (ℕ × X) → ℕ
place_after None es = 0
place_after (Some id) es = place_from (id + 1) es

-- the first id from one on, with its thing
abbrev pub first_from : {X : Type 0} → ℕ → List (ℕ × X) → Option (ℕ × X)
first_from low [] = None
first_from low (e ∷ es) = if nat_lt e.0 low then first_from low es else Some e

-- the first id above one, or the first of all, with its thing
abbrev pub next_after : {X : Type 0} → Option ℕ → List (ℕ × X) → Option (ℕ × X)
next_after None es = slice_get es 0
next_after (Some id) es = first_from (id + 1) es
