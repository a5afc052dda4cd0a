-- The files that a controller has open, each at its place in the order of opening. They are closed in the reverse
-- order.
use Rattle.std.specs.Prelude.{ℕ, suc, ◌-◌, List, [], ◌∷◌, Option, Some, None, get_or, is_some, nat_lt, replicate, slice_set, if◌then◌else◌}
use Rattle.pr_tools.specs.declared.handles.Opened.{Opened}

-- the most files that are open at once
abbrev pub most_open : ℕ
most_open = 8

unfoldable pub nothing_open : Opened
nothing_open = record { handles = replicate most_open None }

-- the file at a place, where it is open
unfoldable pub handle_at : Opened → ℕ → Option ℕ
handle_at o place = get_or o.handles place None

-- the file at a place was opened, or that gave no handle
unfoldable pub with_handle : Opened → ℕ → Option ℕ → Opened
with_handle o place handle = record { handles = slice_set o.handles place handle }

-- how many places there are up to the last file that is open
unfoldable pub places_to_last : List (Option ℕ) → ℕ
places_to_last [] = 0
places_to_last (h ∷ hs) = if nat_lt 0 (places_to_last hs) then suc (places_to_last hs) else (if is_some h then 1 else 0)

-- the place of the file that was opened last
abbrev pub last_place : Opened → ℕ
last_place o = places_to_last o.handles - 1

-- that file
unfoldable pub last_open : Opened → Option ℕ
last_open o = handle_at o (last_place o)

-- what is open once that was closed
unfoldable pub without_last : Opened → Opened
without_last o = with_handle o (last_place o) None
