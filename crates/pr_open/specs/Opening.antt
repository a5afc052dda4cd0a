use Rattle.std.specs.Prelude.{ℕ, List, Option, Some, None, is_none, Result, Ok, Err, position, if◌then◌else◌}
use Rattle.pr_model.specs.Handles.{conflicts}
use Rattle.pr_model.specs.declared.handles.Held.{Held}
use Rattle.pr_open.specs.declared.refusals.OpenNo.{OpenNo}
use Rattle.pr_open.specs.declared.refusals.OpenNo.TheVariants.{Busy, Full}

-- Opening handles, over the places for them by number.

-- the least free number, if there is one
abbrev pub least_free : List (Option Held) → Option ℕ
least_free places = position is_none places

abbrev pub or_full : Option ℕ → Result ℕ OpenNo
or_full (Some number) = Ok number
or_full None = Err Full

-- the number that an open gets: Busy where its mode conflicts with those of handles that are open, then Full where
-- there is no free number, else the least free one
unfoldable pub open_answer : Held → List (Option Held) → Result ℕ OpenNo
open_answer h places =
    if conflicts h.pid h.mode places then Err Busy
    else or_full (least_free places)
