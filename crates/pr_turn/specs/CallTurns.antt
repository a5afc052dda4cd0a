use Rattle.std.specs.Prelude.{◌≡◌, ℕ, Bool, false, Option, Some, None}
use Rattle.std.specs.List.{list_any}
use Rattle.pr_call.specs.Effects.{is_store, takes_memory}
use Rattle.pr_call.specs.Requests.{request_in}
use Rattle.pr_call.specs.declared.requests.Performed.{Performed}
use Rattle.pr_call.specs.declared.requests.Request.{Request}
use Rattle.pr_call.specs.declared.requests.Performed.TheVariants.{Done, Sleep, Ended}
use Rattle.pr_model.specs.Changes.{does}
use Rattle.pr_model.specs.Machines.{traced}
use Rattle.pr_model.specs.Moves.{moved, leaves, sleeps}
use Rattle.pr_model.specs.Rows.{Row, finished, row_for}
use Rattle.pr_model.specs.State.{TracedSystem, TracedProcess, TracedLwp, live_process, lwp_of}
use Rattle.pr_model.specs.declared.events.Did.{Did}
use Rattle.pr_model.specs.declared.events.Did.TheVariants.{Ran, Faulted, Woke, Slept, Made as MadeCall}
use Rattle.pr_model.specs.declared.events.Res.{Res}
use Rattle.pr_model.specs.declared.events.Res.TheVariants as res
use Rattle.pr_model.specs.declared.stops.Point.TheVariants.{Exit}
use Rattle.pr_num.specs.declared.syscalls.Sysno.{Sysno}
use Rattle.pr_turn.specs.Making.{at_point, quiet}
use Rattle.pr_turn.specs.declared.making.Made.{Made}
use Rattle.pr_turn.specs.declared.next.NextTurn.{NextTurn}
use Rattle.pr_turn.specs.declared.next.NextTurn.TheVariants.{Row as ThisRow, Performs}

-- What a call that was performed makes of its lwp, and what the turn did.

-- the lwp leaves the call with its result, or sleeps in it since some moment; where the call ended it, it is as it was
unfoldable pub call_moved : Request → Performed → TracedLwp → TracedLwp
call_moved r (Done result) = moved traced (leaves r.call r.args result)
call_moved r Sleep = moved traced (sleeps r.call r.args r.since)
call_moved r Ended = λ l. l

abbrev pub call_made : Bool → Sysno → Performed → Made
call_made woken call (Done result) = at_point (finished woken call result) (Exit call)
call_made woken call Sleep = quiet (Slept call)
call_made woken call Ended = quiet (finished woken call res.Ended)

-- whether it stops, where the exit from the call is traced or not
abbrev pub call_stops : Bool → Performed → Bool
call_stops on (Done result) = on
call_stops on Sleep = false
call_stops on Ended = false

-- a call that the next turn performs is the one that its lwp makes
abbrev pub Asks : ℕ → ℕ → ℕ → TracedLwp → NextTurn → Type 0
Asks clock pid id l (ThisRow next) = Unit {0}
Asks clock pid id l (Performs woken call args since) =
    request_in clock pid id l l.phase ≡ Some (record { pid = pid; lwp = id; since = since; call = call; args = args })

-- ---- memory

-- Whether a row of the turn table may take memory: that of an instruction where it stores bytes, that of a call where
-- this may.
unfoldable pub row_takes : Row → Bool
row_takes row = of row.did
  where
    of_call : Sysno → Res → Bool
    of_call call result = takes_memory call (does result row.transition.changes)

    of : Did → Bool
    of Ran = list_any is_store row.transition.changes
    of (Faulted f) = list_any is_store row.transition.changes
    of (MadeCall call result) = of_call call result
    of (Woke call result) = of_call call result
    of _ = false

-- whether the next turn of an lwp may take memory
module _ (s : TracedSystem) (pid id : ℕ) where
  abbrev pub lwp_takes : TracedProcess → Option TracedLwp → Bool
  lwp_takes p None = false
  lwp_takes p (Some l) = row_takes (row_for s pid p id l)

  abbrev pub process_takes : Option TracedProcess → Bool
  process_takes None = false
  process_takes (Some p) = lwp_takes p (lwp_of p id)

  unfoldable pub may_take_memory : Bool
  may_take_memory = process_takes (live_process s pid)
