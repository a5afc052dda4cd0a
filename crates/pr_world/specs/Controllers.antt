use Rattle.std.specs.Prelude.{◌&&◌, ◌||◌, ℕ, Bool, false, List, [], Option, Some, None, is_none, nat_lt, option_and_then, slice_get, slice_set}
use Rattle.std.specs.List.{list_any}
use Rattle.pr_num.specs.Limits.{clock_limit}
use Rattle.pr_num.specs.Programs.{Program}
use Rattle.pr_core.specs.CoreText as gcore_text
use Rattle.pr_core.specs.Gcores as gcore
use Rattle.pr_model.specs.declared.calls.Call.{Call}
use Rattle.pr_model.specs.declared.calls.Call.TheVariants as call
use Rattle.pr_model.specs.declared.calls.Reply.{Reply}
use Rattle.pr_probe.specs.ProbeText as probe_text
use Rattle.pr_probe.specs.Probes as probe
use Rattle.pr_scen.specs.Scripts as script
use Rattle.pr_tools.specs.Tools as tool
use Rattle.pr_truss.specs.FunctionCalls as function_calls
use Rattle.pr_truss.specs.FunctionFeeding as function_replies
use Rattle.pr_truss.specs.NextCalls as truss_calls
use Rattle.pr_truss.specs.Feeding as truss_replies
use Rattle.pr_truss.specs.Printing as truss_text
use Rattle.pr_world.specs.ControllerStates.{ControllerState, Script, Truss, FnTruss, Tool, Gcore, Probe}

-- The controllers of a world. Each is a core that knows the machine by replies alone: it says which call it makes next,
-- and is fed the reply.

-- the call that a core makes next; none where it has finished
unfoldable pub next_call : ControllerState → Option Call
next_call (Script s) = script.next_call_of s
next_call (Truss t) = truss_calls.next_call_of t
next_call (FnTruss t) = function_calls.next_function_call_of t
next_call (Tool t) = tool.next_call_of t
next_call (Gcore g) = gcore.next_call_of g
next_call (Probe p) = probe.next_call_of p

-- a core that was fed the reply to its call
unfoldable pub after_reply : ControllerState → Reply → ControllerState
after_reply (Script s) r = Script (script.fed s r)
after_reply (Truss t) r = Truss (truss_replies.fed t r)
after_reply (FnTruss t) r = FnTruss (function_replies.fed_functions t r)
after_reply (Tool t) r = Tool (tool.fed t r)
after_reply (Gcore g) r = Gcore (gcore.fed g r)
after_reply (Probe p) r = Probe (probe.fed p r)

-- what a core prints at the end of a run, where the machine has these programs; a script prints nothing
unfoldable pub printed : ControllerState → List Program → List ℕ
printed (Script s) programs = []
printed (Truss t) programs = truss_text.printed t
printed (FnTruss t) programs = truss_text.printed t
printed (Tool t) programs = tool.printed t programs
printed (Gcore g) programs = gcore_text.printed g
printed (Probe p) programs = probe_text.printed p

unfoldable pub has_finished : ControllerState → Bool
has_finished c = is_none (next_call c)

-- the call that the controller of a number makes next; none where there is no such controller, or it has finished
unfoldable pub call_by : List ControllerState → ℕ → Option Call
call_by controllers k = option_and_then next_call (slice_get controllers k)

-- the controller of a number gets a reply
abbrev pub feed_at : ℕ → Reply → List ControllerState → Option ControllerState → List ControllerState
feed_at k reply controllers None = controllers
feed_at k reply controllers (Some c) = slice_set controllers k (after_reply c reply)

unfoldable pub with_fed : ℕ → Reply → List ControllerState → List ControllerState
with_fed k reply controllers = feed_at k reply controllers (slice_get controllers k)

-- ---- who waits for the clock

-- the moment at which the wait of a call ends in any case, 0 for none
abbrev pub wait_end_of : Call → ℕ
wait_end_of (call.CtlWait handle until bytes) = until
wait_end_of (call.Until moment) = moment
wait_end_of _ = 0

abbrev pub awaits_after : ℕ → Option Call → Bool
awaits_after clock None = false
awaits_after clock (Some c) = nat_lt clock (wait_end_of c)

-- whether a controller waits for a moment that is still to come, whether its wait is over for another reason or not
unfoldable pub awaits_clock : ℕ → ControllerState → Bool
awaits_clock clock c = awaits_after clock (next_call c)

-- The clock can move where an lwp or a controller waits for it: an lwp in the call sleep, or a controller.
unfoldable pub is_clock_awaited : ℕ → Bool → List ControllerState → Bool
is_clock_awaited clock sleeper controllers =
    nat_lt clock clock_limit && (sleeper || list_any (awaits_clock clock) controllers)
