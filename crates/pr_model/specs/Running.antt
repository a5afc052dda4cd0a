use Rattle.std.specs.Prelude.{◌==◌, ◌&&◌, ◌||◌, ℕ, Bool, true, false, not, List, Option, Some, None, if◌then◌else◌}
use Rattle.std.specs.List.{list_all}
use Rattle.pr_num.specs.Agents.{agent_id}
use Rattle.pr_num.specs.Control.{has_flags, clear_signal, clear_fault, single_step, abort_call, stop_again}
use Rattle.pr_num.specs.declared.signals.Sig.{Sig}
use Rattle.pr_num.specs.ById.{change_under, map_each}
use Rattle.pr_model.specs.State.{TracedProcess, TracedLwp, has_agent, with_lwp}
use Rattle.pr_model.specs.Stops.{shown, has_event_stop, representative}
use Rattle.pr_model.specs.declared.lwps.Phase.{Phase}
use Rattle.pr_model.specs.declared.lwps.Phase.TheVariants.{User, Asleep, Faulted as AtFault}
use Rattle.pr_model.specs.declared.stops.Stop.{Stop}
use Rattle.pr_model.specs.declared.stops.Stop.TheVariants.{Requested, Signalled, SysEntry, SysExit, Faulted}
use Rattle.pr_model.specs.declared.stops.Shown.{Shown}
use Rattle.pr_model.specs.declared.stops.Shown.TheVariants.{Event, Suspended, JobControl}

-- PCRUN, on one lwp and on a whole process (proc(4), "PCRUN").

-- ---- what run flags do to an lwp

-- its current signal is cleared
unfoldable pub without_current : TracedLwp → TracedLwp
without_current l = record l { current = None }

-- an lwp that incurred a fault goes on, and no signal is posted
unfoldable pub without_fault : TracedLwp → TracedLwp
without_fault l = record l { phase = of l.phase }
  where
    of : Phase → Phase
    of (AtFault f address) = User
    of other = other

unfoldable pub with_step : TracedLwp → TracedLwp
with_step l = record l { control = record l.control { step = true } }

unfoldable pub with_abort : TracedLwp → TracedLwp
with_abort l = record l { control = record l.control { abort = true } }

unfoldable pub with_directive : TracedLwp → TracedLwp
with_directive l = record l { control = record l.control { directed = true } }

unfoldable pub without_directive : TracedLwp → TracedLwp
without_directive l = record l { control = record l.control { directed = false } }

-- it stands still no more, and is not directed to stop
unfoldable pub let_go : TracedLwp → TracedLwp
let_go l = record l { control = record l.control { stop = None; directed = false } }

-- a call can be aborted at its entry, and while its lwp is asleep in it
abbrev pub is_entry_stop : Option Stop → Bool
is_entry_stop (Some (SysEntry c)) = true
is_entry_stop _ = false

abbrev pub is_asleep : Phase → Bool
is_asleep (Asleep call args since) = true
is_asleep _ = false

-- what a flag asks for, where it is set
abbrev pub if_flag : ℕ → ℕ → (TracedLwp → TracedLwp) → TracedLwp → TracedLwp
if_flag flags flag change l = if has_flags flags flag then change l else l

-- the abort of a call, where an lwp stood on this event or on none
abbrev pub with_abort_from : Option Stop → TracedLwp → TracedLwp
with_abort_from stop l = if is_entry_stop stop || is_asleep l.phase then with_abort l else l

-- PRCSIG and PRCFAULT, and PRSABORT by the stop as it was
unfoldable pub with_cleared : ℕ → TracedLwp → TracedLwp
with_cleared flags l = if_flag flags clear_fault without_fault (if_flag flags clear_signal without_current l)

unfoldable pub with_aborted : ℕ → Option Stop → TracedLwp → TracedLwp
with_aborted flags stop l = if_flag flags abort_call (with_abort_from stop) l

-- PCRUN on an lwp: its stop is noted and ends, and its directive; then the flags act in the order PRCSIG, PRCFAULT,
-- PRSTEP, PRSABORT, PRSTOP.
unfoldable pub run_lwp : ℕ → TracedLwp → TracedLwp
run_lwp flags l =
    if_flag flags stop_again with_directive
    (with_aborted flags l.control.stop
    (if_flag flags single_step with_step
    (with_cleared flags (let_go l))))

-- ---- what refuses it

-- whether an lwp, if there is one, is stopped on an event of interest or directed to stop
abbrev pub stops_or_will : Option TracedLwp → Bool
stops_or_will None = false
stops_or_will (Some l) = has_event_stop l || l.control.directed

abbrev pub found_stops_or_will : Option (ℕ × TracedLwp) → Bool
found_stops_or_will None = false
found_stops_or_will (Some e) = stops_or_will (Some e.1)

-- PCRUN on an lwp is refused while there is an agent that it is not, and where it is neither stopped nor directed.
unfoldable pub lwp_run_refused : TracedProcess → ℕ → TracedLwp → Bool
lwp_run_refused p id l = (has_agent p && not (id == agent_id)) || not (stops_or_will (Some l))

-- PCRUN on a process is refused while there is an agent, and where the representative is neither stopped nor directed.
unfoldable pub run_refused : TracedProcess → Bool
run_refused p = has_agent p || not (found_stops_or_will (representative p))

-- ---- PCRUN on a process

-- whether a stop was requested
abbrev pub is_request : Stop → Bool
is_request Requested = true
is_request (Signalled s) = false
is_request (SysEntry c) = false
is_request (SysExit c) = false
is_request (Faulted f) = false

-- whether what is shown lets the whole process run: a requested stop, or a suspension
abbrev pub lets_run : Option Shown → Bool
lets_run (Some (Event stop)) = is_request stop
lets_run (Some Suspended) = true
lets_run (Some (JobControl s)) = false
lets_run None = false

abbrev pub shows_run : Option Sig → ℕ × TracedLwp → Bool
shows_run job e = lets_run (shown job e.1)

-- whether a stop, if there is one, was requested
abbrev pub was_requested : Option Stop → Bool
was_requested None = false
was_requested (Some stop) = is_request stop

-- the stop of an lwp on an event of interest is a requested one from now on
unfoldable pub with_request : TracedLwp → TracedLwp
with_request l = if has_event_stop l then record l { control = record l.control { stop = Some Requested } } else l

-- a requested stop is over
unfoldable pub without_request : TracedLwp → TracedLwp
without_request l = if was_requested l.control.stop then record l { control = record l.control { stop = None } } else l

-- Where every lwp shows a requested stop or a suspension, all requested stops are over.
unfoldable pub if_all_requested : Option Sig → List (ℕ × TracedLwp) → List (ℕ × TracedLwp)
if_all_requested job lwps = if list_all (shows_run job) lwps then map_each without_request lwps else lwps

-- PRCSIG, PRCFAULT and PRSABORT act on the representative
unfoldable pub with_flags_on : ℕ → TracedLwp → TracedLwp
with_flags_on flags l = with_aborted flags l.control.stop (with_cleared flags l)

-- All directives are cleared, and the representative's stop becomes a requested one.
abbrev pub with_representative_run : ℕ → Option (ℕ × TracedLwp) → List (ℕ × TracedLwp) → List (ℕ × TracedLwp)
with_representative_run flags None lwps = map_each without_directive lwps
with_representative_run flags (Some r) lwps =
    change_under r.0 with_request (map_each without_directive (change_under r.0 (with_flags_on flags) lwps))

-- without PRSTEP and PRSTOP
unfoldable pub with_all_run : ℕ → TracedProcess → TracedProcess
with_all_run flags p =
    record p { lwps = if_all_requested p.job_stop (with_representative_run flags (representative p) p.lwps) }

-- with one of them it is PCRUN on the representative
abbrev pub with_one_run : ℕ → Option (ℕ × TracedLwp) → TracedProcess → TracedProcess
with_one_run flags None p = p
with_one_run flags (Some r) p = with_lwp r.0 (run_lwp flags) p

-- whether flags ask for one lwp alone
abbrev pub runs_one : ℕ → Bool
runs_one flags = has_flags flags single_step || has_flags flags stop_again

-- PCRUN on a process
unfoldable pub with_run : ℕ → TracedProcess → TracedProcess
with_run flags p = if runs_one flags then with_one_run flags (representative p) p else with_all_run flags p
