use Rattle.std.specs.Prelude.{◌≡◌, ℕ, true, false, List, [], ◌∷◌, ◌++◌, Some}
use Rattle.std.specs.List.{All}
use Rattle.pr_api.specs.Entries.{call_entry}
use Rattle.pr_laws.specs.Runs.{IsFree, others_let_run}
use Rattle.pr_model.specs.Handles.{handle_of}
use Rattle.pr_model.specs.Legal.{state_after}
use Rattle.pr_model.specs.Running.{stops_or_will}
use Rattle.pr_model.specs.State.{TracedLwp, TracedProcess, TracedState, live_process, lwp_of}
use Rattle.pr_model.specs.Stops.{has_event_stop, representative}
use Rattle.pr_model.specs.declared.calls.Call.TheVariants as call
use Rattle.pr_model.specs.declared.calls.File.TheVariants as file
use Rattle.pr_model.specs.declared.calls.Mode.TheVariants as mode
use Rattle.pr_model.specs.declared.calls.Reply.TheVariants as reply
use Rattle.pr_model.specs.declared.events.Entry.{Entry}
use Rattle.pr_model.specs.declared.handles.Held.{Held}
use Rattle.pr_num.specs.Control.{has_flags, klc_mode, rlc_mode}
use Rattle.pr_tools.specs.Calls.{direct_bytes, run_bytes}
use Rattle.pr_truss_laws.specs.Exchanges.{exchanges}

-- What pstop(1) and prun(1) have done to their process when they have finished and were not refused.

-- ---- their calls

-- A controller has made three calls and no other: it opened the control file of a process, sent this message by the
-- handle that it got, and closed that. None was refused.
pub record SendsOne (k pid : ℕ) (bytes : List ℕ) (h : List Entry) : Type 0 where
  pub handle : ℕ
  pub used : ℕ
  pub calls : exchanges k h
      ≡ (record { call = call.Open pid 0 file.Ctl mode.Write; reply = reply.Handle handle })
      ∷ (record { call = call.Ctl handle bytes; reply = reply.Used used })
      ∷ (record { call = call.Close handle; reply = reply.Done }) ∷ []

-- ---- what becomes of the process

-- A process that was directed to stop: each lwp of it stands on an event of interest, or is directed to stop.
pub record IsDirected (was now : TracedProcess) : Type 0 where
  pub each : (id : ℕ) (l : TracedLwp) → lwp_of now id ≡ Some l → stops_or_will (Some l) ≡ true

-- A process that was set going: no lwp of it is directed to stop any more. Where its representative lwp stood on an
-- event of interest, and each other one showed a requested stop or was suspended, none stands on an event any more.
pub record IsSetGoing (was now : TracedProcess) : Type 0 where
  pub undirected : (id : ℕ) (l : TracedLwp) → lwp_of now id ≡ Some l → l.control.directed ≡ false
  pub freed : (leader : ℕ × TracedLwp) → representative was ≡ Some leader → has_event_stop leader.1 ≡ true
      → others_let_run was leader.0 ≡ true → All IsFree now.lwps

-- A controller has sent this message by a handle of the control file of a process that lived: so that was before, and
-- this became of it at once.
pub record HasSent (k pid : ℕ) (bytes : List ℕ) (Becomes : TracedProcess → TracedProcess → Type 0)
    (first : TracedState) (h : List Entry) : Type 0 where
  pub before : List Entry
  pub handle : ℕ
  pub used : ℕ
  pub after : List Entry
  pub held : Held
  pub place : h ≡ before ++ call_entry k (call.Ctl handle bytes) (reply.Used used) ∷ after
  pub there : handle_of (state_after first before).opens k handle ≡ Some held
  pub of : held.pid ≡ pid
  pub file : held.file ≡ file.Ctl
  pub was : TracedProcess
  pub lived : live_process (state_after first before).system pid ≡ Some was
  pub now : TracedProcess
  pub lives : live_process
      (state_after first (before ++ call_entry k (call.Ctl handle bytes) (reply.Used used) ∷ [])).system pid
      ≡ Some now
  pub becomes : Becomes was now

-- ---- what the close of the file does

-- nothing comes of the last close of a process (proc(4), "PR_KLC", "PR_RLC")
pub record IsClosedFreely (p : TracedProcess) : Type 0 where
  pub no_kill : has_flags p.control.modes klc_mode ≡ false
  pub no_release : has_flags p.control.modes rlc_mode ≡ false

-- A controller has closed a handle of a process. That changed nothing of the system, unless the process lived and had
-- one of these modes.
pub record HasClosed (k pid : ℕ) (first : TracedState) (h : List Entry) : Type 0 where
  pub before : List Entry
  pub handle : ℕ
  pub after : List Entry
  pub place : h ≡ before ++ call_entry k (call.Close handle) reply.Done ∷ after
  pub same : ((p : TracedProcess) → live_process (state_after first before).system pid ≡ Some p → IsClosedFreely p)
      → (state_after first (before ++ call_entry k (call.Close handle) reply.Done ∷ [])).system
      ≡ (state_after first before).system

-- ---- all of it

-- A controller has sent one message to a process.
pub record HasActed (k pid : ℕ) (bytes : List ℕ) (Becomes : TracedProcess → TracedProcess → Type 0)
    (first : TracedState) (h : List Entry) : Type 0 where
  pub calls : SendsOne k pid bytes h
  pub sent : HasSent k pid bytes Becomes first h
  pub closed : HasClosed k pid first h

-- pstop
abbrev pub StopsItsProcess : ℕ → ℕ → TracedState → List Entry → Type 0
StopsItsProcess k pid first h = HasActed k pid direct_bytes IsDirected first h

-- prun
abbrev pub RunsItsProcess : ℕ → ℕ → TracedState → List Entry → Type 0
RunsItsProcess k pid first h = HasActed k pid run_bytes IsSetGoing first h
