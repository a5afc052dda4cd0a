use Rattle.std.specs.Prelude.{◌==◌, ◌||◌, ◌+◌, ◌-◌, ◌^◌, ℕ, Bool, true, false, not, List, Option, Some, None, Result, Ok, Err, is_ok, length, nat_le, if◌then◌else◌}
use Rattle.std.specs.List.{list_all}
use Rattle.pr_num.specs.Agents.{agent_id}
use Rattle.pr_num.specs.ById.{inserted}
use Rattle.pr_num.specs.Sets.{minus_word, union_word, without_number}
use Rattle.pr_num.specs.Signals.{holdable_word, signal_number, signal_of_number}
use Rattle.pr_num.specs.Spaces.{bytes_for}
use Rattle.pr_num.specs.declared.errnos.Errno.{Errno}
use Rattle.pr_num.specs.declared.errnos.Errno.TheVariants.{Inval, Busy, Io, Nomem, Again}
use Rattle.pr_num.specs.declared.mappings.Area.{Area}
use Rattle.pr_num.specs.declared.mappings.BadByte.{BadByte}
use Rattle.pr_num.specs.declared.messages.Message.{Message}
use Rattle.pr_num.specs.declared.messages.Message.TheVariants.{Stop, Dstop, Wstop, Twstop, Run, Csig, Cfault, Ssig, Kill, Unkill, Shold, Strace, Sfault, Sentry, Sexit, Set, Unset, Sreg, Svaddr, Watch, Agent, Read, Write}
use Rattle.pr_num.specs.declared.signals.Sig.{Sig}
use Rattle.pr_num.specs.declared.signals.Sig.TheVariants as sig
use Rattle.pr_parts.specs.AddressSpaces.{with_bytes}
use Rattle.pr_parts.specs.WatchedAreas.{is_taken, with_area, without_area}
use Rattle.pr_model.specs.Changes.{with_space}
use Rattle.pr_model.specs.Lives.{with_this_ended, new_lwp}
use Rattle.pr_model.specs.Machines.{traced, no_marks}
use Rattle.pr_parts.specs.PendingSignals.{Pending, has_room, without_one}
use Rattle.pr_model.specs.Registers.{with_pc}
use Rattle.pr_model.specs.Running.{without_current, without_fault, run_lwp, lwp_run_refused, run_refused, with_run}
use Rattle.pr_num.specs.Infos.{by_controller}
use Rattle.pr_num.specs.Limits.{area_limit, lwp_limit, signal_count, all_signals}
use Rattle.pr_model.specs.Signals.{generated, is_kill}
use Rattle.pr_model.specs.Readers.{has_lent, space_seen}
use Rattle.pr_model.specs.State.{TracedSystem, TracedControl, TracedProcess, TracedLwp, has_agent, lwp_of, with_lwp, with_process}
use Rattle.pr_model.specs.Stops.{directed, has_event_stop, representative, shown, with_all_directed}
use Rattle.pr_model.specs.declared.calls.Reply.{Reply}
use Rattle.pr_model.specs.declared.calls.Reply.TheVariants.{Used, Half, Bytes, Fail}
use Rattle.pr_model.specs.declared.stops.Shown.{Shown}
use Rattle.pr_model.specs.declared.stops.Shown.TheVariants.{Event, Suspended, JobControl}
use Rattle.pr_model.specs.declared.stops.Stop.TheVariants.{Requested}

-- What a control message does that a live process takes, a row a message (proc(4), "CONTROL MESSAGES").

-- a system, and the reply to the message that led to it
pub record Controlled : Type 0 where
  pub system : TracedSystem
  pub reply : Reply

-- a message refused: nothing changes
abbrev pub refused : TracedSystem → Errno → Controlled
refused s e = record { system = s; reply = Fail e }

-- what a message acts on: through the file of an lwp that lwp, and through the file of a process the process, or its
-- representative lwp
pub data Aim : Type 0 where
  at_lwp : ℕ → Aim
  at_process : Aim

-- ---- what messages make of lwps

-- another current signal, which no other is given up for
abbrev pub with_current : Option Sig → TracedLwp → TracedLwp
with_current None l = without_current l
with_current (Some s) l = record l { current = Some (record { signal = s; info = by_controller }) }

unfoldable pub with_signal_set : Option Sig → TracedLwp → TracedLwp
with_signal_set signal l = with_current signal l

unfoldable pub lwp_without_one : Sig → TracedLwp → TracedLwp
lwp_without_one s l = record l { pending = without_one s l.pending }

unfoldable pub with_held_set : ℕ → TracedLwp → TracedLwp
with_held_set signals l = record l { held = holdable_word signals }

unfoldable pub with_registers : List ℕ → TracedLwp → TracedLwp
with_registers regs l = record l { regs = regs }

unfoldable pub with_address : ℕ → TracedLwp → TracedLwp
with_address pc l = record l { regs = with_pc pc l.regs }

-- ---- what messages make of what is set on a process

unfoldable pub with_control : (TracedControl → TracedControl) → TracedProcess → TracedProcess
with_control change p = record p { control = change p.control }

-- SIGKILL is never traced
unfoldable pub tracing_signals : ℕ → TracedControl → TracedControl
tracing_signals signals c = record c { traced_signals = without_number signals (signal_number sig.Kill) }

unfoldable pub tracing_faults : ℕ → TracedControl → TracedControl
tracing_faults faults c = record c { traced_faults = faults }

unfoldable pub tracing_entries : ℕ → TracedControl → TracedControl
tracing_entries calls c = record c { traced_entries = calls }

unfoldable pub tracing_exits : ℕ → TracedControl → TracedControl
tracing_exits calls c = record c { traced_exits = calls }

unfoldable pub with_modes : ℕ → TracedControl → TracedControl
with_modes modes c = record c { modes = union_word c.modes modes }

unfoldable pub without_modes : ℕ → TracedControl → TracedControl
without_modes modes c = record c { modes = minus_word c.modes modes }

unfoldable pub with_areas : List Area → TracedControl → TracedControl
with_areas areas c = record c { areas = areas }

-- ---- the agent

-- whether an lwp lets an agent be made: it is stopped on an event of interest or suspended, or is stopped by job
-- control and directed to stop
abbrev pub lets_agent_by : TracedLwp → Option Shown → Bool
lets_agent_by l None = false
lets_agent_by l (Some (Event stop)) = true
lets_agent_by l (Some Suspended) = true
lets_agent_by l (Some (JobControl s)) = l.control.directed

unfoldable pub lets_agent : Option Sig → ℕ × TracedLwp → Bool
lets_agent job e = lets_agent_by e.1 (shown job e.1)

-- an agent begins in its program with these registers, stopped as requested, and holds every signal that can be held
unfoldable pub agent_lwp : List ℕ → TracedLwp
agent_lwp regs = new_lwp traced regs (holdable_word all_signals) (record (no_marks false) { stop = Some Requested })

unfoldable pub with_agent : List ℕ → TracedProcess → TracedProcess
with_agent regs p = record p { lwps = inserted agent_id (agent_lwp regs) p.lwps }

-- ---- the rows

module _ (s : TracedSystem) (pid : ℕ) (p : TracedProcess) where
  -- a message that changes the process alone, and one that changes an lwp of it alone
  abbrev pub with_process_changed : ℕ → (TracedProcess → TracedProcess) → Controlled
  with_process_changed len change = record { system = with_process pid change s; reply = Used len }

  abbrev pub with_set : ℕ → (TracedControl → TracedControl) → Controlled
  with_set len change = with_process_changed len (with_control change)

  abbrev pub on_found : ℕ → (TracedLwp → TracedLwp) → Option (ℕ × TracedLwp) → Controlled
  on_found len change None = record { system = s; reply = Used len }
  on_found len change (Some e) = with_process_changed len (with_lwp e.0 change)

  -- the lwp that a message acts on, with its id
  abbrev pub found_at : ℕ → Option TracedLwp → Option (ℕ × TracedLwp)
  found_at id None = None
  found_at id (Some l) = Some (id, l)

  unfoldable pub aimed_lwp : Aim → Option (ℕ × TracedLwp)
  aimed_lwp (at_lwp id) = found_at id (lwp_of p id)
  aimed_lwp at_process = representative p

  abbrev pub on_lwp : Aim → ℕ → (TracedLwp → TracedLwp) → Controlled
  on_lwp aim len change = on_found len change (aimed_lwp aim)

  -- the same, refused unless that lwp is stopped on an event of interest
  abbrev pub on_stopped_found : ℕ → (TracedLwp → TracedLwp) → Option (ℕ × TracedLwp) → Controlled
  on_stopped_found len change None = refused s Busy
  on_stopped_found len change (Some e) =
      if has_event_stop e.1 then with_process_changed len (with_lwp e.0 change) else refused s Busy

  abbrev pub on_stopped : Aim → ℕ → (TracedLwp → TracedLwp) → Controlled
  on_stopped aim len change = on_stopped_found len change (aimed_lwp aim)

  -- PCDSTOP directs an lwp, or every lwp of the process
  unfoldable pub with_aim_directed : Aim → TracedSystem
  with_aim_directed (at_lwp id) = with_process pid (with_lwp id directed) s
  with_aim_directed at_process = with_process pid with_all_directed s

  -- PCRUN
  abbrev pub run_found : ℕ → ℕ → Option (ℕ × TracedLwp) → Controlled
  run_found flags len None = refused s Busy
  run_found flags len (Some e) =
      if lwp_run_refused p e.0 e.1 then refused s Busy else with_process_changed len (with_lwp e.0 (run_lwp flags))

  unfoldable pub run_answer : Aim → ℕ → ℕ → Controlled
  run_answer (at_lwp id) flags len = run_found flags len (found_at id (lwp_of p id))
  run_answer at_process flags len = if run_refused p then refused s Busy else with_process_changed len (with_run flags)

  -- the process ends as by SIGKILL
  unfoldable pub killed : ℕ → Controlled
  killed len = record { system = with_this_ended traced pid p (signal_number sig.Kill) s; reply = Used len }

  -- PCSSIG: signal 0 clears the current signal, and SIGKILL ends the process
  abbrev pub is_kill_of : Option Sig → Bool
  is_kill_of None = false
  is_kill_of (Some g) = is_kill g

  unfoldable pub ssig_answer : Aim → ℕ → ℕ → Controlled
  ssig_answer aim number len =
      if is_kill_of (signal_of_number number) then killed len else on_lwp aim len
      (with_signal_set (signal_of_number number))

  -- PCKILL: EAGAIN where the signal has no room in the queue of the process, or of the lwp
  abbrev pub target_of_aim : Aim → Option ℕ
  target_of_aim (at_lwp id) = Some id
  target_of_aim at_process = None

  abbrev pub pending_of_found : Option TracedLwp → Pending
  pending_of_found None = p.pending
  pending_of_found (Some l) = l.pending

  abbrev pub pending_at : Aim → Pending
  pending_at (at_lwp id) = pending_of_found (lwp_of p id)
  pending_at at_process = p.pending

  abbrev pub kill_by : Aim → ℕ → Option Sig → Controlled
  kill_by aim len None = record { system = s; reply = Used len }
  kill_by aim len (Some g) =
      if has_room g (pending_at aim)
      then record { system = generated traced pid (target_of_aim aim) g by_controller s; reply = Used len }
      else refused s Again

  unfoldable pub kill_answer : Aim → ℕ → ℕ → Controlled
  kill_answer aim number len = kill_by aim len (signal_of_number number)

  -- PCUNKILL
  unfoldable pub process_without_one : Sig → TracedProcess → TracedProcess
  process_without_one g q = record q { pending = without_one g q.pending }

  abbrev pub unkill_by : Aim → ℕ → Option Sig → Controlled
  unkill_by aim len None = record { system = s; reply = Used len }
  unkill_by (at_lwp id) len (Some g) = with_process_changed len (with_lwp id (lwp_without_one g))
  unkill_by at_process len (Some g) = with_process_changed len (process_without_one g)

  unfoldable pub unkill_answer : Aim → ℕ → ℕ → Controlled
  unkill_answer aim number len = unkill_by aim len (signal_of_number number)

  -- PCWATCH: flags 0 clear the area that begins there. EINVAL: the area overlaps one; ENOMEM: 64 areas stand.
  unfoldable pub watch_answer : ℕ → ℕ → ℕ → ℕ → Controlled
  watch_answer at size flags len =
      if flags == 0 then with_set len (with_areas (without_area at p.control.areas))
      else (if is_taken at size p.control.areas then refused s Inval
      else (if nat_le area_limit (length p.control.areas) then refused s Nomem
      else with_set len (with_areas (with_area (record { at = at; size = size; flags = flags }) p.control.areas))))

  -- PCAGENT. EBUSY: there is one, or an lwp is not stopped; ENOMEM: 64 lwps stand.
  unfoldable pub agent_answer : List ℕ → ℕ → Controlled
  agent_answer regs len =
      if has_agent p || not (list_all (lets_agent p.job_stop) p.lwps) then refused s Busy
      else (if nat_le lwp_limit (length p.lwps) then refused s Nomem
      else with_process_changed len (with_agent regs))

  -- PCREAD, whatever the protection. EIO: not all of the bytes are mapped.
  abbrev pub read_of : Result (List ℕ) BadByte → Controlled
  read_of (Err bad) = refused s Io
  read_of (Ok bytes) = record { system = s; reply = Bytes bytes }

  -- a range that wraps at 2^64 is not mapped
  abbrev pub mapped_bytes : ℕ → ℕ → Result (List ℕ) BadByte
  mapped_bytes at size = bytes_for 0 (space_seen s p) at size

  unfoldable pub read_answer : ℕ → ℕ → Controlled
  read_answer at size = read_of (mapped_bytes at size)

  -- PCWRITE, whatever the protection. EIO: not all of the range is mapped.
  unfoldable pub write_answer : ℕ → List ℕ → ℕ → Controlled
  write_answer at bytes len =
      if is_ok (bytes_for 0 p.space at (length bytes)) then with_process_changed len
      (with_space (with_bytes at bytes p.space))
      else refused s Io

  -- EBUSY: the process has lent its memory (vfork(2)). Nobody writes, watches or gets an agent there until it is back.
  abbrev pub unless_lent : Controlled → Controlled
  unless_lent answer = if has_lent p then refused s Busy else answer

  -- the moment at which a wait of so many milliseconds ends; 0 sets no end
  abbrev pub wait_end : ℕ → ℕ
  wait_end ms = if ms == 0 then 0 else s.clock + ms

  -- What a message does that is encoded in so many bytes, of which those to write stand after its operands. PCSTOP,
  -- PCWSTOP and PCTWSTOP go on with a wait.
  unfoldable pub message_answer : Aim → Message → List ℕ → ℕ → Controlled
  message_answer aim Stop tail len = record { system = with_aim_directed aim; reply = Half 0 }
  message_answer aim Dstop tail len = record { system = with_aim_directed aim; reply = Used len }
  message_answer aim Wstop tail len = record { system = s; reply = Half 0 }
  message_answer aim (Twstop ms) tail len = record { system = s; reply = Half (wait_end ms) }
  message_answer aim (Run flags) tail len = run_answer aim flags len
  message_answer aim Csig tail len = on_lwp aim len without_current
  message_answer aim Cfault tail len = on_lwp aim len without_fault
  message_answer aim (Ssig number) tail len = ssig_answer aim number len
  message_answer aim (Kill number) tail len = kill_answer aim number len
  message_answer aim (Unkill number) tail len = unkill_answer aim number len
  message_answer aim (Shold signals) tail len = on_lwp aim len (with_held_set signals)
  message_answer aim (Strace signals) tail len = with_set len (tracing_signals signals)
  message_answer aim (Sfault faults) tail len = with_set len (tracing_faults faults)
  message_answer aim (Sentry calls) tail len = with_set len (tracing_entries calls)
  message_answer aim (Sexit calls) tail len = with_set len (tracing_exits calls)
  message_answer aim (Set modes) tail len = with_set len (with_modes modes)
  message_answer aim (Unset modes) tail len = with_set len (without_modes modes)
  message_answer aim (Sreg regs) tail len = on_stopped aim len (with_registers regs)
  message_answer aim (Svaddr pc) tail len = on_stopped aim len (with_address pc)
  message_answer aim (Watch at size flags) tail len = unless_lent (watch_answer at size flags len)
  message_answer aim (Agent regs) tail len = unless_lent (agent_answer regs len)
  message_answer aim (Read at size) tail len = read_answer at size
  message_answer aim (Write at size) tail len = unless_lent (write_answer at tail len)
