use Rattle.std.proofs.Common.{◌≡◌, ◌||◌, ℕ, Bool, true, false, not, is_none, is_some, eqb, leb, ltb, cond, Option, Some, None, Result, Ok, Err, List, length, refl, subst, ap}
use Rattle.std.specs.List.{find, list_all, position}
use Rattle.std.specs.Option.{option_map}
use Rattle.std.proofs.lemmas.Bool.{eqb-false, ltb-true}
use Rattle.std.proofs.lemmas.Option.{cond_some, none-some}
use Rattle.std.specs.Prelude.{slice_set}
use Rattle.pr_num.specs.Control.{has_flags, rlc_mode, klc_mode}
use Rattle.pr_num.specs.Infos.{killed_by}
use Rattle.pr_num.specs.Limits.{controller_limit, handle_limit}
use Rattle.pr_num.specs.Messages.{first_message}
use Rattle.pr_num.specs.Programs.{Program}
use Rattle.pr_num.specs.declared.errnos.Errno.{Errno}
use Rattle.pr_num.specs.declared.errnos.Errno.TheVariants.{Intr}
use Rattle.pr_num.specs.declared.messages.Message.{Message}
use Rattle.pr_num.specs.declared.messages.MsgFault.{MsgFault}
use Rattle.pr_model.specs.Calls.{Answer, opened, open_unless, open_answer, close_held, close_answer, is_interrupted, controlled, waited, is_open_by, is_polled_ready, ready_answer, poll_answer, until_answer, interrupt_answer, spawn_unless, spawn_found, spawn_answer, kill_answer, answer_to}
use Rattle.pr_model.specs.ControlMessages.{still_there, target_of, aim_of, control_handle, tail_of, decoded_answer, targeted_answer, held_answer, control_answer, wait_reply}
use Rattle.pr_model.specs.Handles.{after_last_close, handle_of, is_control, is_of_lwp, open_refusal, was_last_writer, with_closed, with_last_close}
use Rattle.pr_model.specs.ProcessCalls.{program_named}
use Rattle.pr_model.specs.Readers.{life_of}
use Rattle.pr_model.specs.SignalCalls.{Sending, refuses, sends_nothing, sends, sending, with_sent}
use Rattle.pr_model.specs.Machines.{traced}
use Rattle.pr_model.specs.Messages.{Controlled}
use Rattle.pr_model.specs.Spawning.{spawn_refusal}
use Rattle.pr_model.specs.State.{TracedProcess, TracedState, TracedSystem, live_process, lwp_of}
use Rattle.pr_model.specs.declared.calls.Call.{Call}
use Rattle.pr_model.specs.declared.calls.Call.TheVariants as call
use Rattle.pr_model.specs.declared.calls.File.{File}
use Rattle.pr_model.specs.declared.calls.Mode.{Mode}
use Rattle.pr_model.specs.declared.calls.Reply.{Reply}
use Rattle.pr_model.specs.declared.calls.Reply.TheVariants.{Fail}
use Rattle.pr_model.specs.declared.handles.Held.{Held}
use Rattle.pr_keeps.specs.CallEdits as edit
use Rattle.pr_keeps.specs.CallEdits.{CallEdit, CloseEdit}
use Rattle.pr_keeps.proofs.KeepsLemmas.{choice}
use Rattle.pr_keeps.proofs.MessageLemmas.{message-edit}

-- Each call of a controller makes one of its edits: a line a call.

-- ---- the last close for writing

pub close-edit : (s : TracedState) (handle : ℕ) (h : Held) → CloseEdit s.system h.pid (with_closed h handle s).system
unfolding with_closed with_last_close
close-edit s handle h =
    choice Closes (was_last_writer h (slice_set s.opens handle None)) _ _
    (λ last. of (live_process s.system h.pid) refl) (λ others. edit.nothing)
  where
    Closes : TracedSystem → Type 0
    Closes t = CloseEdit s.system h.pid t

    of : (o : Option TracedProcess) → live_process s.system h.pid ≡ o → Closes (after_last_close h.pid o s.system)
    of None is = edit.nothing
    of (Some p) is =
        choice Closes (has_flags p.control.modes klc_mode) _ _ (λ kills. edit.kills p is kills) (λ spares.
        choice Closes (has_flags p.control.modes rlc_mode) _ _ (λ releases. edit.releases p is spares releases)
        (λ stays. edit.nothing))

module _ (s : TracedState) (by : ℕ) where
  -- what comes of a call, if anything does, is an edit
  abbrev IsEdit : Call → Option Answer → Type 0
  IsEdit c None = Unit {0}
  IsEdit c (Some a) = CallEdit s by c a.state

  abbrev Makes : Call → Answer → Type 0
  Makes c a = CallEdit s by c a.state

  -- ---- opens and closes

  open-edit : (pid id : ℕ) (file : File) (mode : Mode)
      → Makes (call.Open pid id file mode) (open_answer s by pid id file mode)
  unfolding open_answer
  open-edit pid id file mode = of (open_refusal s pid id file mode) refl
    where
      held : Held
      held = record { controller = by; pid = pid; lwp = id; file = file; mode = mode }

      at : (o : Option ℕ) → position is_none s.opens ≡ o → open_refusal s pid id file mode ≡ None
          → Makes (call.Open pid id file mode) (opened s held o)
      at None full grants = edit.looks
      at (Some place) free grants = edit.opens free grants

      of : (o : Option Errno) → open_refusal s pid id file mode ≡ o
          → Makes (call.Open pid id file mode) (open_unless s held o)
      of (Some e) is = edit.looks
      of None is = at (position is_none s.opens) refl is

  close-made : (handle : ℕ) → Makes (call.Close handle) (close_answer s by handle)
  unfolding close_answer
  close-made handle = of (handle_of s.opens by handle) refl
    where
      of : (o : Option Held) → handle_of s.opens by handle ≡ o → Makes (call.Close handle) (close_held s handle o)
      of None is = edit.looks
      of (Some held) is = edit.closes is

  -- ---- control messages

  -- the process that a handle acts on
  target-found : (held : Held) (p : TracedProcess) → target_of s.system held ≡ Some p
      → live_process s.system held.pid ≡ Some p
  unfolding target_of
  target-found held p is = of (live_process s.system held.pid) is
    where
      of : (o : Option TracedProcess) → still_there held o ≡ Some p → o ≡ Some p
      of None there = absurd (none-some p there)
      of (Some q) there =
          ap (λ (x : TracedProcess). Some x)
          (cond_some (not (is_of_lwp held.file) || is_some (lwp_of q held.lwp)) q p there).1

  ctl-edit : (handle : ℕ) (bytes : List ℕ)
      → Makes (call.Ctl handle bytes) (controlled s (control_answer s.system s.opens by handle bytes))
  unfolding control_answer
  ctl-edit handle bytes = of (handle_of s.opens by handle) refl
    where
      Does : Controlled → Type 0
      Does c = Makes (call.Ctl handle bytes) (controlled s c)

      read : (held : Held) (p : TracedProcess) → handle_of s.opens by handle ≡ Some held → is_control held.file ≡ true
          → target_of s.system held ≡ Some p → (r : Result (Message × ℕ) MsgFault) → first_message bytes ≡ r
          → Does (decoded_answer s.system held p bytes r)
      read held p at writes target (Err fault) is = edit.looks
      read held p at writes target (Ok (m, len)) is =
          choice Does (eqb held.pid 0) _ _ (λ system. edit.looks) (λ user.
          edit.controls
          (record {
            handle_is = at;
            controls = writes;
            target = target;
            live = target-found held p target;
            user = eqb-false held.pid 0 user;
            length = len;
            read = is;
          })
          (message-edit s.system held.pid p (tail_of m bytes) len (aim_of held) m))

      to : (held : Held) → handle_of s.opens by handle ≡ Some held → is_control held.file ≡ true
          → (o : Option TracedProcess) → target_of s.system held ≡ o → Does (targeted_answer s.system held o bytes)
      to held at writes None is = edit.looks
      to held at writes (Some p) is = read held p at writes is (first_message bytes) refl

      control : (held : Held) (b : Bool) → handle_of s.opens by handle ≡ Some held → is_control held.file ≡ b
          → Does (held_answer s.system (cond b (Some held) None) bytes)
      control held false at other = edit.looks
      control held true at writes = to held at writes (target_of s.system held) refl

      of : (o : Option Held) → handle_of s.opens by handle ≡ o → Does (held_answer s.system (control_handle o) bytes)
      of None is = edit.looks
      of (Some held) is = control held (is_control held.file) is refl

  -- ---- waits

  failed-edit : (c : Call) (e : Errno) → Makes c (waited s by (Fail e))
  failed-edit c Intr = edit.sees_interrupt
  failed-edit c _ = edit.looks

  waited-edit : (c : Call) (reply : Reply) → Makes c (waited s by reply)
  waited-edit c (Fail e) = failed-edit c e
  waited-edit c _ = edit.looks

  wait-edit : (c : Call) (o : Option Reply) → IsEdit c (option_map (waited s by) o)
  wait-edit c None = tt
  wait-edit c (Some reply) = waited-edit c reply

  ready-edit : (c : Call) (o : Option ℕ) → IsEdit c (ready_answer s o)
  ready-edit c None = tt
  ready-edit c (Some handle) = edit.looks

  poll-edit : (handles : List ℕ) → IsEdit (call.Poll handles) (poll_answer s by handles)
  unfolding poll_answer
  poll-edit handles =
      let poll = call.Poll handles in
      choice (IsEdit poll) (not (list_all (is_open_by s.opens by) handles)) _ _ (λ closed. edit.looks) (λ open_all.
      choice (IsEdit poll) (eqb (length handles) 0 || ltb handle_limit (length handles)) _ _ (λ wrong. edit.looks)
      (λ right.
      choice (IsEdit poll) (is_interrupted s by) _ _ (λ interrupted. edit.sees_interrupt)
      (λ calm. ready-edit poll (find (is_polled_ready s by) handles))))

  until-edit : (moment : ℕ) → IsEdit (call.Until moment) (until_answer s by moment)
  unfolding until_answer
  until-edit moment =
      choice (IsEdit (call.Until moment)) (is_interrupted s by) _ _ (λ interrupted. edit.sees_interrupt) (λ calm.
      choice (IsEdit (call.Until moment)) (leb moment s.system.clock) _ _ (λ now. edit.looks) (λ later. tt))

  interrupt-edit : (other : ℕ) → Makes (call.Interrupt other) (interrupt_answer s other)
  unfolding interrupt_answer
  interrupt-edit other =
      choice (Makes (call.Interrupt other)) (ltb other controller_limit) _ _
      (λ there. edit.interrupts (ltb-true other controller_limit there)) (λ none. edit.looks)

  -- ---- what comes from outside

  spawn-edit : (name : List ℕ) (held : Bool) → Makes (call.Spawn name held) (spawn_answer s name held)
  unfolding spawn_answer
  spawn-edit name held = of (program_named s.system.programs name) refl
    where
      unless : (program : Program) → program_named s.system.programs name ≡ Some program → (o : Option Errno)
          → spawn_refusal s.system program ≡ o → Makes (call.Spawn name held) (spawn_unless s program held o)
      unless program named (Some e) is = edit.looks
      unless program named None is = edit.spawns named is

      of : (o : Option Program) → program_named s.system.programs name ≡ o
          → Makes (call.Spawn name held) (spawn_found s held o)
      of None is = edit.looks
      of (Some program) is = unless program is (spawn_refusal s.system program) refl

  kill-edit : (pid number : ℕ) → Makes (call.Kill pid number) (kill_answer s pid number)
  unfolding kill_answer with_sent
  kill-edit pid number = of (sending pid number (life_of s.system pid)) refl
    where
      of : (x : Sending) → sending pid number (life_of s.system pid) ≡ x
          → CallEdit s by (call.Kill pid number) (record s { system = with_sent traced pid (killed_by 0) x s.system })
      of (refuses e) is = edit.looks
      of sends_nothing is = edit.looks
      of (sends g) is = edit.sends is

  -- ---- the calls

  answer-edit : (c : Call) → IsEdit c (answer_to s by c)
  unfolding answer_to
  answer-edit (call.Open pid id file mode) = open-edit pid id file mode
  answer-edit (call.Close handle) = close-made handle
  answer-edit (call.Ctl handle bytes) = ctl-edit handle bytes
  answer-edit (call.CtlWait handle until bytes) =
      wait-edit (call.CtlWait handle until bytes)
      (wait_reply s.system s.opens by handle until (is_interrupted s by) bytes)
  answer-edit (call.Read handle from len) = edit.looks
  answer-edit (call.Poll handles) = poll-edit handles
  answer-edit (call.Interrupt other) = interrupt-edit other
  answer-edit (call.Spawn name held) = spawn-edit name held
  answer-edit (call.Kill pid sig) = kill-edit pid sig
  answer-edit (call.Until moment) = until-edit moment
  answer-edit call.List = edit.looks

  pub call-edit : (c : Call) (a : Answer) → answer_to s by c ≡ Some a → CallEdit s by c a.state
  call-edit c a is = subst (IsEdit c) is (answer-edit c)
