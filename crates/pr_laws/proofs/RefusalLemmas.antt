use Rattle.std.proofs.Common.{◌≡◌, ◌+◌, ltb, ℕ, Bool, true, false, Option, Some, None, List, Result, Ok, Err, IfSome, refl, ap, inl, inr, subst, cond}
use Rattle.std.specs.List.{find}
use Rattle.std.specs.Option.{option_map}
use Rattle.pr_num.specs.Infos.{killed_by}
use Rattle.pr_num.specs.Limits.{controller_limit}
use Rattle.pr_num.specs.Messages.{first_message}
use Rattle.pr_num.specs.Programs.{Program}
use Rattle.pr_num.specs.Sets.{with_number}
use Rattle.pr_num.specs.declared.errnos.Errno.{Errno}
use Rattle.pr_num.specs.declared.errnos.Errno.TheVariants.{Inval, Badf, Intr}
use Rattle.pr_num.specs.declared.infos.Info.{Info}
use Rattle.pr_num.specs.declared.messages.Message.{Message}
use Rattle.pr_num.specs.declared.messages.MsgFault.{MsgFault}
use Rattle.pr_model.specs.Calls.{Answer, refused, answered, opened, open_unless, open_answer, close_held, close_answer, controlled, waited, is_interrupted, with_interrupt_seen, ready_answer, is_polled_ready, poll_answer, until_answer, interrupt_answer, spawn_unless, spawn_found, spawn_answer, sent_reply, kill_answer, answer_to}
use Rattle.pr_model.specs.ControlMessages.{aim_of, tail_of, control_handle, target_of, system_refusal, decoded_answer, targeted_answer, held_answer, control_answer, wait_reply}
use Rattle.pr_model.specs.Handles.{handle_of, open_refusal}
use Rattle.pr_model.specs.Machines.{traced}
use Rattle.pr_model.specs.Messages.{Controlled, Aim, message_answer, refused as message_refused}
use Rattle.pr_model.specs.ProcessCalls.{program_named}
use Rattle.pr_model.specs.Readers.{life_of}
use Rattle.pr_model.specs.Reads.{read_reply}
use Rattle.pr_model.specs.SignalCalls.{Sending, refuses, sends_nothing, sends, sending, with_sent}
use Rattle.pr_model.specs.Spawning.{spawn_refusal}
use Rattle.pr_model.specs.State.{TracedState, TracedSystem, TracedProcess, Places, with_system}
use Rattle.pr_model.specs.declared.calls.Call as calls
use Rattle.pr_model.specs.declared.calls.Call.TheVariants as call
use Rattle.pr_model.specs.declared.calls.Reply.{Reply}
use Rattle.pr_model.specs.declared.calls.Reply.TheVariants.{Handle, Done, Used, Half, Bytes, Pid, Ready, Fail}
use Rattle.pr_model.specs.declared.handles.Held.{Held}
use Rattle.pr_keeps.proofs.MessageLemmas.{message-answered}
use Rattle.pr_keeps.specs.MessageAnswers as answer
use Rattle.pr_keeps.specs.MessageAnswers.{MessageAnswer}
use Rattle.pr_laws.specs.Refusals.{LeavesIfRefused}

-- A control message that is refused leaves the system.
module _ (s : TracedSystem) where
  pub LeavesSystem : Controlled → Type 0
  LeavesSystem c = leaves c.reply
    where
      leaves : Reply → Type 0
      leaves (Fail e) = c.system ≡ s
      leaves _ = Unit {0}

  refusal : (e : Errno) → LeavesSystem (message_refused s e)
  unfolding LeavesSystem
  refusal e = refl

  -- either of two
  either : (b : Bool) (x y : Controlled) → LeavesSystem x → LeavesSystem y → LeavesSystem (cond b x y)
  either true x y one other = one
  either false x y one other = other

  module _ (pid : ℕ) (p : TracedProcess) (tail : List ℕ) (len : ℕ) where
    made-leaves : (m : Message) (c : Controlled) → MessageAnswer s pid p tail len m c → LeavesSystem c
    unfolding LeavesSystem
    made-leaves m c (answer.refuses with_errno) = refl
    made-leaves m c (answer.uses_up used e) = tt
    made-leaves m c (answer.goes_on waiting e) = tt
    made-leaves m c (answer.reads mapped) = tt

    message-leaves : (aim : Aim) (m : Message) → LeavesSystem (message_answer s pid p aim m tail len)
    message-leaves aim m =
        made-leaves m (message_answer s pid p aim m tail len) (message-answered s pid p tail len aim m)

  decoded-leaves : (h : Held) (p : TracedProcess) (bytes : List ℕ) (r : Result (Message × ℕ) MsgFault)
      → LeavesSystem (decoded_answer s h p bytes r)
  decoded-leaves h p bytes (Err fault) = refusal _
  decoded-leaves h p bytes (Ok m) =
      either _ _ _ (refusal (system_refusal m.0)) (message-leaves h.pid p (tail_of m.0 bytes) m.1 (aim_of h) m.0)

  targeted-leaves : (h : Held) (o : Option TracedProcess) (bytes : List ℕ) → LeavesSystem (targeted_answer s h o bytes)
  targeted-leaves h None bytes = refusal _
  targeted-leaves h (Some p) bytes = decoded-leaves h p bytes (first_message bytes)

  held-leaves : (o : Option Held) (bytes : List ℕ) → LeavesSystem (held_answer s o bytes)
  held-leaves None bytes = refusal _
  held-leaves (Some h) bytes = targeted-leaves h (target_of s h) bytes

  pub control-leaves : (opens : Places) (by handle : ℕ) (bytes : List ℕ)
      → LeavesSystem (control_answer s opens by handle bytes)
  unfolding control_answer
  control-leaves opens by handle bytes = held-leaves (control_handle (handle_of opens by handle)) bytes

-- what was refused left the system
pub refused-system : (s : TracedSystem) (c : Controlled) (e : Errno) → LeavesSystem s c → c.reply ≡ Fail e
    → c.system ≡ s
unfolding LeavesSystem
refused-system s c e leaves is = of c.reply is leaves
  where
    of : (r : Reply) → r ≡ Fail e → LeavesSystem s (record { system = c.system; reply = r }) → c.system ≡ s
    of (Fail f) is same = same
    of Done is same = cc
    of (Used len) is same = cc
    of (Half until) is same = cc
    of (Bytes bytes) is same = cc
    of (Handle handle) is same = cc
    of (Pid pid) is same = cc
    of (Ready handle) is same = cc

-- A call that is refused leaves the state, or ends an interrupt.
module _ (s : TracedState) (by : ℕ) where
  Leaves : Option Answer → Type 0
  Leaves a = IfSome a (LeavesIfRefused s by)

  some : (a : Answer) → LeavesIfRefused s by a → Leaves (Some a)
  unfolding Leaves
  some a h = h

  not_ready : Leaves None
  unfolding Leaves
  not_ready = tt

  refused-here : (e : Errno) → Leaves (Some (refused s e))
  unfolding Leaves
  refused-here e = inl refl

  interrupt-seen : Leaves (Some (refused (with_interrupt_seen by s) Intr))
  unfolding Leaves
  interrupt-seen = inr (refl, refl)

  choice : (b : Bool) (x y : Option Answer) → Leaves x → Leaves y → Leaves (cond b x y)
  choice true x y one other = one
  choice false x y one other = other

  -- the state stays, whatever the reply is
  same-leaves : (r : Reply) → LeavesIfRefused s by (answered s r)
  same-leaves (Fail e) = inl refl
  same-leaves _ = tt

  opened-leaves : (h : Held) (place : Option ℕ) → LeavesIfRefused s by (opened s h place)
  opened-leaves h None = inl refl
  opened-leaves h (Some place) = tt

  open-leaves : (h : Held) (refusal : Option Errno) → LeavesIfRefused s by (open_unless s h refusal)
  open-leaves h (Some e) = inl refl
  open-leaves h None = opened-leaves h _

  close-leaves : (handle : ℕ) (h : Option Held) → LeavesIfRefused s by (close_held s handle h)
  close-leaves handle None = inl refl
  close-leaves handle (Some h) = tt

  -- what a message leaves of the system, its call leaves of the state
  controlled-leaves : (c : Controlled) → LeavesSystem s.system c → LeavesIfRefused s by (controlled s c)
  unfolding LeavesSystem
  controlled-leaves c kept = of c.reply kept
    where
      of : (r : Reply) → LeavesSystem s.system (record { system = c.system; reply = r })
          → LeavesIfRefused s by (controlled s (record { system = c.system; reply = r }))
      of (Fail e) kept = inl (ap (λ system. record s { system = system }) kept)
      of _ kept = tt

  -- a wait changes nothing, but that an interrupt is seen
  waited-leaves : (r : Reply) → LeavesIfRefused s by (waited s by r)
  waited-leaves (Fail Intr) = inr (refl, refl)
  waited-leaves (Fail _) = inl refl
  waited-leaves _ = tt

  wait-leaves : (r : Option Reply) → Leaves (option_map (waited s by) r)
  unfolding Leaves
  wait-leaves None = tt
  wait-leaves (Some r) = waited-leaves r

  ready-leaves : (o : Option ℕ) → Leaves (ready_answer s o)
  unfolding Leaves
  ready-leaves None = tt
  ready-leaves (Some handle) = tt

  poll-leaves : (handles : List ℕ) → Leaves (poll_answer s by handles)
  unfolding poll_answer
  poll-leaves handles =
      choice _ _ _ (refused-here Badf)
      (choice _ _ _ (refused-here Inval)
      (choice _ _ _ interrupt-seen (ready-leaves (find (is_polled_ready s by) handles))))

  until-leaves : (moment : ℕ) → Leaves (until_answer s by moment)
  unfolding until_answer
  until-leaves moment = choice _ _ _ interrupt-seen (choice _ _ _ (some (answered s Done) tt) not_ready)

  interrupt-leaves : (b : Bool) (x : Answer) (e : Errno) → LeavesIfRefused s by x
      → LeavesIfRefused s by (cond b x (refused s e))
  interrupt-leaves true x e h = h
  interrupt-leaves false x e h = inl refl

  spawn_unless-leaves : (program : Program) (held : Bool) (o : Option Errno)
      → LeavesIfRefused s by (spawn_unless s program held o)
  spawn_unless-leaves program held (Some e) = inl refl
  spawn_unless-leaves program held None = tt

  spawn-leaves : (held : Bool) (o : Option Program) → LeavesIfRefused s by (spawn_found s held o)
  spawn-leaves held None = inl refl
  spawn-leaves held (Some program) = spawn_unless-leaves program held (spawn_refusal s.system program)

  sent-leaves : (pid : ℕ) (info : Info) (x : Sending) → LeavesIfRefused s by (record {
    state = with_system (with_sent traced pid info x) s;
    reply = sent_reply x;
  })
  unfolding with_sent
  sent-leaves pid info (refuses e) = inl refl
  sent-leaves pid info sends_nothing = tt
  sent-leaves pid info (sends g) = tt

  -- every call
  answer-leaves : (c : calls.Call) → Leaves (answer_to s by c)
  unfolding answer_to open_answer close_answer interrupt_answer spawn_answer kill_answer
  answer-leaves (call.Open pid id file mode) = some _ (open-leaves _ (open_refusal s pid id file mode))
  answer-leaves (call.Close handle) = some _ (close-leaves handle (handle_of s.opens by handle))
  answer-leaves (call.Ctl handle bytes) = some _ (controlled-leaves _ (control-leaves s.system s.opens by handle bytes))
  answer-leaves (call.CtlWait handle until bytes) =
      wait-leaves (wait_reply s.system s.opens by handle until (is_interrupted s by) bytes)
  answer-leaves (call.Read handle from len) = some _ (same-leaves (read_reply s by handle from len))
  answer-leaves (call.Poll handles) = poll-leaves handles
  answer-leaves (call.Interrupt controller) =
      some _ (interrupt-leaves (ltb controller controller_limit)
      (record {
        state = record s {
          interrupted = with_number s.interrupted
              (controller + 1);
        };
        reply = Done;
      }) Inval tt)
  answer-leaves (call.Spawn program held) = some _ (spawn-leaves held (program_named s.system.programs program))
  answer-leaves (call.Kill pid number) =
      some _ (sent-leaves pid (killed_by 0) (sending pid number (life_of s.system pid)))
  answer-leaves (call.Until moment) = until-leaves moment
  answer-leaves call.List = some _ tt

-- a refused call leaves the state
pub refused-leaves : (s : TracedState) (by : ℕ) (c : calls.Call) (a : Answer) → answer_to s by c ≡ Some a
    → LeavesIfRefused s by a
unfolding Leaves
refused-leaves s by c a e = subst (λ o. IfSome o (LeavesIfRefused s by)) e (answer-leaves s by c)

pub ruleset refusals = (refused-leaves)
