use Rattle.std.proofs.Common.{[], Bool, List, None, Ok, Some, ap, eqb, false, inl, inr, refl, subst, sym, true, ℕ, ◌==◌, ◌||◌, ◌∙◌, ◌≡◌, ◌≢◌}
use Rattle.std.proofs.lemmas.Bool.{cases_Bool, eqb-true, false≢true}
use Rattle.std.proofs.lemmas.List.Elements.{All-cons, All-nil, All-weaker}
use Rattle.std.proofs.lemmas.Option.{same_Some}
use Rattle.std.specs.Bool.{IsTrue}
use Rattle.std.specs.List.{All}
use Rattle.pr_erasure.proofs.SeenTurns.KeptSettings.{KeepsLwp, each-lwp, one-lwp}
use Rattle.pr_erasure.specs.Untouched.{IsUntouched, IsUntouchedLwp, IsUntouchedProcess}
use Rattle.pr_hidden.specs.Hiders.{Hiders}
use Rattle.pr_hidden.specs.Tidiness.{is_hider_act, is_hider_message, is_probe_message}
use Rattle.pr_keeps.proofs.CallLemmas.{call-edit, close-edit}
use Rattle.pr_keeps.proofs.KeepsLemmas.{all-replaced, lwp-edits-keep, process-edits-keep}
use Rattle.pr_keeps.specs.CallEdits as edit
use Rattle.pr_keeps.specs.CallEdits.{CallEdit, CloseEdit}
use Rattle.pr_keeps.specs.LwpEdits as lwp
use Rattle.pr_keeps.specs.LwpEdits.{LwpEdit, LwpEdits}
use Rattle.pr_keeps.specs.MessageEdits as made
use Rattle.pr_keeps.specs.MessageEdits.{MessageEdit}
use Rattle.pr_keeps.specs.ProcessEdits as process
use Rattle.pr_keeps.specs.ProcessEdits.{ProcessEdit}
use Rattle.pr_laws.proofs.RefusalLemmas.{control-leaves, refused-system}
use Rattle.pr_model.proofs.StateLemmas.{live_process-found}
use Rattle.pr_model.specs.Calls.{Answer, answer_to}
use Rattle.pr_model.specs.Changes.{with_space}
use Rattle.pr_model.specs.ControlMessages.{control_answer, tail_of}
use Rattle.pr_model.specs.Handles.{handle_of, released, released_lwp, with_closed, with_opened}
use Rattle.pr_model.specs.Lives.{bare_process, first_lwp, new_lwp, new_process, with_spawned}
use Rattle.pr_model.specs.Machines.{no_marks, traced}
use Rattle.pr_model.specs.Messages.{agent_lwp, lwp_without_one, with_address, with_agent, with_held_set, with_registers}
use Rattle.pr_model.specs.Passive.{is_passive_act, is_passive_message}
use Rattle.pr_model.specs.Running.{let_go, with_abort, with_directive, without_current, without_directive, without_fault}
use Rattle.pr_model.specs.State.{TracedLwp, TracedProcess, TracedState, TracedSystem, process_of, with_lwp, with_process}
use Rattle.pr_model.specs.declared.calls.Call.TheVariants as call
use Rattle.pr_model.specs.declared.calls.Call.{Call}
use Rattle.pr_model.specs.declared.calls.Reply.TheVariants as reply
use Rattle.pr_model.specs.declared.calls.Reply.{Reply}
use Rattle.pr_model.specs.declared.events.Act.TheVariants as act
use Rattle.pr_model.specs.declared.events.Actor.TheVariants.{Controller}
use Rattle.pr_model.specs.declared.handles.Held.{Held}
use Rattle.pr_num.proofs.ByIdLaws.{All-inserted}
use Rattle.pr_num.specs.Agents.{agent_id}
use Rattle.pr_num.specs.Control.{has_flags, single_step, stop_again}
use Rattle.pr_num.specs.Messages.{first_message}
use Rattle.pr_num.specs.Programs.{Program}
use Rattle.pr_num.specs.Sets.{common_word}
use Rattle.pr_num.specs.declared.errnos.Errno.{Errno}
use Rattle.pr_num.specs.declared.messages.Message.TheVariants as message
use Rattle.pr_num.specs.declared.messages.Message.{Message}
use Rattle.pr_probe_laws.proofs.StepMarks.MarkTurns.{IsAny, all-unmarked, generated-keeps, made-keeps, process-keeps, unmarked-all, with_this_ended-keeps}
use Rattle.pr_probe_laws.specs.StepMarks.{AreUnmarked, IsUnmarkedAt, IsUnstepped, IsUnsteppedLwp, IsUnsteppedProcess}

-- A step mark comes of PCRUN with PRSTEP alone, which is sent to its process. No passive call sends that, and
-- no apfiles.

-- a message that sets no step mark
abbrev pub SetsNoStep : Message → Type 0
SetsNoStep (message.Run flags) = has_flags flags single_step ≡ false
SetsNoStep _ = Unit {0}

-- ---- messages

edit-keeps : (m : Message) → SetsNoStep m → (l k : TracedLwp) → LwpEdit m l k → l.control.step ≡ false
    → k.control.step ≡ false
unfolding without_current without_fault with_directive without_directive let_go with_abort lwp_without_one with_held_set
    with_registers with_address
edit-keeps m none l k (lwp.steps is) h = absurd (false≢true (sym none ∙ is))
edit-keeps m none l k _ h = h

edits-keep : (m : Message) → SetsNoStep m → (f : TracedLwp → TracedLwp) → ((l : TracedLwp) → LwpEdits m l (f l))
    → KeepsLwp IsUnsteppedLwp f
edits-keep m none f edits id l u = record {
  no_step =
      lwp-edits-keep m (λ (x : TracedLwp). x.control.step ≡ false) (edit-keeps m none) l (f l) (edits l) u.no_step;
}

agent-unmarked : (regs : List ℕ) → IsUnsteppedLwp (agent_id, agent_lwp regs)
unfolding agent_lwp new_lwp traced no_marks
agent-unmarked regs = record { no_step = refl }

process-keep : (m : Message) (tail : List ℕ) → SetsNoStep m → (x y : TracedProcess) → ProcessEdit m tail x y
    → All IsUnsteppedLwp x.lwps → All IsUnsteppedLwp y.lwps
unfolding with_lwp with_agent with_space
process-keep m tail none x y (process.one_lwp id f edits) u =
    one-lwp IsUnsteppedLwp id f (edits-keep m none f edits) x.lwps u
process-keep m tail none x y (process.each_lwp f edits) u =
    each-lwp IsUnsteppedLwp f (edits-keep m none f edits) x.lwps u
process-keep m tail none x y (process.gets_agent {regs = regs} free room) u =
    All-inserted IsUnsteppedLwp agent_id (agent_lwp regs) x.lwps (agent-unmarked regs) u
process-keep m tail none x y _ u = u

module _ (Which : ℕ → Type 0) where
  -- to one of these processes it sets no step mark; to another it may
  message-keeps : (s : TracedSystem) (target : ℕ) (p : TracedProcess) (m : Message) (tail : List ℕ) (t : TracedSystem)
      → (Which target → SetsNoStep m) → process_of s target ≡ Some p → MessageEdit s target p m tail t
      → AreUnmarked Which s → AreUnmarked Which t
  unfolding with_process
  message-keeps s target p m tail t none found made.nothing u = u
  message-keeps s target p m tail t none found (made.a_process f edits) u = record {
    processes =
        all-replaced (IsUnmarkedAt Which) target f p s.processes found
        (λ un. record {
          lwps = λ same.
              process-edits-keep m tail (λ (x : TracedProcess). All IsUnsteppedLwp x.lwps)
              (process-keep m tail (none same)) p (f p) edits (un.lwps same);
        }) u.processes;
  }
  message-keeps s target p m tail t none found made.an_end u = with_this_ended-keeps Which target p _ s u
  message-keeps s target p m tail t none found (made.a_signal own g is room) u =
      generated-keeps Which target own g _ s u

  -- ---- calls

  close-keeps : (s : TracedSystem) (target : ℕ) (t : TracedSystem) → CloseEdit s target t → AreUnmarked Which s
      → AreUnmarked Which t
  unfolding released released_lwp
  close-keeps s target t edit.nothing u = u
  close-keeps s target t (edit.kills p live mode) u = with_this_ended-keeps Which target p _ s u
  close-keeps s target t (edit.releases p live spares mode) u =
      process-keeps Which target released
      (λ which x it. each-lwp IsUnsteppedLwp released_lwp (λ id l un. record { no_step = refl }) x.lwps it) s u

  spawned-keeps : (program : Program) (held : Bool) (s : TracedSystem) → AreUnmarked Which s
      → AreUnmarked Which (with_spawned traced program held s)
  unfolding with_spawned new_process bare_process first_lwp new_lwp traced no_marks
  spawned-keeps program held s u =
      made-keeps Which (new_process traced program s.clock held) s
      (All-cons IsUnsteppedLwp _ [] (record { no_step = refl }) (All-nil IsUnsteppedLwp)) u

  -- a call writes no message to one of these processes that sets a step mark
  pub record MarksNone (s : TracedState) (by : ℕ) (c : Call) : Type 0 where
    pub none : (handle : ℕ) (bytes : List ℕ) (held : Held) (m : Message) (len : ℕ) → c ≡ call.Ctl handle bytes
        → handle_of s.opens by handle ≡ Some held → Which held.pid → first_message bytes ≡ Ok (m, len) → SetsNoStep m

  call-keeps : (s : TracedState) (by : ℕ) (c : Call) (t : TracedState) → CallEdit s by c t → MarksNone s by c
      → AreUnmarked Which s.system → AreUnmarked Which t.system
  unfolding with_opened
  call-keeps s by c t (edit.closes {handle = handle} {held = h} at) none u =
      close-keeps s.system h.pid (with_closed h handle s).system (close-edit s handle h) u
  call-keeps s by c t (edit.controls {handle = handle} {bytes = bytes} {held = h} {p = p} {m = m} {t = v} w e) none u =
      message-keeps s.system h.pid p m (tail_of m bytes) v
      (λ same. none.none handle bytes h m w.length refl w.handle_is same w.read)
      (live_process-found s.system h.pid p w.live) e u
  call-keeps s by c t (edit.spawns {held = held} {program = program} named grants) none u =
      spawned-keeps program held s.system u
  call-keeps s by c t (edit.sends {pid = target} {g = g} is) none u = generated-keeps Which target None g _ s.system u
  call-keeps s by c t _ none u = u

  -- What a call leaves. One that was refused leaves all.
  pub called-unmarked : (s : TracedState) (k : ℕ) (c : Call) (a : Answer) → answer_to s k c ≡ Some a
      → (((e : Errno) → a.reply ≢ reply.Fail e) → MarksNone s k c) → AreUnmarked Which s.system
      → AreUnmarked Which a.state.system
  unfolding answer_to
  called-unmarked s k (call.Ctl handle bytes) a given none u = by a.reply refl
    where
      refused : (e : Errno) → a.reply ≡ reply.Fail e → AreUnmarked Which a.state.system
      refused e is =
          let c = control_answer s.system s.opens k handle bytes in
          let same = same_Some _ a given in
          let left =
          refused-system s.system c e (control-leaves s.system s.opens k handle bytes)
          (ap (λ (x : Answer). x.reply) same ∙ is) in
          subst (AreUnmarked Which) (sym left ∙ ap (λ (x : Answer). x.state.system) same) u

      granted : ((e : Errno) → a.reply ≢ reply.Fail e) → AreUnmarked Which a.state.system
      granted other =
          call-keeps s k (call.Ctl handle bytes) a.state (call-edit s k (call.Ctl handle bytes) a given) (none other) u

      by : (r : Reply) → a.reply ≡ r → AreUnmarked Which a.state.system
      by (reply.Fail e) is = refused e is
      by _ is = granted (λ e same. cc)
  called-unmarked s k c a given none u =
      call-keeps s k c a.state (call-edit s k c a given)
      (record {
        none = λ handle bytes held m len is there its read. absurd (let e : c ≡ call.Ctl handle bytes = is in cc);
      }) u

-- ---- passive calls, and those of an apfiles

run-plain : (flags : ℕ) → ((flags == 0) || (flags == stop_again)) ≡ true → has_flags flags single_step ≡ false
unfolding has_flags common_word
run-plain flags passive = elim (cases_Bool (eqb flags 0)) [
  | inl zero ↦ ap (λ (f : ℕ). has_flags f single_step) (eqb-true flags 0 zero)
  | inr some ↦ ap (λ (f : ℕ). has_flags f single_step) (eqb-true flags stop_again (rw some at passive))
]

pub passive-plain : (m : Message) → is_passive_message m ≡ true → SetsNoStep m
unfolding is_passive_message
passive-plain (message.Run flags) is = run-plain flags is
passive-plain _ is = tt

module _ (who : Hiders) (no_functions : (k : ℕ) → who.functions k ≡ []) where
  probe-plain : (m : Message) → is_probe_message m ≡ true → SetsNoStep m
  probe-plain (message.Run flags) is = absurd (false≢true is)
  probe-plain _ is = tt

  allowed-plain : (k : ℕ) (m : Message) → IsTrue (is_passive_message m || is_hider_message who k m) → SetsNoStep m
  allowed-plain k m is = by (is_passive_message m) refl (who.probes k) refl (is_probe_message m) refl
    where
      by : (b : Bool) → is_passive_message m ≡ b → (d : Bool) → who.probes k ≡ d → (f : Bool) → is_probe_message m ≡ f
          → SetsNoStep m
      by true passive d hides f probes = passive-plain m passive
      by false other d hides true probes = probe-plain m probes
      by false other true hides false probes = absurd (false≢true (rw (other, no_functions k, hides, probes) at is))
      by false other false hides false probes = absurd (false≢true (rw (other, no_functions k, hides) at is))

  -- what a call that is allowed leaves
  pub called-unstepped : (s : TracedState) (k : ℕ) (c : Call) (a : Answer) → answer_to s k c ≡ Some a
      → IsTrue (is_passive_act (act.Call c a.reply) || is_hider_act who (Controller k) (act.Call c a.reply))
      → IsUnstepped s.system → IsUnstepped a.state.system
  called-unstepped s k c a given allowed u =
      unmarked-all a.state.system
      (called-unmarked IsAny s k c a given (λ granted. record {
        none = λ handle bytes held m len is there any its.
            writes handle bytes m len its a.reply granted
            (subst (λ (d : Call). IsTrue (is_passive_act (act.Call d a.reply)
            || is_hider_act who (Controller k) (act.Call d a.reply))) is allowed);
      }) (all-unmarked s.system u))
    where
      writes : (handle : ℕ) (bytes : List ℕ) (m : Message) (len : ℕ) → first_message bytes ≡ Ok (m, len) → (r : Reply)
          → ((e : Errno) → r ≢ reply.Fail e)
          → IsTrue (is_passive_act (act.Call (call.Ctl handle bytes) r)
          || is_hider_act who (Controller k) (act.Call (call.Ctl handle bytes) r)) → SetsNoStep m
      writes handle bytes m len its (reply.Fail e) granted it = absurd (granted e refl)
      writes handle bytes m len its _ granted it = allowed-plain k m (rw its at it)

-- ---- at first

pub untouched-unstepped : (s : TracedSystem) → IsUntouched s → IsUnstepped s
untouched-unstepped s u = record {
  processes = All-weaker IsUntouchedProcess IsUnsteppedProcess one s.processes u.processes;
}
  where
    one : (e : ℕ × TracedProcess) → IsUntouchedProcess e → IsUnsteppedProcess e
    one e it = record {
      lwps = All-weaker IsUntouchedLwp IsUnsteppedLwp (λ l own. record { no_step = own.no_step }) e.1.lwps it.lwps;
    }
