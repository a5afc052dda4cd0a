use Rattle.std.proofs.Common.{◌≡◌, ◌==◌, ◌-◌, ◌∷◌, ◌^◌, ◌&&◌, ◌||◌, ℕ, Bool, true, false, eqb, bit_and, inl, inr, arith, Option, Some, None, List, [], cond, refl, sym, subst, ◌∙◌, ap}
use Rattle.std.proofs.lemmas.Bool.{eqb-true, cases_Bool, not-true, false≢true}
use Rattle.std.proofs.lemmas.Option.{same_Some}
use Rattle.pr_num.specs.ById.{change_under, map_each}
use Rattle.pr_num.specs.Control.{has_flags, klc_mode, stop_again}
use Rattle.pr_num.specs.Infos.{killed_by}
use Rattle.pr_num.specs.Programs.{Program}
use Rattle.pr_num.specs.Sets.{common_word, has_number, minus_word, union_word}
use Rattle.pr_num.proofs.SetLemmas.{has_flags-one, has_number-common, has_number-union}
use Rattle.pr_num.specs.Messages.{first_message}
use Rattle.pr_num.specs.declared.messages.Message.{Message}
use Rattle.pr_num.specs.declared.messages.Message.TheVariants as message
use Rattle.pr_num.proofs.ByIdLaws.{All-under}
use Rattle.pr_num.specs.declared.errnos.Errno.{Errno}
use Rattle.pr_model.specs.declared.calls.Call.TheVariants as call
use Rattle.pr_model.specs.declared.calls.Reply.{Reply}
use Rattle.pr_model.specs.declared.calls.Reply.TheVariants as reply
use Rattle.pr_model.specs.Machines.{traced}
use Rattle.pr_model.specs.UntracedSteps.{steps_of_call}
use Rattle.pr_model.specs.Calls.{Answer, controlled, spawn_unless, spawn_found, spawn_answer, sent_reply, kill_answer, answer_to}
use Rattle.pr_model.specs.ControlMessages.{tail_of, control_answer}
use Rattle.pr_model.specs.Erasure.{uncontrolled_lwp, uncontrolled_process, uncontrolled_system, erased_system}
use Rattle.pr_model.specs.Handles.{with_opened, released_lwp, released_control, released, with_closed}
use Rattle.pr_model.specs.Messages.{tracing_signals, tracing_faults, tracing_entries, tracing_exits, with_modes, without_modes}
use Rattle.pr_model.specs.Passive.{is_passive_message, is_passive_write, is_passive_call}
use Rattle.pr_model.specs.ProcessCalls.{program_named}
use Rattle.pr_model.specs.Readers.{life_of}
use Rattle.pr_model.specs.SignalCalls.{Sending, refuses, sends_nothing, sends, sending, with_sent}
use Rattle.pr_model.specs.Spawning.{spawn_refusal}
use Rattle.pr_model.specs.UntracedMachine.{UntracedRun, ends_here, nothing, it}
use Rattle.pr_laws.proofs.RefusalLemmas.{control-leaves, refused-system}
use Rattle.pr_erasure.proofs.SeenHistories.OutsideLemmas.{StepsFollow, follows-nothing, spawn-follows, kill-follows, refused_sent}
use Rattle.pr_model.specs.Running.{let_go, with_directive, without_directive, with_run}
use Rattle.pr_model.specs.State.{TracedControl, TracedLwp, TracedProcess, TracedSystem, TracedState, with_process, with_system, process_of}
use Rattle.pr_erasure.specs.Untouched.{IsUntouchedLwp, IsUntouchedProcess, IsUntouched}
use Rattle.pr_erasure.proofs.SeenParts.BareLemmas.{same-system}
use Rattle.pr_erasure.proofs.SeenParts.StateLemmas.{map_each-all_hidden, with_process-hidden, with_lwp-hidden}
use Rattle.pr_erasure.proofs.SeenTurns.UntouchedLemmas.{KeepsLwps, KeepsProcesses, lwp-keeps, lwps-keep, process-keeps}
use Rattle.pr_model.proofs.StateLemmas.{live_process-found}
use Rattle.pr_keeps.specs.CallEdits as edit
use Rattle.pr_keeps.specs.CallEdits.{CallEdit, CloseEdit}
use Rattle.pr_keeps.specs.LwpEdits as lwp
use Rattle.pr_keeps.specs.LwpEdits.{LwpEdit, LwpEdits, clears_current, clears_fault}
use Rattle.pr_keeps.specs.MessageEdits as made
use Rattle.pr_keeps.specs.MessageEdits.{MessageEdit}
use Rattle.pr_keeps.specs.ProcessEdits as process
use Rattle.pr_keeps.specs.ProcessEdits.{ControlEdit, ProcessEdit, ProcessEdits}
use Rattle.pr_keeps.proofs.CallLemmas.{call-edit, close-edit}
use Rattle.pr_keeps.proofs.KeepsLemmas.{all-replaced, lwp-edits-keep, process-edits-relate}
use Rattle.pr_keeps.proofs.MessageLemmas.{run-edits}
use Rattle.pr_model.specs.Calls.{answer_to, controlled}
use Rattle.pr_model.specs.declared.calls.Call.{Call}
use Rattle.pr_num.specs.Control.{clear_signal, clear_fault, single_step, abort_call}
use Rattle.pr_num.specs.ById.{under}

-- The calls of controllers in a passive history, as programs see them: nothing.

active : {X : Type 0} → false ≡ true → X
active e = absurd (clash e)
  where
    clash : false ≡ true → ⊥
    clash e = cc

-- a change of the system in what controllers set alone, that leaves it untouched
pub record Hides (s t : TracedSystem) : Type 0 where
  pub same : uncontrolled_system t ≡ uncontrolled_system s
  pub untouched : IsUntouched t

pub hides-nothing : (s : TracedSystem) → IsUntouched s → Hides s s
hides-nothing s u = record { same = refl; untouched = u }

hides-process : (pid : ℕ) (f : TracedProcess → TracedProcess)
    → ((x : TracedProcess) → uncontrolled_process (f x) ≡ uncontrolled_process x) → KeepsProcesses f
    → (s : TracedSystem) → IsUntouched s → Hides s (with_process pid f s)
hides-process pid f hides keeps s u = record {
  same = with_process-hidden s pid f hides;
  untouched = process-keeps pid f keeps s u;
}

-- ---- lwps

-- an lwp that looks the same, and is untouched still
record HidesLwp (l k : TracedLwp) : Type 0 where
  seen : uncontrolled_lwp k ≡ uncontrolled_lwp l
  untouched : (id : ℕ) → IsUntouchedLwp (id, l) → IsUntouchedLwp (id, k)

-- PCRUN of a passive history has no flag but PRSTOP
no-flag : (flags flag : ℕ) → has_flags 0 flag ≡ false → has_flags stop_again flag ≡ false
    → ((flags == 0) || (flags == stop_again)) ≡ true → has_flags flags flag ≡ true → ⊥
no-flag flags flag none other passive is = elim (cases_Bool (eqb flags 0)) [
  | inl zero ↦ false≢true (sym none ∙ ap (λ f. has_flags f flag) (sym (eqb-true flags 0 zero)) ∙ is)
  | inr some ↦
      let same : flags ≡ stop_again = eqb-true flags stop_again (rw some at passive) in
      false≢true (sym other ∙ ap (λ f. has_flags f flag) (sym same) ∙ is)
]

-- a passive message clears no current signal, and no fault
keeps-signal : (m : Message) → clears_current m ≡ true → is_passive_message m ≡ true → ⊥
unfolding is_passive_message has_flags common_word
keeps-signal (message.Run flags) is passive = no-flag flags clear_signal refl refl passive is
keeps-signal _ is passive = cc

keeps-fault : (m : Message) → clears_fault m ≡ true → is_passive_message m ≡ true → ⊥
unfolding is_passive_message has_flags common_word
keeps-fault (message.Run flags) is passive = no-flag flags clear_fault refl refl passive is
keeps-fault _ is passive = cc

-- only where it stops and runs is changed
alike : (l k : TracedLwp) → uncontrolled_lwp k ≡ uncontrolled_lwp l → k.control.step ≡ l.control.step
    → k.control.abort ≡ l.control.abort → HidesLwp l k
alike l k seen step abort = record {
  seen = seen;
  untouched = λ id u. record { no_step = step ∙ u.no_step; no_abort = abort ∙ u.no_abort; no_agent = u.no_agent };
}

edit-hides : (m : Message) (l k : TracedLwp) → LwpEdit m l k → is_passive_message m ≡ true → HidesLwp l k
unfolding uncontrolled_lwp with_directive without_directive let_go is_passive_message has_flags common_word
edit-hides m l k (lwp.drops_signal is) passive = absurd (keeps-signal m is passive)
edit-hides m l k (lwp.drops_fault is) passive = absurd (keeps-fault m is passive)
edit-hides m l k (lwp.directs_it is) passive = alike l k refl refl refl
edit-hides m l k lwp.undirects passive = alike l k refl refl refl
edit-hides m l k lwp.lets_go passive = alike l k refl refl refl
edit-hides m l k (lwp.requests is) passive = alike l k refl refl refl
edit-hides m l k (lwp.ends_request is) passive = alike l k refl refl refl
edit-hides m l k (lwp.steps {flags = flags} is) passive = absurd (no-flag flags single_step refl refl passive is)
edit-hides m l k (lwp.aborts {flags = flags} is) passive = absurd (no-flag flags abort_call refl refl passive is)
edit-hides m l k _ passive = active passive

edits-hide : (m : Message) → is_passive_message m ≡ true → (l k : TracedLwp) → LwpEdits m l k → HidesLwp l k
edits-hide m passive l k edits =
    lwp-edits-keep m (HidesLwp l) (λ j i e h.
    let next = edit-hides m j i e passive in
    record { seen = next.seen ∙ h.seen; untouched = λ id u. next.untouched id (h.untouched id u) }) l k edits
    (record { seen = refl; untouched = λ id u. u })

-- ---- modes

-- PR_KLC is one bit
klc-is : (w : ℕ) → has_flags w klc_mode ≡ has_number w 3
klc-is w = has_flags-one w 3 (omega arith)

no_klc-union : (a b : ℕ) → has_flags a klc_mode ≡ false → has_flags b klc_mode ≡ false
    → has_flags (union_word a b) klc_mode ≡ false
no_klc-union a b none other =
    klc-is (union_word a b) ∙ has_number-union a b 3 ∙ ap (λ x. x || has_number b 3) (sym (klc-is a) ∙ none)
    ∙ sym (klc-is b) ∙ other

common-is : (a b : ℕ) → has_number (bit_and a b) 3 ≡ has_number (common_word a b) 3
unfolding common_word
common-is a b = refl

no_klc-minus : (a b : ℕ) → has_flags a klc_mode ≡ false → has_flags (minus_word a b) klc_mode ≡ false
unfolding minus_word
no_klc-minus a b none =
    let rest = 2 ^ 64 - 1 - b in
    klc-is (minus_word a b) ∙ common-is a rest ∙ has_number-common a rest 3
    ∙ ap (λ x. x && has_number rest 3) (sym (klc-is a) ∙ none)

-- ---- processes

record HidesProcess (x y : TracedProcess) : Type 0 where
  seen : uncontrolled_process y ≡ uncontrolled_process x
  untouched : (pid : ℕ) → IsUntouchedProcess (pid, x) → IsUntouchedProcess (pid, y)

-- what is traced and which modes are set
record HidesControl (c d : TracedControl) : Type 0 where
  areas : d.areas ≡ c.areas
  no_kill : has_flags c.modes klc_mode ≡ false → has_flags d.modes klc_mode ≡ false

control-hides : (m : Message) (c d : TracedControl) → ControlEdit m c d → is_passive_message m ≡ true → HidesControl c d
unfolding is_passive_message tracing_signals tracing_faults tracing_entries tracing_exits with_modes without_modes
control-hides m c d process.signals passive = record { areas = refl; no_kill = λ none. none }
control-hides m c d process.faults passive = record { areas = refl; no_kill = λ none. none }
control-hides m c d process.entries passive = record { areas = refl; no_kill = λ none. none }
control-hides m c d process.exits passive = record { areas = refl; no_kill = λ none. none }
control-hides m c d (process.modes {set = set}) passive =
    record { areas = refl; no_kill = λ none. no_klc-union c.modes set none (not-true (has_flags set klc_mode) passive) }
control-hides m c d (process.fewer_modes {set = set}) passive =
    record { areas = refl; no_kill = λ none. no_klc-minus c.modes set none }
control-hides m c d _ passive = active passive

process-hides : (m : Message) (tail : List ℕ) (x y : TracedProcess) → ProcessEdit m tail x y
    → is_passive_message m ≡ true → HidesProcess x y
unfolding uncontrolled_process is_passive_message
process-hides m tail x y (process.one_lwp id f edits) passive = record {
  seen = with_lwp-hidden x id f (λ l. let h = edits-hide m passive l (f l) (edits l) in h.seen);
  untouched = λ pid u. lwp-keeps id f (λ i l. let h = edits-hide m passive l (f l) (edits l) in h.untouched i) pid x u;
}
process-hides m tail x y (process.each_lwp f edits) passive = record {
  seen =
      ap (λ ls. record (uncontrolled_process x) { lwps = ls })
      (map_each-all_hidden uncontrolled_lwp f x.lwps (λ l. let h = edits-hide m passive l (f l) (edits l) in h.seen));
  untouched = λ pid u. record {
    no_kill = u.no_kill;
    unwatched = u.unwatched;
    lwps = lwps-keep f (λ i l. let h = edits-hide m passive l (f l) (edits l) in h.untouched i) x u.lwps;
  };
}
process-hides m tail x y (process.control_is {c = c} e) passive =
    let h = control-hides m x.control c e passive in
    record {
      seen = refl;
      untouched = λ pid u. record { no_kill = h.no_kill u.no_kill; unwatched = h.areas ∙ u.unwatched; lwps = u.lwps };
    }
process-hides m tail x y _ passive = active passive

processes-hide : (m : Message) (tail : List ℕ) → is_passive_message m ≡ true
    → (x y : TracedProcess) → ProcessEdits m tail x y → HidesProcess x y
processes-hide m tail passive =
    process-edits-relate m tail HidesProcess (λ x. record { seen = refl; untouched = λ pid u. u })
    (λ x y z one two. record {
      seen = two.seen ∙ one.seen;
      untouched = λ pid u. two.untouched pid
          (one.untouched pid u);
    })
    (λ x y e. process-hides m tail x y e passive)

pub with_run-hidden : (p : TracedProcess) → uncontrolled_process (with_run 0 p) ≡ uncontrolled_process p
unfolding is_passive_message
with_run-hidden p =
    let h = processes-hide (message.Run 0) [] refl p (with_run 0 p) (run-edits 0 [] p) in
    h.seen

-- ---- the system

-- the one that stands under an id is changed in a way that a view does not show
map_each-found : {X Y : Type 0} (view : X → Y) (id : ℕ) (f : X → X) (x : X) (es : List (ℕ × X))
    → under id es ≡ Some x → view (f x) ≡ view x → map_each view (change_under id f es) ≡ map_each view es
map_each-found view id f x [] there same = refl
map_each-found {X} view id f x (e ∷ es) there same =
    elim (eqb e.0 id) as (λ b. cond b (Some e.1) (under id es) ≡ Some x
    → map_each view (cond b ((e.0, f e.1) ∷ es) (e ∷ change_under id f es)) ≡ (e.0, view e.1) ∷ map_each view es) [
      | true ↦ λ is.
          ap (λ y. (e.0, y) ∷ map_each view es) (subst (λ (z : X). view (f z) ≡ view z) (sym (same_Some e.1 x is)) same)
      | false ↦ λ is. ap (λ ds. (e.0, view e.1) ∷ ds) (map_each-found view id f x es is same)
    ] there

message-hides : (s : TracedSystem) (pid : ℕ) (p : TracedProcess) (m : Message) (tail : List ℕ) (t : TracedSystem)
    → MessageEdit s pid p m tail t → process_of s pid ≡ Some p → is_passive_message m ≡ true
    → IsUntouched s → Hides s t
unfolding uncontrolled_system with_process is_passive_message
message-hides s pid p m tail t made.nothing found passive u = hides-nothing s u
message-hides s pid p m tail t (made.a_process f edits) found passive u =
    let h = processes-hide m tail passive p (f p) edits in
    record {
      same =
          ap (λ ps. record (uncontrolled_system s) { processes = ps })
          (map_each-found uncontrolled_process pid f p s.processes found h.seen);
      untouched = record {
        processes = all-replaced IsUntouchedProcess pid f p s.processes found (h.untouched pid) u.processes;
      };
    }
message-hides s pid p m tail t _ found passive u = active passive

-- ---- the last close for writing

released_lwp-hidden : (l : TracedLwp) → uncontrolled_lwp (released_lwp l) ≡ uncontrolled_lwp l
unfolding uncontrolled_lwp released_lwp
released_lwp-hidden l = refl

released_lwp-keeps : KeepsLwps released_lwp
unfolding released_lwp
released_lwp-keeps id x u = record { no_step = refl; no_abort = u.no_abort; no_agent = u.no_agent }

pub released-hidden : (p : TracedProcess) → uncontrolled_process (released p) ≡ uncontrolled_process p
unfolding uncontrolled_process released
released-hidden p =
    ap (λ ls. record (uncontrolled_process p) { lwps = ls })
    (map_each-all_hidden uncontrolled_lwp released_lwp p.lwps released_lwp-hidden)

released-keeps : KeepsProcesses released
unfolding released released_control
released-keeps pid x u =
    record { no_kill = u.no_kill; unwatched = refl; lwps = lwps-keep released_lwp released_lwp-keeps x u.lwps }

close-hides : (s : TracedSystem) (pid : ℕ) (t : TracedSystem) → CloseEdit s pid t → IsUntouched s → Hides s t
close-hides s pid t edit.nothing u = hides-nothing s u
close-hides s pid t (edit.kills p live mode) u =
    let it = All-under IsUntouchedProcess pid p s.processes u.processes (live_process-found s pid p live) in
    absurd (false≢true (sym it.no_kill ∙ mode))
close-hides s pid t (edit.releases p live spares mode) u =
    hides-process pid released released-hidden released-keeps s u

-- ---- calls

-- whether nothing is seen of a call, whatever its reply: neither does anything come from outside, nor is a message
-- written that is not passive
abbrev IsHidden : Call → Type 0
IsHidden (call.Ctl handle bytes) = is_passive_write (first_message bytes) ≡ true
IsHidden (call.Spawn name held) = ⊥
IsHidden (call.Kill pid number) = ⊥
IsHidden _ = Unit {0}

call-hides : (s : TracedState) (by : ℕ) (c : Call) (t : TracedState) → CallEdit s by c t → IsHidden c
    → IsUntouched s.system → Hides s.system t.system
unfolding with_opened
call-hides s by c t edit.looks hidden u = hides-nothing s.system u
call-hides s by c t (edit.opens free grants) hidden u = hides-nothing s.system u
call-hides s by c t (edit.closes {handle = handle} {held = h} at) hidden u =
    close-hides s.system h.pid (with_closed h handle s).system (close-edit s handle h) u
call-hides s by c t (edit.controls {bytes = bytes} {held = h} {p = p} {m = m} {t = v} w e) hidden u =
    let passive = subst (λ r. is_passive_write r ≡ true) w.read hidden in
    message-hides s.system h.pid p m (tail_of m bytes) v e (live_process-found s.system h.pid p w.live) passive u
call-hides s by c t edit.sees_interrupt hidden u = hides-nothing s.system u
call-hides s by c t (edit.interrupts there) hidden u = hides-nothing s.system u
call-hides s by c t (edit.spawns named grants) hidden u = absurd hidden
call-hides s by c t (edit.sends is) hidden u = absurd hidden

-- what an answer makes of the system is hidden
HidesAnswer : TracedState → Answer → Type 0
HidesAnswer s a = Hides s.system a.state.system

module _ (s : TracedState) (u : IsUntouched s.system) where
  answer-hides : (by : ℕ) (c : Call) (a : Answer) → answer_to s by c ≡ Some a → IsHidden c → HidesAnswer s a
  unfolding HidesAnswer
  answer-hides by c a is hidden = call-hides s by c a.state (call-edit s by c a is) hidden u

  -- a message that was refused left the system, and one that was granted was passive
  ctl-hides : (by handle : ℕ) (bytes : List ℕ) (r : Reply) → (control_answer s.system s.opens by handle bytes).reply ≡ r
      → is_passive_call (call.Ctl handle bytes) r ≡ true
      → HidesAnswer s (controlled s (control_answer s.system s.opens by handle bytes))
  unfolding answer_to HidesAnswer
  ctl-hides by handle bytes (reply.Fail e) is passive =
      let c = control_answer s.system s.opens by handle bytes in
      subst (Hides s.system) (sym (refused-system s.system c e (control-leaves s.system s.opens by handle bytes) is))
      (hides-nothing s.system u)
  ctl-hides by handle bytes _ is passive =
      answer-hides by (call.Ctl handle bytes)
      (controlled s (control_answer s.system s.opens by handle bytes)) refl passive

  -- ---- what calls are for the untraced machine

  -- a call that is hidden has no step
  hidden : (c : Call) (a : Answer) → steps_of_call c a.reply ≡ [] → HidesAnswer s a
      → StepsFollow s.system (steps_of_call c a.reply) a.state.system
  unfolding HidesAnswer
  hidden c a none hides =
      subst (λ steps. StepsFollow s.system steps a.state.system) (sym none) (record {
        run =
            subst (UntracedRun (erased_system s.system) [])
            (sym (same-system a.state.system s.system hides.same)) ends_here;
        untouched = hides.untouched;
      })

  spawn_unless-follows : (name : List ℕ) (program : Program) (held : Bool)
      → program_named s.system.programs name ≡ Some program → (o : Option Errno) → spawn_refusal s.system program ≡ o
      → StepsFollow s.system (steps_of_call (call.Spawn name held) (spawn_unless s program held o).reply)
      (spawn_unless s program held o).state.system
  spawn_unless-follows name program held named (Some e) refusal = follows-nothing s.system u
  spawn_unless-follows name program held named None refusal = spawn-follows name program held s.system u named refusal

  spawn_found-follows : (name : List ℕ) (held : Bool) (o : Option Program) → program_named s.system.programs name ≡ o
      → StepsFollow s.system (steps_of_call (call.Spawn name held) (spawn_found s held o).reply)
      (spawn_found s held o).state.system
  spawn_found-follows name held None named = follows-nothing s.system u
  spawn_found-follows name held (Some program) named =
      spawn_unless-follows name program held named (spawn_refusal s.system program) refl

  sent-follows : (pid number : ℕ) (x : Sending) → sending pid number (life_of s.system pid) ≡ x
      → StepsFollow s.system (steps_of_call (call.Kill pid number) (sent_reply x))
      (with_sent traced pid (killed_by 0) x s.system)
  sent-follows pid number (refuses e) is =
      subst (λ t. StepsFollow s.system [] t) (sym (refused_sent pid e s.system)) (follows-nothing s.system u)
  sent-follows pid number sends_nothing is = kill-follows pid number sends_nothing s.system u is nothing
  sent-follows pid number (sends g) is = kill-follows pid number (sends g) s.system u is it

  -- Every call of a passive history that has an answer is followed by its steps.
  pub call-follows : (by : ℕ) (c : Call) (a : Answer) → answer_to s by c ≡ Some a → is_passive_call c a.reply ≡ true
      → StepsFollow s.system (steps_of_call c a.reply) a.state.system
  unfolding answer_to spawn_answer kill_answer HidesAnswer
  call-follows by (call.Ctl handle bytes) a is passive =
      let c = control_answer s.system s.opens by handle bytes in
      let answer : controlled s c ≡ a = same_Some _ _ is in
      let passed =
      subst (λ (x : Answer). is_passive_call (call.Ctl handle bytes) x.reply ≡ true) (sym answer) passive in
      hidden (call.Ctl handle bytes) a refl
      (subst (HidesAnswer s) answer (ctl-hides by handle bytes c.reply refl passed))
  call-follows by (call.Spawn name held) a is passive =
      subst (λ (x : Answer). StepsFollow s.system (steps_of_call (call.Spawn name held) x.reply) x.state.system)
      (same_Some (spawn_found s held (program_named s.system.programs name)) a is)
      (spawn_found-follows name held (program_named s.system.programs name) refl)
  call-follows by (call.Kill pid number) a is passive =
      let x = sending pid number (life_of s.system pid) in
      subst (λ (y : Answer). StepsFollow s.system (steps_of_call (call.Kill pid number) y.reply) y.state.system)
      (same_Some
      (record { state = with_system (with_sent traced pid (killed_by 0) x) s; reply = sent_reply x }) a is)
      (sent-follows pid number x refl)
  call-follows by c a is passive = hidden c a refl (answer-hides by c a is tt)
