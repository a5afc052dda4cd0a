use Rattle.std.proofs.Common.{◌≡◌, ◌≢◌, ◌⊎◌, ◌<◌, ◌≤◌, ◌+◌, ◌==◌, ◌&&◌, ℕ, Bool, true, false, not, cond, IfOk, Ok, Err}
use Rattle.std.proofs.Common.{Option, Some, None, Result, List, [], ◌∷◌, All, refl, sym, subst, ap, ◌∙◌, arith, inl}
use Rattle.std.proofs.Common.{inr}
use Rattle.std.proofs.lemmas.Bool.{cases_Bool, cases_eq, eq-eqb, eqb-false, eqb-true, false≢true}
use Rattle.std.proofs.lemmas.List.Elements.{All-cons, All-nil, All-weaker}
use Rattle.std.proofs.lemmas.Option.{none-some, same_Some}
use Rattle.std.specs.List.{slice_set}
use Rattle.pr_function_laws.proofs.OpenedProcesses.OpenedLemmas.{KeepsSets, by-process, control-made, control-sole, does, made}
use Rattle.pr_function_laws.proofs.OpenedProcesses.OpenedLemmas.{outlasts-sets, sole}
use Rattle.pr_function_laws.proofs.Stepping.StretchLemmas as stretch
use Rattle.pr_function_laws.proofs.Stepping.StretchLemmas.{Does}
use Rattle.pr_function_laws.specs.Lifted.{HasControl}
use Rattle.pr_function_laws.specs.Stretches.{acts_by}
use Rattle.pr_keeps.proofs.KeepsLemmas.{choice, process-edits-relate}
use Rattle.pr_keeps.proofs.MessageLemmas.{message-edit}
use Rattle.pr_keeps.specs.MessageEdits as edit
use Rattle.pr_keeps.specs.MessageEdits.{MessageEdit}
use Rattle.pr_keeps.specs.ProcessEdits as process
use Rattle.pr_keeps.specs.ProcessEdits.{ControlEdit, ProcessEdit, ProcessEdits}
use Rattle.pr_lawful.proofs.LawfulTurns.EndLemmas.{found-live}
use Rattle.pr_lawful.proofs.ProcessParts.HandleLemmas.{any-at, handle-at}
use Rattle.pr_laws.proofs.RepresentativeLemmas.{ids-above}
use Rattle.pr_line.specs.declared.options.Options.{Options}
use Rattle.pr_model.specs.Calls.{Answer, answer_to}
use Rattle.pr_model.specs.Changes.{with_space}
use Rattle.pr_model.specs.ControlMessages.{tail_of}
use Rattle.pr_model.specs.Handles.{after_last_close, handle_of, has_writer, is_writable, is_writer, released}
use Rattle.pr_model.specs.Handles.{released_lwp, with_closed, with_last_close}
use Rattle.pr_model.specs.Lawful.{IsLawful}
use Rattle.pr_model.specs.Lives.{with_this_ended}
use Rattle.pr_model.specs.Machines.{traced}
use Rattle.pr_model.specs.Messages.{at_process, tracing_entries, tracing_exits, tracing_faults, tracing_signals}
use Rattle.pr_model.specs.Messages.{with_agent, with_areas, with_control, with_modes}
use Rattle.pr_model.specs.State.{Places, TracedControl, TracedLwp, TracedProcess, TracedState, TracedSystem}
use Rattle.pr_model.specs.State.{live_process, with_lwp, with_process}
use Rattle.pr_model.specs.declared.calls.Call.{Call}
use Rattle.pr_model.specs.declared.calls.Call.TheVariants as call
use Rattle.pr_model.specs.declared.calls.File.TheVariants as file
use Rattle.pr_model.specs.declared.calls.Mode.TheVariants.{WriteExcl}
use Rattle.pr_model.specs.declared.handles.Held.{Held}
use Rattle.pr_num.proofs.ByIdLemmas.{rises_from-tail}
use Rattle.pr_num.specs.ById.{change_under, map_each, rises_from}
use Rattle.pr_num.specs.Control.{has_flags, klc_mode, rlc_mode, single_step}
use Rattle.pr_num.specs.Messages.{first_message, spelling}
use Rattle.pr_num.specs.Sets.{has_number}
use Rattle.pr_num.specs.Signals.{signal_number}
use Rattle.pr_num.specs.declared.messages.Message.{Message}
use Rattle.pr_num.specs.declared.messages.Message.TheVariants as message
use Rattle.pr_num.specs.declared.messages.MsgFault.{MsgFault}
use Rattle.pr_num.specs.declared.signals.Sig.TheVariants as sig
use Rattle.pr_probe_laws.proofs.Agents.DeathLemmas.{dead-none, ended-dead}
use Rattle.pr_probe_laws.proofs.StepMarks.MarkCalls.{SetsNoStep}
use Rattle.pr_probe_laws.proofs.StepMarks.MarkTurns.{IsOne, IsUnmarked}
use Rattle.pr_probe_laws.specs.StepMarks.{IsUnmarkedAt, IsUnsteppedLwp}
use Rattle.pr_report_laws.proofs.Machine.ControlLaws.{release-set}
use Rattle.pr_report_laws.proofs.Machine.SettingLaws.{other-added, own-added, release-has}
use Rattle.pr_truss.specs.Messages.{message_call}
use Rattle.pr_truss.specs.Replies.{answer_of}
use Rattle.pr_truss.specs.declared.replies.Answer.TheVariants.{Accepted}
use Rattle.pr_truss_laws.proofs.Files.OpensLemmas.{close-closes, own-other}
use Rattle.pr_truss_laws.proofs.Machine.ForeignLemmas.{call-passes}
use Rattle.pr_truss_laws.proofs.Machine.OutlastLemmas.{outlasts}
use Rattle.pr_truss_laws.proofs.Files.ReleaseLemmas.{none-left, was-last}
use Rattle.pr_truss_laws.proofs.Machine.StillLemmas.{live-changed}
use Rattle.pr_truss_laws.proofs.Machine.TakenLemmas.{ReadsAs}

-- PR_RLC of a process: what leaves it set, as long as a controller has the control file open for itself alone; and that
-- no step mark is left where that file is closed then.

-- ---- PR_RLC

-- a process has it, if it lives
abbrev pub HasRelease : TracedState → ℕ → Type 0
HasRelease s pid =
    (p : TracedProcess) → live_process s.system pid ≡ Some p → has_flags p.control.modes rlc_mode ≡ true

pub kept-release : (pid : ℕ) (s u : TracedState) → KeepsSets pid s u → HasRelease s pid → HasRelease u pid
kept-release pid s u keeps has q later =
    let was = keeps.each q later in
    let set = was.1.1 in
    let same = set.sets in
    ap (λ m. has_flags m rlc_mode) same.modes ∙ has was.0 was.1.0

-- ---- messages

-- whether a message leaves the modes that are set, and sends no signal; and whether it sets no step mark besides
abbrev pub leaves_modes : Message → Bool
leaves_modes (message.Unset modes) = false
leaves_modes (message.Ssig signal) = false
leaves_modes (message.Kill signal) = false
leaves_modes m = true

abbrev pub is_mild : Message → Bool
is_mild (message.Run flags) = not (has_flags flags single_step)
is_mild (message.Unset modes) = false
is_mild (message.Ssig signal) = false
is_mild (message.Kill signal) = false
is_mild m = true

pub mild-leaves : (m : Message) → is_mild m ≡ true → leaves_modes m ≡ true
mild-leaves (message.Run flags) is = refl
mild-leaves (message.Unset modes) is = is
mild-leaves (message.Ssig signal) is = is
mild-leaves (message.Kill signal) is = is
mild-leaves _ is = refl

pub mild-stepless : (m : Message) → is_mild m ≡ true → SetsNoStep m
mild-stepless (message.Run flags) is = by (has_flags flags single_step) is
  where
    by : (b : Bool) → not b ≡ true → b ≡ false
    by false none = refl
    by true none = absurd (false≢true none)
mild-stepless _ is = tt

-- the message with which bytes begin, if they begin with one
abbrev Parsed : Type 0
Parsed = Result (Message × ℕ) MsgFault

abbrev pub BeginWhere : (Message → Bool) → List ℕ → Type 0
BeginWhere P bytes = IfOk (first_message bytes) (λ first. P first.0 ≡ true)

pub reads-where : (P : Message → Bool) (m : Message) (r : Parsed) → P m ≡ true → ReadsAs m r
    → IfOk r (λ first. P first.0 ≡ true)
reads-where P m (Ok first) is same = ap P same ∙ is
reads-where P m (Err fault) is same = tt

pub begins-so : (P : Message → Bool) (bytes : List ℕ) → BeginWhere P bytes → (m : Message) (len : ℕ)
    → first_message bytes ≡ Ok (m, len) → P m ≡ true
begins-so P bytes begins m len read = subst (λ (r : Parsed). IfOk r (λ first. P first.0 ≡ true)) read begins

-- ---- what a message makes of a process

-- it stays a live one, and keeps PR_RLC
record StaysReleasing (p q : TracedProcess) : Type 0 where
  ended : q.ended ≡ p.ended
  release : has_flags p.control.modes rlc_mode ≡ true → has_flags q.control.modes rlc_mode ≡ true

modes-stay : (c : TracedControl) (set : ℕ) → has_flags c.modes rlc_mode ≡ true
    → has_flags (with_modes set c).modes rlc_mode ≡ true
unfolding with_modes
modes-stay c set had = by (has_number set 2) refl
  where
    by : (b : Bool) → has_number set 2 ≡ b → has_flags (with_modes set c).modes rlc_mode ≡ true
    by true is = own-added c.modes set 2 (omega arith) is
    by false is = other-added c.modes set 2 (omega arith) is ∙ had

control-stays : (m : Message) (c d : TracedControl) → ControlEdit m c d → leaves_modes m ≡ true
    → has_flags c.modes rlc_mode ≡ true → has_flags d.modes rlc_mode ≡ true
unfolding tracing_signals tracing_faults tracing_entries tracing_exits with_areas
control-stays m c d process.signals leaves had = had
control-stays m c d process.faults leaves had = had
control-stays m c d process.entries leaves had = had
control-stays m c d process.exits leaves had = had
control-stays m c d (process.modes {set = set}) leaves had = modes-stay c set had
control-stays m c d process.fewer_modes leaves had = absurd (false≢true leaves)
control-stays m c d process.unwatches leaves had = had
control-stays m c d (process.watches some free few) leaves had = had

edit-stays : (m : Message) (tail : List ℕ) → leaves_modes m ≡ true → (p q : TracedProcess) → ProcessEdit m tail p q
    → StaysReleasing p q
unfolding with_lwp with_agent with_space
edit-stays m tail leaves p q (process.one_lwp id f edits) = record { ended = refl; release = λ had. had }
edit-stays m tail leaves p q (process.each_lwp f edits) = record { ended = refl; release = λ had. had }
edit-stays m tail leaves p q (process.control_is {c = d} e) =
    record { ended = refl; release = control-stays m p.control d e leaves }
edit-stays m tail leaves p q (process.takes_back is) = record { ended = refl; release = λ had. had }
edit-stays m tail leaves p q (process.gets_agent none few) = record { ended = refl; release = λ had. had }
edit-stays m tail leaves p q (process.is_written own mapped) = record { ended = refl; release = λ had. had }

edits-stay : (m : Message) (tail : List ℕ) → leaves_modes m ≡ true → (p q : TracedProcess) → ProcessEdits m tail p q
    → StaysReleasing p q
edits-stay m tail leaves p q edits =
    process-edits-relate m tail StaysReleasing (λ x. record { ended = refl; release = λ had. had })
    (λ x y z one two. record {
      ended = two.ended ∙ one.ended;
      release = λ had. two.release (one.release had);
    }) (edit-stays m tail leaves) p q edits

message-stays : (s : TracedSystem) (pid : ℕ) (p q : TracedProcess) (m : Message) (tail : List ℕ) (u : TracedSystem)
    → live_process s pid ≡ Some p → leaves_modes m ≡ true → MessageEdit s pid p m tail u
    → live_process u pid ≡ Some q → has_flags p.control.modes rlc_mode ≡ true
    → has_flags q.control.modes rlc_mode ≡ true
message-stays s pid p q m tail u live leaves edit.nothing later had =
    subst (λ (x : TracedProcess). has_flags x.control.modes rlc_mode ≡ true) (same_Some p q (sym live ∙ later)) had
message-stays s pid p q m tail u live leaves (edit.a_process f edits) later had =
    let stays = edits-stay m tail leaves p (f p) edits in
    subst (λ (x : TracedProcess). has_flags x.control.modes rlc_mode ≡ true)
    (same_Some (f p) q (sym (live-changed s pid f p live stays.ended) ∙ later)) (stays.release had)
message-stays s pid p q m tail u live leaves edit.an_end later had = absurd (false≢true leaves)
message-stays s pid p q m tail u live leaves (edit.a_signal target g is room) later had = absurd (false≢true leaves)

-- ---- a call of the controller

module _ (n k : ℕ) (o : Options) (s : TracedState) (lawful : IsLawful s) (c : Call) (a : Answer)
    (answer : answer_to s k c ≡ Some a)
    (over : (pid : ℕ) → pid < s.system.made → live_process s.system pid ≡ None
    → live_process a.state.system pid ≡ None) (pid control : ℕ) (its : HasControl k pid control s) where
  -- that writes to no handle of the process, and closes none for writing it
  pub elsewhere-release : ((m : ℕ) (held : Held) → acts_by c ≡ Some m → handle_of s.opens k m ≡ Some held
      → is_writable held.mode ≡ true → held.pid ≢ pid)
      → HasRelease s pid → HasRelease a.state pid
  elsewhere-release apart =
      let was_made = control-made k pid control s lawful its in
      let alone = control-sole k pid control s lawful its in
      kept-release pid s a.state
      (outlasts-sets pid s a.state
      (λ p live.
      outlasts s.system a.state.system pid p live
      (call-passes s k pid lawful p (let was = found-live s.system pid p live in was.0) c a
      (λ m named held there writes.
      apart m held (stretch.named-acts n k pid 0 control s lawful alone was_made c m named) there writes) answer))
      (over pid was_made))

  -- a message to the process
  pub sent-release : (bytes : List ℕ) → c ≡ call.Ctl control bytes → BeginWhere leaves_modes bytes → HasRelease s pid
      → HasRelease a.state pid
  sent-release bytes is begins has q later =
      let was =
      by-process n k o s lawful c a answer over pid control bytes is its Stays each q later in
      was.1.1 (has was.0 was.1.0)
    where
      Stays : TracedProcess → TracedProcess → Type 0
      Stays x y = has_flags x.control.modes rlc_mode ≡ true → has_flags y.control.modes rlc_mode ≡ true

      each : (x y : TracedProcess) → live_process s.system pid ≡ Some x → live_process a.state.system pid ≡ Some y
          → Stays x y
      each x y live now had = by (does n k o s lawful c a answer over pid control bytes is its x live)
        where
          by : Does n k pid 0 control s lawful (sole n k o s lawful c a answer over pid control bytes is its)
              (made n k o s lawful c a answer over pid control bytes is its) x bytes a
              → has_flags y.control.modes rlc_mode ≡ true
          by (stretch.refuses errno replied other same) =
              subst (λ (z : TracedProcess). has_flags z.control.modes rlc_mode ≡ true)
              (same_Some x y (sym live ∙ ap (λ (v : TracedSystem). live_process v pid) (sym same) ∙ now)) had
          by (stretch.does m len first it) =
              message-stays s.system pid x y m (tail_of m bytes) _ live
              (begins-so leaves_modes bytes begins m len first)
              (message-edit s.system pid x (tail_of m bytes) len at_process m)
              (sym (ap (λ (v : Answer). live_process v.state.system pid) it) ∙ now) had

  -- PCSET of PR_RLC
  pub set-release : c ≡ message_call control (message.Set rlc_mode) → answer_of a.reply ≡ Accepted
      → HasRelease a.state pid
  unfolding with_control
  set-release is accepted q later =
      let was =
      by-process n k o s lawful c a answer over pid control (spelling (message.Set rlc_mode) []) is its
      (λ x y. has_flags y.control.modes rlc_mode ≡ true) each q later in was.1.1
    where
      each : (x y : TracedProcess) → live_process s.system pid ≡ Some x → live_process a.state.system pid ≡ Some y
          → has_flags y.control.modes rlc_mode ≡ true
      each x y live now =
          subst (λ (z : TracedProcess). has_flags z.control.modes rlc_mode ≡ true)
          (same_Some (with_control (with_modes rlc_mode) x) y
          (sym (release-set s k control
          (record { controller = k; pid = pid; lwp = 0; file = file.Ctl; mode = WriteExcl }) its refl x live a
          (ap (answer_to s k) (sym is) ∙ answer) accepted) ∙ now))
          (release-has x.control)

-- ---- the control file is closed

released-lwps : (ls : List (ℕ × TracedLwp)) → All IsUnsteppedLwp (map_each released_lwp ls)
unfolding released_lwp
released-lwps [] = All-nil IsUnsteppedLwp
released-lwps (e ∷ es) = All-cons IsUnsteppedLwp _ _ (record { no_step = refl }) (released-lwps es)

-- among rising ids each stands once
released-from : (pid low : ℕ) (es : List (ℕ × TracedProcess)) → rises_from low es ≡ true
    → All (IsUnmarkedAt (IsOne pid)) (change_under pid released es)
unfolding released
released-from pid low [] rises = All-nil (IsUnmarkedAt (IsOne pid))
released-from pid low (e ∷ es) rises =
    elim (cases_Bool (e.0 == pid)) [
      | inl same ↦ rw same (here (eqb-true e.0 pid same))
      | inr differs ↦ rw differs
          (All-cons (IsUnmarkedAt (IsOne pid)) e _
          (record { lwps = λ is. absurd (eqb-false e.0 pid differs is) })
          (released-from pid (e.0 + 1) es tail))
    ]
  where
    tail : rises_from (e.0 + 1) es ≡ true
    tail = rises_from-tail low e es rises

    here : e.0 ≡ pid → All (IsUnmarkedAt (IsOne pid)) ((e.0, released e.1) ∷ es)
    here same =
        All-cons (IsUnmarkedAt (IsOne pid)) _ es (record { lwps = λ is. released-lwps e.1.lwps })
        (All-weaker (λ (d : ℕ × TracedProcess). e.0 + 1 ≤ d.0) (IsUnmarkedAt (IsOne pid))
        (λ d above. record { lwps = λ is. absurd (omega (arith, above, same, is)) }) es
        (ids-above (e.0 + 1) es tail))

-- no lwp of the process has a step mark, or it does not live
abbrev pub IsLetGo : ℕ → TracedSystem → Type 0
IsLetGo pid s = IsUnmarked pid s ⊎ (live_process s pid ≡ None)

last-let-go : (pid : ℕ) (p : TracedProcess) (s : TracedSystem) → rises_from 0 s.processes ≡ true
    → has_flags p.control.modes rlc_mode ≡ true → IsLetGo pid (with_last_close pid p s)
unfolding with_last_close with_process
last-let-go pid p s rises had =
    choice (IsLetGo pid) (has_flags p.control.modes klc_mode) _ _
    (λ kills.
    inr (dead-none pid (with_this_ended traced pid p (signal_number sig.Kill) s)
    (ended-dead pid p (signal_number sig.Kill) s)))
    (λ spares. rw had (inl (record { processes = released-from pid 0 s.processes rises })))

module _ (k : ℕ) (s : TracedState) (lawful : IsLawful s) (pid control : ℕ) (its : HasControl k pid control s) where
  abbrev own : Held
  own = record { controller = k; pid = pid; lwp = 0; file = file.Ctl; mode = WriteExcl }

  abbrev others : Places
  others = slice_set s.opens control None

  -- it is the only handle for writing the process
  pub sole-writer : (m : ℕ) (held : Held) → handle_of s.opens k m ≡ Some held → is_writable held.mode ≡ true
      → held.pid ≡ pid → m ≡ control
  sole-writer m held there writes same = elim (cases_eq control m) [
    | inl is ↦ sym is
    | inr apart ↦
        (let some : has_writer pid others ≡ true =
        any-at (is_writer pid) others m (Some held)
        (handle-at others k m held (own-other s.opens k control m None apart ∙ there))
        (ap (λ b. b && is_writable held.mode) (eq-eqb held.pid pid same) ∙ writes) in
        absurd (false≢true (sym (none-left s.opens control own (handle-at s.opens k control own its) refl
        lawful.exclusive) ∙ some)))
  ]

  closed-let-go : (o : Option TracedProcess) → live_process s.system pid ≡ o → HasRelease s pid
      → IsLetGo pid (after_last_close pid o s.system)
  closed-let-go None none has = inr none
  closed-let-go (Some p) live has =
      let system = lawful.system in last-let-go pid p s.system system.rising (has p live)

  pub close-lets-go : (a : Answer) → answer_to s k (call.Close control) ≡ Some a → HasRelease s pid
      → IsLetGo pid a.state.system
  unfolding with_closed
  close-lets-go a answer has = elim (close-closes s k control a answer) [
    | inl none ↦ absurd (none-some own (sym none.none ∙ its))
    | inr one ↦
        (let closed : a.state ≡ with_closed own control s =
        one.1.state ∙ ap (λ (g : Held). with_closed g control s) (same_Some one.0 own (sym one.1.held ∙ its)) in
        subst (λ (x : TracedState). IsLetGo pid x.system) (sym closed)
        (subst (λ b. IsLetGo pid (cond b (after_last_close pid (live_process s.system pid) s.system) s.system))
        (sym (was-last s.opens control own (handle-at s.opens k control own its) refl lawful.exclusive))
        (closed-let-go (live_process s.system pid) refl has)))
  ]
