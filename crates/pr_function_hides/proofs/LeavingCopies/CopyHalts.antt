use Rattle.std.proofs.Common.{◌≡◌, ◌<◌, ℕ, Bool, true, false, IfOk, Ok, Err, None, Some, Option, List, [], Result, refl}
use Rattle.std.proofs.Common.{sym, subst, ap, ◌∙◌}
use Rattle.std.proofs.lemmas.Bool.{false≢true, or_right}
use Rattle.std.proofs.lemmas.Option.{same_Some}
use Rattle.pr_keeps.proofs.MessageLemmas.{message-edit}
use Rattle.pr_keeps.specs.LwpEdits as lwp
use Rattle.pr_keeps.specs.LwpEdits.{LwpEdit, LwpEdits, clears_current}
use Rattle.pr_keeps.specs.MessageEdits as edit
use Rattle.pr_keeps.specs.MessageEdits.{MessageEdit}
use Rattle.pr_keeps.specs.ProcessEdits as process
use Rattle.pr_keeps.specs.ProcessEdits.{ControlEdit, ProcessEdit, ProcessEdits}
use Rattle.pr_line.specs.declared.options.Options.{Options}
use Rattle.pr_model.specs.Calls.{Answer, answer_to}
use Rattle.pr_model.specs.Changes.{with_space}
use Rattle.pr_model.specs.ControlMessages.{tail_of}
use Rattle.pr_model.specs.Lawful.{IsLawful}
use Rattle.pr_model.specs.Messages.{at_process}
use Rattle.pr_model.specs.Running.{with_directive, without_fault}
use Rattle.pr_model.specs.State.{TracedControl, TracedLwp, TracedProcess, TracedState, TracedSystem, live_process}
use Rattle.pr_model.specs.State.{lwp_of, with_lwp}
use Rattle.pr_model.specs.declared.calls.Call.{Call}
use Rattle.pr_model.specs.declared.calls.Call.TheVariants as call
use Rattle.pr_model.specs.declared.lwps.Phase.{Phase}
use Rattle.pr_model.specs.declared.lwps.Phase.TheVariants.{Asleep, Entered, Exiting, Faulted, User}
use Rattle.pr_num.specs.ById.{map_each}
use Rattle.pr_num.specs.declared.faults.Flt.{Flt}
use Rattle.pr_num.specs.Messages.{first_message, message_code, message_read, nth_word, operands, spelling}
use Rattle.pr_num.specs.Spaces.{Space}
use Rattle.pr_num.specs.Words.{word_bytes, word_of}
use Rattle.pr_num.specs.declared.messages.Message.{Message}
use Rattle.pr_num.specs.declared.messages.Message.TheVariants as message
use Rattle.pr_num.specs.declared.messages.MsgFault.{MsgFault}
use Rattle.pr_truss_laws.proofs.Machine.StillLemmas.{live-changed}
use Rattle.pr_truss_laws.proofs.Machine.TakenLemmas.{ReadsAs, read-as, stop-reads}
use Rattle.pr_truss_laws.specs.Stills.{stands_still, will_stop}
use Rattle.pr_function_laws.proofs.OpenedProcesses.OpenedCalls.{write-as}
use Rattle.pr_function_laws.proofs.OpenedProcesses.OpenedLemmas.{by-process, does, made, sole}
use Rattle.pr_function_laws.proofs.Stepping.StretchLemmas as stretch
use Rattle.pr_function_laws.proofs.Stepping.StretchLemmas.{Does}
use Rattle.pr_function_laws.specs.Lifted.{HasControl}
use Rattle.pr_function_hides.proofs.LeavingCopies.CopyLeft.{IsLeftSo, left-join, same-left}
use Rattle.pr_function_hides.proofs.StoppedCopies.CopyOuts.{change-so, map-so}
use Rattle.pr_function_hides.proofs.StoppedCopies.CopyRuns.{IsOut, fault-out}
use Rattle.pr_function_hides.proofs.StoppedCopies.CopyTurns.{alike-clear}
use Rattle.pr_function_hides.proofs.StandingFaults.OwnFaults.{never-cleared}
use Rattle.pr_function_hides.specs.Copying.{HasNoCopyGoing, IsNot}

-- The messages by which truss leaves a process let no fork, vfork or exec of it go on, leave what is set on it, and let
-- it go on to stop: the directions to stop, the lifts of breakpoints, and the clearing of a fault.

abbrev Parsed : Type 0
Parsed = Result (Message × ℕ) MsgFault

-- ---- which they are

abbrev pub is_leaving : Message → Bool
is_leaving message.Stop = true
is_leaving message.Wstop = true
is_leaving message.Cfault = true
is_leaving (message.Write at size) = true
is_leaving _ = false

abbrev pub BeginLeaving : List ℕ → Type 0
BeginLeaving bytes = IfOk (first_message bytes) (λ first. is_leaving first.0 ≡ true)

leaving-as : (m : Message) (r : Parsed) → is_leaving m ≡ true → ReadsAs m r → IfOk r (λ f. is_leaving f.0 ≡ true)
leaving-as m (Ok first) leaves same = ap is_leaving same ∙ leaves
leaving-as m (Err fault) leaves same = tt

pub stop-leaves : BeginLeaving (spelling message.Stop [])
stop-leaves = leaving-as message.Stop (first_message (spelling message.Stop [])) refl stop-reads

pub wstop-leaves : BeginLeaving (spelling message.Wstop [])
unfolding message_code operands nth_word word_bytes word_of message_read
wstop-leaves =
    leaving-as message.Wstop (first_message (spelling message.Wstop [])) refl
    (read-as (spelling message.Wstop []) message.Wstop refl refl)

pub cfault-leaves : BeginLeaving (spelling message.Cfault [])
unfolding message_code operands nth_word word_bytes word_of message_read
cfault-leaves =
    leaving-as message.Cfault (first_message (spelling message.Cfault [])) refl
    (read-as (spelling message.Cfault []) message.Cfault refl refl)

pub write-leaves : (at size : ℕ) (code : List ℕ) → BeginLeaving (spelling (message.Write at size) code)
write-leaves at size code = write-as is_leaving (λ at size. refl) at size code

-- ---- one lwp

-- what such a message leaves of it
record IsLeftLwp (l k : TracedLwp) : Type 0 where
  clear : HasNoCopyGoing l → HasNoCopyGoing k
  out : IsOut l → IsOut k
  stops : will_stop l ≡ true → will_stop k ≡ true
  fault : (f : Flt) (a : ℕ) → k.phase ≡ Faulted f a → (l.phase ≡ Faulted f a) × (k.control.stop ≡ l.control.stop)

same-lwp : (l : TracedLwp) → IsLeftLwp l l
same-lwp l = record { clear = λ h. h; out = λ h. h; stops = λ h. h; fault = λ f a at. (at, refl) }

next-lwp : (l k j : TracedLwp) → IsLeftLwp l k → IsLeftLwp k j → IsLeftLwp l j
next-lwp l k j a b = record {
  clear = λ h. b.clear (a.clear h);
  out = λ h. b.out (a.out h);
  stops = λ h. b.stops (a.stops h);
  fault = λ f x at.
      let two = b.fault f x at in let one = a.fault f x two.0 in (one.0, two.1 ∙ one.1);
}

directed-lwp : (l : TracedLwp) → IsLeftLwp l (with_directive l)
unfolding with_directive
directed-lwp l = record {
  clear = λ h. alike-clear l _ refl refl h;
  out = λ h. h;
  stops = λ h. or_right (stands_still l) true refl;
  fault = λ f a at. (at, refl);
}

-- an lwp at a fault is at no call
faultless-clear : (l : TracedLwp) → HasNoCopyGoing l → HasNoCopyGoing (without_fault l)
unfolding without_fault
faultless-clear l h = by l.phase h
  where
    by : (phase : Phase) → HasNoCopyGoing (record l { phase = phase })
        → HasNoCopyGoing (without_fault (record l { phase = phase }))
    by User h = h
    by (Entered call) h = h
    by (Asleep call args since) h = h
    by (Exiting call args result) h = h
    by (Faulted f address) h = record { waits = λ is. absurd (false≢true is); left_none = h.left_none }

faultless-lwp : (l : TracedLwp) → IsLeftLwp l (without_fault l)
unfolding without_fault
faultless-lwp l = record {
  clear = faultless-clear l;
  out = fault-out l;
  stops = λ h. h;
  fault = λ f a at. absurd (never-cleared l f a at);
}

keeps-current : (m : Message) → is_leaving m ≡ true → clears_current m ≡ true → ⊥
keeps-current message.Stop leaves clears = false≢true clears
keeps-current message.Wstop leaves clears = false≢true clears
keeps-current message.Cfault leaves clears = false≢true clears
keeps-current (message.Write at size) leaves clears = false≢true clears
keeps-current _ leaves clears = false≢true leaves

leaving-lwp : {m : Message} {l k : TracedLwp} → LwpEdit m l k → is_leaving m ≡ true → IsLeftLwp l k
leaving-lwp {m = m} (lwp.drops_signal is) leaves = absurd (keeps-current m leaves is)
leaving-lwp {l = l} (lwp.drops_fault is) leaves = faultless-lwp l
leaving-lwp {l = l} (lwp.directs_it is) leaves = directed-lwp l
leaving-lwp lwp.undirects leaves = absurd (false≢true leaves)
leaving-lwp lwp.lets_go leaves = absurd (false≢true leaves)
leaving-lwp (lwp.requests is) leaves = absurd (false≢true leaves)
leaving-lwp (lwp.ends_request is) leaves = absurd (false≢true leaves)
leaving-lwp (lwp.steps is) leaves = absurd (false≢true leaves)
leaving-lwp (lwp.aborts is) leaves = absurd (false≢true leaves)
leaving-lwp (lwp.signal_is is) leaves = absurd (false≢true leaves)
leaving-lwp (lwp.takes_back is) leaves = absurd (false≢true leaves)
leaving-lwp lwp.holds leaves = absurd (false≢true leaves)
leaving-lwp lwp.registers_are leaves = absurd (false≢true leaves)
leaving-lwp lwp.goes_to leaves = absurd (false≢true leaves)

leaving-lwps : (m : Message) (l k : TracedLwp) → is_leaving m ≡ true → LwpEdits m l k → IsLeftLwp l k
leaving-lwps m l k leaves lwp.as_it_is = same-lwp l
leaving-lwps m l k leaves (lwp.then_edit {k = j} before e) =
    next-lwp l j k (leaving-lwps m l j leaves before) (leaving-lwp e leaves)

-- ---- the process

module _ (p : TracedProcess) (f : TracedLwp → TracedLwp) (edited : (l : TracedLwp) → IsLeftLwp l (f l)) where
  abbrev IsClear : Option ℕ → ℕ → TracedLwp → Type 0
  IsClear but n l = IsNot but n → HasNoCopyGoing l

  abbrev Stops : ℕ → TracedLwp → Type 0
  Stops n l = will_stop l ≡ true

  abbrev Out : ℕ → TracedLwp → Type 0
  Out n l = IsOut l

  -- where it is at a fault it was at it before, on the same stop
  abbrev Was : ℕ → TracedLwp → Type 0
  Was n k =
      (g : Flt) (a : ℕ) → k.phase ≡ Faulted g a
      → (l : TracedLwp)
      × ((lwp_of p n ≡ Some l) × ((l.phase ≡ Faulted g a) × (k.control.stop ≡ l.control.stop)))

  lwp-clear : (but : Option ℕ) (n : ℕ) (l : TracedLwp) → IsClear but n l → IsClear but n (f l)
  lwp-clear but n l h other = let w = edited l in w.clear (h other)

  lwp-out : (n : ℕ) (l : TracedLwp) → IsOut l → IsOut (f l)
  lwp-out n l h = let w = edited l in w.out h

  lwp-stops : (n : ℕ) (l : TracedLwp) → will_stop l ≡ true → will_stop (f l) ≡ true
  lwp-stops n l h = let w = edited l in w.stops h

  lwp-was : (n : ℕ) (l : TracedLwp) → Was n l → Was n (f l)
  lwp-was n l h g a at =
      let w = edited l in
      let two = w.fault g a at in
      let one = h g a two.0 in (one.0, (one.1.0, (one.1.1.0, two.1 ∙ one.1.1.1)))

  was-there : (n : ℕ) (l : TracedLwp) → lwp_of p n ≡ Some l → Was n l
  was-there n l there g a at = (l, (there, (at, refl)))

  one-left : (id : ℕ) → IsLeftSo p (with_lwp id f p)
  unfolding with_lwp
  one-left id = record {
    ended = refl;
    control = refl;
    clear = λ but all. record {
      each = λ n l other there.
          change-so (IsClear but) id f (lwp-clear but) p.lwps (λ i x at is. all.each i x is at) n l there other;
    };
    out = λ all. record { each = change-so Out id f lwp-out p.lwps all.each };
    halting = λ all. record { each = change-so Stops id f lwp-stops p.lwps all.each };
    faults = λ n k g a there at. change-so Was id f lwp-was p.lwps was-there n k there g a at;
  }

  each-left : IsLeftSo p (record p { lwps = map_each f p.lwps })
  each-left = record {
    ended = refl;
    control = refl;
    clear = λ but all. record {
      each = λ n l other there.
          map-so (IsClear but) f (lwp-clear but) p.lwps (λ i x at is. all.each i x is at) n l there other;
    };
    out = λ all. record { each = map-so Out f lwp-out p.lwps all.each };
    halting = λ all. record { each = map-so Stops f lwp-stops p.lwps all.each };
    faults = λ n k g a there at. map-so Was f lwp-was p.lwps was-there n k there g a at;
  }

-- its memory is written
written-left : (p : TracedProcess) (space : Space) → IsLeftSo p (with_space space p)
unfolding with_space
written-left p space = record {
  ended = refl;
  control = refl;
  clear = λ but all. record { each = λ n l other there. all.each n l other there };
  out = λ all. record { each = λ n l there. all.each n l there };
  halting = λ all. record { each = λ n l there. all.each n l there };
  faults = λ n k f a there at. (k, (there, (at, refl)));
}

sets-none : {m : Message} {c d : TracedControl} → ControlEdit m c d → is_leaving m ≡ true → ⊥
sets-none process.signals leaves = false≢true leaves
sets-none process.faults leaves = false≢true leaves
sets-none process.entries leaves = false≢true leaves
sets-none process.exits leaves = false≢true leaves
sets-none process.modes leaves = false≢true leaves
sets-none process.fewer_modes leaves = false≢true leaves
sets-none process.unwatches leaves = false≢true leaves
sets-none (process.watches some free few) leaves = false≢true leaves

edit-left : (m : Message) (tail : List ℕ) (p q : TracedProcess) → is_leaving m ≡ true → ProcessEdit m tail p q
    → IsLeftSo p q
edit-left m tail p q leaves (process.one_lwp id f edits) =
    one-left p f (λ l. leaving-lwps m l (f l) leaves (edits l)) id
edit-left m tail p q leaves (process.each_lwp f edits) =
    each-left p f (λ l. leaving-lwps m l (f l) leaves (edits l))
edit-left m tail p q leaves (process.control_is e) = absurd (sets-none e leaves)
edit-left m tail p q leaves (process.takes_back is) = absurd (false≢true leaves)
edit-left m tail p q leaves (process.gets_agent none few) = absurd (false≢true leaves)
edit-left m tail p q leaves (process.is_written own mapped) = written-left p _

edits-left : (m : Message) (tail : List ℕ) (p q : TracedProcess) → is_leaving m ≡ true → ProcessEdits m tail p q
    → IsLeftSo p q
edits-left m tail p q leaves process.as_it_is = same-left p p refl
edits-left m tail p q leaves (process.then_edit {y = y} before e) =
    left-join p y q (edits-left m tail p y leaves before) (edit-left m tail y q leaves e)

message-left : (s : TracedSystem) (pid : ℕ) (p q : TracedProcess) (m : Message) (tail : List ℕ) (u : TracedSystem)
    → live_process s pid ≡ Some p → is_leaving m ≡ true → MessageEdit s pid p m tail u → live_process u pid ≡ Some q
    → IsLeftSo p q
message-left s pid p q m tail u live leaves edit.nothing later = same-left p q (same_Some q p (sym later ∙ live))
message-left s pid p q m tail u live leaves (edit.a_process f edits) later =
    let edited = edits-left m tail p (f p) leaves edits in
    let now = live-changed s pid f p live edited.ended in
    subst (IsLeftSo p) (same_Some (f p) q (sym now ∙ later)) edited
message-left s pid p q m tail u live leaves edit.an_end later = absurd (false≢true leaves)
message-left s pid p q m tail u live leaves (edit.a_signal target g is room) later = absurd (false≢true leaves)

-- ---- a call of truss

module _ (n k : ℕ) (o : Options) (s : TracedState) (lawful : IsLawful s) (c : Call) (a : Answer)
    (answer : answer_to s k c ≡ Some a)
    (over : (pid : ℕ) → pid < s.system.made → live_process s.system pid ≡ None
    → live_process a.state.system pid ≡ None) (pid control : ℕ) (bytes : List ℕ) (is : c ≡ call.Ctl control bytes)
    (its : HasControl k pid control s) (begins : BeginLeaving bytes) where
  abbrev DoesTo : TracedProcess → Type 0
  DoesTo p =
      Does n k pid 0 control s lawful (sole n k o s lawful c a answer over pid control bytes is its)
      (made n k o s lawful c a answer over pid control bytes is its) p bytes a

  one-sent : (p q : TracedProcess) → live_process s.system pid ≡ Some p → live_process a.state.system pid ≡ Some q
      → IsLeftSo p q
  one-sent p q live later = by (does n k o s lawful c a answer over pid control bytes is its p live)
    where
      by : DoesTo p → IsLeftSo p q
      by (stretch.refuses errno replied other same) =
          same-left p q
          (same_Some q p (sym later ∙ ap (λ (u : TracedSystem). live_process u pid) same ∙ live))
      by (stretch.does m len first it) =
          message-left s.system pid p q m (tail_of m bytes) _ live
          (subst (λ (r : Parsed). IfOk r (λ f. is_leaving f.0 ≡ true)) first begins)
          (message-edit s.system pid p (tail_of m bytes) len at_process m)
          (sym (ap (λ (x : Answer). live_process x.state.system pid) it) ∙ later)

  pub sent-left : (q : TracedProcess) → live_process a.state.system pid ≡ Some q
      → (p : TracedProcess) × ((live_process s.system pid ≡ Some p) × IsLeftSo p q)
  sent-left q later =
      by-process n k o s lawful c a answer over pid control bytes is its IsLeftSo
      (λ p x live now. one-sent p x live now) q later
