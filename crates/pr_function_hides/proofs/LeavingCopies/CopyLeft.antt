use Rattle.std.proofs.Common.{◌≡◌, ℕ, true, Option, Some, None, refl, sym, subst, ap, ◌∙◌, inl, inr}
use Rattle.std.proofs.lemmas.Bool.{cases_Bool, false≢true}
use Rattle.std.proofs.lemmas.Option.{same_Some}
use Rattle.pr_line.specs.declared.options.Options.{Options}
use Rattle.pr_model.specs.Lawful.{IsLawfulSystem}
use Rattle.pr_model.specs.LwpTurns.{LwpTurn, turn_of}
use Rattle.pr_model.specs.State.{TracedControl, TracedProcess, TracedState, TracedSystem, live_process}
use Rattle.pr_model.specs.declared.calls.File.TheVariants as file
use Rattle.pr_report_laws.proofs.Machine.TurnSettings.{turn-settings}
use Rattle.pr_truss.specs.Marks.{has_function}
use Rattle.pr_truss.specs.declared.marks.Marks.{Marks}
use Rattle.pr_truss.specs.declared.processes.Traced.{Traced}
use Rattle.pr_truss.specs.declared.stages.OpeningStep.TheVariants as opening
use Rattle.pr_truss_laws.proofs.EventStops.AloneLemmas.{alone-halting}
use Rattle.pr_truss_laws.proofs.Machine.StillLemmas.{halting-leaves, halting-stays}
use Rattle.pr_truss_laws.specs.Stills.{IsHalting, IsUndisturbed}
use Rattle.pr_function_laws.proofs.OpenedProcesses.OpenedLemmas.{Holds, IsFile, KeepsHandles}
use Rattle.pr_function_laws.specs.Lifted.{HasControl}
use Rattle.pr_function_laws.specs.Opened.{TracesAll}
use Rattle.pr_function_hides.proofs.StoppedCopies.CopyOuts.{HaveNoCopyBegun, alone-out, halting-makes-none, halting-out}
use Rattle.pr_function_hides.proofs.StoppedCopies.CopySets.{traced-stops}
use Rattle.pr_function_hides.proofs.StoppedCopies.CopyTurns.{alone-clear, turn-clear, turn-makes-none}
use Rattle.pr_function_hides.proofs.Replies.FilesWalk.{SameFiles, same-join}
use Rattle.pr_function_hides.proofs.StandingFaults.OwnFaults.{FaultsStay, alone-old, faults-join, faults-old, faults-same}
use Rattle.pr_function_hides.specs.Copying.{CopiesStand, HaveNoCopyGoing, IsEmpty, IsLifted, PlantsNone, StopsAtCopies}
use Rattle.pr_function_hides.specs.Copying.{bare, makes_copy, none_goes, one_goes}

-- How the forks, vforks and execs of a process stand that truss leaves, or has still to leave.

-- ---- what is said of a process

-- Nothing is planted in it; or truss traces it, and it stands as it is to with what is planted; or, where it may, it is
-- to stop, and none of it is at such a call.
pub data LeavesSo (May : Type 0) (o : Options) (m : Marks) (p : TracedProcess) : Type 0 where
  has_none : IsEmpty m.planted → LeavesSo May o m p
  traces_still : TracesAll o p.control → CopiesStand m p → LeavesSo May o m p
  is_to_stop : May → HaveNoCopyBegun p → IsHalting p → LeavesSo May o m p

-- Truss has its own files of it; and it says of its id whether it may be to stop.
pub record IsLeaving (k : ℕ) (o : Options) (May : ℕ → Type 0) (s : TracedState) (v : Traced) : Type 0 where
  pub files : Holds k o s (Some opening.OpenStatus) v.pid v.control v.status v.lstatus v.memory
  pub stands : (p : TracedProcess) → live_process s.system v.pid ≡ Some p → LeavesSo (May v.pid) o v.marks p

-- ---- other marks

-- no more is planted, and else nothing is other; or nothing is planted
pub data AreFewer (m n : Marks) : Type 0 where
  fewer : PlantsNone m n → n.lifted ≡ m.lifted → n.stepped ≡ m.stepped → AreFewer m n
  none_left : IsEmpty n.planted → AreFewer m n

pub same-fewer : (m : Marks) → AreFewer m m
same-fewer m = fewer (λ function has. has) refl refl

none-planted : (m n : Marks) → PlantsNone m n → IsEmpty m.planted → IsEmpty n.planted
none-planted m n less none function = elim (cases_Bool (has_function n.planted function)) [
  | inl has ↦ absurd (false≢true (sym (none function) ∙ less function has))
  | inr not ↦ not
]

pub fewer-join : (l m n : Marks) → AreFewer l m → AreFewer m n → AreFewer l n
fewer-join l m n one (none_left none) = none_left none
fewer-join l m n (none_left none) (fewer less lifted stepped) = none_left (none-planted m n less none)
fewer-join l m n (fewer one a b) (fewer two c d) =
    fewer (λ function has. one function (two function has)) (c ∙ a) (d ∙ b)

fewer-lifted : (m n : Marks) → PlantsNone m n → n.stepped ≡ m.stepped → IsLifted m → IsLifted n
fewer-lifted m n less stepped l =
    record { none_planted = none-planted m n less l.none_planted; no_step = stepped ∙ l.no_step }

fewer-copies : (m n : Marks) (p : TracedProcess) → PlantsNone m n → n.lifted ≡ m.lifted → n.stepped ≡ m.stepped
    → CopiesStand m p → CopiesStand n p
fewer-copies m n p less lifted stepped (none_goes all) = none_goes all
fewer-copies m n p less lifted stepped (one_goes id l all) = one_goes id (fewer-lifted m n less stepped l) all
fewer-copies m n p less lifted stepped (bare l none) =
    bare (fewer-lifted m n less stepped l)
    (λ function. ap (λ set. has_function set function) lifted ∙ none function)

pub fewer-leaves : {May : Type 0} (o : Options) (m n : Marks) (p : TracedProcess) → AreFewer m n
    → LeavesSo May o m p → LeavesSo May o n p
fewer-leaves o m n p (none_left none) w = has_none none
fewer-leaves o m n p (fewer less lifted stepped) (has_none none) = has_none (none-planted m n less none)
fewer-leaves o m n p (fewer less lifted stepped) (traces_still traces copies) =
    traces_still traces (fewer-copies m n p less lifted stepped copies)
fewer-leaves o m n p (fewer less lifted stepped) (is_to_stop may out halting) = is_to_stop may out halting

-- ---- other records of it

-- the same process with the same files, and with such marks
pub record IsLess (u v : Traced) : Type 0 where
  pub files : SameFiles u v
  pub marks : AreFewer u.marks v.marks

pub less-join : (u v w : Traced) → IsLess u v → IsLess v w → IsLess u w
less-join u v w a b = record {
  files = same-join u v w a.files b.files;
  marks = fewer-join u.marks v.marks w.marks a.marks b.marks;
}

module _ (k : ℕ) (o : Options) (May : ℕ → Type 0) (s : TracedState) where
  pub less-leaving : (u v : Traced) → IsLess u v → IsLeaving k o May s u → IsLeaving k o May s v
  less-leaving u v less w =
      let f = less.files in
      let h = w.files in
      record {
        files = record {
          its =
              subst (λ i. HasControl k i v.control s) (sym f.pid)
              (subst (λ m. HasControl k u.pid m s) (sym f.control) h.its);
          its_status = λ m is.
              subst (λ i. IsFile k i file.Status m s) (sym f.pid) (h.its_status m (sym f.status ∙ is));
          its_lstatus = λ m is.
              subst (λ i. IsFile k i file.Lstatus m s) (sym f.pid) (h.its_lstatus m (sym f.lstatus ∙ is));
          its_memory = λ m is.
              subst (λ i. IsFile k i file.Mem m s) (sym f.pid) (h.its_memory m (sym f.memory ∙ is));
          known = tt;
          set = λ p live. tt;
        };
        stands = λ p live.
            subst (λ i. LeavesSo (May i) o v.marks p) (sym f.pid)
            (fewer-leaves o u.marks v.marks p less.marks
            (w.stands p (ap (live_process s.system) (sym f.pid) ∙ live)));
      }

module _ (k : ℕ) (o : Options) (s : TracedState) where
  -- handles that stay
  pub held-on : (later : TracedState) (v : Traced) → KeepsHandles k v.pid s later
      → Holds k o s (Some opening.OpenStatus) v.pid v.control v.status v.lstatus v.memory
      → Holds k o later (Some opening.OpenStatus) v.pid v.control v.status v.lstatus v.memory
  held-on later v keeps h = record {
    its = keeps v.control _ h.its refl;
    its_status = λ m is. keeps m _ (h.its_status m is) refl;
    its_lstatus = λ m is. keeps m _ (h.its_lstatus m is) refl;
    its_memory = λ m is. keeps m _ (h.its_memory m is) refl;
    known = tt;
    set = λ p live. tt;
  }

-- ---- a process that is not run

-- What is set on it is the same, it goes on to stop, and where no such call of it goes on none does later. An lwp of it
-- that is at a fault was at it before, on the same stop.
pub record IsLeftSo (p q : TracedProcess) : Type 0 where
  pub ended : q.ended ≡ p.ended
  pub control : q.control ≡ p.control
  pub clear : (but : Option ℕ) → HaveNoCopyGoing but p → HaveNoCopyGoing but q
  pub out : HaveNoCopyBegun p → HaveNoCopyBegun q
  pub halting : IsHalting p → IsHalting q
  pub faults : FaultsStay p q

pub same-left : (p q : TracedProcess) → q ≡ p → IsLeftSo p q
same-left p q same = record {
  ended = ap (λ (x : TracedProcess). x.ended) same;
  control = ap (λ (x : TracedProcess). x.control) same;
  clear = λ but all. subst (HaveNoCopyGoing but) (sym same) all;
  out = λ all. subst HaveNoCopyBegun (sym same) all;
  halting = λ all. subst IsHalting (sym same) all;
  faults = subst (FaultsStay p) (sym same) (faults-same p);
}

pub left-join : (p q r : TracedProcess) → IsLeftSo p q → IsLeftSo q r → IsLeftSo p r
left-join p q r a b = record {
  ended = b.ended ∙ a.ended;
  control = b.control ∙ a.control;
  clear = λ but all. b.clear but (a.clear but all);
  out = λ all. b.out (a.out all);
  halting = λ all. b.halting (a.halting all);
  faults = faults-join p q r a.faults b.faults;
}

-- others leave it alone
pub alone-left : (p q : TracedProcess) → IsUndisturbed p q → IsLeftSo p q
alone-left p q alone = record {
  ended = ap (λ (x : TracedProcess). x.ended) alone.rest;
  control = ap (λ (x : TracedProcess). x.control) alone.rest;
  clear = λ but all. alone-clear but p q alone all;
  out = λ all. alone-out p q alone all;
  halting = λ all. alone-halting p q alone all;
  faults = faults-old p q (alone-old p q alone);
}

module _ (o : Options) (m : Marks) (p q : TracedProcess) (w : IsLeftSo p q) where
  pub left-copies : CopiesStand m p → CopiesStand m q
  left-copies (none_goes all) = none_goes (w.clear None all)
  left-copies (one_goes id lifted all) = one_goes id lifted (w.clear (Some id) all)
  left-copies (bare lifted none) = bare lifted none

  pub left-on : {May : Type 0} → LeavesSo May o m p → LeavesSo May o m q
  left-on (has_none none) = has_none none
  left-on (traces_still traces copies) =
      traces_still (subst (λ (c : TracedControl). TracesAll o c) (sym w.control) traces) (left-copies copies)
  left-on (is_to_stop may out halting) = is_to_stop may (w.out out) (w.halting halting)

-- ---- a turn of it

module _ (o : Options) (m : Marks) (s : TracedSystem) (pid : ℕ) (p : TracedProcess) (own : ℕ) (t : LwpTurn)
    (lawful : IsLawfulSystem s) (live : live_process s pid ≡ Some p) (turn : turn_of s pid own ≡ Some t) where
  -- one that makes such a call, which is granted, finds nothing planted
  pub turn-finds-none : {May : Type 0} → makes_copy t.turned.did ≡ true → LeavesSo May o m p → IsEmpty m.planted
  turn-finds-none makes (has_none none) = none
  turn-finds-none makes (is_to_stop may out halting) =
      absurd (false≢true (sym (halting-makes-none s pid p lawful live halting own t turn) ∙ makes))
  turn-finds-none makes (traces_still traces (none_goes all)) =
      absurd (false≢true (sym (turn-makes-none s pid p own t lawful live turn None all tt) ∙ makes))
  turn-finds-none makes (traces_still traces (one_goes id lifted all)) = lifted.none_planted
  turn-finds-none makes (traces_still traces (bare lifted none)) = lifted.none_planted

  module _ (q : TracedProcess) (later : live_process t.system pid ≡ Some q) where
    pub traces-turn : TracesAll o p.control → TracesAll o q.control
    traces-turn h =
        let same = turn-settings s pid p own t lawful live turn q later in
        let stops = h.stops in
        subst (λ (c : TracedControl). TracesAll o c) (sym same.control) (record {
          stops = record { signals = stops.signals; faults = stops.faults; directs = stops.directs };
          entries = h.entries;
          exits = h.exits;
        })

    clear-turn : (but : Option ℕ) → StopsAtCopies p.control → HaveNoCopyGoing but p → HaveNoCopyGoing but q
    clear-turn but stops all = turn-clear s pid p own t lawful live turn but all stops q later

    pub copies-turn : StopsAtCopies p.control → CopiesStand m p → CopiesStand m q
    copies-turn stops (none_goes all) = none_goes (clear-turn None stops all)
    copies-turn stops (one_goes id lifted all) = one_goes id lifted (clear-turn (Some id) stops all)
    copies-turn stops (bare lifted none) = bare lifted none

    pub turn-leaves : {May : Type 0} → LeavesSo May o m p → LeavesSo May o m q
    turn-leaves (has_none none) = has_none none
    turn-leaves (traces_still traces copies) =
        traces_still (traces-turn traces) (copies-turn (traced-stops o p.control traces) copies)
    turn-leaves (is_to_stop may out halting) =
        is_to_stop may (halting-out s pid p lawful live halting own t turn q later out)
        (subst IsHalting
        (same_Some _ q (sym (halting-leaves s pid p live halting own t turn) ∙ later))
        (halting-stays s pid p live halting own t turn))
