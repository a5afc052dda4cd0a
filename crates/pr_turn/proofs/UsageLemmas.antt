use Rattle.std.proofs.Common.{◌≡◌, ℕ, ◌+◌, ◌≤◌, Bool, true, false, Option, Some, None, refl, arith, inl, inr, subst, sym}
use Rattle.std.proofs.lemmas.Bool.{cases_Bool}
use Rattle.pr_num.proofs.ByIdLaws.{All-change_under}
use Rattle.pr_num.specs.Control.{async_mode, has_flags}
use Rattle.pr_model.specs.LwpTurns.{calls_in, counted, faults_in, instructions_in, signals_in, with_counted}
use Rattle.pr_model.specs.Points.{after_meeting, is_traced, stopped_at, with_others_directed, with_stop_at}
use Rattle.pr_model.specs.State.{TracedProcess, TracedSystem, with_lwp, with_process}
use Rattle.pr_model.specs.Stops.{with_all_directed}
use Rattle.pr_model.specs.declared.events.Did.{Did}
use Rattle.pr_model.specs.declared.events.Did.TheVariants.{Made, Woke, Took, Faulted}
use Rattle.pr_model.specs.declared.processes.Usage.{Usage}
use Rattle.pr_model.specs.declared.stops.Point.{Point}
use Rattle.pr_proc.proofs.CountLemmas.{AllUsedAtMost-more}
use Rattle.pr_proc.proofs.UsageLemmas.{AllUsedAtMost-under, AllUsedAtMost-with_process}
use Rattle.pr_proc.specs.Counts.{AllUsedAtMost, HasUsedAtMost, UsedAtMost}

-- What a turn adds to what processes have used.

-- ---- what a turn counts

calls_in-one : (d : Did) → calls_in d ≤ 1
calls_in-one (Made call result) = omega arith
calls_in-one (Woke call result) = omega arith
calls_in-one _ = omega arith

signals_in-one : (d : Did) → signals_in d ≤ 1
signals_in-one (Took g) = omega arith
signals_in-one _ = omega arith

faults_in-one : (d : Did) → faults_in d ≤ 1
faults_in-one (Faulted f) = omega arith
faults_in-one _ = omega arith

instructions_in-one : (begun : Bool) → instructions_in begun ≤ 1
instructions_in-one true = omega arith
instructions_in-one false = omega arith

counted-one : (n : ℕ) (d : Did) (begun : Bool) (u : Usage) → UsedAtMost n u → UsedAtMost (n + 1) (counted d begun u)
unfolding counted
counted-one n d begun u h =
    let c : calls_in d ≤ 1 = calls_in-one d in
    let g : signals_in d ≤ 1 = signals_in-one d in
    let f : faults_in d ≤ 1 = faults_in-one d in
    let i : instructions_in begun ≤ 1 = instructions_in-one begun in
    record { calls = omega arith; signals = omega arith; faults = omega arith; instructions = omega arith }

AllUsedAtMost-counted : (n pid : ℕ) (d : Did) (begun : Bool) (s : TracedSystem) → AllUsedAtMost n s
    → AllUsedAtMost (n + 1) (with_process pid (with_counted d begun) s)
unfolding with_process with_counted
AllUsedAtMost-counted n pid d begun s h = record {
  each =
      All-change_under (HasUsedAtMost (n + 1)) pid (with_counted d begun) s.processes
      (λ p at within. counted-one n d begun p.control.usage (AllUsedAtMost-under n pid s p at h))
      (AllUsedAtMost-more n (n + 1) s (omega arith) h).each;
}

-- ---- the stop at what was met

others-usage : (p : TracedProcess) → (with_others_directed p).control.usage ≡ p.control.usage
unfolding with_others_directed with_all_directed
others-usage p = elim (cases_Bool (has_flags p.control.modes async_mode)) [ inl e ↦ rw e refl | inr e ↦ rw e refl ]

meeting-usage : (point : Option Point) (id : ℕ) (p : TracedProcess)
    → (after_meeting point id p).control.usage ≡ p.control.usage
unfolding after_meeting with_stop_at with_lwp
meeting-usage None id p = refl
meeting-usage (Some point) id p =
    elim (cases_Bool (is_traced p.control point))
    [ inl e ↦ rw e (others-usage (with_lwp id (stopped_at point) p)) | inr e ↦ rw e refl ]

-- a turn adds at most 1 to each count
pub used-after : (n : ℕ) (s counted met : TracedSystem) (pid id : ℕ) (d : Did) (begun : Bool) (point : Option Point)
    → AllUsedAtMost n s → counted ≡ with_process pid (with_counted d begun) s
    → met ≡ with_process pid (after_meeting point id) counted → AllUsedAtMost (n + 1) met
used-after n s counted met pid id d begun point h e f =
    subst (AllUsedAtMost (n + 1)) (sym f)
    (AllUsedAtMost-with_process (n + 1) pid (after_meeting point id) counted (meeting-usage point id)
    (subst (AllUsedAtMost (n + 1)) (sym e) (AllUsedAtMost-counted n pid d begun s h)))
