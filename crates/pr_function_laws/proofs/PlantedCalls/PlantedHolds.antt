use Rattle.std.proofs.Common.{◌≡◌, ◌<◌, ◌++◌, ◌⊎◌, ℕ, true, Some, List, length, position, sym, subst, arith}
use Rattle.std.proofs.lemmas.Bool.{eqb-true}
use Rattle.std.proofs.lemmas.List.Quantifiers.{position-Some}
use Rattle.std.specs.List.{All}
use Rattle.pr_line.specs.declared.options.Options.{Options}
use Rattle.pr_model.specs.State.{TracedState}
use Rattle.pr_model.specs.declared.events.Entry.{Entry}
use Rattle.pr_num.proofs.TableLemmas.{position-within}
use Rattle.pr_truss.specs.Asides.{marks_at}
use Rattle.pr_truss.specs.FunctionEvents.{begins_at}
use Rattle.pr_truss.specs.Marks.{has_function}
use Rattle.pr_truss.specs.Trusses.{TrussState, nobody, traced_at}
use Rattle.pr_truss_laws.specs.Exchanges.{Exchange}
use Rattle.pr_function_laws.proofs.OrdinaryTruss.OrdinaryEntries.{front-run}
use Rattle.pr_function_laws.proofs.PlantedCalls.HeldSince.{held-since}
use Rattle.pr_function_laws.proofs.PlantedCalls.PlantedFacts.{Facts, same-since}
use Rattle.pr_function_laws.proofs.PlantedCalls.PlantedMarks.{Kept, always-kept}
use Rattle.pr_function_laws.specs.FunctionTurns.{is_process}
use Rattle.pr_function_laws.specs.Opened.{IsFunctionRun, functions_at}
use Rattle.pr_function_laws.specs.PlantedByCalls.{IsFirstNamed, IsNoBreakpoint, IsSinceOpened, MarksWhatItPlanted, WasPlanted, WasToldReplaced}
use Rattle.pr_function_laws.specs.ToldTurns.{AreSteppable}

-- What truss has marked as planted is what its calls and their replies tell.

module _ (n k : ℕ) (o : Options) (s : TracedState) (h : List Entry) (run : IsFunctionRun n k o s h)
    (able : AreSteppable o) (others : All IsNoBreakpoint o.functions) where
  module _ (front later : List Entry) (pid place : ℕ) (is : h ≡ front ++ later)
      (traced : position (is_process pid) (functions_at k o front).traced ≡ Some place) where
    abbrev t : TrussState
    t = functions_at k o front

    kept : Kept n k o s able others front
    kept = always-kept n k o s able others front (front-run n k o s front later (subst (IsFunctionRun n k o s) is run))

    found : (place < length t.traced) × ((traced_at t place).pid ≡ pid)
    found =
        let w = position-Some (is_process pid) t.traced place nobody traced in
        (w.0, eqb-true (traced_at t place).pid pid w.1)

    facts : Facts k o s front pid (traced_at t place).control (marks_at t place)
    facts =
        subst (λ p. Facts k o s front p (traced_at t place).control (marks_at t place)) found.1
        (kept.each place found.0)

    opened-so : (control : ℕ) × ((xs : List Exchange) × IsSinceOpened k pid front control xs)
    opened-so = let w = facts in ((traced_at t place).control, (w.xs, w.since))

    module _ (control function : ℕ) (xs : List Exchange) (since : IsSinceOpened k pid front control xs) where
      abbrev Was : ℕ → List Exchange → Type 0
      Was c ys = WasPlanted o c function ys

      mine : ((traced_at t place).control ≡ control) × (let w = facts in w.xs ≡ xs)
      mine =
          let w = facts in same-since k pid front (traced_at t place).control control w.xs xs w.since since

      marked-so : has_function (marks_at t place).planted function ≡ true
          → IsFirstNamed o function × WasPlanted o control function xs
      marked-so has =
          let w = facts in
          let marks = w.marks in (
            marks.planted function has,
            subst (λ c. Was c xs) mine.0 (subst (Was (traced_at t place).control) mine.1 (w.marked function has)),
          )

      planted-so : IsFirstNamed o function → WasPlanted o control function xs
          → (has_function (marks_at t place).planted function ≡ true) ⊎ WasToldReplaced k pid s front
      planted-so named was =
          let w = facts in
          let within : function < length o.functions =
          position-within (begins_at (let f = named.f in f.at)) o.functions function named.first in
          w.planted function (omega (arith, within, able.few)) named
          (subst (λ c. Was c w.xs) (sym mine.0) (subst (Was control) (sym mine.1) was))

pub marks-planted : (n k : ℕ) (o : Options) (s : TracedState) (h : List Entry) → IsFunctionRun n k o s h
    → AreSteppable o → All IsNoBreakpoint o.functions → MarksWhatItPlanted k o s h
marks-planted n k o s h run able others = record {
  opened = λ front later pid place is traced. opened-so n k o s h run able others front later pid place is traced;
  marked = λ front later pid place control function xs is traced since has.
      marked-so n k o s h run able others front later pid place is traced control function xs since has;
  planted = λ front later pid place control function xs is traced since named was.
      planted-so n k o s h run able others front later pid place is traced control function xs since named was;
  held = λ front later pid is w.
      held-since n k o pid s able others front (front-run n k o s front later (subst (IsFunctionRun n k o s) is run)) w;
}

pub ruleset marks_planted = (marks-planted)
