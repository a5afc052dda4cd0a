-- The run of a scenario is shown, or what was made of it is left.
use Rattle.std.proofs.Common.{◌≡◌, ◌∙◌, ℕ, List, Option, Result, Ok, Err, IfOk, OnErr, OnOk, sym, ap, subst}
use Rattle.pr_model.specs.declared.events.Entry.{Entry}
use Rattle.pr_num.specs.declared.memory.NoMemory.{NoMemory}
use Rattle.pr_output.specs.declared.reports.Report.{Report}
use Rattle.pr_run_laws.specs.ScenarioRuns.{run_of}
use Rattle.pr_scen.specs.Scenarios.{Scenario}
use Rattle.pr_world.specs.Worlds.{end_of}
use Rattle.pr_world.specs.declared.ends.End.{End}
use Rattle.pr_commands.proofs.GivingLemmas.{gives-early, gives-else}
use Rattle.pr_commands.specs.Answers.{RunText, ran, ran_so}
use Rattle.pr_commands.specs.Giving.{Responds, StopsEarly}
use Rattle.pr_commands.specs.Made.{IsBroughtSoFar, LeftWith, StoppedRun}
use Rattle.pr_commands.specs.Reports.{reports_of}
use Rattle.pr_commands.specs.declared.outcomes.Status.{Status}
use Rattle.pr_commands.specs.declared.runs.Ran.{Ran}

-- What is asked of the history of the run is so of the history that was made.
pub made-fits : (Fits : List Entry → Type 0) (r : Result Ran NoMemory) (made h : List Entry) → OnOk r (made ≡ h)
    → Fits h → OnOk r (Fits made)
made-fits Fits (Ok run) made h is fits = subst Fits (sym is) fits
made-fits Fits (Err e) made h is fits = tt

module _ (text : RunText) (s : Scenario) (made : List Entry) (status : Status) (h : List Entry)
    (old new : Option (List ℕ)) (before after : ℕ) where
  -- What was made so far is left of the run.
  so-far : IsBroughtSoFar s made → LeftWith made h old new → StoppedRun s h old new
  so-far brought left = record { unwritten = left.unwritten; so_far = subst (IsBroughtSoFar s) (sym left.is) brought }

  pub made-shown : (r : Result Ran NoMemory) → IfOk r (λ run. run.end ≡ end_of (run_of s))
      → IfOk r (λ run. run.reports.items ≡ reports_of (run_of s)) → OnOk r (made ≡ (run_of s).kernel.history)
      → OnErr r (IsBroughtSoFar s made)
      → IfOk r (λ run. Responds (ran_so text run.end made run.reports.items) ⊥ status h old new before after)
      → OnErr r (StopsEarly (LeftWith made h old new) status before after)
      → Responds (ran text (run_of s)) (StoppedRun s h old new) status h old new before after
  unfolding ran
  made-shown (Ok run) ended reports history brought shown stopped =
      let same =
      ap (λ (e : End). ran_so text e made run.reports.items) ended
      ∙ (ap (λ (x : List Entry). ran_so text (end_of (run_of s)) x run.reports.items) history
      ∙ ap (λ (rs : List Report). ran_so text (end_of (run_of s)) (run_of s).kernel.history rs) reports) in
      gives-else (ran_so text run.end made run.reports.items) (ran text (run_of s)) ⊥
      (StoppedRun s h old new) status h old new before after same (λ never. absurd never) shown
  made-shown (Err e) ended reports history brought shown stopped =
      gives-early (ran text (run_of s)) (StoppedRun s h old new) status h old new before after
      (record { status_is = stopped.status_is; left = so-far brought stopped.left; no_fault = stopped.no_fault })
