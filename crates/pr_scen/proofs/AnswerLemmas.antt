-- What was read of a text.
use Rattle.std.proofs.Common.{ℕ, List, Result, Ok, Err}
use Rattle.std.specs.Result.{IfOk}
use Rattle.pr_scen.proofs.LimitLemmas.{scenario_within}
use Rattle.pr_scen.proofs.StepLemmas.{of_ok}
use Rattle.pr_scen.specs.Reading.{scenario_of}
use Rattle.pr_text.specs.TextLines.{lines_of}
use Rattle.pr_text.specs.Reads.{Answers}
use Rattle.pr_scen.specs.Scenarios.{Scenario, IsWithinLimits}
use Rattle.pr_scen.specs.Refusals.{ScenRefusal}

answer_of : (P : Scenario → Type 0) (text : List ℕ) (r : Result Scenario ScenRefusal) → IfOk (scenario_of text) P
    → Answers (λ s. s) r (scenario_of text) → IfOk r P
answer_of P text (Ok s) p read = of_ok P (scenario_of text) s read p
answer_of P text (Err e) p read = tt

pub answer_within : (text : List ℕ) (r : Result Scenario ScenRefusal) → Answers (λ s. s) r (scenario_of text)
    → IfOk r IsWithinLimits
answer_within text r read = answer_of IsWithinLimits text r (scenario_within (lines_of text)) read
