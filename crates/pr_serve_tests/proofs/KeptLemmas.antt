-- The history that a call of `serve` leaves is a legal one of the scenario that its input is.
use Rattle.std.proofs.Common.{◌≡◌, ◌∙◌, ◌⊎◌, inl, inr, ℕ, List, [], Option, Some, None, Result, Ok, Err, IfOk, length, refl, sym, subst}
use Rattle.std.proofs.lemmas.List.{length-map}
use Rattle.pr_ends.specs.Inputs.{Took}
use Rattle.pr_model.specs.Legal.{IsLegal}
use Rattle.pr_model.specs.declared.events.Entry.{Entry}
use Rattle.pr_num.specs.Limits.{scenario_limit}
use Rattle.pr_run_laws.specs.ScenarioRuns.{IsKept, controller_of, first_state_of}
use Rattle.pr_scen.specs.Reading.{scenario_of}
use Rattle.pr_scen.specs.Refusals.{ScenFault}
use Rattle.pr_scen.specs.Scenarios.{Scenario}
use Rattle.pr_commands.specs.Histories.{HistoryIsKept, Making, by_threads, in_rounds, no_run}
use Rattle.pr_commands.specs.Inputs.{scenario_of_input, too_long}

-- the scenario that was read is the one of the bytes that were there
same-scenario : (left : List ℕ) (new input : Option (List ℕ)) (s t : Scenario)
    → Took scenario_limit (Some left) new input → scenario_of_input input ≡ Ok t → scenario_of left ≡ Ok s → t ≡ s
unfolding scenario_of_input
same-scenario left new None s t took read is = let never : Err too_long ≡ Ok t = read in cc
same-scenario left new (Some bytes) s t took read is =
    let same : scenario_of bytes ≡ Ok s = subst (λ (x : List ℕ). scenario_of x ≡ Ok s) (sym took.read.all) is in
    subst (λ (x : Result Scenario ScenFault). IfOk x (λ u. t ≡ u)) (sym read ∙ same) refl

-- a history without entries is
nothing-legal : (s : Scenario) (h : List Entry) → h ≡ [] → IsLegal (length s.controllers) (first_state_of s) h
nothing-legal s h none = subst (IsLegal (length s.controllers) (first_state_of s)) (sym none) tt

-- one that is kept is
kept-legal : (s t : Scenario) (h : List Entry) → t ≡ s → IsKept t h
    → IsLegal (length s.controllers) (first_state_of s) h
kept-legal s t h same kept =
    subst (λ (x : Scenario). IsLegal (length x.controllers) (first_state_of x) h) same
    (subst (λ (n : ℕ). IsLegal n (first_state_of t) h) (length-map t.controllers controller_of) kept.legal)

pub left-legal : (making : Making) (left : List ℕ) (new : Option (List ℕ)) (h : List Entry) (s : Scenario)
    → HistoryIsKept making (Some left) new h → scenario_of left ≡ Ok s
    → IsLegal (length s.controllers) (first_state_of s) h
left-legal no_run left new h s none is = nothing-legal s h none
left-legal in_rounds left new h s (inl none) is = nothing-legal s h none
left-legal in_rounds left new h s (inr made) is =
    kept-legal s made.run.scenario h
    (same-scenario left new made.input s made.run.scenario made.took made.run.read is) made.kept
left-legal by_threads left new h s (inl none) is = nothing-legal s h none
left-legal by_threads left new h s (inr made) is =
    kept-legal s made.made.scenario h
    (same-scenario left new made.input s made.made.scenario made.took made.made.read is) made.kept
