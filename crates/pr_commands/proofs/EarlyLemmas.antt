use Rattle.std.proofs.Common.{◌≡◌, ◌≤◌, ◌⊎◌, inl, inr, ℕ, List, [], Option, Ok, sym, subst}
use Rattle.pr_model.specs.declared.events.Entry.{Entry}
use Rattle.pr_run_laws.specs.Prefixes.{IsPrefix}
use Rattle.pr_run_laws.specs.ScenarioRuns.{history_after}
use Rattle.pr_run_laws.proofs.KeptRuns.GrowthLemmas.{run-grows}
use Rattle.pr_scen.specs.Scenarios.{Scenario}
use Rattle.pr_commands.specs.Histories.{IsAfterMoves, RanOutEarly, in_rounds}
use Rattle.pr_commands.specs.Inputs.{scenario_of_input}
use Rattle.pr_commands.specs.Made.{IsBroughtSoFar, StoppedRun}
use Rattle.pr_commands.proofs.RunLemmas.{first_world-places}

-- A run that was stopped since memory ran out is on the way of its input.
on_the_way : (input : Option (List ℕ)) (s : Scenario) (h : List Entry) → scenario_of_input input ≡ Ok s
    → IsBroughtSoFar s h → (h ≡ []) ⊎ IsAfterMoves input h
on_the_way input s h read (inl none) = inl none
on_the_way input s h read (inr way) =
    let within : way.moves ≤ s.turns = subst (λ (n : ℕ). way.moves ≤ n) (first_world-places s) way.within in
    let prefix : IsPrefix h (history_after s.turns s) =
    subst (λ (x : List Entry). IsPrefix x (history_after s.turns s)) (sym way.is)
    (run-grows s way.moves s.turns within) in
    inr (record { scenario = s; read = read; moves = way.moves; within = within; is = way.is; prefix = prefix })

pub stopped-early : (input : Option (List ℕ)) (s : Scenario) (h : List Entry) (old new : Option (List ℕ))
    → scenario_of_input input ≡ Ok s → StoppedRun s h old new → RanOutEarly in_rounds input h old new
stopped-early input s h old new read stopped =
    record { unwritten = stopped.unwritten; left = on_the_way input s h read stopped.so_far }
