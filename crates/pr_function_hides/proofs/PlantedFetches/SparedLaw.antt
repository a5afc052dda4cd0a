use Rattle.std.proofs.Common.{◌≡◌, ◌<◌, ◌++◌, ℕ, true, false, Some, List, ◌∷◌, length, refl, sym, subst, ap, ◌∙◌}
use Rattle.std.specs.List.{slice_get}
use Rattle.pr_hidden.specs.Hiders.{Hiders, covers_at, hides}
use Rattle.pr_hidden.specs.Tidiness.{IsSparing}
use Rattle.pr_line.specs.declared.options.Options.{Options}
use Rattle.pr_model.specs.Legal.{IsLegalEntry, state_after}
use Rattle.pr_model.specs.State.{TracedProcess, TracedState, live_process}
use Rattle.pr_model.specs.declared.events.Entry.{Entry}
use Rattle.pr_model.specs.declared.events.Turned.{Turned}
use Rattle.pr_num.proofs.SearchLemmas.{All-at}
use Rattle.pr_truss.specs.Asides.{marks_at}
use Rattle.pr_truss.specs.Trusses.{TrussState, first_truss, traced_at}
use Rattle.pr_world.specs.ControllerStates.{ControllerState, FnTruss}
use Rattle.pr_function_laws.proofs.LeavingProcesses.LeavingCourse.{entry-legal}
use Rattle.pr_function_laws.specs.Opened.{IsFunctionRun, functions_at}
use Rattle.pr_function_hides.proofs.Files.CallFacts.{same-truss}
use Rattle.pr_function_hides.proofs.Listed.StartedTrusses.{started-truss}
use Rattle.pr_function_hides.proofs.PlantedFetches.SparedFunctions.{spared-leaves}
use Rattle.pr_function_hides.proofs.Tidy.OwnWrites.{breakpoint-size}
use Rattle.pr_function_hides.proofs.Tidy.TidyLaw.{kept-at}
use Rattle.pr_function_hides.proofs.StepsUnderWay.TrapTurns.{turn_entry}
use Rattle.pr_function_hides.proofs.Tidy.WritesLaw.{writes-tidily}
use Rattle.pr_function_hides.specs.FunctionHiders.{ArePatchable, IsPatchable, StandAsMarked, patch_of}
use Rattle.pr_function_hides.specs.PlantedBreakpoints.{LeavesPlanted, breakpoint_of}
use Rattle.pr_function_hides.specs.RunsOfTrusses.{IsRunOfTrusses}
use Rattle.pr_function_hides.specs.TidyWrites.{IsTrussAfter}

-- Programs that leave the breakpoints alone which stand in a run of trusses leave alone each function that a truss has
-- marked as planted.

module _ (n k : ℕ) (who : Hiders) (controllers : List ControllerState) (o : Options) (s : TracedState) (h : List Entry)
    (run : IsFunctionRun n k o s h) (trusses : IsRunOfTrusses n who controllers s h) (hider : hides who k ≡ true)
    (starts : slice_get controllers k ≡ Some (FnTruss (first_truss o))) (sparing : IsSparing who s h) where
  abbrev T : List Entry → TrussState
  T front = functions_at k o front

  abbrev S : List Entry → TracedState
  S front = state_after s front

  turn-legal : (front later : List Entry) (pid id : ℕ) (t : Turned) → h ≡ front ++ turn_entry pid id t ∷ later
      → IsLegalEntry n (S front) (turn_entry pid id t)
  turn-legal front later pid id t is =
      entry-legal (Unit {0}) n k o s h run (λ r. trusses.reached) (λ r. trusses.bytes) front (turn_entry pid id t) later
      is

  after-front : (front : List Entry) → IsTrussAfter who controllers s h front k (T front)
  after-front = started-truss k who controllers o s h starts

  marked-there : (front later : List Entry) (place : ℕ) (p : TracedProcess) → h ≡ front ++ later
      → place < length (T front).traced → live_process (S front).system (traced_at (T front) place).pid ≡ Some p
      → StandAsMarked (T front).options (marks_at (T front) place).planted
      (covers_at who s front (traced_at (T front) place).pid).patches
  marked-there front later place p is within live =
      let w = writes-tidily trusses in
      w.marked front later k (T front) place p is hider (after-front front) within live

  no-agent : (front later : List Entry) (pid : ℕ) → h ≡ front ++ later → (covers_at who s front pid).agent ≡ false
  no-agent front later pid is =
      let w = kept-at trusses front later is in
      w.no_agent pid

  -- its functions can be patched
  patchable-there : (front later : List Entry) → h ≡ front ++ later → ArePatchable (T front).options
  patchable-there front later is =
      let kept = kept-at trusses front later is in
      let w = kept.trusses k hider in
      let names = w.sound.names in
      let i = w.it in
      subst ArePatchable
      (sym (ap (λ (u : TrussState). u.options)
      (sym (same-truss w.t (T front) _ w.is (after-front front)))
      ∙ names.options)) i.patchable

  pub leaves_planted : LeavesPlanted k o s h
  leaves_planted = record {
    alone = λ front later place id function t p l f is within live there going named planted.
        let its : Entry = turn_entry (traced_at (T front) place).pid id t in
        let w = marked-there front (its ∷ later) place p is within live in
        let patchable = patchable-there front (its ∷ later) is in
        let fit : IsPatchable f = All-at IsPatchable (T front).options.functions function f named patchable.each in
        spared-leaves n who s h sparing front later (traced_at (T front) place).pid id t is
        (turn-legal front later (traced_at (T front) place).pid id t is)
        (no-agent front (its ∷ later) (traced_at (T front) place).pid is) p l live there going (breakpoint_of f)
        (patch_of f) refl (fit.size ∙ sym breakpoint-size) (w.each function f named planted);
  }
