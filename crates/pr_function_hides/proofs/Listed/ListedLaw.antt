use Rattle.std.proofs.Common.{◌≡◌, ◌++◌, ℕ, List, ◌∷◌, sym, ap, ◌∙◌}
use Rattle.pr_line.specs.declared.options.Options.{Options}
use Rattle.pr_model.specs.Legal.{IsLegalEntry, state_after}
use Rattle.pr_model.specs.State.{TracedState, live_process}
use Rattle.pr_model.specs.declared.events.Entry.{Entry}
use Rattle.pr_model.specs.declared.events.Turned.{Turned}
use Rattle.pr_num.specs.Control.{prot_exec}
use Rattle.pr_num.specs.Spaces.{bytes_for}
use Rattle.pr_truss.specs.Trusses.{TrussState}
use Rattle.pr_function_laws.proofs.LeavingProcesses.LeavingCourse.{entry-legal}
use Rattle.pr_function_laws.specs.ReachedRuns.{IsReachedFunctionRun}
use Rattle.pr_function_laws.specs.Opened.{functions_at}
use Rattle.pr_function_laws.specs.ToldTurns.{AreSteppable}
use Rattle.pr_function_hides.proofs.StepsUnderWay.FetchedBreakpoints.{none-fetched, trapped-moves}
use Rattle.pr_function_hides.proofs.Listed.LeavingLists.{lists-its-turns}
use Rattle.pr_function_hides.proofs.StepsUnderWay.TrapTurns.{BreakpointsHold, turn_entry}
use Rattle.pr_function_hides.specs.ListedCalls.{FetchesBreakpoints, ListsItsTurns}

-- The calls of functions that truss has shown are the turns that are such calls, where no lwp completes an instruction
-- at one of its breakpoints.

module _ (n k : ℕ) (o : Options) (s : TracedState) (h : List Entry) (run : IsReachedFunctionRun n k o s h)
    (able : AreSteppable o) where
  abbrev T : List Entry → TrussState
  T front = functions_at k o front

  abbrev S : List Entry → TracedState
  S front = state_after s front

  turn-legal : (front later : List Entry) (pid id : ℕ) (t : Turned) → h ≡ front ++ turn_entry pid id t ∷ later
      → IsLegalEntry n (S front) (turn_entry pid id t)
  turn-legal front later pid id t is =
      entry-legal (Unit {0}) n k o s h run.of (λ r. run.reached) (λ r. run.bytes) front (turn_entry pid id t) later is

  turns-listed : BreakpointsHold k o s h → (pid : ℕ) → ListsItsTurns k o s h pid
  turns-listed facts = lists-its-turns n k o s h run able facts

  -- ---- what is fetched where they stand is a breakpoint

  fetched-none : FetchesBreakpoints k o s h → BreakpointsHold k o s h
  fetched-none fetches = record {
    none_runs = λ front later pid place id t p l function f is within own trap live there user named at planted.
        none-fetched n s front pid id t (turn-legal front later pid id t is) p l live there trap user (λ xs fetch.
        fetches.each front later place id function t p l f xs
        (is ∙ ap (λ i. front ++ turn_entry i id t ∷ later) (sym own)) within
        (ap (live_process (S front).system) own ∙ live) there user
        (trapped-moves n s front pid id t (turn-legal front later pid id t is) p l live there trap) named at planted
        (ap (λ i. bytes_for prot_exec p.space i 16) at ∙ fetch));
  }

  pub fetched-turns : FetchesBreakpoints k o s h → (pid : ℕ) → ListsItsTurns k o s h pid
  fetched-turns fetches = turns-listed (fetched-none fetches)
