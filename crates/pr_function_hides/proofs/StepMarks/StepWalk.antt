use Rattle.std.proofs.Common.{◌≡◌, ◌++◌, ℕ, List, [], ◌∷◌, sym, subst, ◌∙◌, inl}
use Rattle.std.proofs.Common.{inr}
use Rattle.std.proofs.lemmas.Bool.{cases_Bool}
use Rattle.std.proofs.lemmas.List.{append-nil, append_assoc}
use Rattle.std.proofs.lemmas.List.Elements.{All-weaker}
use Rattle.pr_api.specs.Entries.{call_entry}
use Rattle.pr_function_hides.proofs.Files.CallFacts.{legal-here, same-truss}
use Rattle.pr_function_hides.proofs.Replies.ClosingWalk.{first-closes}
use Rattle.pr_function_hides.proofs.StepMarks.StepsGoing.{truss-steps}
use Rattle.pr_function_hides.proofs.StepMarks.StepsKept.{Going, SetsAt, StepsKept, other-steps}
use Rattle.pr_function_hides.proofs.StepMarks.StepsKept.{tick-steps, turn-steps}
use Rattle.pr_function_hides.specs.RunsOfTrusses.{IsRunOfTrusses}
use Rattle.pr_function_laws.proofs.Marks.KeptPlaces.{first-kept}
use Rattle.pr_function_laws.proofs.Pending.KnownFiles.{known-first}
use Rattle.pr_hidden.specs.Hiders.{Hiders, hides}
use Rattle.pr_hidden.specs.Tidiness.{IsPassiveBut}
use Rattle.pr_model.specs.Legal.{IsLegal, IsLegalEntry, state_after}
use Rattle.pr_model.specs.State.{TracedState}
use Rattle.pr_model.specs.declared.calls.Call.{Call}
use Rattle.pr_model.specs.declared.calls.Reply.{Reply}
use Rattle.pr_model.specs.declared.events.Act.{Act}
use Rattle.pr_model.specs.declared.events.Act.TheVariants as act
use Rattle.pr_model.specs.declared.events.Actor.{Actor}
use Rattle.pr_model.specs.declared.events.Actor.TheVariants.{Clock, Controller, Lwp}
use Rattle.pr_model.specs.declared.events.Entry.{Entry}
use Rattle.pr_probe_laws.proofs.StepMarks.MarkTurns.{IsOne}
use Rattle.pr_probe_laws.specs.StepMarks.{IsUnmarkedAt, IsUnstepped, IsUnsteppedProcess}
use Rattle.pr_truss.specs.Trusses.{first_truss}
use Rattle.pr_world.specs.ControllerStates.{ControllerState}
pub use Rattle.pr_function_hides.proofs.StepMarks.StepsKept.{Calm, IsGone, Over}

-- Only who runs a process has set step marks in it: none stands in one whose control file nobody who hides has open,
-- nor in one that truss is still opening.

-- ---- the history

module _ {n : ℕ} {who : Hiders} {controllers : List ControllerState} {first : TracedState}
    {h : List Entry} (run : IsRunOfTrusses n who controllers first h) (passive : IsPassiveBut who h)
    (unstepped : IsUnstepped first.system) where
  called-steps : (front back : List Entry) (j : ℕ) (c : Call) (r : Reply)
      → h ≡ front ++ call_entry j c r ∷ back → StepsKept run passive unstepped front
      → StepsKept run passive unstepped (front ++ call_entry j c r ∷ [])
  called-steps front back j c r place steps = elim (cases_Bool (hides who j)) [
    | inl hider ↦ truss-steps run passive unstepped front back j c r place steps hider
    | inr bare ↦ other-steps run passive unstepped front back j c r place bare steps
  ]

  entry-steps : (front : List Entry) (actor : Actor) (did : Act) (back : List Entry)
      → h ≡ front ++ record { actor = actor; act = did } ∷ back
      → IsLegalEntry n (state_after first front) (record { actor = actor; act = did })
      → StepsKept run passive unstepped front
      → StepsKept run passive unstepped (front ++ record { actor = actor; act = did } ∷ [])
  unfolding IsLegalEntry
  entry-steps front (Controller j) (act.Call c r) back place it steps = called-steps front back j c r place steps
  entry-steps front (Lwp acting id) (act.Turn turned) back place it steps =
      turn-steps run passive unstepped front back acting id turned place steps
  entry-steps front Clock (act.Tick moment) back place it steps =
      tick-steps run passive unstepped front back moment place steps
  entry-steps front _ _ back place it steps = absurd it

  walk : (middle front back : List Entry) → h ≡ front ++ (middle ++ back) → StepsKept run passive unstepped front
      → StepsKept run passive unstepped (front ++ middle)
  walk [] front back place steps = subst (StepsKept run passive unstepped) (sym (append-nil front)) steps
  walk (e ∷ middle) front back place steps =
      subst (StepsKept run passive unstepped) (append_assoc front (e ∷ []) middle)
      (walk middle (front ++ e ∷ []) back (place ∙ sym (append_assoc front (e ∷ []) (middle ++ back)))
      (entry-steps front e.actor e.act (middle ++ back) place
      (legal-here n first front e (middle ++ back) (subst (λ (es : List Entry). IsLegal n first es) place run.legal))
      steps))

  pub first-calm : (pid : ℕ) → Calm run passive unstepped [] pid
  first-calm pid = inl (record {
    processes =
        All-weaker IsUnsteppedProcess (IsUnmarkedAt (IsOne pid)) (λ x it. record { lwps = λ same. it.lwps })
        first.system.processes unstepped.processes;
  })

  at-first : StepsKept run passive unstepped []
  at-first = record {
    bare = λ pid. inl (first-calm pid);
    trusses = λ k hider t is off.
        let i = run.are.trusses k hider in
        subst (Going run passive unstepped []) (same-truss (first_truss i.options) t _ i.starts is)
        (record {
          closing = first-closes (Over run passive unstepped []) (λ step pid. Calm run passive unstepped [] pid)
              (Calm run passive unstepped []) i.options;
          known = known-first i.options i.follows_none;
          sets = first-kept (SetsAt run passive unstepped []) i.options i.follows_none;
        });
  }

  pub steps-at : (front back : List Entry) → h ≡ front ++ back → StepsKept run passive unstepped front
  steps-at front back place = walk front [] back place at-first
