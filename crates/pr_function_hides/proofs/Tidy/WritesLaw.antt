use Rattle.std.proofs.Common.{◌≡◌, ◌<◌, ◌++◌, ℕ, true, Some, List, [], ◌∷◌, length, subst}
use Rattle.pr_api.specs.Entries.{call_entry}
use Rattle.pr_function_hides.proofs.Files.CallFacts.{same-truss}
use Rattle.pr_function_hides.proofs.CodeThere.CodeLaw.{counted-at}
use Rattle.pr_function_hides.proofs.Tidy.CopyFree.{copies-bare}
use Rattle.pr_function_hides.proofs.Tidy.TidyChanges.{kill-tidy, turn-changes}
use Rattle.pr_function_hides.proofs.Tidy.TidyLaw.{kept-at, lenders-at}
use Rattle.pr_function_hides.proofs.Tidy.TidySent.{sent-tidy}
use Rattle.pr_function_hides.specs.Copying.{makes_copy}
use Rattle.pr_function_hides.specs.FunctionHiders.{StandAsMarked}
use Rattle.pr_function_hides.specs.RunsOfTrusses.{IsRunOfTrusses}
use Rattle.pr_function_hides.specs.TidyWrites.{WritesTidily}
use Rattle.pr_hidden.specs.Covers.{Covers}
use Rattle.pr_hidden.specs.Hiders.{Hiders, covers_at}
use Rattle.pr_model.specs.Legal.{state_after}
use Rattle.pr_model.specs.State.{TracedState, live_process}
use Rattle.pr_model.specs.declared.calls.Call.TheVariants as call
use Rattle.pr_model.specs.declared.events.Act.TheVariants as act
use Rattle.pr_model.specs.declared.events.Actor.TheVariants.{Lwp}
use Rattle.pr_model.specs.declared.events.Entry.{Entry}
use Rattle.pr_model.specs.declared.events.Turned.{Turned}
use Rattle.pr_truss.specs.Asides.{marks_at}
use Rattle.pr_truss.specs.Trusses.{TrussState, traced_at}
use Rattle.pr_world.specs.ControllerStates.{ControllerState}

-- The writes of each truss are tidy, and the breakpoints that stand are those that it has marked, whether or not it is
-- interrupted.

module _ {n : ℕ} {who : Hiders} {controllers : List ControllerState} {first : TracedState}
    {h : List Entry} (run : IsRunOfTrusses n who controllers first h) where
  abbrev at : List Entry → Covers
  at front = covers_at who first front

  abbrev now : List Entry → TracedState
  now front = state_after first front

  -- a fork, a vfork and an exec that is granted finds no breakpoint
  copies-at : (front back : List Entry) (pid id : ℕ) (t : Turned)
      → h ≡ front ++ record { actor = Lwp pid id; act = act.Turn t } ∷ back → makes_copy t.did ≡ true
      → (at front pid).patches ≡ []
  copies-at front back pid id t place makes =
      copies-bare run front back pid id t place makes
      (kept-at run front
      (record { actor = Lwp pid id; act = act.Turn t } ∷ back) place)

  pub writes-tidily : WritesTidily who controllers first h
  writes-tidily = record {
    tidy = λ front back k handle sent r place hider begins.
        sent-tidy run front back k handle sent r place
        (kept-at run front
        (call_entry k (call.Ctl handle sent) r ∷ back) place) hider
        (counted-at run front (call_entry k (call.Ctl handle sent) r ∷ back) place) begins;
    turns = λ front back pid id t p l place live there.
        turn-changes n who controllers first h run.legal copies-at (lenders-at run) front back pid id t p l place
        live there;
    kills = λ front back k pid number r place.
        kill-tidy n who controllers first h run.legal copies-at (lenders-at run) front back k pid number r place;
    marked = λ front back k t q p place hider is within live.
        let w =
        let kept = kept-at run front back place in
        kept.trusses k hider in
        let same : w.t ≡ t = same-truss w.t t _ w.is is in
        subst (λ (x : TrussState). q < length x.traced → live_process (now front).system (traced_at x q).pid ≡ Some p
        → StandAsMarked x.options (marks_at x q).planted (at front (traced_at x q).pid).patches) same
        (λ inside lives. w.stand q inside (p, lives)) within live;
  }

pub ruleset tidily = (writes-tidily)
