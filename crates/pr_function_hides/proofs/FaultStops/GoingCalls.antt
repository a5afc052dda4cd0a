use Rattle.std.proofs.Common.{◌≡◌, ◌≢◌, ◌++◌, ℕ, true, false, Some, None, List, ◌∷◌}
use Rattle.pr_api.specs.Entries.{call_entry}
use Rattle.pr_function_hides.proofs.GoingOn.CalmCalls as Calm
use Rattle.pr_function_hides.proofs.Replies.ClosingWalk.{called_at}
use Rattle.pr_function_hides.proofs.GoingOn.KnownTrusses.{KnownOf, known-on}
use Rattle.pr_function_hides.proofs.Replies.OwnFiles.{GoesOn, HoldsItsFiles}
use Rattle.pr_function_hides.proofs.Tidy.TidyCalls as Calls
use Rattle.pr_function_hides.proofs.Tidy.TidyKept.{Kept}
use Rattle.pr_function_hides.proofs.Tidy.TidyLaw.{kept-at}
use Rattle.pr_function_hides.specs.RunsOfTrusses.{IsRunOfTrusses}
use Rattle.pr_function_hides.specs.TidyWrites.{IsTrussAfter}
use Rattle.pr_function_laws.proofs.OpenedProcesses.OpenedLaws.{Goes}
use Rattle.pr_hidden.specs.Hiders.{Hiders, hides}
use Rattle.pr_model.specs.Lawful.{IsLawful}
use Rattle.pr_model.specs.Legal.{state_after}
use Rattle.pr_model.specs.State.{TracedState, live_process}
use Rattle.pr_model.specs.declared.calls.Call.{Call}
use Rattle.pr_model.specs.declared.calls.Reply.{Reply}
use Rattle.pr_model.specs.declared.events.Entry.{Entry}
use Rattle.pr_truss.specs.FunctionCalls.{function_call_of, next_function_call_of}
use Rattle.pr_truss.specs.Marks.{has_functions}
use Rattle.pr_truss.specs.Replies.{answer_of}
use Rattle.pr_truss.specs.Trusses.{TrussState, traced_at}
use Rattle.pr_truss.specs.declared.asides.Aside.TheVariants.{Nothing}
use Rattle.pr_truss.specs.declared.replies.Answer.TheVariants.{Gone, Interrupted}
use Rattle.pr_world.specs.ControllerStates.{ControllerState}

-- A call of a truss that goes on, which is not interrupted, and what is known of truss then.

module _ {n : ℕ} {who : Hiders} {controllers : List ControllerState} {first : TracedState}
    {h : List Entry} (run : IsRunOfTrusses n who controllers first h) (front back : List Entry)
    (j : ℕ) (c : Call) (r : Reply) (place : h ≡ front ++ call_entry j c r ∷ back) (hider : hides who j ≡ true) where
  abbrev v : TracedState
  v = state_after first front

  abbrev kept-now : Kept who controllers first h front
  kept-now = kept-at run front (call_entry j c r ∷ back) place

  abbrev tr : TrussState
  tr = Calls.tr run front back j c r place kept-now hider

  pub record Going : Type 0 where
    pub off : tr.leaving ≡ false
    pub calm : answer_of r ≢ Interrupted
    pub holds : HoldsItsFiles j tr v
    pub has : has_functions tr.options ≡ true
    pub next : next_function_call_of tr ≡ Some c
    pub is : IsTrussAfter who controllers first h front j tr
    pub facts : KnownOf run front j hider tr
    pub goes : Goes (Unit {0}) j (let it = run.are.trusses j hider in it.options) tr v
    pub lawful : IsLawful v
    -- the call is that of its stage
    pub call : tr.aside ≡ Nothing → function_call_of tr tr.stage ≡ Some c

  pub going : GoesOn tr → answer_of r ≢ Interrupted → Going
  going g calm =
      let e : Entry = call_entry j c r in
      let is = Calm.is-now run front back j c r place hider in
      let facts = known-on run front (e ∷ back) place j hider tr is g.off in
      record {
        off = g.off;
        calm = calm;
        holds = Calm.holds run front e back place j hider g.off;
        has = Calm.has run front back j c r place hider;
        next = Calm.next run front back j c r place hider;
        is = is;
        facts = facts;
        goes = facts.goes;
        lawful = Calm.lawful run front back j c r place hider;
        call = Calm.call-now run front back j c r place hider;
      }

  -- a process of which it is told that it is gone has ended
  pub told-over : Going → (q : ℕ) → called_at tr.stage tr.aside ≡ Some q → answer_of r ≡ Gone
      → live_process v.system (traced_at tr q).pid ≡ None
  told-over on = Calm.told-over run front back j c r place hider on.off
