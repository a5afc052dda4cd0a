use Rattle.std.proofs.Common.{◌≡◌, cond, Option, Some, None, List, [], ◌∷◌, ℕ, refl, sym, subst, ap, ◌∙◌, inl, inr}
use Rattle.std.proofs.lemmas.Bool.{cases_eq, eq-eqb, ne_eqb}
use Rattle.std.specs.List.{cons_option, slice_get}
use Rattle.pr_hidden.specs.Hiders.{Hiders}
use Rattle.pr_line.specs.declared.options.Options.{Options}
use Rattle.pr_model.specs.State.{TracedState}
use Rattle.pr_model.specs.declared.events.Act.{Act}
use Rattle.pr_model.specs.declared.events.Act.TheVariants as act
use Rattle.pr_model.specs.declared.events.Actor.{Actor}
use Rattle.pr_model.specs.declared.events.Actor.TheVariants.{Controller, Lwp, Clock}
use Rattle.pr_model.specs.declared.events.Entry.{Entry}
use Rattle.pr_report_laws.proofs.Files.WatchHistories.{cons-exchanges, no-exchanges}
use Rattle.pr_tool_laws.proofs.Stages.ProtocolLemmas.{fed-other, fed-own}
use Rattle.pr_truss.specs.FunctionFeeding.{fed_functions}
use Rattle.pr_truss.specs.Trusses.{TrussState, first_truss}
use Rattle.pr_truss_laws.specs.Exchanges.{Exchange, exchange_in, exchange_of, exchanges}
use Rattle.pr_world.specs.ControllerStates.{ControllerState, FnTruss}
use Rattle.pr_world.specs.Controllers.{after_reply, with_fed}
use Rattle.pr_world.specs.Protocol.{controllers_after, controllers_at}
use Rattle.pr_function_laws.specs.Opened.{functions_at}
use Rattle.pr_function_laws.specs.Runs.{functions_after, functions_on}
use Rattle.pr_function_hides.specs.TidyWrites.{IsTrussAfter}

-- A controller that is a truss before its first call is that truss wherever its history has come to.

-- the controller of truss after an entry
entry-after : (controllers : List ControllerState) (k : ℕ) (t : TrussState) (actor : Actor) (did : Act)
    → slice_get controllers k ≡ Some (FnTruss t)
    → slice_get (controllers_after controllers (record { actor = actor; act = did })) k
    ≡ Some (FnTruss (functions_on t (exchange_in k actor did)))
unfolding controllers_after after_reply
entry-after controllers k t (Controller by) (act.Call c r) at = elim (cases_eq by k) [
  | inl same ↦
      subst (λ i. slice_get (with_fed i r controllers) k ≡ Some (FnTruss (fed_functions t r))) (sym same)
      (fed-own controllers k r (FnTruss t) at)
      ∙ ap (λ b. Some (FnTruss (functions_on t (cond b (Some (record { call = c; reply = r })) None))))
      (sym (eq-eqb by k same))
  | inr other ↦ fed-other controllers by k r other ∙ at
      ∙ ap (λ b. Some (FnTruss (functions_on t (cond b (Some (record { call = c; reply = r })) None))))
      (sym (ne_eqb by k other))
]
entry-after controllers k t (Controller by) (act.Turn turned) at = at
entry-after controllers k t (Controller by) (act.Tick moment) at = at
entry-after controllers k t (Lwp pid id) did at = at
entry-after controllers k t Clock did at = at

after-first : (t : TrussState) (x : Option Exchange) (xs : List Exchange)
    → functions_after (functions_on t x) xs ≡ functions_after t (cons_option x xs)
after-first t None xs = refl
after-first t (Some x) xs = refl

-- and after a history
truss-after : (h : List Entry) (controllers : List ControllerState) (k : ℕ) (t : TrussState)
    → slice_get controllers k ≡ Some (FnTruss t)
    → slice_get (controllers_at controllers h) k ≡ Some (FnTruss (functions_after t (exchanges k h)))
truss-after [] controllers k t at = at ∙ ap (λ xs. Some (FnTruss (functions_after t xs))) (sym (no-exchanges k))
truss-after (e ∷ h) controllers k t at =
    truss-after h (controllers_after controllers e) k (functions_on t (exchange_of k e))
    (entry-after controllers k t e.actor e.act at)
    ∙ ap (λ u. Some (FnTruss u))
    (after-first t (exchange_of k e) (exchanges k h) ∙ ap (functions_after t) (sym (cons-exchanges k e h)))

pub started-truss : (k : ℕ) (who : Hiders) (controllers : List ControllerState) (o : Options) (s : TracedState)
    (h : List Entry) → slice_get controllers k ≡ Some (FnTruss (first_truss o)) → (front : List Entry)
    → IsTrussAfter who controllers s h front k (functions_at k o front)
started-truss k who controllers o s h starts front = truss-after front controllers k (first_truss o) starts
