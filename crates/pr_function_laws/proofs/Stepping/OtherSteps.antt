use Rattle.std.proofs.Common.{◌≡◌, ◌≢◌, ◌⊎◌, ℕ, Option, Some, None, refl, sym, subst, ap, ◌∙◌, inl, inr}
use Rattle.std.proofs.lemmas.Bool.{cases_eq}
use Rattle.std.proofs.lemmas.Option.{none-some}
use Rattle.std.specs.Option.{option_map}
use Rattle.pr_num.proofs.ByIdLaws.{under-map_each}
use Rattle.pr_num.specs.ById.{under}
use Rattle.pr_model.specs.Lawful.{IsLawful}
use Rattle.pr_model.specs.Legal.{IsLegalEntry, after, after_turn}
use Rattle.pr_model.specs.LwpTurns.{LwpTurn, turn_of}
use Rattle.pr_model.specs.State.{TracedLwp, TracedProcess, TracedState, live_process, lwp_of}
use Rattle.pr_model.specs.declared.events.Act.{Act}
use Rattle.pr_model.specs.declared.events.Act.TheVariants as act
use Rattle.pr_model.specs.declared.events.Actor.{Actor}
use Rattle.pr_model.specs.declared.events.Actor.TheVariants.{Controller, Lwp, Clock}
use Rattle.pr_model.specs.declared.events.Entry.{Entry}
use Rattle.pr_reached.specs.Fits.{IsFitProcess}
use Rattle.pr_truss_laws.proofs.Machine.OutlastLemmas as outlast
use Rattle.pr_truss_laws.proofs.Machine.OutlastLemmas.{Outlasts, others-entry}
use Rattle.pr_truss_laws.specs.Handles.{HasNoOtherWriter}
use Rattle.pr_truss_laws.specs.Stills.{IsUndisturbed, unsignalled, with_lwp_stopped}
use Rattle.pr_function_laws.specs.Steps.{IsStepped, RunsNoCall, StepGoesOn, StopsAtAll, ends, goes_on, halts}
use Rattle.pr_function_laws.proofs.Stepping.HaltingSteps.{step-halts}
use Rattle.pr_function_laws.proofs.Stepping.StepLemmas.{other-leaves, other-stays, step-alone}

-- A step of one lwp goes on, whatever others do and whatever comes of its own process, until its own turn.

-- the lwp is there still in a process that was left alone
pub stays-there : (p q : TracedProcess) (id : ℕ) (l : TracedLwp) → IsUndisturbed p q → lwp_of p id ≡ Some l
    → (k : TracedLwp) × (lwp_of q id ≡ Some k)
stays-there p q id l alone there =
    found (lwp_of q id) refl
    (sym (under-map_each id unsignalled q.lwps) ∙ ap (under id) alone.same ∙ under-map_each id unsignalled p.lwps
    ∙ ap (option_map unsignalled) there)
  where
    found : (o : Option TracedLwp) → lwp_of q id ≡ o → option_map unsignalled o ≡ Some (unsignalled l)
        → (k : TracedLwp) × (lwp_of q id ≡ Some k)
    found None at is = absurd (none-some (unsignalled l) is)
    found (Some k) at is = (k, at)

module _ (n : ℕ) (s : TracedState) (k pid id : ℕ) (lawful : IsLawful s) (sole : HasNoOtherWriter k pid s.opens)
    (p : TracedProcess) (l : TracedLwp) (live : live_process s.system pid ≡ Some p) (stepped : IsStepped p id l)
    (all : StopsAtAll p.control) (no_call : RunsNoCall p l) (fit : IsFitProcess p) where
  elsewhere : (e : Entry) → IsLegalEntry n s e → ((other : ℕ) → e.actor ≢ Lwp pid other) → e.actor ≢ Controller k
      → StepGoesOn pid id (after s e).system
  elsewhere e legal apart other = by (others-entry n s k pid e p lawful sole legal apart other live)
    where
      by : Outlasts pid p (after s e).system → StepGoesOn pid id (after s e).system
      by (outlast.lives q later alone) =
          let m = stays-there p q id l alone stepped.there in
          goes_on q m.0 later (step-alone p q id l m.0 alone stepped m.1)
      by (outlast.killed z none there status) = ends none

  -- a turn of the process itself: of another lwp, and of this one
  own-turn : (other : ℕ) (t : LwpTurn) → turn_of s.system pid other ≡ Some t → StepGoesOn pid id t.system
  own-turn other t turn = by (cases_eq other id)
    where
      halted : turn_of s.system pid id ≡ Some t → (o : Option TracedProcess) → live_process t.system pid ≡ o
          → StepGoesOn pid id t.system
      halted own None later = ends later
      halted own (Some q) later =
          halts q later (step-halts s.system pid p id l t live stepped all no_call fit own lawful.system q later)

      by : (other ≡ id) ⊎ (other ≢ id) → StepGoesOn pid id t.system
      by (inl same) =
          halted (subst (λ m. turn_of s.system pid m ≡ Some t) same turn) (live_process t.system pid) refl
      by (inr differs) =
          goes_on (with_lwp_stopped other p) l (other-leaves s.system pid p id l other t live stepped differs turn)
          (other-stays p id l other stepped differs)

  others-in : (actor : Actor) (it : Act) → IsLegalEntry n s (record { actor = actor; act = it })
      → actor ≢ Controller k → StepGoesOn pid id (after s (record { actor = actor; act = it })).system
  unfolding IsLegalEntry after
  others-in (Controller j) (act.Call c r) legal other =
      elsewhere (record { actor = Controller j; act = act.Call c r }) legal (λ own same. cc) other
  others-in (Lwp acting own) (act.Turn turned) legal other = by (cases_eq acting pid)
    where
      t : LwpTurn
      t = record { system = legal.0; turned = turned }

      by : (acting ≡ pid) ⊎ (acting ≢ pid) → StepGoesOn pid id (after_turn s (turn_of s.system acting own)).system
      by (inl same) =
          let turn : turn_of s.system pid own ≡ Some t = ap (λ (m : ℕ). turn_of s.system m own) (sym same) ∙ legal.1 in
          subst (λ (o : Option LwpTurn). StepGoesOn pid id (after_turn s o).system) (sym legal.1) (own-turn own t turn)
      by (inr differs) =
          elsewhere (record { actor = Lwp acting own; act = act.Turn turned }) legal (λ other_id same. differs (cc))
          (λ same. cc)
  others-in Clock (act.Tick m) legal other =
      elsewhere (record { actor = Clock; act = act.Tick m }) legal (λ own same. cc) (λ same. cc)
  others-in _ _ legal other = absurd legal

  pub others-step : (e : Entry) → IsLegalEntry n s e → e.actor ≢ Controller k → StepGoesOn pid id (after s e).system
  others-step e legal other = others-in e.actor e.act legal other

pub ruleset others = (others-step)
