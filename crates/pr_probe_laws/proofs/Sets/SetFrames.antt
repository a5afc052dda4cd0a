use Rattle.std.proofs.Common.{◌≡◌, ◌≢◌, ◌⊎◌, ◌<◌, ℕ, Option, Some, None, refl, sym, ap, ◌∙◌, inl, inr}
use Rattle.std.proofs.lemmas.Bool.{cases_eq}
use Rattle.std.proofs.lemmas.Option.{none-some, same_Some}
use Rattle.pr_model.specs.Lawful.{IsLawful}
use Rattle.pr_model.specs.Legal.{IsLegalEntry, after, after_turn}
use Rattle.pr_model.specs.LwpTurns.{LwpTurn, turn_of}
use Rattle.pr_model.specs.State.{TracedProcess, TracedState, live_process}
use Rattle.pr_model.specs.declared.events.Act.{Act}
use Rattle.pr_model.specs.declared.events.Act.TheVariants as act
use Rattle.pr_model.specs.declared.events.Actor.{Actor}
use Rattle.pr_model.specs.declared.events.Actor.TheVariants.{Controller, Lwp, Clock}
use Rattle.pr_model.specs.declared.events.Entry.{Entry}
use Rattle.pr_report_laws.proofs.Machine.TurnSettings.{turn-settings}
use Rattle.pr_tool_laws.proofs.OwnFiles.StandingLemmas.{IsOther}
use Rattle.pr_truss_laws.proofs.Machine.OutlastLemmas as outlast
use Rattle.pr_truss_laws.proofs.Machine.OutlastLemmas.{Outlasts, others-entry}
use Rattle.pr_truss_laws.proofs.Machine.OverLemmas.{stays-over}
use Rattle.pr_truss_laws.specs.Handles.{HasNoOtherWriter}
use Rattle.pr_truss_laws.specs.Stills.{HasSameSettings}
use Rattle.pr_probe_laws.specs.SetsBack.{WasTraced, sets_in_control, sets_on}

-- What others do, where no other controller has a process open for writing, leaves the sets by which it is traced.

settings-sets : (p q : TracedProcess) → HasSameSettings p q → sets_on q ≡ sets_on p
settings-sets p q same = ap sets_in_control same.control

module _ (n : ℕ) (s : TracedState) (k pid : ℕ) (lawful : IsLawful s) (sole : HasNoOtherWriter k pid s.opens)
    (made : pid < s.system.made) where
  -- an entry of another controller, of another process, or of the clock
  elsewhere : (e : Entry) → IsLegalEntry n s e → ((id : ℕ) → e.actor ≢ Lwp pid id) → e.actor ≢ Controller k
      → (q p : TracedProcess) → live_process (after s e).system pid ≡ Some q → live_process s.system pid ≡ Some p
      → WasTraced pid (sets_on q) s.system
  elsewhere e legal apart other q p live before =
      by (others-entry n s k pid e p lawful sole legal apart other before)
    where
      by : Outlasts pid p (after s e).system → WasTraced pid (sets_on q) s.system
      by (outlast.lives r there alone) = record {
        process = p;
        lived = before;
        same = ap sets_on (sym (same_Some r q (sym there ∙ live))) ∙ ap sets_on alone.rest;
      }
      by (outlast.killed z none there status) = absurd (none-some q (sym none ∙ live))

  -- a turn of an lwp of its own
  own-turn : (id : ℕ) (t : LwpTurn) → turn_of s.system pid id ≡ Some t → (q p : TracedProcess)
      → live_process t.system pid ≡ Some q → live_process s.system pid ≡ Some p → WasTraced pid (sets_on q) s.system
  own-turn id t turn q p live before = record {
    process = p;
    lived = before;
    same = settings-sets p q (turn-settings s.system pid p id t lawful.system before turn q live);
  }

  from-live : (actor : Actor) (it : Act) → IsLegalEntry n s (record { actor = actor; act = it })
      → IsOther k actor it → (q p : TracedProcess)
      → live_process (after s (record { actor = actor; act = it })).system pid ≡ Some q
      → live_process s.system pid ≡ Some p → WasTraced pid (sets_on q) s.system
  unfolding IsLegalEntry after
  from-live (Controller j) (act.Call c r) legal other q p live before =
      elsewhere (record { actor = Controller j; act = act.Call c r }) legal (λ id same. cc) (λ same. other (cc)) q p
      live before
  from-live (Lwp acting id) (act.Turn turned) legal other q p live before = by (cases_eq acting pid)
    where
      t : LwpTurn
      t = record { system = legal.0; turned = turned }

      by : (acting ≡ pid) ⊎ (acting ≢ pid) → WasTraced pid (sets_on q) s.system
      by (inl same) =
          let turn : turn_of s.system pid id ≡ Some t = ap (λ (m : ℕ). turn_of s.system m id) (sym same) ∙ legal.1 in
          own-turn id t turn q p (ap (λ (o : Option LwpTurn). live_process (after_turn s o).system pid) (sym legal.1)
          ∙ live) before
      by (inr differs) =
          elsewhere (record { actor = Lwp acting id; act = act.Turn turned }) legal (λ other_id same. differs (cc))
          (λ same. cc) q p live before
  from-live Clock (act.Tick m) legal other q p live before =
      elsewhere (record { actor = Clock; act = act.Tick m }) legal (λ id same. cc) (λ same. cc) q p live before
  from-live _ _ legal other q p live before = absurd legal

  -- a process that lives after it lived before, and was traced so
  pub others-sets : (actor : Actor) (it : Act) → IsLegalEntry n s (record { actor = actor; act = it })
      → IsOther k actor it → (q : TracedProcess)
      → live_process (after s (record { actor = actor; act = it })).system pid ≡ Some q
      → WasTraced pid (sets_on q) s.system
  others-sets actor it legal other q live = from (live_process s.system pid) refl
    where
      from : (o : Option TracedProcess) → live_process s.system pid ≡ o → WasTraced pid (sets_on q) s.system
      from None none =
          absurd (none-some q
          (sym (stays-over n s (record { actor = actor; act = it }) pid lawful legal made none) ∙ live))
      from (Some p) before = from-live actor it legal other q p live before
