use Rattle.std.proofs.Common.{◌≡◌, ◌≢◌, ◌⊎◌, ◌<◌, ℕ, Option, Some, None, refl, sym, subst, ap, ◌∙◌, inl, inr}
use Rattle.std.proofs.lemmas.Bool.{cases_eq}
use Rattle.std.proofs.lemmas.Option.{none-some, same_Some}
use Rattle.pr_model.specs.Lawful.{IsLawful}
use Rattle.pr_model.specs.Legal.{IsLegalEntry, after, after_turn}
use Rattle.pr_model.specs.LwpTurns.{LwpTurn, turn_of}
use Rattle.pr_model.specs.State.{TracedProcess, TracedState, live_process}
use Rattle.pr_model.specs.declared.events.Act.{Act}
use Rattle.pr_model.specs.declared.events.Act.TheVariants as act
use Rattle.pr_model.specs.declared.events.Actor.{Actor}
use Rattle.pr_model.specs.declared.events.Actor.TheVariants.{Controller, Lwp, Clock}
use Rattle.pr_model.specs.declared.events.Entry.{Entry}
use Rattle.pr_model.specs.LwpTurns.{with_counted}
use Rattle.pr_model.specs.State.{with_lwp}
use Rattle.pr_tool_laws.proofs.Pstack.StackHalts.{HaltsWith, others-halt}
use Rattle.pr_tool_laws.proofs.OwnFiles.StandingLemmas.{IsOther}
use Rattle.pr_truss_laws.proofs.Machine.OutlastLemmas as outlast
use Rattle.pr_truss_laws.proofs.Machine.OutlastLemmas.{Outlasts, others-entry}
use Rattle.pr_truss_laws.proofs.Machine.OverLemmas.{stays-over}
use Rattle.pr_truss_laws.proofs.Machine.StillLemmas.{halting-leaves}
use Rattle.pr_truss_laws.specs.Handles.{HasNoOtherWriter}
use Rattle.pr_truss_laws.specs.Stills.{IsHalting, KeepsMemory, with_lwp_stopped}

-- What others do, where no other controller has a process open for writing that does nothing but stop, leaves its
-- memory and its watched areas.

-- a process does nothing but stop, and its memory and its watched areas are those of another one
pub record IsKept (x q : TracedProcess) : Type 0 where
  pub halts : IsHalting q
  pub memory : KeepsMemory x q
  pub areas : q.control.areas ≡ x.control.areas

stopped-areas : (id : ℕ) (p : TracedProcess) → (with_lwp_stopped id p).control.areas ≡ p.control.areas
unfolding with_counted with_lwp
stopped-areas id p = refl

module _ (n : ℕ) (s : TracedState) (k pid : ℕ) (lawful : IsLawful s) (sole : HasNoOtherWriter k pid s.opens)
    (made : pid < s.system.made) where
  -- an entry of another controller, of another process, or of the clock
  elsewhere : (e : Entry) → IsLegalEntry n s e → ((id : ℕ) → e.actor ≢ Lwp pid id) → e.actor ≢ Controller k
      → (q p : TracedProcess) → live_process (after s e).system pid ≡ Some q → live_process s.system pid ≡ Some p
      → q.control.areas ≡ p.control.areas
  elsewhere e legal apart other q p live before =
      by (others-entry n s k pid e p lawful sole legal apart other before)
    where
      by : Outlasts pid p (after s e).system → q.control.areas ≡ p.control.areas
      by (outlast.lives r there alone) =
          ap (λ (x : TracedProcess). x.control.areas) (sym (same_Some r q (sym there ∙ live)))
          ∙ ap (λ (x : TracedProcess). x.control.areas) alone.rest
      by (outlast.killed z none there status) = absurd (none-some q (sym none ∙ live))

  from-live : (actor : Actor) (it : Act) → IsLegalEntry n s (record { actor = actor; act = it })
      → IsOther k actor it → (q p : TracedProcess)
      → live_process (after s (record { actor = actor; act = it })).system pid ≡ Some q
      → live_process s.system pid ≡ Some p → IsHalting p → q.control.areas ≡ p.control.areas
  unfolding IsLegalEntry after
  from-live (Controller j) (act.Call c r) legal other q p live before halts =
      elsewhere (record { actor = Controller j; act = act.Call c r }) legal (λ id same. cc) (λ same. other (cc)) q p
      live before
  from-live (Lwp acting id) (act.Turn turned) legal other q p live before halts = by (cases_eq acting pid)
    where
      t : LwpTurn
      t = record { system = legal.0; turned = turned }

      by : (acting ≡ pid) ⊎ (acting ≢ pid) → q.control.areas ≡ p.control.areas
      by (inl same) =
          let turn : turn_of s.system pid id ≡ Some t = ap (λ (m : ℕ). turn_of s.system m id) (sym same) ∙ legal.1 in
          let later : live_process t.system pid ≡ Some q =
          ap (λ (o : Option LwpTurn). live_process (after_turn s o).system pid) (sym legal.1) ∙ live in
          let now = halting-leaves s.system pid p before halts id t turn in
          ap (λ (x : TracedProcess). x.control.areas) (same_Some q (with_lwp_stopped id p) (sym later ∙ now))
          ∙ stopped-areas id p
      by (inr differs) =
          elsewhere (record { actor = Lwp acting id; act = act.Turn turned }) legal (λ other_id same. differs (cc))
          (λ same. cc) q p live before
  from-live Clock (act.Tick m) legal other q p live before halts =
      elsewhere (record { actor = Clock; act = act.Tick m }) legal (λ id same. cc) (λ same. cc) q p live before
  from-live _ _ legal other q p live before halts = absurd legal

  -- a process that lives after it lived before, and is kept so if it did nothing but stop
  pub others-keep-it : (actor : Actor) (it : Act) → IsLegalEntry n s (record { actor = actor; act = it })
      → IsOther k actor it → ((p : TracedProcess) → live_process s.system pid ≡ Some p → IsHalting p)
      → (q : TracedProcess) → live_process (after s (record { actor = actor; act = it })).system pid ≡ Some q
      → (x : TracedProcess) × ((live_process s.system pid ≡ Some x) × IsKept x q)
  others-keep-it actor it legal other halts q live = from (live_process s.system pid) refl
    where
      from : (o : Option TracedProcess) → live_process s.system pid ≡ o
          → (x : TracedProcess) × ((live_process s.system pid ≡ Some x) × IsKept x q)
      from None none =
          absurd (none-some q
          (sym (stays-over n s (record { actor = actor; act = it }) pid lawful legal made none) ∙ live))
      from (Some x) before =
          let here = halts x before in
          let halting : HaltsWith pid x s.system = record {
            each = λ y there.
                subst (λ (z : TracedProcess). IsHalting z × KeepsMemory x z) (same_Some x y (sym before ∙ there))
                (here, record { own = λ own. (own, refl) });
          } in
          let later = (others-halt n s k pid lawful sole made actor it x legal other halting).each q live in (
            x,
            (
              before,
              record {
                halts = later.0;
                memory = later.1;
                areas = from-live actor it legal other q x live before here;
              },
            ),
          )
