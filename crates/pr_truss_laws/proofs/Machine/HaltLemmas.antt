use Rattle.std.proofs.Common.{◌≡◌, ◌≢◌, ◌⊎◌, ℕ, Option, Some, None, refl, sym, subst, ap, ◌∙◌, inl, inr}
use Rattle.std.proofs.lemmas.Bool.{cases_eq}
use Rattle.pr_model.specs.Lawful.{IsLawful}
use Rattle.pr_model.specs.Legal.{IsLegalEntry, after, after_turn}
use Rattle.pr_model.specs.LwpTurns.{LwpTurn, turn_of, with_counted}
use Rattle.pr_model.specs.State.{TracedProcess, TracedState, TracedSystem, live_process, process_of, with_lwp}
use Rattle.pr_model.specs.declared.events.Act.{Act}
use Rattle.pr_model.specs.declared.events.Act.TheVariants as act
use Rattle.pr_model.specs.declared.events.Actor.{Actor}
use Rattle.pr_model.specs.declared.events.Actor.TheVariants.{Controller, Lwp, Clock}
use Rattle.pr_model.specs.declared.events.Entry.{Entry}
use Rattle.pr_num.specs.Signals.{signal_number}
use Rattle.pr_num.specs.declared.signals.Sig.TheVariants.{Kill}
use Rattle.pr_truss_laws.proofs.EventStops.AloneLemmas.{alone-halting}
use Rattle.pr_truss_laws.proofs.Machine.OutlastLemmas as outlast
use Rattle.pr_truss_laws.proofs.Machine.OutlastLemmas.{Outlasts, others-entry}
use Rattle.pr_truss_laws.proofs.Machine.StillLemmas.{halting-leaves, halting-stays}
use Rattle.pr_truss_laws.specs.Handles.{HasNoOtherWriter}
use Rattle.pr_truss_laws.specs.Stills.{IsHalting, KeepsMemory, with_lwp_stopped}

-- A process each lwp of which stands still or will stop goes on so with its memory, whatever others do, while at most
-- one controller has it open for writing and leaves it as it is; or SIGKILL ends it.

-- what becomes of such a process
pub data HaltsOn (pid : ℕ) (p : TracedProcess) (s : TracedSystem) : Type 0 where
  goes_on : (q : TracedProcess) → live_process s pid ≡ Some q → IsHalting q → KeepsMemory p q → HaltsOn pid p s
  killed : (z : TracedProcess) → live_process s pid ≡ None → process_of s pid ≡ Some z
      → z.ended ≡ Some (signal_number Kill) → HaltsOn pid p s

-- where others left it alone
pub outlasts-halts : (pid : ℕ) (p : TracedProcess) (s : TracedSystem) → IsHalting p → Outlasts pid p s → HaltsOn pid p s
outlasts-halts pid p s halting (outlast.lives q live alone) =
    goes_on q live (alone-halting p q alone halting) alone.memory
outlasts-halts pid p s halting (outlast.killed z none there status) = killed z none there status

-- what stops in a turn of its own keeps its memory
stopped-memory : (id : ℕ) (p : TracedProcess) → KeepsMemory p (with_lwp_stopped id p)
unfolding with_lwp with_counted
stopped-memory id p = record { own = λ none. (none, refl) }

module _ (n : ℕ) (s : TracedState) (k pid : ℕ) (lawful : IsLawful s) (sole : HasNoOtherWriter k pid s.opens)
    (p : TracedProcess) (live : live_process s.system pid ≡ Some p) (halting : IsHalting p) where
  elsewhere : (e : Entry) → IsLegalEntry n s e → ((id : ℕ) → e.actor ≢ Lwp pid id) → e.actor ≢ Controller k
      → HaltsOn pid p (after s e).system
  elsewhere e legal apart other =
      outlasts-halts pid p (after s e).system halting (others-entry n s k pid e p lawful sole legal apart other live)

  -- a turn of its own
  own-turn : (id : ℕ) (t : LwpTurn) → turn_of s.system pid id ≡ Some t → HaltsOn pid p t.system
  own-turn id t turn =
      goes_on (with_lwp_stopped id p) (halting-leaves s.system pid p live halting id t turn)
      (halting-stays s.system pid p live halting id t turn) (stopped-memory id p)

  others-in : (actor : Actor) (it : Act) → IsLegalEntry n s (record { actor = actor; act = it })
      → actor ≢ Controller k → HaltsOn pid p (after s (record { actor = actor; act = it })).system
  unfolding IsLegalEntry after
  others-in (Controller j) (act.Call c r) legal other =
      elsewhere (record { actor = Controller j; act = act.Call c r }) legal (λ id same. cc) other
  others-in (Lwp acting id) (act.Turn turned) legal other = by (cases_eq acting pid)
    where
      t : LwpTurn
      t = record { system = legal.0; turned = turned }

      by : (acting ≡ pid) ⊎ (acting ≢ pid) → HaltsOn pid p (after_turn s (turn_of s.system acting id)).system
      by (inl same) =
          let turn : turn_of s.system pid id ≡ Some t = ap (λ (m : ℕ). turn_of s.system m id) (sym same) ∙ legal.1 in
          subst (λ (o : Option LwpTurn). HaltsOn pid p (after_turn s o).system) (sym legal.1) (own-turn id t turn)
      by (inr differs) =
          elsewhere (record { actor = Lwp acting id; act = act.Turn turned }) legal (λ other_id same. differs (cc))
          (λ same. cc)
  others-in Clock (act.Tick m) legal other =
      elsewhere (record { actor = Clock; act = act.Tick m }) legal (λ id same. cc) (λ same. cc)
  others-in _ _ legal other = absurd legal

  -- what others do, and what its own lwps do
  pub others-halt : (e : Entry) → IsLegalEntry n s e → e.actor ≢ Controller k → HaltsOn pid p (after s e).system
  others-halt e legal other = others-in e.actor e.act legal other
