use Rattle.std.proofs.Common.{◌≡◌, ◌≢◌, ◌⊎◌, ◌==◌, ◌<◌, ℕ, false, is_some, Option, Some, None, refl, sym, subst, ap, ◌∙◌, inl, inr}
use Rattle.std.proofs.lemmas.Bool.{cases_Bool, cases_eq, eqb-true, eqb-false, false≢true}
use Rattle.std.proofs.lemmas.Option.{none-some, same_Some}
use Rattle.std.specs.Option.{option_map}
use Rattle.pr_model.specs.Lawful.{IsLawful}
use Rattle.pr_model.specs.Legal.{IsLegalEntry, after, after_turn}
use Rattle.pr_model.specs.LwpTurns.{LwpTurn, turn_of, with_counted}
use Rattle.pr_model.specs.State.{TracedLwp, TracedProcess, TracedState, TracedSystem, has_agent, live_process, lwp_of, with_lwp}
use Rattle.pr_model.specs.declared.events.Act.{Act}
use Rattle.pr_model.specs.declared.events.Act.TheVariants as act
use Rattle.pr_model.specs.declared.events.Actor.{Actor}
use Rattle.pr_model.specs.declared.events.Actor.TheVariants.{Controller, Lwp, Clock}
use Rattle.pr_model.specs.declared.events.Entry.{Entry}
use Rattle.pr_num.proofs.ByIdLaws.{under-change_under, under-change_under_other}
use Rattle.pr_num.specs.Agents.{agent_id}
use Rattle.pr_num.specs.ById.{change_under, under}
use Rattle.pr_tool_laws.proofs.OwnFiles.StandingLemmas.{IsOther}
use Rattle.pr_truss_laws.proofs.EventStops.AloneLemmas.{alone-frozen}
use Rattle.pr_truss_laws.proofs.Machine.FrameLemmas.{lwp-alike}
use Rattle.pr_truss_laws.proofs.Machine.OutlastLemmas as outlast
use Rattle.pr_truss_laws.proofs.Machine.OutlastLemmas.{Outlasts, others-entry}
use Rattle.pr_truss_laws.proofs.Machine.OverLemmas.{stays-over}
use Rattle.pr_truss_laws.proofs.Machine.StillLemmas.{frozen-turns, halting-leaves}
use Rattle.pr_truss_laws.specs.Handles.{HasNoOtherWriter}
use Rattle.pr_truss_laws.specs.Stills.{IsFrozen, IsHalting, IsUndisturbed, stopped_lwp, with_lwp_stopped}

-- A process without an agent that has stopped stands still from then on, whatever others do, while one controller alone
-- has it open for writing and leaves it as it is.

-- ---- the agent is no other

agent-gone : (p q : TracedProcess) → IsUndisturbed p q → has_agent q ≡ false → has_agent p ≡ false
agent-gone p q alone none = by (lwp_of p agent_id) refl
  where
    by : (o : Option TracedLwp) → lwp_of p agent_id ≡ o → is_some o ≡ false
    by None is = refl
    by (Some l) is =
        let there = lwp-alike p.lwps q.lwps (sym alone.same) agent_id l is in
        absurd (false≢true (sym none ∙ ap (λ (o : Option TracedLwp). is_some o) there.1.0))

mapped-some : (o : Option TracedLwp) → is_some (option_map stopped_lwp o) ≡ is_some o
mapped-some None = refl
mapped-some (Some l) = refl

stopped-agent : (id : ℕ) (p : TracedProcess) → has_agent (with_lwp_stopped id p) ≡ has_agent p
unfolding with_lwp with_counted
stopped-agent id p =
    elim (cases_Bool (id == agent_id)) [
      | inl same ↦ own (eqb-true id agent_id same)
      | inr not ↦ ap (λ (o : Option TracedLwp). is_some o)
          (under-change_under_other id agent_id stopped_lwp (eqb-false id agent_id not) p.lwps)
    ]
  where
    own : id ≡ agent_id → is_some (under agent_id (change_under id stopped_lwp p.lwps)) ≡ is_some (lwp_of p agent_id)
    own same =
        subst (λ (n : ℕ). is_some (under n (change_under id stopped_lwp p.lwps)) ≡ is_some (under n p.lwps)) same
        (ap (λ (o : Option TracedLwp). is_some o) (under-change_under id stopped_lwp p.lwps)
        ∙ mapped-some (under id p.lwps))

-- ---- it stands still

same-acting : (a i b j : ℕ) → Lwp a i ≡ Lwp b j → a ≡ b
same-acting a i b j same = cc

-- where the process lives and has no agent, it stands still
pub record StandsStill (pid : ℕ) (s : TracedSystem) : Type 0 where
  pub each : (p : TracedProcess) → live_process s pid ≡ Some p → has_agent p ≡ false → IsFrozen p

module _ (n : ℕ) (s : TracedState) (k pid : ℕ) (lawful : IsLawful s) (sole : HasNoOtherWriter k pid s.opens)
    (actor : Actor) (it : Act) (legal : IsLegalEntry n s (record { actor = actor; act = it }))
    (other : IsOther k actor it) where
  abbrev entry : Entry
  entry = record { actor = actor; act = it }

  abbrev later : TracedSystem
  later = (after s entry).system

  -- what others do to a live process: it outlasts that, or one of its own lwps has a turn
  data Does (p : TracedProcess) : Type 0 where
    elsewhere : Outlasts pid p later → Does p
    own_turn : (id : ℕ) (t : LwpTurn) → turn_of s.system pid id ≡ Some t → later ≡ t.system → Does p

  does-elsewhere : (p : TracedProcess) → live_process s.system pid ≡ Some p → actor ≢ Controller k
      → ((id : ℕ) → actor ≢ Lwp pid id) → Does p
  does-elsewhere p live foreign apart = elsewhere (others-entry n s k pid entry p lawful sole legal apart foreign live)

  does-turn : (acting id : ℕ) → actor ≡ Lwp acting id → actor ≢ Controller k → (t : LwpTurn)
      → turn_of s.system acting id ≡ Some t
      → later ≡ (after_turn s (turn_of s.system acting id)).system → (p : TracedProcess)
      → live_process s.system pid ≡ Some p → Does p
  does-turn acting id who foreign t turn is p live = by (cases_eq acting pid)
    where
      by : (acting ≡ pid) ⊎ (acting ≢ pid) → Does p
      by (inl same) =
          own_turn id t (ap (λ (m : ℕ). turn_of s.system m id) (sym same) ∙ turn)
          (is ∙ ap (λ (o : Option LwpTurn). (after_turn s o).system) turn)
      by (inr differs) =
          does-elsewhere p live foreign
          (λ other_id same. differs (same-acting acting id pid other_id (sym who ∙ same)))

does-in : (n : ℕ) (s : TracedState) (k pid : ℕ) (lawful : IsLawful s) (sole : HasNoOtherWriter k pid s.opens)
    (actor : Actor) (it : Act) (legal : IsLegalEntry n s (record { actor = actor; act = it }))
    (other : IsOther k actor it) (p : TracedProcess) → live_process s.system pid ≡ Some p
    → Does n s k pid lawful sole actor it legal other p
unfolding IsLegalEntry after
does-in n s k pid lawful sole (Controller j) (act.Call c r) legal other p live =
    does-elsewhere n s k pid lawful sole (Controller j) (act.Call c r) legal other p live
    (λ same. other (cc)) (λ id same. cc)
does-in n s k pid lawful sole (Lwp acting id) (act.Turn turned) legal other p live =
    does-turn n s k pid lawful sole (Lwp acting id) (act.Turn turned) legal other acting id refl
    (λ same. cc) (record { system = legal.0; turned = turned }) legal.1 refl p live
does-in n s k pid lawful sole Clock (act.Tick m) legal other p live =
    does-elsewhere n s k pid lawful sole Clock (act.Tick m) legal other p live (λ same. cc) (λ id same. cc)
does-in n s k pid lawful sole _ _ legal other p live = absurd legal

-- no lwp of a process that stands still has a turn
pub frozen-apart : (n : ℕ) (s : TracedState) (k pid : ℕ) (lawful : IsLawful s) (sole : HasNoOtherWriter k pid s.opens)
    (actor : Actor) (it : Act) (legal : IsLegalEntry n s (record { actor = actor; act = it }))
    (other : IsOther k actor it) (p : TracedProcess) → live_process s.system pid ≡ Some p → IsFrozen p
    → (id : ℕ) → actor ≢ Lwp pid id
unfolding IsLegalEntry
frozen-apart n s k pid lawful sole (Lwp acting own) (act.Turn turned) legal other p live frozen id same =
    none-some (record { system = legal.0; turned = turned })
    (sym (frozen-turns s.system pid p live frozen own)
    ∙ ap (λ (m : ℕ). turn_of s.system m own) (sym (same-acting acting own pid id same)) ∙ legal.1)
frozen-apart n s k pid lawful sole (Controller j) it legal other p live frozen id same = cc
frozen-apart n s k pid lawful sole Clock it legal other p live frozen id same = cc
frozen-apart n s k pid lawful sole (Lwp acting own) _ legal other p live frozen id same = absurd legal

module _ (n : ℕ) (s : TracedState) (k pid : ℕ) (lawful : IsLawful s) (sole : HasNoOtherWriter k pid s.opens)
    (made : pid < s.system.made) (actor : Actor) (it : Act)
    (legal : IsLegalEntry n s (record { actor = actor; act = it })) (other : IsOther k actor it) where
  abbrev next : TracedSystem
  next = (after s (record { actor = actor; act = it })).system

  -- a process that lives later lived before
  pub record Lived (q : TracedProcess) : Type 0 where
    pub process : TracedProcess
    pub live : live_process s.system pid ≡ Some process

  pub lived : (q : TracedProcess) → live_process next pid ≡ Some q → Lived q
  lived q live = by (live_process s.system pid) refl
    where
      by : (o : Option TracedProcess) → live_process s.system pid ≡ o → Lived q
      by None none =
          absurd (none-some q (sym (stays-over n s (record { actor = actor; act = it }) pid lawful legal made none)
          ∙ live))
      by (Some p) before = record { process = p; live = before }

  outlasted : (p q : TracedProcess) → live_process next pid ≡ Some q → Outlasts pid p next → IsUndisturbed p q
  outlasted p q live (outlast.lives r there alone) =
      subst (IsUndisturbed p) (same_Some r q (sym there ∙ live)) alone
  outlasted p q live (outlast.killed z none there status) = absurd (none-some q (sym none ∙ live))

  -- a process that stands still is left alone
  pub frozen-alone : (p q : TracedProcess) → live_process s.system pid ≡ Some p → IsFrozen p
      → live_process next pid ≡ Some q → IsUndisturbed p q
  frozen-alone p q before frozen live = by (does-in n s k pid lawful sole actor it legal other p before)
    where
      by : Does n s k pid lawful sole actor it legal other p → IsUndisturbed p q
      by (elsewhere lasts) = outlasted p q live lasts
      by (own_turn id t turn is) =
          absurd (none-some t (sym (frozen-turns s.system pid p before frozen id) ∙ turn))

  -- who halts and, if he has no agent, stands still, does so later
  module _ (halts : (p : TracedProcess) → live_process s.system pid ≡ Some p → IsHalting p)
      (stands : StandsStill pid s.system) (q : TracedProcess) (live : live_process next pid ≡ Some q)
      (none : has_agent q ≡ false) (was : Lived q) where
    stands-by : Does n s k pid lawful sole actor it legal other was.process → IsFrozen q
    stands-by (elsewhere lasts) =
        let alone = outlasted was.process q live lasts in
        alone-frozen was.process q alone
        (stands.each was.process was.live (agent-gone was.process q alone none))
    stands-by (own_turn id t turn is) =
        let left : live_process t.system pid ≡ Some (with_lwp_stopped id was.process) =
        halting-leaves s.system pid was.process was.live (halts was.process was.live) id t turn in
        let same : with_lwp_stopped id was.process ≡ q =
        same_Some _ q (sym left ∙ ap (λ (x : TracedSystem). live_process x pid) (sym is) ∙ live) in
        let quiet : has_agent was.process ≡ false =
        sym (stopped-agent id was.process) ∙ ap (λ (x : TracedProcess). has_agent x) same ∙ none in
        let frozen = stands.each was.process was.live quiet in
        absurd (none-some t (sym (frozen-turns s.system pid was.process was.live frozen id) ∙ turn))

  pub others-stand : ((p : TracedProcess) → live_process s.system pid ≡ Some p → IsHalting p)
      → StandsStill pid s.system → StandsStill pid next
  others-stand halts stands = record {
    each = λ q live none.
        let was = lived q live in
        stands-by halts stands q live none was
        (does-in n s k pid lawful sole actor it legal other was.process was.live);
  }
