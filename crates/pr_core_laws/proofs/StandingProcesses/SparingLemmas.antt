use Rattle.std.proofs.Common.{◌≡◌, ◌≢◌, ◌==◌, ℕ, Bool, true, false, cond, is_none, Option, Some, None, refl, ap, ◌∙◌}
use Rattle.pr_api.specs.Entries.{call_entry}
use Rattle.pr_lawful.proofs.LawfulTurns.EndLemmas.{found-live}
use Rattle.pr_model.specs.Calls.{Answer, answer_to}
use Rattle.pr_model.specs.Generation.{signalled, with_deletions, with_pending}
use Rattle.pr_model.specs.Lawful.{IsLawful}
use Rattle.pr_model.specs.Legal.{IsLegalEntry, after}
use Rattle.pr_model.specs.Lives.{is_id, orphaned, with_lender_of, with_loan_back}
use Rattle.pr_model.specs.LwpTurns.{LwpTurn, turn_of}
use Rattle.pr_model.specs.State.{TracedProcess, TracedState, TracedSystem, live_process, process_of}
use Rattle.pr_model.specs.declared.calls.Call.{Call}
use Rattle.pr_model.specs.declared.events.Act.{Act}
use Rattle.pr_model.specs.declared.events.Act.TheVariants as act
use Rattle.pr_model.specs.declared.events.Actor.{Actor}
use Rattle.pr_model.specs.declared.events.Actor.TheVariants.{Controller, Lwp, Clock}
use Rattle.pr_num.specs.declared.infos.Info.{Info}
use Rattle.pr_num.specs.declared.signals.Sig.{Sig}
use Rattle.pr_num.specs.declared.signals.Sig.TheVariants.{Cld}
use Rattle.pr_parts.specs.SignalRules.{deleted_by}
use Rattle.pr_tool_laws.proofs.OwnFiles.StandingLemmas.{IsOther}
use Rattle.pr_truss_laws.proofs.Machine.OthersLemmas.{Became, ByKill, LeftByOthers, call-passes, passed-alone, same-passes, turn-passes}
use Rattle.pr_truss_laws.specs.Handles.{HasNoOtherWriter}
use Rattle.pr_core_laws.specs.Spared.{SendsNoStop, pending_of_lwps}

-- Where no SIGCONT and no stop signal is sent to a process, others leave its job stop and what pends for its lwps.

-- ---- one process

record AreSpared (p q : TracedProcess) : Type 0 where
  ended : q.ended ≡ p.ended
  job_stop : q.job_stop ≡ p.job_stop
  pending : pending_of_lwps q ≡ pending_of_lwps p

spared-self : (p : TracedProcess) → AreSpared p p
spared-self p = record { ended = refl; job_stop = refl; pending = refl }

spared-next : (p q r : TracedProcess) → AreSpared p q → AreSpared q r → AreSpared p r
spared-next p q r one two = record {
  ended = two.ended ∙ one.ended;
  job_stop = two.job_stop ∙ one.job_stop;
  pending = two.pending ∙ one.pending;
}

-- a signal that may be sent to it: to the whole process, and it deletes no other
abbrev Told : Option ℕ → Sig → Type 0
Told None g = deleted_by g ≡ 0
Told (Some own) g = ⊥

told-spared : (target : Option ℕ) (g : Sig) (info : Info) → Told target g → (p : TracedProcess)
    → AreSpared p (signalled target g info p)
unfolding signalled with_deletions with_pending
told-spared None g info none p =
    elim (is_none p.ended) as
    (λ b. AreSpared p (cond b (with_pending None g info (with_deletions g p)) p)) [
      | true ↦ rw none (record { ended = refl; job_stop = refl; pending = refl })
      | false ↦ spared-self p
    ]
told-spared (Some own) g info none p = absurd none

orphaned-spared : (gone : ℕ) (p : TracedProcess) → AreSpared p (orphaned gone p)
unfolding orphaned
orphaned-spared gone p =
    elim (p.parent == gone) as (λ b. AreSpared p (cond b (record p { parent = 0 }) p)) [
      | true ↦ record { ended = refl; job_stop = refl; pending = refl }
      | false ↦ spared-self p
    ]

back-spared : (gone : ℕ) (p lender : TracedProcess) → AreSpared lender (with_loan_back gone p lender)
unfolding with_loan_back
back-spared gone p lender = by (is_id gone lender.borrower)
  where
    by : (b : Bool) → AreSpared lender (cond b (record lender { space = p.space; borrower = p.borrower }) lender)
    by true = record { ended = refl; job_stop = refl; pending = refl }
    by false = spared-self lender

lender_of-spared : (gone : ℕ) (p borrower : TracedProcess) → AreSpared borrower (with_lender_of gone p borrower)
unfolding with_lender_of
lender_of-spared gone p borrower = by (is_id gone borrower.lender)
  where
    by : (b : Bool) → AreSpared borrower (cond b (record borrower { lender = p.lender }) borrower)
    by true = record { ended = refl; job_stop = refl; pending = refl }
    by false = spared-self borrower

child-deletes : deleted_by Cld ≡ 0
unfolding deleted_by
child-deletes = refl

spared-left : LeftByOthers AreSpared Told
spared-left = record {
  self = spared-self;
  next = spared-next;
  over = λ p q both. both.ended;
  told = told-spared;
  child_ends = child-deletes;
  loses_parent = orphaned-spared;
  gets_back = back-spared;
  gets_lender = lender_of-spared;
}

-- ---- an entry

-- what became of the process of this id
abbrev Passes : ℕ → TracedSystem → TracedSystem → Type 0
Passes pid s u = Became AreSpared ByKill (process_of s pid) (process_of u pid)

module _ (n : ℕ) (s : TracedState) (k pid : ℕ) (lawful : IsLawful s) (sole : HasNoOtherWriter k pid s.opens)
    (x : TracedProcess) (before : live_process s.system pid ≡ Some x) where
  entry-passes : (actor : Actor) (it : Act) → IsLegalEntry n s (record { actor = actor; act = it }) → IsOther k actor it
      → ((id : ℕ) → actor ≢ Lwp pid id) → SendsNoStop pid s (record { actor = actor; act = it })
      → Passes pid s.system (after s (record { actor = actor; act = it })).system
  unfolding IsLegalEntry after
  entry-passes (Controller by) (act.Call c r) legal other apart sends =
      let a : Answer = record { state = legal.1.0; reply = r } in
      let answer : answer_to s by c ≡ Some a = legal.1.1 in
      rw answer (call-passes spared-left pid ByKill refl s by lawful x (found-live s.system pid x before).0 c a
      (λ m named g held writes. sole.none by m g other held writes)
      (λ number g is. sends.kill by number r g (ap (λ (d : Call). call_entry by d r) is)) answer)
  entry-passes (Lwp acting id) (act.Turn turned) legal other apart sends =
      let t : LwpTurn = record { system = legal.0; turned = turned } in
      let taken : turn_of s.system acting id ≡ Some t = legal.1 in
      rw taken (turn-passes spared-left pid ByKill refl s.system acting id t x lawful.system before
      (λ same. apart id (ap (λ m. Lwp m id) same)) taken (λ p l. sends.turn acting id p l refl))
  entry-passes Clock (act.Tick moment) legal other apart sends = same-passes spared-left pid ByKill s.system
  entry-passes _ _ legal other apart sends = absurd legal

  -- a process that lives before and after it is spared
  pub sent-none : (actor : Actor) (it : Act) → IsLegalEntry n s (record { actor = actor; act = it })
      → IsOther k actor it
      → ((id : ℕ) → actor ≢ Lwp pid id) → SendsNoStop pid s (record { actor = actor; act = it }) → (q : TracedProcess)
      → live_process (after s (record { actor = actor; act = it })).system pid ≡ Some q
      → (q.job_stop ≡ x.job_stop) × (pending_of_lwps q ≡ pending_of_lwps x)
  sent-none actor it legal other apart sends q live =
      let spared =
      passed-alone spared-left pid ByKill s.system (after s (record { actor = actor; act = it })).system x q
      (entry-passes actor it legal other apart sends) before live in (spared.job_stop, spared.pending)
