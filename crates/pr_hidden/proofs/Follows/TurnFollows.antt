use Rattle.std.proofs.Common.{◌≡◌, ◌≢◌, ◌⊎◌, ◌&&◌, ◌<◌, ◌≤◌, ℕ, Bool, true, false, eqb, not, Option, Some, None, List, [], ◌∷◌, length, cond, refl, sym, subst, ◌∙◌, ap, inl, inr, arith}
use Rattle.std.proofs.lemmas.Bool.{cases_Bool, eq-eqb, eqb-true}
use Rattle.std.proofs.lemmas.Option.{same_Some}
use Rattle.std.specs.List.{All}
use Rattle.pr_num.specs.Agents.{agent_id}
use Rattle.pr_num.specs.ById.{IsRising}
use Rattle.pr_num.specs.declared.faults.Flt.{Flt}
use Rattle.pr_num.specs.declared.faults.Flt.TheVariants as flt
use Rattle.pr_num.specs.declared.syscalls.Sysno.{Sysno}
use Rattle.pr_num.proofs.BoolLemmas.{and_false, either}
use Rattle.pr_num.proofs.ByIdLaws.{All-change_under, All-under}
use Rattle.pr_parts.specs.AddressSpaces.{with_bytes}
use Rattle.pr_model.specs.Changes.{Change, Ending, all_changed, changed, ended, ends_lwp, with_space}
use Rattle.pr_model.specs.Erasure.{erased_system}
use Rattle.pr_model.specs.InstructionEffects.{Store, instruction_effect}
use Rattle.pr_model.specs.InstructionEffects as instruction
use Rattle.pr_model.specs.Lawful.{IsLawfulProcess, IsLawfulSystem}
use Rattle.pr_model.specs.Lives.{with_lwp_ended, with_this_ended, without_lwp}
use Rattle.pr_model.specs.LwpTurns.{LwpTurn, is_held_back, may_go_on, settled, turn_of}
use Rattle.pr_model.specs.Machines.{fault_incurred, step_taken, stopped_as_directed, traced}
use Rattle.pr_model.specs.Moves.{Move, moved}
use Rattle.pr_model.specs.Moves as move
use Rattle.pr_model.specs.Registers.{pc_of}
use Rattle.pr_model.specs.Rows.{Row, current_row_or, executed_row, incurred_row, posted_row_or, ran_row, requested_row, returned_row, row_for, row_in, signal_row_or}
use Rattle.pr_model.specs.State.{TracedLwp, TracedProcess, TracedState, TracedSystem, live_process, lwp_of, process_of, with_lwp, with_lwp_of, with_process}
use Rattle.pr_model.specs.Transitions.{Transition, after_transition, ended_if, ending, incurred, requested, stored_in, trapped}
use Rattle.pr_model.specs.UntracedMachine.{UntracedRun}
use Rattle.pr_model.specs.UntracedSteps.{Memory, steps_of_turn}
use Rattle.pr_model.specs.declared.events.Did.{Did}
use Rattle.pr_model.specs.declared.events.Did.TheVariants.{Faulted, Stopped}
use Rattle.pr_model.specs.declared.lwps.Phase.{Phase}
use Rattle.pr_model.specs.declared.lwps.Phase.TheVariants as phase
use Rattle.pr_model.specs.declared.steps.Step.{Step}
use Rattle.pr_model.specs.declared.steps.Step.TheVariants.{Exec}
use Rattle.pr_model.proofs.StateLemmas.{live_process-found}
use Rattle.pr_model.proofs.TurnLemmas.{turn-taken}
use Rattle.pr_lawful.proofs.Following.MadeLemmas.{Grows, settled-grows}
use Rattle.pr_lawful.proofs.Following.UseLemmas.{live-lawful}
use Rattle.pr_erasure.specs.PlainEffects.{IsPlain}
use Rattle.pr_erasure.specs.Untouched.{IsUntouched, IsUntouchedLwp, IsUntouchedProcess}
use Rattle.pr_erasure.proofs.SeenTurns.FaultLemmas.{plain}
use Rattle.pr_erasure.proofs.SeenTurns.ProperLemmas.{row-proper}
use Rattle.pr_erasure.proofs.SeenTurns.TransitionLemmas.{requested-bare}
use Rattle.pr_erasure.proofs.SeenTurns.UntouchedLemmas.{settled-keeps}
use Rattle.pr_hidden.specs.Covers.{Cover, Covers, Patch, keeps_lwp, no_cover, seen, uncovered, uncovered_lwp, uncovered_process, with_cover}
use Rattle.pr_hidden.specs.Following.{IsOpenTurn, RunsInstruction, SparesPatches}
use Rattle.pr_hidden.specs.Hiders.{Hiders, cover_turned, covers_turned, exits, has_hold, is_at_patch, is_directed, is_own, is_own_fault, lwp_at, lwp_in, replaces_memory, without_replaced}
use Rattle.pr_hidden.specs.HiddenSteps.{is_leaving, is_way_out, steps_of_own, turn_seen}
use Rattle.pr_hidden.specs.Hiding.{AreCovered, ChangesOwn, GoesBack, IsUnhampered, Stands, nothing, stores, with_fault, with_own_agent}
use Rattle.pr_hidden.specs.Sparing.{AreWithin, spares_instruction}
use Rattle.pr_hidden.specs.Tidiness.{IsAgentMove, IsSparingTurn, IsTidyMove, IsTidyTurn, is_breakpoint, leaves, works}
use Rattle.pr_hidden.proofs.Covers.BareCovers.{seen-by-bare}
use Rattle.pr_hidden.proofs.NothingHidden.CoverLemmas.{cover-other, cover-own, cover-same, cover-twice, covers-alike, each-cover, fault-reset, fault-twice}
use Rattle.pr_hidden.proofs.Follows.FaultRows.{HowFaulted, Steps, apart-bools, bpt-effect, by_instruction, by_return, how-faulted, no-way, return-marked, return-no-breakpoint, trace-effect}
use Rattle.pr_hidden.proofs.Follows.FollowLemmas.{Follows, agent-of-one, agents-same, beneath-tame, change-same, follows-unseen, process-same, settled-tame}
use Rattle.pr_hidden.proofs.Covers.HiddenCovers.{agent-gone, agent-unseen, agent_gone, settled-seen}
use Rattle.pr_hidden.proofs.Follows.OrderLemmas.{AreInOrder, live-made, transition-allowed}
use Rattle.pr_hidden.proofs.Follows.ReplacedLemmas.{none-dropped}
use Rattle.pr_hidden.proofs.Covers.RunCovers.{breakpoint-hidden, open-runs, step-runs, stepped_return-hidden}
use Rattle.pr_hidden.proofs.NothingHidden.TameLemmas.{IsTame, IsTameLwp, IsTameProcess, tame-found, tame-lwp, tame-process, tame-untouched, untouched-tame}
use Rattle.pr_hidden.proofs.Covers.TurnCovers.{TurnHere, lwp-beneath, live-beneath, turn-beneath, turn-here}

-- What programs see of a turn, and what it leaves hidden.

-- ---- which fault is a controller's

own-kind : (held at : Bool) (did : Did) → is_own_fault held at did ≡ true
    → (did ≡ Faulted flt.Bpt) ⊎ (did ≡ Faulted flt.Trace)
own-kind held at (Faulted flt.Bpt) own = inl refl
own-kind held at (Faulted flt.Trace) own = inr refl
own-kind held at (Faulted flt.Ill) own = no-way own
own-kind held at (Faulted flt.Watch) own = no-way own
own-kind held at (Faulted flt.Access) own = no-way own
own-kind held at (Faulted flt.Bounds) own = no-way own
own-kind held at (Faulted flt.Stack) own = no-way own
own-kind held at (Faulted flt.Izdiv) own = no-way own
own-kind held at _ own = no-way own

both : (a b : Bool) → not (not (a && b)) ≡ true → (a ≡ true) × (b ≡ true)
both true true e = (refl, refl)
both true false e = no-way e
both false b e = no-way e

module _ (who : Hiders) (covers : Covers) (s : TracedState) (pid id : ℕ) (t : LwpTurn) (p : TracedProcess)
    (l : TracedLwp) (turn : turn_of s.system pid id ≡ Some t) (live : live_process s.system pid ≡ Some p)
    (there : lwp_of p id ≡ Some l) (lawful : IsLawfulSystem s.system) (order : AreInOrder covers s.system)
    (tame : IsTame covers s.system) where
  abbrev did : Did
  did = t.turned.did

  abbrev row : Row
  row = row_for s.system pid p id l

  abbrev c : Cover
  c = covers pid

  abbrev new : Covers
  new = covers_turned who covers s pid id did

  abbrev own : Bool
  own = is_own who covers s pid id did

  here : TurnHere s.system pid p id l t
  here = turn-here s.system pid id t p l live there turn

  did-is : did ≡ row.did
  unfolding settled
  did-is = let h = here in ap (λ (x : LwpTurn). x.turned.did) h.is

  found : process_of s.system pid ≡ Some p
  found = live_process-found s.system pid p live

  of-process : IsLawfulProcess (pid, p)
  of-process = live-lawful s.system pid p lawful live

  stands : Stands s.system pid p id l
  stands = let of = of-process in record { live = live; there = there; processes = lawful.rising; lwps = of.rising }

  at : lwp_at s.system pid id ≡ Some l
  at = ap (λ o. lwp_in o id) live ∙ there

  tame-process-of : IsTameProcess covers (pid, p)
  tame-process-of = All-under (IsTameProcess covers) pid p s.system.processes tame.processes found

  -- ---- a hidden agent

  module _ (hidden : keeps_lwp c id ≡ false) where
    agent-there : (c.agent ≡ true) × (eqb id agent_id ≡ true)
    agent-there = both c.agent (eqb id agent_id) (ap not hidden)

    agent-cover : new ≡ with_cover pid (cond (exits did) (with_own_agent false c) c) covers
    unfolding covers_turned
    agent-cover =
        ap (λ b. with_cover pid (cond (not b) (cond (exits did) (with_own_agent false c) c)
        (without_replaced did (cond (is_directed (lwp_at s.system pid id)) c (with_fault id own c)))) covers) hidden

    -- it ends
    module _ (exit : exits did ≡ true) (is : row.transition ≡ ending ends_lwp)
        (more : eqb (length p.lwps) 1 ≡ false) where
      abbrev gone : Covers
      gone = with_cover pid (with_own_agent false c) covers

      gone-cover : new ≡ gone
      gone-cover = agent-cover ∙ ap (λ b. with_cover pid (cond b (with_own_agent false c) c) covers) exit

      after-exit : after_transition traced pid p id l row.transition s.system
          ≡ with_process pid (without_lwp agent_id) s.system
      unfolding after_transition all_changed ended with_lwp_ended with_lwp_of moved with_process with_lwp
      after-exit =
          ap (λ x. after_transition traced pid p id l x s.system) is
          ∙ ap (λ b. cond b (with_this_ended traced pid p 0 (with_lwp_of pid id (moved traced move.stays) s.system))
          (with_process pid (without_lwp id) (with_lwp_of pid id (moved traced move.stays) s.system))) more
          ∙ ap (λ n. with_process pid (without_lwp n) (with_lwp_of pid id (moved traced move.stays) s.system))
          (eqb-true id agent_id agent-there.1)
          ∙ ap (λ ps. with_process pid (without_lwp agent_id) (record s.system { processes = ps }))
          (change-same pid (with_lwp id (moved traced move.stays))
          (λ x. ap (λ ls. record x { lwps = ls }) (change-same id (moved traced move.stays) (λ k. refl) x.lwps))
          s.system.processes)

      exit-same : uncovered gone (with_process pid (without_lwp agent_id) s.system) ≡ uncovered covers s.system
      exit-same =
          let of = of-process in
          process-same covers pid (with_own_agent false c) s.system p (without_lwp agent_id) lawful.rising found
          (agent_gone c p agent-there.0 of.rising)

      exit-follows : Follows covers new s.system t.system []
      exit-follows =
          let h = here in
          let after = after_transition traced pid p id l row.transition s.system in
          let same : uncovered gone after ≡ uncovered covers s.system = ap (uncovered gone) after-exit ∙ exit-same in
          subst (λ (n : Covers). Follows covers n s.system t.system []) (sym gone-cover)
          (subst (λ (x : LwpTurn). Follows covers gone s.system x.system []) (sym h.is)
          (follows-unseen covers gone s.system (settled s.system pid p id l row).system
          (settled-seen gone s.system pid p id l row ∙ ap erased_system same)
          (settled-tame gone s.system pid p id l row (beneath-tame covers gone s.system after same tame))))

    -- it works
    module _ (stays : exits did ≡ false) (none : row.transition.ending ≡ None)
        (changes : ChangesOwn c.patches p.space row.transition.changes) where
      same-cover : new ≡ covers
      same-cover =
          agent-cover ∙ ap (λ b. with_cover pid (cond b (with_own_agent false c) c) covers) stays
          ∙ cover-same pid covers

      abbrev worked : TracedSystem
      worked = with_lwp_of pid id (moved traced row.transition.move)
          (all_changed traced pid p id l row.transition.changes s.system)

      after-work : after_transition traced pid p id l row.transition s.system ≡ worked
      unfolding after_transition
      after-work = ap (λ o. ended_if traced pid p id l o worked) none

      lwp-tame : (x : TracedSystem) → IsTame covers x
          → IsTame covers (with_lwp_of pid id (moved traced row.transition.move) x)
      unfolding with_lwp_of with_lwp
      lwp-tame x it =
          tame-process covers pid (with_lwp id (moved traced row.transition.move))
          (λ q of. record {
            no_kill = of.no_kill;
            unwatched = of.unwatched;
            lwps =
                All-change_under (IsTameLwp c) id (moved traced row.transition.move) q.lwps
                (λ k found it. record {
                  no_abort = λ kept. apart-bools (keeps_lwp c id) kept hidden;
                  no_agent = λ kept. apart-bools (keeps_lwp c id) kept hidden;
                }) of.lwps;
          }) x it

      changes-tame : (cs : List Change) → ChangesOwn c.patches p.space cs
          → IsTame covers (all_changed traced pid p id l cs s.system)
      unfolding all_changed changed with_space
      changes-tame _ nothing = tame
      changes-tame _ (stores at bytes covered) =
          tame-process covers pid (with_space (with_bytes at bytes p.space))
          (λ q of. record { no_kill = of.no_kill; unwatched = of.unwatched; lwps = of.lwps }) s.system tame

      work-follows : Follows covers new s.system t.system []
      work-follows =
          let h = here in
          subst (λ (n : Covers). Follows covers n s.system t.system []) (sym same-cover)
          (subst (λ (x : LwpTurn). Follows covers covers s.system x.system []) (sym h.is)
          (follows-unseen covers covers s.system (settled s.system pid p id l row).system
          (settled-seen covers s.system pid p id l row ∙ ap (seen covers) after-work
          ∙ agent-unseen covers s.system pid p id l row.transition.move row.transition.changes lawful.rising live hidden
          changes)
          (settled-tame covers s.system pid p id l row
          (subst (IsTame covers) (sym after-work)
          (lwp-tame (all_changed traced pid p id l row.transition.changes s.system)
          (changes-tame row.transition.changes changes))))))

    agent-seen : (m : Memory) → turn_seen who covers s m pid id did ≡ []
    unfolding turn_seen
    agent-seen m =
        ap (λ b. cond (not b) [] (cond own (steps_of_own (is_leaving (lwp_at s.system pid id)) pid id did)
        (steps_of_turn (m.returning pid id) pid id did))) hidden

    agent-follows : (m : Memory) → IsAgentMove c.patches p did row.transition
        → Follows covers new s.system t.system (turn_seen who covers s m pid id did)
    agent-follows m (leaves exit is more) =
        subst (λ (steps : List Step). Follows covers new s.system t.system steps) (sym (agent-seen m))
        (exit-follows exit is more)
    agent-follows m (works stays none changes) =
        subst (λ (steps : List Step). Follows covers new s.system t.system steps) (sym (agent-seen m))
        (work-follows stays none changes)

  -- ---- another lwp

  module _ (kept : keeps_lwp c id ≡ true) (tidy : IsTidyMove who covers s pid p id l did) where
    kept-cover : (b : Bool) → l.control.directed ≡ b → (replaces_memory did ≡ true → c.agent ≡ false)
        → new ≡ with_cover pid (cond b c (with_fault id own c)) covers
    unfolding covers_turned
    kept-cover b is alone =
        ap (λ k. with_cover pid (cond (not k) (cond (exits did) (with_own_agent false c) c)
        (without_replaced did (cond (is_directed (lwp_at s.system pid id)) c (with_fault id own c)))) covers) kept
        ∙ ap (λ o. with_cover pid (without_replaced did (cond (is_directed o) c (with_fault id own c))) covers) at
        ∙ ap (λ d. with_cover pid (without_replaced did (cond d c (with_fault id own c))) covers) is
        ∙ ap (λ (d : Cover). with_cover pid d covers) (dropped (cond b c (with_fault id own c)) same alone-there)
      where
        -- a vfork or an exec that is granted finds no patches, and no agent
        dropped : (d : Cover) → d.patches ≡ c.patches → (replaces_memory did ≡ true → d.agent ≡ false)
            → without_replaced did d ≡ d
        dropped = none-dropped covers s.system pid p id l did did-is tidy.changes

        same : (cond b c (with_fault id own c)).patches ≡ c.patches
        same = either (λ (d : Cover). d.patches ≡ c.patches) b c (with_fault id own c) refl refl

        alone-there : replaces_memory did ≡ true → (cond b c (with_fault id own c)).agent ≡ false
        alone-there granted =
            either (λ (d : Cover). d.agent ≡ false) b c (with_fault id own c) (alone granted) (alone granted)

    kept-seen : (m : Memory) (b : Bool) → own ≡ b
        → turn_seen who covers s m pid id did
        ≡ cond b (steps_of_own (is_way_out l.phase) pid id did) (steps_of_turn (m.returning pid id) pid id did)
    unfolding turn_seen
    kept-seen m b is =
        ap (λ k. cond (not k) [] (cond own (steps_of_own (is_leaving (lwp_at s.system pid id)) pid id did)
        (steps_of_turn (m.returning pid id) pid id did))) kept
        ∙ ap (λ o. cond own (steps_of_own (is_leaving o) pid id did) (steps_of_turn (m.returning pid id) pid id did)) at
        ∙ ap (λ o. cond o (steps_of_own (is_way_out l.phase) pid id did)
        (steps_of_turn (m.returning pid id) pid id did)) is

    -- ---- that stops as directed

    module _ (directed : l.control.directed ≡ true) where
      stop-row : row ≡ requested_row
      unfolding row_for
      stop-row =
          ap (λ b. cond b requested_row
          (posted_row_or s.system pid p id l l.phase
          (current_row_or s.system pid p id l l.current
          (signal_row_or s.system pid p id l l.phase (row_in s.system pid p id l l.phase))))) directed

      stopped-did : did ≡ Stopped
      unfolding requested_row
      stopped-did = did-is ∙ ap (λ (r : Row). r.did) stop-row

      stop-tame : IsTame covers (settled s.system pid p id l requested_row).system
      unfolding requested_row requested after_transition all_changed moved traced stopped_as_directed with_lwp_of
      stop-tame =
          settled-tame covers s.system pid p id l requested_row
          (tame-process covers pid (with_lwp id (moved traced move.stops))
          (λ x it. tame-lwp covers pid id (moved traced move.stops) (λ k. refl) x it) s.system tame)

      not-replaced : replaces_memory did ≡ true → c.agent ≡ false
      not-replaced granted = no-way (sym (ap replaces_memory stopped-did) ∙ granted)

      not-own : own ≡ false
      unfolding is_own
      not-own =
          ap (λ d. is_own_fault (has_hold who s.opens pid)
          (is_at_patch c.patches (lwp_at s.system pid id)) d) stopped-did

      stop-seen : (m : Memory) → turn_seen who covers s m pid id did ≡ []
      stop-seen m = kept-seen m false not-own ∙ ap (λ d. steps_of_turn (m.returning pid id) pid id d) stopped-did

      stop-follows : (m : Memory) → Follows covers new s.system t.system (turn_seen who covers s m pid id did)
      stop-follows m =
          let h = here in
          subst (λ (steps : List Step). Follows covers new s.system t.system steps) (sym (stop-seen m))
          (subst (λ (n : Covers). Follows covers n s.system t.system [])
          (sym (kept-cover true directed not-replaced ∙ cover-same pid covers))
          (subst (λ (x : LwpTurn). Follows covers covers s.system x.system [])
          (sym (h.is ∙ ap (settled s.system pid p id l) stop-row))
          (follows-unseen covers covers s.system (settled s.system pid p id l requested_row).system
          (seen-by-bare covers s.system (settled s.system pid p id l requested_row).system
          (requested-bare s.system pid p id l)) stop-tame)))

    -- ---- that goes on

    module _ (goes : l.control.directed ≡ false) where
      no_agent : c.agent ≡ false
      no_agent =
          elim (cases_Bool c.agent) [
            | inl agent ↦ apart-bools l.control.directed (tidy.beside_agent agent) goes
            | inr none ↦ none
          ]

      -- it stands at no fault of a controller's, and can be noted so
      abbrev cleared : Covers
      cleared = with_cover pid (with_fault id false c) covers

      cleared-is : cleared pid ≡ with_fault id false c
      cleared-is = cover-own pid (with_fault id false c) covers

      cleared-same : uncovered cleared s.system ≡ uncovered covers s.system
      cleared-same =
          let of = of-process in
          covers-alike covers s.system pid (with_fault id false c) lawful.rising
          (λ q is. let same : p ≡ q = same_Some p q (sym found ∙ is) in
          subst (λ (x : TracedProcess). uncovered_process (with_fault id false c) x ≡ uncovered_process c x) same
          (fault-reset c p id l of.rising there
          (λ noted f address faulted. no-fault
          (apart-bools l.control.directed (tidy.never_posted noted f address faulted) goes))))
        where
          no-fault : ⊥ → ⊥
          no-fault e = e

      cleared-agent : (cleared pid).agent ≡ false
      cleared-agent = ap (λ (d : Cover). d.agent) cleared-is ∙ no_agent

      fault-cleared : (cleared pid).faulted id ≡ false
      fault-cleared = ap (λ (d : Cover). d.faulted id) cleared-is ∙ own-id (eq-eqb id id refl)
        where
          own-id : eqb id id ≡ true → (with_fault id false c).faulted id ≡ false
          own-id is = rw is refl

      cleared-patches : (n : ℕ) → (cleared n).patches ≡ (covers n).patches
      cleared-patches n =
          elim (cases_Bool (eqb n pid)) [
            | inl is ↦ rw is (ap (λ k. (covers k).patches) (sym (eqb-true n pid is)))
            | inr other ↦ rw other refl
          ]

      cleared-agents : (n : ℕ) → (cleared n).agent ≡ (covers n).agent
      cleared-agents = agent-of-one covers pid (with_fault id false c) refl

      -- to note a fault after that is to note it
      again : (b : Bool)
          → with_cover pid (with_fault id b (cleared pid)) cleared ≡ with_cover pid (with_fault id b c) covers
      again b =
          ap (λ (d : Cover). with_cover pid (with_fault id b d) cleared) cleared-is
          ∙ ap (λ (d : Cover). with_cover pid d cleared) (fault-twice id b false c)
          ∙ cover-twice pid (with_fault id b c) (with_fault id false c) covers

      goes-cover : (b : Bool) → own ≡ b → new ≡ with_cover pid (with_fault id b c) covers
      goes-cover b is =
          kept-cover false goes (λ granted. no_agent) ∙ ap (λ o. with_cover pid (with_fault id o c) covers) is

      tame-cleared : IsTame cleared s.system
      tame-cleared = agents-same covers cleared cleared-agents s.system tame

      noted-tame : (x : TracedSystem) (b : Bool) → IsTame covers x
          → IsTame (with_cover pid (with_fault id b c) covers) x
      noted-tame x b it =
          agents-same covers (with_cover pid (with_fault id b c) covers)
          (agent-of-one covers pid (with_fault id b c) refl) x it

      -- what a turn leaves that changes a space at most, and moves its lwp
      store-tame : (store : Option Store)
          → IsTame covers (all_changed traced pid p id l (stored_in p.space store) s.system)
      unfolding all_changed changed stored_in with_space
      store-tame None = tame
      store-tame (Some store) =
          tame-process covers pid (with_space (with_bytes store.at store.bytes p.space))
          (λ q of. record { no_kill = of.no_kill; unwatched = of.unwatched; lwps = of.lwps }) s.system tame

      trapped-tame : (address : ℕ) (regs : List ℕ) (store : Option Store)
          → IsTame covers (after_transition traced pid p id l (trapped flt.Trace address p.space regs store) s.system)
      unfolding after_transition trapped moved traced fault_incurred step_taken with_lwp_of
      trapped-tame address regs store =
          tame-process covers pid (with_lwp id (moved traced (move.traps flt.Trace address regs)))
          (λ x it. tame-lwp covers pid id (moved traced (move.traps flt.Trace address regs)) (λ k. refl) x it)
          (all_changed traced pid p id l (stored_in p.space store) s.system) (store-tame store)

      incurred-tame : (address : ℕ)
          → IsTame covers (after_transition traced pid p id l (incurred flt.Bpt address) s.system)
      unfolding after_transition incurred all_changed moved traced fault_incurred with_lwp_of
      incurred-tame address =
          tame-process covers pid (with_lwp id (moved traced (move.incurs flt.Bpt address)))
          (λ x it. tame-lwp covers pid id (moved traced (move.incurs flt.Bpt address)) (λ k. refl) x it) s.system tame

      left-tame : (r : Row) → row ≡ r → IsTame covers (after_transition traced pid p id l r.transition s.system)
          → IsTame (with_cover pid (with_fault id true c) covers) t.system
      left-tame r is it =
          let h = here in
          noted-tame t.system true
          (subst (λ (x : LwpTurn). IsTame covers x.system) (sym (h.is ∙ ap (settled s.system pid p id l) is))
          (settled-tame covers s.system pid p id l r it))

      -- ---- at a breakpoint of a controller's

      breakpoint-follows : (m : Memory) → own ≡ true → did ≡ Faulted flt.Bpt
          → Follows covers new s.system t.system (turn_seen who covers s m pid id did)
      unfolding incurred_row executed_row
      breakpoint-follows m is fault =
          by (how-faulted s.system pid p id l flt.Bpt (sym did-is ∙ fault))
        where
          noted : Covers
          noted = with_cover pid (with_fault id true c) covers

          none-seen : turn_seen who covers s m pid id did ≡ []
          none-seen = kept-seen m true is ∙ ap (λ d. steps_of_own (is_way_out l.phase) pid id d) fault

          by : HowFaulted s.system pid p id l
              → Follows covers new s.system t.system (turn_seen who covers s m pid id did)
          by (by_return call back is_row) =
              absurd (return-no-breakpoint p l call (ap (λ (r : Row). r.did) (sym is_row) ∙ sym did-is ∙ fault))
          by (by_instruction runs is_row) =
              let effect =
              bpt-effect p l (instruction_effect p.space p.control.areas l.regs)
              (ap (λ (r : Row). r.did) (sym is_row) ∙ sym did-is ∙ fault) in
              subst (λ (steps : List Step). Follows covers new s.system t.system steps) (sym none-seen)
              (subst (λ (n : Covers). Follows covers n s.system t.system []) (sym (goes-cover true is))
              (follows-unseen covers noted s.system t.system
              (ap (λ (n : Covers). seen n t.system) (sym (again true))
              ∙ breakpoint-hidden cleared s.system pid id t p l
              effect.0 turn stands runs effect.1 cleared-agent fault-cleared
              ∙ ap erased_system cleared-same)
              (left-tame (incurred_row flt.Bpt effect.0)
              (is_row ∙ ap (executed_row p l) effect.1) (incurred-tame effect.0))))

      -- ---- at FLTTRACE

      unwatched-effect : instruction_effect p.space p.control.areas l.regs ≡ instruction_effect p.space [] l.regs
      unwatched-effect = let of = tame-process-of in ap (λ areas. instruction_effect p.space areas l.regs) of.unwatched

      unhampered : IsUnhampered p id l
      unhampered =
          let of = tame-process-of in
          let it = All-under (IsTameLwp c) id l p.lwps of.lwps there in
          record { no_agent = it.no_agent kept; no_abort = it.no_abort kept; unwatched = of.unwatched }

      own-patches : (cleared pid).patches ≡ c.patches
      own-patches = ap (λ (d : Cover). d.patches) cleared-is

      within : AreWithin (cleared pid).patches
      within = let sound = order.sound pid in subst AreWithin (sym own-patches) sound.within

      stepped-follows : (m : Memory) → own ≡ true → did ≡ Faulted flt.Trace → SparesPatches c.patches p l
          → Follows covers new s.system t.system (turn_seen who covers s m pid id did)
      unfolding executed_row ran_row returned_row
      stepped-follows m is fault spares =
          by (how-faulted s.system pid p id l flt.Trace (sym did-is ∙ fault))
        where
          noted : Covers
          noted = with_cover pid (with_fault id true c) covers

          steps : turn_seen who covers s m pid id did ≡ cond (is_way_out l.phase) [] (Exec pid id ∷ [])
          steps = kept-seen m true is ∙ ap (λ d. steps_of_own (is_way_out l.phase) pid id d) fault

          by : HowFaulted s.system pid p id l
              → Follows covers new s.system t.system (turn_seen who covers s m pid id did)
          by (by_return call back is_row) =
              let marked =
              return-marked p l call (ap (λ (r : Row). r.did) (sym is_row) ∙ sym did-is ∙ fault) in
              let transition : row.transition ≡ trapped flt.Trace (pc_of l.regs) p.space l.regs None =
              ap (λ (r : Row). r.transition) is_row ∙ rw marked refl in
              let none : turn_seen who covers s m pid id did ≡ [] =
              steps ∙ ap (λ ph. cond (is_way_out ph) [] (Exec pid id ∷ [])) back.on_its_way in
              subst (λ (ss : List Step). Follows covers new s.system t.system ss) (sym none)
              (subst (λ (n : Covers). Follows covers n s.system t.system []) (sym (goes-cover true is))
              (follows-unseen covers noted s.system t.system
              (ap (λ (n : Covers). seen n t.system) (sym (again true))
              ∙ stepped_return-hidden cleared s.system pid id t p l call turn stands back marked cleared-agent
              ∙ ap erased_system cleared-same)
              (left-tame row refl
              (subst (λ x. IsTame covers (after_transition traced pid p id l x s.system)) (sym transition)
              (trapped-tame (pc_of l.regs) l.regs None)))))
          by (by_instruction runs is_row) =
              let e = instruction_effect p.space p.control.areas l.regs in
              let it =
              trace-effect p l e (subst IsPlain (sym unwatched-effect) (plain p.space l.regs))
              (ap (λ (r : Row). r.did) (sym is_row) ∙ sym did-is ∙ fault) in
              let address = pc_of it.regs in
              let transition : row.transition ≡ trapped flt.Trace address p.space it.regs it.store =
              ap (λ (r : Row). r.transition) (is_row ∙ ap (executed_row p l) it.effect)
              ∙ marked-transition it.regs it.store it.marked in
              let one : turn_seen who covers s m pid id did ≡ Exec pid id ∷ [] =
              steps ∙ ap (λ ph. cond (is_way_out ph) [] (Exec pid id ∷ [])) runs.in_program in
              let spared : spares_instruction (cleared pid).patches p.space l.regs ≡ true =
              ap (λ (ps : List Patch). spares_instruction ps p.space l.regs) own-patches ∙ spares.instruction runs in
              subst (λ (ss : List Step). Follows covers new s.system t.system ss) (sym one)
              (subst (λ (n : Covers). Follows covers n s.system t.system (Exec pid id ∷ [])) (sym (goes-cover true is))
              (record {
                run =
                    subst (λ u. UntracedRun u (Exec pid id ∷ []) (seen noted t.system))
                    (ap erased_system cleared-same)
                    (subst (λ (n : Covers). UntracedRun (seen cleared s.system) (Exec pid id ∷ []) (seen n t.system))
                    (again true)
                    (step-runs cleared s.system pid id p l
                    stands cleared-agent fault-cleared t it.regs it.store turn runs
                    it.effect it.marked within spared unhampered));
                tame =
                    left-tame row refl
                    (subst (λ x. IsTame covers (after_transition traced pid p id l x s.system)) (sym transition)
                    (trapped-tame address it.regs it.store));
              }))
            where
              marked-transition : (regs : List ℕ) (store : Option Store) → l.control.step ≡ true
                  → (executed_row p l (instruction.runs regs store)).transition
                  ≡ trapped flt.Trace (pc_of regs) p.space regs store
              marked-transition regs store marked = rw marked refl

      -- ---- at nothing of a controller's

      module _ (other : own ≡ false) (spares : SparesPatches c.patches p l) where
        not-stepped : row.did ≢ Faulted flt.Trace
        unfolding is_own
        not-stepped is =
            let held = tidy.own_steps (did-is ∙ is) in
            apart-bools own
            (ap (λ d. is_own_fault (has_hold who s.opens pid) (is_at_patch c.patches (lwp_at s.system pid id)) d)
            (did-is ∙ is)
            ∙ held) other

        later : s.system.made ≤ s.system.made
        later = omega arith

        fresh : (n : ℕ) → s.system.made ≤ n → cleared n ≡ no_cover
        fresh n from =
            let made = live-made s.system pid p lawful live in
            cover-other pid (with_fault id false c) covers n (λ is. absurd (omega (arith, made, from, is)))
            ∙ order.fresh n from

        is-open : IsOpenTurn cleared s.system pid p id l
        is-open = record {
          no_agent = cleared-agent;
          no_fault = fault-cleared;
          not_stepped = not-stepped;
          within = within;
          spares = subst (λ (ps : List Patch). SparesPatches ps p l) (sym own-patches) spares;
          allows =
              transition-allowed covers cleared cleared-patches
              s.system.made fresh pid cleared-agent p id l row.transition
              s.system later tidy.changes tidy.returns;
        }

        open-tame : IsTame cleared t.system
        open-tame =
            let h = here in
            let beneath = turn-beneath cleared s.system pid p id l t h is-open in
            let u = uncovered cleared s.system in
            let q = uncovered_process (cleared pid) p in
            let m = uncovered_lwp false l in
            let untouched = tame-untouched cleared s.system tame-cleared in
            let of : IsUntouchedProcess (pid, q) =
            All-under IsUntouchedProcess pid q u.processes untouched.processes
            (live_process-found u pid q (live-beneath cleared s.system pid p live)) in
            let it : IsUntouchedLwp (id, m) =
            All-under IsUntouchedLwp id m q.lwps of.lwps
            (lwp-beneath (cleared pid) p id l cleared-agent fault-cleared there) in
            untouched-tame cleared t.system
            (subst (λ (x : LwpTurn). IsUntouched x.system) beneath.is
            (settled-keeps pid q id m it u untouched (row_for u pid q id m) (row-proper u pid q id m)))

        open-follows : (m : Memory) → Follows covers new s.system t.system (turn_seen who covers s m pid id did)
        open-follows m =
            subst (λ (ss : List Step). Follows covers new s.system t.system ss) (sym (kept-seen m false other))
            (subst (λ (n : Covers). Follows covers n s.system t.system (steps_of_turn (m.returning pid id) pid id did))
            (sym (goes-cover false other))
            (record {
              run =
                  subst (λ u. UntracedRun u (steps_of_turn (m.returning pid id) pid id did) (seen cleared t.system))
                  (ap erased_system cleared-same)
                  (open-runs cleared s.system pid id t p l (m.returning pid id) turn live there is-open unhampered);
              tame = open-tame;
            }))

      goes-follows : (m : Memory) → IsSparingTurn who covers s pid id did
          → Follows covers new s.system t.system (turn_seen who covers s m pid id did)
      unfolding is_own
      goes-follows m sparing =
          elim (cases_Bool own) [
            | inr other ↦
                open-follows other
                (sparing.spares p l live there kept goes
                (ap (λ b. is_breakpoint did && b) other ∙ and_false (is_breakpoint did))) m
            | inl mine ↦
                elim (own-kind (has_hold who s.opens pid) (is_at_patch c.patches (lwp_at s.system pid id)) did mine) [
                  | inl fault ↦ breakpoint-follows m mine fault
                  | inr fault ↦
                      stepped-follows m mine fault
                      (sparing.spares p l live there kept goes (ap (λ d. is_breakpoint d && own) fault))
                ]
          ]

    kept-follows : (m : Memory) → IsSparingTurn who covers s pid id did
        → Follows covers new s.system t.system (turn_seen who covers s m pid id did)
    kept-follows m sparing =
        elim (cases_Bool l.control.directed) [
          | inl directed ↦ stop-follows directed m
          | inr goes ↦ goes-follows goes m sparing
        ]

-- Every tidy turn that spares the patches.
pub turn-follows : (who : Hiders) (covers : Covers) (s : TracedState) (pid id : ℕ) (t : LwpTurn) (m : Memory)
    → turn_of s.system pid id ≡ Some t → IsLawfulSystem s.system → AreInOrder covers s.system → IsTame covers s.system
    → IsSparingTurn who covers s pid id t.turned.did → IsTidyTurn who covers s pid id t.turned.did
    → Follows covers (covers_turned who covers s pid id t.turned.did) s.system t.system
    (turn_seen who covers s m pid id t.turned.did)
turn-follows who covers s pid id t m turn lawful order tame sparing tidy =
    let taken = turn-taken s.system pid id t turn in
    let p = taken.process in
    let l = taken.lwp in
    elim (cases_Bool (keeps_lwp (covers pid) id)) [
      | inl kept ↦
          kept-follows who covers s pid id t p l turn taken.live taken.there lawful order tame kept
          (tidy.others p l taken.live taken.there kept) m sparing
      | inr hidden ↦
          agent-follows who covers s pid id t p l turn taken.live taken.there lawful order tame hidden m
          (tidy.agents p l taken.live taken.there hidden)
    ]
