use Rattle.std.proofs.Common.{◌≡◌, ◌≢◌, ◌&&◌, ℕ, Bool, true, false, is_some, eqb, cond, length, Option, Some, None, List, [], ◌∷◌, refl, sym, subst, ◌∙◌, ap}
use Rattle.std.specs.Option.{option_map}
use Rattle.std.proofs.lemmas.Bool.{and_parts, eqb-false, eqb-true, false≢true, or_parts}
use Rattle.pr_num.specs.ById.{IsRising}
use Rattle.pr_num.specs.Control.{has_flags, async_mode}
use Rattle.pr_num.specs.declared.infos.Info.{Info}
use Rattle.pr_num.specs.declared.signals.Sig.{Sig}
use Rattle.pr_num.proofs.BoolLemmas.{either}
use Rattle.pr_num.proofs.ByIdLaws.{under-change_under}
use Rattle.pr_keeps.proofs.LoanLemmas.{lent-keeps, lent-made}
use Rattle.pr_parts.specs.FileCalls.{with_all_shared}
use Rattle.pr_model.specs.Changes.{Change, all_changed, becomes, changed, disposition_is, Ending, ended, ends_lwp, ends_process, files_are, forks, held_is, job_stops, makes_lwp, reaps, resumes, signals, signals_itself, space_is, suspends, takes_shared, with_disposition_of, with_fds, with_job_stop, with_shared_taken, with_space}
use Rattle.pr_model.specs.Lives.{Birth, forked, is_id, lent_to, with_child, with_ended, with_lent, with_loan_back, with_lwp_ended, with_made, with_new_lwp, with_program, without_lwp}
use Rattle.pr_model.specs.Generation.{signalled}
use Rattle.pr_num.specs.Signals.{signal_number}
use Rattle.pr_model.specs.LwpTurns.{settled, with_counted}
use Rattle.pr_model.specs.Machines.{traced}
use Rattle.pr_model.specs.Moves.{moved}
use Rattle.pr_model.specs.Points.{after_meeting, is_traced, stopped_at, with_others_directed, with_stop_at}
use Rattle.pr_model.specs.Rows.{Row}
use Rattle.pr_model.specs.Signals.{generated, is_kill}
use Rattle.pr_model.specs.State.{TracedLwp, TracedProcess, TracedSystem, lwp_of, process_of, with_lwp, with_lwp_of, with_process, with_process_if}
use Rattle.pr_model.specs.Stops.{with_all_directed}
use Rattle.pr_model.specs.Transitions.{Transition, after_transition, ended_if}
use Rattle.pr_model.specs.declared.stops.Point.{Point}
use Rattle.pr_lawful.proofs.LawfulTurns.SuitingLemmas.{SuitChanges, SuitsChange, SuitsTransition}
use Rattle.pr_ready_laws.specs.Reach.{Reach, around, changes_files, itself, reach_of, reaches_around, to_pipes}
use Rattle.pr_ready_laws.specs.Touched.{is_kin, is_near, is_with_kin, is_with_kin_of, target_in}
use Rattle.pr_ready_laws.proofs.ChildLemmas.{KeepsFamily}
use Rattle.pr_ready_laws.proofs.EndLemmas.{SameFamily, leaves-ended, leaves-generated, loan_back-family, signalled-family}
use Rattle.pr_ready_laws.proofs.LeftLemmas.{Leaves, leaves-either, leaves-files, leaves-made, leaves-next, leaves-other, leaves-other_if, leaves-reaped, leaves-self}
use Rattle.pr_ready_laws.proofs.ReachLemmas.{IsWithinReach, allows, allows_all, ends_within}

-- What a turn of an lwp of another process leaves of one that is out of its reach.

-- what reaches around changes files
around-files : (reach : Reach) → reaches_around reach ≡ true → changes_files reach ≡ true
around-files itself is = absurd (false≢true is)
around-files to_pipes is = absurd (false≢true is)
around-files around is = refl

new_lwp-family : (new : ℕ) (regs : List ℕ) (held : ℕ) → KeepsFamily (with_new_lwp traced new regs held)
unfolding with_new_lwp
new_lwp-family new regs held x =
    either (SameFamily x) (is_some (lwp_of x new)) x _ (refl, refl) (refl, refl)

meeting-family : (point : Option Point) (id : ℕ) → KeepsFamily (after_meeting point id)
unfolding after_meeting with_stop_at with_others_directed with_all_directed with_lwp
meeting-family None id x = (refl, refl)
meeting-family (Some point) id x =
    let at = with_lwp id (stopped_at point) x in
    let async = has_flags at.control.modes async_mode in
    either (SameFamily x) (is_traced x.control point) (cond async at (with_all_directed at)) x
    (either (SameFamily x) async at (with_all_directed at) (refl, refl) (refl, refl)) (refl, refl)

module _ (pid acting : ℕ) (p : TracedProcess) (id : ℕ) (l : TracedLwp) (reach : Reach) (s : TracedSystem)
    (user : pid ≢ 0) (other : acting ≢ pid) (apart : reaches_around reach ≡ true → is_near s p l pid ≡ false) where
  abbrev L : TracedSystem → TracedSystem → Type 0
  L u v = Leaves pid (changes_files reach) false u v

  own : (f : TracedProcess → TracedProcess) (u : TracedSystem) → KeepsFamily f → L u (with_process acting f u)
  own f u keeps = leaves-other pid (changes_files reach) false acting f u other keeps

  next : (u v w : TracedSystem) → L u v → L v w → L u w
  next u v w one two = leaves-next pid (changes_files reach) false u v w one two

  self : (u : TracedSystem) → L u u
  self u = leaves-self pid (changes_files reach) false u

  or-else : (b : Bool) (u v w : TracedSystem) → L u v → L u w → L u (cond b v w)
  or-else b u v w one two = leaves-either pid (changes_files reach) false b u v w one two

  -- who is around
  pub record IsApart : Type 0 where
    pub made : s.made ≢ pid
    pub kin : is_kin p pid ≡ false
    pub target : is_with_kin_of s (target_in l.phase l.regs) pid ≡ false

  is-apart : reaches_around reach ≡ true → IsApart
  is-apart is =
      let first = or_parts (eqb s.made pid) _ (apart is) in
      let rest = or_parts (is_kin p pid) _ first.1 in
      record { made = eqb-false s.made pid first.0; kin = rest.0; target = rest.1 }

  sent-apart : (target : ℕ) (o : Option ℕ) → is_id target o ≡ true → is_with_kin_of s o pid ≡ false
      → is_with_kin s target pid ≡ false
  sent-apart target None is none = absurd (false≢true is)
  sent-apart target (Some n) is none =
      subst (λ m. is_with_kin s m pid ≡ false) (eqb-true n target is) none

  child-leaves : (birth : Birth) (args : List ℕ) → reaches_around reach ≡ true
      → L s (with_child traced birth acting p l args s)
  unfolding with_child lent_to forked
  child-leaves birth args is =
      let shared : TracedSystem = record s { files = with_all_shared s.files p.fds } in
      let lent : TracedSystem = with_lent birth acting s.made shared in
      let child : TracedProcess = forked traced birth acting p l args s.clock in
      let new : lent.made ≢ pid =
      subst (λ n. n ≢ pid) (sym (lent-made birth acting s.made shared)) (is-apart is).made in
      next s lent (with_made child lent)
      (lent-keeps (L s) birth acting s.made (λ u before. next s u (with_process acting (lent_to s.made) u) before
      (lends u)) shared
      (leaves-files pid (changes_files reach) false (with_all_shared s.files p.fds) s (around-files reach is)))
      (leaves-made pid (changes_files reach) false child lent new born)
    where
      lends : (u : TracedSystem) → L u (with_process acting (lent_to s.made) u)
      lends u = own (lent_to s.made) u (λ x. (refl, refl))

      born : (forked traced birth acting p l args s.clock).ended ≡ None
      born = refl

  itself-leaves : (g : Sig) (info : Info)
      → L s (cond (is_kill g) s (generated traced acting (Some id) g info s))
  unfolding generated
  itself-leaves g info =
      elim (is_kill g) as
      (λ b. L s
      (cond b s
      (cond b (with_ended traced acting (signal_number g) s)
      (with_process acting (signalled (Some id) g info) s)))) [
        | true ↦ self s
        | false ↦ own (signalled (Some id) g info) s (signalled-family (Some id) g info)
      ]

  change-leaves : IsRising s.processes → (c : Change) → SuitsChange acting p id l s c
      → allows reach (target_in l.phase l.regs) c ≡ true → L s (changed traced acting p id l c s)
  unfolding changed with_fds with_space with_shared_taken with_job_stop with_disposition_of with_lwp with_program
  change-leaves rising (files_are files fds) suits may =
      next s (record s { files = files }) (with_process acting (with_fds fds) (record s { files = files }))
      (leaves-files pid (changes_files reach) false files s may)
      (own (with_fds fds) (record s { files = files }) (λ x. (refl, refl)))
  change-leaves rising (space_is space) suits may = own _ s (λ x. (refl, refl))
  change-leaves rising (signals target g info) suits may =
      let parts = and_parts (reaches_around reach) _ may in
      or-else (is_kill g && eqb target acting) s s _ (self s)
      (leaves-generated pid (changes_files reach) false user (around-files reach parts.0) target None g info s
      (sent-apart target (target_in l.phase l.regs) parts.1 (is-apart parts.0).target))
  change-leaves rising (signals_itself g info) suits may = itself-leaves g info
  change-leaves rising (takes_shared g) suits may = own _ s (λ x. (refl, refl))
  change-leaves rising (job_stops g) suits may = own _ s (λ x. (refl, refl))
  change-leaves rising (disposition_is g disposition) suits may = own _ s (λ x. (refl, refl))
  change-leaves rising (held_is held) suits may = own _ s (λ x. (refl, refl))
  change-leaves rising (resumes frame frames) suits may = own _ s (λ x. (refl, refl))
  change-leaves rising (forks birth args) suits may =
      or-else (eqb s.made acting) s s _ (self s) (child-leaves birth args may)
  change-leaves rising (reaps child) suits may =
      or-else (eqb child acting) s s _ (self s) (leaves-reaped pid (changes_files reach) false child s rising suits)
  change-leaves rising (becomes program) suits may =
      let parts = or_parts (eqb p.parent pid) _ (is-apart may).kin in
      let lent = or_parts (is_id pid p.lender) _ parts.1 in
      let ran : TracedSystem = with_process acting (with_program traced id l program) s in
      next s ran (with_process_if p.lender (with_loan_back acting p) ran) (own _ s (λ x. (refl, refl)))
      (leaves-other_if pid (changes_files reach) false p.lender (with_loan_back acting p) ran lent.0
      (loan_back-family acting p))
  change-leaves rising (makes_lwp new regs held) suits may = own _ s (new_lwp-family new regs held)
  change-leaves rising (suspends target suspended) suits may = own _ s (λ x. (refl, refl))

  -- one change, and what is stored after it
  changes-leave : IsRising s.processes → (cs : List Change) → SuitChanges acting p id l s cs
      → allows_all reach (target_in l.phase l.regs) cs ≡ true → L s (all_changed traced acting p id l cs s)
  unfolding all_changed changed with_space
  changes-leave rising [] suits may = self s
  changes-leave rising (c ∷ []) suits may = change-leaves rising c suits.0 may
  changes-leave rising (c ∷ space_is space ∷ []) suits may =
      let to : TracedSystem = changed traced acting p id l c s in
      next s to (with_process acting (with_space space) to) (change-leaves rising c suits.0 may)
      (own (with_space space) to (λ x. (refl, refl)))
  changes-leave rising _ suits may = absurd (false≢true may)

  ending-leaves : (how : Option Ending) (x : TracedProcess) (u : TracedSystem) → ends_within reach how ≡ true
      → ((way : Ending) → how ≡ Some way → process_of u acting ≡ Some x) → x.parent ≡ p.parent
      → L u (ended_if traced acting p id l how u)
  unfolding ended with_lwp_ended without_lwp
  ending-leaves None x u may found same = self u
  ending-leaves (Some (ends_process status)) x u may found same =
      leaves-ended pid (changes_files reach) false user (around-files reach may) acting p x status u
      (found (ends_process status) refl) same other (is-apart may).kin
  ending-leaves (Some ends_lwp) x u may found same =
      or-else (eqb (length p.lwps) 1) u _ _
      (leaves-ended pid (changes_files reach) false user (around-files reach may) acting p x 0 u (found ends_lwp refl)
      same other (is-apart may).kin) (own _ u (λ y. (refl, refl)))

  transition-leaves : IsRising s.processes → process_of s acting ≡ Some p → (t : Transition)
      → SuitsTransition s acting p id l t → allows_all reach (target_in l.phase l.regs) t.changes ≡ true
      → ends_within reach t.ending ≡ true → L s (after_transition traced acting p id l t s)
  unfolding after_transition with_lwp_of with_lwp all_changed with_process
  transition-leaves rising there t suits may ends =
      let changes : TracedSystem = all_changed traced acting p id l t.changes s in
      let moves : TracedSystem = with_process acting (with_lwp id (moved traced t.move)) changes in
      next s moves (ended_if traced acting p id l t.ending moves)
      (next s changes moves (changes-leave rising t.changes suits.changes may)
      (own (with_lwp id (moved traced t.move)) changes (λ x. (refl, refl))))
      (ending-leaves t.ending (with_lwp id (moved traced t.move) p) moves ends (stands suits) refl)
    where
      after : (cs : List Change) → cs ≡ []
          → process_of (with_process acting (with_lwp id (moved traced t.move)) (all_changed traced acting p id l cs s))
          acting ≡ Some (with_lwp id (moved traced t.move) p)
      after cs none =
          rw none
          (under-change_under acting (with_lwp id (moved traced t.move)) s.processes
          ∙ ap (option_map (with_lwp id (moved traced t.move))) there)

      stands : SuitsTransition s acting p id l t → (way : Ending) → t.ending ≡ Some way
          → process_of
          (with_process acting (with_lwp id (moved traced t.move)) (all_changed traced acting p id l t.changes s))
          acting
          ≡ Some (with_lwp id (moved traced t.move) p)
      stands suits way is = after t.changes (suits.alone way is).0

pub settled-leaves : (pid acting : ℕ) (p : TracedProcess) (id : ℕ) (l : TracedLwp) (s : TracedSystem) (row : Row)
    → pid ≢ 0 → acting ≢ pid → (reaches_around (reach_of row.did) ≡ true → is_near s p l pid ≡ false)
    → IsRising s.processes → process_of s acting ≡ Some p → SuitsTransition s acting p id l row.transition
    → IsWithinReach (target_in l.phase l.regs) row
    → Leaves pid (changes_files (reach_of row.did)) false s (settled s acting p id l row).system
unfolding settled with_counted
settled-leaves pid acting p id l s row user other apart rising there suits within =
    let reach : Reach = reach_of row.did in
    let made : TracedSystem = after_transition traced acting p id l row.transition s in
    let counts : TracedSystem = with_process acting (with_counted row.did row.begun) made in
    next pid acting p id l reach s user other apart s counts (with_process acting (after_meeting row.point id) counts)
    (next pid acting p id l reach s user other apart s made counts
    (transition-leaves pid acting p id l reach s user other apart rising there row.transition suits within.changes
    within.ending)
    (own pid acting p id l reach s user other apart (with_counted row.did row.begun) made (λ x. (refl, refl))))
    (own pid acting p id l reach s user other apart (after_meeting row.point id) counts (meeting-family row.point id))
