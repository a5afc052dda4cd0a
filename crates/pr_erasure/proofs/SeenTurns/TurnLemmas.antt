use Rattle.std.proofs.Common.{◌≡◌, ℕ, Bool, true, false, ◌||◌, is_some, Option, Some, None, List, cond, refl, sym, subst, ◌∙◌, ap}
use Rattle.pr_num.specs.declared.signals.Sig.{Sig}
use Rattle.pr_num.specs.declared.syscalls.Sysno.{Sysno}
use Rattle.pr_model.specs.CallEffects.{call_effect}
use Rattle.pr_model.specs.Erasure.{erased_phase, erased_pending}
use Rattle.pr_model.specs.LwpTurns.{is_ready, may_wake, may_go_on}
use Rattle.pr_model.specs.Registers.{arguments}
use Rattle.pr_model.specs.Rows.{Row, requested_row, performed_row, interrupted_row, call_row, row_in, taken_or, signal_row_or, current_row_or, posted_row_or, row_for}
use Rattle.pr_model.specs.Signals.{own_takeable, shared_takeable, takeable, has_takeable}
use Rattle.pr_parts.specs.SignalRules.{takeable_signal}
use Rattle.pr_num.specs.Signals.{least_signal}
use Rattle.pr_num.specs.Sets.{minus_word}
use Rattle.pr_parts.specs.PendingSignals.{pending_set}
use Rattle.std.specs.Option.{option_or}
use Rattle.pr_model.specs.State.{TracedLwp, TracedProcess, TracedSystem}
use Rattle.pr_model.specs.UntracedMachine.{takes_in}
use Rattle.pr_model.specs.declared.lwps.Current.{Current}
use Rattle.pr_model.specs.declared.lwps.Phase.{Phase}
use Rattle.pr_model.specs.declared.lwps.Phase.TheVariants.{User, Entered, Asleep, Exiting, Faulted}
use Rattle.pr_erasure.specs.Suiting.{HasNoFault}
use Rattle.pr_erasure.proofs.SeenTurns.RowLemmas.{HasTurn, RowRuns, requested-runs, posted-runs, returned-runs, program-runs, unsignalled, own_taken-runs, shared_taken-runs, acted-runs, call-runs, woken-runs}
use Rattle.pr_erasure.proofs.SeenTurns.EffectLemmas.{call-known}

-- Every turn, as programs see it.

clash : {X : Type 0} (b : Bool) → b ≡ true → b ≡ false → X
clash true h e = absurd (no e)
  where
    no : true ≡ false → ⊥
    no e = cc
clash false h e = absurd (no h)
  where
    no : false ≡ true → ⊥
    no e = cc

or_right : (a b : Bool) → (a || b) ≡ true → a ≡ false → b ≡ true
or_right true b e other = clash true refl other
or_right false b e other = e

module _ (s : TracedSystem) (pid : ℕ) (p : TracedProcess) (id : ℕ) (l : TracedLwp) (h : HasTurn s pid p id l) where
  current-runs : (o : Option Current) → l.current ≡ o → HasNoFault l.phase → (rest : Row)
      → (l.current ≡ None → RowRuns s pid p id l rest) → RowRuns s pid p id l (current_row_or s pid p id l o rest)
  current-runs (Some c) is no_fault rest runs = acted-runs s pid p id l h c is no_fault
  current-runs None is no_fault rest runs = runs is

  taken-runs : (a b : Option Sig) → own_takeable l ≡ a → shared_takeable p l ≡ b → HasNoFault l.phase
      → takes_in (erased_phase l.phase) ≡ true → l.current ≡ None → (rest : Row)
      → (own_takeable l ≡ None → shared_takeable p l ≡ None → RowRuns s pid p id l rest)
      → RowRuns s pid p id l (taken_or s pid p id l a b rest)
  taken-runs (Some g) b own shared no_fault place current rest runs =
      own_taken-runs s pid p id l h g no_fault place current own
  taken-runs None (Some g) own shared no_fault place current rest runs =
      shared_taken-runs s pid p id l h g no_fault place current own shared
  taken-runs None None own shared no_fault place current rest runs = runs own shared

  -- an lwp that neither acts on a signal nor takes one has none to take
  none_takeable : own_takeable l ≡ None → shared_takeable p l ≡ None → has_takeable p l ≡ false
  unfolding takeable takeable_signal own_takeable shared_takeable
  none_takeable own shared =
      ap (λ o. is_some (option_or o (least_signal (minus_word (pending_set p.pending) l.held)))) own
      ∙ ap (λ o. is_some o) shared

  -- an lwp that is asleep, and goes on for no other reason, is ready
  ready-asleep : (call : Sysno) (args : List ℕ) (since : ℕ) → may_wake s pid p id l since call args ≡ true
      → l.current ≡ None → own_takeable l ≡ None → shared_takeable p l ≡ None
      → is_ready s pid p id l since call args ≡ true
  unfolding may_wake
  ready-asleep call args since wakes current own shared =
      or_right l.control.abort _
      (or_right (has_takeable p l) _
      (or_right (is_some l.current) _ (or_right l.control.directed _ wakes h.not_directed)
      (ap (λ o. is_some o) current)) (none_takeable own shared)) h.no_abort

  phase-runs : (phase : Phase) → l.phase ≡ phase → may_go_on s pid p id l phase ≡ true
      → RowRuns s pid p id l
      (posted_row_or s pid p id l phase
      (current_row_or s pid p id l l.current (signal_row_or s pid p id l phase (row_in s pid p id l phase))))
  unfolding erased_pending erased_phase signal_row_or row_in call_row
  phase-runs User is goes =
      let no_fault : HasNoFault l.phase = subst HasNoFault (sym is) (λ w. refl) in
      current-runs l.current refl no_fault _ (λ current.
      taken-runs (own_takeable l) (shared_takeable p l) refl refl no_fault
      (ap (λ ph. takes_in (erased_phase ph)) is) current _ (λ own shared.
      program-runs s pid p id l h is no_fault (unsignalled s pid p id l h no_fault current own shared)))
  phase-runs (Entered call) is goes =
      let no_fault : HasNoFault l.phase = subst HasNoFault (sym is) (λ w. refl) in
      let known = call-known s pid p id l s.clock call (arguments l.regs) in
      current-runs l.current refl no_fault _ (λ current.
      subst (λ b. RowRuns s pid p id l
      (cond b (interrupted_row false call (arguments l.regs))
      (performed_row false call (arguments l.regs) s.clock
      (call_effect s pid p id l s.clock call (arguments l.regs))))) (sym h.no_abort)
      (call-runs s pid p id l h call _ refl known.proper is current no_fault))
  phase-runs (Asleep call args since) is goes =
      let no_fault : HasNoFault l.phase = subst HasNoFault (sym is) (λ w. refl) in
      let known = call-known s pid p id l since call args in
      current-runs l.current refl no_fault _ (λ current.
      taken-runs (own_takeable l) (shared_takeable p l) refl refl no_fault
      (ap (λ ph. takes_in (erased_phase ph)) is) current _ (λ own shared.
      subst (λ b. RowRuns s pid p id l
      (cond b (interrupted_row true call args)
      (performed_row true call args since (call_effect s pid p id l since call args)))) (sym h.no_abort)
      (woken-runs s pid p id l h call args since _ refl known.proper
      (known.over (ready-asleep call args since goes current own shared)) is
      (unsignalled s pid p id l h no_fault current own shared) no_fault)))
  phase-runs (Exiting call args result) is goes =
      let no_fault : HasNoFault l.phase = subst HasNoFault (sym is) (λ w. refl) in
      current-runs l.current refl no_fault _ (λ current.
      taken-runs (own_takeable l) (shared_takeable p l) refl refl no_fault
      (ap (λ ph. takes_in (erased_phase ph)) is) current _ (λ own shared.
      returned-runs s pid p id l h call args result is no_fault))
  phase-runs (Faulted f address) is goes = posted-runs s pid p id l h f address is

-- whatever row is the first that fits
pub row-runs : (s : TracedSystem) (pid : ℕ) (p : TracedProcess) (id : ℕ) (l : TracedLwp)
    → (l.control.directed ≡ false → HasTurn s pid p id l) → may_go_on s pid p id l l.phase ≡ true
    → RowRuns s pid p id l (row_for s pid p id l)
unfolding row_for
row-runs s pid p id l turn goes = by l.control.directed refl
  where
    by : (b : Bool) → l.control.directed ≡ b
        → RowRuns s pid p id l
        (cond b requested_row
        (posted_row_or s pid p id l l.phase
        (current_row_or s pid p id l l.current
        (signal_row_or s pid p id l l.phase (row_in s pid p id l l.phase)))))
    by true is = requested-runs s pid p id l
    by false is = phase-runs s pid p id l (turn is) l.phase refl goes
