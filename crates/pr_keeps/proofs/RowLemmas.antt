use Rattle.std.proofs.Common.{◌≡◌, ◌⊎◌, ◌&&◌, ℕ, Bool, true, false, not, is_some, eqb, List, Option, Some, None, refl, inl, inr, true≢false}
use Rattle.std.proofs.lemmas.Bool.{or_parts}
use Rattle.pr_num.specs.Agents.{agent_id}
use Rattle.pr_num.specs.declared.signals.Sig.{Sig}
use Rattle.pr_num.specs.declared.syscalls.Sysno.{Sysno}
use Rattle.pr_parts.specs.declared.actions.Action.{Action}
use Rattle.pr_parts.specs.declared.actions.Action.TheVariants as act
use Rattle.pr_model.specs.Registers.{arguments}
use Rattle.pr_model.specs.LwpTurns.{is_held_back}
use Rattle.pr_model.specs.Rows.{Row, requested_row, caught_row, acted_row, call_row, row_in, taken_or, signal_row_or, current_row_or, posted_row_or, row_for}
use Rattle.pr_model.specs.Signals.{action_for, own_takeable, shared_takeable}
use Rattle.pr_model.specs.State.{TracedLwp, TracedProcess, TracedSystem}
use Rattle.pr_model.specs.Stops.{has_event_stop}
use Rattle.pr_model.specs.UntracedMachine.{is_caught}
use Rattle.pr_model.specs.declared.lwps.Current.{Current}
use Rattle.pr_model.specs.declared.lwps.Phase.{Phase}
use Rattle.pr_model.specs.declared.lwps.Phase.TheVariants.{User, Entered, Asleep, Exiting, Faulted}
use Rattle.pr_keeps.specs.RowKinds as row
use Rattle.pr_keeps.specs.RowKinds.{IsInCall, RowKind}
use Rattle.pr_keeps.proofs.KeepsLemmas.{choice}

-- Each turn is one of the rows.

lent-or-directed : (borrower : Option ℕ) (directed : Bool) → (is_some borrower && not directed) ≡ false
    → (directed ≡ true) ⊎ (borrower ≡ None)
lent-or-directed None directed free = inr refl
lent-or-directed (Some child) true free = inl refl
lent-or-directed (Some child) false free = absurd (true≢false free)

module _ (s : TracedSystem) (pid : ℕ) (p : TracedProcess) (id : ℕ) (l : TracedLwp) where
  abbrev Kind : Row → Type 0
  Kind r = RowKind s pid p id l r

  caught-kind : (c : Current) (handler : ℕ) (ph : Phase) → l.current ≡ Some c
      → action_for p.dispositions c.signal ≡ act.Catch handler → l.phase ≡ ph → Kind (caught_row l c handler ph)
  unfolding caught_row
  caught-kind c handler ph now is at = by ph at
    where
      catches : is_caught p.dispositions l.current ≡ true
      catches = rw (now, is) refl

      by : (ph : Phase) → l.phase ≡ ph → Kind (caught_row l c handler ph)
      by User at = row.catches now is
      by (Entered call) at = row.interrupts (row.at_it at) (inr catches)
      by (Asleep call args since) at = row.interrupts (row.asleep_in_it at) (inr catches)
      by (Exiting call args result) at = row.catches now is
      by (Faulted f address) at = row.catches now is

  acted-kind : (c : Current) → l.current ≡ Some c → Kind (acted_row p l c)
  unfolding acted_row
  acted-kind c now = by (action_for p.dispositions c.signal) refl
    where
      by : (action : Action) → action_for p.dispositions c.signal ≡ action → Kind (acted_row p l c)
      by act.Ignore is = rw is (row.ignores now is)
      by act.Stop is = rw is (row.stops_job now is)
      by act.Die is = rw is (row.dies now is)
      by (act.Catch handler) is = rw is (caught-kind c handler l.phase now is refl)

  current-kind : (o : Option Current) (rest : Row) → l.current ≡ o → (l.current ≡ None → Kind rest)
      → Kind (current_row_or s pid p id l o rest)
  current-kind (Some c) rest is other = acted-kind c is
  current-kind None rest is other = other is

  taken-kind : (own shared : Option Sig) (rest : Row) → l.current ≡ None → own_takeable l ≡ own
      → shared_takeable p l ≡ shared → Kind rest → Kind (taken_or s pid p id l own shared rest)
  taken-kind (Some g) shared rest none is also other = row.takes_own none is
  taken-kind None (Some g) rest none is also other = row.takes_shared none is also
  taken-kind None None rest none is also other = other

  call-kind : (woken : Bool) (call : Sysno) (args : List ℕ) (since : ℕ) → IsInCall s l woken call args since
      → l.current ≡ None → Kind (call_row s pid p id l woken call args since)
  unfolding call_row
  call-kind woken call args since it none =
      choice Kind l.control.abort _ _ (λ aborted. row.interrupts it (inl aborted))
      (λ goes_on. row.performs it goes_on none)

  phase-kind : (ph : Phase) → l.phase ≡ ph
      → Kind (posted_row_or s pid p id l ph
      (current_row_or s pid p id l l.current (signal_row_or s pid p id l ph (row_in s pid p id l ph))))
  unfolding signal_row_or row_in
  phase-kind User at =
      current-kind l.current _ refl
      (λ none. taken-kind (own_takeable l) (shared_takeable p l) _ none refl refl (row.executes at none))
  phase-kind (Entered call) at =
      current-kind l.current _ refl (λ none. call-kind false call (arguments l.regs) s.clock (row.at_it at) none)
  phase-kind (Asleep call args since) at =
      current-kind l.current _ refl
      (λ none. taken-kind (own_takeable l) (shared_takeable p l) _ none refl refl
      (call-kind true call args since (row.asleep_in_it at) none))
  phase-kind (Exiting call args result) at =
      current-kind l.current _ refl
      (λ none. taken-kind (own_takeable l) (shared_takeable p l) _ none refl refl (row.returns at none))
  phase-kind (Faulted f address) at = row.posts at

  pub row-kind : Kind (row_for s pid p id l)
  unfolding row_for
  row-kind = choice Kind l.control.directed _ _ (λ now. row.stops now) (λ later. phase-kind l.phase refl)

  -- a process that has lent its memory only stops as directed (vfork(2))
  pub owns-or-stops : is_held_back p id l ≡ false → (row_for s pid p id l ≡ requested_row) ⊎ (p.borrower ≡ None)
  unfolding is_held_back row_for
  owns-or-stops free =
      let goes_on = (or_parts (has_event_stop l) _ free).1 in
      let unstopped = (or_parts (is_some p.job_stop && not (eqb id agent_id)) _ (or_parts l.suspended _ goes_on).1).1 in
      by (lent-or-directed p.borrower l.control.directed unstopped)
    where
      by : (l.control.directed ≡ true) ⊎ (p.borrower ≡ None)
          → (row_for s pid p id l ≡ requested_row) ⊎ (p.borrower ≡ None)
      by (inl now) = inl (rw now refl)
      by (inr own) = inr own

-- an lwp that is directed to stop is not held back since its process has lent its memory
pub directed-moves : (p : TracedProcess) (id : ℕ) (l : TracedLwp) → has_event_stop l ≡ false → l.suspended ≡ false
    → p.job_stop ≡ None → l.control.directed ≡ true → is_held_back p id l ≡ false
unfolding is_held_back
directed-moves p id l goes on unstopped directed = rw (goes, on, unstopped, directed) (by (is_some p.borrower))
  where
    by : (b : Bool) → (b && false) ≡ false
    by true = refl
    by false = refl
