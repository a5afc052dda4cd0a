use Rattle.std.proofs.Common.{◌≡◌, ◌⊎◌, ℕ, Bool, true, false, ltb, is_none, Option, Some, None, List, [], ◌∷◌, length, refl, sym, subst, ◌∙◌, ap, inl, inr}
use Rattle.std.proofs.lemmas.Option.{none-some}
use Rattle.pr_num.specs.Limits.{frame_limit}
use Rattle.pr_num.specs.Signals.{signal_number}
use Rattle.pr_num.specs.declared.errnos.Errno.TheVariants.{Intr}
use Rattle.pr_num.specs.declared.faults.Flt.{Flt}
use Rattle.pr_num.specs.declared.faults.Flt.TheVariants.{Trace, Watch}
use Rattle.pr_num.specs.declared.signals.Sig.TheVariants.{Segv}
use Rattle.pr_num.specs.declared.syscalls.Sysno.{Sysno}
use Rattle.pr_num.proofs.BoolLemmas.{either}
use Rattle.pr_num.proofs.ByIdLaws.{All-under}
use Rattle.pr_keeps.specs.RowKinds as kind
use Rattle.pr_keeps.specs.RowKinds.{RowKind}
use Rattle.pr_keeps.proofs.RowLemmas.{owns-or-stops, row-kind}
use Rattle.pr_model.specs.CallEffects.{call_effect}
use Rattle.pr_model.specs.Changes as change
use Rattle.pr_model.specs.Changes.{Change, Effect, Ending, ends_process, job_stops, takes_shared}
use Rattle.pr_model.specs.InstructionEffects as instruction
use Rattle.pr_model.specs.InstructionEffects.{InstructionEffect, Store, instruction_effect}
use Rattle.pr_model.specs.Lawful.{IsLawfulSystem, IsNumberedBelow}
use Rattle.pr_lending.specs.Lending.{AreLending}
use Rattle.pr_model.specs.LwpTurns.{LwpTurn, settled, turn_of}
use Rattle.pr_model.specs.Machines.{traced}
use Rattle.pr_model.specs.Moves.{Move, posts, returns, runs, enters, incurs, traps, leaves, sleeps, stops, takes, drops, catches}
use Rattle.pr_model.specs.Registers.{pc_of}
use Rattle.pr_model.specs.Rows.{Row, requested_row, posted_row, returned_row, ran_row, entered_row, incurred_row, watched_row, executed_row, own_taken_row, shared_taken_row, handler_row, interrupted_row, performed_row, row_for}
use Rattle.pr_model.specs.Signals.{current_of, with_frame, handler_registers, handler_held}
use Rattle.pr_model.specs.State.{TracedLwp, TracedProcess, TracedSystem, live_process, process_of}
use Rattle.pr_model.specs.Transitions.{Transition, after_transition, moving, changing, ending, stored_in, requested, posted, returned, ran, entered, incurred, trapped, own_taken, shared_taken, handled, dropped, job_stopped, died, interrupted, performed}
use Rattle.pr_model.specs.declared.events.Res.TheVariants.{Error}
use Rattle.pr_model.specs.declared.lwps.Current.{Current}
use Rattle.pr_model.proofs.TurnLemmas.{turn-taken}
use Rattle.pr_lawful.proofs.LawfulTurns.EffectLemmas.{IsActing}
use Rattle.pr_lawful.proofs.ProcessParts.SystemLemmas.{next-free}
use Rattle.pr_lawful.proofs.LawfulTurns.TurnLemmas.{acting}
use Rattle.pr_lending.proofs.ProcessLoans.BirthLemmas.{IsNextFree}
use Rattle.pr_lending.proofs.LendingTurns.ChangeLemmas.{SuitChanges, SuitsTransition, moved-kept, settled-lends, transition-lends}
use Rattle.pr_lending.proofs.LendingTurns.EffectLemmas.{Suits, call-suits-loans}
use Rattle.pr_lending.proofs.ProcessLoans.LifeLemmas.{IsOwner, found-stands}
use Rattle.pr_lending.proofs.ProcessLoans.LoanLemmas.{is_live_in, borrower-found, live-of, lending-kept}
use Rattle.pr_lending.proofs.ProcessLoans.PassLemmas.{Stands}

-- Every turn leaves memory lent in order: a line a row.

-- ---- the rows

module _ (s : TracedSystem) (pid : ℕ) (p : TracedProcess) (id : ℕ) (l : TracedLwp) (a : IsActing s pid p id l)
    (next : IsNextFree s pid) (stands : Stands s pid p) where
  abbrev SuitsT : Transition → Type 0
  SuitsT t = SuitsTransition pid p id l s t

  SuitsRow : Row → Type 0
  SuitsRow row = SuitsTransition pid p id l s row.transition

  change-suits : (cs : List Change) (m : Move) → SuitChanges pid p id l s cs → SuitsT (changing cs m)
  change-suits cs m changes = record { changes = changes; alone = λ how is. absurd (none-some how is) }

  move-suits : (m : Move) → SuitsT (moving m)
  move-suits m = change-suits [] m tt

  end-suits : (how : Ending) → SuitsT (ending how)
  end-suits how = record { changes = tt; alone = λ other is. refl }

  store-suits : (store : Option Store) → SuitChanges pid p id l s (stored_in p.space store)
  unfolding stored_in
  store-suits None = tt
  store-suits (Some store) = (tt, tt)

  trap-suits : (f : Flt) (address : ℕ) (regs : List ℕ) (store : Option Store)
      → SuitsT (trapped f address p.space regs store)
  unfolding trapped
  trap-suits f address regs store =
      change-suits (stored_in p.space store) (traps f address regs) (store-suits store)

  executed-suits : (e : InstructionEffect) → SuitsRow (executed_row p l e)
  unfolding SuitsRow executed_row ran_row entered_row incurred_row watched_row ran entered incurred
  executed-suits (instruction.runs regs store) =
      either (λ (row : Row). SuitsT row.transition) l.control.step _ _ (trap-suits Trace (pc_of regs) regs store)
      (change-suits (stored_in p.space store) (runs regs) (store-suits store))
  executed-suits (instruction.calls call regs) = move-suits (enters call regs)
  executed-suits (instruction.faults f address) = move-suits (incurs f address)
  executed-suits (instruction.runs_into_watch address regs store) = trap-suits Watch address regs store

  handled-suits : (c : Current) (handler : ℕ) → SuitsT (handled l c handler)
  unfolding handled
  handled-suits c handler =
      either SuitsT (ltb (length l.frames) frame_limit) _ _
      (move-suits
      (catches (with_frame l.regs l.held l.frames) (handler_registers c handler l.regs) (handler_held c l.held)))
      (end-suits (ends_process (signal_number Segv)))

  performed-suits : (woken : Bool) (call : Sysno) (args : List ℕ) (since : ℕ) (effect : Effect)
      → Suits s pid p id l a next stands effect → SuitsRow (performed_row woken call args since effect)
  unfolding SuitsRow performed_row performed Suits
  performed-suits woken call args since (change.does result changes) suits =
      change-suits changes (leaves call args result) suits
  performed-suits woken call args since change.sleeps suits = move-suits (sleeps call args since)
  performed-suits woken call args since (change.ends how) suits = end-suits how

  returned-suits : (call : Sysno) → SuitsRow (returned_row p l call)
  unfolding SuitsRow returned_row returned
  returned-suits call =
      either (λ (row : Row). SuitsT row.transition) l.control.step _ _
      (trap-suits Trace (pc_of l.regs) l.regs None) (move-suits returns)

  kind-suits : (row : Row) → RowKind s pid p id l row → SuitsRow row
  unfolding SuitsRow requested_row requested posted_row posted dropped job_stopped died handler_row own_taken_row
      shared_taken_row own_taken shared_taken interrupted_row interrupted
  kind-suits row (kind.stops now) = move-suits stops
  kind-suits row (kind.posts {f = f} {address = address} at) = move-suits (posts f address)
  kind-suits row (kind.ignores now is) = move-suits drops
  kind-suits row (kind.stops_job {c = c} now is) = change-suits (job_stops c.signal ∷ []) drops (tt, tt)
  kind-suits row (kind.dies {c = c} now is) = end-suits (ends_process (signal_number c.signal))
  kind-suits row (kind.catches {c = c} {handler = handler} now is) = handled-suits c handler
  kind-suits row (kind.takes_own {g = g} none is) = move-suits (takes (current_of g l.pending) true)
  kind-suits row (kind.takes_shared {g = g} none own is) =
      change-suits (takes_shared g ∷ []) (takes (current_of g p.pending) false) (tt, tt)
  kind-suits row (kind.interrupts {call = call} {args = args} it why) = move-suits (leaves call args (Error Intr))
  kind-suits row (kind.performs {woken = woken} {call = call} {args = args} {since = since} it goes none) =
      performed-suits woken call args since (call_effect s pid p id l since call args)
      (call-suits-loans s pid p id l a next stands since call args)
  kind-suits row (kind.returns {call = call} at none) = returned-suits call
  kind-suits row (kind.executes at none) = executed-suits (instruction_effect p.space p.control.areas l.regs)

  -- ---- the turn

  -- a process that has lent nothing
  owner-lends : AreLending s → p.borrower ≡ None → AreLending (settled s pid p id l (row_for s pid p id l)).system
  unfolding SuitsRow live_process
  owner-lends h own =
      let row = row_for s pid p id l in
      let live : is_live_in (Some p) ≡ true = live-of p ∙ ap (λ (o : Option ℕ). is_none o) a.live in
      let owner : IsOwner s pid = record {
        own = borrower-found s pid p a.found ∙ own;
        live = ap is_live_in a.found ∙ live;
      } in
      settled-lends s pid p id l row
      (transition-lends pid p id l s row.transition h owner stands (kind-suits row (row-kind s pid p id l)))

  -- one that has lent its memory only stops
  stop-lends : AreLending s → AreLending (settled s pid p id l requested_row).system
  unfolding requested_row requested after_transition change.all_changed
  stop-lends h =
      settled-lends s pid p id l requested_row
      (lending-kept s (after_transition traced pid p id l requested s) (moved-kept pid p id l stops s) h)

  row-lends : AreLending s → (row_for s pid p id l ≡ requested_row) ⊎ (p.borrower ≡ None)
      → AreLending (settled s pid p id l (row_for s pid p id l)).system
  row-lends h (inl stop) = subst (λ row. AreLending (settled s pid p id l row).system) (sym stop) (stop-lends h)
  row-lends h (inr own) = owner-lends h own

-- the next id of a lawful system is free, and above that of each process
pub next-id : (s : TracedSystem) (pid : ℕ) (p : TracedProcess) → IsLawfulSystem s → process_of s pid ≡ Some p
    → IsNextFree s pid
next-id s pid p h found = record {
  free = next-free s h;
  above = (All-under (IsNumberedBelow s.made) pid p s.processes h.numbered found).id;
}

pub turn-lends : (s : TracedSystem) (pid id : ℕ) (t : LwpTurn) → IsLawfulSystem s → AreLending s
    → turn_of s pid id ≡ Some t → AreLending t.system
turn-lends s pid id t lawful h turn =
    let it = turn-taken s pid id t turn in
    let a = acting s pid id it.process it.lwp lawful it.live it.there in
    let next = next-id s pid it.process lawful a.found in
    let stands = found-stands s pid it.process h a.found in
    subst (λ (v : LwpTurn). AreLending v.system) (sym it.is)
    (row-lends s pid it.process id it.lwp a next stands h (owns-or-stops s pid it.process id it.lwp it.free))
