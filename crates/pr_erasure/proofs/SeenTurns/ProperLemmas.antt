use Rattle.std.proofs.Common.{ℕ, Bool, true, false, ltb, length, Option, Some, None, List, cond}
use Rattle.pr_num.specs.declared.syscalls.Sysno.{Sysno}
use Rattle.pr_num.specs.Limits.{frame_limit}
use Rattle.pr_num.specs.Signals.{signal_number}
use Rattle.pr_num.specs.declared.signals.Sig.TheVariants.{Segv}
use Rattle.pr_keeps.specs.RowKinds as kind
use Rattle.pr_keeps.specs.RowKinds.{RowKind}
use Rattle.pr_keeps.proofs.RowLemmas.{row-kind}
use Rattle.pr_model.specs.Changes as change
use Rattle.pr_model.specs.Changes.{ends_process}
use Rattle.pr_model.specs.InstructionEffects.{InstructionEffect, Store, instruction_effect}
use Rattle.pr_model.specs.InstructionEffects as instruction
use Rattle.pr_model.specs.Moves.{catches}
use Rattle.pr_model.specs.Rows.{Row, requested_row, posted_row, returned_row, ran_row, entered_row, incurred_row, watched_row, executed_row, own_taken_row, shared_taken_row, handler_row, interrupted_row, performed_row, row_for}
use Rattle.pr_model.specs.Signals.{with_frame, handler_registers, handler_held}
use Rattle.pr_model.specs.Transitions.{moving, ending, stored_in, requested, posted, returned, ran, entered, incurred, trapped, own_taken, shared_taken, handled, dropped, job_stopped, died, interrupted, performed}
use Rattle.pr_model.specs.declared.lwps.Current.{Current}
use Rattle.pr_model.specs.CallEffects.{call_effect}
use Rattle.pr_model.specs.Changes.{Effect, does, sleeps, ends}
use Rattle.pr_model.specs.State.{TracedLwp, TracedProcess, TracedSystem}
use Rattle.pr_erasure.proofs.SeenTurns.EffectLemmas.{IsProperEffect, call-known}
use Rattle.pr_erasure.specs.Suiting.{AreProper}

-- No turn sends a signal as a fault's, or makes an agent.

-- ---- the changes of each row

module _ (s : TracedSystem) (pid : ℕ) (p : TracedProcess) (id : ℕ) (l : TracedLwp) where
  IsProperRow : Row → Type 0
  IsProperRow row = AreProper row.transition.changes

  either : (b : Bool) (x y : Row) → IsProperRow x → IsProperRow y → IsProperRow (cond b x y)
  either true x y one other = one
  either false x y one other = other

  proper-store : (store : Option Store) → AreProper (stored_in p.space store)
  unfolding stored_in
  proper-store None = tt
  proper-store (Some store) = (tt, tt)

  proper-executed : (e : InstructionEffect) → IsProperRow (executed_row p l e)
  unfolding IsProperRow executed_row ran_row entered_row incurred_row watched_row ran entered incurred trapped
  proper-executed (instruction.runs regs store) = either l.control.step _ _ (proper-store store) (proper-store store)
  proper-executed (instruction.calls call regs) = tt
  proper-executed (instruction.faults f address) = tt
  proper-executed (instruction.runs_into_watch address regs store) = proper-store store

  proper-handled : (c : Current) (handler : ℕ) → AreProper (handled l c handler).changes
  unfolding handled
  proper-handled c handler =
      elim (ltb (length l.frames) frame_limit) as
      (λ b. AreProper
      (cond b (moving
      (catches (with_frame l.regs l.held l.frames) (handler_registers c handler l.regs)
      (handler_held c l.held)))
      (ending (ends_process (signal_number Segv)))).changes) [ true ↦ tt | false ↦ tt ]

  proper-performed : (woken : Bool) (call : Sysno) (args : List ℕ) (since : ℕ) (effect : Effect)
      → IsProperEffect effect → IsProperRow (performed_row woken call args since effect)
  unfolding IsProperRow performed_row performed
  proper-performed woken call args since (change.does result changes) proper = proper
  proper-performed woken call args since change.sleeps proper = tt
  proper-performed woken call args since (change.ends how) proper = tt

  proper-kind : (row : Row) → RowKind s pid p id l row → IsProperRow row
  unfolding IsProperRow requested_row requested posted_row posted dropped job_stopped died handler_row own_taken_row
      shared_taken_row own_taken shared_taken interrupted_row interrupted returned_row returned trapped stored_in
  proper-kind row (kind.stops_job now is) = (tt, tt)
  proper-kind row (kind.takes_shared none own is) = (tt, tt)
  proper-kind row (kind.catches {c = c} {handler = handler} now is) = proper-handled c handler
  proper-kind row (kind.performs {woken = woken} {call = call} {args = args} {since = since} it goes none) =
      let known = call-known s pid p id l since call args in
      proper-performed woken call args since (call_effect s pid p id l since call args) known.proper
  proper-kind row (kind.returns at none) = either l.control.step _ _ tt tt
  proper-kind row (kind.executes at none) = proper-executed (instruction_effect p.space p.control.areas l.regs)
  proper-kind row _ = tt

  pub row-proper : AreProper (row_for s pid p id l).transition.changes
  unfolding IsProperRow
  row-proper = proper-kind (row_for s pid p id l) (row-kind s pid p id l)
