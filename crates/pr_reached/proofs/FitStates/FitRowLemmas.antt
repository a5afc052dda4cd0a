use Rattle.std.proofs.Common.{◌≡◌, ℕ, Bool, Option, Some, None, List, refl}
use Rattle.pr_num.specs.Faults.{fault_signal}
use Rattle.pr_num.specs.Infos.{of_fault}
use Rattle.pr_num.specs.declared.errnos.Errno.TheVariants.{Intr}
use Rattle.pr_num.specs.declared.syscalls.Sysno.{Sysno}
use Rattle.pr_parts.specs.PendingSignals.{without_one}
use Rattle.pr_lawful.proofs.ProcessParts.FileLemmas.{choice}
use Rattle.pr_keeps.specs.RowKinds as kind
use Rattle.pr_keeps.specs.RowKinds.{RowKind}
use Rattle.pr_keeps.proofs.RowLemmas.{row-kind}
use Rattle.pr_model.specs.CallEffects.{call_effect}
use Rattle.pr_model.specs.Changes as change
use Rattle.pr_model.specs.Changes.{Effect}
use Rattle.pr_model.specs.InstructionEffects as instruction
use Rattle.pr_model.specs.InstructionEffects.{InstructionEffect, instruction_effect}
use Rattle.pr_model.specs.Machines.{call_over, fault_incurred, fault_posted, step_taken, stopped_as_directed, traced}
use Rattle.pr_model.specs.Moves as move
use Rattle.pr_model.specs.Moves.{Move, moved}
use Rattle.pr_model.specs.Rows.{Row, requested_row, posted_row, returned_row, ran_row, entered_row, incurred_row, watched_row, executed_row, own_taken_row, shared_taken_row, handler_row, interrupted_row, performed_row, row_for}
use Rattle.pr_model.specs.State.{TracedLwp, TracedProcess, TracedSystem}
use Rattle.pr_model.specs.Transitions.{ran, entered, incurred, trapped, own_taken, shared_taken, interrupted, performed}
use Rattle.pr_model.specs.declared.events.Res.{Res}
use Rattle.pr_model.specs.declared.events.Res.TheVariants.{Error}
use Rattle.pr_model.specs.declared.lwps.Phase.TheVariants.{Entered, Exiting}
use Rattle.pr_model.specs.declared.stops.Point.{Point}
use Rattle.pr_model.specs.declared.stops.Point.TheVariants.{Signal, Fault, Entry, Exit}
use Rattle.pr_model.specs.Points.{stopped_at}
use Rattle.pr_reached.proofs.FitStates.FitLemmas.{added-spares, fault-spares, requested-fits, stopless-fits, taken-spares}
use Rattle.pr_reached.specs.Fits.{SparesKill, IsFitLwp}

-- A move of an lwp that stood on no event leaves it fit; and each row of the turn table leaves its lwp in the phase
-- that the point which it met asks for.

-- ---- moves: a line a kind of move

pub moved-fits : (m : Move) (l : TracedLwp) → l.control.stop ≡ None → IsFitLwp l → IsFitLwp (moved traced m l)
unfolding moved traced stopped_as_directed fault_incurred fault_posted step_taken call_over
moved-fits move.stays l none h = h
moved-fits move.stops l none h = requested-fits (moved traced move.stops l) refl h.pending
moved-fits (move.posts f address) l none h =
    stopless-fits (moved traced (move.posts f address) l) none
    (added-spares (fault_signal f) (of_fault address) l.pending (fault-spares f) h.pending)
moved-fits move.returns l none h = stopless-fits (moved traced move.returns l) none h.pending
moved-fits (move.runs regs) l none h = stopless-fits (moved traced (move.runs regs) l) none h.pending
moved-fits (move.enters call regs) l none h = stopless-fits (moved traced (move.enters call regs) l) none h.pending
moved-fits (move.incurs f address) l none h = stopless-fits (moved traced (move.incurs f address) l) none h.pending
moved-fits (move.traps f address regs) l none h =
    stopless-fits (moved traced (move.traps f address regs) l) none h.pending
moved-fits (move.leaves call args result) l none h =
    stopless-fits (moved traced (move.leaves call args result) l) none h.pending
moved-fits (move.sleeps call args since) l none h =
    stopless-fits (moved traced (move.sleeps call args since) l) none h.pending
moved-fits (move.takes c own) l none h =
    stopless-fits (moved traced (move.takes c own) l) none
    (choice SparesKill own (without_one c.signal l.pending) l.pending
    (λ stands. taken-spares c.signal l.pending h.pending) (λ shared. h.pending))
moved-fits move.drops l none h = stopless-fits (moved traced move.drops l) none h.pending
moved-fits (move.catches frames regs held) l none h =
    stopless-fits (moved traced (move.catches frames regs held) l) none h.pending

-- ---- points

-- an lwp is in the phase that the stop at a point asks for
abbrev pub FitsPoint : Option Point → TracedLwp → Type 0
FitsPoint None l = Unit {0}
FitsPoint (Some (Signal g)) l = Unit {0}
FitsPoint (Some (Fault f)) l = Unit {0}
FitsPoint (Some (Entry call)) l = l.phase ≡ Entered call
FitsPoint (Some (Exit call)) l = (args : List ℕ) × ((result : Res) × (l.phase ≡ Exiting call args result))

pub stopped-fits : (point : Point) (l : TracedLwp) → FitsPoint (Some point) l → IsFitLwp l
    → IsFitLwp (stopped_at point l)
unfolding stopped_at
stopped-fits (Signal g) l phase h = record { entry = λ call is. cc; exit = λ call is. absurd (cc); pending = h.pending }
stopped-fits (Fault f) l phase h = record { entry = λ call is. cc; exit = λ call is. absurd (cc); pending = h.pending }
stopped-fits (Entry c) l phase h = record { entry = λ call is. cc; exit = λ call is. absurd (cc); pending = h.pending }
stopped-fits (Exit c) l phase h = record {
  entry = λ call is. cc;
  exit = λ call is. (phase.0, (phase.1.0, cc));
  pending = h.pending;
}

-- ---- rows

-- A row meets nothing; or it ends nothing, and leaves any lwp in the phase that its point asks for.
pub data FitsRow (row : Row) : Type 0 where
  quiet : row.point ≡ None → FitsRow row
  meets : row.transition.ending ≡ None → ((l : TracedLwp) → FitsPoint row.point (moved traced row.transition.move l))
      → FitsRow row

interrupted-fits : (woken : Bool) (call : Sysno) (args : List ℕ) → FitsRow (interrupted_row woken call args)
unfolding interrupted_row interrupted moved traced
interrupted-fits woken call args = meets refl (λ l. (args, (Error Intr, refl)))

performed-fits : (woken : Bool) (call : Sysno) (args : List ℕ) (since : ℕ) (effect : Effect)
    → FitsRow (performed_row woken call args since effect)
unfolding performed_row performed moved traced
performed-fits woken call args since (change.does result changes) = meets refl (λ l. (args, (result, refl)))
performed-fits woken call args since change.sleeps = quiet refl
performed-fits woken call args since (change.ends how) = quiet refl

module _ (s : TracedSystem) (pid : ℕ) (p : TracedProcess) (id : ℕ) (l : TracedLwp) where
  executed-fits : (e : InstructionEffect) → FitsRow (executed_row p l e)
  unfolding executed_row ran_row entered_row incurred_row watched_row ran entered incurred trapped moved traced
  executed-fits (instruction.runs regs store) =
      choice FitsRow l.control.step _ _ (λ marked. meets refl (λ k. tt)) (λ plain. quiet refl)
  executed-fits (instruction.calls call regs) = meets refl (λ k. refl)
  executed-fits (instruction.faults f address) = meets refl (λ k. tt)
  executed-fits (instruction.runs_into_watch address regs store) = meets refl (λ k. tt)

  returned-fits : (call : Sysno) → FitsRow (returned_row p l call)
  unfolding returned_row trapped
  returned-fits call = choice FitsRow l.control.step _ _ (λ marked. meets refl (λ k. tt)) (λ plain. quiet refl)

  kind-fits : (row : Row) → RowKind s pid p id l row → FitsRow row
  unfolding requested_row posted_row handler_row own_taken_row shared_taken_row own_taken shared_taken
  kind-fits row (kind.takes_own none is) = meets refl (λ k. tt)
  kind-fits row (kind.takes_shared none own is) = meets refl (λ k. tt)
  kind-fits row (kind.interrupts {woken = woken} {call = call} {args = args} it why) = interrupted-fits woken call args
  kind-fits row (kind.performs {woken = woken} {call = call} {args = args} {since = since} it goes none) =
      performed-fits woken call args since (call_effect s pid p id l since call args)
  kind-fits row (kind.returns {call = call} at none) = returned-fits call
  kind-fits row (kind.executes at none) = executed-fits (instruction_effect p.space p.control.areas l.regs)
  kind-fits row _ = quiet refl

  pub row-fits : FitsRow (row_for s pid p id l)
  row-fits = kind-fits (row_for s pid p id l) (row-kind s pid p id l)
