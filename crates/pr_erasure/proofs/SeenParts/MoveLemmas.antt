use Rattle.std.proofs.Common.{◌≡◌, true, false, Some, None, refl, sym, ◌∙◌, ap}
use Rattle.pr_num.specs.Faults.{fault_signal}
use Rattle.pr_num.specs.Infos.{of_fault}
use Rattle.pr_model.specs.Erasure.{erased_lwp, erased_pending, erased_phase}
use Rattle.pr_model.specs.Machines.{UntracedLwp, in_program, at_call, sleeping, fault_incurred, fault_posted, fault_pending, unchanged, traced, untraced}
use Rattle.pr_erasure.specs.Suiting.{Fits}
use Rattle.pr_model.specs.Moves.{Move, stays, stops, posts, returns, runs, enters, incurs, traps, leaves, sleeps, takes, drops, catches, moved}
use Rattle.pr_parts.specs.PendingSignals.{Pending, added, without_one}
use Rattle.pr_model.specs.Registers.{stored}
use Rattle.pr_model.specs.State.{TracedLwp}
use Rattle.pr_model.specs.declared.lwps.Phase.{Phase}

-- What a turn makes of its lwp, as programs see it.

-- an lwp as programs see it in a phase, with what is pending for it then
seen_in : TracedLwp → (Phase → Pending) → Phase → UntracedLwp
seen_in l pending phase = record {
  regs = l.regs;
  held = l.held;
  pending = pending phase;
  current = l.current;
  frames = l.frames;
  suspended = l.suspended;
  phase = erased_phase phase;
  control = tt;
}

-- what is made of an lwp: a line a move
pub moved-erased : (move : Move) (l : TracedLwp) → Fits move l.phase
    → erased_lwp (moved traced move l) ≡ moved untraced move (erased_lwp l)
unfolding erased_lwp erased_phase erased_pending moved traced untraced fault_incurred fault_posted fault_pending
    unchanged seen_in
moved-erased stays l fits = refl
moved-erased stops l fits = refl
moved-erased (posts f address) l fits = sym (ap (seen_in l (λ phase. erased_pending phase l.pending)) fits)
moved-erased returns l fits = ap (λ w. record (erased_lwp l) { pending = w; phase = in_program }) (sym (fits l.pending))
moved-erased (runs regs) l fits = refl
moved-erased (enters call regs) l fits =
    ap (λ w. record (erased_lwp l) { regs = regs; pending = w; phase = at_call call }) (sym (fits l.pending))
moved-erased (incurs f address) l fits =
    sym (ap (seen_in l (λ phase. added (fault_signal f) (of_fault address) (erased_pending phase l.pending))) fits)
moved-erased (traps f address regs) l fits =
    ap (λ w. record
    (erased_lwp l) { regs = regs; pending = added (fault_signal f) (of_fault address) w; phase = in_program })
    (sym (fits l.pending))
moved-erased (leaves call args result) l fits =
    ap (λ w. record (erased_lwp l) { regs = stored call result l.regs; pending = w; phase = in_program })
    (sym (fits l.pending))
moved-erased (sleeps call args since) l fits =
    ap (λ w. record (erased_lwp l) { pending = w; phase = sleeping call args since }) (sym (fits l.pending))
moved-erased (takes c true) l fits =
    ap (λ w. record (erased_lwp l) { current = Some c; pending = w }) (fits (without_one c.signal l.pending)
    ∙ ap (without_one c.signal) (sym (fits l.pending)))
moved-erased (takes c false) l fits = refl
moved-erased drops l fits = refl
moved-erased (catches frames regs held) l fits =
    ap (λ w. record
    (erased_lwp l) { frames = frames; regs = regs; held = held; current = None; pending = w; phase = in_program })
    (sym (fits l.pending))
