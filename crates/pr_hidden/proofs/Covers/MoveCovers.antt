use Rattle.std.proofs.Common.{◌≡◌, ℕ, true, false, List, refl, sym, ap}
use Rattle.pr_num.specs.declared.faults.Flt.{Flt}
use Rattle.pr_num.specs.declared.faults.Flt.TheVariants.{Trace}
use Rattle.pr_model.specs.Machines.{call_over, fault_incurred, fault_posted, step_taken, stopped_as_directed, traced}
use Rattle.pr_model.specs.Moves.{Move, catches, drops, enters, incurs, leaves, moved, posts, returns, runs, sleeps, stays, stops, takes, traps}
use Rattle.pr_model.specs.State.{TracedLwp}
use Rattle.pr_model.specs.declared.lwps.Phase.TheVariants.{Faulted, User}
use Rattle.pr_hidden.specs.Covers.{phase_beneath, uncovered_lwp}

-- What a turn makes of its lwp, without what is hidden: a line a move.

pub moved-uncovered : (m : Move) (l : TracedLwp)
    → uncovered_lwp false (moved traced m l) ≡ moved traced m (uncovered_lwp false l)
unfolding uncovered_lwp moved traced fault_incurred fault_posted step_taken stopped_as_directed call_over
moved-uncovered stays l = refl
moved-uncovered stops l = refl
moved-uncovered (posts f address) l = refl
moved-uncovered returns l = refl
moved-uncovered (runs regs) l = refl
moved-uncovered (enters call regs) l = refl
moved-uncovered (incurs f address) l = refl
moved-uncovered (traps f address regs) l = refl
moved-uncovered (leaves call args result) l = refl
moved-uncovered (sleeps call args since) l = refl
moved-uncovered (takes c own) l = refl
moved-uncovered drops l = refl
moved-uncovered (catches frames regs held) l = refl

-- ---- faults that a controller brings about

-- a fault that is hidden leaves its lwp as it was
pub fault-hidden : (f : Flt) (address : ℕ) (l : TracedLwp) → l.phase ≡ User
    → uncovered_lwp true (moved traced (incurs f address) l) ≡ uncovered_lwp false l
unfolding uncovered_lwp moved traced fault_incurred
fault-hidden f address l user = ap (λ ph. record (uncovered_lwp false l) { phase = ph }) (sym user)

-- FLTTRACE after an instruction is that instruction
pub step-hidden : (f : Flt) (address : ℕ) (regs : List ℕ) (l : TracedLwp) → l.phase ≡ User
    → uncovered_lwp true (moved traced (traps f address regs) l) ≡ moved traced (runs regs) (uncovered_lwp false l)
unfolding uncovered_lwp moved traced fault_incurred step_taken
step-hidden f address regs l user = ap (λ ph. record (uncovered_lwp false l) { regs = regs; phase = ph }) (sym user)

-- and on the way out of a call it is the return
pub return-hidden : (f : Flt) (address : ℕ) (l : TracedLwp)
    → uncovered_lwp true (moved traced (traps f address l.regs) l) ≡ moved traced returns (uncovered_lwp false l)
unfolding uncovered_lwp moved traced fault_incurred step_taken
return-hidden f address l = refl

-- a fault that is cleared is not there any more
pub cleared-hidden : (f : Flt) (address : ℕ) (l : TracedLwp) → l.phase ≡ Faulted f address
    → uncovered_lwp true l ≡ uncovered_lwp false (record l { phase = User })
unfolding uncovered_lwp
cleared-hidden f address l is = ap (λ ph. record (uncovered_lwp true l) { phase = phase_beneath true ph }) is
