use Rattle.std.proofs.Common.{◌<◌, length, sym, subst}
use Rattle.pr_lawful.proofs.LawfulStates.CallLemmas.{tick-state}
use Rattle.pr_kern.specs.Kernels.{Kernel}
use Rattle.pr_kern.proofs.KeptLemmas.{kept-push, kept-ready, ticked-sound}
use Rattle.pr_kern.proofs.kernels.Kern.tick.Goals as goal
use Rattle.pr_ready.proofs.AroundLemmas.{tick-ready}

-- a tick leaves the system sound for one step more and the state lawful, and there was a place for the entry; and the
-- sets follow it
pub invariant_of-self : goal.invariant_of-self
invariant_of-self c =
    let place = subst (λ (k : Kernel). length k.history < k.places) (sym c.self.view_is) c.requires.place in
    let lawful = tick-state _ c.self.invariant.kept.lawful in
    kept-ready _ _ _ _
    (kept-push _ _ _ _ _ c.push.ensures.entries c.push.ensures.room place c.self.invariant.kept.room
    (ticked-sound _ _ c.self.invariant.kept.sound) lawful)
    (tick-ready _ _ _ lawful.system c.after_tick.ensures c.self.invariant.looks)
