use Rattle.std.proofs.Common.{◌<◌, length, sym, subst}
use Rattle.pr_lawful.proofs.LawfulStates.StateLemmas.{turn-state}
use Rattle.pr_kern.specs.Kernels.{Kernel}
use Rattle.pr_kern.proofs.KeptLemmas.{kept-push, kept-ready, turned-sound}
use Rattle.pr_kern.proofs.kernels.Kern.lwp_turn.Goals as goal

-- the turn leaves the system sound for one step more and the state lawful, and there was a place for the entry; and the
-- sets follow it
pub invariant_of-self-2 : goal.invariant_of-self-2
invariant_of-self-2 c =
    let place = subst (λ (k : Kernel). length k.history < k.places) (sym c.self.view_is) c.requires.place in
    let was = c.self.invariant.kept in
    kept-ready _ _ _ _
    (kept-push _ _ _ _ _ c.push.ensures.entries c.push.ensures.room place was.room
    (turned-sound _ _ _ was.sound c.in_ok-turned.ensures.clock (c.in_ok-turned.ensures.used _ was.sound.counts))
    (turn-state _ _ _ _ was.lawful c.in_ok-turned.ensures.ok))
    c.in_ok-turned.ensures.looks
