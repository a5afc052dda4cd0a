use Rattle.pr_kern.proofs.ReadyLemmas.{ready-moves}
use Rattle.pr_kern.proofs.kernels.Kern.next_lwp.Goals as goal

pub next_movable-requires-clause-covers : goal.next_movable-requires-clause-covers
next_movable-requires-clause-covers c = ready-moves _ _ c.self.invariant.kept.lawful.system c.self.invariant.looks
