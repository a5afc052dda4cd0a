use Rattle.pr_kern.proofs.ReadyLemmas.{ready-dozing}
use Rattle.pr_kern.proofs.kernels.Kern.sleeper.Goals as goal

pub some_sleeper-requires-clause-covers : goal.some_sleeper-requires-clause-covers
some_sleeper-requires-clause-covers c = ready-dozing _ _ c.self.invariant.kept.lawful.system c.self.invariant.looks
