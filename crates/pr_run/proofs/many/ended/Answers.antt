use Rattle.pr_run.proofs.ManyLemmas.{over-ends, over-made}
use Rattle.pr_run.proofs.many.ended.Goals as goal

pub end-requires-clause-made : goal.end-requires-clause-made
end-requires-clause-made g c = over-made g.Q.Kernel.view c.args.shared c.requires c.in-None.is

pub end-requires-clause-ended : goal.end-requires-clause-ended
end-requires-clause-ended g c = over-ends g.Q.Kernel.view c.args.shared c.requires c.in-None.is
