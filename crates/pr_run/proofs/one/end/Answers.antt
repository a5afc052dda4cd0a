use Rattle.pr_world.specs.Worlds.{seen}
use Rattle.pr_run.proofs.OneLemmas.{ended-is}
use Rattle.pr_run.proofs.one.end.Goals as goal

pub unwrap-requires : goal.unwrap-requires
unwrap-requires g c = ended-is (seen g.Q.Kernel.view c.args.world.now) c.end.result c.end.ensures c.requires.ended
