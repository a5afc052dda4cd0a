use Rattle.std.proofs.Common.{refl}
use Rattle.pr_proc.proofs.FirstLemmas.{made-numbered}
use Rattle.pr_proc.proofs.spawns.add_process.Goals as goal

-- one more process stands under the next id
pub returns-clause-ids : goal.returns-clause-ids
returns-clause-ids c = λ ids. made-numbered c.args.sys.now _ c.args.process ids refl c.in_ok-insert.ensures.ok
