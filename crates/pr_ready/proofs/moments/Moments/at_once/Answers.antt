use Rattle.std.proofs.Common.{◌/◌, arith}
use Rattle.pr_ready.proofs.TickLemmas.{blocks-zero}
use Rattle.pr_ready.proofs.moments.Moments.at_once.Goals as goal

pub returns : goal.returns
returns c = λ pid moment. record { block = (let none = blocks-zero (pid / 64) in omega arith); all = omega arith }
