use Rattle.std.proofs.Common.{arith}
use Rattle.pr_core.specs.CoreBytes.{core_bytes}
use Rattle.pr_core.specs.Cores.{core_words}
use Rattle.pr_core.proofs.CoreLemmas.{core-read}
use Rattle.pr_core.proofs.CutLemmas.{cut-short}
use Rattle.pr_core.proofs.laws.a_core_cut_off_is_short.Goals as goal

pub returns : goal.returns
returns c core n is few shorter =
    let met = cut-short (core_bytes core) n (omega arith) shorter (core_words core) (core-read core is few) in
    (met.at, (met.inside, met.is_short))
