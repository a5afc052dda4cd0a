use Rattle.std.proofs.Common.{subst, arith}
use Rattle.std.specs.List.{All}
use Rattle.std.proofs.lemmas.List.{take_all}
use Rattle.std.proofs.lemmas.List.Elements.{All-more}
use Rattle.pr_model.specs.Lawful.{IsLawfulProgram}
use Rattle.pr_kern.proofs.starts.keep_limits.Goals as goal

pub loop-program-preserved : goal.loop-program-preserved
loop-program-preserved c =
    All-more IsLawfulProgram c.args.programs.now c.loop-program.program-index c.program-item.result
    (omega arith) c.loop-program.invariant (subst IsLawfulProgram c.program-item.is c.keep_limit.ensures)

pub returns : goal.returns
returns c =
    subst (All IsLawfulProgram)
    (take_all c.loop-program.program-index c.args.programs.now (omega arith)) c.loop-program.invariant
