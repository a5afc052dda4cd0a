use Rattle.std.proofs.Common.{take}
use Rattle.std.specs.List.{All}
use Rattle.pr_model.specs.Lawful.{IsLawfulProgram}
use Rattle.pr_kern.proofs.starts.keep_limits.Given as goal

-- the programs so far are within their limits
abbrev pub invariant-loop-program : goal.invariant-loop-program
invariant-loop-program l = All IsLawfulProgram (take l.program-index l.programs)
