use Rattle.std.proofs.Common.{◌≡◌, map, take}
use Rattle.pr_num.specs.Spaces.{first_space}
use Rattle.pr_proc.proofs.programs.first_spaces.Given as goal

abbrev pub invariant-loop-program : goal.invariant-loop-program
invariant-loop-program l = l.spaces.items ≡ map first_space (take l.program-index l.programs)
