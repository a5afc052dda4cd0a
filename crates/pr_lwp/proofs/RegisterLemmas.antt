use Rattle.std.proofs.Common.{◌<◌, arith}
use Rattle.pr_num.specs.Instructions.{register_number}
use Rattle.pr_num.specs.declared.instructions.Reg.{Reg}
use Rattle.pr_num.specs.declared.instructions.Reg.TheVariants.{R0, R1, R2, R3, R4, R5, R6, R7}

-- every general register stands before sp
pub register_number-lt : (r : Reg) → register_number r < 8
unfolding register_number
register_number-lt R0 = omega arith
register_number-lt R1 = omega arith
register_number-lt R2 = omega arith
register_number-lt R3 = omega arith
register_number-lt R4 = omega arith
register_number-lt R5 = omega arith
register_number-lt R6 = omega arith
register_number-lt R7 = omega arith

pub ruleset registers = (register_number-lt)
