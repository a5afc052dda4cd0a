use Rattle.std.proofs.Common.{◌≡◌, ◌≤◌, length, refl, arith}
use Rattle.pr_num.specs.Limits.{code_limit, text_limit}
use Rattle.pr_num.proofs.ListLemmas.{length-text}
use Rattle.pr_num.specs.Programs.{Program, text_of}
use Rattle.pr_num.specs.Spaces.{first_mappings, first_space}

-- The space in which a program begins.

pub text-within : (p : Program) → length p.code ≤ code_limit → length (text_of p) ≤ text_limit
text-within p within = omega (arith, length-text p.code)

-- it is made of the text and the data
pub first_mappings-program : (p : Program) → first_mappings (text_of p) p.bytes ≡ first_space p
unfolding first_mappings first_space
first_mappings-program p = refl

pub ruleset first_space_laws = (text-within, first_mappings-program)
