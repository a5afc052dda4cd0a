use Rattle.std.proofs.Common.{rules, inl, refl}
use Rattle.pr_commands.proofs.GivingLemmas.{gives-nothing}
use Rattle.pr_commands.proofs.stripping.strip_scenario.Goals as goal

pub returns-in-Err : goal.returns-in-Err
returns-in-Err g c =
    gives-nothing _ _ _ _ _ _ c.out_of_memory.ensures.status (record { unwritten = refl; so_far = inl (search rules) })
