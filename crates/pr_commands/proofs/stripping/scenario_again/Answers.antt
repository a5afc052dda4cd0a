use Rattle.pr_commands.proofs.SeenLemmas.{not-refused}
use Rattle.pr_commands.proofs.stripping.scenario_again.Goals as goal

pub unreachable-requires : goal.unreachable-requires
unreachable-requires c = not-refused _ _ _ c.in-Err-Fault.field-0-is c.in-Err-Fault.ensures.read c.requires.read
