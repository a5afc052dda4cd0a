use Rattle.std.proofs.Common.{◌∙◌}
use Rattle.pr_turn.proofs.next.asleep.Goals as goal

pub returns-in-Some-clause-row : goal.returns-in-Some-clause-row
returns-in-Some-clause-row c s pid id = c.in-Some.ensures.row s pid id _

pub returns-in-None-clause-row : goal.returns-in-None-clause-row
returns-in-None-clause-row c s pid id =
    c.at_call.ensures.row s pid c.args.process.now id ∙ c.in-None.ensures.row s pid id _

pub returns-in-None-clause-asks : goal.returns-in-None-clause-asks
returns-in-None-clause-asks c clock pid id own = c.at_call.ensures.asks clock pid id own
