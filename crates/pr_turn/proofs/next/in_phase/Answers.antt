use Rattle.std.proofs.Common.{ap, sym, ◌∙◌, false}
use Rattle.pr_model.specs.Registers.{arguments}
use Rattle.pr_model.specs.Rows.{call_row}
use Rattle.pr_turn.proofs.NextLemmas.{asks-asleep, asks-entered, in-asleep, in-entered, in-exiting, in-user}
use Rattle.pr_turn.proofs.next.in_phase.Goals as goal

pub returns-in-User-clause-row : goal.returns-in-User-clause-row
returns-in-User-clause-row c s pid id clock =
    in-user s pid c.args.process.now id c.args.lwp.now _ c.in-User.is (c.in_program.ensures.row s pid id)

pub returns-in-Entered-clause-row : goal.returns-in-Entered-clause-row
returns-in-Entered-clause-row c s pid id clock =
    in-entered s pid c.args.process.now id c.args.lwp.now _ _ c.in-Entered.is
    (c.at_call.ensures.row s pid c.args.process.now id
    ∙ ap (λ args. call_row s pid c.args.process.now id c.args.lwp.now false c.in-Entered.call args c.args.clock)
    c.arguments_of.ensures
    ∙ ap (λ moment.
    call_row s pid c.args.process.now id c.args.lwp.now false c.in-Entered.call
    (arguments c.args.lwp.now.regs) moment) (sym clock))

pub returns-in-Asleep-clause-row : goal.returns-in-Asleep-clause-row
returns-in-Asleep-clause-row c s pid id clock =
    in-asleep s pid c.args.process.now id c.args.lwp.now _ _ _ _ c.in-Asleep.is (c.asleep.ensures.row s pid id)

pub returns-in-Exiting-clause-row : goal.returns-in-Exiting-clause-row
returns-in-Exiting-clause-row c s pid id clock =
    in-exiting s pid c.args.process.now id c.args.lwp.now _ _ _ _ c.in-Exiting.is (c.leaving.ensures.row s pid id)

pub returns-in-Entered-clause-asks : goal.returns-in-Entered-clause-asks
returns-in-Entered-clause-asks c pid id =
    c.at_call.ensures.asks c.args.clock pid id
    (asks-entered c.args.clock pid id c.args.lwp.now _ _ c.in-Entered.is c.arguments_of.ensures)

pub returns-in-Asleep-clause-asks : goal.returns-in-Asleep-clause-asks
returns-in-Asleep-clause-asks c pid id =
    c.asleep.ensures.asks c.args.clock pid id (asks-asleep c.args.clock pid id c.args.lwp.now _ _ _ c.in-Asleep.is)
