use Rattle.std.proofs.Common.{sym, ◌∙◌}
use Rattle.pr_ready.proofs.LookLemmas.{alone-dozes, alone-waits, alone-wakes}
use Rattle.pr_ready.proofs.looks.moves_alone.Goals as goal

pub returns-then-is_none-2-clause-waits : goal.returns-then-is_none-2-clause-waits
returns-then-is_none-2-clause-waits c up =
    alone-waits c.args.process.now.lwps _ (sym c.len.ensures ∙ c.if-len-ne1.false) c.at.ensures (c.is_up.ensures up)

pub returns-then-is_none-2-clause-dozes : goal.returns-then-is_none-2-clause-dozes
returns-then-is_none-2-clause-dozes c up =
    alone-dozes c.args.process.now.lwps _ (sym c.len.ensures ∙ c.if-len-ne1.false) c.at.ensures (c.is_up.ensures up)

pub returns-then-is_none-2-clause-wakes : goal.returns-then-is_none-2-clause-wakes
returns-then-is_none-2-clause-wakes c from to up =
    alone-wakes from to c.args.process.now.lwps _ (sym c.len.ensures ∙ c.if-len-ne1.false) c.at.ensures
    (c.is_up.ensures up)
