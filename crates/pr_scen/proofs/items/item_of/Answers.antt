use Rattle.std.proofs.Common.{arith, ap, length}
use Rattle.pr_text.proofs.CountLemmas.{few_texts}
use Rattle.pr_scen.proofs.items.item_of.Goals as goal

pub item_with-requires : goal.item_with-requires
item_with-requires c =
    omega (arith, few_texts c.args.line.now, ap length c.of-words.ensures, ap length c.in-Some.ensures)
