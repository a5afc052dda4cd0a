use Rattle.pr_input.proofs.MarkLemmas.{found-within}
use Rattle.pr_input.proofs.marks.Mark.place.Goals as goal

pub returns-clause-within : goal.returns-clause-within
returns-clause-within c =
    found-within c.args.self c.args.limit c.args.text.now c.first.result c.first.ensures
