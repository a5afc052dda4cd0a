use Rattle.pr_scen.proofs.AnswerLemmas.{answer_within}
use Rattle.pr_scen.proofs.reading.read_scenario.Goals as goal

pub returns-clause-limits : goal.returns-clause-limits
returns-clause-limits c = answer_within c.args.text.now c.read_text.result c.read_text.ensures
