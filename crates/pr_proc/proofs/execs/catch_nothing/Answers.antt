use Rattle.std.proofs.Common.{rules}
use Rattle.std.proofs.lemmas.List.Edits.{map_over_more}
use Rattle.pr_model.specs.Lives.{uncaught}
use Rattle.pr_proc.proofs.execs.catch_nothing.Goals as goal

pub loop-place-preserved : goal.loop-place-preserved
loop-place-preserved c = search (rules, map_over_more uncaught)
