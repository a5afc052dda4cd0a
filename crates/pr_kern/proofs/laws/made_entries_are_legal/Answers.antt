use Rattle.pr_kern.proofs.StepLemmas.{call-adds, turn-adds, tick-adds}
use Rattle.pr_kern.proofs.laws.made_entries_are_legal.Goals as goal

pub returns : goal.returns
returns c = record { call = call-adds; turn = turn-adds; tick = tick-adds }
