use Rattle.pr_lawful.proofs.Following.UseLemmas.{live-lawful, lwp-lawful, process-lawful}
use Rattle.pr_lawful.proofs.uses.parts_of_lawful_systems_are_lawful.Goals as goal

pub returns : goal.returns
returns c = record { process = process-lawful; live = live-lawful; lwp = lwp-lawful }
