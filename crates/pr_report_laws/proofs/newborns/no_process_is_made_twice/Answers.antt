use Rattle.pr_report_laws.proofs.Machine.MadeOnce.{forked-once, not-both, spawned-once}
use Rattle.pr_report_laws.proofs.newborns.no_process_is_made_twice.Goals as goal

pub returns-clause-forked : goal.returns-clause-forked
returns-clause-forked c = λ n pid s h lawful legal f g. forked-once n pid s h lawful legal f g

pub returns-clause-spawned : goal.returns-clause-spawned
returns-clause-spawned c = λ n j k pid s h lawful legal f g. spawned-once n pid s h lawful legal j k f g

pub returns-clause-apart : goal.returns-clause-apart
returns-clause-apart c = λ n by pid s h lawful legal f g. not-both n pid s h lawful legal by f g
