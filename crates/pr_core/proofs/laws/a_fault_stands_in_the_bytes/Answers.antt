use Rattle.pr_core.specs.declared.faults.CoreFault.TheVariants.{Short, Bad, NoMemory}
use Rattle.pr_core.proofs.PlaceLemmas.{core-fault-placed}
use Rattle.pr_core.proofs.laws.a_fault_stands_in_the_bytes.Goals as goal

pub returns-clause-short : goal.returns-clause-short
returns-clause-short c bytes at is = core-fault-placed bytes (Short at) is

pub returns-clause-bad : goal.returns-clause-bad
returns-clause-bad c bytes at is = core-fault-placed bytes (Bad at) is

pub returns-clause-memory : goal.returns-clause-memory
returns-clause-memory c bytes is = core-fault-placed bytes NoMemory is
