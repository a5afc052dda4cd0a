use Rattle.pr_core.proofs.SnapshotLemmas.{snapshot-space, pflags-snapshot, psig-snapshot, pstack-snapshot, pmap-snapshot, pfiles-snapshot}
use Rattle.pr_core.proofs.snapshots.tools_over_a_snapshot_show_the_process.Goals as goal

pub returns-clause-memory : goal.returns-clause-memory
returns-clause-memory c pid s p = snapshot-space pid s p

pub returns-clause-pflags : goal.returns-clause-pflags
returns-clause-pflags c pid s p programs = pflags-snapshot pid s p programs

pub returns-clause-psig : goal.returns-clause-psig
returns-clause-psig c pid s p programs = psig-snapshot pid s p programs

pub returns-clause-pstack : goal.returns-clause-pstack
returns-clause-pstack c pid s p programs = pstack-snapshot pid s p programs

pub returns-clause-pmap : goal.returns-clause-pmap
returns-clause-pmap c pid s p programs = pmap-snapshot pid s p programs

pub returns-clause-pfiles : goal.returns-clause-pfiles
returns-clause-pfiles c pid s p programs = pfiles-snapshot pid s p programs
