use Rattle.pr_core_laws.proofs.OneState.LiveTexts.{pfiles-live, pflags-live, pmap-live, psig-live, pstack-live}
use Rattle.pr_core_laws.proofs.live_tools.tools_over_a_snapshot_show_the_live_process.Goals as goal

pub returns-clause-pflags : goal.returns-clause-pflags
returns-clause-pflags c pid s p programs lawful ranged live = pflags-live pid s p programs live lawful ranged

pub returns-clause-psig : goal.returns-clause-psig
returns-clause-psig c pid s p programs lawful ranged live = psig-live pid s p programs live lawful ranged

pub returns-clause-pstack : goal.returns-clause-pstack
returns-clause-pstack c pid s p programs live = pstack-live pid s p programs live

pub returns-clause-pmap : goal.returns-clause-pmap
returns-clause-pmap c pid s p programs lawful ranged live = pmap-live pid s p programs live lawful ranged

pub returns-clause-pfiles : goal.returns-clause-pfiles
returns-clause-pfiles c pid s p programs lawful ranged live = pfiles-live pid s p programs live lawful ranged
