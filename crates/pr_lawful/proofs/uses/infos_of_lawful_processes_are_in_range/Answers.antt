use Rattle.pr_lawful.proofs.Following.RecordLemmas.{lstatus-info, lwpstatus-info, status-info}
use Rattle.pr_lawful.proofs.Following.UseLemmas.{lwp-lawful}
use Rattle.pr_lawful.proofs.uses.infos_of_lawful_processes_are_in_range.Goals as goal

pub returns : goal.returns
returns c = record {
  status = λ s pid p h. status-info pid p h s;
  lstatus = lstatus-info;
  lwpstatus = λ pid id p l h there. lwpstatus-info p.next_lwp p (id, l) (lwp-lawful pid id p l h there);
}
