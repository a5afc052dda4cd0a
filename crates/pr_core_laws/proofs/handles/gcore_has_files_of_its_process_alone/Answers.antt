use Rattle.pr_core_laws.proofs.OpenFiles.OwnFiles.{gcore-closes, gcore-holds}
use Rattle.pr_core_laws.proofs.handles.gcore_has_files_of_its_process_alone.Goals as goal

pub returns : goal.returns
returns c = record { opens = gcore-holds; closes = gcore-closes }
