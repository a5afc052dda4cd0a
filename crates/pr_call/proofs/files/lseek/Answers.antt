use Rattle.std.proofs.Common.{[]}
use Rattle.pr_call.proofs.FileCallLemmas.{seek-done, seek-files, seek-refused}
use Rattle.pr_call.proofs.files.lseek.Goals as goal

pub returns-in-Ok-clause-effect : goal.returns-in-Ok-clause-effect
returns-in-Ok-clause-effect c space = seek-done _ _ space _ _ _ _ _ c.in-Ok.ensures

pub returns-in-Err-clause-effect : goal.returns-in-Err-clause-effect
returns-in-Err-clause-effect c space = seek-refused _ _ space _ _ _ _ _ c.in-Err.ensures

pub returns-in-Err-clause-files : goal.returns-in-Err-clause-files
returns-in-Err-clause-files c = seek-files _ _ [] _ _ _ _ _ c.in-Err.ensures
