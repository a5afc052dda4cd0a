use Rattle.std.proofs.Common.{[]}
use Rattle.pr_call.proofs.FileCallLemmas.{dup-done, dup-fds, dup-files, dup-refused}
use Rattle.pr_call.proofs.files.dup.Goals as goal

pub returns-in-Ok-clause-effect : goal.returns-in-Ok-clause-effect
returns-in-Ok-clause-effect c space = dup-done _ _ space _ _ _ _ c.in-Ok.ensures

pub returns-in-Err-clause-effect : goal.returns-in-Err-clause-effect
returns-in-Err-clause-effect c space = dup-refused _ _ space _ _ _ _ c.in-Err.ensures

pub returns-in-Err-clause-files : goal.returns-in-Err-clause-files
returns-in-Err-clause-files c = dup-files _ _ [] _ _ _ _ c.in-Err.ensures

pub returns-in-Err-clause-fds : goal.returns-in-Err-clause-fds
returns-in-Err-clause-fds c = dup-fds _ _ [] _ _ _ _ c.in-Err.ensures
