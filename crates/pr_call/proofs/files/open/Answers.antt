use Rattle.std.proofs.Common.{◌∙◌, sym}
use Rattle.pr_call.proofs.OpenLemmas.{open-done, open-fds, open-files, open-lacks, open-refused}
use Rattle.pr_call.proofs.files.open.Goals as goal

pub returns-in-Ok-open-clause-effect : goal.returns-in-Ok-open-clause-effect
returns-in-Ok-open-clause-effect c lacks =
    open-done _ _ _ _ _ _ c.in-Ok.ensures _ _
    (sym c.are_open_flags.ensures ∙ c.if-not-are_open_flags.false) _ c.in-Ok-open.ensures

pub returns-in-Err-open-clause-effect : goal.returns-in-Err-open-clause-effect
returns-in-Err-open-clause-effect c lacks =
    open-refused _ _ _ _ _ _ c.in-Ok.ensures _ _
    (sym c.are_open_flags.ensures ∙ c.if-not-are_open_flags.false) _ c.in-Err-open.ensures lacks

pub returns-in-Err-open-clause-files : goal.returns-in-Err-open-clause-files
returns-in-Err-open-clause-files c = open-files _ _ _ _ _ _ _ c.in-Err-open.ensures

pub returns-in-Err-open-clause-fds : goal.returns-in-Err-open-clause-fds
returns-in-Err-open-clause-fds c = open-fds _ _ _ _ _ _ _ c.in-Err-open.ensures

pub returns-in-Err-open-clause-memory : goal.returns-in-Err-open-clause-memory
returns-in-Err-open-clause-memory c lacks =
    open-lacks _ _ _ _ _ _ c.in-Ok.ensures _ _
    (sym c.are_open_flags.ensures ∙ c.if-not-are_open_flags.false) _ c.in-Err-open.ensures lacks
