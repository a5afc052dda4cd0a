use Rattle.std.proofs.Common.{◌∙◌, sym}
use Rattle.pr_call.proofs.OpenLemmas.{pipe-fds, pipe-files, pipe-lacks, pipe-made, pipe-refused, pipe-unlooked, pipe-unlooked-lacks}
use Rattle.pr_call.proofs.files.pipe.Goals as goal

pub returns-in-Ok-pipe-clause-effect : goal.returns-in-Ok-pipe-clause-effect
returns-in-Ok-pipe-clause-effect c lacks =
    pipe-made _ _ _ _ _ _
    (sym c.can_write.ensures ∙ c.if-not-can_write.false) _ _ _ _ c.in-Ok.ensures c.in-Ok-pipe.ensures
    c.in_ok-stored.ensures

pub returns-in-Err-clause-effect : goal.returns-in-Err-clause-effect
returns-in-Err-clause-effect c lacks =
    pipe-unlooked _ _ _ _ c.in-Err.why (sym c.can_write.ensures ∙ c.if-not-can_write.false) c.in-Err.ensures

pub returns-in-Err-clause-memory : goal.returns-in-Err-clause-memory
returns-in-Err-clause-memory c lacks =
    pipe-unlooked-lacks _ _ _ _ c.in-Err.why c.in-Err.ensures lacks

pub returns-in-Err-pipe-clause-effect : goal.returns-in-Err-pipe-clause-effect
returns-in-Err-pipe-clause-effect c lacks =
    pipe-refused _ _ _ _ _ _ (sym c.can_write.ensures ∙ c.if-not-can_write.false) _ c.in-Err-pipe.ensures lacks

pub returns-in-Err-pipe-clause-files : goal.returns-in-Err-pipe-clause-files
returns-in-Err-pipe-clause-files c = pipe-files _ _ _ _ _ c.in-Err-pipe.ensures

pub returns-in-Err-pipe-clause-fds : goal.returns-in-Err-pipe-clause-fds
returns-in-Err-pipe-clause-fds c = pipe-fds _ _ _ _ _ c.in-Err-pipe.ensures

pub returns-in-Err-pipe-clause-memory : goal.returns-in-Err-pipe-clause-memory
returns-in-Err-pipe-clause-memory c lacks =
    pipe-lacks _ _ _ _ _ _ (sym c.can_write.ensures ∙ c.if-not-can_write.false) _ c.in-Err-pipe.ensures lacks
