use Rattle.std.proofs.Common.{sym}
use Rattle.pr_proc.proofs.UsageLemmas.{AllUsedAtMost-under}
use Rattle.pr_turn.proofs.turns.settle_under.Goals as goal

pub settle-requires : goal.settle-requires
settle-requires c = AllUsedAtMost-under _ _ _ _ (sym c.in-Some.ensures.value) c.requires
