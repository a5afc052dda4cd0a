use Rattle.std.proofs.Common.{arith}
use Rattle.pr_rec.specs.RecordWords.{lwpstatus_words_of}
use Rattle.pr_tools.specs.Pflags.{lwp_line}
use Rattle.pr_tools.proofs.TextLemmas.{lines-next}
use Rattle.pr_tools.proofs.lwp_lines.push_lwps.Goals as goal

pub loop-lwp-preserved : goal.loop-lwp-preserved
loop-lwp-preserved c =
    lines-next lwp_line lwpstatus_words_of c.args.lwps.now c.loop-lwp.lwp-index c.lwp-item.result c.args.text.now
    c.loop-lwp.text c.push_lwp.new.text (omega arith) c.lwp-item.is c.loop-lwp.invariant c.in_ok-push_lwp.ensures
