use Rattle.std.proofs.Common.{arith}
use Rattle.pr_rec.specs.RecordWords.{lwpstatus_words_of}
use Rattle.std.specs.Option.{option_copied}
use Rattle.pr_tools.specs.Pstack.{stack_text}
use Rattle.pr_tools.proofs.TextLemmas.{lines-next}
use Rattle.pr_tools.proofs.stack_lines.push_stacks.Goals as goal

pub loop-lwp-preserved : goal.loop-lwp-preserved
loop-lwp-preserved c =
    lines-next
    (stack_text (option_copied c.args.program) c.args.frames.now) lwpstatus_words_of c.args.lwps.now
    c.loop-lwp.lwp-index c.lwp-item.result c.args.text.now c.loop-lwp.text c.push_stack.new.text
    (omega arith) c.lwp-item.is c.loop-lwp.invariant c.in_ok-push_stack.ensures
