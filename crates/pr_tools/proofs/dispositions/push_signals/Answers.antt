use Rattle.std.proofs.Common.{arith}
use Rattle.pr_num.specs.Signals.{signals}
use Rattle.pr_tools.proofs.SignalLemmas.{signal_lines-next}
use Rattle.pr_tools.proofs.dispositions.push_signals.Goals as goal

pub loop-place-preserved : goal.loop-place-preserved
loop-place-preserved c =
    signal_lines-next signals c.args.words.now c.loop-place.place _ c.args.text.now c.loop-place.text
    c.push_signal.new.text (omega arith) (omega arith) c.loop-place.invariant c.in_ok-push_signal.ensures
