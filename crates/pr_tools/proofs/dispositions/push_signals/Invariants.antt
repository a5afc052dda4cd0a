use Rattle.std.proofs.Common.{◌≡◌, ◌++◌, take}
use Rattle.pr_num.specs.Signals.{signals}
use Rattle.pr_tools.specs.Psig.{signal_lines}
use Rattle.pr_tools.proofs.dispositions.push_signals.Given as goal

abbrev pub invariant-loop-place : goal.invariant-loop-place
invariant-loop-place l = l.text ≡ l.fn.text ++ signal_lines (take l.place signals) (take l.place l.words)
