use Rattle.std.proofs.Common.{◌≡◌, length}
use Rattle.pr_plain.specs.CallReading.{handles_at}
use Rattle.pr_plain.proofs.FrontLemmas.{with_handles}
use Rattle.pr_plain.proofs.call_readers.handles_at.Given as goal

abbrev pub invariant-loop-word : goal.invariant-loop-word
invariant-loop-word l = with_handles l.handles.items (handles_at l.words) ≡ handles_at l.initial.words

abbrev pub decreases-loop-word : goal.decreases-loop-word
decreases-loop-word l = length l.words
