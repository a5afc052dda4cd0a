use Rattle.std.proofs.Common.{rules}
use Rattle.pr_plain.specs.Histories.{history_text}
use Rattle.pr_output.specs.Output.{shown_history}
use Rattle.pr_output.proofs.Joined.{Puts-second, Puts-cut, Puts-none}
use Rattle.pr_output.proofs.runs.put_history.Goals as goal

pub returns-in-Quiet : goal.returns-in-Quiet
unfolding shown_history history_text
returns-in-Quiet g c = rw c.in-Quiet.is (Puts-none _ _)

pub returns-in_err-put_heading-in-Whole : goal.returns-in_err-put_heading-in-Whole
unfolding shown_history history_text
returns-in_err-put_heading-in-Whole g c =
    let cut = rw c.len.ensures at c.in_err-put_heading-in-Whole.ensures in
    rw c.in-Whole.is (Puts-cut _ _ _ _ _ _ _ _ (search rules) cut)

pub returns-in_ok-put_heading-in-Whole : goal.returns-in_ok-put_heading-in-Whole
unfolding shown_history history_text
returns-in_ok-put_heading-in-Whole g c =
    let heading = rw c.len.ensures at c.in_ok-put_heading-in-Whole.ensures in
    rw c.in-Whole.is (Puts-second _ _ _ _ _ _ _ _ _ heading.all (heading.no_fault (λ is. cc)) c.put_entries.ensures)
