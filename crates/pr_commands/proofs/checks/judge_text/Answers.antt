use Rattle.std.proofs.Common.{ℕ, List, Result, ap, sym, subst}
use Rattle.pr_model.specs.declared.events.Entry.{Entry}
use Rattle.pr_plain.proofs.EntryLoop.{begins-left, begins-not, begins-read}
use Rattle.pr_plain.specs.Readings.{Answers}
use Rattle.pr_commands.specs.Findings.{found_in}
use Rattle.pr_commands.proofs.checks.judge_text.Goals as goal

pub judge_lines-requires-clause-unread : goal.judge_lines-requires-clause-unread
judge_lines-requires-clause-unread c = begins-read c.args.first_line c.args.text.now _ c.in-Ok.ensures

pub returns-in-Err : goal.returns-in-Err
unfolding found_in
returns-in-Err c = ap (found_in c.args.scenario) (begins-not c.args.first_line c.args.text.now _ c.in-Err.ensures)

pub returns-in-Ok : goal.returns-in-Ok
returns-in-Ok c =
    subst (λ (read : Result (List Entry) ℕ). Answers (λ f. f) c.judge_lines.result (found_in c.args.scenario read))
    (sym (begins-left c.args.first_line c.args.text.now _ c.in-Ok.ensures)) c.judge_lines.ensures
