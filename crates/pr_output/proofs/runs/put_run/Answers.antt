use Rattle.std.proofs.Common.{rules}
use Rattle.pr_output.specs.Output.{run_text}
use Rattle.pr_output.proofs.Joined.{Puts-second, Puts-cut}
use Rattle.pr_output.proofs.runs.put_run.Goals as goal

pub returns-in_err-put_history : goal.returns-in_err-put_history
unfolding run_text
returns-in_err-put_history g c = Puts-cut _ _ _ _ _ _ _ _ (search rules) c.in_err-put_history.ensures

pub returns : goal.returns
unfolding run_text
returns g c =
    let history = c.in_ok-put_history.ensures in
    Puts-second _ _ _ _ _ _ _ _ _ history.all (history.no_fault (λ is. cc)) c.put_end.ensures
