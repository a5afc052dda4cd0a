use Rattle.std.proofs.Common.{ap, sym, ◌∙◌}
use Rattle.std.specs.Option.{option_copied}
use Rattle.pr_model.specs.Lives.{with_loan_back}
use Rattle.pr_model.specs.State.{with_process_if}
use Rattle.pr_proc.proofs.ExecLemmas.{exec-back, exec-run}
use Rattle.pr_proc.proofs.execs.exec.Goals as goal

-- the process runs the program at the place, and what it borrowed went back
pub returns-clause-ok : goal.returns-clause-ok
returns-clause-ok c = λ p live l own g given.
    let s = c.args.sys.now in
    let pid = c.args.pid in
    let taken = sym c.live.ensures ∙ ap option_copied c.unwrap-process.ensures in
    let back =
    exec-back s _ _ pid p c.unwrap-process.result.now _ taken live c.run_under-left.ensures.left c.give_back.ensures
    in
    let runs =
    exec-run s pid c.args.lwp p l _ g _ _ live own given c.at-program.ensures c.run_under-left.ensures.processes
    in
    back ∙ ap (with_process_if p.lender (with_loan_back pid p)) runs
