use Rattle.std.proofs.Common.{◌≡◌, Err}
use Rattle.pr_commands.specs.Answers.{check_of, judged, refused_for}
use Rattle.pr_commands.specs.Checks.{checked_of_input}
use Rattle.pr_commands.specs.Findings.{finding_of}
use Rattle.pr_commands.proofs.FindingLemmas.{found-answered, wrong-answered}
use Rattle.pr_commands.proofs.GivingLemmas.{gives-else}
use Rattle.pr_commands.proofs.judgements.judge_input.Goals as goal

pub returns-in-Ok : goal.returns-in-Ok
unfolding check_of
returns-in-Ok g c =
    gives-else (judged c.in-Ok.finding.entries c.in-Ok.finding.first) (check_of c.args.input) ⊥ _ _ _ _ _ _ _
    (found-answered (checked_of_input c.args.input) c.in-Ok.finding c.in-Ok.ensures) (λ never. absurd never)
    c.say_judgement.ensures

pub returns-in-Err-Wrong : goal.returns-in-Err-Wrong
unfolding check_of
returns-in-Err-Wrong g c =
    let found : finding_of (checked_of_input c.args.input) ≡ Err c.in-Err-Wrong.wrong = rw c.in-Err-Wrong.field-0-is at
    c.in-Err-Wrong.ensures in
    gives-else (refused_for c.in-Err-Wrong.wrong) (check_of c.args.input) ⊥ _ _ _ _ _ _ _
    (wrong-answered (checked_of_input c.args.input) c.in-Err-Wrong.wrong found) (λ never. absurd never)
    c.refuse_wrong.ensures
