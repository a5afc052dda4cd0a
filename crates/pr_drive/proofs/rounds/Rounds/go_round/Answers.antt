use Rattle.std.proofs.lemmas.Result.{IfOk-weaker}
use Rattle.pr_drive.proofs.RoundLemmas.{moved-then, rests-twice}
use Rattle.pr_drive.proofs.StepLemmas.{round-left, round-whole}
use Rattle.pr_drive.proofs.rounds.Rounds.go_round.Goals as goal

pub returns-clause-rests : goal.returns-clause-rests
returns-clause-rests c =
    IfOk-weaker c.finish_round-2.result _ _
    (λ moved rests nobody.
    rests-twice c.args.until c.args.self.now c.finish_round.new.self c.finish_round-2.new.self
    (c.in_ok-moved.ensures.rests c.if-moved.false) (rests nobody))
    c.finish_round-2.ensures.rests

pub returns-clause-round : goal.returns-clause-round
returns-clause-round c =
    moved-then c.finish_round-2.result c.finish_round-2.ensures.more c.finish_round-2.ensures.round
    (λ more round.
    round-whole c.args.until c.args.self.now c.finish_round.new.self c.finish_round-2.new.self more
    (c.in_ok-moved.ensures.rests c.if-moved.false) round)

pub returns-then-moved-clause-round : goal.returns-then-moved-clause-round
returns-then-moved-clause-round c = λ somebody.
    round-left c.args.until c.args.self.now c.finish_round.new.self (c.in_ok-moved.ensures.more c.if-moved.true)
    c.in_ok-moved.ensures.round
