use Rattle.std.proofs.Common.{◌∙◌}
use Rattle.pr_drive.proofs.StepLemmas.{begins-so}
use Rattle.pr_drive.proofs.readings.begin.Goals as goal

pub returns : goal.returns
returns c =
    begins-so c.args.scenario c.in_ok-seats.seats c.deref.result.now c.new-rounds.result c.follow.new.self
    c.finish_round.new.self c.new.result c.in_ok-seats.ensures.seats
    (c.deref.ensures.value ∙ c.in_ok-seats.ensures.schedule) c.new-rounds.ensures c.in_ok-follow.ensures.follows
    c.in_ok-follow.ensures.place c.in_ok-finish_round.ensures.round c.new.ensures
