use Rattle.std.proofs.Common.{arith}
use Rattle.pr_judge.proofs.TryLemmas.{tried-no-call, tried-no-tick, tried-no-turn}
use Rattle.pr_judge.proofs.players.Player.play.Goals as goal

pub returns-in_default : goal.returns-in_default
returns-in_default c = record {
  tried = tried-no-call c.args.controllers c.args.self.now.state c.args.self.now.state c.args.entry.now _
      c.in_default.is-0 c.in_default.not-Call-1;
  steps = omega arith;
  err = tt;
}

pub returns-in_default-2 : goal.returns-in_default-2
returns-in_default-2 c = record {
  tried = tried-no-turn c.args.controllers c.args.self.now.state c.args.self.now.state c.args.entry.now _ _
      c.in_default.is-0 c.in_default.not-Turn-1;
  steps = omega arith;
  err = tt;
}

pub returns-in_default-3 : goal.returns-in_default-3
returns-in_default-3 c = record {
  tried = tried-no-tick c.args.controllers c.args.self.now.state c.args.self.now.state c.args.entry.now
      c.in_default.is-0 c.in_default.not-Tick-1;
  steps = omega arith;
  err = tt;
}
