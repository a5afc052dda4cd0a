use Rattle.std.proofs.Common.{◌∙◌, ◌+◌, ◌<◌, ◌^◌, Bool, false, sym, subst}
use Rattle.pr_api.specs.Entries.{turn_entry}
use Rattle.pr_kern.proofs.KeptLemmas.{turned-sound}
use Rattle.pr_lawful.proofs.LawfulStates.StateLemmas.{turn-state}
use Rattle.pr_model.specs.State.{TracedState}
use Rattle.pr_judge.proofs.TryLemmas.{tried-still, tried-turn}
use Rattle.pr_judge.specs.Players.{HasTried, Played}
use Rattle.pr_judge.proofs.players.Player.play_turn.Goals as goal

pub returns-then-not-movable-clause-tried : goal.returns-then-not-movable-clause-tried
returns-then-not-movable-clause-tried c =
    let machine = c.self.inside.machine in
    let entry = turn_entry c.args.pid c.args.lwp c.args.turned in
    subst (λ (p : Played). HasTried c.args.controllers entry p.state p.state false) c.self.view_is
    (tried-still c.args.controllers machine machine c.args.pid c.args.lwp c.args.turned
    (sym c.movable.ensures ∙ c.if-not-movable.true))

pub invariant_of-self-2 : goal.invariant_of-self-2
invariant_of-self-2 c =
    let was = c.self.invariant in
    record {
      sound = turned-sound _ _ _ was.sound c.in_ok-made.ensures.clock (c.in_ok-made.ensures.used _ was.sound.counts);
      lawful = turn-state _ _ _ _ was.lawful c.in_ok-made.ensures.ok;
      fits = subst (λ (p : Played). p.steps + 1 < 2 ^ 32) (sym c.self.view_is) c.requires;
    }

pub returns-clause-tried : goal.returns-clause-tried
returns-clause-tried c =
    let machine = c.self.inside.machine in
    let entry = turn_entry c.args.pid c.args.lwp c.args.turned in
    let new : TracedState = record machine { system = c.turn.new.sys } in
    subst (λ (p : Played). HasTried c.args.controllers entry p.state new c.same_turn.result) c.self.view_is
    (subst (λ (legal : Bool). HasTried c.args.controllers entry machine new legal) (sym c.same_turn.ensures.is)
    (tried-turn c.args.controllers machine c.args.pid c.args.lwp c.args.turned c.in_ok-made.made c.turn.new.sys
    c.in_ok-made.ensures.ok))
