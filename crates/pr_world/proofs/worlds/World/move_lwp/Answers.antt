use Rattle.std.proofs.Common.{ap, ◌∙◌}
use Rattle.pr_world.specs.Worlds.{WorldOf, can_act}
use Rattle.pr_world.proofs.MoveLemmas.{lwp-moved}
use Rattle.pr_world.proofs.worlds.World.move_lwp.Goals as goal

pub lwp_turn-requires-clause-movable : goal.lwp_turn-requires-clause-movable
unfolding can_act
lwp_turn-requires-clause-movable g c =
    ap (λ (w : WorldOf _). (g.Q.Kernel.view w.kernel).can_turn c.args.pid c.args.lwp) c.self.view_is ∙ c.requires.acts

pub returns-clause-ok : goal.returns-clause-ok
returns-clause-ok g c =
    lwp-moved g.Q.Kernel.view g.met.Q.Kernel.lawful c.args.self.now _ c.self.view_is c.lwp_turn.new.self c.args.pid
    c.args.lwp c.in_ok-lwp_turn.field-0 c.requires.acts c.in_ok-lwp_turn.ensures.ok
