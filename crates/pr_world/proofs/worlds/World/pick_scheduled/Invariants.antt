use Rattle.std.proofs.Common.{◌≡◌, drop}
use Rattle.pr_world.specs.Worlds.{first_scheduled, seen}
use Rattle.pr_world.proofs.worlds.World.pick_scheduled.Given as goal

-- the actors so far cannot move, so that the search goes on from here; and the world is as it was
abbrev pub invariant-loop-place : goal.invariant-loop-place
invariant-loop-place g l = record {
  none : first_scheduled (seen g.Q.Kernel.view l.fn.self) (drop l.place l.fn.self.schedule)
      ≡ first_scheduled (seen g.Q.Kernel.view l.fn.self) l.fn.self.schedule;
  same : l.self ≡ l.fn.self;
}
