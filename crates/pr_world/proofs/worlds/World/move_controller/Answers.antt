use Rattle.std.proofs.Common.{arith}
use Rattle.pr_world.proofs.CallerLemmas.{core-at, cores-length, cores-set}
use Rattle.pr_world.proofs.MoveLemmas.{acts-answered, acts-within, answered-moved}
use Rattle.pr_world.proofs.worlds.World.move_controller.Goals as goal

pub index_mut-requires : goal.index_mut-requires
index_mut-requires g c =
    let within =
    acts-within g.Q.Kernel.view g.met.Q.Kernel.lawful c.args.self.now _ c.self.view_is c.args.controller
    c.requires.acts in
    omega (arith, within, cores-length c.self.inside.callers.items, c.self.inside.callers.ok)

pub make_call-requires-clause-by : goal.make_call-requires-clause-by
make_call-requires-clause-by g c =
    let within =
    acts-within g.Q.Kernel.view g.met.Q.Kernel.lawful c.args.self.now _ c.self.view_is c.args.controller
    c.requires.acts in
    omega (arith, within, cores-length c.self.inside.callers.items, c.self.invariant.0)

pub make_call-requires-clause-ready : goal.make_call-requires-clause-ready
make_call-requires-clause-ready g c =
    let within =
    acts-within g.Q.Kernel.view g.met.Q.Kernel.lawful c.args.self.now _ c.self.view_is c.args.controller
    c.requires.acts in
    let at =
    core-at c.self.inside.callers.items c.args.controller c.index_mut.result.now
    (omega (arith, within, cores-length c.self.inside.callers.items)) c.index_mut.ensures.value in
    acts-answered g.Q.Kernel.view g.met.Q.Kernel.lawful c.args.self.now _ c.self.view_is c.args.controller
    c.requires.acts c.index_mut.result.now.core at

pub returns-clause-ok : goal.returns-clause-ok
returns-clause-ok g c =
    let within =
    acts-within g.Q.Kernel.view g.met.Q.Kernel.lawful c.args.self.now _ c.self.view_is c.args.controller
    c.requires.acts in
    let at =
    core-at c.self.inside.callers.items c.args.controller c.index_mut.result.now
    (omega (arith, within, cores-length c.self.inside.callers.items)) c.index_mut.ensures.value in
    let set = cores-set c.self.inside.callers.items c.args.controller c.make_call.new.self in
    answered-moved g.Q.Kernel.view g.met.Q.Kernel.lawful c.args.self.now _ c.self.view_is c.args.controller
    c.requires.acts c.index_mut.result.now.core at _ _ _ set c.in_ok-make_call.ensures.ok
