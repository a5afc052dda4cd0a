use Rattle.std.proofs.Common.{sym, subst}
use Rattle.pr_world.specs.Worlds.{WorldOf, seen}
use Rattle.pr_run.specs.OneRuns.{StandsAs}
use Rattle.pr_run.proofs.OneLemmas.{has-place, picked-acts, picked-none, picked-some, stands, step-made, whatever}
use Rattle.pr_run.proofs.one.advance.Goals as goal

pub turn-requires-clause-acts : goal.turn-requires-clause-acts
turn-requires-clause-acts g c =
    let view = g.Q.Kernel.view in
    picked-acts view c.args.world.now c.pick.new.self c.in-Some.actor
    (picked-some view c.args.world.now c.pick.new.self c.in_ok-actor.ensures.place c.in_ok-actor.field-0
    c.in_ok-actor.ensures.value c.in-Some.actor c.in-Some.is)

pub turn-requires-clause-place : goal.turn-requires-clause-place
turn-requires-clause-place g c =
    has-place g.Q.Kernel.view c.args.world.now c.pick.new.self c.in_ok-actor.ensures.place c.requires.place

pub returns-in_err-turn-in-Some-clause-err : goal.returns-in_err-turn-in-Some-clause-err
returns-in_err-turn-in-Some-clause-err g c =
    let view = g.Q.Kernel.view in
    let picked = stands view c.args.world.now c.pick.new.self c.in_ok-actor.ensures.place in
    let it =
    subst (λ (u : WorldOf _). StandsAs (seen view c.args.world.now) (seen view u))
    (sym c.in_err-turn-in-Some.ensures.err) picked in
    whatever c.from_residual-in_err-turn-in-Some.result _ it

pub returns-in_ok-turn-in-Some-clause-ok : goal.returns-in_ok-turn-in-Some-clause-ok
returns-in_ok-turn-in-Some-clause-ok g c =
    let view = g.Q.Kernel.view in
    step-made view c.args.world.now c.pick.new.self c.in-Some.actor
    (picked-some view c.args.world.now c.pick.new.self c.in_ok-actor.ensures.place c.in_ok-actor.field-0
    c.in_ok-actor.ensures.value c.in-Some.actor c.in-Some.is)
    (seen view c.turn.new.self) c.in_ok-turn-in-Some.ensures.ok

pub returns-in-None-clause-ok : goal.returns-in-None-clause-ok
returns-in-None-clause-ok g c =
    picked-none g.Q.Kernel.view c.args.world.now c.pick.new.self c.in_ok-actor.ensures.place c.in_ok-actor.field-0
    c.in_ok-actor.ensures.value c.in-None.is
