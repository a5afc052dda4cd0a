use Rattle.std.proofs.Common.{◌∙◌, refl, sym}
use Rattle.own_tracer.proofs.GoingLemmas.{turn-goes}
use Rattle.own_tracer.proofs.RoundLemmas.{clock-moves, lwp-moves}
use Rattle.own_tracer.proofs.programs.Programs.advance.Goals as goal

pub returns-in_ok-lwp_turn-in-Some-clause-goes : goal.returns-in_ok-lwp_turn-in-Some-clause-goes
returns-in_ok-lwp_turn-in-Some-clause-goes g c =
    let view = g.Q.Kernel.view in
    turn-goes c.in-Some.pid c.in-Some.lwp c.in_ok-lwp_turn-in-Some.field-0 (view c.args.kern.now)
    (view c.lwp_turn.new.self) (g.met.Q.Kernel.lawful c.lwp_turn.new.self) c.requires.stands
    c.in_ok-lwp_turn-in-Some.ensures.ok

pub returns-in_ok-lwp_turn-in-Some-clause-moves : goal.returns-in_ok-lwp_turn-in-Some-clause-moves
returns-in_ok-lwp_turn-in-Some-clause-moves g c =
    let view = g.Q.Kernel.view in
    lwp-moves (record { kernel = view c.args.kern.now; last = c.args.self.now.last }) _
    (c.in-Some.pid, c.in-Some.lwp) c.in_ok-lwp_turn-in-Some.field-0 (sym c.next.ensures.next ∙ c.in-Some.is) refl
    c.in_ok-lwp_turn-in-Some.ensures.ok

pub returns-in-None-clause-moves : goal.returns-in-None-clause-moves
returns-in-None-clause-moves g c =
    let view = g.Q.Kernel.view in
    clock-moves (record { kernel = view c.args.kern.now; last = c.args.self.now.last }) _ c.tick.result
    (sym c.next.ensures.next ∙ c.in-None.is) c.tick.ensures.can refl c.tick.ensures.ticks
