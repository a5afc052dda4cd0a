use Rattle.std.proofs.Common.{◌||◌, ◌∙◌, ap, refl, sym}
use Rattle.own_tracer.proofs.GoingLemmas.{goes-nowhere, goes-on}
use Rattle.own_tracer.proofs.RoundLemmas.{round-made, round-none}
use Rattle.own_tracer.proofs.RunLemmas.{beside-goes}
use Rattle.own_tracer.specs.Stances.{Holds}
use Rattle.own_tracer.proofs.running.round.Goals as goal

pub returns-then-is_over-clause-goes : goal.returns-then-is_over-clause-goes
returns-then-is_over-clause-goes g c =
    goes-nowhere (Holds c.args.grip) (g.Q.Kernel.view c.args.kern.now) c.requires.stands

pub returns-then-is_over-clause-round : goal.returns-then-is_over-clause-round
returns-then-is_over-clause-round g c =
    round-none c.args.grip c.args.faults.now c.args.faults.now
    (record { kernel = g.Q.Kernel.view c.args.kern.now; last = c.args.programs.now.last })
    (sym c.is_over.ensures.value ∙ c.if-is_over.true)

pub inject-requires-clause-stands : goal.inject-requires-clause-stands
inject-requires-clause-stands g c =
    let view = g.Q.Kernel.view in
    let moved =
    beside-goes c.args.grip (view c.args.kern.now) (view c.advance.new.kern) c.requires.stands
    c.in_ok-moved.ensures.goes in
    moved.stands

pub returns-then-moved-clause-goes : goal.returns-then-moved-clause-goes
returns-then-moved-clause-goes g c =
    let view = g.Q.Kernel.view in
    goes-on (Holds c.args.grip) (Holds c.args.grip) (view c.args.kern.now) (view c.advance.new.kern)
    (view c.inject.new.kern)
    (beside-goes c.args.grip (view c.args.kern.now) (view c.advance.new.kern) c.requires.stands
    c.in_ok-moved.ensures.goes) c.in_ok-injected.ensures.goes

pub returns-else-moved-clause-goes : goal.returns-else-moved-clause-goes
returns-else-moved-clause-goes g c =
    let view = g.Q.Kernel.view in
    goes-on (Holds c.args.grip) (Holds c.args.grip) (view c.args.kern.now) (view c.advance.new.kern)
    (view c.inject.new.kern)
    (beside-goes c.args.grip (view c.args.kern.now) (view c.advance.new.kern) c.requires.stands
    c.in_ok-moved.ensures.goes) c.in_ok-injected.ensures.goes

pub returns-then-moved-clause-round : goal.returns-then-moved-clause-round
returns-then-moved-clause-round g c =
    let view = g.Q.Kernel.view in
    round-made c.args.grip c.args.faults.now c.inject.new.faults _ _ _
    (sym c.is_over.ensures.value ∙ c.if-is_over.false)
    (record {
      middle = record { kernel = view c.advance.new.kern; last = c.advance.new.self.last };
      moved = c.in_ok-moved.moved;
      moves = c.in_ok-moved.ensures.moves;
      beside = c.in_ok-moved.ensures.goes;
      acted = c.in_ok-injected.injected;
      ready = c.in_ok-injected.ensures.ready;
      injects = c.in_ok-injected.ensures.injects;
      goes = c.in_ok-injected.ensures.goes;
      last = refl;
      again_is = c.if-moved.true ∙ sym (ap (λ b. b || c.in_ok-injected.injected) c.if-moved.true);
    })

pub returns-else-moved-clause-round : goal.returns-else-moved-clause-round
returns-else-moved-clause-round g c =
    let view = g.Q.Kernel.view in
    round-made c.args.grip c.args.faults.now c.inject.new.faults _ _ _
    (sym c.is_over.ensures.value ∙ c.if-is_over.false)
    (record {
      middle = record { kernel = view c.advance.new.kern; last = c.advance.new.self.last };
      moved = c.in_ok-moved.moved;
      moves = c.in_ok-moved.ensures.moves;
      beside = c.in_ok-moved.ensures.goes;
      acted = c.in_ok-injected.injected;
      ready = c.in_ok-injected.ensures.ready;
      injects = c.in_ok-injected.ensures.injects;
      goes = c.in_ok-injected.ensures.goes;
      last = refl;
      again_is = sym (ap (λ b. b || c.in_ok-injected.injected) c.if-moved.false);
    })
