use Rattle.own_tracer.proofs.RunLemmas.{left-nothing, on-both}
use Rattle.own_tracer.proofs.running.run.Goals as goal

pub run_alone-requires : goal.run_alone-requires
run_alone-requires g c =
    let before = c.in_ok-inject_all.ensures.goes in
    record {
      stands =
          left-nothing c.in_ok-inject_all.field-0 c.args.pid (g.Q.Kernel.view c.inject_all.new.kern) before.stands;
    }

pub returns : goal.returns
returns g c =
    let view = g.Q.Kernel.view in
    on-both c.run_alone.result _ _ _
    (λ after alone. record {
      middle = record { kernel = view c.inject_all.new.kern; last = c.inject_all.new.programs.last };
      attached = c.in_ok-inject_all.field-0;
      out = c.in_ok-inject_all.ensures.out;
      beside = c.in_ok-inject_all.ensures.beside;
      before = c.in_ok-inject_all.ensures.goes;
      after = after;
      last = c.run_alone.new.programs.last;
      alone = alone;
    }) c.run_alone.ensures.goes c.run_alone.ensures.runs
