use Rattle.own_tracer.proofs.RoundLemmas.{gets-hold, kept-out}
use Rattle.own_tracer.proofs.RunLemmas.{attach-goes, open-granted, open-refused}
use Rattle.own_tracer.proofs.attaching.attach.Goals as goal

pub returns-in_default-clause-goes : goal.returns-in_default-clause-goes
returns-in_default-clause-goes g c =
    let view = g.Q.Kernel.view in
    open-refused c.args.pid c.requires.pid (view c.args.kern.now) (view c.open_control.new.kern)
    (g.met.Q.Kernel.lawful c.open_control.new.kern) c.requires.stands c.in_ok-control.ensures.called
    c.in_ok-control.field-0 c.in_ok-control.ensures.opened c.in_default.is

pub returns-clause-goes : goal.returns-clause-goes
returns-clause-goes g c =
    let view = g.Q.Kernel.view in
    let held =
    open-granted c.args.pid c.requires.pid (view c.args.kern.now) (view c.open_control.new.kern)
    (g.met.Q.Kernel.lawful c.open_control.new.kern) c.requires.stands c.in_ok-control.ensures.called
    c.in_ok-control.field-0 c.in_ok-control.ensures.opened c.in-Some.control c.in-Some.is in
    attach-goes (record { pid = c.args.pid; control = c.in-Some.control }) (view c.args.kern.now)
    (view c.open_control.new.kern) (view c.send.new.kern) (g.met.Q.Kernel.lawful c.send.new.kern) held
    c.in_ok-send.ensures.called

pub returns-in_default-clause-calls : goal.returns-in_default-clause-calls
returns-in_default-clause-calls g c =
    let view = g.Q.Kernel.view in
    kept-out c.args.pid (view c.args.kern.now) (view c.open_control.new.kern) c.in_ok-control.ensures.called
    c.in_ok-control.field-0 c.in_ok-control.ensures.opened c.in_default.is

pub returns-clause-calls : goal.returns-clause-calls
returns-clause-calls g c =
    let view = g.Q.Kernel.view in
    gets-hold c.args.pid (view c.args.kern.now) (view c.open_control.new.kern) (view c.send.new.kern)
    c.in_ok-control.ensures.called c.in_ok-control.field-0 c.in_ok-control.ensures.opened c.in-Some.control
    c.in-Some.is c.in_ok-send.ensures.called
