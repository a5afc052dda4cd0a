use Rattle.std.proofs.Common.{◌∙◌, None, sym}
use Rattle.own_tracer.proofs.GoingLemmas.{if-next, next-turns}
use Rattle.own_tracer.proofs.RoundLemmas.{first-found, from-first}
use Rattle.own_tracer.proofs.programs.Programs.next.Goals as goal

pub returns-in-Some-clause-next : goal.returns-in-Some-clause-next
returns-in-Some-clause-next g c =
    first-found (g.Q.Kernel.view c.args.kern.now) c.args.self.now.last c.next_lwp.result c.in-Some.lwp
    (sym c.next_lwp.ensures) c.in-Some.is

pub returns-in-Some-clause-can : goal.returns-in-Some-clause-can
returns-in-Some-clause-can g c =
    next-turns (g.Q.Kernel.view c.args.kern.now) c.args.self.now.last c.in-Some.lwp
    (sym c.next_lwp.ensures ∙ c.in-Some.is)

pub returns-in-None-clause-next : goal.returns-in-None-clause-next
returns-in-None-clause-next g c =
    c.next_lwp-in-None.ensures
    ∙ from-first (g.Q.Kernel.view c.args.kern.now) c.args.self.now.last c.next_lwp.result (sym c.next_lwp.ensures)
    c.in-None.is

pub returns-in-None-clause-can : goal.returns-in-None-clause-can
returns-in-None-clause-can g c =
    if-next (g.Q.Kernel.view c.args.kern.now) None c.next_lwp-in-None.result c.next_lwp-in-None.ensures
