use Rattle.std.proofs.Common.{ℕ, Option, sym, ap, ◌∙◌}
use Rattle.pr_model.specs.State.{TracedProcess, TracedSystem, live_process}
use Rattle.pr_proc.specs.Orders.{asked_after}
use Rattle.pr_ready.specs.Walks.{first_of}
use Rattle.pr_ready.proofs.AskingLemmas.{next-end, next-here, next-on}
use Rattle.pr_ready.proofs.WalkLemmas.{Found, behind, walk-begins}
use Rattle.pr_ready.proofs.asking.next_ready.Goals as goal

-- the question is one about this system
pub first_of-requires : goal.first_of-requires
first_of-requires g c =
    c.live.ensures ∙ ap (λ (s : TracedSystem). live_process s c.in-Some.pid) (sym c.requires.asks)

-- nothing stands before the process of the other lwp
pub loop-pid-init : goal.loop-pid-init
loop-pid-init g c =
    ap (λ (n : ℕ). Found (asked_after (g.Q.Question.answer c.args.question.now) c.args.after)
    (behind n c.args.sys.now.processes)) c.first_pid-from.ensures
    ∙ walk-begins (g.Q.Question.answer c.args.question.now) c.args.after c.args.sys.now.processes

-- the first in this process comes before those of the processes behind it
pub returns-in-Some-first_of : goal.returns-in-Some-first_of
returns-in-Some-first_of g c =
    sym (next-here (g.Q.Question.answer c.args.question.now) c.args.after c.args.sys.now c.args.movable.now
    c.requires.lawful.rising c.requires.covers c.loop-pid.from c.in-Some.pid c.in-Some-first_of.found
    c.in-Some.ensures.next c.loop-pid.invariant
    (ap (λ (o : Option TracedProcess). first_of (g.Q.Question.answer c.args.question.now) c.args.after c.in-Some.pid o)
    (sym c.live.ensures) ∙ sym c.first_of.ensures ∙ c.in-Some-first_of.is))

-- this process has none
pub loop-pid-preserved : goal.loop-pid-preserved
loop-pid-preserved g c =
    next-on (g.Q.Question.answer c.args.question.now) c.args.after c.args.sys.now c.args.movable.now
    c.requires.lawful.rising c.requires.covers c.loop-pid.from c.in-Some.pid c.in-Some.ensures.next c.loop-pid.invariant
    (ap (λ (o : Option TracedProcess). first_of (g.Q.Question.answer c.args.question.now) c.args.after c.in-Some.pid o)
    (sym c.live.ensures) ∙ sym c.first_of.ensures ∙ c.in_default-first_of.is)

pub returns : goal.returns
returns g c =
    sym (next-end (g.Q.Question.answer c.args.question.now) c.args.after c.args.sys.now c.args.movable.now
    c.requires.lawful.rising c.requires.covers c.loop-pid.from c.in_default.ensures.none c.loop-pid.invariant)
