use Rattle.std.proofs.Common.{◌*◌, ◌≤◌, Option, ap, sym, subst, ◌∙◌, arith}
use Rattle.pr_model.specs.State.{TracedProcess, live_process}
use Rattle.pr_ready.specs.Moments.{next_moment_of}
use Rattle.pr_ready.specs.Ready.{some_answer_of}
use Rattle.pr_ready.proofs.TickLemmas.{block-end, block-start, looked-next, next-next, next-woken_of}
use Rattle.pr_ready.proofs.ticks.look_at_block.Goals as goal

pub loop-pid-init : goal.loop-pid-init
loop-pid-init g c = record {
  looked = λ other least less said. absurd (omega arith);
  next = λ other moment least less wakes. absurd (omega arith);
  grows = λ other has. has;
}

pub loop-pid-preserved : goal.loop-pid-preserved
loop-pid-preserved g c = record {
  looked =
      looked-next (g.Q.Question.answer c.args.question.now) c.args.sys.now c.loop-pid.movable _ (c.args.block * 64)
      c.loop-pid.pid c.loop-pid.invariant.looked c.put_if.ensures.grows
      (λ said. c.put_if.ensures.member
      (c.some_answer_of.ensures
      ∙ ap (λ (o : Option TracedProcess). some_answer_of (g.Q.Question.answer c.args.question.now) c.loop-pid.pid o)
      c.live-process.ensures ∙ said) (omega arith));
  next =
      next-next c.args.sys.now c.loop-pid.next c.next_moment_of.result _ (c.args.block * 64) c.loop-pid.pid
      c.loop-pid.invariant.next
      (λ moment wakes. subst (λ n. n ≤ moment)
      (sym (c.next_moment_of.ensures
      ∙ ap (λ (o : Option TracedProcess). next_moment_of c.args.sys.now.clock o) c.live-process.ensures))
      (next-woken_of c.args.sys.now.clock moment (live_process c.args.sys.now c.loop-pid.pid) wakes))
      (omega (arith, c.min-next.ensures)) (omega (arith, c.min-next.ensures));
  grows = λ other has. c.put_if.ensures.grows other (c.loop-pid.invariant.grows other has);
}

pub returns : goal.returns
returns g c = record {
  looked = λ pid there said.
      c.loop-pid.invariant.looked pid (block-start pid c.args.block there)
      (let less = block-end pid c.args.block there in omega arith) said;
  next = λ pid moment there wakes.
      c.loop-pid.invariant.next pid moment (block-start pid c.args.block there)
      (let less = block-end pid c.args.block there in omega arith) wakes;
  grows = c.loop-pid.invariant.grows;
}
