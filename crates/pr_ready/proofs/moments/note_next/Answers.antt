use Rattle.std.proofs.Common.{◌≤◌, subst, sym}
use Rattle.pr_ready.proofs.TickLemmas.{next-woken}
use Rattle.pr_ready.proofs.moments.note_next.Goals as goal

pub returns-clause-due : goal.returns-clause-due
returns-clause-due c = λ small moment woken.
    c.note.ensures.due small moment
    (subst (λ n. n ≤ moment) (sym c.next_moment.ensures) (next-woken c.args.clock moment c.args.lwps.now woken))
