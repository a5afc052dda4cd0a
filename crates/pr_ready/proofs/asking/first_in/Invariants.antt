use Rattle.std.proofs.Common.{◌≡◌, drop}
use Rattle.std.specs.List.{find}
use Rattle.pr_model.specs.Order.{pairs_of}
use Rattle.pr_proc.specs.Orders.{asked_after}
use Rattle.pr_ready.proofs.asking.first_in.Given as goal

-- none was found so far
abbrev pub invariant-loop-place : goal.invariant-loop-place
invariant-loop-place g l =
    find (asked_after (g.Q.Question.answer l.question) l.after) (pairs_of l.pid (drop l.place l.process.lwps))
    ≡ find (asked_after (g.Q.Question.answer l.question) l.after) (pairs_of l.pid l.process.lwps)
