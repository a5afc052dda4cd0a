use Rattle.std.proofs.Common.{arith}
use Rattle.pr_drive.proofs.HandleLemmas.{polls-begin, polls-more}
use Rattle.pr_drive.proofs.seats.Seats.polls.Goals as goal

pub loop-handle-init : goal.loop-handle-init
loop-handle-init c = polls-begin c.args.self.now _ c.new-polls.ensures.items

pub loop-handle-preserved : goal.loop-handle-preserved
loop-handle-preserved c =
    polls-more c.args.self.now c.loop-handle.handle c.loop-handle.polls.items c.add_poll.new.polls.items
    (omega (arith, c.loop-handle-test.true)) c.in_ok-add_poll.ensures c.loop-handle.invariant
