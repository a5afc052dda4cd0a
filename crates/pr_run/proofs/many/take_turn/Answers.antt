use Rattle.std.proofs.Common.{◌≡◌, ◌∙◌, ℕ, List, true, sym, ap, subst, None, arith}
use Rattle.pr_lock.specs.History.{StandIn, StartsWith}
use Rattle.pr_lock.specs.Seats.{entered_of, first_of, own_of, saw_over}
use Rattle.pr_world.specs.Worlds.{seen}
use Rattle.pr_run.proofs.ManyLemmas.{came-count, done-left, ended-over, on-refused, refused-over, turn-grows, turn-work}
use Rattle.pr_run.specs.ManyRuns.{HasMade, first_world, last_lwp}
use Rattle.pr_run.specs.Logs.{entries_of, log_of}
use Rattle.pr_run.specs.declared.shared_worlds.LoggedEntry.{LoggedEntry}
use Rattle.pr_run.proofs.many.take_turn.Goals as goal

pub take_turn-progress-requires : goal.take_turn-progress-requires
take_turn-progress-requires g c =
    let view = g.Q.Kernel.view in
    let count =
    came-count (seen view (first_of c.args.lock.now).world)
    (seen view c.enter-shared.result.world) c.enter-shared.ensures.source in
    omega (arith, c.requires.number, count)

pub leave-requires-clause-source : goal.leave-requires-clause-source
leave-requires-clause-source g c κs within =
    c.take_turn-progress.ensures.came
    (seen g.Q.Kernel.view (first_of c.args.lock.now).world) c.enter-shared.ensures.source

pub leave-requires-clause-grown : goal.leave-requires-clause-grown
leave-requires-clause-grown g c κs within =
    let view = g.Q.Kernel.view in
    let w = seen view c.enter-shared.result.world in
    let v = seen view c.take_turn-progress.new.self.world in
    let grown =
    turn-grows c.args.worker.processors c.args.worker.number c.args.last.now c.take_turn-progress.new.last w v
    c.take_turn-progress.ensures.turn in
    subst (StartsWith (log_of v.kernel.history)) (sym c.enter-shared.ensures.lock.1) grown

pub leave-requires-clause-stays : goal.leave-requires-clause-stays
leave-requires-clause-stays g c κs within =
    λ over. c.take_turn-progress.ensures.stays (sym c.enter-shared.ensures.over ∙ over)

pub returns : goal.returns
returns g c =
    let view = g.Q.Kernel.view in
    let p = c.args.worker.processors in
    let n = c.args.worker.number in
    let old = c.args.last.now in
    let new = c.take_turn-progress.new.last in
    let first = first_world view c.args.lock.now in
    let w = seen view c.enter-shared.result.world in
    let v = seen view c.take_turn-progress.new.self.world in
    let lawful = c.take_turn-progress.ensures.lawful in
    let came = c.enter-shared.ensures.source in
    let entered = c.enter-shared.new.seat in
    let kept = c.enter-shared.ensures.kept in
    let own : own_of entered ≡ own_of c.args.seat.now = kept.1 in
    let made = subst (HasMade first p n) (sym own) c.requires.seat.made in
    let stand : StandIn (log_of w.kernel.history) (own_of entered) =
    subst (StandIn (log_of w.kernel.history)) (sym own) c.enter-shared.ensures.stand in
    let last = c.requires.last ∙ ap (λ (l : List (ℕ × LoggedEntry)). last_lwp None (entries_of l)) (sym own) in
    let grown =
    turn-work first p n old new w v (own_of entered) c.take_turn-progress.ensures.turn lawful came made last
    (own_of c.leave.new.seat)
    (entered_of entered) stand c.enter-shared.ensures.lock.1 c.leave.ensures.own c.leave.ensures.order in
    let shared = c.take_turn-progress.new.self in
    record {
      seat = record {
        outside = c.leave.ensures.lock;
        share = omega (arith, c.leave.ensures.shares, kept.2, c.requires.seat.share);
        made = grown.made;
      };
      last = grown.last;
      done = done-left first p n old new w v c.take_turn-progress.result shared.world.made c.leave.new.seat
          c.take_turn-progress.ensures.made c.take_turn-progress.ensures.asked lawful came c.leave.ensures.seen
          (λ asked ended. c.leave.ensures.over ∙ ended-over view shared asked ended);
      refused =
          on-refused c.take_turn-progress.result _
          (saw_over c.leave.new.seat ≡ true) c.take_turn-progress.ensures.refused
          (λ refused. c.leave.ensures.over ∙ refused-over view shared refused.0);
    }
