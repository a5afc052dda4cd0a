use Rattle.std.proofs.Common.{◌∙◌, Bool, false, sym, subst, arith}
use Rattle.pr_api.specs.Entries.{call_entry}
use Rattle.pr_kern.proofs.AnswerLemmas.{answer-sound}
use Rattle.pr_lawful.proofs.LawfulStates.CallLemmas.{call-state}
use Rattle.pr_judge.proofs.TryLemmas.{tried-call, tried-stranger, tried-unready}
use Rattle.pr_judge.specs.Players.{HasTried, Played}
use Rattle.pr_judge.proofs.players.Player.play_call.Goals as goal

pub returns-then-by-controllers-clause-tried : goal.returns-then-by-controllers-clause-tried
returns-then-by-controllers-clause-tried c =
    tried-stranger c.args.controllers c.args.self.now.state c.args.self.now.state c.args.by c.args.call.now
    c.args.reply.now
    (omega (arith, c.if-by-controllers.true))

pub returns-then-not-ready-clause-tried : goal.returns-then-not-ready-clause-tried
returns-then-not-ready-clause-tried c =
    let machine = c.self.inside.machine in
    let entry = call_entry c.args.by c.args.call.now c.args.reply.now in
    subst (λ (p : Played). HasTried c.args.controllers entry p.state p.state false) c.self.view_is
    (tried-unready c.args.controllers machine machine c.args.by c.args.call.now c.args.reply.now
    (sym c.ready.ensures ∙ c.if-not-ready.true))

-- the answer leaves the system sound and the state lawful
pub invariant_of-self-2 : goal.invariant_of-self-2
invariant_of-self-2 c =
    let was = c.self.invariant in
    record {
      sound = answer-sound _ _ _ _ _ c.in_ok-given.ensures.ok was.sound;
      lawful = call-state _ was.lawful _ _ _ c.in_ok-given.ensures.ok;
      fits = was.fits;
    }

pub returns-clause-tried : goal.returns-clause-tried
returns-clause-tried c =
    let machine = c.self.inside.machine in
    let entry = call_entry c.args.by c.args.call.now c.args.reply.now in
    let new = c.answer.new.state in
    subst (λ (p : Played). HasTried c.args.controllers entry p.state new c.same_reply.result) c.self.view_is
    (subst (λ (legal : Bool). HasTried c.args.controllers entry machine new legal) (sym c.same_reply.ensures)
    (tried-call c.args.controllers machine c.args.by c.args.call.now c.args.reply.now c.in_ok-given.given new
    (omega (arith, c.if-by-controllers.false)) c.in_ok-given.ensures.ok))
