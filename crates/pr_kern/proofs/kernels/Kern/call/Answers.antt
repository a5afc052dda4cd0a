use Rattle.std.proofs.Common.{◌<◌, length, sym, subst, arith}
use Rattle.pr_lawful.proofs.LawfulStates.CallLemmas.{call-state}
use Rattle.pr_model.specs.Lawful.{IsLawful}
use Rattle.pr_kern.specs.Kernels.{Kernel}
use Rattle.pr_kern.proofs.AnswerLemmas.{answer-sound}
use Rattle.pr_kern.proofs.KeptLemmas.{kept-push, kept-ready}
use Rattle.pr_kern.proofs.ReadyLemmas.{call-follows}
use Rattle.pr_kern.proofs.SoundLemmas.{IsSound-more}
use Rattle.pr_kern.proofs.kernels.Kern.call.Goals as goal

-- the answer leaves the system sound and the state lawful, and there was a place for the entry; and the sets follow it
pub invariant_of-self-2 : goal.invariant_of-self-2
invariant_of-self-2 c =
    let place = subst (λ (k : Kernel). length k.history < k.places) (sym c.self.view_is) c.requires.place in
    let was = c.self.invariant.kept in
    kept-ready _ _ _ _
    (kept-push _ _ _ _ _ c.push.ensures.entries c.push.ensures.room place was.room
    (IsSound-more _ _ _ (omega arith) (answer-sound _ _ _ _ _ c.in_ok-reply.ensures.ok was.sound))
    (call-state _ was.lawful _ _ _ c.in_ok-reply.ensures.ok))
    (call-follows _ _ _ _ _ _ _ _ was.lawful c.in_ok-reply.ensures.ok c.around_call-around.ensures
    c.call_changes_files-files.ensures c.after_call.ensures c.self.invariant.looks)

-- the state that it finds is lawful
pub returns-clause-lawful : goal.returns-clause-lawful
returns-clause-lawful c = subst (λ (k : Kernel). IsLawful k.state) c.self.view_is c.self.invariant.kept.lawful

pub returns-in_err-reply-clause-lawful : goal.returns-in_err-reply-clause-lawful
returns-in_err-reply-clause-lawful c =
    subst (λ (k : Kernel). IsLawful k.state) c.self.view_is c.self.invariant.kept.lawful
