use Rattle.std.proofs.Common.{◌≡◌, Some, refl, ap, sym, ◌∙◌}
use Rattle.std.specs.Option.{option_copied}
use Rattle.pr_model.specs.State.{live_process}
use Rattle.pr_model.proofs.StateLemmas.{live_process-found}
use Rattle.pr_proc.proofs.LifeLemmas.{ended-so, left-so}
use Rattle.pr_proc.proofs.ends.end.Goals as goal

-- the process ended with what it had borrowed and lent
pub returns : goal.returns
returns c =
    let s = c.args.sys.now in
    let pid = c.args.pid in
    let p = c.unwrap-process.result.now in
    let live : live_process s pid ≡ Some p = sym c.live.ensures ∙ ap option_copied c.unwrap-process.ensures in
    let stands = live_process-found s pid p live in
    let space = sym (c.bury-space.ensures.space p stands) in
    let left = left-so s _ pid c.args.status p _ (c.bury-space.ensures.system p stands) c.orphan_each.ensures in
    ended-so s _ _ _ _ pid c.args.status p live left (c.leave_lender.ensures p refl) (c.give_back.ensures p space refl)
    c.tell_parent.ensures
