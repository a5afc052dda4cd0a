use Rattle.std.proofs.Common.{◌≡◌, ap, sym, ◌∙◌}
use Rattle.std.proofs.lemmas.Result.{IfOk-weaker}
use Rattle.std.specs.Option.{option_copied}
use Rattle.pr_num.proofs.ByIdLaws.{put_under-same}
use Rattle.pr_num.specs.ById.{put_under}
use Rattle.pr_proc.proofs.ForkLemmas.{child-made}
use Rattle.pr_proc.proofs.forks.made_child.Goals as goal

-- the child is made of the process that stands and of its lwp
pub returns-clause-child : goal.returns-clause-child
returns-clause-child c =
    let s = c.args.sys.now in
    let pid = c.args.pid in
    let same : put_under pid c.copy_frames.new.process s.processes ≡ s.processes =
    ap (λ p. put_under pid p s.processes) c.copy_frames.ensures.same
    ∙ put_under-same pid _ s.processes c.get_mut.ensures.value
    in
    let taken = sym c.live.ensures ∙ ap option_copied c.unwrap-process.ensures in
    let caller = sym c.get.ensures ∙ ap option_copied c.unwrap-caller.ensures in
    IfOk-weaker c.bare_child.result _ _
    (λ child made birth call p live l own.
    child-made birth s pid c.args.lwp _ p c.unwrap-process.result.now child l c.unwrap-caller.result.now same taken
    caller live own (made birth _ _ (c.forked_lwp-first.ensures birth call)))
    c.bare_child.ensures
