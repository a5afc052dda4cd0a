use Rattle.pr_world.proofs.MoveLemmas.{replied}
use Rattle.pr_world.proofs.callers.Caller.make_call.Goals as goal

pub unwrap-reply-requires : goal.unwrap-reply-requires
unwrap-reply-requires g c =
    replied c.args.by c.unwrap-call.result _ _ c.in_ok-call.ensures.ok c.last_reply.result c.last_reply.ensures
