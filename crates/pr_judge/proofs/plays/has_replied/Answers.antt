use Rattle.pr_judge.proofs.ReplyLemmas.{replied-other, replied-same}
use Rattle.pr_judge.proofs.plays.has_replied.Goals as goal

pub returns-in-Some-clause-same : goal.returns-in-Some-clause-same
returns-in-Some-clause-same g c =
    replied-same c.last_reply.result c.in-Some.last _ c.args.reply.now c.same_reply.result c.in-Some.is
    c.last_reply.ensures c.same_reply.ensures

pub returns-in-Some-clause-differ : goal.returns-in-Some-clause-differ
returns-in-Some-clause-differ g c =
    replied-other c.last_reply.result c.in-Some.last _ c.args.reply.now c.same_reply.result c.in-Some.is
    c.last_reply.ensures c.same_reply.ensures
