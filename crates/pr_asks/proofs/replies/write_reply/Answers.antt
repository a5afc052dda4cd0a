use Rattle.std.proofs.Common.{◌∙◌, ◌++◌, ap, List, ℕ}
use Rattle.pr_asks.proofs.ReplyLemmas.{reply-left}
use Rattle.pr_asks.proofs.replies.write_reply.Goals as goal
use Rattle.pr_asks.specs.Replies.{reply_line}

pub returns : goal.returns
returns c =
    let left =
    reply-left _ _ _ c.new-line.ensures.items (c.deref.ensures.value ∙ c.in_ok-write_entry.ensures.written) in
    c.in_ok-extend_from_slice.ensures.items
    ∙ ap (λ (text : List ℕ). c.args.out.now.items ++ text)
    (c.behind_front.ensures ∙ left ∙ ap reply_line c.in_ok-copy_of.ensures)
