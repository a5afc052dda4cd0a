use Rattle.std.proofs.Common.{◌≡◌, ◌++◌}
use Rattle.std.specs.Option.{option_copied}
use Rattle.pr_hist.specs.Messages.{messages_in, all_messages}
use Rattle.pr_hist.proofs.messages.write_all_messages.Given as goal

-- what was told so far, and the messages that are left, are what is to be told
abbrev pub invariant-messages : goal.invariant-messages
invariant-messages l =
    l.text ++ messages_in (option_copied l.source) l.most l.rest
    ≡ l.fn.text ++ all_messages (option_copied l.source) l.bytes

abbrev pub decreases-messages : goal.decreases-messages
decreases-messages l = l.most
