use Rattle.pr_keeps.proofs.MessageLemmas.{message-edit}
use Rattle.pr_keeps.proofs.messages.messages_make_their_edits.Goals as goal

pub returns : goal.returns
returns c = λ s pid p aim m tail len. message-edit s pid p tail len aim m
