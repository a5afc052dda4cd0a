use Rattle.pr_keeps.proofs.MessageLemmas.{message-answered}
use Rattle.pr_keeps.proofs.messages.messages_are_refused_or_make_their_edits.Goals as goal

pub returns : goal.returns
returns c = λ s pid p aim m tail len. message-answered s pid p tail len aim m
