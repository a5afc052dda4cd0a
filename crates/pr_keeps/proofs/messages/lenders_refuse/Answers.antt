use Rattle.pr_keeps.proofs.MessageLemmas.{watch-refused, agent-refused, write-refused}
use Rattle.pr_keeps.proofs.messages.lenders_refuse.Goals as goal

pub returns-clause-watch : goal.returns-clause-watch
returns-clause-watch c s pid child at size flags len p aim tail lent =
    watch-refused s pid child p lent aim at size flags len tail

pub returns-clause-agent : goal.returns-clause-agent
returns-clause-agent c s pid child len p aim regs tail lent = agent-refused s pid child p lent aim len regs tail

pub returns-clause-write : goal.returns-clause-write
returns-clause-write c s pid child at size len p aim tail lent = write-refused s pid child p lent aim at size len tail
