use Rattle.pr_hist.proofs.HandleLaws.{closes-named, keeps-all, open-exactly-since, opens-named}
use Rattle.pr_hist.proofs.laws.handles_are_named_while_open.Goals as goal

pub returns-clause-opened : goal.returns-clause-opened
returns-clause-opened c = opens-named

pub returns-clause-closed : goal.returns-clause-closed
returns-clause-closed c = closes-named

pub returns-clause-neither : goal.returns-clause-neither
returns-clause-neither c = keeps-all

pub returns-clause-since : goal.returns-clause-since
returns-clause-since c = open-exactly-since
