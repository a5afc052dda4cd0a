use Rattle.pr_proc.proofs.processes.Processes.next_from.Goals as goal

pub returns-clause-next : goal.returns-clause-next
returns-clause-next c = rw (← c.self.view_is) c.next_from.ensures.next

pub returns-clause-rest : goal.returns-clause-rest
returns-clause-rest c = rw (← c.self.view_is) c.next_from.ensures.rest

pub returns-clause-none : goal.returns-clause-none
returns-clause-none c = rw (← c.self.view_is) c.next_from.ensures.none

pub returns-clause-end : goal.returns-clause-end
returns-clause-end c = rw (← c.self.view_is) c.next_from.ensures.end
