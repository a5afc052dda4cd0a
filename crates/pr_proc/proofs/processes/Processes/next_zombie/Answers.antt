use Rattle.pr_proc.proofs.processes.Processes.next_zombie.Goals as goal

pub returns-clause-found : goal.returns-clause-found
returns-clause-found c = rw (← c.self.view_is) c.next_zombie.ensures.found

pub returns-clause-child : goal.returns-clause-child
returns-clause-child c = rw (← c.self.view_is) c.next_zombie.ensures.child

pub returns-clause-ended : goal.returns-clause-ended
returns-clause-ended c = rw (← c.self.view_is) c.next_zombie.ensures.ended

pub returns-clause-least : goal.returns-clause-least
returns-clause-least c = rw (← c.self.view_is) c.next_zombie.ensures.least

pub returns-clause-none : goal.returns-clause-none
returns-clause-none c = rw (← c.self.view_is) c.next_zombie.ensures.none
