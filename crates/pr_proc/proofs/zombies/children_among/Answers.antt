use Rattle.std.proofs.Common.{sym}
use Rattle.pr_proc.proofs.FamilyLemmas.{first-told, living-told, nobody-told}
use Rattle.pr_proc.proofs.zombies.children_among.Goals as goal

-- this child has ended, and is the first that has
pub returns-in-Some : goal.returns-in-Some
returns-in-Some c =
    sym (first-told c.args.parent c.args.processes.now c.ids_rise.ensures _ _ c.in-Some.ensures.found
    c.in-Some.ensures.child c.in-Some.ensures.ended c.in-Some.ensures.least)

-- none has ended, and one stands
pub returns-in-Some-next_child : goal.returns-in-Some-next_child
returns-in-Some-next_child c =
    sym (living-told c.args.parent c.args.processes.now c.ids_rise.ensures _ _ c.in-Some-next_child.ensures.found
    c.in-Some-next_child.ensures.child c.in_default.ensures.none)

-- none stands
pub returns-in-None : goal.returns-in-None
returns-in-None c =
    sym (nobody-told c.args.parent c.args.processes.now c.ids_rise.ensures c.in-None.ensures.none)
