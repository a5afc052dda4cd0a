use Rattle.std.proofs.Common.{◌∙◌, sym}
use Rattle.pr_hide.specs.Hidings.{hiders_of}
use Rattle.pr_hide.proofs.BareLemmas.{agent-ended, agent-goes, lwp-turned, memory-replaced}
use Rattle.pr_hide.proofs.following.follow_turn.Goals as goal

pub returns-then-replaces_memory : goal.returns-then-replaces_memory
returns-then-replaces_memory c =
    c.forget.ensures
    ∙ memory-replaced c.args.table.now.agents c.args.table.now.patches
    (hiders_of c.args.who.now) c.args.machine.now c.args.pid c.args.lwp c.args.did
    (sym c.if-keeps_lwp.ensures) (sym c.if-replaces_memory.ensures)

pub returns-else-replaces_memory : goal.returns-else-replaces_memory
returns-else-replaces_memory c =
    lwp-turned c.args.table.now.agents c.args.table.now.patches
    (hiders_of c.args.who.now) c.args.machine.now c.args.pid c.args.lwp c.args.did
    (sym c.if-keeps_lwp.ensures) (sym c.if-replaces_memory.ensures)

pub returns-then-exits : goal.returns-then-exits
returns-then-exits c =
    c.remove_agent.ensures
    ∙ agent-ended c.args.table.now.agents c.args.table.now.patches
    (hiders_of c.args.who.now) c.args.machine.now c.args.pid c.args.lwp c.args.did
    (sym c.if-keeps_lwp.ensures) (sym c.if-exits.ensures)

pub returns-else-exits : goal.returns-else-exits
returns-else-exits c =
    agent-goes c.args.table.now.agents c.args.table.now.patches
    (hiders_of c.args.who.now) c.args.machine.now c.args.pid c.args.lwp c.args.did
    (sym c.if-keeps_lwp.ensures) (sym c.if-exits.ensures)
