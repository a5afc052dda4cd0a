use Rattle.std.proofs.Common.{ap, ◌∙◌}
use Rattle.pr_model.specs.ProcessCalls.{program_named}
use Rattle.pr_kern.proofs.SpawnLemmas.{spawn-named, spawn-none}
use Rattle.pr_kern.proofs.ViewLemmas.{if-ok}
use Rattle.pr_kern.proofs.processes.spawn.Goals as goal

pub returns-in-None-clause-ok : goal.returns-in-None-clause-ok
returns-in-None-clause-ok c =
    spawn-none c.args.state.now c.args.held c.args.program.now
    (c.in-None.ensures.program ∙ ap (program_named c.args.state.now.system.programs) c.as_slice.ensures.bytes)

pub returns-in-Some-clause-ok : goal.returns-in-Some-clause-ok
returns-in-Some-clause-ok c =
    if-ok _ _ c.spawn_at.result
    (λ reply is.
    spawn-named c.args.state.now c.args.held c.args.program.now c.in-Some.place _
    (c.in-Some.ensures.program ∙ ap (program_named c.args.state.now.system.programs) c.as_slice.ensures.bytes) is)
    c.spawn_at.ensures.ok
