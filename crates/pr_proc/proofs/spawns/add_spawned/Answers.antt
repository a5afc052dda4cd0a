use Rattle.std.proofs.Common.{[], ◌∷◌, ap, ◌∙◌}
use Rattle.pr_model.specs.State.{TracedLwp}
use Rattle.pr_proc.proofs.FirstLemmas.{spawned-so}
use Rattle.pr_proc.proofs.spawns.add_spawned.Goals as goal

-- the process is one of the program at the place
pub returns-clause-ok : goal.returns-clause-ok
returns-clause-ok c = λ program at.
    let first = c.in_ok-lwps.ensures ∙ ap (λ (l : TracedLwp). (1, l) ∷ []) c.first_lwp.ensures in
    spawned-so c.args.sys.now _ c.args.place program c.at.result.now c.args.held _ _ _ _ at c.at.ensures
    c.name-name.ensures (c.requires.space program at) first c.bare_process-process.ensures
    c.in_ok-add_process.ensures.ok
