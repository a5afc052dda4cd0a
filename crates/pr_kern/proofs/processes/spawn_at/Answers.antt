use Rattle.std.proofs.Common.{ap, ◌∙◌}
use Rattle.pr_model.specs.Calls.{Answer}
use Rattle.pr_model.specs.Spawning.{spawn_refusal}
use Rattle.pr_model.specs.State.{TracedSystem}
use Rattle.pr_model.specs.declared.calls.Reply.TheVariants.{Fail}
use Rattle.pr_kern.proofs.SpawnLemmas.{spawn-made, spawn-refused}
use Rattle.pr_kern.proofs.processes.spawn_at.Goals as goal

pub returns-in-Ok-clause-ok : goal.returns-in-Ok-clause-ok
returns-in-Ok-clause-ok c =
    spawn-made c.args.state.now c.args.held c.args.place c.requires.program c.spawn.new.sys c.in-Ok.child
    (λ g at. c.in-Ok.ensures.ok g at) (λ g at. c.in-Ok.ensures.refused g at) c.in-Ok.ensures.child

-- a refusal leaves the system
pub returns-in_ok-error-in-Err-clause-ok : goal.returns-in_ok-error-in-Err-clause-ok
returns-in_ok-error-in-Err-clause-ok c =
    ap (λ (m : TracedSystem). let a : Answer =
    record { state = record c.args.state.now { system = m }; reply = Fail c.in_ok-error-in-Err.error } in a)
    c.in-Err.ensures.err
    ∙ spawn-refused c.args.state.now c.args.held c.args.place c.requires.program c.in_ok-error-in-Err.error
    (λ g at.
    c.in_ok-error-in-Err.ensures.ok (spawn_refusal c.args.state.now.system g) (c.in-Err.ensures.refused g at))
