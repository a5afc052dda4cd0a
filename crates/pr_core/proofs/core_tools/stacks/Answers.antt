use Rattle.std.proofs.Common.{◌≡◌, ℕ, List, IfOk, ap, subst, ◌∙◌}
use Rattle.pr_num.specs.Programs.{Program}
use Rattle.pr_rec.specs.declared.lwps.LwpStatus.{LwpStatus}
use Rattle.pr_rec.specs.declared.mappings.MapEntry.{MapEntry}
use Rattle.pr_tools.specs.SpaceStacks.{lwps_stacks}
use Rattle.pr_core.specs.CoreTools.{core_space, space_with}
use Rattle.pr_core.specs.Cores.{CoreState}
use Rattle.pr_core.proofs.core_tools.stacks.Goals as goal

pub returns : goal.returns
unfolding core_space
returns c =
    let pid : ℕ = c.core.inside.pid in
    let programs : List Program = c.args.programs.now in
    let maps : List MapEntry = c.core.inside.maps.items in
    let memory : List (List ℕ) = c.core.inside.memory.items in
    let same =
    ap (λ (ms : List MapEntry). lwps_stacks pid programs (space_with ms c.deref-2.result.now) c.deref-3.result.now)
    c.deref.ensures.value
    ∙ ap (λ (parts : List (List ℕ)). lwps_stacks pid programs (space_with maps parts) c.deref-3.result.now)
    c.deref-2.ensures.value
    ∙ ap (λ (lwps : List LwpStatus). lwps_stacks pid programs (space_with maps memory) lwps) c.deref-3.ensures.value
    ∙ ap (λ (core : CoreState). lwps_stacks core.pid programs (core_space core) core.lwps) c.core.view_is in
    subst (λ (expected : List ℕ). IfOk c.stacks_in.result (λ text. text ≡ expected)) same c.stacks_in.ensures
