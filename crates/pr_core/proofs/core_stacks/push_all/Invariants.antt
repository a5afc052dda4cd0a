use Rattle.std.proofs.Common.{◌≡◌, ◌++◌, take}
use Rattle.std.specs.List.{flat_map}
use Rattle.std.specs.Option.{option_copied}
use Rattle.pr_tools.specs.SpaceStacks.{lwp_stack}
use Rattle.pr_core.specs.CoreMemory.{space_in}
use Rattle.pr_core.proofs.core_stacks.push_all.Given as goal

abbrev pub invariant-loop-lwp : goal.invariant-loop-lwp
invariant-loop-lwp l =
    l.text ≡ l.fn.text ++ flat_map (lwp_stack (option_copied l.program) (space_in l.space)) (take l.lwp-index l.lwps)
