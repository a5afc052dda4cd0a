use Rattle.std.proofs.Common.{◌≡◌, ◌++◌}
use Rattle.std.specs.List.{flat_map}
use Rattle.std.specs.Option.{option_copied}
use Rattle.pr_tools.specs.Pstack.{frame_line}
use Rattle.pr_tools.specs.SpaceStacks.{returns_from}
use Rattle.pr_tools.specs.Steps.{read_frames}
use Rattle.pr_core.specs.CoreMemory.{space_in}
use Rattle.pr_core.proofs.core_stacks.push_frames.Given as goal

-- the lines so far, and those of the frames that are left, are all lines
abbrev pub invariant-loop-left : goal.invariant-loop-left
invariant-loop-left l =
    l.text ++ flat_map (frame_line (option_copied l.program)) (returns_from (space_in l.space) l.left l.frame)
    ≡ l.fn.text
    ++ flat_map (frame_line (option_copied l.program)) (returns_from (space_in l.space) read_frames l.pointer)

abbrev pub decreases-loop-left : goal.decreases-loop-left
decreases-loop-left l = l.left
