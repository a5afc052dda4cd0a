use Rattle.std.proofs.Common.{◌≡◌, ◌++◌, take}
use Rattle.std.specs.List.{flat_map}
use Rattle.std.specs.Option.{option_copied}
use Rattle.pr_tools.specs.Pstack.{frame_line_of}
use Rattle.pr_tools.proofs.stack_lines.push_frames.Given as goal

abbrev pub invariant-loop-frame : goal.invariant-loop-frame
invariant-loop-frame l =
    l.text ≡ l.fn.text ++ flat_map (frame_line_of (option_copied l.program) l.lwp) (take l.frame-index l.frames)
