use Rattle.std.proofs.Common.{◌≡◌, ◌++◌, map, take}
use Rattle.std.specs.List.{flat_map}
use Rattle.std.specs.Option.{option_copied}
use Rattle.pr_rec.specs.RecordWords.{lwpstatus_words_of}
use Rattle.pr_tools.specs.Pstack.{stack_text}
use Rattle.pr_tools.proofs.stack_lines.push_stacks.Given as goal

abbrev pub invariant-loop-lwp : goal.invariant-loop-lwp
invariant-loop-lwp l =
    l.text ≡ l.fn.text
    ++ flat_map (stack_text (option_copied l.program) l.frames) (map lwpstatus_words_of (take l.lwp-index l.lwps))
