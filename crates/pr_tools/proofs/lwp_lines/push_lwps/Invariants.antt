use Rattle.std.proofs.Common.{◌≡◌, ◌++◌, map, take}
use Rattle.std.specs.List.{flat_map}
use Rattle.pr_rec.specs.RecordWords.{lwpstatus_words_of}
use Rattle.pr_tools.specs.Pflags.{lwp_line}
use Rattle.pr_tools.proofs.lwp_lines.push_lwps.Given as goal

abbrev pub invariant-loop-lwp : goal.invariant-loop-lwp
invariant-loop-lwp l = l.text ≡ l.fn.text ++ flat_map lwp_line (map lwpstatus_words_of (take l.lwp-index l.lwps))
