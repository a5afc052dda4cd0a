use Rattle.std.proofs.Common.{◌≡◌, ◌+◌, map, length}
use Rattle.pr_scen.specs.Parts.{parts_from}
use Rattle.pr_scen.specs.ProgramTexts.{program_draft_in, program_parts_added}
use Rattle.pr_scen.proofs.program_texts.read_parts.Given as goal

abbrev pub invariant-loop-first : goal.invariant-loop-first
invariant-loop-first l =
    (program_parts_added l.draft (parts_from l.number (map (λ line. line.now) l.rest))
    ≡ program_draft_in (map (λ line. line.now) l.lines)) × (l.number + length l.rest ≡ length l.lines + 1)

abbrev pub decreases-loop-first : goal.decreases-loop-first
decreases-loop-first l = length l.rest
