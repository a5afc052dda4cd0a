use Rattle.std.proofs.Common.{◌≡◌, ◌+◌, map, length}
use Rattle.pr_scen.specs.Blocks.{parts_added}
use Rattle.pr_scen.specs.Parts.{parts_from}
use Rattle.pr_scen.specs.Reading.{draft_in}
use Rattle.pr_scen.proofs.reading.read_parts.Given as goal

abbrev pub invariant-loop-first : goal.invariant-loop-first
invariant-loop-first l =
    (parts_added l.draft (parts_from l.number (map (λ line. line.now) l.rest))
    ≡ draft_in (map (λ line. line.now) l.lines)) × (l.number + length l.rest ≡ length l.lines + 1)

abbrev pub decreases-loop-first : goal.decreases-loop-first
decreases-loop-first l = length l.rest
