use Rattle.std.proofs.Common.{◌≡◌, ◌+◌, map, drop}
use Rattle.pr_text.specs.Steps.{folded}
use Rattle.pr_scen.specs.Blocks.{script_line_read}
use Rattle.pr_scen.proofs.drafts.Draft.add_script_lines.Given as goal

abbrev pub invariant-loop-i : goal.invariant-loop-i
invariant-loop-i l =
    folded script_line_read (l.first + l.i) l.self (drop l.i (map (λ line. line.now) l.lines))
    ≡ folded script_line_read l.first l.initial.self (map (λ line. line.now) l.lines)
