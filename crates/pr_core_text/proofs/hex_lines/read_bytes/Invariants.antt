use Rattle.std.proofs.Common.{◌≡◌, ◌+◌, ◌-◌, ◌*◌, ◌≤◌, [], drop, length, map}
use Rattle.pr_core_text.specs.CoreTexts.{bytes_after}
use Rattle.pr_core_text.proofs.hex_lines.read_bytes.Given as goal

-- the bytes so far and those on the lines from a place on are all of them; no line has more than 1,024
abbrev pub invariant-loop-left : goal.invariant-loop-left
invariant-loop-left l =
    (bytes_after l.bytes.items (l.first + l.place) l.left (map (λ line. line.now) (drop l.place l.lines))
    ≡ bytes_after [] l.first l.size (map (λ line. line.now) l.lines))
    × (l.place ≤ length l.lines)
    × (length l.bytes.items ≤ 1024 * l.place)

abbrev pub decreases-loop-left : goal.decreases-loop-left
decreases-loop-left l = length l.lines - l.place
