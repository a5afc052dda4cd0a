use Rattle.std.proofs.Common.{◌≡◌, ◌++◌, take}
use Rattle.std.specs.List.{flat_map}
use Rattle.pr_probe.specs.DescriptorLines.{descriptor_line}
use Rattle.pr_probe.proofs.descriptor_lines.push_lines.Given as goal

abbrev pub invariant-loop-line : goal.invariant-loop-line
invariant-loop-line l = l.text ≡ l.fn.text ++ flat_map descriptor_line (take l.line-index l.lines)
