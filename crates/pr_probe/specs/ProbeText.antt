-- What apfiles prints: a line for each descriptor that is open, or the line of its refusal.
use Rattle.std.specs.Prelude.{ℕ, List, [], Option, Some, None, codes, if◌then◌else◌}
use Rattle.pr_num.specs.declared.errnos.Errno.{Errno}
use Rattle.pr_tools.specs.Refusals.{refusal_line}
use Rattle.pr_probe.specs.DescriptorLines.{apfiles_text}
use Rattle.pr_probe.specs.Probes.{ProbeState, has_ended}

-- the text of the process, or the line of the refusal
abbrev pub report : ProbeState → Option Errno → List ℕ
report s None = apfiles_text s.pid s.lines
report s (Some e) = refusal_line (codes "apfiles") s.pid e

-- what apfiles prints: nothing until it has finished
unfoldable pub printed : ProbeState → List ℕ
printed s = if has_ended s then report s s.refusal else []
