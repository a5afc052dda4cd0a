use Rattle.std.proofs.Common.{◌≡◌, Bool, false, List, [], ap, cond}
use Rattle.pr_core.specs.CoreText as core
use Rattle.pr_core.specs.Gcores.{GcoreState}
use Rattle.pr_core.specs.Gcores as gcore
use Rattle.pr_num.specs.Programs.{Program}
use Rattle.pr_probe.specs.ProbeText as apfiles
use Rattle.pr_probe.specs.Probes.{ProbeState}
use Rattle.pr_probe.specs.Probes as probe
use Rattle.pr_tools.specs.Tools.{ToolState}
use Rattle.pr_tools.specs.Tools as tool

-- What tools, gcore and apfiles print while they have not finished: nothing.

pub tool-silent : (t : ToolState) (programs : List Program) → tool.has_ended t ≡ false → tool.printed t programs ≡ []
unfolding tool.printed
tool-silent t programs unfinished = ap (λ (b : Bool). cond b (tool.report t programs t.refusal) []) unfinished

pub gcore-silent : (g : GcoreState) → gcore.has_ended g ≡ false → core.printed g ≡ []
unfolding core.printed
gcore-silent g unfinished = ap (λ (b : Bool). cond b (core.report g g.refusal) []) unfinished

pub probe-silent : (p : ProbeState) → probe.has_ended p ≡ false → apfiles.printed p ≡ []
unfolding apfiles.printed
probe-silent p unfinished = ap (λ (b : Bool). cond b (apfiles.report p p.refusal) []) unfinished
