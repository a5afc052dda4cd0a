-- Why a scenario was not read.
use Rattle.pr_text.specs.declared.refusals.LineFault.{LineFault}
use Rattle.pr_text.specs.declared.refusals.LineRefusal.{LineRefusal}
use Rattle.pr_scen.specs.declared.refusals.ScenKind.{ScenKind}

-- the first line that is refused, and why
abbrev pub ScenFault : Type 0
ScenFault = LineFault ScenKind

abbrev pub ScenRefusal : Type 0
ScenRefusal = LineRefusal ScenKind
