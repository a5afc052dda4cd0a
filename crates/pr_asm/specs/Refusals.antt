-- Why a program was not read.
use Rattle.pr_text.specs.declared.refusals.LineFault.{LineFault}
use Rattle.pr_text.specs.declared.refusals.LineRefusal.{LineRefusal}
use Rattle.pr_asm.specs.declared.refusals.AsmKind.{AsmKind}

-- the first line that is refused, and why
abbrev pub AsmFault : Type 0
AsmFault = LineFault AsmKind

abbrev pub AsmRefusal : Type 0
AsmRefusal = LineRefusal AsmKind
