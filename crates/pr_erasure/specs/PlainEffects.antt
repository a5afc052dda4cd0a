use Rattle.std.specs.Prelude.{◌≢◌}
use Rattle.pr_num.specs.declared.faults.Flt.TheVariants.{Trace}
use Rattle.pr_model.specs.InstructionEffects.{InstructionEffect, runs, calls, faults, runs_into_watch}

-- an effect of an instruction that is no FLTTRACE, and no FLTWATCH after it
abbrev pub IsPlain : InstructionEffect → Type 0
IsPlain (runs regs store) = Unit {0}
IsPlain (calls call regs) = Unit {0}
IsPlain (faults f address) = f ≢ Trace
IsPlain (runs_into_watch address regs store) = ⊥
