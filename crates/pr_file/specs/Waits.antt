use Rattle.std.specs.Prelude.{Bool, true, false, Result, Err}
use Rattle.pr_parts.specs.declared.files.FileNo.{FileNo}
use Rattle.pr_parts.specs.declared.files.FileNo.TheVariants.{Sleep}

-- whether a call on files that answers so has to wait
abbrev pub waits : {A : Type 0} → Result A FileNo → Bool
waits (Err Sleep) = true
waits _ = false
