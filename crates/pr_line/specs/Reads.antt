-- What the public reader of options gives.
use Rattle.std.specs.Prelude.{◌≡◌, Result, Ok, Err}
use Rattle.pr_line.specs.declared.faults.OptFault.{OptFault}
use Rattle.pr_line.specs.declared.faults.OptFault.TheVariants as answer
use Rattle.pr_line.specs.declared.faults.WordFault.{WordFault}
use Rattle.pr_line.specs.declared.faults.WordFault.TheVariants.{BadOption, BadName}
use Rattle.pr_line.specs.declared.options.Options.{Options}

abbrev pub Faults : OptFault → Result Options WordFault → Type 0
Faults answer.NoMemory read = Unit {0}
Faults (answer.BadOption word) read = read ≡ Err (BadOption word)
Faults (answer.BadName word) read = read ≡ Err (BadName word)

-- it is what reading gives, unless memory ran out
abbrev pub Reads : Result Options OptFault → Result Options WordFault → Type 0
Reads (Ok options) read = read ≡ Ok options
Reads (Err e) read = Faults e read
