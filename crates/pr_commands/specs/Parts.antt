use Rattle.std.specs.Prelude.{◌≡◌, ℕ, Result, Ok, Err}
use Rattle.pr_scen.specs.Refusals.{ScenFault}
use Rattle.pr_commands.specs.declared.wrongs.Misread.{Misread}
use Rattle.pr_commands.specs.declared.wrongs.Misread.TheVariants as misread
use Rattle.pr_commands.specs.declared.wrongs.Wrong.{Wrong}
use Rattle.pr_commands.specs.declared.wrongs.Wrong.TheVariants as wrong

-- What is read of inputs in two parts, with a line between them that is a mark.

-- Both parts are read, or the first line is refused: lines count on from the upper part to the lower.
abbrev pub both_read : {X Y : Type 0} → (ℕ → Wrong) → Result X ScenFault → Result Y ℕ → Result (X × Y) Wrong
both_read wrong_line (Err fault) lower = Err (wrong.Scenario fault)
both_read wrong_line (Ok x) (Err line) = Err (wrong_line line)
both_read wrong_line (Ok x) (Ok y) = Ok (x, y)

-- ---- what a function that reads answers

-- What reading gives, unless memory ran out. Each part is read on its own.
abbrev pub Fails : {Y : Type 0} → Misread → Result Y Wrong → Type 0
Fails misread.NoMemory read = Unit {0}
Fails (misread.Wrong w) read = read ≡ Err w

abbrev pub Gives : {X Y : Type 0} → (X → Y) → Result X Misread → Result Y Wrong → Type 0
Gives view (Ok x) read = read ≡ Ok (view x)
Gives view (Err e) read = Fails e read

-- what was read, with a refusal as the input's
abbrev pub refused_as : {X E : Type 0} → (E → Wrong) → Result X E → Result X Wrong
refused_as wrong_of (Ok x) = Ok x
refused_as wrong_of (Err e) = Err (wrong_of e)

abbrev pub ReadsLines : {X Y : Type 0} → (X → Y) → Result X Misread → Result Y ScenFault → Type 0
ReadsLines view result read = Gives view result (refused_as wrong.Scenario read)
