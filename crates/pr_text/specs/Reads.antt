-- What a reader that takes memory gives, of one line or of several, for any kind of refusal.
use Rattle.std.specs.Prelude.{◌≡◌, ℕ, Result, Ok, Err}
use Rattle.pr_text.specs.declared.refusals.LineFault.{LineFault}
use Rattle.pr_text.specs.declared.refusals.LineRefusal.{LineRefusal}
use Rattle.pr_text.specs.declared.refusals.LineRefusal.TheVariants as answer
use Rattle.pr_text.specs.declared.refusals.Refused.{Refused}
use Rattle.pr_text.specs.declared.refusals.Refused.TheVariants as refused

-- ---- one line

-- what it answered is what reading gives, unless memory ran out
abbrev pub Fails : {Y K : Type 0} → Refused K → Result Y K → Type 0
Fails (refused.NoMemory error) read = Unit {0}
Fails (refused.Kind kind) read = read ≡ Err kind

abbrev pub Gives : {X Y K : Type 0} → (X → Y) → Result X (Refused K) → Result Y K → Type 0
Gives view (Ok x) read = read ≡ Ok (view x)
Gives view (Err e) read = Fails e read

-- ---- several lines

-- what it answered is what reading gives, unless memory ran out
abbrev pub Stops : {Y K : Type 0} → LineRefusal K → Result Y (LineFault K) → Type 0
Stops answer.NoMemory read = Unit {0}
Stops (answer.Fault fault) read = read ≡ Err fault

abbrev pub Answers : {X Y K : Type 0} → (X → Y) → Result X (LineRefusal K) → Result Y (LineFault K) → Type 0
Answers view (Ok x) read = read ≡ Ok (view x)
Answers view (Err e) read = Stops e read

-- what was read of one line, with the line's number where it is refused
abbrev pub LineGave : {X K : Type 0} → ℕ → Result X (Refused K) → Result X (LineRefusal K) → Type 0
LineGave line (Ok x) result = result ≡ Ok x
LineGave line (Err (refused.NoMemory error)) result = result ≡ Err answer.NoMemory
LineGave line (Err (refused.Kind kind)) result = result ≡ Err (answer.Fault (record { line = line; kind = kind }))
