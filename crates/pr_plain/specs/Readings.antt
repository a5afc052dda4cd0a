-- What functions that read answer, compared with what reading gives.
use Rattle.std.specs.Prelude.{◌≡◌, ℕ, Option, Some, None, Result, Ok, Err}
use Rattle.pr_plain.specs.declared.refusals.HistRefusal.{HistRefusal}
use Rattle.pr_plain.specs.declared.refusals.HistRefusal.TheVariants as answer
use Rattle.pr_plain.specs.declared.refusals.Refused.{Refused}
use Rattle.pr_plain.specs.declared.refusals.Refused.TheVariants as refused

-- what follows a step of reading that may find nothing
infixl 10 ◌>>=◌
abbrev pub ◌>>=◌ : {A B : Type 0} → Option A → (A → Option B) → Option B
(Some x) >>= f = f x
None >>= f = None

-- a reader that takes no memory: it found what reading gives
abbrev pub Says : {X Y : Type 0} → (X → Y) → Option X → Option Y → Type 0
Says view (Some x) read = read ≡ Some (view x)
Says view None read = read ≡ None

-- a reader that takes memory: the same, unless memory ran out
abbrev pub Fails : {Y : Type 0} → Refused → Option Y → Type 0
Fails (refused.NoMemory error) read = Unit {0}
Fails refused.Malformed read = read ≡ None

abbrev pub Gives : {X Y : Type 0} → (X → Y) → Result X Refused → Option Y → Type 0
Gives view (Ok x) read = read ≡ Some (view x)
Gives view (Err e) read = Fails e read

-- a reader of several lines: what reading gives, or the first line that is wrong, unless memory ran out
abbrev pub Stops : {Y : Type 0} → HistRefusal → Result Y ℕ → Type 0
Stops answer.NoMemory read = Unit {0}
Stops (answer.Line line) read = read ≡ Err line

abbrev pub Answers : {X Y : Type 0} → (X → Y) → Result X HistRefusal → Result Y ℕ → Type 0
Answers view (Ok x) read = read ≡ Ok (view x)
Answers view (Err e) read = Stops e read

-- an answer of one line, with the line's number where it is refused
abbrev pub LineGave : {X : Type 0} → ℕ → Result X Refused → Result X HistRefusal → Type 0
LineGave line (Ok x) result = result ≡ Ok x
LineGave line (Err (refused.NoMemory error)) result = result ≡ Err answer.NoMemory
LineGave line (Err refused.Malformed) result = result ≡ Err (answer.Line line)
