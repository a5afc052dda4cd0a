-- Programs line by line.
use Rattle.std.proofs.Common.{◌≡◌, ℕ, ◌+◌, ◌<◌, ◌≤◌, List, [], ◌∷◌, ◌==◌, length, drop, get_or, map, Result, Ok, Err, sym, ◌∙◌, ap, arith}
use Rattle.std.proofs.lemmas.List.{drop_all, drop_more, length-map}
use Rattle.std.proofs.lemmas.List.Splits.{length-slice_split}
use Rattle.std.proofs.lemmas.List.Sums.{count_by-le-length}
use Rattle.pr_num.specs.Programs.{Program}
use Rattle.pr_asm.specs.declared.places.Place.{Place}
use Rattle.pr_asm.specs.declared.places.Places.{Places}
use Rattle.pr_asm.specs.Refusals.{AsmFault, AsmRefusal}
use Rattle.pr_asm.specs.declared.refusals.AsmKind.{AsmKind}
use Rattle.pr_text.specs.declared.refusals.LineRefusal.TheVariants.{Fault, NoMemory}
use Rattle.pr_asm.specs.declared.statements.Statement.{Statement}
use Rattle.pr_text.specs.Reads.{Stops}
use Rattle.pr_asm.specs.Statements.{statement_of}
use Rattle.std.proofs.Common.{Option}
use Rattle.pr_asm.specs.Assembly.{read_added, numbered, with_lines, assembled}
use Rattle.pr_text.specs.TextLines.{lines_of}
use Rattle.pr_asm.specs.Limits.{program}
use Rattle.pr_text.specs.Steps.{◌>>=◌}
use Rattle.pr_asm.specs.Placing.{found, place_in}

pub lines-start : (places : Places) (name : List ℕ) (first n : ℕ) (reads : List (Result Statement AsmKind)) → n ≡ first
    → ((q : List ℕ) → found places q ≡ place_in first reads q)
    → with_lines (found places) n (program name [] [] []) reads ≡ assembled name first reads
unfolding assembled
lines-start places name first n reads e same =
    ap (λ m. with_lines (found places) m (program name [] [] []) reads) e
    ∙ ap (λ f. with_lines f first (program name [] [] []) reads) (λ i q. same q i)

-- so many lines that are read
pub few_read : {L : Type 0} (lines : List L) (now : L → List ℕ) (reads : List (Result Statement AsmKind))
    → reads ≡ map statement_of (map now lines) → length reads ≡ length lines
few_read lines now reads e = ap length e ∙ length-map (map now lines) statement_of ∙ length-map lines now

-- what stops on a line stops the whole
pub stops_whole : (e : AsmRefusal) (read whole : Result Program AsmFault) → Stops e read
    → ((fault : AsmFault) → read ≡ Err fault → whole ≡ Err fault) → Stops e whole
stops_whole NoMemory read whole stopped on = tt
stops_whole (Fault fault) read whole stopped on = on fault stopped
