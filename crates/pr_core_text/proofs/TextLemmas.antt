-- The lines of the text of a core.
use Rattle.std.proofs.Common.{◌≡◌, ◌<◌, ◌+◌, ◌-◌, ◌++◌, ℕ, List, [], ◌∷◌, Bor, Option, Some, Result, Ok, Err, cond, drop, false, length, map, nat_lt, refl, sym, ap, ◌∙◌, arith}
use Rattle.std.specs.List.{slice_get}
use Rattle.std.proofs.lemmas.Bool.{ne_eqb}
use Rattle.std.proofs.lemmas.List.{length-drop, nil_from_length}
use borrow.Author.Tests.{ltb-false}
use Rattle.pr_num.proofs.ListLemmas.{drop-at}
use Rattle.pr_text.specs.Steps.{◌>>=◌}
use Rattle.pr_core_text.specs.CoreTexts.{Bytes, Stops, bytes_after, bytes_on, on_line, or_line}
use Rattle.pr_core_text.specs.declared.refusals.CoreTextRefusal.{CoreTextRefusal}
use Rattle.pr_core_text.specs.declared.refusals.CoreTextRefusal.TheVariants as refusal

abbrev pub bytes_of : Bor (List ℕ) → List ℕ
bytes_of line = line.now

-- what the next line makes of the bytes so far, where some are left
next : List ℕ → ℕ → ℕ → List (List ℕ) → Option (List ℕ) → Result Bytes ℕ
next done line left below told =
    or_line line told >>= (λ more. bytes_after (done ++ more) (line + 1) (left - on_line left) below)

by_line : (done : List ℕ) (line left : ℕ) (this : List ℕ) (below : List (List ℕ)) → 0 < left
    → bytes_after done line left (this ∷ below) ≡ next done line left below (bytes_on (on_line left) this)
unfolding bytes_after next
by_line done line left this below some =
    ap (λ b.
    cond b (Ok (record { bytes = done; behind = line }))
    (or_line line (bytes_on (on_line left) this)
    >>= (λ more. bytes_after (done ++ more) (line + 1) (left - on_line left) below)))
    (ne_eqb left 0 (λ e. absurd (omega (arith, e, some))))

-- lines as they are kept
abbrev Lines : Type 0
Lines = List (Bor (List ℕ))

-- no line is left from a place on that is past them
pub past_lines : (lines : Lines) (place : ℕ) → false ≡ nat_lt place (length lines) → drop place lines ≡ []
past_lines lines place past =
    nil_from_length (drop place lines)
    (omega (arith, length-drop place lines, ltb-false place (length lines) (sym past)))

-- the lines from a place on, with the line there
from_place : (lines : Lines) (place : ℕ) (this : Bor (List ℕ)) → slice_get lines place ≡ Some this
    → map bytes_of (drop place lines) ≡ this.now ∷ map bytes_of (drop (place + 1) lines)
from_place lines place this at = ap (map bytes_of) (drop-at lines place this at)

module _ (done : List ℕ) (line left place : ℕ) (lines : Lines) (whole : Result Bytes ℕ) (some : 0 < left)
    (kept : bytes_after done line left (map bytes_of (drop place lines)) ≡ whole) where
  module _ (this : Bor (List ℕ)) (at : slice_get lines place ≡ Some this) where
    this_line : next done line left (map bytes_of (drop (place + 1) lines)) (bytes_on (on_line left) this.now) ≡ whole
    this_line =
        sym (by_line done line left this.now (map bytes_of (drop (place + 1) lines)) some)
        ∙ ap (bytes_after done line left) (sym (from_place lines place this at)) ∙ kept

    -- it tells its bytes
    pub told : (more : List ℕ) (n : ℕ) → n ≡ on_line left → or_line line (bytes_on n this.now) ≡ Ok more
        → bytes_after (done ++ more) (line + 1) (left - n) (map bytes_of (drop (place + 1) lines)) ≡ whole
    unfolding next
    told more n is read =
        ap (λ m. bytes_after (done ++ more) (line + 1) (left - m) (map bytes_of (drop (place + 1) lines))) is
        ∙ ap (λ r. r
        >>= (λ m. bytes_after (done ++ m) (line + 1) (left - on_line left) (map bytes_of (drop (place + 1) lines))))
        (sym read ∙ ap (λ m. or_line line (bytes_on m this.now)) is)
        ∙ this_line

    -- it is damaged, or memory ran out at it
    pub damaged : (e : CoreTextRefusal) (n : ℕ) → n ≡ on_line left → Stops e (or_line line (bytes_on n this.now))
        → Stops e whole
    unfolding next
    damaged refusal.NoMemory n is stopped = tt
    damaged (refusal.Line fault) n is stopped =
        sym this_line
        ∙ ap (λ r. r
        >>= (λ m. bytes_after (done ++ m) (line + 1) (left - on_line left) (map bytes_of (drop (place + 1) lines))))
        (ap (λ m. or_line line (bytes_on m this.now)) (sym is) ∙ stopped)

  -- the lines end too early
  pub no_line : drop place lines ≡ [] → whole ≡ Err line
  unfolding bytes_after
  no_line none =
      sym kept ∙ ap (λ xs. bytes_after done line left (map bytes_of xs)) none
      ∙ ap (λ b. cond b (Ok (record { bytes = done; behind = line })) (Err line))
      (ne_eqb left 0 (λ e. absurd (omega (arith, e, some))))

-- all bytes were told
pub all : (done : List ℕ) (line : ℕ) (lines : List (List ℕ))
    → bytes_after done line 0 lines ≡ Ok (record { bytes = done; behind = line })
unfolding bytes_after
all done line [] = refl
all done line (this ∷ below) = refl

pub whole_told : (done : List ℕ) (line left : ℕ) (lines : List (List ℕ)) (whole : Result Bytes ℕ) → left ≡ 0
    → bytes_after done line left lines ≡ whole → whole ≡ Ok (record { bytes = done; behind = line })
whole_told done line left lines whole none kept =
    sym kept ∙ ap (λ n. bytes_after done line n lines) none ∙ all done line lines
