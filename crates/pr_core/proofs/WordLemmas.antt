-- Words and sections, read where they stand.
use Rattle.std.proofs.Common.{◌≡◌, ◌+◌, ◌<◌, ◌≤◌, ◌^◌, ℕ, Bool, true, false, cond, List, ◌++◌, length, All, Result, Ok, Err, refl, sym, ap, subst, ◌∙◌, arith, ltb, ltb-false, le-ltb, length-append}
use Rattle.std.proofs.lemmas.Bool.{eqb-true, eq-eqb}
use Rattle.pr_num.specs.Records.{Range}
use Rattle.pr_num.specs.Words.{IsByte, word_bytes}
use Rattle.pr_codec.proofs.WordLemmas.{length-word_bytes}
use Rattle.pr_codec.specs.Words.{word_at}
use Rattle.pr_text.specs.Steps.{◌>>=◌}
use Rattle.pr_core.proofs.StandLemmas.{StandsAt, word-stands, stands-word, first_of, second_of, both_of}
use Rattle.pr_core.proofs.StepLemmas.{gave}
use Rattle.pr_core.specs.CoreBytes.{section}
use Rattle.pr_core.specs.CoreReading.{word_read, word_in, in_range, exactly, section_size}
use Rattle.pr_core.specs.declared.faults.CoreFault.{CoreFault}
use Rattle.pr_core.specs.declared.faults.CoreFault.TheVariants.{Short, Bad}

-- ---- words

pub word_read-inside : (bytes : List ℕ) (at : ℕ) → at + 8 ≤ length bytes → word_read bytes at ≡ Ok (word_at bytes at)
unfolding word_read
word_read-inside bytes at inside = rw (le-ltb (length bytes) (at + 8) inside)

-- a word that stands there and may
pub word_in-stands : (fits : Range) (bytes : List ℕ) (at w : ℕ) → StandsAt bytes at (word_bytes w) → w < 2 ^ 64
    → fits w ≡ true → word_in fits bytes at ≡ Ok w
unfolding word_in
word_in-stands fits bytes at w stands small may =
    let inside : at + 8 ≤ length bytes = omega (arith, stands.within, length-word_bytes w) in
    ap (λ (r : Result ℕ CoreFault). r >>= in_range fits at)
    (word_read-inside bytes at inside ∙ ap Ok (word-stands bytes at w stands small))
    ∙ ap (λ (b : Bool). cond b (Ok w) (Err (Bad at))) may

-- what was read is a word that stands there and may
pub record IsThere (fits : Range) (bytes : List ℕ) (at w : ℕ) : Type 0 where
  pub inside : at + 8 ≤ length bytes
  pub stands : All IsByte bytes → StandsAt bytes at (word_bytes w)
  pub may : fits w ≡ true

pub stands-word_in : (fits : Range) (bytes : List ℕ) (at w : ℕ) → word_in fits bytes at ≡ Ok w → IsThere fits bytes at w
unfolding word_in word_read
stands-word_in fits bytes at w read = by_length (ltb (length bytes) (at + 8)) refl read
  where
    by_fit : at + 8 ≤ length bytes → (b : Bool) → fits (word_at bytes at) ≡ b
        → cond b (Ok (word_at bytes at)) (Err (Bad at)) ≡ Ok w → IsThere fits bytes at w
    by_fit inside true may is =
        let same : word_at bytes at ≡ w = cc in
        record {
          inside = inside;
          stands = λ small. subst (λ (v : ℕ). StandsAt bytes at (word_bytes v)) same
              (stands-word bytes at small inside);
          may = ap fits (sym same) ∙ may;
        }
    by_fit inside false may is = absurd cc

    by_length : (b : Bool) → ltb (length bytes) (at + 8) ≡ b
        → cond b (Err (Short at)) (Ok (word_at bytes at)) >>= in_range fits at ≡ Ok w → IsThere fits bytes at w
    by_length true few is = absurd cc
    by_length false few is = by_fit (ltb-false _ _ few) (fits (word_at bytes at)) refl is

-- ---- sections

pub length-section : (kind : ℕ) (part : List ℕ) → length (section kind part) ≡ 16 + length part
unfolding section
length-section kind part =
    omega (
      arith,
      length-append (word_bytes kind ++ word_bytes (length part)) part,
      length-append (word_bytes kind)
          (word_bytes (length part)),
      length-word_bytes kind,
      length-word_bytes (length part),
    )

module _ (kind : ℕ) (part bytes : List ℕ) (at : ℕ) where
  -- where a section stands, so do its words and its bytes
  pub record IsSectionAt : Type 0 where
    pub kind_there : StandsAt bytes at (word_bytes kind)
    pub size_there : StandsAt bytes (at + 8) (word_bytes (length part))
    pub part_there : StandsAt bytes (at + 16) part

  pub section-parts : StandsAt bytes at (section kind part) → IsSectionAt
  unfolding section
  section-parts stands =
      let heading = first_of bytes (word_bytes kind ++ word_bytes (length part)) part at stands in
      let size : at + length (word_bytes kind) ≡ at + 8 = ap (λ (n : ℕ). at + n) (length-word_bytes kind) in
      let begin : at + length (word_bytes kind ++ word_bytes (length part)) ≡ at + 16 =
      omega (
        arith,
        length-append (word_bytes kind) (word_bytes (length part)),
        length-word_bytes kind,
        length-word_bytes (length part),
      ) in
      record {
        kind_there = first_of bytes (word_bytes kind) (word_bytes (length part)) at heading;
        size_there = subst (λ (n : ℕ). StandsAt bytes n (word_bytes (length part))) size
            (second_of bytes (word_bytes kind) (word_bytes (length part)) at heading);
        part_there = subst (λ (n : ℕ). StandsAt bytes n part) begin
            (second_of bytes (word_bytes kind ++ word_bytes (length part)) part at stands);
      }

  pub parts-section : IsSectionAt → StandsAt bytes at (section kind part)
  unfolding section
  parts-section there =
      let size : at + 8 ≡ at + length (word_bytes kind) = ap (λ (n : ℕ). at + n) (sym (length-word_bytes kind)) in
      let begin : at + 16 ≡ at + length (word_bytes kind ++ word_bytes (length part)) =
      omega (
        arith,
        length-append (word_bytes kind) (word_bytes (length part)),
        length-word_bytes kind,
        length-word_bytes (length part),
      ) in
      let heading = both_of bytes (word_bytes kind) (word_bytes (length part)) at there.kind_there
      (subst (λ (n : ℕ). StandsAt bytes n (word_bytes (length part))) size there.size_there) in
      both_of bytes (word_bytes kind ++ word_bytes (length part)) part at heading
      (subst (λ (n : ℕ). StandsAt bytes n part) begin there.part_there)

-- a section that stands there, and has a size that it may have
pub section_size-stands : (kind : ℕ) (sizes : Range) (part bytes : List ℕ) (at : ℕ)
    → StandsAt bytes at (section kind part) → kind < 2 ^ 64 → length part < 2 ^ 64 → sizes (length part) ≡ true
    → section_size kind sizes bytes at ≡ Ok (length part)
unfolding section_size
section_size-stands kind sizes part bytes at stands small few may =
    let there = section-parts kind part bytes at stands in
    let kind_is = word_in-stands (exactly kind) bytes at kind there.kind_there small (eq-eqb kind kind refl) in
    let size_is = word_in-stands sizes bytes (at + 8) (length part) there.size_there few may in
    let inside : ltb (length bytes) (at + 16 + length part) ≡ false =
    le-ltb (length bytes) (at + 16 + length part) (omega (arith, there.part_there.within)) in
    rw (kind_is, size_is, inside)

-- what was read is the size of a section that stands there
pub record HasSize (kind : ℕ) (sizes : Range) (bytes : List ℕ) (at size : ℕ) : Type 0 where
  pub inside : at + 16 + size ≤ length bytes
  pub may : sizes size ≡ true
  pub stands : (part : List ℕ) → All IsByte bytes → length part ≡ size → StandsAt bytes (at + 16) part
      → StandsAt bytes at (section kind part)

pub stands-section_size : (kind : ℕ) (sizes : Range) (bytes : List ℕ) (at size : ℕ)
    → section_size kind sizes bytes at ≡ Ok size → HasSize kind sizes bytes at size
unfolding section_size
stands-section_size kind sizes bytes at size read =
    let one = gave _ _ size read in
    let two = gave _ _ size one.rest_is in
    let kind_is = stands-word_in (exactly kind) bytes at one.first one.step_is in
    let size_is = stands-word_in sizes bytes (at + 8) two.first two.step_is in
    by_length kind_is size_is (ltb (length bytes) (at + 16 + two.first)) refl two.rest_is
  where
    by_length : {k s : ℕ} → IsThere (exactly kind) bytes at k → IsThere sizes bytes (at + 8) s → (b : Bool)
        → ltb (length bytes) (at + 16 + s) ≡ b → cond b (Err (Short (at + 16))) (Ok s) ≡ Ok size
        → HasSize kind sizes bytes at size
    by_length kind_is size_is true few is = absurd cc
    by_length {k} {s} kind_is size_is false few is =
        let same : s ≡ size = cc in
        let known : k ≡ kind = eqb-true k kind kind_is.may in
        record {
          inside = omega (arith, ltb-false _ _ few);
          may = ap sizes (sym same) ∙ size_is.may;
          stands = λ part small long there. parts-section kind part bytes at (record {
            kind_there = subst (λ (w : ℕ). StandsAt bytes at (word_bytes w)) known (kind_is.stands small);
            size_there =
                subst (λ (w : ℕ). StandsAt bytes (at + 8) (word_bytes w)) (same ∙ sym long) (size_is.stands small);
            part_there = there;
          });
        }
