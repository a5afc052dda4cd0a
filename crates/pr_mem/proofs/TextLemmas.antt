-- How a text is read, a run of bytes at a time.
use Rattle.std.proofs.Common.{◌≡◌, ℕ, zero, suc, ◌+◌, ◌-◌, ◌^◌, ◌%◌, ◌<◌, ◌≤◌, true, false, cond, not, Option, Some, None, Result, Ok, Err, List, [], ◌∷◌, ◌++◌, length, drop, refl, sym, ◌∙◌, ap, arith, subst}
use Rattle.std.specs.List.{position_or_len}
use Rattle.pr_num.specs.Control.{prot_read}
use Rattle.pr_num.specs.Spaces.{Space, byte_for, bytes_for, one_more}
use Rattle.pr_num.specs.declared.mappings.BadByte.{BadByte}
use Rattle.pr_parts.specs.AddressSpaces.{text_at, text_behind, text_with}
use Rattle.pr_mem.specs.Answers.{IsRun, length_read, with_text}
use Rattle.pr_num.proofs.NumberLemmas.{unwrapped, wrapped-step}
use Rattle.pr_num.specs.Padding.{is_zero}

-- a length that is so much more
abbrev pub more_read : ℕ → Result (Option ℕ) BadByte → Result (Option ℕ) BadByte
more_read n (Err bad) = Err bad
more_read n (Ok None) = Ok None
more_read n (Ok (Some len)) = Ok (Some (n + len))

-- ---- bytes that were read, one by one

record Begins (first : Result ℕ BadByte) (rest : Result (List ℕ) BadByte) (b : ℕ) (bytes : List ℕ) : Type 0 where
  pub here : first ≡ Ok b
  pub behind : rest ≡ Ok bytes

begins : (first : Result ℕ BadByte) (rest : Result (List ℕ) BadByte) (b : ℕ) (bytes : List ℕ)
    → one_more first rest ≡ Ok (b ∷ bytes) → Begins first rest b bytes
begins (Err bad) rest b bytes e = absurd (cc)
begins (Ok x) (Err bad) b bytes e = absurd (cc)
begins (Ok x) (Ok xs) b bytes e = record { here = (cc); behind = (cc) }

nothing_more : (r : Result (Option ℕ) BadByte) → more_read 0 r ≡ r
nothing_more (Err bad) = refl
nothing_more (Ok None) = refl
nothing_more (Ok (Some len)) = let same : 0 + len ≡ len = omega arith in ap (λ n. Ok (Some n)) same

more_more : (n : ℕ) (r : Result (Option ℕ) BadByte) → more_read 1 (more_read n r) ≡ more_read (suc n) r
more_more n (Err bad) = refl
more_more n (Ok None) = refl
more_more n (Ok (Some len)) = let same : 1 + (n + len) ≡ suc n + len = omega arith in ap (λ m. Ok (Some m)) same

one_longer : (b : ℕ) (t : Result (Option (List ℕ)) BadByte)
    → length_read (text_behind b t) ≡ more_read 1 (length_read t)
one_longer b (Err bad) = refl
one_longer b (Ok None) = refl
one_longer b (Ok (Some text)) = let same : suc (length text) ≡ 1 + length text = omega arith in
    ap (λ n. Ok (Some n)) same

-- a byte that is no zero, before a text
text_at-more : (space : Space) (a n b : ℕ) → byte_for prot_read space a ≡ Ok b → is_zero b ≡ false
    → length_read (text_at space a (suc n)) ≡ more_read 1 (length_read (text_at space ((a + 1) % 2 ^ 64) n))
unfolding text_at
text_at-more space a n b here some = rw (here, some) (one_longer b (text_at space ((a + 1) % 2 ^ 64) n))

text_at-end : (space : Space) (a n b : ℕ) → byte_for prot_read space a ≡ Ok b → is_zero b ≡ true
    → length_read (text_at space a (suc n)) ≡ Ok (Some 0)
unfolding text_at
text_at-end space a n b here some = rw (here, some) refl

-- ---- a run

-- a run without a zero, before a text
pub text_at-run : (space : Space) (run : List ℕ) (a n : ℕ) → a < 2 ^ 64
    → bytes_for prot_read space a (length run) ≡ Ok run → position_or_len is_zero run ≡ length run
    → length_read (text_at space a (length run + n))
    ≡ more_read (length run) (length_read (text_at space ((a + length run) % 2 ^ 64) n))
unfolding bytes_for
text_at-run space [] a n range bytes none =
    let start : (a + 0) % 2 ^ 64 ≡ a = omega arith in
    let size : 0 + n ≡ n = omega arith in
    rw (start, size) (sym (nothing_more (length_read (text_at space a n))))
text_at-run space (b ∷ run) a n range bytes none =
    let parts =
    begins (byte_for prot_read space a) (bytes_for prot_read space ((a + 1) % 2 ^ 64) (length run)) b run bytes in
    let size : suc (length run) + n ≡ suc (length run + n) = omega arith in
    elim (is_zero b)
    as (λ t. is_zero b ≡ t → cond (not t) (1 + position_or_len is_zero run) 0 ≡ suc (length run)
    → length_read (text_at space a (suc (length run) + n))
    ≡ more_read (suc (length run)) (length_read (text_at space ((a + suc (length run)) % 2 ^ 64) n))) [
      | true ↦ λ t e. absurd (omega arith)
      | false ↦ λ f e.
          rw size (text_at-more space a (length run + n) b parts.here f
          ∙ ap (more_read 1) (text_at-run space run ((a + 1) % 2 ^ 64) n (omega arith) parts.behind (omega arith))
          ∙ more_more (length run) (length_read (text_at space (((a + 1) % 2 ^ 64 + length run) % 2 ^ 64) n))
          ∙ ap (λ x. more_read (suc (length run)) (length_read (text_at space x n))) (wrapped-step a (length run)))
    ] refl
    none

-- a run with a zero
pub text_at-zero : (space : Space) (run : List ℕ) (a n : ℕ) → a < 2 ^ 64
    → bytes_for prot_read space a (length run) ≡ Ok run → position_or_len is_zero run < length run
    → length_read (text_at space a (length run + n)) ≡ Ok (Some (position_or_len is_zero run))
unfolding bytes_for
text_at-zero space [] a n range bytes found = absurd (omega arith)
text_at-zero space (b ∷ run) a n range bytes found =
    let parts =
    begins (byte_for prot_read space a) (bytes_for prot_read space ((a + 1) % 2 ^ 64) (length run)) b run bytes in
    let size : suc (length run) + n ≡ suc (length run + n) = omega arith in
    elim (is_zero b)
    as (λ t. is_zero b ≡ t → cond (not t) (1 + position_or_len is_zero run) 0 < suc (length run)
    → length_read (text_at space a (suc (length run) + n))
    ≡ Ok (Some (cond (not t) (1 + position_or_len is_zero run) 0))) [
      | true ↦ λ t e. rw size (text_at-end space a (length run + n) b parts.here t)
      | false ↦ λ f e.
          rw size (text_at-more space a (length run + n) b parts.here f
          ∙ ap (more_read 1) (text_at-zero space run ((a + 1) % 2 ^ 64) n (omega arith) parts.behind (omega arith)))
    ]
    refl found

-- the first byte cannot be read
pub text_at-fails : (space : Space) (a n : ℕ) (bad : BadByte) → byte_for prot_read space a ≡ Err bad → 0 < n
    → length_read (text_at space a n) ≡ Err bad
unfolding text_at
text_at-fails space a zero bad fails some = absurd (omega arith)
text_at-fails space a (suc n) bad fails some = rw fails refl

-- ---- the bytes of a text that was read

-- a text that is not over begins with its byte
record TextFollows (b : ℕ) (behind : Result (Option (List ℕ)) BadByte) (text : List ℕ) : Type 0 where
  pub more : List ℕ
  pub behind_is : behind ≡ Ok (Some more)
  pub text_is : text ≡ b ∷ more

follows : (b : ℕ) (behind : Result (Option (List ℕ)) BadByte) (text : List ℕ) → text_behind b behind ≡ Ok (Some text)
    → TextFollows b behind text
follows b (Err bad) text e = absurd (cc)
follows b (Ok None) text e = absurd (cc)
follows b (Ok (Some more)) text e = record { more = more; behind_is = refl; text_is = (cc) }

pub text_at-bytes : (space : Space) (a n : ℕ) (text : List ℕ) → text_at space a n ≡ Ok (Some text)
    → bytes_for prot_read space a (length text) ≡ Ok text
unfolding text_at bytes_for
text_at-bytes space a zero text e = absurd (cc)
text_at-bytes space a (suc n) text e =
    go (byte_for prot_read space a) (text_at space ((a + 1) % 2 ^ 64) n)
    (λ t. text_at-bytes space ((a + 1) % 2 ^ 64) n t) refl e
  where
    none : (x : Result (Option (List ℕ)) BadByte) (text : List ℕ) → x ≡ Ok (Some []) → x ≡ Ok (Some text)
        → bytes_for prot_read space a (length text) ≡ Ok text
    none x text old is = let same : [] ≡ text = (cc) in
        subst (λ (t : List ℕ). bytes_for prot_read space a (length t) ≡ Ok t) same refl

    some : (b : ℕ) (behind : Result (Option (List ℕ)) BadByte) (text : List ℕ)
        → ((t : List ℕ) → behind ≡ Ok (Some t) → bytes_for prot_read space ((a + 1) % 2 ^ 64) (length t) ≡ Ok t)
        → byte_for prot_read space a ≡ Ok b → text_behind b behind ≡ Ok (Some text)
        → bytes_for prot_read space a (length text) ≡ Ok text
    some b behind text rest here is =
        let parts = follows b behind text is in
        let more = rest parts.more parts.behind_is in
        subst (λ (t : List ℕ). bytes_for prot_read space a (length t) ≡ Ok t) (sym parts.text_is) (rw (here, more) refl)

    go : (first : Result ℕ BadByte) (behind : Result (Option (List ℕ)) BadByte)
        → ((t : List ℕ) → behind ≡ Ok (Some t) → bytes_for prot_read space ((a + 1) % 2 ^ 64) (length t) ≡ Ok t)
        → byte_for prot_read space a ≡ first → text_with first behind ≡ Ok (Some text)
        → bytes_for prot_read space a (length text) ≡ Ok text
    go (Err bad) behind rest here is = absurd (cc)
    go (Ok b) behind rest here is =
        elim (is_zero b)
        as (λ t. cond t (Ok (Some [])) (text_behind b behind) ≡ Ok (Some text)
        → bytes_for prot_read space a (length text) ≡ Ok text)
        [ true ↦ λ e. none (Ok (Some [])) text refl e | false ↦ λ e. some b behind text rest here e ] is

-- ---- the steps of the loop

-- the text from an address on is as far as it was read no more than bytes without a zero
pub record IsOpen (space : Space) (at most done : ℕ) : Type 0 where
  pub within : done ≤ most
  pub end : at + done < 2 ^ 64
  pub text : length_read (text_at space at most)
      ≡ more_read done (length_read (text_at space (at + done) (most - done)))

pub IsOpen-start : (space : Space) (at most : ℕ) → at < 2 ^ 64 → IsOpen space at most 0
IsOpen-start space at most range =
    let start : at + 0 ≡ at = omega arith in
    let all : most - 0 ≡ most = omega arith in
    record {
      within = omega arith;
      end = omega arith;
      text =
          rw (start, all) (sym (nothing_more (length_read (text_at space at most))));
    }

more_again : (m n : ℕ) (r : Result (Option ℕ) BadByte) → more_read m (more_read n r) ≡ more_read (m + n) r
more_again m n (Err bad) = refl
more_again m n (Ok None) = refl
more_again m n (Ok (Some len)) = let same : m + (n + len) ≡ m + n + len = omega arith in ap (λ x. Ok (Some x)) same

-- one run more
pub IsOpen-more : (space : Space) (at most done asked : ℕ) (run : List ℕ) → IsOpen space at most done
    → asked ≡ most - done → IsRun prot_read space (at + done) asked run → position_or_len is_zero run ≡ length run
    → IsOpen space at most (done + length run)
IsOpen-more space at most done asked run old size more none =
    let left : most - done ≡ length run + (most - (done + length run)) = omega (arith, old.within, more.within) in
    let next : at + done + length run ≡ at + (done + length run) = omega arith in
    let here = unwrapped (at + done + length run) more.end in
    let step = text_at-run space run (at + done) (most - (done + length run)) old.end more.bytes none in
    record {
      within = omega (arith, old.within, more.within);
      end = omega (arith, more.end);
      text = old.text ∙ ap (λ n. more_read done (length_read (text_at space (at + done) n))) left
          ∙ ap (more_read done) step
          ∙ more_again done (length run)
          (length_read (text_at space ((at + done + length run) % 2 ^ 64) (most - (done + length run))))
          ∙ ap (λ a. more_read (done + length run) (length_read (text_at space a (most - (done + length run)))))
          (here ∙ next);
    }

pub IsOpen-found : (space : Space) (at most done asked : ℕ) (run : List ℕ) (i : ℕ) → IsOpen space at most done
    → asked ≡ most - done → IsRun prot_read space (at + done) asked run → i ≡ position_or_len is_zero run
    → i < length run → length_read (text_at space at most) ≡ Ok (Some (done + i))
IsOpen-found space at most done asked run i old size more e found =
    let left : most - done ≡ length run + (most - (done + length run)) = omega (arith, old.within, more.within) in
    let step = text_at-zero space run (at + done) (most - (done + length run)) old.end more.bytes (omega arith) in
    old.text ∙ ap (λ n. more_read done (length_read (text_at space (at + done) n))) left ∙ ap (more_read done) step
    ∙ ap (λ n. Ok (Some (done + n))) (sym e)

pub IsOpen-fails : (space : Space) (at most done : ℕ) (bad : BadByte) → IsOpen space at most done → done < most
    → byte_for prot_read space (at + done) ≡ Err bad → length_read (text_at space at most) ≡ Err bad
IsOpen-fails space at most done bad old near fails =
    old.text ∙ ap (more_read done) (text_at-fails space (at + done) (most - done) bad fails (omega arith))

pub IsOpen-end : (space : Space) (at most done : ℕ) → IsOpen space at most done → most ≤ done
    → length_read (text_at space at most) ≡ Ok None
unfolding text_at
IsOpen-end space at most done old past =
    let nothing : most - done ≡ 0 = omega arith in
    old.text ∙ ap (λ n. more_read done (length_read (text_at space (at + done) n))) nothing

-- ---- a text of a known length

-- what a text is whose length was read
pub record IsText (space : Space) (at most len : ℕ) : Type 0 where
  pub text : List ℕ
  pub is : text_at space at most ≡ Ok (Some text)
  pub size : length text ≡ len
  pub bytes : bytes_for prot_read space at len ≡ Ok text
  pub within : len ≤ most

has_length : (space : Space) (at most len : ℕ) (read : Result (Option (List ℕ)) BadByte) → text_at space at most ≡ read
    → length_read read ≡ Ok (Some len)
    → (text : List ℕ) × ((text_at space at most ≡ Ok (Some text)) × (length text ≡ len))
has_length space at most len (Err bad) is e = absurd (cc)
has_length space at most len (Ok None) is e = absurd (cc)
has_length space at most len (Ok (Some text)) is e = (text, (is, cc))

-- no text is longer than what may be read
text_at-within : (space : Space) (a n : ℕ) (text : List ℕ) → text_at space a n ≡ Ok (Some text) → length text ≤ n
unfolding text_at
text_at-within space a zero text e = absurd (cc)
text_at-within space a (suc n) text e =
    go (byte_for prot_read space a) (text_at space ((a + 1) % 2 ^ 64) n)
    (λ t. text_at-within space ((a + 1) % 2 ^ 64) n t) e
  where
    none : (x : Result (Option (List ℕ)) BadByte) → x ≡ Ok (Some []) → x ≡ Ok (Some text) → length text ≤ suc n
    none x old is = let same : [] ≡ text = (cc) in omega (arith, ap length same)

    some : (b : ℕ) (behind : Result (Option (List ℕ)) BadByte) → ((t : List ℕ) → behind ≡ Ok (Some t) → length t ≤ n)
        → text_behind b behind ≡ Ok (Some text) → length text ≤ suc n
    some b behind rest is =
        let parts = follows b behind text is in
        omega (arith, rest parts.more parts.behind_is, ap length parts.text_is)

    go : (first : Result ℕ BadByte) (behind : Result (Option (List ℕ)) BadByte)
        → ((t : List ℕ) → behind ≡ Ok (Some t) → length t ≤ n) → text_with first behind ≡ Ok (Some text)
        → length text ≤ suc n
    go (Err bad) behind rest is = absurd (cc)
    go (Ok b) behind rest is =
        elim (is_zero b) as (λ t. cond t (Ok (Some [])) (text_behind b behind) ≡ Ok (Some text) → length text ≤ suc n)
        [ true ↦ λ e. none (Ok (Some [])) refl e | false ↦ λ e. some b behind rest e ] is

pub IsText-read : (space : Space) (at most len : ℕ) → length_read (text_at space at most) ≡ Ok (Some len)
    → IsText space at most len
IsText-read space at most len e =
    let found = has_length space at most len (text_at space at most) refl e in
    record {
      text = found.0;
      is = found.1.0;
      size = found.1.1;
      bytes = subst (λ (n : ℕ). bytes_for prot_read space at n ≡ Ok found.0) found.1.1
          (text_at-bytes space at most found.0 found.1.0);
      within = omega (arith, found.1.1, text_at-within space at most found.0 found.1.0);
    }

-- a buffer with the text in front
pub with_text-read : (space : Space) (at most len : ℕ) (out text : List ℕ) → IsText space at most len
    → bytes_for prot_read space at len ≡ Ok text → text ++ drop len out ≡ with_text (text_at space at most) out
with_text-read space at most len out text is e =
    let same : is.text ≡ text = same_ok (bytes_for prot_read space at len) is.text text is.bytes e in
    rw (is.is, is.size, same) refl
  where
    same_ok : (r : Result (List ℕ) BadByte) (xs ys : List ℕ) → r ≡ Ok xs → r ≡ Ok ys → xs ≡ ys
    same_ok r xs ys p q = cc
