use Rattle.std.proofs.Common.{◌≡◌, ◌+◌, ◌-◌, ◌<◌, ◌≤◌, ◌^◌, ◌%◌, ℕ, zero, suc, Bool, true, false, leb, ltb, ◌&&◌, Option, Some, None, Result, Ok, Err, List, [], ◌∷◌, length, cond, refl, sym, ◌∙◌, ap, inl, inr, arith}
use Rattle.std.specs.Option.{option_map}
use Rattle.std.specs.List.{find, slice_index}
use Rattle.std.proofs.lemmas.Bool.{cases_Bool, and_parts}
use Rattle.pr_num.specs.Control.{has_flags, prot_read}
use Rattle.pr_num.specs.Spaces.{Space, byte_for, bytes_for, covers, one_more}
use Rattle.pr_num.specs.declared.errnos.Errno.{Errno}
use Rattle.pr_num.specs.declared.mappings.BadByte.{BadByte}
use Rattle.pr_num.specs.declared.mappings.BadByte.TheVariants.{Hole, NotAllowed}
use Rattle.pr_num.specs.declared.mappings.Mapping.{Mapping}
use Rattle.pr_num.specs.Limits.{path_limit}
use Rattle.pr_parts.specs.AddressSpaces.{text_at, text_with}
use Rattle.pr_parts.proofs.AccessLemmas.{covers-at, covers-end}
use Rattle.pr_model.specs.MemoryCalls.{path_at}
use Rattle.pr_hidden.specs.Covers.{Patch, patched}
use Rattle.pr_hidden.specs.Sparing.{are_spared, is_spared}
use Rattle.pr_hidden.proofs.PatchedSpaces.ByteLemmas.{length-over, over, over_bytes, over_mapping, patched-over, patched_byte, spared-byte}

-- What is read of a space with patches: where an access spares them, what stands there.

module _ (f : ℕ → ℕ → ℕ) where
  slice-over : (a i : ℕ) (bs : List ℕ) → i < length bs
      → slice_index (over_bytes f a bs) i ≡ f (a + i) (slice_index bs i)
  unfolding over_bytes
  slice-over a i [] less = absurd (omega arith)
  slice-over a zero (b ∷ bs) less = let same : a + 0 ≡ a = omega arith in rw same refl
  slice-over a (suc i) (b ∷ bs) less =
      let same : a + 1 + i ≡ a + suc i = omega arith in
      slice-over (a + 1) i bs (omega arith) ∙ ap (λ n. f n (slice_index bs i)) same

  covers-over : (a : ℕ) (m : Mapping) → covers a (over_mapping f m) ≡ covers a m
  unfolding over_mapping
  covers-over a m = ap (λ n. leb m.at a && ltb a (m.at + n)) (length-over f m.at m.bytes)

  here-over : (needed a : ℕ) → ((b : ℕ) → f a b ≡ b) → (m : Mapping) → covers a m ≡ true
      → cond (has_flags (over_mapping f m).prot needed)
      (Ok (slice_index (over_mapping f m).bytes (a - (over_mapping f m).at))) (Err (NotAllowed a))
      ≡ cond (has_flags m.prot needed) (Ok (slice_index m.bytes (a - m.at))) (Err (NotAllowed a))
  unfolding over_mapping
  here-over needed a same m has =
      let low = covers-at a m has in
      let high = covers-end a m has in
      let at : m.at + (a - m.at) ≡ a = omega arith in
      ap (λ (n : ℕ). cond (has_flags m.prot needed) (Ok n) (Err (NotAllowed a)))
      (slice-over m.at (a - m.at) m.bytes (omega arith)
      ∙ ap (λ n. f n (slice_index m.bytes (a - m.at))) at ∙ same (slice_index m.bytes (a - m.at)))

  -- the byte at an address, where it is not changed
  byte-over : (needed a : ℕ) → ((b : ℕ) → f a b ≡ b) → (space : Space)
      → byte_for needed (over f space) a ≡ byte_for needed space a
  unfolding over
  byte-over needed a same [] = refl
  byte-over needed a same (m ∷ ms) =
      elim (cases_Bool (covers a m)) [
        | inl has ↦ rw (covers-over a m ∙ has, has) (here-over needed a same m has)
        | inr elsewhere ↦ rw (covers-over a m ∙ elsewhere, elsewhere) (byte-over needed a same ms)
      ]

pub byte-spared : (ps : List Patch) (needed a : ℕ) (space : Space) → is_spared ps a ≡ true
    → byte_for needed (patched ps space) a ≡ byte_for needed space a
byte-spared ps needed a space spared =
    ap (λ (x : Space). byte_for needed x a) (patched-over ps space)
    ∙ byte-over (patched_byte ps) needed a (λ b. spared-byte ps a b spared) space

pub bytes-spared : (ps : List Patch) (needed a n : ℕ) (space : Space) → are_spared ps a n ≡ true
    → bytes_for needed (patched ps space) a n ≡ bytes_for needed space a n
unfolding bytes_for
bytes-spared ps needed a zero space spared = refl
bytes-spared ps needed a (suc n) space spared =
    let parts = and_parts (is_spared ps a) (are_spared ps ((a + 1) % 2 ^ 64) n) spared in
    rw (byte-spared ps needed a space parts.0, bytes-spared ps needed ((a + 1) % 2 ^ 64) n space parts.1) refl

text-spared : (ps : List Patch) (space : Space) (a n : ℕ) → are_spared ps a n ≡ true
    → text_at (patched ps space) a n ≡ text_at space a n
unfolding text_at
text-spared ps space a zero spared = refl
text-spared ps space a (suc n) spared =
    let parts = and_parts (is_spared ps a) (are_spared ps ((a + 1) % 2 ^ 64) n) spared in
    ap (λ r. text_with r (text_at (patched ps space) ((a + 1) % 2 ^ 64) n)) (byte-spared ps prot_read a space parts.0)
    ∙ ap (text_with (byte_for prot_read space a)) (text-spared ps space ((a + 1) % 2 ^ 64) n parts.1)

pub path-spared : (ps : List Patch) (space : Space) (a : ℕ) → are_spared ps a path_limit ≡ true
    → path_at (patched ps space) a ≡ path_at space a
unfolding path_at
path-spared ps space a spared = rw (text-spared ps space a path_limit spared) refl
