-- The bytes of a core's memory, found mapping by mapping.
use Rattle.std.proofs.Common.{◌≡◌, ◌+◌, ◌-◌, ◌%◌, ◌^◌, ◌<◌, ◌≤◌, ℕ, zero, suc, Bool, true, false, cond, List, [], ◌∷◌, ◌++◌, length, nat_le, slice_index, take, Option, Some, None, Result, Ok, Err, refl, sym, ap, ◌∙◌, arith, append_assoc}
use Rattle.std.proofs.lemmas.Bool.{eq-eqb}
use Rattle.std.proofs.lemmas.List.{append-nil, take_all}
use Rattle.std.proofs.lemmas.Nat.{and_le_r}
use Rattle.std.specs.Int.Bits.{bit_and}
use Rattle.std.specs.List.{find}
use Rattle.std.specs.Result.{result_ok}
use Rattle.pr_model.specs.Reads.{mapped_from}
use Rattle.pr_num.specs.Control.{has_flags}
use Rattle.pr_num.specs.Sets.{common_word}
use Rattle.pr_num.specs.Spaces.{Space, byte_for, covers}
use Rattle.pr_num.specs.declared.mappings.BadByte.{BadByte}
use Rattle.pr_num.specs.declared.mappings.Mapping.{Mapping}
use Rattle.pr_parts.proofs.AccessLemmas.{byte_for-found, byte_for-hole}
use Rattle.pr_num.specs.Layout.{text_base}
use Rattle.pr_tools.specs.Calls.{short_read}
use Rattle.pr_tools.specs.SpaceStacks.{first_instruction}
use Rattle.pr_rec.specs.declared.mappings.MapEntry.{MapEntry}
use Rattle.pr_core.specs.CoreMemory.{byte_in, byte_of}
use Rattle.pr_core.specs.CoreTools.{mapping_with, space_with}

-- a byte that is read needs no protection
none-needed : (word : ℕ) → has_flags word 0 ≡ true
unfolding has_flags common_word
none-needed word =
    let most = and_le_r word 0 in
    eq-eqb (bit_and word 0) 0 (omega (arith, most))

-- what is found among mappings is found among those with the same one at an address
found-alike : (a : ℕ) (s t : Space) → find (covers a) s ≡ find (covers a) t → byte_for 0 s a ≡ byte_for 0 t a
found-alike a s t same = by (find (covers a) t) refl
  where
    by : (o : Option Mapping) → find (covers a) t ≡ o → byte_for 0 s a ≡ byte_for 0 t a
    by None e = byte_for-hole 0 s a (same ∙ e) ∙ sym (byte_for-hole 0 t a e)
    by (Some m) e =
        byte_for-found 0 s m a (same ∙ e) (none-needed m.prot) ∙ sym (byte_for-found 0 t m a e (none-needed m.prot))

-- nothing is mapped in no mappings
pub byte-none : (a : ℕ) → byte_in [] a ≡ None
byte-none a = ap result_ok (byte_for-hole 0 [] a refl)

module _ (m : Mapping) (space : Space) (a : ℕ) where
  first-of : (b : Bool) → covers a m ≡ b → find (covers a) (m ∷ space) ≡ cond b (Some m) (find (covers a) space)
  first-of b e = ap (λ (c : Bool). cond c (Some m) (find (covers a) space)) e

  -- the first mapping has it
  pub byte-here : (byte : ℕ) → byte_of m a ≡ Some byte → byte_in (m ∷ space) a ≡ Some byte
  unfolding byte_of
  byte-here byte is = by (covers a m) refl is
    where
      by : (b : Bool) → covers a m ≡ b → cond b (Some (slice_index m.bytes (a - m.at))) None ≡ Some byte
          → byte_in (m ∷ space) a ≡ Some byte
      by true e found = ap result_ok (byte_for-found 0 (m ∷ space) m a (first-of true e) (none-needed m.prot)) ∙ found
      by false e found = absurd cc

  -- a later one may have it
  pub byte-later : byte_of m a ≡ None → byte_in (m ∷ space) a ≡ byte_in space a
  unfolding byte_of
  byte-later is = by (covers a m) refl is
    where
      by : (b : Bool) → covers a m ≡ b → cond b (Some (slice_index m.bytes (a - m.at))) None ≡ None
          → byte_in (m ∷ space) a ≡ byte_in space a
      by true e none = absurd cc
      by false e none = ap result_ok (found-alike a (m ∷ space) space (first-of false e))

-- mappings, of which these are the first and the others, and the pieces of memory likewise
module _ (maps others : List MapEntry) (memory pieces : List (List ℕ)) (m : MapEntry) (bytes : List ℕ) (a : ℕ)
    (whole : Option ℕ) (first : maps ≡ m ∷ others) (piece : memory ≡ bytes ∷ pieces)
    (kept : byte_in (space_with maps memory) a ≡ whole) where
  joined : byte_in (mapping_with m bytes ∷ space_with others pieces) a ≡ whole
  joined =
      sym (ap (λ (ms : List MapEntry). byte_in (space_with ms memory) a) first
      ∙ ap (λ (parts : List (List ℕ)). byte_in (space_with (m ∷ others) parts) a) piece) ∙ kept

  pub found-first : (byte : ℕ) → byte_of (mapping_with m bytes) a ≡ Some byte → Some byte ≡ whole
  found-first byte is = sym (byte-here (mapping_with m bytes) (space_with others pieces) a byte is) ∙ joined

  pub found-later : byte_of (mapping_with m bytes) a ≡ None → byte_in (space_with others pieces) a ≡ whole
  found-later is = sym (byte-later (mapping_with m bytes) (space_with others pieces) a is) ∙ joined

-- ---- bytes one after the other

module _ (space : Space) (a : ℕ) (bytes : List ℕ) where
  -- these bytes are followed by one that is mapped
  pub mapped-more : (left byte : ℕ) → 0 < left → byte_in space a ≡ Some byte
      → bytes ++ mapped_from space a left ≡ (bytes ++ byte ∷ []) ++ mapped_from space ((a + 1) % 2 ^ 64) (left - 1)
  unfolding mapped_from
  mapped-more zero byte some is = absurd (omega arith)
  mapped-more (suc n) byte some is = by (byte_for 0 space a) refl is
    where
      less : suc n - 1 ≡ n
      less = omega arith

      by : (r : Result ℕ BadByte) → byte_for 0 space a ≡ r → result_ok r ≡ Some byte
          → bytes ++ mapped_from space a (suc n)
          ≡ (bytes ++ byte ∷ []) ++ mapped_from space ((a + 1) % 2 ^ 64) (suc n - 1)
      by (Ok found) e same =
          let it : found ≡ byte = cc in
          rw (e, it, less) (sym (append_assoc bytes (byte ∷ []) (mapped_from space ((a + 1) % 2 ^ 64) n)))
      by (Err bad) e same = absurd cc

  -- these bytes are followed by none that is mapped
  pub mapped-end : (left : ℕ) → 0 < left → byte_in space a ≡ None → bytes ++ mapped_from space a left ≡ bytes
  unfolding mapped_from
  mapped-end zero some is = absurd (omega arith)
  mapped-end (suc n) some is = by (byte_for 0 space a) refl is
    where
      by : (r : Result ℕ BadByte) → byte_for 0 space a ≡ r → result_ok r ≡ None
          → bytes ++ mapped_from space a (suc n) ≡ bytes
      by (Ok found) e same = absurd cc
      by (Err bad) e same = rw e (append-nil bytes)

-- no more are asked for
pub mapped-all : (space : Space) (a : ℕ) (bytes : List ℕ) → bytes ++ mapped_from space a 0 ≡ bytes
unfolding mapped_from
mapped-all space a bytes = append-nil bytes

pub mapped-few : (space : Space) (a n : ℕ) → length (mapped_from space a n) ≤ n
unfolding mapped_from
mapped-few space a zero = omega arith
mapped-few space a (suc n) = by (byte_for 0 space a) refl (mapped-few space ((a + 1) % 2 ^ 64) n)
  where
    by : (r : Result ℕ BadByte) → byte_for 0 space a ≡ r → length (mapped_from space ((a + 1) % 2 ^ 64) n) ≤ n
        → length (mapped_from space a (suc n)) ≤ suc n
    by (Ok found) e few = rw e (omega (arith, few))
    by (Err bad) e few = rw e (omega arith)

-- the first instruction of a process, where all of it was read
pub first-read : (space : Space) (bytes : List ℕ) → bytes ≡ mapped_from space text_base short_read
    → cond (nat_le 16 (length bytes)) (Some (take 16 bytes)) None ≡ first_instruction space
first-read space bytes is =
    let all : take 16 bytes ≡ bytes =
    take_all 16 bytes (omega (arith, ap length is, mapped-few space text_base short_read)) in
    ap (λ (xs : List ℕ). cond (nat_le 16 (length bytes)) (Some xs) None) all
    ∙ ap (λ (xs : List ℕ). cond (nat_le 16 (length xs)) (Some xs) None) is
