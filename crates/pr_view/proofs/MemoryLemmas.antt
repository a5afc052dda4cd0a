use Rattle.std.proofs.Common.{◌≡◌, ℕ, zero, suc, ◌+◌, ◌%◌, ◌^◌, ◌<◌, Option, Some, None, IfSome, Result, Ok, Err, OnOk, is_ok, false, List, [], ◌∷◌, ◌++◌, length, take, drop, refl, sym, ap, subst, ◌∙◌, inl, inr, arith}
use Rattle.std.specs.List.{find}
use Rattle.std.proofs.Math.Seq.{take-append_seam}
use Rattle.std.proofs.lemmas.Bool.{cases_Bool}
use Rattle.pr_mem.specs.Answers.{access_answer, fault_of}
use Rattle.pr_mem.specs.declared.faults.MemFault.{MemFault}
use Rattle.pr_num.specs.Control.{has_flags}
use Rattle.pr_num.specs.Spaces.{Space, byte_for, bytes_for, covers, one_more}
use Rattle.pr_num.specs.declared.mappings.BadByte.{BadByte}
use Rattle.pr_num.specs.declared.mappings.BadByte.TheVariants as bad
use Rattle.pr_num.specs.declared.mappings.Mapping.{Mapping}
use Rattle.pr_model.specs.Reads.{mapped_from, unless_none}
use Rattle.pr_num.specs.declared.errnos.Errno.TheVariants.{Io}
use Rattle.pr_model.specs.declared.calls.Reply.TheVariants.{Bytes, Fail}
use Rattle.pr_view.specs.Memory.{fault_address}
use Rattle.pr_num.proofs.NumberLemmas.{wrapped-step}
use Rattle.pr_parts.proofs.AccessLemmas.{byte_for-found, byte_for-hole, byte_for-not_allowed}

-- ---- one byte

-- the bytes from an address on begin with the byte there
before-found : (space : Space) (a n byte : ℕ) → byte_for 0 space a ≡ Ok byte
    → mapped_from space a (suc n) ≡ byte ∷ mapped_from space ((a + 1) % 2 ^ 64) n
unfolding mapped_from
before-found space a n byte found = rw found refl

-- and are none where that is not mapped
before-missing : (space : Space) (a n : ℕ) (fault : BadByte) → byte_for 0 space a ≡ Err fault
    → mapped_from space a (suc n) ≡ []
unfolding mapped_from
before-missing space a n fault missing = rw missing refl

-- a byte that is at fault is the one that was asked for
fault-there : (space : Space) (a : ℕ) (fault : BadByte) → byte_for 0 space a ≡ Err fault
    → fault_address (fault_of fault) ≡ Some a
fault-there space a fault fails = of (find (covers a) space) refl
  where
    of : (o : Option Mapping) → find (covers a) space ≡ o → fault_address (fault_of fault) ≡ Some a
    of None found = let same : fault ≡ bad.Hole a = cc (byte_for-hole 0 space a found) in
        ap (λ (b : BadByte). fault_address (fault_of b)) same
    of (Some m) found =
        elim (cases_Bool (has_flags m.prot 0)) [
          | inl allowed ↦ absurd (cc (byte_for-found 0 space m a found allowed))
          | inr not_allowed ↦ let same : fault ≡ bad.NotAllowed a =
              cc (byte_for-not_allowed 0 space m a found not_allowed) in
              ap (λ (b : BadByte). fault_address (fault_of b)) same
        ]

-- ---- the bytes from an address on

-- where the first is not mapped there are none
pub mapped-none : (space : Space) (a n : ℕ) → is_ok (bytes_for 0 space a 1) ≡ false → [] ≡ mapped_from space a n
unfolding bytes_for mapped_from
mapped-none space a zero fails = refl
mapped-none space a (suc n) fails = of (byte_for 0 space a) refl
  where
    of : (r : Result ℕ BadByte) → byte_for 0 space a ≡ r → [] ≡ mapped_from space a (suc n)
    of (Ok byte) is = let ok : is_ok (bytes_for 0 space a 1) ≡ is_ok (one_more (Ok byte) (Ok [])) = rw is refl in
        absurd (cc)
    of (Err fault) is = sym (before-missing space a n fault is)

-- where an access to so many is granted, its bytes are the ones that are mapped
mapped-whole : (space : Space) (a n : ℕ) (bytes : List ℕ) → bytes_for 0 space a n ≡ Ok bytes
    → bytes ≡ mapped_from space a n
unfolding bytes_for mapped_from
mapped-whole space a zero bytes e = cc
mapped-whole space a (suc n) bytes e =
    of (byte_for 0 space a) (bytes_for 0 space ((a + 1) % 2 ^ 64) n) refl refl
    (mapped-whole space ((a + 1) % 2 ^ 64) n) e
  where
    of : (r : Result ℕ BadByte) (rest : Result (List ℕ) BadByte) → byte_for 0 space a ≡ r
        → bytes_for 0 space ((a + 1) % 2 ^ 64) n ≡ rest
        → ((xs : List ℕ) → bytes_for 0 space ((a + 1) % 2 ^ 64) n ≡ Ok xs → xs ≡ mapped_from space ((a + 1) % 2 ^ 64) n)
        → one_more r rest ≡ Ok bytes → bytes ≡ mapped_from space a (suc n)
    of (Ok b) (Ok xs) here behind so e =
        let same : b ∷ xs ≡ bytes = cc in
        sym same ∙ ap (λ (ys : List ℕ). b ∷ ys) (so xs behind) ∙ sym (before-found space a n b here)
    of (Ok b) (Err fault) here behind so e = absurd (cc)
    of (Err fault) rest here behind so e = absurd (cc)

-- An access to so many bytes fails at one of them, which names its address, and those before it are the ones that are
-- mapped.
record FailsAt (space : Space) (a n : ℕ) (fault : BadByte) : Type 0 where
  pub count : ℕ
  pub few : count < n
  pub there : fault_address (fault_of fault) ≡ Some ((a + count) % 2 ^ 64)
  pub bytes : bytes_for 0 space a count ≡ Ok (mapped_from space a n)

fails-at : (space : Space) (a n : ℕ) (fault : BadByte) → a < 2 ^ 64 → bytes_for 0 space a n ≡ Err fault
    → FailsAt space a n fault
unfolding bytes_for
fails-at space a zero fault range e = absurd (cc)
fails-at space a (suc n) fault range e =
    of (byte_for 0 space a) (bytes_for 0 space ((a + 1) % 2 ^ 64) n) refl refl
    (λ f. fails-at space ((a + 1) % 2 ^ 64) n f (omega arith)) e
  where
    of : (r : Result ℕ BadByte) (rest : Result (List ℕ) BadByte) → byte_for 0 space a ≡ r
        → bytes_for 0 space ((a + 1) % 2 ^ 64) n ≡ rest
        → ((f : BadByte) → bytes_for 0 space ((a + 1) % 2 ^ 64) n ≡ Err f → FailsAt space ((a + 1) % 2 ^ 64) n f)
        → one_more r rest ≡ Err fault → FailsAt space a (suc n) fault
    of (Ok b) (Ok xs) here behind so e = absurd (cc)
    of (Ok b) (Err f) here behind so e =
        let same : f ≡ fault = cc in
        let further = so fault (behind ∙ ap Err same) in
        record {
          count = suc further.count;
          few = omega (arith, further.few);
          there = further.there ∙ ap Some (wrapped-step a further.count);
          bytes = rw (here, further.bytes, before-found space a n b here) refl;
        }
    of (Err f) rest here behind so e =
        let same : f ≡ fault = cc in
        let start : a ≡ (a + 0) % 2 ^ 64 = omega arith in
        record {
          count = 0;
          few = omega arith;
          there = fault-there space a fault (here ∙ ap Err same) ∙ ap Some start;
          bytes = ap Ok (sym (before-missing space a n f here));
        }

-- where an access to so many fails, those before the fault are the ones that are mapped
mapped-before : (space : Space) (a n count : ℕ) (fault : MemFault) → a < 2 ^ 64 → n < 2 ^ 64 → count < 2 ^ 64
    → Err fault ≡ access_answer (bytes_for 0 space a n)
    → IfSome (fault_address fault) (λ address. (a + count) % 2 ^ 64 ≡ address)
    → bytes_for 0 space a count ≡ Ok (mapped_from space a n)
mapped-before space a n count fault low many few e there = of (bytes_for 0 space a n) refl e
  where
    of : (r : Result (List ℕ) BadByte) → bytes_for 0 space a n ≡ r → Err fault ≡ access_answer r
        → bytes_for 0 space a count ≡ Ok (mapped_from space a n)
    of (Ok xs) is e = absurd (cc)
    of (Err f) is e =
        let same : fault ≡ fault_of f = cc in
        let fails = fails-at space a n f low is in
        let P : Option ℕ → Type 0 = λ (o : Option ℕ). IfSome o (λ address. (a + count) % 2 ^ 64 ≡ address) in
        let place : (a + count) % 2 ^ 64 ≡ (a + fails.count) % 2 ^ 64 =
        subst P (ap fault_address same ∙ fails.there) there in
        let Q : ℕ → Type 0 = λ (k : ℕ). bytes_for 0 space a k ≡ Ok (mapped_from space a n) in
        subst Q (omega (arith, fails.few, place)) fails.bytes

-- ---- a buffer that is read into

-- a buffer that was written over whole has what was written
written-over : (size : ℕ) (new items : List ℕ) → size ≡ length new → take size (new ++ drop (length new) items) ≡ new
written-over size new items whole =
    ap (λ (n : ℕ). take n (new ++ drop (length new) items)) whole ∙ take-append_seam new (drop (length new) items)

-- where a read of so many bytes is granted, the buffer has the ones that are mapped
pub read-whole : (space : Space) (a n size : ℕ) (old new items : List ℕ) → length old ≡ n → size ≡ length new
    → bytes_for 0 space a (length old) ≡ Ok new → take size (new ++ drop (length new) items) ≡ mapped_from space a n
read-whole space a n size old new items asked whole e =
    written-over size new items whole ∙ mapped-whole space a (length old) new e ∙ ap (mapped_from space a) asked

-- a second read, of bytes that can be accessed, gives them
read-granted : (x : Result (List ℕ) BadByte) (mapped new : List ℕ) (r : Result (Unit {0}) MemFault) → x ≡ Ok mapped
    → r ≡ access_answer x → OnOk r (x ≡ Ok new) → new ≡ mapped
read-granted x mapped new (Ok t) is answer ok = cc
read-granted x mapped new (Err f) is answer ok = let done : access_answer x ≡ Ok tt = ap access_answer is in absurd (cc)

-- where it fails, a buffer for those before the fault has them after a second read
pub read-again : (space : Space) (a n count size : ℕ) (first old new items : List ℕ) (fault : MemFault)
    (r : Result (Unit {0}) MemFault) → a < 2 ^ 64 → n < 2 ^ 64 → count < 2 ^ 64 → length first ≡ n → length old ≡ count
    → size ≡ length new → Err fault ≡ access_answer (bytes_for 0 space a (length first))
    → IfSome (fault_address fault) (λ address. (a + count) % 2 ^ 64 ≡ address)
    → r ≡ access_answer (bytes_for 0 space a (length old)) → OnOk r (bytes_for 0 space a (length old) ≡ Ok new)
    → take size (new ++ drop (length new) items) ≡ mapped_from space a n
read-again space a n count size first old new items fault r low many few asked again whole e there answer ok =
    let fails : Err fault ≡ access_answer (bytes_for 0 space a n) =
    e ∙ ap (λ (k : ℕ). access_answer (bytes_for 0 space a k)) asked in
    let before : bytes_for 0 space a (length old) ≡ Ok (mapped_from space a n) =
    ap (bytes_for 0 space a) again ∙ mapped-before space a n count fault low many few fails there in
    written-over size new items whole
    ∙ read-granted (bytes_for 0 space a (length old)) (mapped_from space a n) new r before answer ok

pub ruleset mapped_laws = (mapped-none)

-- ---- what is answered

pub space-none : (bytes read : List ℕ) → bytes ≡ read → length bytes ≡ 0 → Fail Io ≡ unless_none read
space-none [] read e none = ap unless_none e
space-none (b ∷ bytes) read e some = absurd (omega arith)

pub space-some : (bytes read : List ℕ) → bytes ≡ read → 0 < length bytes → Bytes bytes ≡ unless_none read
space-some [] read e none = absurd (omega arith)
space-some (b ∷ bytes) read e some = ap unless_none e

pub ruleset space_laws = (space-none, space-some)
