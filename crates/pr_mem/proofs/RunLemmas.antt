-- The steps of an access, which takes a run of bytes at a time.
use Rattle.std.proofs.Common.{◌≡◌, ℕ, ◌+◌, ◌-◌, ◌^◌, ◌<◌, ◌≤◌, true, Some, Result, Ok, Err, List, ◌++◌, length, take, drop, refl, sym, ◌∙◌, ap, arith, min, max}
use Rattle.std.specs.List.{find}
use Rattle.std.proofs.lemmas.List.{take-append-drop, length-append, length-take-le, length-drop}
use Rattle.std.proofs.lemmas.Slice.{take-put_mid}
use Rattle.pr_num.specs.Control.{has_flags}
use Rattle.pr_num.specs.Spaces.{Space, IsSpace, covers, byte_for, bytes_for}
use Rattle.pr_num.specs.declared.mappings.BadByte.{BadByte}
use Rattle.pr_num.specs.declared.mappings.Mapping.{Mapping}
use Rattle.pr_parts.specs.AddressSpaces.{written_bytes}
use Rattle.pr_parts.proofs.AccessLemmas.{bytes_for-append, bytes_for-fails, bytes_for-run, found-low, found-high, found-limit, joined, written_bytes-append, written_bytes-inside, written_bytes-outside}
use Rattle.pr_parts.specs.Accesses.{checked}
use Rattle.pr_mem.specs.Answers.{IsRun}
use borrow.Rule.Slice.PartMut.{put_mid}
use Rattle.pr_num.proofs.NumberLemmas.{unwrapped}

-- the first so many bytes of an access can be accessed
pub record IsChecked (need : ℕ) (space : Space) (at len done : ℕ) : Type 0 where
  pub within : done ≤ len
  pub bytes : checked (bytes_for need space at done) ≡ Ok tt
  pub end : at + done < 2 ^ 64

-- the first so many bytes of an access are at the front of a buffer
pub record IsFilled (need : ℕ) (space : Space) (at : ℕ) (out : List ℕ) (done : ℕ) : Type 0 where
  pub within : done ≤ length out
  pub bytes : bytes_for need space at done ≡ Ok (take done out)
  pub end : at + done < 2 ^ 64

checked-joined : (x : Result (List ℕ) BadByte) (run : List ℕ) → checked x ≡ Ok tt → checked (joined x (Ok run)) ≡ Ok tt
checked-joined (Ok bytes) run e = refl
checked-joined (Err bad) run e = e

fails-joined : (x : Result (List ℕ) BadByte) (bad : BadByte) → checked x ≡ Ok tt
    → checked (joined x (Err bad)) ≡ Err bad
fails-joined (Ok bytes) bad e = refl
fails-joined (Err other) bad e = absurd (cc)

-- nothing is accessed yet
pub IsChecked-start : (need : ℕ) (space : Space) (at len : ℕ) → at < 2 ^ 64 → IsChecked need space at len 0
unfolding bytes_for
IsChecked-start need space at len range = record { within = omega arith; bytes = refl; end = omega arith }

pub IsFilled-start : (need : ℕ) (space : Space) (at : ℕ) (out : List ℕ) → at < 2 ^ 64 → IsFilled need space at out 0
unfolding bytes_for
IsFilled-start need space at out range = record { within = omega arith; bytes = refl; end = omega arith }

-- one run more
pub IsChecked-more : (need : ℕ) (space : Space) (at len done most : ℕ) (run : List ℕ) → IsChecked need space at len done
    → most ≡ len - done → IsRun need space (at + done) most run → IsChecked need space at len (done + length run)
IsChecked-more need space at len done most run old size more =
    let here = unwrapped (at + done) old.end in
    record {
      within = omega (arith, old.within, more.within);
      bytes = rw (bytes_for-append need space at done (length run) (omega (arith, old.end)), here, more.bytes)
          (checked-joined (bytes_for need space at done) run old.bytes);
      end = omega (arith, more.end);
    }

pub IsFilled-more : (need : ℕ) (space : Space) (at : ℕ) (out : List ℕ) (done most : ℕ) (run now : List ℕ) (n : ℕ)
    → IsFilled need space at out done → most ≡ length out - done → IsRun need space (at + done) most run
    → n ≡ length run → now ≡ run → IsFilled need space at (put_mid done n out now) (done + length run)
IsFilled-more need space at out done most run now n old size more e same =
    let here = unwrapped (at + done) old.end in
    let front = take-put_mid done n out run (done + length run) refl old.within in
    let len = length-put done n out run old.within (omega (arith, old.within, more.within)) in
    rw same (record {
      within = omega (arith, len, old.within, more.within);
      bytes = rw (
        front,
        bytes_for-append need space at done (length run) (omega (arith, old.end)),
        here,
        more.bytes,
        old.bytes,
      ) refl;
      end = omega (arith, more.end);
    })
  where
    length-put : (a k : ℕ) (xs ys : List ℕ) → a ≤ length xs → a + length ys ≤ length xs
        → a + length ys ≤ length (put_mid a k xs ys)
    length-put a k xs ys h g =
        omega (
          arith,
          length-append (take a xs) (ys ++ drop k (drop a xs)),
          length-append ys (drop k (drop a xs)),
          length-take-le a xs h,
        )

-- the first byte that fails
pub IsChecked-fails : (need : ℕ) (space : Space) (at len done : ℕ) (bad : BadByte) → IsChecked need space at len done
    → done < len → byte_for need space (at + done) ≡ Err bad → checked (bytes_for need space at len) ≡ Err bad
IsChecked-fails need space at len done bad old near fails =
    go len (len - done) (omega arith) (omega arith)
  where
    go : (n k : ℕ) → n ≡ done + k → 0 < k → checked (bytes_for need space at n) ≡ Err bad
    go n k e some =
        let here = unwrapped (at + done) old.end in
        rw (
          e,
          bytes_for-append need space at done k (omega (arith, old.end)),
          here,
          bytes_for-fails need space (at + done) k bad fails some,
        )
        (fails-joined (bytes_for need space at done) bad old.bytes)

pub IsFilled-checked : (need : ℕ) (space : Space) (at : ℕ) (out : List ℕ) (done : ℕ) → IsFilled need space at out done
    → IsChecked need space at (length out) done
IsFilled-checked need space at out done old =
    record { within = old.within; bytes = ap checked old.bytes; end = old.end }

-- ---- a part is written over

-- what stands from an address on, where a part of it is written over
pub written_bytes-part : (at : ℕ) (bytes : List ℕ) (first : ℕ) (old part : List ℕ) (start end from size : ℕ)
    → start ≡ max at first → end ≡ min (at + length bytes) (first + length old) → start < end → from ≡ start - first
    → size ≡ end - start → part ≡ take size (drop (start - at) bytes)
    → put_mid from size old part ≡ written_bytes at bytes first old
written_bytes-part at bytes first old part start end from size e1 e2 some e3 e4 e5 =
    let front : length (take from old) ≡ from = length-take-le from old (omega arith) in
    let rest : length (drop from old) ≡ length old - from = length-drop from old in
    let middle : length (take size (drop from old)) ≡ size = length-take-le size (drop from old) (omega arith) in
    let behind : length (drop size (drop from old)) ≡ length (drop from old) - size =
    length-drop size (drop from old) in
    let here : first + length (take from old) ≡ start = omega arith in
    let there : start + length (take size (drop from old)) ≡ end = omega arith in
    let low = written_bytes-outside at bytes first (take from old) (λ k h p q. omega arith) in
    let within = written_bytes-inside at bytes start (take size (drop from old)) (omega arith) (omega arith) in
    let high = written_bytes-outside at bytes end (drop size (drop from old)) (λ k h p q. omega arith) in
    let inner : written_bytes at bytes start (drop from old) ≡ part ++ drop size (drop from old) =
    sym (ap (written_bytes at bytes start) (take-append-drop size (drop from old)))
    ∙ written_bytes-append at bytes start (take size (drop from old)) (drop size (drop from old))
    ∙ pieces within (ap (λ n. take n (drop (start - at) bytes)) middle ∙ sym e5)
    (ap (λ a. written_bytes at bytes a (drop size (drop from old))) there ∙ high) in
    sym (sym (ap (written_bytes at bytes first) (take-append-drop from old))
    ∙ written_bytes-append at bytes first (take from old) (drop from old)
    ∙ pieces low refl (ap (λ a. written_bytes at bytes a (drop from old)) here ∙ inner))
  where
    pieces : {a b c d f : List ℕ} → a ≡ b → b ≡ c → d ≡ f → a ++ d ≡ c ++ f
    pieces p q r = cc

pub written_bytes-none : (at : ℕ) (bytes : List ℕ) (first : ℕ) (old : List ℕ) (start end : ℕ) → start ≡ max at first
    → end ≡ min (at + length bytes) (first + length old) → end ≤ start → old ≡ written_bytes at bytes first old
written_bytes-none at bytes first old start end e1 e2 none =
    sym (written_bytes-outside at bytes first old (λ k h p q. omega arith))

-- ---- a run in a mapping

-- the part of a mapping from an address on, as far as it goes or is asked for
pub IsRun-within : (need : ℕ) (space : Space) (m : Mapping) (at most size from : ℕ) (part : List ℕ) → IsSpace space
    → find (covers at) space ≡ Some m → has_flags m.prot need ≡ true → from ≡ at - m.at → 0 < size → size ≤ most
    → size ≤ length m.bytes - from → part ≡ take size (drop from m.bytes) → IsRun need space at most part
IsRun-within need space m at most size from part kept found allowed e1 some asked inside e3 =
    let low = found-low at space m found in
    let high = found-high at space m found in
    let limit = found-limit at space m kept found in
    let len : length part ≡ size =
    ap length e3 ∙ length-take-le size (drop from m.bytes) (omega (arith, length-drop from m.bytes)) in
    record {
      some = omega arith;
      within = omega arith;
      bytes = rw len
          (bytes_for-run need space m at size kept.apart (λ h. found) allowed low (omega arith) limit
          ∙ ap (λ xs. Ok xs) (ap (λ n. take size (drop n m.bytes)) (sym e1) ∙ sym e3));
      end = omega arith;
    }
