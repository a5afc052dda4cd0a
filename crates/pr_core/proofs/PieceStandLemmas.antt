-- Pieces of memory, read where they stand.
use Rattle.std.proofs.Common.{◌≡◌, ◌+◌, ◌<◌, ◌≤◌, ◌^◌, ℕ, List, [], ◌∷◌, length, take, drop, map, All, Ok, refl, ap, subst, ◌∙◌, arith, length-append, length-take, length-drop}
use Rattle.std.proofs.lemmas.Bool.{eqb-true, eq-eqb}
use Rattle.std.specs.List.{flat_map}
use Rattle.pr_num.specs.Words.{IsByte}
use Rattle.pr_core.proofs.StandLemmas.{StandsAt, stands_taken, taken, first_of, second_of, both_of}
use Rattle.pr_core.proofs.StepLemmas.{gave}
use Rattle.pr_core.proofs.WordLemmas.{length-section, section-parts, section_size-stands, stands-section_size}
use Rattle.pr_core.specs.CoreBytes.{section, memory_kind}
use Rattle.pr_core.specs.CoreReading.{Read, exactly, pieces, section_size}

-- the sections of pieces
abbrev pub sections : List (List ℕ) → List ℕ
sections memory = flat_map (section memory_kind) memory

module _ (bytes : List ℕ) where
  pub pieces-stand : (memory : List (List ℕ)) (at : ℕ) → length bytes < 2 ^ 64 → StandsAt bytes at (sections memory)
      → pieces (map length memory) bytes at ≡ Ok (record { found = memory; next = at + length (sections memory) })
  unfolding pieces
  pieces-stand [] at few stands = ap (λ (next : ℕ). Ok (record { found = []; next = next })) (omega arith)
  pieces-stand (piece ∷ memory) at few stands =
      let first = first_of bytes (section memory_kind piece) (sections memory) at stands in
      let there = (section-parts memory_kind piece bytes at first).part_there in
      let small : length piece < 2 ^ 64 = omega (arith, there.within) in
      let sized = section_size-stands memory_kind (exactly (length piece)) piece bytes at first (omega arith) small
      (eq-eqb (length piece) (length piece) refl) in
      let next : at + length (section memory_kind piece) ≡ at + 16 + length piece =
      omega (arith, length-section memory_kind piece) in
      let others = subst (λ (n : ℕ). StandsAt bytes n (sections memory)) next
      (second_of bytes (section memory_kind piece) (sections memory) at stands) in
      let rest = pieces-stand memory (at + 16 + length piece) few others in
      let is : take (length piece) (drop (at + 16) bytes) ≡ piece = taken bytes piece (at + 16) there in
      let end : at + 16 + length piece + length (sections memory) ≡ at + length (sections (piece ∷ memory)) =
      omega (arith, length-append (section memory_kind piece) (sections memory), length-section memory_kind piece) in
      rw (sized, rest, is) (ap (λ (next : ℕ). Ok (record { found = piece ∷ memory; next = next })) end)

  piece-length : (at size : ℕ) → at + size ≤ length bytes → length (take size (drop at bytes)) ≡ size
  piece-length at size inside = omega (arith, length-take size (drop at bytes), length-drop at bytes)

  pub record HoldsPieces (sizes : List ℕ) (at : ℕ) (read : Read (List (List ℕ))) : Type 0 where
    pub stand : StandsAt bytes at (sections read.found)
    pub next_is : read.next ≡ at + length (sections read.found)
    pub sized : map length read.found ≡ sizes

  pub stand-pieces : (sizes : List ℕ) (at : ℕ) (read : Read (List (List ℕ))) → All IsByte bytes → at ≤ length bytes
      → pieces sizes bytes at ≡ Ok read → HoldsPieces sizes at read
  unfolding pieces
  stand-pieces [] at read small inside given =
      let same : record { found = []; next = at } ≡ read = cc in
      subst (HoldsPieces [] at) same (record {
        stand = stands_taken bytes at 0 (omega arith);
        next_is = omega arith;
        sized = refl;
      })
  stand-pieces (size ∷ sizes) at read small inside given =
      let one = gave _ _ read given in
      let two = gave _ _ read one.rest_is in
      let known : one.first ≡ size =
      eqb-true one.first size (stands-section_size memory_kind (exactly size) bytes at one.first one.step_is).may in
      let step : section_size memory_kind (exactly size) bytes at ≡ Ok size = one.step_is ∙ ap Ok known in
      let sized = stands-section_size memory_kind (exactly size) bytes at size step in
      let piece : List ℕ = take size (drop (at + 16) bytes) in
      let long : length piece ≡ size = piece-length (at + 16) size sized.inside in
      let first = sized.stands piece small long (stands_taken bytes (at + 16) size sized.inside) in
      let rest = stand-pieces sizes (at + 16 + size) two.first small sized.inside two.step_is in
      let next : at + 16 + size ≡ at + length (section memory_kind piece) =
      omega (arith, length-section memory_kind piece, long) in
      let same : record { found = piece ∷ two.first.found; next = two.first.next } ≡ read = cc in
      subst (HoldsPieces (size ∷ sizes) at) same (record {
        stand = both_of bytes (section memory_kind piece) (sections two.first.found) at first
            (subst (λ (n : ℕ). StandsAt bytes n (sections two.first.found)) next rest.stand);
        next_is = omega (
          arith,
          rest.next_is,
          next,
          length-append (section memory_kind piece)
              (sections two.first.found),
        );
        sized = ap (λ (n : ℕ). n ∷ map length two.first.found) long ∙ ap (λ (ns : List ℕ). size ∷ ns) rest.sized;
      })
