-- Pieces of memory that are read one after the other.
use Rattle.std.proofs.Common.{◌≡◌, ◌+◌, ◌<◌, ◌≤◌, ℕ, suc, List, [], ◌∷◌, ◌++◌, length, take, drop, map, get_or, Result, Ok, Err, refl, sym, ap, ◌∙◌, arith, append_assoc, drop-cons}
use Rattle.std.proofs.lemmas.List.{append-nil, drop_all}
use Rattle.pr_rec.specs.RecordWords.{map_entry_words_of}
use Rattle.pr_rec.specs.declared.mappings.MapEntry.{MapEntry}
use Rattle.pr_text.specs.Steps.{◌>>=◌}
use Rattle.pr_core.specs.CoreBytes.{memory_kind}
use Rattle.pr_core.specs.CoreRanges.{mapping_size}
use Rattle.pr_core.specs.CoreReading.{Read, section_size, exactly, pieces}
use Rattle.pr_core.specs.declared.faults.CoreFault.{CoreFault}

abbrev pub ReadPieces : Type 0
ReadPieces = Result (Read (List (List ℕ))) CoreFault

-- what is read, after pieces that were read before it
abbrev pub behind : List (List ℕ) → ReadPieces → ReadPieces
behind done rest = rest >>= λ others. Ok (record { found = done ++ others.found; next = others.next })

behind-none : (rest : ReadPieces) → rest ≡ behind [] rest
behind-none (Ok others) = refl
behind-none (Err fault) = refl

behind-one : (done : List (List ℕ)) (piece : List ℕ) (rest : ReadPieces)
    → behind done (rest >>= λ others. Ok (record { found = piece ∷ others.found; next = others.next }))
    ≡ behind (done ++ piece ∷ []) rest
behind-one done piece (Ok others) =
    ap (λ (found : List (List ℕ)). Ok (record { found = found; next = others.next }))
    (sym (append_assoc done (piece ∷ []) others.found))
behind-one done piece (Err fault) = refl

module _ (maps : List MapEntry) (bytes : List ℕ) (begin : ℕ) where
  -- how many bytes each mapping has, from a number on
  abbrev pub sizes_from : ℕ → List ℕ
  sizes_from i = map mapping_size (map map_entry_words_of (drop i maps))

  -- these pieces were read, and at a place stand the others
  pub record AreTaken (i at : ℕ) (done : List (List ℕ)) : Type 0 where
    pub read : pieces (sizes_from 0) bytes begin ≡ behind done (pieces (sizes_from i) bytes at)

  pub none_taken : AreTaken 0 begin []
  none_taken = record { read = behind-none (pieces (sizes_from 0) bytes begin) }

  sizes-next : (i : ℕ) (m : MapEntry) → i < length maps → get_or maps i m ≡ m
      → sizes_from i ≡ m.size ∷ sizes_from (i + 1)
  sizes-next i m inside is =
      let next : suc i ≡ i + 1 = omega arith in
      ap (λ (rest : List MapEntry). map mapping_size (map map_entry_words_of rest)) (drop-cons maps i m inside)
      ∙ ap (λ (m : MapEntry). m.size ∷ sizes_from (suc i)) is ∙ ap (λ (k : ℕ). m.size ∷ sizes_from k) next

  pub one_taken : (i at size : ℕ) (done : List (List ℕ)) (piece : List ℕ) (m : MapEntry) → AreTaken i at done
      → i < length maps → get_or maps i m ≡ m → section_size memory_kind (exactly m.size) bytes at ≡ Ok size
      → size ≡ m.size → piece ≡ take size (drop (at + 16) bytes)
      → AreTaken (i + 1) (at + 16 + size) (done ++ piece ∷ [])
  unfolding pieces
  one_taken i at size done piece m so_far inside is sized same taken =
      let step : ℕ → ReadPieces =
      λ (size : ℕ). pieces (sizes_from (i + 1)) bytes (at + 16 + size) >>= λ others. Ok
      (record { found = take size (drop (at + 16) bytes) ∷ others.found; next = others.next }) in
      let first : pieces (sizes_from i) bytes at ≡ step m.size =
      ap (λ (sizes : List ℕ). pieces sizes bytes at) (sizes-next i m inside is)
      ∙ ap (λ (r : Result ℕ CoreFault). r >>= λ _. step m.size) sized in
      let by_size : step m.size ≡ step size = ap step (sym same) in
      let rest : ReadPieces = pieces (sizes_from (i + 1)) bytes (at + 16 + size) in
      record {
        read = so_far.read ∙ ap (behind done) (first ∙ by_size)
            ∙ behind-one done (take size (drop (at + 16) bytes)) rest
            ∙ ap (λ (last : List ℕ). behind (done ++ last ∷ []) rest) (sym taken);
      }

  pub none_there : (i at : ℕ) (done : List (List ℕ)) (m : MapEntry) (fault : CoreFault) → AreTaken i at done
      → i < length maps → get_or maps i m ≡ m → section_size memory_kind (exactly m.size) bytes at ≡ Err fault
      → pieces (sizes_from 0) bytes begin ≡ Err fault
  unfolding pieces
  none_there i at done m fault so_far inside is refused =
      let step : ReadPieces =
      pieces (sizes_from (i + 1)) bytes (at + 16 + m.size) >>= λ others. Ok
      (record { found = take m.size (drop (at + 16) bytes) ∷ others.found; next = others.next }) in
      so_far.read
      ∙ ap (behind done) (ap (λ (sizes : List ℕ). pieces sizes bytes at) (sizes-next i m inside is)
      ∙ ap (λ (r : Result ℕ CoreFault). r >>= λ _. step) refused)

  pub all_taken : (i at : ℕ) (done : List (List ℕ)) → AreTaken i at done → length maps ≤ i
      → pieces (sizes_from 0) bytes begin ≡ Ok (record { found = done; next = at })
  unfolding pieces
  all_taken i at done so_far ended =
      so_far.read
      ∙ ap (λ (rest : List MapEntry). behind done (pieces (map mapping_size (map map_entry_words_of rest)) bytes at))
      (drop_all i maps ended)
      ∙ ap (λ (found : List (List ℕ)). Ok (record { found = found; next = at })) (append-nil done)
