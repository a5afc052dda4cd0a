use Rattle.std.proofs.Common.{◌≡◌, ◌+◌, ◌-◌, ◌*◌, ◌%◌, ◌^◌, ◌<◌, ◌≤◌, ◌++◌, ◌∷◌, ◌&&◌, ℕ, zero, suc, Bool, true, false, cond, List, [], All, AllPairs, drop, find, length, map, nat_le, nat_lt, replicate, take, Some, None, Result, Ok, Err, refl, sym, subst, ap, ◌∙◌, inl, inr, arith}
use Rattle.std.specs.List.{flat_map, slice_get}
use Rattle.std.proofs.lemmas.Bool.{cases_Bool, le-leb, lt-leb, ltb-false, ltb-true}
use Rattle.std.proofs.lemmas.List.{append-nil, append_assoc, drop-drop, drop_at, length-append, length-drop, length-map, length-take, take-append-drop, take_all, take_at}
use Rattle.std.proofs.lemmas.Option.{none-some, same_Some, slice_get-map}
use Rattle.std.specs.Option.{option_map}
use Rattle.std.specs.Int.Bits.{and_zero_r}
use Rattle.pr_codec.proofs.WordLemmas.{length-word_bytes, word_of-word_bytes}
use Rattle.pr_codec.specs.Words.{word_at}
use Rattle.pr_core.specs.CoreBytes.{memory_kind, section}
use Rattle.pr_core.specs.Gcores.{filled, mapping_record, piece_of, walk_at, walk_on}
use Rattle.pr_core.specs.declared.memory_walks.MemoryWalk.{MemoryWalk}
use Rattle.pr_model.specs.Reads.{mapped_from}
use Rattle.pr_model.specs.Records.{map_entry_of, mapping_name}
use Rattle.pr_num.proofs.NumberLemmas.{unwrapped}
use Rattle.pr_num.proofs.SearchLemmas.{All-at, All-find}
use Rattle.pr_num.specs.Control.{has_flags}
use Rattle.pr_num.specs.Sets.{common_word}
use Rattle.pr_num.specs.Spaces.{IsBefore, IsSpace, Space, byte_for, bytes_for, covers, one_more}
use Rattle.pr_num.specs.Records.{name_field}
use Rattle.pr_num.specs.Spaces.{kind_number}
use Rattle.pr_num.specs.Words.{word_bytes, word_of, words_bytes}
use Rattle.pr_num.specs.declared.mappings.BadByte.{BadByte}
use Rattle.pr_num.specs.declared.mappings.Mapping.{Mapping}
use Rattle.pr_parts.proofs.AccessLemmas.{bytes_for-run, covers-from}
use Rattle.pr_parts.proofs.ByAddressLemmas.{AllPairs-head, AllPairs-tail}
use Rattle.pr_rec.proofs.EntryLemmas.{StandsAt, length-entries, stands_at}
use Rattle.pr_rec.specs.Fields.{name_words}
use Rattle.pr_rec.specs.InRange.{IsMapEntry}
use Rattle.pr_rec.specs.RecordBytes.{map_bytes}
use Rattle.pr_rec.specs.RecordWords.{map_entry_words_of}
use Rattle.pr_rec.specs.declared.mappings.MapEntry.{MapEntry}
use Rattle.pr_core_laws.proofs.OneState.GcoreSteps.{heading_of}

-- The way of gcore through the memory of a process: the bytes that it reads are those of the mappings.

-- the element between two lists
at-seam : {X : Type 0} (xs : List X) (y : X) (ys : List X) → slice_get (xs ++ y ∷ ys) (length xs) ≡ Some y
at-seam [] y ys = refl
at-seam (x ∷ xs) y ys = at-seam xs y ys

-- ---- a run of bytes in one mapping

-- no protection is needed
none-needed : (prot : ℕ) → has_flags prot 0 ≡ true
unfolding has_flags common_word
none-needed prot = rw (and_zero_r prot) refl

uncovered : (a : ℕ) (m : Mapping) → m.at + length m.bytes ≤ a → covers a m ≡ false
uncovered a m high =
    elim (cases_Bool (nat_lt a (m.at + length m.bytes))) [
      | inl below ↦ let less = ltb-true a (m.at + length m.bytes) below in absurd (omega arith)
      | inr not ↦ rw not (no-and (nat_le m.at a))
    ]
  where
    no-and : (b : Bool) → (b && false) ≡ false
    no-and true = refl
    no-and false = refl

-- a mapping among others is found for each of its bytes
found-here : (done rest : Space) (m : Mapping) (a : ℕ) → AllPairs IsBefore (done ++ m ∷ rest) → m.at ≤ a
    → a < m.at + length m.bytes → find (covers a) (done ++ m ∷ rest) ≡ Some m
found-here [] rest m a apart low high = rw (covers-from a m low high) refl
found-here (d ∷ done) rest m a apart low high =
    let found = found-here done rest m a (AllPairs-tail IsBefore d (done ++ m ∷ rest) apart) low high in
    let before : IsBefore d m =
    All-find (IsBefore d) (covers a) (done ++ m ∷ rest) m (AllPairs-head IsBefore d (done ++ m ∷ rest) apart) found in
    let none : covers a d ≡ false = uncovered a d (omega (arith, before, low)) in
    rw none found

mapped-bytes : (space : Space) (a n : ℕ) (bytes : List ℕ) → bytes_for 0 space a n ≡ Ok bytes
    → mapped_from space a n ≡ bytes
unfolding bytes_for mapped_from
mapped-bytes space a zero bytes is = cc
mapped-bytes space a (suc n) bytes is =
    by (byte_for 0 space a) refl (bytes_for 0 space ((a + 1) % 2 ^ 64) n)
    (λ others rest. mapped-bytes space ((a + 1) % 2 ^ 64) n others rest) is
  where
    by : (r : Result ℕ BadByte) → byte_for 0 space a ≡ r → (q : Result (List ℕ) BadByte)
        → ((others : List ℕ) → q ≡ Ok others → mapped_from space ((a + 1) % 2 ^ 64) n ≡ others)
        → one_more r q ≡ Ok bytes → mapped_from space a (suc n) ≡ bytes
    by (Err bad) first q rest it = absurd (cc)
    by (Ok b) first (Err bad) rest it = absurd (cc)
    by (Ok b) first (Ok others) rest it =
        let same : b ∷ others ≡ bytes = cc in
        rw first (ap (λ (bs : List ℕ). b ∷ bs) (rest others refl) ∙ same)

mapped-here : (space done rest : Space) (m : Mapping) (front back : List ℕ) (n : ℕ) → IsSpace space
    → space ≡ done ++ m ∷ rest → m.bytes ≡ front ++ back → n ≤ length back
    → mapped_from space (m.at + length front) n ≡ take n back
mapped-here space done rest m front back n kept whole parts few =
    let a : ℕ = m.at + length front in
    let size : length m.bytes ≡ length front + length back = ap length parts ∙ length-append front back in
    let apart : AllPairs IsBefore (done ++ m ∷ rest) = subst (AllPairs IsBefore) whole kept.apart in
    let found : 0 < n → find (covers a) space ≡ Some m =
    λ some. ap (find (covers a)) whole ∙ found-here done rest m a apart (omega arith) (omega
    (arith, size, few, some)) in
    let limit : m.at + length m.bytes < 2 ^ 64 =
    All-at (λ (x : Mapping). x.at + length x.bytes < 2 ^ 64) space (length done) m
    (ap (λ (x : Space). slice_get x (length done)) whole ∙ at-seam done m rest) kept.within in
    let run =
    bytes_for-run 0 space m a n kept.apart found (none-needed m.prot) (omega arith)
    (omega (arith, size, few)) limit in
    let from : a - m.at ≡ length front = omega arith in
    let behind : drop (a - m.at) m.bytes ≡ back =
    ap (λ (i : ℕ). drop i m.bytes) from ∙ ap (drop (length front)) parts ∙ drop_at front back (length front) refl in
    mapped-bytes space a n (take n (drop (a - m.at) m.bytes)) run ∙ ap (take n) behind

-- so many bytes of an answer that has so many
filled-whole : (n : ℕ) (answer : List ℕ) → length answer ≡ n → filled n answer ≡ answer
unfolding filled
filled-whole n answer size =
    let none : n - length answer ≡ 0 = omega (arith, size) in
    ap (λ (i : ℕ). take n answer ++ replicate i 0) none ∙ append-nil (take n answer)
    ∙ take_all n answer (omega (arith, size))

-- ---- the sections of mappings

unfoldable pub memory_of : Space → List ℕ
memory_of space = flat_map (section memory_kind) (map (λ (m : Mapping). m.bytes) space)

memory-more : (done : Space) (m : Mapping)
    → memory_of (done ++ m ∷ []) ≡ memory_of done ++ section memory_kind m.bytes
unfolding memory_of
memory-more [] m = append-nil (section memory_kind m.bytes)
memory-more (d ∷ done) m =
    ap (λ (bs : List ℕ). section memory_kind d.bytes ++ bs) (memory-more done m)
    ∙ sym (append_assoc (section memory_kind d.bytes) (memory_of done) (section memory_kind m.bytes))

-- the section of a mapping, of which so many bytes stand there
abbrev begun : Mapping → List ℕ → List ℕ
begun m front = word_bytes memory_kind ++ word_bytes (length m.bytes) ++ front

begun-more : (base done : List ℕ) (m : Mapping) (front more : List ℕ)
    → (base ++ done ++ begun m front) ++ more ≡ base ++ done ++ begun m (front ++ more)
begun-more base done m front more =
    append_assoc (base ++ done) (begun m front) more
    ∙ ap (λ (bs : List ℕ). base ++ done ++ bs)
    (append_assoc (word_bytes memory_kind ++ word_bytes (length m.bytes)) front more)

-- ---- the record of a mapping

-- the first two words of bytes that begin with these
first-word : (w : ℕ) (ws more : List ℕ) → w < 2 ^ 64 → word_of (take 8 (words_bytes (w ∷ ws) ++ more)) ≡ w
first-word w ws more small =
    ap (λ (bs : List ℕ). word_of (take 8 bs)) (append_assoc (word_bytes w) (words_bytes ws) more)
    ∙ ap word_of (take_at (word_bytes w) (words_bytes ws ++ more) 8 (length-word_bytes w))
    ∙ word_of-word_bytes w small

second-word : (w v : ℕ) (ws more : List ℕ) → v < 2 ^ 64
    → word_of (take 8 (drop 8 (words_bytes (w ∷ v ∷ ws) ++ more))) ≡ v
second-word w v ws more small =
    ap (λ (bs : List ℕ). word_of (take 8 (drop 8 bs))) (append_assoc (word_bytes w) (words_bytes (v ∷ ws)) more)
    ∙ ap (λ (bs : List ℕ). word_of (take 8 bs))
    (drop_at (word_bytes w) (words_bytes (v ∷ ws) ++ more) 8 (length-word_bytes w))
    ∙ first-word v ws more small

abbrev pub entries_of : List ℕ → Space → List MapEntry
entries_of program space = map (map_entry_of program) space

maps-length : (program : List ℕ) (space : Space) → length (map_bytes (entries_of program space)) ≡ 64 * length space
unfolding map_bytes
maps-length program space =
    length-entries map_entry_words_of 8 (λ _. refl) (entries_of program space)
    ∙ ap (λ (n : ℕ). 8 * 8 * n) (length-map space (map_entry_of program))

abbrev walk_of : Space → Mapping → MemoryWalk
walk_of done m = record { at = 64 * length done; address = m.at; left = length m.bytes }

module _ (program : List ℕ) (space done rest : Space) (m : Mapping) (whole : space ≡ done ++ m ∷ rest)
    (fields : All IsMapEntry (entries_of program space)) where
  entry-there : slice_get (entries_of program space) (length done) ≡ Some (map_entry_of program m)
  entry-there =
      slice_get-map (map_entry_of program) space (length done)
      ∙ ap (option_map (map_entry_of program)) (ap (λ (s : Space). slice_get s (length done)) whole
      ∙ at-seam done m rest)

  entry-words : IsMapEntry (map_entry_of program m)
  entry-words =
      All-at IsMapEntry (entries_of program space) (length done) (map_entry_of program m) entry-there fields

  entry-stands : StandsAt map_entry_words_of 8 (λ _. refl) (entries_of program space) (length done)
      (map_entry_of program m)
  entry-stands =
      stands_at map_entry_words_of 8 (λ _. refl) (entries_of program space) (length done)
      (map_entry_of program m) entry-there

  abbrev text : List ℕ
  text = map_bytes (entries_of program space)

  -- the words of its record behind the first two
  abbrev others : List ℕ
  others = m.prot ∷ kind_number m.kind ∷ name_words (name_field (mapping_name program m.kind))

  address-there : word_at text (64 * length done) ≡ m.at
  unfolding map_bytes map_entry_of
  address-there =
      ap (λ (bs : List ℕ). word_of (take 8 bs)) entry-stands.place
      ∙ first-word m.at (length m.bytes ∷ others) entry-stands.more entry-words.at

  left-there : word_at text (64 * length done + 8) ≡ length m.bytes
  unfolding map_bytes map_entry_of
  left-there =
      ap (λ (bs : List ℕ). word_of (take 8 bs)) (sym (drop-drop 8 (64 * length done) text)
      ∙ ap (drop 8) entry-stands.place)
      ∙ second-word m.at (length m.bytes) others entry-stands.more entry-words.size

  walk-there : walk_at text (64 * length done) ≡ Some (walk_of done m)
  unfolding walk_at
  walk-there =
      let size = maps-length program space in
      let many : length space ≡ length done + suc (length rest) = ap length whole ∙ length-append done (m ∷ rest) in
      let inside : nat_le (64 * length done + mapping_record) (length text) ≡ true =
      le-leb _ _ (omega (arith, size, many)) in
      rw inside (ap (λ (n : ℕ). Some (walk_with n (word_at text (64 * length done + 8)))) address-there
      ∙ ap (λ (n : ℕ). Some (walk_with m.at n)) left-there)
    where
      walk_with : ℕ → ℕ → MemoryWalk
      walk_with address left = record { at = 64 * length done; address = address; left = left }

walk-none : (program : List ℕ) (space : Space)
    → walk_at (map_bytes (entries_of program space)) (64 * length space) ≡ None
unfolding walk_at
walk-none program space =
    let size = maps-length program space in
    let past : nat_le (64 * length space + mapping_record) (length (map_bytes (entries_of program space))) ≡ false =
    lt-leb _ _ (omega (arith, size)) in
    rw past refl

-- ---- on its way

-- gcore is in a mapping: those before it were written, and so many of its bytes
pub record IsInMemory (program : List ℕ) (space : Space) (base maps bytes : List ℕ) (w : MemoryWalk) : Type 0 where
  pub done : Space
  pub here : Mapping
  pub rest : Space
  pub front : List ℕ
  pub back : List ℕ
  pub whole : space ≡ done ++ here ∷ rest
  pub parts : here.bytes ≡ front ++ back
  pub at : w.at ≡ 64 * length done
  pub address : w.address ≡ here.at + length front
  pub left : w.left ≡ length back
  pub maps_are : maps ≡ map_bytes (entries_of program space)
  pub is : bytes ≡ base ++ memory_of done ++ begun here front

module _ (program : List ℕ) (space : Space) (base maps bytes : List ℕ)
    (fields : All IsMapEntry (entries_of program space)) where
  -- so many mappings were written
  pub record HasWritten (at : ℕ) : Type 0 where
    pub done : Space
    pub rest : Space
    pub whole : space ≡ done ++ rest
    pub place : at ≡ 64 * length done
    pub maps_are : maps ≡ map_bytes (entries_of program space)
    pub is : bytes ≡ base ++ memory_of done

  -- the next one comes
  pub written-next : (at : ℕ) (written : HasWritten at) (w : MemoryWalk) → walk_at maps at ≡ Some w
      → IsInMemory program space base maps (bytes ++ heading_of w) w
  written-next at written w now =
      by written.rest written.whole (ap (walk_at maps) (sym written.place) ∙ now)
    where
      by : (rest : Space) → space ≡ written.done ++ rest → walk_at maps (64 * length written.done) ≡ Some w
          → IsInMemory program space base maps (bytes ++ heading_of w) w
      by [] whole next =
          let all : space ≡ written.done = whole ∙ append-nil written.done in
          absurd (none-some w (sym (walk-none program space)
          ∙ ap (λ (x : Space). walk_at (map_bytes (entries_of program space)) (64 * length x)) all
          ∙ ap (λ (bs : List ℕ). walk_at bs (64 * length written.done)) (sym written.maps_are) ∙ next))
      by (m ∷ rest) whole next =
          let is : walk_of written.done m ≡ w =
          same_Some _ w (sym (walk-there program space written.done rest m whole fields)
          ∙ ap (λ (bs : List ℕ). walk_at bs (64 * length written.done)) (sym written.maps_are) ∙ next) in
          record {
            done = written.done;
            here = m;
            rest = rest;
            front = [];
            back = m.bytes;
            whole = whole;
            parts = refl;
            at = ap (λ (x : MemoryWalk). x.at) (sym is);
            address = ap (λ (x : MemoryWalk). x.address) (sym is) ∙ omega arith;
            left = ap (λ (x : MemoryWalk). x.left) (sym is);
            maps_are = written.maps_are;
            is =
                ap (λ (bs : List ℕ). bs ++ heading_of w) written.is
                ∙ ap (λ (x : MemoryWalk). base ++ memory_of written.done ++ heading_of x) (sym is)
                ∙ ap (λ (bs : List ℕ). base ++ memory_of written.done ++ bs)
                (sym (append-nil (heading_of (walk_of written.done m))));
          }

  -- that was the last one
  pub written-all : (at : ℕ) (written : HasWritten at) → walk_at maps at ≡ None → bytes ≡ base ++ memory_of space
  written-all at written now = by written.rest written.whole
    where
      none : walk_at maps (64 * length written.done) ≡ None
      none = ap (walk_at maps) (sym written.place) ∙ now

      by : (rest : Space) → space ≡ written.done ++ rest → bytes ≡ base ++ memory_of space
      by [] whole =
          written.is ∙ ap (λ (x : Space). base ++ memory_of x) (sym (whole ∙ append-nil written.done))
      by (m ∷ rest) whole =
          absurd (none-some (walk_of written.done m)
          (sym none ∙ ap (λ (bs : List ℕ). walk_at bs (64 * length written.done)) written.maps_are
          ∙ walk-there program space written.done rest m whole fields))

-- none is written yet
pub none-written : (program : List ℕ) (space : Space) (base maps bytes : List ℕ)
    (fields : All IsMapEntry (entries_of program space)) → maps ≡ map_bytes (entries_of program space) → bytes ≡ base
    → HasWritten program space base maps bytes fields 0
unfolding memory_of
none-written program space base maps bytes fields are is =
    record { done = []; rest = space; whole = refl; place = refl; maps_are = are; is = is ∙ sym (append-nil base) }

-- ---- a piece of it

module _ (program : List ℕ) (space : Space) (base maps bytes : List ℕ) (w : MemoryWalk)
    (fields : All IsMapEntry (entries_of program space)) (kept : IsSpace space)
    (m : IsInMemory program space base maps bytes w) where
  abbrev size : ℕ
  size = piece_of w

  abbrev answer : List ℕ
  answer = mapped_from space w.address size

  abbrev later : List ℕ
  later = bytes ++ filled size answer

  size-within : size ≤ length m.back
  size-within = let left = m.left in omega (arith, left)

  answer-is : answer ≡ take size m.back
  answer-is =
      ap (λ (a : ℕ). mapped_from space a size) m.address
      ∙ mapped-here space m.done m.rest m.here m.front m.back size kept m.whole m.parts size-within

  filled-is : filled size answer ≡ take size m.back
  filled-is =
      let many = length-take size m.back in
      let within = size-within in
      filled-whole size answer (ap length answer-is ∙ omega (arith, many, within)) ∙ answer-is

  later-is : later ≡ base ++ memory_of m.done ++ begun m.here (m.front ++ take size m.back)
  later-is =
      ap (λ (bs : List ℕ). bytes ++ bs) filled-is
      ∙ ap (λ (bs : List ℕ). bs ++ take size m.back) m.is
      ∙ begun-more base (memory_of m.done) m.here m.front (take size m.back)

  here-limit : m.here.at + length m.here.bytes < 2 ^ 64
  here-limit =
      All-at (λ (x : Mapping). x.at + length x.bytes < 2 ^ 64) space (length m.done) m.here
      (ap (λ (x : Space). slice_get x (length m.done)) m.whole ∙ at-seam m.done m.here m.rest) kept.within

  -- another piece of the same mapping comes
  pub piece-on : (v : MemoryWalk) → walk_on w ≡ Some v → IsInMemory program space base maps later v
  unfolding walk_on
  piece-on v on = by (nat_lt size w.left) refl on
    where
      behind : MemoryWalk
      behind = record { at = w.at; address = (w.address + size) % 2 ^ 64; left = w.left - size }

      by : (b : Bool) → nat_lt size w.left ≡ b → cond b (Some behind) None ≡ Some v
          → IsInMemory program space base maps later v
      by false less is = absurd (none-some v is)
      by true less is =
          let same : behind ≡ v = same_Some behind v is in
          let below = ltb-true size w.left less in
          let left = m.left in
          let address = m.address in
          let limit = here-limit in
          let all : length m.here.bytes ≡ length m.front + length m.back =
          ap length m.parts ∙ length-append m.front m.back in
          let taken : length (take size m.back) ≡ size = length-take size m.back ∙ omega (arith, left, below) in
          let fronts : length (m.front ++ take size m.back) ≡ length m.front + size =
          length-append m.front (take size m.back) ∙ ap (λ (n : ℕ). length m.front + n) taken in
          let unwraps : (w.address + size) % 2 ^ 64 ≡ w.address + size =
          unwrapped (w.address + size) (omega (arith, address, left, below, limit, all)) in
          record {
            done = m.done;
            here = m.here;
            rest = m.rest;
            front = m.front ++ take size m.back;
            back = drop size m.back;
            whole = m.whole;
            parts =
                m.parts ∙ ap (λ (bs : List ℕ). m.front ++ bs) (sym (take-append-drop size m.back))
                ∙ sym (append_assoc m.front (take size m.back) (drop size m.back));
            at = ap (λ (x : MemoryWalk). x.at) (sym same) ∙ m.at;
            address =
                ap (λ (x : MemoryWalk). x.address) (sym same) ∙ unwraps ∙ omega (arith, address, fronts);
            left =
                ap (λ (x : MemoryWalk). x.left) (sym same) ∙ ap (λ (n : ℕ). n - size) m.left
                ∙ sym (length-drop size m.back);
            maps_are = m.maps_are;
            is = later-is;
          }

  -- that was the last piece of it
  pub piece-last : walk_on w ≡ None → HasWritten program space base maps later fields (w.at + mapping_record)
  unfolding walk_on section
  piece-last on = by (nat_lt size w.left) refl on
    where
      behind : MemoryWalk
      behind = record { at = w.at; address = (w.address + size) % 2 ^ 64; left = w.left - size }

      by : (b : Bool) → nat_lt size w.left ≡ b → cond b (Some behind) None ≡ None
          → HasWritten program space base maps later fields (w.at + mapping_record)
      by true less is = absurd (none-some behind (sym is))
      by false less is =
          let high = ltb-false size w.left less in
          let left = m.left in
          let at = m.at in
          let one_more : length (m.done ++ m.here ∷ []) ≡ length m.done + 1 = length-append m.done (m.here ∷ []) in
          let all : m.front ++ take size m.back ≡ m.here.bytes =
          ap (λ (bs : List ℕ). m.front ++ bs) (take_all size m.back (omega (arith, left, high))) ∙ sym m.parts in
          record {
            done = m.done ++ m.here ∷ [];
            rest = m.rest;
            whole = m.whole ∙ sym (append_assoc m.done (m.here ∷ []) m.rest);
            place = omega (arith, at, one_more);
            maps_are = m.maps_are;
            is =
                later-is ∙ ap (λ (bs : List ℕ). base ++ memory_of m.done ++ begun m.here bs) all
                ∙ append_assoc base (memory_of m.done) (begun m.here m.here.bytes)
                ∙ ap (λ (bs : List ℕ). base ++ bs) (sym (memory-more m.done m.here));
          }
