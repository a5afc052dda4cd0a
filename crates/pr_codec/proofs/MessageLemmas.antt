-- What holds of the bytes of control messages: a spelling is read as what it spells, and what is read is spelt so.
use Rattle.std.proofs.Common.{◌≡◌, ◌==◌, ◌+◌, ◌-◌, ◌*◌, ◌^◌, ◌<◌, ◌≤◌, ℕ, zero, suc, true, false, ltb, List, [], ◌∷◌, ◌++◌, length, replicate, take, drop, get_or, All, None, Result, Ok, refl, sym, ap, ◌∙◌, arith, le-ltb, length-append, length-drop}
use Rattle.std.specs.List.{list_all}
use Rattle.std.proofs.lemmas.List.{append_assoc, append-nil, drop-append-le, take-append-le, drop_at, take_at, length-replicate, nil_from_length}
use Rattle.std.proofs.lemmas.Option.{same_Some}
use Rattle.std.specs.Result.{result_ok}
use Rattle.std.proofs.lemmas.List.Elements.{All-cons, All-replicate}
use Rattle.std.proofs.lemmas.List.Sums.{list_all-from_AllPass}
use Rattle.pr_num.specs.Words.{IsWord, words_bytes, word_of}
use Rattle.pr_num.specs.Messages.{message_code, operands, bad_operand, operand_count, tail_length, padding, spelling, Spells, ◌>>=◌, nth_word, one_word, two_words, three_words, eleven_words, message_read, in_columns, unpadded_length, encoded_length, with_tail, first_message}
use Rattle.pr_num.specs.declared.messages.Message.{Message}
use Rattle.pr_num.specs.declared.messages.Message.TheVariants.{Stop, Dstop, Wstop, Twstop, Run, Csig, Cfault, Ssig, Kill, Unkill, Shold, Strace, Sfault, Sentry, Sexit, Set, Unset, Sreg, Svaddr, Watch, Agent, Read, Write}
use Rattle.pr_num.specs.declared.messages.MsgFault.{MsgFault}
use Rattle.pr_codec.proofs.WordLemmas.{length-words_bytes, word_at-words_bytes}

-- A spelling is read as what it spells.

-- words at the front of bytes are read as they were written
nth_word-words : (words more : List ℕ) (k : ℕ) → All IsWord words → k < length words
    → nth_word (words_bytes words ++ more) k ≡ get_or words k 0
unfolding nth_word
nth_word-words words more k fit inside =
    let at_place : drop (8 * k) (words_bytes words ++ more) ≡ drop (8 * k) (words_bytes words) ++ more =
    drop-append-le (8 * k) (words_bytes words) more (omega (arith, length-words_bytes words)) in
    let whole : take 8 (drop (8 * k) (words_bytes words) ++ more) ≡ take 8 (drop (8 * k) (words_bytes words)) =
    take-append-le 8 (drop (8 * k) (words_bytes words)) more
    (omega (arith, length-words_bytes words, length-drop (8 * k) (words_bytes words))) in
    ap word_of (ap (take 8) at_place ∙ whole) ∙ word_at-words_bytes words k fit inside

-- as many bytes as the words have are not too few
not_short : (words more : List ℕ) (n : ℕ) → n ≤ 8 * length words → ltb (length (words_bytes words ++ more)) n ≡ false
not_short words more n fits =
    le-ltb (length (words_bytes words ++ more)) n
    (omega (arith, length-append (words_bytes words) more, length-words_bytes words))

one_word-words : (code w : ℕ) (more : List ℕ) → All IsWord (code ∷ w ∷ [])
    → one_word (words_bytes (code ∷ w ∷ []) ++ more) ≡ Ok w
unfolding one_word
one_word-words code w more fit =
    rw (not_short (code ∷ w ∷ []) more 16 (omega arith), nth_word-words (code ∷ w ∷ []) more 1 fit (omega arith))

two_words-words : (code v w : ℕ) (more : List ℕ) → All IsWord (code ∷ v ∷ w ∷ [])
    → two_words (words_bytes (code ∷ v ∷ w ∷ []) ++ more) ≡ Ok (v, w)
unfolding two_words
two_words-words code v w more fit =
    rw (
      not_short (code ∷ v ∷ w ∷ []) more 24 (omega arith),
      nth_word-words (code ∷ v ∷ w ∷ []) more 1 fit (omega arith),
      nth_word-words (code ∷ v ∷ w ∷ []) more 2 fit (omega arith),
    )

three_words-words : (code u v w : ℕ) (more : List ℕ) → All IsWord (code ∷ u ∷ v ∷ w ∷ [])
    → three_words (words_bytes (code ∷ u ∷ v ∷ w ∷ []) ++ more) ≡ Ok (u, v, w)
unfolding three_words
three_words-words code u v w more fit =
    rw (
      not_short (code ∷ u ∷ v ∷ w ∷ []) more 32 (omega arith),
      nth_word-words (code ∷ u ∷ v ∷ w ∷ []) more 1 fit (omega arith),
      nth_word-words (code ∷ u ∷ v ∷ w ∷ []) more 2 fit (omega arith),
      nth_word-words (code ∷ u ∷ v ∷ w ∷ []) more 3 fit (omega arith),
    )

-- the values of a function at the first places
abbrev pub each_of : ℕ → (ℕ → ℕ) → List ℕ
each_of zero f = []
each_of (suc n) f = f 0 ∷ each_of n (λ k. f (suc k))

pub each_of-elements : (xs : List ℕ) (f : ℕ → ℕ) → ((k : ℕ) → k < length xs → f k ≡ get_or xs k 0)
    → each_of (length xs) f ≡ xs
each_of-elements [] f each = refl
each_of-elements (x ∷ xs) f each =
    let here : f 0 ≡ x = each 0 (omega arith) in
    let others = each_of-elements xs (λ k. f (suc k)) (λ k inside. each (suc k) (omega arith)) in
    cc

eleven_words-words : (code : ℕ) (regs more : List ℕ) → length regs ≡ 11 → All IsWord (code ∷ regs)
    → eleven_words (words_bytes (code ∷ regs) ++ more) ≡ Ok regs
unfolding eleven_words
eleven_words-words code regs more eleven fit =
    let all : each_of (length regs) (λ k. nth_word (words_bytes (code ∷ regs) ++ more) (suc k)) ≡ regs =
    each_of-elements regs _ (λ k inside. nth_word-words (code ∷ regs) more (suc k) fit (omega arith)) in
    let those : each_of 11 (λ k. nth_word (words_bytes (code ∷ regs) ++ more) (suc k)) ≡ regs =
    ap (λ n. each_of n (λ k. nth_word (words_bytes (code ∷ regs) ++ more) (suc k))) (sym eleven) ∙ all in
    rw (not_short (code ∷ regs) more 96 (omega arith)) (ap Ok those)

-- each code is that of its message, whose operand words stand behind it
message_read-spelt : (m : Message) (more : List ℕ) → All IsWord (message_code m ∷ operands m)
    → length (operands m) ≡ operand_count m
    → message_read (message_code m) (words_bytes (message_code m ∷ operands m) ++ more) ≡ Ok m
unfolding message_read message_code operands operand_count
message_read-spelt Stop more fit count = refl
message_read-spelt Dstop more fit count = refl
message_read-spelt Wstop more fit count = refl
message_read-spelt (Twstop ms) more fit count = ap (λ r. r >>= λ w. Ok (Twstop w)) (one_word-words 4 ms more fit)
message_read-spelt (Run flags) more fit count = ap (λ r. r >>= λ w. Ok (Run w)) (one_word-words 5 flags more fit)
message_read-spelt Csig more fit count = refl
message_read-spelt Cfault more fit count = refl
message_read-spelt (Ssig signal) more fit count = ap (λ r. r >>= λ w. Ok (Ssig w)) (one_word-words 8 signal more fit)
message_read-spelt (Kill signal) more fit count = ap (λ r. r >>= λ w. Ok (Kill w)) (one_word-words 9 signal more fit)
message_read-spelt (Unkill signal) more fit count =
    ap (λ r. r >>= λ w. Ok (Unkill w)) (one_word-words 10 signal more fit)
message_read-spelt (Shold signals) more fit count =
    ap (λ r. r >>= λ w. Ok (Shold w)) (one_word-words 11 signals more fit)
message_read-spelt (Strace signals) more fit count =
    ap (λ r. r >>= λ w. Ok (Strace w)) (one_word-words 12 signals more fit)
message_read-spelt (Sfault faults) more fit count =
    ap (λ r. r >>= λ w. Ok (Sfault w)) (one_word-words 13 faults more fit)
message_read-spelt (Sentry calls) more fit count = ap (λ r. r >>= λ w. Ok (Sentry w)) (one_word-words 14 calls more fit)
message_read-spelt (Sexit calls) more fit count = ap (λ r. r >>= λ w. Ok (Sexit w)) (one_word-words 15 calls more fit)
message_read-spelt (Set modes) more fit count = ap (λ r. r >>= λ w. Ok (Set w)) (one_word-words 16 modes more fit)
message_read-spelt (Unset modes) more fit count = ap (λ r. r >>= λ w. Ok (Unset w)) (one_word-words 17 modes more fit)
message_read-spelt (Sreg regs) more fit count =
    ap (λ r. r >>= λ w. Ok (Sreg w)) (eleven_words-words 18 regs more count fit)
message_read-spelt (Svaddr pc) more fit count = ap (λ r. r >>= λ w. Ok (Svaddr w)) (one_word-words 19 pc more fit)
message_read-spelt (Watch at size flags) more fit count =
    ap (λ r. r >>= λ w. Ok (Watch w.0 w.1 w.2)) (three_words-words 20 at size flags more fit)
message_read-spelt (Agent regs) more fit count =
    ap (λ r. r >>= λ w. Ok (Agent w)) (eleven_words-words 21 regs more count fit)
message_read-spelt (Read at len) more fit count =
    ap (λ r. r >>= λ w. Ok (Read w.0 w.1)) (two_words-words 22 at len more fit)
message_read-spelt (Write at len) more fit count =
    ap (λ r. r >>= λ w. Ok (Write w.0 w.1)) (two_words-words 23 at len more fit)

-- a code fits in a word
message_code-word : (m : Message) → message_code m < 24
unfolding message_code
message_code-word Stop = omega arith
message_code-word Dstop = omega arith
message_code-word Wstop = omega arith
message_code-word (Twstop ms) = omega arith
message_code-word (Run flags) = omega arith
message_code-word Csig = omega arith
message_code-word Cfault = omega arith
message_code-word (Ssig signal) = omega arith
message_code-word (Kill signal) = omega arith
message_code-word (Unkill signal) = omega arith
message_code-word (Shold signals) = omega arith
message_code-word (Strace signals) = omega arith
message_code-word (Sfault faults) = omega arith
message_code-word (Sentry calls) = omega arith
message_code-word (Sexit calls) = omega arith
message_code-word (Set modes) = omega arith
message_code-word (Unset modes) = omega arith
message_code-word (Sreg regs) = omega arith
message_code-word (Svaddr pc) = omega arith
message_code-word (Watch at size flags) = omega arith
message_code-word (Agent regs) = omega arith
message_code-word (Read at len) = omega arith
message_code-word (Write at len) = omega arith

are_zeros : (n : ℕ) → list_all (λ b. b == 0) (replicate n 0) ≡ true
are_zeros n = list_all-from_AllPass (λ b. b == 0) (replicate n 0) (All-replicate (λ b. (b == 0) ≡ true) n 0 refl)

length-spelling : (m : Message) (tail : List ℕ) → length (operands m) ≡ operand_count m → length tail ≡ tail_length m
    → length (spelling m tail) ≡ encoded_length m
unfolding encoded_length unpadded_length
length-spelling m tail count fits =
    let front = length-append (words_bytes (message_code m ∷ operands m)) tail in
    let whole =
    length-append (words_bytes (message_code m ∷ operands m) ++ tail) (replicate (padding (length tail)) 0) in
    let words = length-words_bytes (message_code m ∷ operands m) in
    let zeros : length (replicate {A = ℕ} (padding (length tail)) 0) ≡ padding (length tail) =
    length-replicate (padding (length tail)) 0 in
    let same : padding (length tail) ≡ padding (tail_length m) = ap (λ (n : ℕ). padding n) fits in
    omega arith

with_tail-spelt : (m : Message) (tail rest : List ℕ) → length (operands m) ≡ operand_count m
    → length tail ≡ tail_length m → with_tail (spelling m tail ++ rest) m ≡ Ok (m, encoded_length m)
unfolding with_tail encoded_length unpadded_length
with_tail-spelt m tail rest count fits =
    let front : List ℕ = words_bytes (message_code m ∷ operands m) ++ tail in
    let zeros : List ℕ = replicate (padding (length tail)) 0 in
    let words = length-words_bytes (message_code m ∷ operands m) in
    let unpadded : length (words_bytes (message_code m ∷ operands m) ++ tail) ≡ unpadded_length m =
    length-append (words_bytes (message_code m ∷ operands m)) tail ∙ omega arith in
    let size = length-spelling m tail count fits in
    let same : padding (length tail) ≡ padding (tail_length m) = ap (λ (n : ℕ). padding n) fits in
    let long : ltb (length (spelling m tail ++ rest)) (encoded_length m) ≡ false =
    le-ltb (length (spelling m tail ++ rest)) (encoded_length m)
    (omega (arith, length-append (spelling m tail) rest)) in
    let behind : drop (unpadded_length m) (spelling m tail ++ rest) ≡ zeros ++ rest =
    ap (drop (unpadded_length m)) (append_assoc front zeros rest)
    ∙ drop_at front (zeros ++ rest) (unpadded_length m) unpadded in
    let padded : take (encoded_length m - unpadded_length m) (zeros ++ rest) ≡ zeros =
    take_at zeros rest (encoded_length m - unpadded_length m)
    (length-replicate (padding (length tail)) 0 ∙ same ∙ omega arith) in
    rw (long, behind, padded, are_zeros (padding (length tail)))

-- Each spelling is read as what it spells, whatever follows it.
spelling-read : (m : Message) (tail rest : List ℕ) → All IsWord (operands m) → length (operands m) ≡ operand_count m
    → bad_operand m ≡ None → length tail ≡ tail_length m
    → first_message (spelling m tail ++ rest) ≡ Ok (m, encoded_length m)
unfolding first_message in_columns
spelling-read m tail rest fit count columns fits =
    let zeros : List ℕ = replicate (padding (length tail)) 0 in
    let code : message_code m < 2 ^ 64 = omega (arith, message_code-word m) in
    let words : All IsWord (message_code m ∷ operands m) = All-cons IsWord (message_code m) (operands m) code fit in
    let whole : spelling m tail ++ rest ≡ words_bytes (message_code m ∷ operands m) ++ (tail ++ (zeros ++ rest)) =
    append_assoc (words_bytes (message_code m ∷ operands m) ++ tail) zeros rest
    ∙ append_assoc (words_bytes (message_code m ∷ operands m)) tail (zeros ++ rest) in
    let long : ltb (length (spelling m tail ++ rest)) 8 ≡ false =
    ap (λ bytes. ltb (length bytes) 8) whole
    ∙ not_short (message_code m ∷ operands m) (tail ++ (zeros ++ rest)) 8 (omega arith) in
    let first : nth_word (spelling m tail ++ rest) 0 ≡ message_code m =
    ap (λ bytes. nth_word bytes 0) whole
    ∙ nth_word-words (message_code m ∷ operands m) (tail ++ (zeros ++ rest)) 0 words (omega arith) in
    let read : message_read (message_code m) (spelling m tail ++ rest) ≡ Ok m =
    ap (message_read (message_code m)) whole ∙ message_read-spelt m (tail ++ (zeros ++ rest)) words count in
    rw (long, first, read, columns, with_tail-spelt m tail rest count fits)

pub spelt_is_read : (bytes rest : List ℕ) (m : Message) (tail : List ℕ) → Spells bytes m tail
    → first_message (bytes ++ rest) ≡ Ok (m, length bytes)
spelt_is_read bytes rest m tail s =
    let size : length bytes ≡ encoded_length m = ap length s.spelt ∙ length-spelling m tail s.count s.tail_fits in
    ap (λ front. first_message (front ++ rest)) s.spelt
    ∙ spelling-read m tail rest s.words s.count s.columns s.tail_fits ∙ ap (λ (n : ℕ). Ok (m, n)) (sym size)

-- The same answer is the same message, of the same length.
same_answer : (m n : Message) (j k : ℕ) → ◌≡◌ {A = Result (Message × ℕ) MsgFault} (Ok (m, j)) (Ok (n, k))
    → (m ≡ n) × (j ≡ k)
same_answer m n j k e =
    let both : ◌≡◌ {A = Message × ℕ} (m, j) (n, k) = same_Some (m, j) (n, k) (ap result_ok e) in
    (ap (λ (p : Message × ℕ). p.0) both, ap (λ (p : Message × ℕ). p.1) both)

-- the bytes behind the operands stand in their place
spelt_tail : (bytes : List ℕ) (m : Message) (tail : List ℕ) → Spells bytes m tail
    → tail ≡ take (tail_length m) (drop (8 * (1 + operand_count m)) bytes)
spelt_tail bytes m tail s =
    let words : List ℕ = words_bytes (message_code m ∷ operands m) in
    let zeros : List ℕ = replicate (padding (length tail)) 0 in
    let size : length words ≡ 8 * (1 + operand_count m) =
    length-words_bytes (message_code m ∷ operands m) ∙ omega (arith, s.count) in
    let behind : drop (8 * (1 + operand_count m)) bytes ≡ tail ++ zeros =
    ap (drop (8 * (1 + operand_count m))) (s.spelt ∙ append_assoc words tail zeros)
    ∙ drop_at words (tail ++ zeros) (8 * (1 + operand_count m)) size in
    sym (take_at tail zeros (tail_length m) s.tail_fits) ∙ ap (take (tail_length m)) (sym behind)

pub one_message : (a : List ℕ) (m n : Message) (s t : List ℕ) → Spells a m s → Spells a n t → (m ≡ n) × (s ≡ t)
one_message a m n s t x y =
    let same : m ≡ n =
    (same_answer m n (length a) (length a) (sym (spelt_is_read a [] m s x) ∙ spelt_is_read a [] n t y)).0 in (
      same,
      spelt_tail a m s x ∙ ap (λ (l : Message). take (tail_length l) (drop (8 * (1 + operand_count l)) a)) same
          ∙ sym (spelt_tail a n t y),
    )

pub one_spelling : (a b : List ℕ) (m : Message) (t : List ℕ) → Spells a m t → Spells b m t → a ≡ b
one_spelling a b m t x y = x.spelt ∙ sym y.spelt

pub begins_another : (a b rest : List ℕ) (m n : Message) (s t : List ℕ) → Spells a m s → Spells b n t → a ++ rest ≡ b
    → (a ≡ b) × (m ≡ n)
begins_another a b rest m n s t x y begins =
    let other : first_message (a ++ rest) ≡ Ok (n, length b) =
    ap first_message (begins ∙ sym (append-nil b)) ∙ spelt_is_read b [] n t y in
    let same = same_answer m n (length a) (length b) (sym (spelt_is_read a rest m s x) ∙ other) in
    let nothing : rest ≡ [] = nil_from_length rest (omega (arith, same.1, length-append a rest, ap length begins)) in
    (sym (append-nil a) ∙ ap (λ more. a ++ more) (sym nothing) ∙ begins, same.0)

pub ruleset readings = (spelt_is_read)
