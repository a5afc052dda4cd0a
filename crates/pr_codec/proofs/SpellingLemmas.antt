-- What is read as a control message is spelt where it was read.
use Rattle.std.proofs.Common.{◌≡◌, ◌==◌, ◌+◌, ◌-◌, ◌*◌, ◌/◌, ◌<◌, ◌≤◌, ℕ, zero, suc, Bool, true, false, cond, eqb, ltb, List, [], ◌∷◌, ◌++◌, length, replicate, take, drop, get_or, All, Option, None, Some, Result, Ok, Err, IfOk, refl, sym, ap, subst, ◌∙◌, arith, slice_range, ltb-false, eqb-true, length-drop, length-take}
use Rattle.std.specs.List.{list_all}
use Rattle.std.proofs.Math.Seq.{take-add}
use Rattle.std.proofs.lemmas.Bool.{and_parts}
use Rattle.std.proofs.lemmas.List.{drop-take, take-take}
use Rattle.std.proofs.lemmas.List.Elements.{All-nil, All-cons, All-take, All-drop}
use Rattle.pr_num.specs.Words.{IsByte, IsWord, words_bytes, word_of}
use Rattle.pr_num.specs.Messages.{message_code, operands, bad_operand, operand_count, tail_length, padding, spelling, Spells, ◌>>=◌, nth_word, one_word, two_words, three_words, eleven_words, message_read, unless_bad, in_columns, unpadded_length, encoded_length, with_tail, first_message}
use Rattle.pr_num.specs.declared.messages.Message.{Message}
use Rattle.pr_num.specs.declared.messages.Message.TheVariants.{Stop, Dstop, Wstop, Twstop, Run, Csig, Cfault, Ssig, Kill, Unkill, Shold, Strace, Sfault, Sentry, Sexit, Set, Unset, Sreg, Svaddr, Watch, Agent, Read, Write}
use Rattle.pr_num.specs.declared.messages.MsgFault.{MsgFault}
use Rattle.pr_num.specs.declared.messages.MsgFault.TheVariants.{Short, BadOperand}
use Rattle.pr_codec.specs.Words.{word_at}
use Rattle.pr_codec.proofs.WordLemmas.{word_of-below, words_bytes-read}
use Rattle.pr_codec.proofs.MessageLemmas.{each_of}

-- This code and the words behind it are those of a message.
record Stands (bytes : List ℕ) (code : ℕ) (m : Message) : Type 0 where
  code_is : code ≡ message_code m
  words_are : operands m ≡ each_of (operand_count m) (λ k. nth_word bytes (suc k))

-- The row of a code is the message of that code.
module _ (bytes : List ℕ) where
  stands : (code : ℕ) (m : Message) → code ≡ message_code m
      → operands m ≡ each_of (operand_count m) (λ k. nth_word bytes (suc k)) → Stands bytes code m
  stands code m same words = record { code_is = same; words_are = words }

  row : (code k : ℕ) (here other : Result Message MsgFault) → IfOk here (Stands bytes k)
      → IfOk other (Stands bytes code) → IfOk (cond (eqb code k) here other) (Stands bytes code)
  row code k here other h o = by (eqb code k) refl
    where
      by : (b : Bool) → eqb code k ≡ b → IfOk (cond b here other) (Stands bytes code)
      by true e = subst (λ c. IfOk here (Stands bytes c)) (sym (eqb-true code k e)) h
      by false e = o

  enough : {A : Type 0} (b : Bool) (words : A) (make : A → Message) (k : ℕ) → Stands bytes k (make words)
      → IfOk (cond b (Err Short) (Ok words) >>= λ w. Ok (make w)) (Stands bytes k)
  enough true words make k h = tt
  enough false words make k h = h

  one : (k : ℕ) (make : ℕ → Message) → Stands bytes k (make (nth_word bytes 1))
      → IfOk (one_word bytes >>= λ w. Ok (make w)) (Stands bytes k)
  unfolding one_word
  one k make = enough (ltb (length bytes) 16) (nth_word bytes 1) make k

  two : (k : ℕ) (make : ℕ → ℕ → Message) → Stands bytes k (make (nth_word bytes 1) (nth_word bytes 2))
      → IfOk (two_words bytes >>= λ w. Ok (make w.0 w.1)) (Stands bytes k)
  unfolding two_words
  two k make = enough (ltb (length bytes) 24) (nth_word bytes 1, nth_word bytes 2) (λ w. make w.0 w.1) k

  three : (k : ℕ) (make : ℕ → ℕ → ℕ → Message)
      → Stands bytes k (make (nth_word bytes 1) (nth_word bytes 2) (nth_word bytes 3))
      → IfOk (three_words bytes >>= λ w. Ok (make w.0 w.1 w.2)) (Stands bytes k)
  unfolding three_words
  three k make =
      enough (ltb (length bytes) 32) (nth_word bytes 1, nth_word bytes 2, nth_word bytes 3) (λ w. make w.0 w.1 w.2) k

  eleven : (k : ℕ) (make : List ℕ → Message) → Stands bytes k (make (each_of 11 (λ i. nth_word bytes (suc i))))
      → IfOk (eleven_words bytes >>= λ regs. Ok (make regs)) (Stands bytes k)
  unfolding eleven_words
  eleven k make = enough (ltb (length bytes) 96) (each_of 11 (λ i. nth_word bytes (suc i))) make k

  message_read-stands : (code : ℕ) → IfOk (message_read code bytes) (Stands bytes code)
  unfolding message_read message_code operands operand_count
  message_read-stands code =
      row code 1 _ _ (stands 1 Stop refl refl)
      (row code 2 _ _ (stands 2 Dstop refl refl)
      (row code 3 _ _ (stands 3 Wstop refl refl)
      (row code 4 _ _ (one 4 Twstop (stands 4 (Twstop _) refl refl))
      (row code 5 _ _ (one 5 Run (stands 5 (Run _) refl refl))
      (row code 6 _ _ (stands 6 Csig refl refl)
      (row code 7 _ _ (stands 7 Cfault refl refl)
      (row code 8 _ _ (one 8 Ssig (stands 8 (Ssig _) refl refl))
      (row code 9 _ _ (one 9 Kill (stands 9 (Kill _) refl refl))
      (row code 10 _ _ (one 10 Unkill (stands 10 (Unkill _) refl refl))
      (row code 11 _ _ (one 11 Shold (stands 11 (Shold _) refl refl))
      (row code 12 _ _ (one 12 Strace (stands 12 (Strace _) refl refl))
      (row code 13 _ _ (one 13 Sfault (stands 13 (Sfault _) refl refl))
      (row code 14 _ _ (one 14 Sentry (stands 14 (Sentry _) refl refl))
      (row code 15 _ _ (one 15 Sexit (stands 15 (Sexit _) refl refl))
      (row code 16 _ _ (one 16 Set (stands 16 (Set _) refl refl))
      (row code 17 _ _ (one 17 Unset (stands 17 (Unset _) refl refl))
      (row code 18 _ _ (eleven 18 Sreg (stands 18 (Sreg _) refl refl))
      (row code 19 _ _ (one 19 Svaddr (stands 19 (Svaddr _) refl refl))
      (row code 20 _ _ (three 20 Watch (stands 20 (Watch _ _ _) refl refl))
      (row code 21 _ _ (eleven 21 Agent (stands 21 (Agent _) refl refl))
      (row code 22 _ _ (two 22 Read (stands 22 (Read _ _) refl refl))
      (row code 23 _ _ (two 23 Write (stands 23 (Write _ _) refl refl))
      tt))))))))))))))))))))))

-- What holds of a message that was read, and of how many bytes it has.
record WasRead (bytes : List ℕ) (m : Message) (n : ℕ) : Type 0 where
  stood : Stands bytes (nth_word bytes 0) m
  columns : bad_operand m ≡ None
  enough : encoded_length m ≤ length bytes
  zeros : list_all (λ b. b == 0) (slice_range bytes (unpadded_length m) (encoded_length m)) ≡ true
  size : n ≡ encoded_length m

module _ (bytes : List ℕ) where
  abbrev IfRead : Result (Message × ℕ) MsgFault → Type 0
  IfRead r = IfOk r (λ x. WasRead bytes x.0 x.1)

  with_tail-was : (m : Message) → Stands bytes (nth_word bytes 0) m → bad_operand m ≡ None → IfRead (with_tail bytes m)
  unfolding with_tail
  with_tail-was m stood columns = by (ltb (length bytes) (encoded_length m)) refl
    where
      padded : (b : Bool) → list_all (λ x. x == 0) (slice_range bytes (unpadded_length m) (encoded_length m)) ≡ b
          → encoded_length m ≤ length bytes
          → IfRead (cond b (Ok (m, encoded_length m)) (Err (BadOperand (encoded_length m / 8 - 1))))
      padded true e enough = record { stood = stood; columns = columns; enough = enough; zeros = e; size = refl }
      padded false e enough = tt

      by : (b : Bool) → ltb (length bytes) (encoded_length m) ≡ b
          → IfRead
          (cond b (Err Short)
          (cond (list_all (λ x. x == 0) (slice_range bytes (unpadded_length m) (encoded_length m)))
          (Ok (m, encoded_length m)) (Err (BadOperand (encoded_length m / 8 - 1)))))
      by true e = tt
      by false e = padded _ refl (ltb-false _ _ e)

  columns-were : (m : Message) (bad : Option ℕ) → bad_operand m ≡ bad → Stands bytes (nth_word bytes 0) m
      → IfRead (unless_bad m bad >>= with_tail bytes)
  columns-were m None e stood = with_tail-was m stood e
  columns-were m (Some word) e stood = tt

  message-was : (r : Result Message MsgFault) → IfOk r (Stands bytes (nth_word bytes 0))
      → IfRead (r >>= in_columns >>= with_tail bytes)
  unfolding in_columns
  message-was (Ok m) stood = columns-were m (bad_operand m) refl stood
  message-was (Err fault) _ = tt

  first_message-was : IfRead (first_message bytes)
  unfolding first_message
  first_message-was = by (ltb (length bytes) 8)
    where
      by : (b : Bool)
          → IfRead (cond b (Err Short) (message_read (nth_word bytes 0) bytes >>= in_columns >>= with_tail bytes))
      by true = tt
      by false = message-was _ (message_read-stands bytes (nth_word bytes 0))

length-each_of : (n : ℕ) (f : ℕ → ℕ) → length (each_of n f) ≡ n
length-each_of zero f = refl
length-each_of (suc n) f = omega (arith, length-each_of n (λ k. f (suc k)))

get_or-each_of : (n : ℕ) (f : ℕ → ℕ) (k : ℕ) → k < n → get_or (each_of n f) k 0 ≡ f k
get_or-each_of zero f k inside = absurd (omega arith)
get_or-each_of (suc n) f zero inside = refl
get_or-each_of (suc n) f (suc k) inside = get_or-each_of n (λ i. f (suc i)) k (omega arith)

All-each_of : (P : ℕ → Type 0) (n : ℕ) (f : ℕ → ℕ) → ((k : ℕ) → P (f k)) → All P (each_of n f)
All-each_of P zero f each = All-nil P
All-each_of P (suc n) f each =
    All-cons P (f 0) (each_of n (λ k. f (suc k))) (each 0) (All-each_of P n (λ k. f (suc k)) (λ k. each (suc k)))

nth_word-word : (bytes : List ℕ) (k : ℕ) → All IsByte bytes → IsWord (nth_word bytes k)
unfolding nth_word
nth_word-word bytes k small =
    word_of-below (take 8 (drop (8 * k) bytes))
    (All-take IsByte 8 (drop (8 * k) bytes) (All-drop IsByte (8 * k) bytes small))

-- the word at a place among the first words
word_at-take : (bytes : List ℕ) (n k : ℕ) → k < n → word_at (take (8 * n) bytes) (8 * k) ≡ nth_word bytes k
unfolding nth_word
word_at-take bytes n k inside =
    let along : drop (8 * k) (take (8 * n) bytes) ≡ take (8 * n - 8 * k) (drop (8 * k) bytes) =
    ap (λ i. drop (8 * k) (take i bytes)) (omega arith) ∙ drop-take (8 * k) (8 * n - 8 * k) bytes in
    ap word_of (ap (take 8) along ∙ take-take 8 (8 * n - 8 * k) (drop (8 * k) bytes) (omega arith))

-- the first words of bytes have the bytes that stand there
words_bytes-front : (bytes : List ℕ) (n : ℕ) → All IsByte bytes → 8 * n ≤ length bytes
    → words_bytes (each_of n (nth_word bytes)) ≡ take (8 * n) bytes
words_bytes-front bytes n small enough =
    words_bytes-read (each_of n (nth_word bytes)) (take (8 * n) bytes)
    (omega (arith, length-each_of n (nth_word bytes), length-take (8 * n) bytes))
    (All-take IsByte (8 * n) bytes small)
    (λ k inside. let below : k < n = omega (arith, length-each_of n (nth_word bytes)) in
    get_or-each_of n (nth_word bytes) k below ∙ sym (word_at-take bytes n k below))

all_zeros : (xs : List ℕ) → list_all (λ b. b == 0) xs ≡ true → xs ≡ replicate (length xs) 0
all_zeros [] e = refl
all_zeros (x ∷ xs) e =
    let both = and_parts (eqb x 0) (list_all (λ b. b == 0) xs) e in
    let first : x ≡ 0 = eqb-true x 0 both.0 in
    let others = all_zeros xs both.1 in
    ap (λ y. y ∷ xs) first ∙ ap (λ ys. 0 ∷ ys) others

-- What was read is spelt by the bytes that it has.
module _ (bytes : List ℕ) (m : Message) (n : ℕ) (small : All IsByte bytes) (was : WasRead bytes m n) where
  tail_of : List ℕ
  tail_of = take (tail_length m) (drop (8 * (1 + operand_count m)) bytes)

  length-tail_of : length tail_of ≡ tail_length m
  unfolding tail_of encoded_length unpadded_length
  length-tail_of =
      omega (
        arith,
        was.enough,
        length-take (tail_length m) (drop (8 * (1 + operand_count m)) bytes),
        length-drop (8 * (1 + operand_count m)) bytes,
      )

  words-front : words_bytes (message_code m ∷ operands m) ≡ take (8 * (1 + operand_count m)) bytes
  unfolding encoded_length unpadded_length
  words-front =
      let stood = was.stood in
      let words : message_code m ∷ operands m ≡ each_of (suc (operand_count m)) (nth_word bytes) =
      ap (λ code. code ∷ operands m) (sym stood.code_is) ∙ ap (λ ws. nth_word bytes 0 ∷ ws) stood.words_are in
      let count : suc (operand_count m) ≡ 1 + operand_count m = omega arith in
      ap words_bytes words ∙ words_bytes-front bytes (suc (operand_count m)) small (omega (arith, was.enough))
      ∙ ap (λ k. take (8 * k) bytes) count

  padding-zeros : take (padding (tail_length m)) (drop (unpadded_length m) bytes)
      ≡ replicate (padding (tail_length m)) 0
  unfolding encoded_length
  padding-zeros =
      let p : encoded_length m - unpadded_length m ≡ padding (tail_length m) = omega arith in
      let zeros : list_all (λ b. b == 0) (take (padding (tail_length m)) (drop (unpadded_length m) bytes)) ≡ true =
      ap (λ k. list_all (λ b. b == 0) (take k (drop (unpadded_length m) bytes))) (sym p) ∙ was.zeros in
      let size : length (take (padding (tail_length m)) (drop (unpadded_length m) bytes)) ≡ padding (tail_length m) =
      omega (
        arith,
        was.enough,
        length-take (padding (tail_length m)) (drop (unpadded_length m) bytes),
        length-drop (unpadded_length m) bytes,
      ) in
      all_zeros (take (padding (tail_length m)) (drop (unpadded_length m) bytes)) zeros ∙ ap (λ k. replicate k 0) size

  spelt-here : take n bytes ≡ spelling m tail_of
  unfolding tail_of encoded_length unpadded_length
  spelt-here =
      let front : List ℕ = take (8 * (1 + operand_count m)) bytes in
      let parts : take n bytes
      ≡ take (unpadded_length m) bytes ++ take (padding (tail_length m)) (drop (unpadded_length m) bytes) =
      ap (λ k. take k bytes) was.size ∙ take-add (unpadded_length m) (padding (tail_length m)) bytes in
      let unpadded : take (unpadded_length m) bytes ≡ words_bytes (message_code m ∷ operands m) ++ tail_of =
      take-add (8 * (1 + operand_count m)) (tail_length m) bytes ∙ ap (λ words. words ++ tail_of) (sym words-front) in
      let pad : take (padding (tail_length m)) (drop (unpadded_length m) bytes)
      ≡ replicate (padding (length tail_of)) 0 =
      padding-zeros ∙ ap (λ (k : ℕ). replicate (padding k) 0) (sym length-tail_of) in
      parts ∙ ap (λ front. front ++ take (padding (tail_length m)) (drop (unpadded_length m) bytes)) unpadded
      ∙ ap (λ zeros. words_bytes (message_code m ∷ operands m) ++ tail_of ++ zeros) pad

  spells-here : Spells (take n bytes) m tail_of
  unfolding tail_of
  spells-here =
      let stood = was.stood in
      record {
        words = subst (All IsWord) (sym stood.words_are)
            (All-each_of IsWord (operand_count m) _ (λ k. nth_word-word bytes (suc k) small));
        count = ap length stood.words_are ∙ length-each_of (operand_count m) _;
        columns = was.columns;
        tail_bytes =
            All-take IsByte (tail_length m) (drop (8 * (1 + operand_count m)) bytes)
            (All-drop IsByte (8 * (1 + operand_count m)) bytes small);
        tail_fits = length-tail_of;
        spelt = spelt-here;
      }

  read-here : (n ≤ length bytes) × ((tail : List ℕ) × Spells (take n bytes) m tail)
  read-here = (omega (arith, was.enough, was.size), (tail_of, spells-here))

pub read_is_spelt : (bytes : List ℕ) (m : Message) (n : ℕ) → All IsByte bytes → first_message bytes ≡ Ok (m, n)
    → (n ≤ length bytes) × ((tail : List ℕ) × Spells (take n bytes) m tail)
read_is_spelt bytes m n small read =
    let was : WasRead bytes m n = subst (λ r. IfOk r (λ x. WasRead bytes x.0 x.1)) read (first_message-was bytes) in
    read-here bytes m n small was
