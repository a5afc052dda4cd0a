use Rattle.std.proofs.Common.{◌≡◌, ◌↔◌, ◌≤◌, ℕ, Bool, true, false, cond, ltb, List, None, Result, Ok, Err, length, refl, sym, ap, subst, ◌==◌, ◌/◌, ◌-◌, arith}
use Rattle.std.specs.List.{list_all, slice_range}
use Rattle.std.specs.Result.{IfOk}
use Rattle.std.proofs.lemmas.Bool.{ltb-false}
use Rattle.pr_num.specs.Messages.{bad_operand, encoded_length, first_message, in_columns, message_read, nth_word, unpadded_length, with_tail, ◌>>=◌}
use Rattle.pr_num.specs.declared.messages.Message.{Message}
use Rattle.pr_num.specs.declared.messages.MsgFault.{MsgFault}
use Rattle.pr_num.specs.declared.messages.MsgFault.TheVariants.{Short, BadOperand}
use Rattle.pr_msg.specs.Beginnings.{BeginsWith}

-- ---- the operands of the message with which bytes begin lie in their columns

pub columns : (bytes : List ℕ) (r : Result (Message × ℕ) MsgFault)
    → ((m : Message) (n : ℕ) → (r ≡ Ok (m, n)) ↔ BeginsWith bytes m n) → IfOk r (λ first. bad_operand first.0 ≡ None)
columns bytes (Ok (m, n)) begins = ((begins m n).0 refl).spelt.columns
columns bytes (Err fault) begins = tt

-- ---- its bytes to write are there

abbrev Read : Type 0
Read = Result (Message × ℕ) MsgFault

abbrev first : Message → ℕ → Read
first m n = Ok (m, n)

same_first : (a b : Message) (m n : ℕ) → first a m ≡ first b n → a ≡ b
same_first a b m n e =
    let x : Message × ℕ = (a, m) in
    let y : Message × ℕ = (b, n) in
    ap (λ (p : Message × ℕ). p.0) (same_Ok x y e)
  where
    same_Ok : (x y : Message × ℕ) → (let r : Read = Ok x in r) ≡ Ok y → x ≡ y
    same_Ok x y e = cc

with_tail-fits : (bytes : List ℕ) (k m : Message) (n : ℕ) → with_tail bytes k ≡ first m n
    → unpadded_length m ≤ length bytes
unfolding with_tail encoded_length
with_tail-fits bytes k m n e =
    of (ltb (length bytes) (encoded_length k)) refl
    (list_all (λ b. b == 0) (slice_range bytes (unpadded_length k) (encoded_length k))) (encoded_length k / 8 - 1) e
  where
    fits : (r : Bool) (word : ℕ) → ltb (length bytes) (encoded_length k) ≡ false
        → cond r (first k (encoded_length k)) (Err (BadOperand word)) ≡ first m n → unpadded_length m ≤ length bytes
    fits true word long e =
        let enough = ltb-false (length bytes) (encoded_length k) long in
        let less : unpadded_length k ≤ length bytes = omega arith in
        subst (λ j. unpadded_length j ≤ length bytes) (same_first k m (encoded_length k) n e) less
    fits false word long e = absurd (cc)

    of : (b : Bool) → ltb (length bytes) (encoded_length k) ≡ b → (r : Bool) (word : ℕ)
        → cond b (Err Short) (cond r (first k (encoded_length k)) (Err (BadOperand word))) ≡ first m n
        → unpadded_length m ≤ length bytes
    of true short r word e = absurd (cc)
    of false long r word e = fits r word long e

then_fits : (bytes : List ℕ) (q : Result Message MsgFault) (m : Message) (n : ℕ) → (q >>= with_tail bytes) ≡ Ok (m, n)
    → unpadded_length m ≤ length bytes
then_fits bytes (Ok k) m n e = with_tail-fits bytes k m n e
then_fits bytes (Err fault) m n e = absurd (cc)

fits : (bytes : List ℕ) (m : Message) (n : ℕ) → first_message bytes ≡ Ok (m, n) → unpadded_length m ≤ length bytes
unfolding first_message
fits bytes m n = of (ltb (length bytes) 8)
  where
    of : (b : Bool)
        → cond b (Err Short) ((message_read (nth_word bytes 0) bytes >>= in_columns) >>= with_tail bytes) ≡ Ok (m, n)
        → unpadded_length m ≤ length bytes
    of true e = absurd (cc)
    of false e = then_fits bytes (message_read (nth_word bytes 0) bytes >>= in_columns) m n e

pub tail_fits : (bytes : List ℕ) (r : Result (Message × ℕ) MsgFault) → r ≡ first_message bytes
    → IfOk r (λ first. unpadded_length first.0 ≤ length bytes)
tail_fits bytes (Ok (m, n)) e = fits bytes m n (sym e)
tail_fits bytes (Err fault) e = tt
