-- Each form begins with a word of its own.
use Rattle.std.proofs.Common.{◌≡◌, ◌≢◌, ℕ, zero, suc, ◌/◌, ◌%◌, Bool, true, false, eqb, List, [], ◌∷◌, refl, sym, ap, ◌∙◌, arith}
use Rattle.std.specs.Prelude.{nat_le, decimal}
use Rattle.std.proofs.lemmas.Bool.{false≢true}
use Rattle.std.proofs.lemmas.Bool.Decides.{nat_tests}
use Rattle.std.specs.Fmt.{digits, digits_onto, digit_glyph}
use Rattle.std.specs.Str.{bytes_eq}
use Rattle.pr_model.specs.declared.calls.Call.{Call}
use Rattle.pr_model.specs.declared.calls.Call.TheVariants as call
use Rattle.pr_model.specs.declared.calls.Reply.{Reply}
use Rattle.pr_model.specs.declared.calls.Reply.TheVariants as reply
use Rattle.pr_model.specs.declared.events.Did.{Did}
use Rattle.pr_model.specs.declared.events.Did.TheVariants.{Stopped}
use Rattle.pr_plain.specs.Forms.{first_word, same_call, same_did, same_reply}
use Rattle.pr_plain.specs.HistoryText.{did_words, call_words, reply_words}
use Rattle.pr_num.proofs.BoolLemmas.{either}

pub calls_told : (c d : Call) → bytes_eq (first_word (call_words c)) (first_word (call_words d)) ≡ same_call c d
unfolding call_words same_call
calls_told call.List call.List = refl
calls_told _ call.List = refl
calls_told _ _ = refl

pub turns_told : (c d : Did) → bytes_eq (first_word (did_words c)) (first_word (did_words d)) ≡ same_did c d
unfolding did_words same_did
turns_told Stopped Stopped = refl
turns_told _ Stopped = refl
turns_told _ _ = refl

pub replies_told : (c d : Reply) → bytes_eq (first_word (reply_words c)) (first_word (reply_words d)) ≡ same_reply c d
unfolding reply_words same_reply
replies_told reply.Done reply.Done = refl
replies_told _ reply.Done = refl
replies_told _ _ = refl

pub calls_and_turns_told : (c : Call) (d : Did)
    → bytes_eq (first_word (call_words c)) (first_word (did_words d)) ≡ false
unfolding call_words did_words
calls_and_turns_told call.List Stopped = refl
calls_and_turns_told _ Stopped = refl
calls_and_turns_told _ _ = refl

-- ---- a time is told from a call and a turn by its first byte

abbrev begins_low : List ℕ → Bool
begins_low [] = false
begins_low (b ∷ bs) = nat_le b 57

glyph_low : (n : ℕ) → nat_le (digit_glyph false (n % 10)) 57 ≡ true
glyph_low n = grind (arith, nat_tests)

onto_low : (k n : ℕ) (acc : List ℕ) → begins_low (digits_onto (suc k) 10 false n acc) ≡ true
onto_low zero n acc =
    either (λ (w : List ℕ). begins_low w ≡ true) (eqb (n / 10) 0) (digit_glyph false (n % 10) ∷ acc)
    (digit_glyph false (n % 10) ∷ acc) (glyph_low n) (glyph_low n)
onto_low (suc k) n acc =
    either (λ (w : List ℕ). begins_low w ≡ true) (eqb (n / 10) 0) (digit_glyph false (n % 10) ∷ acc)
    (digits_onto (suc k) 10 false (n / 10) (digit_glyph false (n % 10) ∷ acc)) (glyph_low n)
    (onto_low k (n / 10) (digit_glyph false (n % 10) ∷ acc))

decimal_low : (n : ℕ) → begins_low (decimal n) ≡ true
unfolding digits
decimal_low n = onto_low 63 n []

call_high : (c : Call) → begins_low (first_word (call_words c)) ≡ false
unfolding call_words
call_high call.List = refl
call_high _ = refl

did_high : (d : Did) → begins_low (first_word (did_words d)) ≡ false
unfolding did_words
did_high Stopped = refl
did_high _ = refl

pub calls_and_times_told : (c : Call) (n : ℕ) → first_word (call_words c) ≢ decimal n
calls_and_times_told c n same =
    false≢true (sym (call_high c) ∙ ap begins_low same ∙ decimal_low n)

pub turns_and_times_told : (d : Did) (n : ℕ) → first_word (did_words d) ≢ decimal n
turns_and_times_told d n same =
    false≢true (sym (did_high d) ∙ ap begins_low same ∙ decimal_low n)

pub ruleset forms_told =
    (calls_told, turns_told, replies_told, calls_and_turns_told, calls_and_times_told, turns_and_times_told)
