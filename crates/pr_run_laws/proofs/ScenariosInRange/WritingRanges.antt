-- What a script writes is bytes: messages are spelled in bytes, and hex digits are those of bytes.
use Rattle.std.proofs.Common.{ℕ, ◌+◌, true, Option, Some, None, List, [], ◌∷◌, ◌++◌, length, replicate, slice_get, slice_set, Result, Ok, Err, arith}
use Rattle.std.specs.List.{All}
use Rattle.std.specs.Result.{IfOk}
use Rattle.std.specs.Prelude.{◌==◌}
use Rattle.std.proofs.lemmas.List.Elements.{All-from_recursion, All-nil, All-append, All-replicate}
use Rattle.pr_codec.proofs.WordLemmas.{AreBytes-words_bytes}
use Rattle.pr_line.specs.Entries.{signal_named, fault_named, call_named}
use Rattle.pr_num.specs.Limits.{all_calls, all_faults, all_signals}
use Rattle.pr_num.specs.Messages.{message_code, operands, padding, spelling}
use Rattle.pr_num.specs.Words.{IsByte, words_bytes}
use Rattle.pr_num.specs.declared.messages.Message.{Message}
use Rattle.pr_num.specs.declared.messages.Message.TheVariants as does
use Rattle.pr_scen.proofs.StepLemmas.{if_ok, then_ok, of_ok, ok_some}
use Rattle.pr_scen.specs.MessageLists.{flag_of, modes_of, set_of}
use Rattle.pr_scen.specs.MessageWords.{bytes_of, bytes_with, message_bytes, message_of, message_word_of, operands_of}
use Rattle.pr_scen.specs.Messages.{Writing, nothing_written, with_whole, unless_more, with_number_operand, with_set, operand_read, run_over, message_begun, word_begun, flag_or_word, between_messages, in_message, word_in, word_written, words_written, whole_bytes, unless_begun, write_over, messages_of}
use Rattle.pr_scen.specs.declared.message_words.MessageWord.{MessageWord}
use Rattle.pr_scen.specs.declared.message_words.MessageWord.TheVariants as word
use Rattle.pr_scen.specs.declared.message_words.Operand.{Operand}
use Rattle.pr_scen.specs.declared.message_words.Operand.TheVariants.{Number, Hex, Signals, Faults, Calls, Modes}
use Rattle.pr_scen.specs.declared.refusals.ScenKind.{ScenKind}
use Rattle.pr_scen.specs.declared.refusals.ScenKind.TheVariants.{BadOperand, UnknownName}
use Rattle.pr_text.proofs.HexLemmas.{bytes_of_digits-bytes}
use Rattle.pr_text.specs.HexWords.{bytes_of_digits}
use Rattle.pr_text.specs.NumberWords.{number_of}
use Rattle.pr_text.specs.Steps.{ok_or}

-- ---- messages

spelling-bytes : (m : Message) (tail : List ℕ) → All IsByte tail → All IsByte (spelling m tail)
spelling-bytes m tail small =
    let words = words_bytes (message_code m ∷ operands m) in
    All-append IsByte (words ++ tail) (replicate (padding (length tail)) 0)
    (All-append IsByte words tail (AreBytes-words_bytes (message_code m ∷ operands m)) small)
    (All-replicate IsByte (padding (length tail)) 0 (omega arith))

bytes_with-bytes : (w : MessageWord) (n tail : List ℕ) → All IsByte tail → All IsByte (bytes_with w n tail)
unfolding bytes_with
bytes_with-bytes word.Write n tail small = spelling-bytes _ tail small
bytes_with-bytes _ n tail small = small

of_message : (w : MessageWord) (n tail : List ℕ) (o : Option Message) → All IsByte tail
    → All IsByte (message_bytes w n tail o)
of_message w n tail (Some m) small = spelling-bytes m [] (All-nil IsByte)
of_message w n tail None small = bytes_with-bytes w n tail small

bytes_of-bytes : (w : MessageWord) (n tail : List ℕ) → All IsByte tail → All IsByte (bytes_of w n tail)
unfolding bytes_of
bytes_of-bytes w n tail small = of_message w n tail (message_of w n) small

-- ---- a word after another

-- what was read of a write so far is bytes
record IsOfBytes (w : Writing) : Type 0 where
  bytes : All IsByte w.bytes

whole : (w : Writing) (m : MessageWord) (tail : List ℕ) → All IsByte tail → IsOfBytes w
    → IsOfBytes (with_whole w m tail)
whole w m tail small s = record {
  bytes = All-append IsByte w.bytes (bytes_of m w.numbers tail) s.bytes (bytes_of-bytes m w.numbers tail small);
}

maybe_whole : (w : Writing) (m : MessageWord) (more : Option Operand) → IsOfBytes w → IsOfBytes (unless_more w m more)
maybe_whole w m None s = whole w m [] (All-nil IsByte) s
maybe_whole w m (Some more) s = s

number_more : (w : Writing) (m : MessageWord) (n : ℕ) → IsOfBytes w → IsOfBytes (with_number_operand w m n)
unfolding with_number_operand
number_more w m n s =
    maybe_whole (record w { numbers = slice_set w.numbers w.count n; count = w.count + 1 }) m
    (slice_get (operands_of m) (w.count + 1)) (record { bytes = s.bytes })

set_more : (w : Writing) (m : MessageWord) (r : Result ℕ ScenKind) → IsOfBytes w → IfOk (with_set w m r) IsOfBytes
set_more w m (Ok set) s = number_more w m set s
set_more w m (Err UnknownName) s = number_more (record w { unknown = true }) m 0 (record { bytes = s.bytes })
set_more w m (Err _) s = tt

operand_more : (w : Writing) (m : MessageWord) (text : List ℕ) (o : Operand) → IsOfBytes w
    → IfOk (operand_read w m text o) IsOfBytes
unfolding operand_read
operand_more w m text Number s =
    then_ok IsOfBytes (ok_or BadOperand (number_of text)) (λ n. Ok (with_number_operand w m n))
    (λ n _. number_more w m n s)
operand_more w m text Hex s =
    then_ok IsOfBytes (ok_or BadOperand (bytes_of_digits text)) (λ tail. Ok (with_whole w m tail))
    (λ tail is. whole w m tail
    (All-from_recursion IsByte tail
    (bytes_of_digits-bytes text tail (ok_some BadOperand (bytes_of_digits text) tail is))) s)
operand_more w m text Signals s = set_more w m (set_of signal_named all_signals text) s
operand_more w m text Faults s = set_more w m (set_of fault_named all_faults text) s
operand_more w m text Calls s = set_more w m (set_of call_named all_calls text) s
operand_more w m text Modes s =
    then_ok IsOfBytes (ok_or BadOperand (modes_of text)) (λ modes. Ok (with_number_operand w m modes))
    (λ modes _. number_more w m modes s)

run_whole : (w : Writing) (o : Option ℕ) → IsOfBytes w → IsOfBytes (run_over w o)
run_whole w None s = s
run_whole w (Some flags) s = record {
  bytes =
      All-append IsByte w.bytes (spelling (does.Run flags) []) s.bytes
      (spelling-bytes (does.Run flags) [] (All-nil IsByte));
}

begun_with : (w : Writing) (m : MessageWord) → IsOfBytes w → IsOfBytes (message_begun w m)
unfolding message_begun
begun_with w word.Run s = record { bytes = s.bytes }
begun_with w m s =
    maybe_whole (record w { begun = Some m; count = 0 }) m (slice_get (operands_of m) 0) (record { bytes = s.bytes })

word_more : (w : Writing) (text : List ℕ) → IsOfBytes w → IfOk (word_begun w text) IsOfBytes
word_more w text s =
    then_ok IsOfBytes (ok_or BadOperand (message_word_of text)) (λ m. Ok (message_begun (run_over w w.run) m))
    (λ m _. begun_with (run_over w w.run) m (run_whole w w.run s))

flag_more : (w : Writing) (text : List ℕ) (flags : ℕ) (o : Option ℕ) → IsOfBytes w
    → IfOk (flag_or_word w text flags o) IsOfBytes
flag_more w text flags (Some flag) s = record { bytes = s.bytes }
flag_more w text flags None s = word_more w text s

between_more : (w : Writing) (text : List ℕ) (o : Option ℕ) → IsOfBytes w → IfOk (between_messages w text o) IsOfBytes
between_more w text None s = word_more w text s
between_more w text (Some flags) s = flag_more w text flags (flag_of text) s

inside_more : (w : Writing) (text : List ℕ) (m : MessageWord) (o : Option Operand) → IsOfBytes w
    → IfOk (in_message w text m o) IsOfBytes
inside_more w text m None s = tt
inside_more w text m (Some operand) s = operand_more w m text operand s

text_more : (w : Writing) (text : List ℕ) (o : Option MessageWord) → IsOfBytes w → IfOk (word_in w text o) IsOfBytes
text_more w text None s = between_more w text w.run s
text_more w text (Some m) s = inside_more w text m (slice_get (operands_of m) w.count) s

texts_more : (w : Writing) (texts : List (List ℕ)) → IsOfBytes w → IfOk (words_written w texts) IsOfBytes
unfolding words_written word_written
texts_more w [] s = s
texts_more w (text ∷ texts) s =
    then_ok IsOfBytes (word_written w text) (λ v. words_written v texts)
    (λ v is. texts_more v texts (of_ok IsOfBytes (word_written w text) v is (text_more w text w.begun s)))

-- ---- the bytes of a write

whole_out : (w : Writing) → IsOfBytes w → IfOk (whole_bytes w) (All IsByte)
whole_out w s =
    if_ok (All IsByte) w.unknown _ _ (λ _. tt)
    (λ _. if_ok (All IsByte) (length w.bytes == 0) _ _ (λ _. tt) (λ _. s.bytes))

begun_out : (w : Writing) (o : Option MessageWord) → IsOfBytes w → IfOk (unless_begun w o) (All IsByte)
begun_out w None s = whole_out (run_over w w.run) (run_whole w w.run s)
begun_out w (Some m) s = tt

pub messages-bytes : (texts : List (List ℕ)) → IfOk (messages_of texts) (All IsByte)
unfolding messages_of write_over
messages-bytes texts =
    then_ok (All IsByte) (words_written nothing_written texts) write_over
    (λ w is. begun_out w w.begun
    (of_ok IsOfBytes (words_written nothing_written texts) w is
    (texts_more nothing_written texts (record { bytes = All-nil IsByte }))))
