-- The messages of one write, a word after another.
use Rattle.std.specs.Prelude.{◌==◌, ◌+◌, ℕ, Bool, true, false, Option, Some, None, List, [], ◌∷◌, ◌++◌, length, replicate, slice_get, slice_set, Result, Ok, Err, if◌then◌else◌}
use Rattle.pr_num.specs.Messages.{spelling}
use Rattle.pr_num.specs.Sets.{union_word}
use Rattle.pr_num.specs.declared.messages.Message.TheVariants as does
use Rattle.pr_line.specs.Entries.{signal_named, fault_named, call_named}
use Rattle.pr_text.specs.HexWords.{bytes_of_digits}
use Rattle.pr_text.specs.NumberWords.{number_of}
use Rattle.pr_text.specs.Steps.{◌>>=◌, ok_or}
use Rattle.pr_scen.specs.MessageLists.{set_of, modes_of, flag_of}
use Rattle.pr_scen.specs.MessageWords.{message_word_of, operands_of, bytes_of}
use Rattle.pr_scen.specs.declared.message_words.MessageWord.{MessageWord}
use Rattle.pr_scen.specs.declared.message_words.MessageWord.TheVariants.{Run}
use Rattle.pr_scen.specs.declared.message_words.Operand.{Operand}
use Rattle.pr_scen.specs.declared.message_words.Operand.TheVariants.{Number, Hex, Signals, Faults, Calls, Modes}
use Rattle.pr_scen.specs.declared.refusals.ScenKind.{ScenKind}
use Rattle.pr_scen.specs.declared.refusals.ScenKind.TheVariants.{BadOperand, UnknownName}
use Rattle.pr_num.specs.Limits.{all_calls, all_faults, all_signals}

-- What was read of a write so far: the bytes of its messages; the message that has operands to come, with how many came
-- and what they are; whether `run` came last, with its flags so far; and whether a name was in no table. Such a name
-- refuses the line only where no later word is a bad operand.
pub record Writing : Type 0 where
  pub bytes : List ℕ
  pub begun : Option MessageWord
  pub count : ℕ
  pub numbers : List ℕ
  pub run : Option ℕ
  pub unknown : Bool

-- before the first word
abbrev pub nothing_written : Writing
nothing_written = record { bytes = []; begun = None; count = 0; numbers = replicate 11 0; run = None; unknown = false }

-- its message is whole
abbrev pub with_whole : Writing → MessageWord → List ℕ → Writing
with_whole w word tail = record w { bytes = w.bytes ++ bytes_of word w.numbers tail; begun = None; count = 0 }

-- its message is whole, if it has no operand more
abbrev pub unless_more : Writing → MessageWord → Option Operand → Writing
unless_more w word None = with_whole w word []
unless_more w word (Some more) = w

abbrev pub if_whole : Writing → MessageWord → Writing
if_whole w word = unless_more w word (slice_get (operands_of word) w.count)

-- a number more among its operands
unfoldable pub with_number_operand : Writing → MessageWord → ℕ → Writing
with_number_operand w word n =
    if_whole (record w { numbers = slice_set w.numbers w.count n; count = w.count + 1 }) word

-- a set more; a name that is in no table is remembered
abbrev pub with_set : Writing → MessageWord → Result ℕ ScenKind → Result Writing ScenKind
with_set w word (Ok set) = Ok (with_number_operand w word set)
with_set w word (Err UnknownName) = Ok (with_number_operand (record w { unknown = true }) word 0)
with_set w word (Err kind) = Err kind

-- an operand more, a row a form
unfoldable pub operand_read : Writing → MessageWord → List ℕ → Operand → Result Writing ScenKind
operand_read w word text Number = ok_or BadOperand (number_of text) >>= λ n. Ok (with_number_operand w word n)
operand_read w word text Hex = ok_or BadOperand (bytes_of_digits text) >>= λ tail. Ok (with_whole w word tail)
operand_read w word text Signals = with_set w word (set_of signal_named all_signals text)
operand_read w word text Faults = with_set w word (set_of fault_named all_faults text)
operand_read w word text Calls = with_set w word (set_of call_named all_calls text)
operand_read w word text Modes = ok_or BadOperand (modes_of text) >>= λ modes. Ok (with_number_operand w word modes)

-- the run that came last, with its flags, is whole
abbrev pub run_over : Writing → Option ℕ → Writing
run_over w None = w
run_over w (Some flags) = record w { bytes = w.bytes ++ spelling (does.Run flags) []; run = None }

-- a word that begins a message
unfoldable pub message_begun : Writing → MessageWord → Writing
message_begun w Run = record w { run = Some 0 }
message_begun w word = if_whole (record w { begun = Some word; count = 0 }) word

abbrev pub word_begun : Writing → List ℕ → Result Writing ScenKind
word_begun w text = ok_or BadOperand (message_word_of text) >>= λ word. Ok (message_begun (run_over w w.run) word)

-- a word after `run`: a flag of it, or what begins the next message
abbrev pub flag_or_word : Writing → List ℕ → ℕ → Option ℕ → Result Writing ScenKind
flag_or_word w text flags (Some flag) = Ok (record w { run = Some (union_word flags flag) })
flag_or_word w text flags None = word_begun w text

abbrev pub between_messages : Writing → List ℕ → Option ℕ → Result Writing ScenKind
between_messages w text None = word_begun w text
between_messages w text (Some flags) = flag_or_word w text flags (flag_of text)

abbrev pub in_message : Writing → List ℕ → MessageWord → Option Operand → Result Writing ScenKind
in_message w text word None = Err BadOperand
in_message w text word (Some operand) = operand_read w word text operand

abbrev pub word_in : Writing → List ℕ → Option MessageWord → Result Writing ScenKind
word_in w text None = between_messages w text w.run
word_in w text (Some word) = in_message w text word (slice_get (operands_of word) w.count)

-- what one word more makes of it
unfoldable pub word_written : Writing → List ℕ → Result Writing ScenKind
word_written w text = word_in w text w.begun

unfoldable pub words_written : Writing → List (List ℕ) → Result Writing ScenKind
words_written w [] = Ok w
words_written w (text ∷ texts) = word_written w text >>= λ v. words_written v texts

-- No operand is missing, no name was unknown, and there is a message.
abbrev pub whole_bytes : Writing → Result (List ℕ) ScenKind
whole_bytes w = if w.unknown then Err UnknownName else (if length w.bytes == 0 then Err BadOperand else Ok w.bytes)

abbrev pub unless_begun : Writing → Option MessageWord → Result (List ℕ) ScenKind
unless_begun w None = whole_bytes (run_over w w.run)
unless_begun w (Some word) = Err BadOperand

unfoldable pub write_over : Writing → Result (List ℕ) ScenKind
write_over w = unless_begun w w.begun

-- the bytes of the messages that words spell
unfoldable pub messages_of : List (List ℕ) → Result (List ℕ) ScenKind
messages_of texts = words_written nothing_written texts >>= write_over
