use Rattle.std.specs.Prelude.{◌≡◌, ◌==◌, ◌||◌, ◌&&◌, ◌+◌, ◌-◌, ◌*◌, ◌%◌, ◌^◌, ℕ, not, List, [], ◌∷◌, ◌++◌, length, replicate, take, drop, All, Option, Some, None, nat_lt, nat_le, if◌then◌else◌, Result, Ok, Err, ◌/◌, slice_range}
use Rattle.std.specs.List.{list_all}
use Rattle.pr_num.specs.Limits.{fault_count, message_bytes_limit, signal_count, syscall_count, wait_limit}
use Rattle.pr_num.specs.Words.{word_of, words_bytes, IsWord, IsByte}
use Rattle.pr_num.specs.declared.messages.Message.{Message}
use Rattle.pr_num.specs.declared.messages.MsgFault.{MsgFault}
use Rattle.pr_num.specs.declared.messages.MsgFault.TheVariants.{Short, UnknownOp, BadOperand}
use Rattle.pr_num.specs.declared.messages.Message.TheVariants.{Stop, Dstop, Wstop, Twstop, Run, Csig, Cfault, Ssig, Kill, Unkill, Shold, Strace, Sfault, Sentry, Sexit, Set, Unset, Sreg, Svaddr, Watch, Agent, Read, Write}

-- Control messages as bytes (proc(4)). A message is encoded as its code word, its operand words and, for PCWRITE, the
-- bytes to write, padded with zeros to a multiple of 8.

-- the code of a message
unfoldable pub message_code : Message → ℕ
message_code Stop = 1
message_code Dstop = 2
message_code Wstop = 3
message_code (Twstop ms) = 4
message_code (Run flags) = 5
message_code Csig = 6
message_code Cfault = 7
message_code (Ssig signal) = 8
message_code (Kill signal) = 9
message_code (Unkill signal) = 10
message_code (Shold signals) = 11
message_code (Strace signals) = 12
message_code (Sfault faults) = 13
message_code (Sentry calls) = 14
message_code (Sexit calls) = 15
message_code (Set modes) = 16
message_code (Unset modes) = 17
message_code (Sreg regs) = 18
message_code (Svaddr pc) = 19
message_code (Watch at size flags) = 20
message_code (Agent regs) = 21
message_code (Read at len) = 22
message_code (Write at len) = 23

-- the operand words after the code
unfoldable pub operands : Message → List ℕ
operands Stop = []
operands Dstop = []
operands Wstop = []
operands (Twstop ms) = ms ∷ []
operands (Run flags) = flags ∷ []
operands Csig = []
operands Cfault = []
operands (Ssig signal) = signal ∷ []
operands (Kill signal) = signal ∷ []
operands (Unkill signal) = signal ∷ []
operands (Shold signals) = signals ∷ []
operands (Strace signals) = signals ∷ []
operands (Sfault faults) = faults ∷ []
operands (Sentry calls) = calls ∷ []
operands (Sexit calls) = calls ∷ []
operands (Set modes) = modes ∷ []
operands (Unset modes) = modes ∷ []
operands (Sreg regs) = regs
operands (Svaddr pc) = pc ∷ []
operands (Watch at size flags) = at ∷ size ∷ flags ∷ []
operands (Agent regs) = regs
operands (Read at len) = at ∷ len ∷ []
operands (Write at len) = at ∷ len ∷ []

-- Which operand word of a message is the first that lies outside its column, if one does; the words of a message are
-- counted from its code, which is word 0. An area to be watched has at least one byte, all below 2^64, and flags of
-- which more than TRAPAFTER is set; with no flags the words ask to clear an area.
unfoldable pub bad_operand : Message → Option ℕ
bad_operand Stop = None
bad_operand Dstop = None
bad_operand Wstop = None
bad_operand (Twstop ms) = if nat_le ms wait_limit then None else Some 1
bad_operand (Run flags) = if nat_lt flags 32 then None else Some 1
bad_operand Csig = None
bad_operand Cfault = None
bad_operand (Ssig signal) = if nat_le signal signal_count then None else Some 1
bad_operand (Kill signal) = if nat_le 1 signal && nat_le signal signal_count then None else Some 1
bad_operand (Unkill signal) =
    if (nat_le 1 signal && nat_le signal signal_count) && not (signal == 9) then None else Some 1
bad_operand (Shold signals) = if nat_lt signals (2 ^ signal_count) then None else Some 1
bad_operand (Strace signals) = if nat_lt signals (2 ^ signal_count) then None else Some 1
bad_operand (Sfault faults) = if nat_lt faults (2 ^ fault_count) then None else Some 1
bad_operand (Sentry calls) = if nat_lt calls (2 ^ syscall_count) then None else Some 1
bad_operand (Sexit calls) = if nat_lt calls (2 ^ syscall_count) then None else Some 1
bad_operand (Set modes) = if nat_lt modes 16 then None else Some 1
bad_operand (Unset modes) = if nat_lt modes 16 then None else Some 1
bad_operand (Sreg regs) = None
bad_operand (Svaddr pc) = None
bad_operand (Watch at size flags) =
    if flags == 0 then None
    else (if (size == 0) || nat_lt (2 ^ 64) (at + size) then Some 2
    else (if nat_lt flags 16 && not (flags == 8) then None else Some 3))
bad_operand (Agent regs) = None
bad_operand (Read at len) = if nat_le 1 len && nat_le len message_bytes_limit then None else Some 2
bad_operand (Write at len) = if nat_le 1 len && nat_le len message_bytes_limit then None else Some 2

-- how many operand words a message has
unfoldable pub operand_count : Message → ℕ
operand_count Stop = 0
operand_count Dstop = 0
operand_count Wstop = 0
operand_count (Twstop ms) = 1
operand_count (Run flags) = 1
operand_count Csig = 0
operand_count Cfault = 0
operand_count (Ssig signal) = 1
operand_count (Kill signal) = 1
operand_count (Unkill signal) = 1
operand_count (Shold signals) = 1
operand_count (Strace signals) = 1
operand_count (Sfault faults) = 1
operand_count (Sentry calls) = 1
operand_count (Sexit calls) = 1
operand_count (Set modes) = 1
operand_count (Unset modes) = 1
operand_count (Sreg regs) = 11
operand_count (Svaddr pc) = 1
operand_count (Watch at size flags) = 3
operand_count (Agent regs) = 11
operand_count (Read at len) = 2
operand_count (Write at len) = 2

-- how many bytes stand after the operand words of a message, the padding aside
unfoldable pub tail_length : Message → ℕ
tail_length (Write at len) = len
tail_length _ = 0

-- how many zeros pad so many bytes to a multiple of 8
abbrev pub padding : ℕ → ℕ
padding len = (8 - len % 8) % 8

-- the bytes that encode a message with this tail after its operands
abbrev pub spelling : Message → List ℕ → List ℕ
spelling m tail = words_bytes (message_code m ∷ operands m) ++ tail ++ replicate (padding (length tail)) 0

-- The wire format of control messages: these bytes encode this message with this tail after its operands. No operand
-- lies outside its column, and after the operands stand the bytes that the message speaks of, and zeros up to a
-- multiple of 8.
pub record Spells (bytes : List ℕ) (m : Message) (tail : List ℕ) : Type 0 where
  pub words : All IsWord (operands m)
  pub count : length (operands m) ≡ operand_count m
  pub columns : bad_operand m ≡ None
  pub tail_bytes : All IsByte tail
  pub tail_fits : length tail ≡ tail_length m
  pub spelt : bytes ≡ spelling m tail

-- Reading. What is read, or the first fault.
infixl 10 ◌>>=◌
abbrev pub ◌>>=◌ : {A B : Type 0} → Result A MsgFault → (A → Result B MsgFault) → Result B MsgFault
(Ok x) >>= f = f x
(Err e) >>= f = Err e

-- the word at a place, counted in words
unfoldable pub nth_word : List ℕ → ℕ → ℕ
nth_word bytes place = word_of (take 8 (drop (8 * place) bytes))

-- the operand words after a code, where there are enough bytes for them
unfoldable pub one_word : List ℕ → Result ℕ MsgFault
one_word bytes = if nat_lt (length bytes) 16 then Err Short else Ok (nth_word bytes 1)

unfoldable pub two_words : List ℕ → Result (ℕ × ℕ) MsgFault
two_words bytes = if nat_lt (length bytes) 24 then Err Short else Ok (nth_word bytes 1, nth_word bytes 2)

unfoldable pub three_words : List ℕ → Result (ℕ × ℕ × ℕ) MsgFault
three_words bytes =
    if nat_lt (length bytes) 32 then Err Short else Ok (nth_word bytes 1, nth_word bytes 2, nth_word bytes 3)

-- the registers r0 to r7, sp, fp and pc
unfoldable pub eleven_words : List ℕ → Result (List ℕ) MsgFault
eleven_words bytes =
    if nat_lt (length bytes) 96 then Err Short
    else Ok (nth_word bytes 1 ∷ nth_word bytes 2 ∷ nth_word bytes 3 ∷ nth_word bytes 4 ∷ nth_word bytes 5
    ∷ nth_word bytes 6
    ∷ nth_word bytes 7 ∷ nth_word bytes 8 ∷ nth_word bytes 9 ∷ nth_word bytes 10 ∷ nth_word bytes 11 ∷ [])

-- the message of a code, with the operand words that stand there: a row a code
unfoldable pub message_read : ℕ → List ℕ → Result Message MsgFault
message_read code bytes =
    if code == 1 then Ok Stop
    else (if code == 2 then Ok Dstop
    else (if code == 3 then Ok Wstop
    else (if code == 4 then (one_word bytes >>= λ ms. Ok (Twstop ms))
    else (if code == 5 then (one_word bytes >>= λ flags. Ok (Run flags))
    else (if code == 6 then Ok Csig
    else (if code == 7 then Ok Cfault
    else (if code == 8 then (one_word bytes >>= λ signal. Ok (Ssig signal))
    else (if code == 9 then (one_word bytes >>= λ signal. Ok (Kill signal))
    else (if code == 10 then (one_word bytes >>= λ signal. Ok (Unkill signal))
    else (if code == 11 then (one_word bytes >>= λ signals. Ok (Shold signals))
    else (if code == 12 then (one_word bytes >>= λ signals. Ok (Strace signals))
    else (if code == 13 then (one_word bytes >>= λ faults. Ok (Sfault faults))
    else (if code == 14 then (one_word bytes >>= λ calls. Ok (Sentry calls))
    else (if code == 15 then (one_word bytes >>= λ calls. Ok (Sexit calls))
    else (if code == 16 then (one_word bytes >>= λ modes. Ok (Set modes))
    else (if code == 17 then (one_word bytes >>= λ modes. Ok (Unset modes))
    else (if code == 18 then (eleven_words bytes >>= λ regs. Ok (Sreg regs))
    else (if code == 19 then (one_word bytes >>= λ pc. Ok (Svaddr pc))
    else (if code == 20 then (three_words bytes >>= λ w. Ok (Watch w.0 w.1 w.2))
    else (if code == 21 then (eleven_words bytes >>= λ regs. Ok (Agent regs))
    else (if code == 22 then (two_words bytes >>= λ w. Ok (Read w.0 w.1))
    else (if code == 23 then (two_words bytes >>= λ w. Ok (Write w.0 w.1))
    else Err UnknownOp))))))))))))))))))))))

-- the first operand outside its column refuses the message
abbrev pub unless_bad : Message → Option ℕ → Result Message MsgFault
unless_bad m None = Ok m
unless_bad m (Some word) = Err (BadOperand word)

unfoldable pub in_columns : Message → Result Message MsgFault
in_columns m = unless_bad m (bad_operand m)

-- how many bytes encode a message, the padding aside, and in all
unfoldable pub unpadded_length : Message → ℕ
unpadded_length m = 8 * (1 + operand_count m) + tail_length m

unfoldable pub encoded_length : Message → ℕ
encoded_length m = unpadded_length m + padding (tail_length m)

-- After the operands the bytes that the message speaks of have to be there, and the padding has to be zeros. It stands
-- in the last word.
unfoldable pub with_tail : List ℕ → Message → Result (Message × ℕ) MsgFault
with_tail bytes m =
    if nat_lt (length bytes) (encoded_length m) then Err Short
    else (if list_all (λ b. b == 0) (slice_range bytes (unpadded_length m) (encoded_length m))
    then Ok (m, encoded_length m)
    else Err (BadOperand (encoded_length m / 8 - 1)))

-- the message with which bytes begin, and how many of them encode it
unfoldable pub first_message : List ℕ → Result (Message × ℕ) MsgFault
first_message bytes =
    if nat_lt (length bytes) 8 then Err Short
    else (message_read (nth_word bytes 0) bytes >>= in_columns >>= with_tail bytes)
