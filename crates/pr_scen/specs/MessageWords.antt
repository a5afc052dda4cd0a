-- The words that control messages begin with, and their operands.
use Rattle.std.specs.Prelude.{ℕ, Option, Some, None, List, [], ◌∷◌, codes, find, length, slice_index}
use Rattle.std.specs.Str.{bytes_eq}
use Rattle.pr_num.specs.Messages.{spelling}
use Rattle.pr_num.specs.declared.messages.Message.{Message}
use Rattle.pr_num.specs.declared.messages.Message.TheVariants as does
use Rattle.pr_scen.specs.declared.message_words.MessageWord.{MessageWord}
use Rattle.pr_scen.specs.declared.message_words.MessageWord.TheVariants.{Stop, Dstop, Wstop, Twstop, Run, Csig, Cfault, Ssig, Kill, Unkill, Shold, Strace, Sfault, Sentry, Sexit, Set, Unset, Sreg, Svaddr, Watch, Agent, Read, Write, Raw}
use Rattle.pr_scen.specs.declared.message_words.Operand.{Operand}
use Rattle.pr_scen.specs.declared.message_words.Operand.TheVariants.{Number, Hex, Signals, Faults, Calls, Modes}

abbrev pub message_words : List MessageWord
message_words =
    Stop ∷ Dstop ∷ Wstop ∷ Twstop ∷ Run ∷ Csig ∷ Cfault ∷ Ssig ∷ Kill ∷ Unkill ∷ Shold ∷ Strace ∷ Sfault ∷ Sentry
    ∷ Sexit ∷ Set ∷ Unset ∷ Sreg ∷ Svaddr ∷ Watch ∷ Agent ∷ Read ∷ Write ∷ Raw ∷ []

-- how a message is written
unfoldable pub message_name : MessageWord → List ℕ
message_name Stop = codes "stop"
message_name Dstop = codes "dstop"
message_name Wstop = codes "wstop"
message_name Twstop = codes "twstop"
message_name Run = codes "run"
message_name Csig = codes "csig"
message_name Cfault = codes "cfault"
message_name Ssig = codes "ssig"
message_name Kill = codes "kill"
message_name Unkill = codes "unkill"
message_name Shold = codes "shold"
message_name Strace = codes "strace"
message_name Sfault = codes "sfault"
message_name Sentry = codes "sentry"
message_name Sexit = codes "sexit"
message_name Set = codes "set"
message_name Unset = codes "unset"
message_name Sreg = codes "sreg"
message_name Svaddr = codes "svaddr"
message_name Watch = codes "watch"
message_name Agent = codes "agent"
message_name Read = codes "read"
message_name Write = codes "write"
message_name Raw = codes "raw"

-- the message that a word begins
unfoldable pub message_word_of : List ℕ → Option MessageWord
message_word_of word = find (λ m. bytes_eq word (message_name m)) message_words

-- the registers r0 to r7, sp, fp and pc
abbrev pub registers : List Operand
registers = Number ∷ Number ∷ Number ∷ Number ∷ Number ∷ Number ∷ Number ∷ Number ∷ Number ∷ Number ∷ Number ∷ []

-- the operands of a message, in their order; `run` may have any of the run flags after it besides
unfoldable pub operands_of : MessageWord → List Operand
operands_of Stop = []
operands_of Dstop = []
operands_of Wstop = []
operands_of Twstop = Number ∷ []
operands_of Run = []
operands_of Csig = []
operands_of Cfault = []
operands_of Ssig = Number ∷ []
operands_of Kill = Number ∷ []
operands_of Unkill = Number ∷ []
operands_of Shold = Signals ∷ []
operands_of Strace = Signals ∷ []
operands_of Sfault = Faults ∷ []
operands_of Sentry = Calls ∷ []
operands_of Sexit = Calls ∷ []
operands_of Set = Modes ∷ []
operands_of Unset = Modes ∷ []
operands_of Sreg = registers
operands_of Svaddr = Number ∷ []
operands_of Watch = Number ∷ Number ∷ Number ∷ []
operands_of Agent = registers
operands_of Read = Number ∷ Number ∷ []
operands_of Write = Number ∷ Hex ∷ []
operands_of Raw = Hex ∷ []

-- The message of a word with these operands. None: `write` and `raw`, which have bytes.
unfoldable pub message_of : MessageWord → List ℕ → Option Message
message_of Stop n = Some does.Stop
message_of Dstop n = Some does.Dstop
message_of Wstop n = Some does.Wstop
message_of Twstop n = Some (does.Twstop (slice_index n 0))
message_of Run n = Some (does.Run 0)
message_of Csig n = Some does.Csig
message_of Cfault n = Some does.Cfault
message_of Ssig n = Some (does.Ssig (slice_index n 0))
message_of Kill n = Some (does.Kill (slice_index n 0))
message_of Unkill n = Some (does.Unkill (slice_index n 0))
message_of Shold n = Some (does.Shold (slice_index n 0))
message_of Strace n = Some (does.Strace (slice_index n 0))
message_of Sfault n = Some (does.Sfault (slice_index n 0))
message_of Sentry n = Some (does.Sentry (slice_index n 0))
message_of Sexit n = Some (does.Sexit (slice_index n 0))
message_of Set n = Some (does.Set (slice_index n 0))
message_of Unset n = Some (does.Unset (slice_index n 0))
message_of Sreg n = Some (does.Sreg n)
message_of Svaddr n = Some (does.Svaddr (slice_index n 0))
message_of Watch n = Some (does.Watch (slice_index n 0) (slice_index n 1) (slice_index n 2))
message_of Agent n = Some (does.Agent n)
message_of Read n = Some (does.Read (slice_index n 0) (slice_index n 1))
message_of Write n = None
message_of Raw n = None

-- the bytes of a message that has bytes: PCWRITE, or those of `raw` as they are
unfoldable pub bytes_with : MessageWord → List ℕ → List ℕ → List ℕ
bytes_with Write n tail = spelling (does.Write (slice_index n 0) (length tail)) tail
bytes_with _ n tail = tail

abbrev pub message_bytes : MessageWord → List ℕ → List ℕ → Option Message → List ℕ
message_bytes word n tail (Some m) = spelling m []
message_bytes word n tail None = bytes_with word n tail

-- the bytes of a message with these operands, and with these bytes
unfoldable pub bytes_of : MessageWord → List ℕ → List ℕ → List ℕ
bytes_of word n tail = message_bytes word n tail (message_of word n)
