-- Control messages in words (proc(4), "Control messages"): a name and operands, in the units of the manual page.
use Rattle.std.specs.Prelude.{ℕ, zero, suc, ◌==◌, List, [], ◌∷◌, ◌++◌, Option, Some, None, Result, Ok, Err, codes, length, take, drop, slice_index, if◌then◌else◌}
use Rattle.pr_num.specs.Faults.{fault_name, fault_number, faults}
use Rattle.pr_num.specs.Limits.{fault_count, signal_count, syscall_count}
use Rattle.pr_num.specs.Messages.{first_message}
use Rattle.pr_num.specs.Signals.{signal_name, signal_number, signal_of_number, signals}
use Rattle.pr_num.specs.Syscalls.{syscall_name, syscall_number, syscalls}
use Rattle.pr_num.specs.declared.messages.Message.{Message}
use Rattle.pr_num.specs.declared.messages.Message.TheVariants.{Stop, Dstop, Wstop, Twstop, Run, Csig, Cfault, Ssig, Kill, Unkill, Shold, Strace, Sfault, Sentry, Sexit, Set, Unset, Sreg, Svaddr, Watch, Agent, Read, Write}
use Rattle.pr_num.specs.declared.messages.MsgFault.{MsgFault}
use Rattle.pr_num.specs.declared.signals.Sig.{Sig}
use Rattle.pr_text.specs.Numerals.{hex_text}
use Rattle.pr_hist.specs.Listings.{Listing, place_text}
use Rattle.pr_hist.specs.Phrases.{phrase}
use Rattle.pr_hist.specs.declared.phrases.Phrase.TheVariants.{NoMessage}
use Rattle.pr_hist.specs.Flags.{modes_text, run_flags_text, watch_flags_text}
use Rattle.pr_hist.specs.Sets.{set_word_text}
use Rattle.pr_hist.specs.Texts.{bytes_text, number_text, size_text, time_text}

-- the name of a message, a row a message
unfoldable pub message_name : Message → List ℕ
message_name Stop = codes "PCSTOP"
message_name Dstop = codes "PCDSTOP"
message_name Wstop = codes "PCWSTOP"
message_name (Twstop ms) = codes "PCTWSTOP"
message_name (Run flags) = codes "PCRUN"
message_name Csig = codes "PCCSIG"
message_name Cfault = codes "PCCFAULT"
message_name (Ssig signal) = codes "PCSSIG"
message_name (Kill signal) = codes "PCKILL"
message_name (Unkill signal) = codes "PCUNKILL"
message_name (Shold set) = codes "PCSHOLD"
message_name (Strace set) = codes "PCSTRACE"
message_name (Sfault set) = codes "PCSFAULT"
message_name (Sentry set) = codes "PCSENTRY"
message_name (Sexit set) = codes "PCSEXIT"
message_name (Set modes) = codes "PCSET"
message_name (Unset modes) = codes "PCUNSET"
message_name (Sreg regs) = codes "PCSREG"
message_name (Svaddr pc) = codes "PCSVADDR"
message_name (Watch at size flags) = codes "PCWATCH"
message_name (Agent regs) = codes "PCAGENT"
message_name (Read at len) = codes "PCREAD"
message_name (Write at len) = codes "PCWRITE"

-- ---- operands, each with a blank before it

-- a signal by name; its number where it has none
abbrev pub named_or_number : ℕ → Option Sig → List ℕ
named_or_number n None = codes " " ++ number_text n
named_or_number n (Some s) = codes " " ++ signal_name s

unfoldable pub signal_text : ℕ → List ℕ
signal_text n = named_or_number n (signal_of_number n)

-- a set of signals, of faults, of system calls
unfoldable pub signals_text : ℕ → List ℕ
signals_text w = set_word_text signal_count signal_number signal_name signals w

unfoldable pub faults_text : ℕ → List ℕ
faults_text w = set_word_text fault_count fault_number fault_name faults w

unfoldable pub calls_text : ℕ → List ℕ
calls_text w = set_word_text syscall_count syscall_number syscall_name syscalls w

-- a time
unfoldable pub wait_text : ℕ → List ℕ
wait_text ms = codes " " ++ time_text ms

-- an address; one at which an instruction of this program may stand; and bytes at such a one
unfoldable pub address_text : ℕ → List ℕ
address_text at = codes " " ++ hex_text at

unfoldable pub code_text : Option Listing → ℕ → List ℕ
code_text l at = address_text at ++ place_text l at

unfoldable pub area_text : Option Listing → ℕ → ℕ → List ℕ
area_text l at size = codes " " ++ (size_text size ++ (codes " at " ++ (hex_text at ++ place_text l at)))

-- registers by name
unfoldable pub register_text : List ℕ → ℕ → List ℕ
register_text name value = codes " " ++ (name ++ (codes " " ++ number_text value))

unfoldable pub general_text : List ℕ → List ℕ
general_text regs = register_text (codes "r0") (slice_index regs 0) ++ register_text (codes "r1") (slice_index regs 1)
    ++ register_text (codes "r2") (slice_index regs 2) ++ register_text (codes "r3") (slice_index regs 3)
    ++ register_text (codes "r4") (slice_index regs 4) ++ register_text (codes "r5") (slice_index regs 5)
    ++ register_text (codes "r6") (slice_index regs 6) ++ register_text (codes "r7") (slice_index regs 7)

unfoldable pub pointers_text : Option Listing → List ℕ → List ℕ
pointers_text l regs =
    register_text (codes "sp") (slice_index regs 8) ++ register_text (codes "fp") (slice_index regs 9)
    ++ register_text (codes "pc") (slice_index regs 10) ++ place_text l (slice_index regs 10)

unfoldable pub registers_text : Option Listing → List ℕ → List ℕ
registers_text l regs = general_text regs ++ pointers_text l regs

-- where memory is written, and the bytes that stand behind the three words of the message
unfoldable pub written_text : Option Listing → ℕ → ℕ → List ℕ → List ℕ
written_text l at len bytes = area_text l at len ++ (codes ": " ++ bytes_text (take len (drop 24 bytes)))

-- the operands of a message with which bytes begin, to a process that runs this program, a row a message
unfoldable pub operands_text : Option Listing → Message → List ℕ → List ℕ
operands_text l (Twstop ms) bytes = wait_text ms
operands_text l (Run flags) bytes = run_flags_text flags
operands_text l (Ssig signal) bytes = signal_text signal
operands_text l (Kill signal) bytes = signal_text signal
operands_text l (Unkill signal) bytes = signal_text signal
operands_text l (Shold set) bytes = signals_text set
operands_text l (Strace set) bytes = signals_text set
operands_text l (Sfault set) bytes = faults_text set
operands_text l (Sentry set) bytes = calls_text set
operands_text l (Sexit set) bytes = calls_text set
operands_text l (Set modes) bytes = modes_text modes
operands_text l (Unset modes) bytes = modes_text modes
operands_text l (Sreg regs) bytes = registers_text l regs
operands_text l (Svaddr pc) bytes = code_text l pc
operands_text l (Watch at size flags) bytes = area_text l at size ++ watch_flags_text flags
operands_text l (Agent regs) bytes = registers_text l regs
operands_text l (Read at len) bytes = area_text l at len
operands_text l (Write at len) bytes = written_text l at len bytes
operands_text l _ bytes = []

-- the message with which bytes begin
unfoldable pub message_text : Option Listing → Message → List ℕ → List ℕ
message_text l m bytes = message_name m ++ operands_text l m bytes

-- ---- the messages of a write, one after another

-- what stands between two messages, where there is a next one
unfoldable pub between : List ℕ → List ℕ
between rest = if length rest == 0 then [] else codes "; "

-- bytes that begin with no message
unfoldable pub no_message_text : List ℕ → List ℕ
no_message_text bytes = phrase NoMessage ++ bytes_text bytes

-- the message with which bytes begin, or that there is none; and the bytes behind it
abbrev pub text_of_first : Option Listing → List ℕ → Result (Message × ℕ) MsgFault → List ℕ
text_of_first l bytes (Err fault) = no_message_text bytes
text_of_first l bytes (Ok m) = message_text l m.0 bytes ++ between (drop m.1 bytes)

abbrev pub left_behind : List ℕ → Result (Message × ℕ) MsgFault → List ℕ
left_behind bytes (Err fault) = []
left_behind bytes (Ok m) = drop m.1 bytes

unfoldable pub first_text : Option Listing → List ℕ → List ℕ
first_text l bytes = text_of_first l bytes (first_message bytes)

unfoldable pub rest_of : List ℕ → List ℕ
rest_of bytes = left_behind bytes (first_message bytes)

-- The messages that bytes spell, each for itself, at most so many; what is no message ends them.
unfoldable pub messages_in : Option Listing → ℕ → List ℕ → List ℕ
messages_in l zero bytes = []
messages_in l (suc most) [] = []
messages_in l (suc most) (b ∷ bs) = first_text l (b ∷ bs) ++ messages_in l most (rest_of (b ∷ bs))

-- the messages of a write to a process that runs this program: each has a byte
abbrev pub all_messages : Option Listing → List ℕ → List ℕ
all_messages l bytes = messages_in l (length bytes) bytes

unfoldable pub messages_text : Option Listing → List ℕ → List ℕ
messages_text l bytes = if length bytes == 0 then codes "nothing" else all_messages l bytes
