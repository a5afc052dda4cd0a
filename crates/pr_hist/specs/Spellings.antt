-- The bytes that a line spells: of an instruction, or of a control message by its name in proc(4) and its operands.
use Rattle.std.specs.Prelude.{ℕ, ◌==◌, ◌-◌, ◌^◌, Option, Some, None, List, [], ◌∷◌, Result, Ok, Err, find, is_ok, length, option_map, if◌then◌else◌}
use Rattle.std.specs.Str.{bytes_eq}
use Rattle.pr_asm.specs.Statements.{statement_of}
use Rattle.pr_asm.specs.declared.refusals.AsmKind.{AsmKind}
use Rattle.pr_asm.specs.declared.statements.Statement.{Statement}
use Rattle.pr_asm.specs.declared.statements.Statement.TheVariants.{Code}
use Rattle.pr_line.specs.Entries.{call_named, fault_named, signal_named}
use Rattle.pr_num.specs.Instructions.{instruction_bytes}
use Rattle.pr_num.specs.Limits.{fault_count, signal_count, syscall_count}
use Rattle.pr_num.specs.Messages.{first_message, spelling, tail_length}
use Rattle.pr_num.specs.declared.messages.Message.{Message}
use Rattle.pr_num.specs.declared.messages.Message.TheVariants as does
use Rattle.pr_text.specs.HexWords.{bytes_of_digits}
use Rattle.pr_text.specs.NumberWords.{number_of}
use Rattle.pr_text.specs.Words.{texts_of}
use Rattle.pr_hist.specs.Messages.{message_name}
use Rattle.pr_hist.specs.OperandWords.{are_numbers, modes_of, number_at, registers_of, run_flags_of, set_of, signal_of}

-- no registers yet
abbrev pub no_registers : List ℕ
no_registers = 0 ∷ 0 ∷ 0 ∷ 0 ∷ 0 ∷ 0 ∷ 0 ∷ 0 ∷ 0 ∷ 0 ∷ 0 ∷ []

-- each message once, before it has its operands
abbrev pub forms : List Message
forms =
    does.Stop ∷ does.Dstop ∷ does.Wstop ∷ does.Twstop 0 ∷ does.Run 0 ∷ does.Csig ∷ does.Cfault ∷ does.Ssig 0
    ∷ does.Kill 0 ∷ does.Unkill 0 ∷ does.Shold 0 ∷ does.Strace 0 ∷ does.Sfault 0 ∷ does.Sentry 0 ∷ does.Sexit 0
    ∷ does.Set 0 ∷ does.Unset 0 ∷ does.Sreg no_registers ∷ does.Svaddr 0 ∷ does.Watch 0 0 0
    ∷ does.Agent no_registers ∷ does.Read 0 0 ∷ does.Write 0 0 ∷ []

-- the message of a name
unfoldable pub form_of : List ℕ → Option Message
form_of name = find (λ m. bytes_eq name (message_name m)) forms

-- a message without operands; and with numbers
unfoldable pub alone : List (List ℕ) → Message → Option Message
alone ops m = if length ops == 0 then Some m else None

unfoldable pub numbered : ℕ → List (List ℕ) → Message → Option Message
numbered count ops m = if are_numbers count ops then Some m else None

-- A message with its operands, a row a message. None: they are not its operands; PCWRITE has bytes besides.
unfoldable pub with_operands : Message → List (List ℕ) → Option Message
with_operands does.Stop ops = alone ops does.Stop
with_operands does.Dstop ops = alone ops does.Dstop
with_operands does.Wstop ops = alone ops does.Wstop
with_operands (does.Twstop ms) ops = numbered 1 ops (does.Twstop (number_at ops 0))
with_operands (does.Run flags) ops = option_map does.Run (run_flags_of ops)
with_operands does.Csig ops = alone ops does.Csig
with_operands does.Cfault ops = alone ops does.Cfault
with_operands (does.Ssig signal) ops = option_map does.Ssig (signal_of ops)
with_operands (does.Kill signal) ops = option_map does.Kill (signal_of ops)
with_operands (does.Unkill signal) ops = option_map does.Unkill (signal_of ops)
with_operands (does.Shold set) ops = option_map does.Shold (set_of signal_named (2 ^ signal_count - 1) ops)
with_operands (does.Strace set) ops = option_map does.Strace (set_of signal_named (2 ^ signal_count - 1) ops)
with_operands (does.Sfault set) ops = option_map does.Sfault (set_of fault_named (2 ^ fault_count - 1) ops)
with_operands (does.Sentry set) ops = option_map does.Sentry (set_of call_named (2 ^ syscall_count - 1) ops)
with_operands (does.Sexit set) ops = option_map does.Sexit (set_of call_named (2 ^ syscall_count - 1) ops)
with_operands (does.Set modes) ops = option_map does.Set (modes_of ops)
with_operands (does.Unset modes) ops = option_map does.Unset (modes_of ops)
with_operands (does.Sreg regs) ops = numbered 11 ops (does.Sreg (registers_of ops))
with_operands (does.Svaddr pc) ops = numbered 1 ops (does.Svaddr (number_at ops 0))
with_operands (does.Watch at size flags) ops =
    numbered 3 ops (does.Watch (number_at ops 0) (number_at ops 1) (number_at ops 2))
with_operands (does.Agent regs) ops = numbered 11 ops (does.Agent (registers_of ops))
with_operands (does.Read at len) ops = numbered 2 ops (does.Read (number_at ops 0) (number_at ops 1))
with_operands (does.Write at len) ops = None

-- PCWRITE: an address, and bytes in hex
abbrev pub write_with : Option ℕ → Option (List ℕ) → Option (List ℕ)
write_with (Some at) (Some tail) = Some (spelling (does.Write at (length tail)) tail)
write_with _ _ = None

unfoldable pub write_bytes : List (List ℕ) → Option (List ℕ)
write_bytes (at ∷ digits ∷ []) = write_with (number_of at) (bytes_of_digits digits)
write_bytes _ = None

-- a message that has no bytes besides its operands
abbrev pub plain_bytes : Option Message → Option (List ℕ)
plain_bytes None = None
plain_bytes (Some m) = if tail_length m == 0 then Some (spelling m []) else None

-- the bytes of a message with these operands
unfoldable pub bytes_with : Message → List (List ℕ) → Option (List ℕ)
bytes_with (does.Write at len) ops = write_bytes ops
bytes_with form ops = plain_bytes (with_operands form ops)

-- bytes that the kernel reads as a message, whose operands lie in their columns
unfoldable pub if_message : Option (List ℕ) → Option (List ℕ)
if_message None = None
if_message (Some bytes) = if is_ok (first_message bytes) then Some bytes else None

abbrev pub message_with : Option Message → List (List ℕ) → Option (List ℕ)
message_with None ops = None
message_with (Some form) ops = if_message (bytes_with form ops)

-- the bytes of the message that words spell: its name and its operands
unfoldable pub message_bytes : List (List ℕ) → Option (List ℕ)
message_bytes [] = None
message_bytes (name ∷ ops) = message_with (form_of name) ops

-- the bytes of an instruction of which no operand is the name of a label
abbrev pub bytes_of_statement : Statement → Option (List ℕ)
bytes_of_statement (Code instruction None) = Some (instruction_bytes instruction)
bytes_of_statement _ = None

abbrev pub code_bytes : Result Statement AsmKind → Option (List ℕ)
code_bytes (Ok statement) = bytes_of_statement statement
code_bytes (Err kind) = None

abbrev pub or_code : List ℕ → Option (List ℕ) → Option (List ℕ)
or_code line (Some bytes) = Some bytes
or_code line None = code_bytes (statement_of line)

-- The bytes that a line spells. None: it is neither a message nor an instruction.
unfoldable pub bytes_of_line : List ℕ → Option (List ℕ)
bytes_of_line line = or_code line (message_bytes (texts_of line))
