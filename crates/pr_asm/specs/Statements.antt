-- The statements of a program, each read on its own line.
use Rattle.std.specs.Prelude.{ℕ, Option, Some, None, List, [], ◌∷◌, codes, Result, Ok, Err, find, nat_le, ◌&&◌, if◌then◌else◌}
use Rattle.std.specs.Str.{bytes_eq}
use Rattle.pr_num.specs.declared.instructions.Instruction.TheVariants as does
use Rattle.pr_num.specs.Limits.{data_limit}
use Rattle.pr_asm.specs.declared.mnemonics.Mnemonic.{Mnemonic}
use Rattle.pr_asm.specs.declared.mnemonics.Mnemonic.TheVariants.{Bpt, Nop, Set, Mov, Add, Sub, Mul, Div, Ld, St, Ldb, Stb, Jmp, Jz, Jnz, Jlt, Call, Ret, Sys}
use Rattle.pr_asm.specs.declared.statements.Statement.{Statement}
use Rattle.pr_asm.specs.declared.statements.Statement.TheVariants.{Blank, Label, Data, Code}
use Rattle.pr_asm.specs.declared.refusals.AsmKind.{AsmKind}
use Rattle.pr_asm.specs.declared.refusals.AsmKind.TheVariants.{UnknownWord, BadOperand}
use Rattle.pr_asm.specs.Mnemonics.{mnemonics, is_spelled}
use Rattle.pr_asm.specs.Names.{label_of}
use Rattle.pr_text.specs.Comments.{begins_comment}
use Rattle.pr_text.specs.Names.{name_of}
use Rattle.pr_text.specs.NumberWords.{number_of}
use Rattle.pr_text.specs.QuotedWords.{quoted_bytes}
use Rattle.pr_text.specs.Steps.{◌>>=◌, ok_or, none, two}
use Rattle.pr_text.specs.Words.{texts_of}
use Rattle.pr_asm.specs.Operands.{two_registers, register_and_immediate, registers_and_immediate, one_immediate, one_call}

-- The statement of an instruction: its operands by its mnemonic.
unfoldable pub code_of : Mnemonic → List (List ℕ) → Result Statement AsmKind
code_of Bpt operands = none BadOperand operands >>= λ _. Ok (Code does.Bpt None)
code_of Nop operands = none BadOperand operands >>= λ _. Ok (Code does.Nop None)
code_of Set operands = register_and_immediate operands >>= λ o. Ok (Code (does.Set o.0 o.1.value) o.1.name)
code_of Mov operands = two_registers operands >>= λ o. Ok (Code (does.Mov o.0 o.1) None)
code_of Add operands = two_registers operands >>= λ o. Ok (Code (does.Add o.0 o.1) None)
code_of Sub operands = two_registers operands >>= λ o. Ok (Code (does.Sub o.0 o.1) None)
code_of Mul operands = two_registers operands >>= λ o. Ok (Code (does.Mul o.0 o.1) None)
code_of Div operands = two_registers operands >>= λ o. Ok (Code (does.Div o.0 o.1) None)
code_of Ld operands = registers_and_immediate operands >>= λ o. Ok (Code (does.Ld o.0 o.1 o.2.value) o.2.name)
code_of St operands = registers_and_immediate operands >>= λ o. Ok (Code (does.St o.0 o.1 o.2.value) o.2.name)
code_of Ldb operands = registers_and_immediate operands >>= λ o. Ok (Code (does.Ldb o.0 o.1 o.2.value) o.2.name)
code_of Stb operands = registers_and_immediate operands >>= λ o. Ok (Code (does.Stb o.0 o.1 o.2.value) o.2.name)
code_of Jmp operands = one_immediate operands >>= λ o. Ok (Code (does.Jmp o.value) o.name)
code_of Jz operands = register_and_immediate operands >>= λ o. Ok (Code (does.Jz o.0 o.1.value) o.1.name)
code_of Jnz operands = register_and_immediate operands >>= λ o. Ok (Code (does.Jnz o.0 o.1.value) o.1.name)
code_of Jlt operands = registers_and_immediate operands >>= λ o. Ok (Code (does.Jlt o.0 o.1 o.2.value) o.2.name)
code_of Call operands = one_immediate operands >>= λ o. Ok (Code (does.Call o.value) o.name)
code_of Ret operands = none BadOperand operands >>= λ _. Ok (Code does.Ret None)
code_of Sys operands = one_call operands >>= λ c. Ok (Code (does.Sys c) None)

-- text NAME "..": the bytes of the text, and a zero byte
unfoldable pub text_of : List (List ℕ) → Result Statement AsmKind
text_of operands = do
  words ← two BadOperand operands
  name ← ok_or BadOperand (name_of words.0)
  bytes ← ok_or BadOperand (quoted_bytes words.1)
  Ok (Data name bytes 1)

-- space NAME N: as many zero bytes, 1 to 65,536
unfoldable pub space_of : List (List ℕ) → Result Statement AsmKind
space_of operands = do
  words ← two BadOperand operands
  name ← ok_or BadOperand (name_of words.0)
  size ← ok_or BadOperand (number_of words.1)
  if nat_le 1 size && nat_le size data_limit then Ok (Data name [] size) else Err BadOperand

-- an instruction begins with its mnemonic
unfoldable pub instruction_of : Option Mnemonic → List (List ℕ) → Result Statement AsmKind
instruction_of None operands = Err UnknownWord
instruction_of (Some m) operands = code_of m operands

-- a line of data or of an instruction
unfoldable pub statement_with : List ℕ → List (List ℕ) → Result Statement AsmKind
statement_with first operands =
    if bytes_eq first (codes "text") then text_of operands
    else (if bytes_eq first (codes "space") then space_of operands
    else instruction_of (find (is_spelled first) mnemonics) operands)

-- a label stands alone
unfoldable pub label_or : Option (List ℕ) → List ℕ → List (List ℕ) → Result Statement AsmKind
label_or (Some name) first operands = none BadOperand operands >>= λ _. Ok (Label name)
label_or None first operands = statement_with first operands

-- A line without words means nothing, nor does a line whose first word begins with #.
unfoldable pub statement_in : List (List ℕ) → Result Statement AsmKind
statement_in [] = Ok Blank
statement_in (first ∷ operands) =
    if begins_comment first then Ok Blank else label_or (label_of first) first operands

-- what a line says on its own, or the kind for which it is refused whatever stands on other lines
unfoldable pub statement_of : List ℕ → Result Statement AsmKind
statement_of line = statement_in (texts_of line)
