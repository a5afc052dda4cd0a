-- The operands of instructions.
use Rattle.std.specs.Prelude.{◌==◌, ◌&&◌, ◌-◌, ℕ, Option, Some, None, List, length, slice_index, slice_get, Result, Ok, Err, nat_le, if◌then◌else◌}
use Rattle.pr_num.specs.Instructions.{registers}
use Rattle.pr_num.specs.Syscalls.{syscall_of_name}
use Rattle.pr_num.specs.declared.instructions.Reg.{Reg}
use Rattle.pr_num.specs.declared.syscalls.Sysno.{Sysno}
use Rattle.pr_text.specs.Names.{is_name}
use Rattle.pr_text.specs.NumberWords.{number_of}
use Rattle.pr_text.specs.Steps.{◌>>=◌, ok_or, one, two, three}
use Rattle.pr_asm.specs.declared.operands.Immediate.{Immediate}
use Rattle.pr_asm.specs.declared.refusals.AsmKind.{AsmKind}
use Rattle.pr_asm.specs.declared.refusals.AsmKind.TheVariants.{BadOperand, UnknownName}

-- a register is r and its digit, r0 to r7
unfoldable pub register : List ℕ → Result Reg AsmKind
register word =
    if (length word == 2) && (slice_index word 0 == 114) && nat_le 48 (slice_index word 1)
    then ok_or BadOperand (slice_get registers (slice_index word 1 - 48))
    else Err BadOperand

-- an immediate is a number, or a name; a name's value is filled in once the program's names are known
unfoldable pub immediate_of : Option ℕ → List ℕ → Result Immediate AsmKind
immediate_of (Some n) word = Ok (record { value = n; name = None })
immediate_of None word = if is_name word then Ok (record { value = 0; name = Some word }) else Err BadOperand

abbrev pub immediate : List ℕ → Result Immediate AsmKind
immediate word = immediate_of (number_of word) word

-- a system call goes by its name
unfoldable pub call : List ℕ → Result Sysno AsmKind
call word = if is_name word then ok_or UnknownName (syscall_of_name word) else Err BadOperand

-- operands: two registers; a register and an immediate; two registers and an immediate; an immediate; a system call
unfoldable pub two_registers : List (List ℕ) → Result (Reg × Reg) AsmKind
two_registers operands = do
  words ← two BadOperand operands
  a ← register words.0
  b ← register words.1
  Ok (a, b)

unfoldable pub register_and_immediate : List (List ℕ) → Result (Reg × Immediate) AsmKind
register_and_immediate operands = do
  words ← two BadOperand operands
  a ← register words.0
  b ← immediate words.1
  Ok (a, b)

unfoldable pub registers_and_immediate : List (List ℕ) → Result (Reg × Reg × Immediate) AsmKind
registers_and_immediate operands = do
  words ← three BadOperand operands
  a ← register words.0
  b ← register words.1
  c ← immediate words.2
  Ok (a, b, c)

unfoldable pub one_immediate : List (List ℕ) → Result Immediate AsmKind
one_immediate operands = do
  word ← one BadOperand operands
  immediate word

unfoldable pub one_call : List (List ℕ) → Result Sysno AsmKind
one_call operands = do
  word ← one BadOperand operands
  call word
