use Rattle.std.specs.Prelude.{◌==◌, ◌&&◌, ℕ, List, [], ◌∷◌, Option, Some, None, if◌then◌else◌, option_map, option_and_then, take, drop, slice_index, slice_get}
use Rattle.std.specs.List.{list_all}
use Rattle.pr_num.specs.Words.{word_bytes, word_of, IsWord}
use Rattle.pr_num.specs.Syscalls.{syscall_number, syscall_of_number}
use Rattle.pr_num.specs.declared.instructions.Reg.{Reg}
use Rattle.pr_num.specs.declared.instructions.Reg.TheVariants.{R0, R1, R2, R3, R4, R5, R6, R7}
use Rattle.pr_num.specs.declared.instructions.Instruction.{Instruction}
use Rattle.pr_num.specs.declared.instructions.Instruction.TheVariants.{Bpt, Nop, Set, Mov, Add, Sub, Mul, Div, Ld, St, Ldb, Stb, Jmp, Jz, Jnz, Jlt, Call, Ret, Sys}

-- The instructions of the machine as bytes: an operation code, two bytes for registers, five zero bytes, and an
-- immediate word. A field that an instruction does not use is 0.

-- the general registers, in the order of their numbers, which count from 0
abbrev pub registers : List Reg
registers = R0 ∷ R1 ∷ R2 ∷ R3 ∷ R4 ∷ R5 ∷ R6 ∷ R7 ∷ []

-- the number of a register
unfoldable pub register_number : Reg → ℕ
register_number R0 = 0
register_number R1 = 1
register_number R2 = 2
register_number R3 = 3
register_number R4 = 4
register_number R5 = 5
register_number R6 = 6
register_number R7 = 7

-- the fields of an instruction: its operation code, its two register bytes, and its immediate word
pub record Fields : Type 0 where
  pub op : ℕ
  pub a : ℕ
  pub b : ℕ
  pub immediate : ℕ

abbrev pub fields : ℕ → ℕ → ℕ → ℕ → Fields
fields op a b immediate = record { op = op; a = a; b = b; immediate = immediate }

-- the fields of each instruction
unfoldable pub fields_of : Instruction → Fields
fields_of Bpt = fields 1 0 0 0
fields_of Nop = fields 2 0 0 0
fields_of (Set to imm) = fields 3 (register_number to) 0 imm
fields_of (Mov to from) = fields 4 (register_number to) (register_number from) 0
fields_of (Add to from) = fields 5 (register_number to) (register_number from) 0
fields_of (Sub to from) = fields 6 (register_number to) (register_number from) 0
fields_of (Mul to from) = fields 7 (register_number to) (register_number from) 0
fields_of (Div to from) = fields 8 (register_number to) (register_number from) 0
fields_of (Ld to base offset) = fields 9 (register_number to) (register_number base) offset
fields_of (St from base offset) = fields 10 (register_number from) (register_number base) offset
fields_of (Ldb to base offset) = fields 11 (register_number to) (register_number base) offset
fields_of (Stb from base offset) = fields 12 (register_number from) (register_number base) offset
fields_of (Jmp target) = fields 13 0 0 target
fields_of (Jz test target) = fields 14 (register_number test) 0 target
fields_of (Jnz test target) = fields 15 (register_number test) 0 target
fields_of (Jlt left right target) = fields 16 (register_number left) (register_number right) target
fields_of (Call target) = fields 17 0 0 target
fields_of Ret = fields 18 0 0 0
fields_of (Sys call) = fields 19 0 0 (syscall_number call)

-- the immediate of an instruction is a word
unfoldable pub HasImmediate : Instruction → Type 0
HasImmediate i = IsWord (fields_of i).immediate

-- the 16 bytes of fields
abbrev pub fields_bytes : Fields → List ℕ
fields_bytes f = f.op ∷ f.a ∷ f.b ∷ 0 ∷ 0 ∷ 0 ∷ 0 ∷ 0 ∷ word_bytes f.immediate

-- the 16 bytes of an instruction
abbrev pub instruction_bytes : Instruction → List ℕ
instruction_bytes i = fields_bytes (fields_of i)

-- the register of a byte
abbrev pub register_of : ℕ → Option Reg
register_of n = slice_get registers n

-- The forms in which fields are used. A field that a form does not use is 0, and each register byte names a register.

-- no field
abbrev pub with_no_field : Fields → Instruction → Option Instruction
with_no_field f i = if (f.a == 0) && (f.b == 0) && (f.immediate == 0) then Some i else None

-- the immediate alone
abbrev pub immediate_alone : Fields → Option ℕ
immediate_alone f = if (f.a == 0) && (f.b == 0) then Some f.immediate else None

-- the first register byte, and perhaps the immediate
abbrev pub one_register : Fields → Option Reg
one_register f = if f.b == 0 then register_of f.a else None

-- both register bytes, and perhaps the immediate
abbrev pub two_registers : Fields → Option (Reg × Reg)
two_registers f = option_and_then (λ a. option_map (λ b. (a, b)) (register_of f.b)) (register_of f.a)

-- both register bytes alone
abbrev pub registers_alone : Fields → Option (Reg × Reg)
registers_alone f = if f.immediate == 0 then two_registers f else None

-- the instruction with these fields, if there is one: a row for each operation code
unfoldable pub instruction_with : Fields → Option Instruction
instruction_with f =
    if f.op == 1 then with_no_field f Bpt
    else (if f.op == 2 then with_no_field f Nop
    else (if f.op == 3 then option_map (λ to. Set to f.immediate) (one_register f)
    else (if f.op == 4 then option_map (λ r. Mov r.0 r.1) (registers_alone f)
    else (if f.op == 5 then option_map (λ r. Add r.0 r.1) (registers_alone f)
    else (if f.op == 6 then option_map (λ r. Sub r.0 r.1) (registers_alone f)
    else (if f.op == 7 then option_map (λ r. Mul r.0 r.1) (registers_alone f)
    else (if f.op == 8 then option_map (λ r. Div r.0 r.1) (registers_alone f)
    else (if f.op == 9 then option_map (λ r. Ld r.0 r.1 f.immediate) (two_registers f)
    else (if f.op == 10 then option_map (λ r. St r.0 r.1 f.immediate) (two_registers f)
    else (if f.op == 11 then option_map (λ r. Ldb r.0 r.1 f.immediate) (two_registers f)
    else (if f.op == 12 then option_map (λ r. Stb r.0 r.1 f.immediate) (two_registers f)
    else (if f.op == 13 then option_map Jmp (immediate_alone f)
    else (if f.op == 14 then option_map (λ test. Jz test f.immediate) (one_register f)
    else (if f.op == 15 then option_map (λ test. Jnz test f.immediate) (one_register f)
    else (if f.op == 16 then option_map (λ r. Jlt r.0 r.1 f.immediate) (two_registers f)
    else (if f.op == 17 then option_map Call (immediate_alone f)
    else (if f.op == 18 then with_no_field f Ret
    else (if f.op == 19 then option_map Sys (option_and_then syscall_of_number (immediate_alone f))
    else None))))))))))))))))))

-- the fields that lie in 16 bytes
abbrev pub fields_in : List ℕ → Fields
fields_in bytes =
    fields (slice_index bytes 0) (slice_index bytes 1) (slice_index bytes 2) (word_of (take 8 (drop 8 bytes)))

-- the instruction that 16 bytes spell, if they spell one
unfoldable pub instruction_in : List ℕ → Option Instruction
instruction_in bytes =
    if list_all (λ b. b == 0) (take 5 (drop 3 bytes)) then instruction_with (fields_in bytes) else None
