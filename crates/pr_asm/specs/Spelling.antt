-- How the statements of a program are spelled, one on a line.
use Rattle.std.specs.Prelude.{◌≡◌, ◌+◌, ◌≤◌, ◌<◌, ◌^◌, ℕ, true, Option, Some, None, List, [], ◌∷◌, ◌++◌, codes, decimal, map}
use Rattle.std.specs.List.{join_with_byte}
use Rattle.pr_num.specs.Instructions.{register_number}
use Rattle.pr_num.specs.Limits.{data_limit}
use Rattle.pr_num.specs.Syscalls.{syscall_name}
use Rattle.pr_num.specs.declared.instructions.Instruction.{Instruction}
use Rattle.pr_num.specs.declared.instructions.Instruction.TheVariants.{Bpt, Nop, Set, Mov, Add, Sub, Mul, Div, Ld, St, Ldb, Stb, Jmp, Jz, Jnz, Jlt, Call, Ret, Sys}
use Rattle.pr_num.specs.declared.instructions.Reg.{Reg}
use Rattle.pr_asm.specs.declared.statements.Statement.{Statement}
use Rattle.pr_asm.specs.declared.statements.Statement.TheVariants.{Blank, Label, Data, Code}
use Rattle.pr_text.specs.Names.{is_name}
use Rattle.pr_text.specs.QuotedWords.{quoted}
use Rattle.pr_text.specs.SpacedWords.{spaced}
use Rattle.pr_text.specs.TextLines.{newline}

-- a register is r and its digit
abbrev pub register_text : Reg → List ℕ
register_text r = 114 ∷ (48 + register_number r) ∷ []

-- an immediate is a name, or a decimal number
abbrev pub immediate_text : Option (List ℕ) → ℕ → List ℕ
immediate_text None n = decimal n
immediate_text (Some name) n = name

-- the words of an instruction
unfoldable pub code_words : Instruction → Option (List ℕ) → List (List ℕ)
code_words Bpt name = codes "bpt" ∷ []
code_words Nop name = codes "nop" ∷ []
code_words (Set a i) name = codes "set" ∷ register_text a ∷ immediate_text name i ∷ []
code_words (Mov a b) name = codes "mov" ∷ register_text a ∷ register_text b ∷ []
code_words (Add a b) name = codes "add" ∷ register_text a ∷ register_text b ∷ []
code_words (Sub a b) name = codes "sub" ∷ register_text a ∷ register_text b ∷ []
code_words (Mul a b) name = codes "mul" ∷ register_text a ∷ register_text b ∷ []
code_words (Div a b) name = codes "div" ∷ register_text a ∷ register_text b ∷ []
code_words (Ld a b i) name = codes "ld" ∷ register_text a ∷ register_text b ∷ immediate_text name i ∷ []
code_words (St a b i) name = codes "st" ∷ register_text a ∷ register_text b ∷ immediate_text name i ∷ []
code_words (Ldb a b i) name = codes "ldb" ∷ register_text a ∷ register_text b ∷ immediate_text name i ∷ []
code_words (Stb a b i) name = codes "stb" ∷ register_text a ∷ register_text b ∷ immediate_text name i ∷ []
code_words (Jmp i) name = codes "jmp" ∷ immediate_text name i ∷ []
code_words (Jz a i) name = codes "jz" ∷ register_text a ∷ immediate_text name i ∷ []
code_words (Jnz a i) name = codes "jnz" ∷ register_text a ∷ immediate_text name i ∷ []
code_words (Jlt a b i) name = codes "jlt" ∷ register_text a ∷ register_text b ∷ immediate_text name i ∷ []
code_words (Call i) name = codes "call" ∷ immediate_text name i ∷ []
code_words Ret name = codes "ret" ∷ []
code_words (Sys call) name = codes "sys" ∷ syscall_name call ∷ []

-- the words of a statement
unfoldable pub statement_words : Statement → List (List ℕ)
statement_words Blank = []
statement_words (Label name) = (name ++ 58 ∷ []) ∷ []
statement_words (Data name [] zeros) = codes "space" ∷ name ∷ decimal zeros ∷ []
statement_words (Data name (b ∷ bs) zeros) = codes "text" ∷ name ∷ quoted (b ∷ bs) ∷ []
statement_words (Code i name) = code_words i name

-- the line of a statement
abbrev pub spelled : Statement → List ℕ
spelled s = spaced (statement_words s)

-- What can be spelled: names have their form; zeros are 1 to 65,536, and after bytes they are one; an immediate is a
-- word, and 0 where a name stands for it, which no instruction without an immediate has.
abbrev pub IsImmediate : Option (List ℕ) → ℕ → Type 0
IsImmediate None n = n < 2 ^ 64
IsImmediate (Some name) n = (is_name name ≡ true) × (n ≡ 0)

unfoldable pub IsCode : Instruction → Option (List ℕ) → Type 0
IsCode Bpt name = name ≡ None
IsCode Nop name = name ≡ None
IsCode (Set a i) name = IsImmediate name i
IsCode (Mov a b) name = name ≡ None
IsCode (Add a b) name = name ≡ None
IsCode (Sub a b) name = name ≡ None
IsCode (Mul a b) name = name ≡ None
IsCode (Div a b) name = name ≡ None
IsCode (Ld a b i) name = IsImmediate name i
IsCode (St a b i) name = IsImmediate name i
IsCode (Ldb a b i) name = IsImmediate name i
IsCode (Stb a b i) name = IsImmediate name i
IsCode (Jmp i) name = IsImmediate name i
IsCode (Jz a i) name = IsImmediate name i
IsCode (Jnz a i) name = IsImmediate name i
IsCode (Jlt a b i) name = IsImmediate name i
IsCode (Call i) name = IsImmediate name i
IsCode Ret name = name ≡ None
IsCode (Sys call) name = name ≡ None

unfoldable pub IsStatement : Statement → Type 0
IsStatement Blank = Unit {0}
IsStatement (Label name) = is_name name ≡ true
IsStatement (Data name [] zeros) = (is_name name ≡ true) × (1 ≤ zeros) × (zeros ≤ data_limit)
IsStatement (Data name (b ∷ bs) zeros) = (is_name name ≡ true) × (zeros ≡ 1)
IsStatement (Code i name) = IsCode i name

-- the text of statements, one on a line
abbrev pub text_of_statements : List Statement → List ℕ
text_of_statements ss = join_with_byte newline (map spelled ss)
