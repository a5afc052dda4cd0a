use Rattle.std.specs.Prelude.{◌+◌, ◌-◌, ◌*◌, ◌/◌, ℕ, List, ◌++◌, length, replicate}
use Rattle.std.specs.List.{flat_map}
use Rattle.pr_num.specs.Instructions.{instruction_bytes}
use Rattle.pr_num.specs.Layout.{page_size}
use Rattle.pr_num.specs.declared.instructions.Instruction.{Instruction}

-- a label of a program: it stands before the instruction at this place, or after the last one
pub record Label : Type 0 where
  pub name : List ℕ
  pub place : ℕ

-- A program: its name, at most 4,096 instructions, at most 65,536 bytes of data, and its labels in the order of their
-- lines.
pub record Program : Type 0 where
  pub name : List ℕ
  pub code : List Instruction
  pub bytes : List ℕ
  pub labels : List Label

-- the bytes of a program's instructions, 16 each
abbrev pub text_of : Program → List ℕ
text_of p = flat_map instruction_bytes p.code

-- a length rounded up to whole pages
abbrev pub rounded : ℕ → ℕ
rounded n = (n + (page_size - 1)) / page_size * page_size

-- bytes with zeros up to whole pages behind them
abbrev pub whole_pages : List ℕ → List ℕ
whole_pages bytes = bytes ++ replicate (rounded (length bytes) - length bytes) 0
