use Rattle.std.specs.Prelude.{ℕ, ◌≤◌, List, length}
use Rattle.std.specs.List.{All}
use Rattle.pr_num.specs.Limits.{code_limit, data_limit}
use Rattle.pr_num.specs.Programs.{Program, Label}
use Rattle.pr_num.specs.declared.instructions.Instruction.{Instruction}

-- a program of these parts
abbrev pub program : List ℕ → List Instruction → List ℕ → List Label → Program
program name code bytes labels = record { name = name; code = code; bytes = bytes; labels = labels }

-- What holds of every program: it has at most 4,096 instructions and at most 65,536 bytes of data, and each label
-- stands before an instruction or after the last one.
pub record IsWithinLimits (p : Program) : Type 0 where
  pub code : length p.code ≤ code_limit
  pub bytes : length p.bytes ≤ data_limit
  pub labels : All (λ l. l.place ≤ length p.code) p.labels
