-- What the agent of apfiles runs: one call of fstat(2), and in the end one of _lwp_exit(2).
use Rattle.std.specs.Prelude.{ℕ, ◌+◌, List, [], ◌∷◌, ◌++◌}
use Rattle.pr_num.specs.Instructions.{instruction_bytes}
use Rattle.pr_num.specs.Layout.{text_base, stack_base}
use Rattle.pr_num.specs.declared.instructions.Instruction.TheVariants.{Sys}
use Rattle.pr_num.specs.declared.syscalls.Sysno.TheVariants.{Fstat, LwpExit}

-- how many bytes of the text are written over: two instructions
abbrev pub code_size : ℕ
code_size = 32

-- how many bytes of the stack are written over: what fstat(2) writes
abbrev pub stack_size : ℕ
stack_size = 24

-- where the agent leaves: at its second instruction
abbrev pub exit_pc : ℕ
exit_pc = text_base + 16

-- its code
unfoldable pub planted : List ℕ
planted = instruction_bytes (Sys Fstat) ++ instruction_bytes (Sys LwpExit)

-- the registers r0 to r7, sp, fp and pc of an agent that asks for a descriptor, is answered on the stack, and goes on
-- at a pc
unfoldable pub agent_registers : ℕ → ℕ → List ℕ
agent_registers descriptor pc = 0 ∷ descriptor ∷ stack_base ∷ 0 ∷ 0 ∷ 0 ∷ 0 ∷ 0 ∷ 0 ∷ 0 ∷ pc ∷ []
