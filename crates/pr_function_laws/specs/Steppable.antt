-- Functions of which truss can step the first instruction, and the step over it.
use Rattle.std.specs.Prelude.{◌≡◌, ◌≢◌, ◌<◌, ◌+◌, ◌++◌, ◌^◌, ℕ, All, List, ◌∷◌, Ok, Some, length}
use Rattle.pr_line.specs.declared.functions.Function.{Function}
use Rattle.pr_model.specs.Legal.{state_after}
use Rattle.pr_model.specs.Registers.{pc_of}
use Rattle.pr_model.specs.State.{TracedLwp, TracedProcess, TracedState, live_process, lwp_of}
use Rattle.pr_model.specs.declared.events.Entry.{Entry}
use Rattle.pr_num.specs.Control.{clear_fault, prot_exec, single_step}
use Rattle.pr_num.specs.Sets.{union_word}
use Rattle.pr_num.specs.Spaces.{Space, bytes_for}
use Rattle.pr_num.specs.Words.{IsByte}
use Rattle.pr_num.specs.declared.messages.Message.TheVariants as message
use Rattle.pr_truss.specs.Messages.{message_call}
use Rattle.pr_truss_laws.specs.Exchanges.{Exchange, exchange_of}
use Rattle.pr_num.specs.Instructions.{instruction_in}
use Rattle.pr_num.specs.Limits.{instruction_size}
use Rattle.pr_num.specs.declared.instructions.Instruction.TheVariants.{Sys}
use Rattle.pr_num.specs.declared.syscalls.Sysno.{Sysno}

-- A function begins with the 16 bytes of an instruction that is no system call, below the end of the address space. So
-- does each function that the words of truss name in a scenario.
pub record IsSteppable (f : Function) : Type 0 where
  pub size : length f.code ≡ instruction_size
  pub bytes : All IsByte f.code
  pub no_call : (call : Sysno) → instruction_in f.code ≢ Some (Sys call)
  pub fits : f.at + instruction_size < 2 ^ 64

-- what can be fetched at the address of a function is its first instruction
abbrev pub HasCode : Function → Space → Type 0
HasCode f space = (b : List ℕ) → bytes_for prot_exec space f.at 16 ≡ Ok b → b ≡ f.code

-- An lwp is at the address of a function, and what can be fetched there is the first instruction of the function.
pub record IsAtCode (f : Function) (p : TracedProcess) (l : TracedLwp) : Type 0 where
  pub at : pc_of l.regs ≡ f.at
  pub code : HasCode f p.space

-- So it is of the lwp of this id of a process wherever in these entries truss steps it, by PCRUN with PRCFAULT and
-- PRSTEP.
pub record StepsItsCode (k pid id control : ℕ) (f : Function) (s : TracedState) (h : List Entry) : Type 0 where
  pub each : (before later : List Entry) (e : Entry) (x : Exchange) (p : TracedProcess) (l : TracedLwp)
      → h ≡ before ++ e ∷ later → exchange_of k e ≡ Some x
      → x.call ≡ message_call control (message.Run (union_word clear_fault single_step))
      → live_process (state_after s before).system pid ≡ Some p → lwp_of p id ≡ Some l → IsAtCode f p l
