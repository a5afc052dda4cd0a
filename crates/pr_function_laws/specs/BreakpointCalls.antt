-- The messages by which truss with calls of functions reads the code of a function, and plants and lifts its
-- breakpoint; and its waits.
use Rattle.std.specs.Prelude.{◌≡◌, ℕ, []}
use Rattle.pr_line.specs.declared.functions.Function.{Function}
use Rattle.pr_line.specs.declared.options.Options.{Options}
use Rattle.pr_model.specs.declared.calls.Call.TheVariants as call
use Rattle.pr_num.specs.Instructions.{instruction_bytes}
use Rattle.pr_num.specs.Messages.{spelling}
use Rattle.pr_num.specs.declared.instructions.Instruction.TheVariants.{Bpt}
use Rattle.pr_num.specs.declared.messages.Message.{Message}
use Rattle.pr_num.specs.declared.messages.Message.TheVariants as message
use Rattle.pr_truss.specs.FunctionCalls.{lift_call, plant_call, read_code_call, wait_call}

-- The code of a function is read by PCREAD of the 16 bytes at its address; its breakpoint is planted by PCWRITE of the
-- bytes of a `bpt` there, and lifted by PCWRITE of the code that the words of truss name. A wait has the bytes of the
-- message that it is for.
pub record AreBreakpointCalls (o : Options) (control function : ℕ) (f : Function) : Type 0 where
  pub reads : read_code_call o control function ≡ call.Ctl control (spelling (message.Read f.at 16) [])
  pub plants : plant_call o control function
      ≡ call.Ctl control (spelling (message.Write f.at 16) (instruction_bytes Bpt))
  pub lifts : lift_call o control function ≡ call.Ctl control (spelling (message.Write f.at 16) f.code)
  pub waits : (until : ℕ) (m : Message) → wait_call control until m ≡ call.CtlWait control until (spelling m [])
