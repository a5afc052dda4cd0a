use Rattle.std.specs.Prelude.{ℕ, List, false, if◌then◌else◌}
use Rattle.pr_num.specs.declared.faults.Flt.TheVariants.{Trace, Watch}
use Rattle.pr_model.specs.Registers.{pc_of}
use Rattle.pr_model.specs.declared.lwps.LwpControl.{LwpControl}
use Rattle.pr_model.specs.declared.lwps.LwpOf as lwp
use Rattle.pr_model.specs.declared.lwps.Phase.{Phase}
use Rattle.pr_lwp.specs.declared.executing.Outcome.{Outcome}
use Rattle.pr_lwp.specs.declared.executing.Outcome.TheVariants.{Runs, Calls, Faults, RunsIntoWatch}
use Rattle.pr_lwp.specs.declared.steps.Effect.{Effect}
use Rattle.pr_lwp.specs.declared.steps.Effect.TheVariants.{Ran, Sys, Fault}

-- What an instruction makes of its lwp.

-- an lwp, and what its instruction came to
pub record Stepped (P : Type 0) : Type 0 where
  pub lwp : lwp.LwpOf P Phase LwpControl
  pub effect : Effect

module _ {P : Type 0} where
  -- registers of an lwp
  abbrev pub with_regs : List ℕ → lwp.LwpOf P Phase LwpControl → lwp.LwpOf P Phase LwpControl
  with_regs regs l = record l { regs = regs }

  -- a step mark is used up
  abbrev pub with_step_taken : lwp.LwpOf P Phase LwpControl → lwp.LwpOf P Phase LwpControl
  with_step_taken l = record l { control = record l.control { step = false } }

  -- an instruction that ran; a step mark is used up, and FLTTRACE incurred
  unfoldable pub ran : List ℕ → lwp.LwpOf P Phase LwpControl → Stepped P
  ran regs l =
      if l.control.step then record { lwp = with_step_taken (with_regs regs l); effect = Fault Trace (pc_of regs) }
      else record { lwp = with_regs regs l; effect = Ran }

  -- A row an outcome. A fault leaves the registers, but FLTWATCH of an area that traps after the access, which uses up
  -- a step mark too.
  unfoldable pub stepped : Outcome → lwp.LwpOf P Phase LwpControl → Stepped P
  stepped (Runs regs) l = ran regs l
  stepped (Calls call regs) l = record { lwp = with_regs regs l; effect = Sys call }
  stepped (Faults f address) l = record { lwp = l; effect = Fault f address }
  stepped (RunsIntoWatch address regs) l =
      record { lwp = with_step_taken (with_regs regs l); effect = Fault Watch address }
