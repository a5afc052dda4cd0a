-- Functions that count as planted though their breakpoints do not stand, and programs that leave them alone.
use Rattle.std.specs.Prelude.{◌≡◌, ◌⊎◌, ℕ, Bool, true, false, List, [], ◌∷◌, Option, None, Some, length}
use Rattle.pr_hidden.specs.Covers.{Patch}
use Rattle.pr_hidden.specs.Following.{RunsInstruction}
use Rattle.pr_hidden.specs.Hiders.{replaces}
use Rattle.pr_hidden.specs.Sparing.{are_spared, spares_call}
use Rattle.pr_model.specs.InstructionEffects.{InstructionEffect, Store, calls, faults, instruction_effect, runs, runs_into_watch}
use Rattle.pr_model.specs.Readers.{borrower_at}
use Rattle.pr_model.specs.Registers.{arguments}
use Rattle.pr_model.specs.State.{TracedLwp, TracedProcess, TracedSystem}
use Rattle.pr_model.specs.declared.events.Did.{Did}
use Rattle.pr_model.specs.declared.events.Did.TheVariants.{Made, Woke}
use Rattle.pr_model.specs.declared.events.Res.TheVariants.{Value}
use Rattle.pr_model.specs.declared.lwps.Phase.TheVariants.{Asleep, Entered}
use Rattle.pr_num.specs.declared.syscalls.Sysno.{Sysno}
use Rattle.pr_truss.specs.Asides.{marks_at}
use Rattle.pr_truss.specs.FunctionEvents.{is_exec}
use Rattle.pr_truss.specs.Marks.{has_function}
use Rattle.pr_truss.specs.Trusses.{TrussState}
use Rattle.pr_truss.specs.declared.asides.Aside.TheVariants.{Patching, Planting}
use Rattle.pr_truss.specs.declared.marks.Stepped.{Stepped}

-- ---- which functions these are

-- Truss is to plant the breakpoint of a function again in the process at a place: it has lifted it, for a call that
-- copies or replaces the memory or for the step of an lwp, and not planted it again. Or the function is among those
-- whose breakpoints it plants or lifts right now, one after another.
pub data Counts (u : TrussState) (place function : ℕ) : Type 0 where
  lifted : has_function (marks_at u place).lifted function ≡ true → Counts u place function
  stepped : (step : Stepped) → (marks_at u place).stepped ≡ Some step → step.function ≡ function
      → Counts u place function
  again : (plants lifts : List Bool) (clear : Bool) → u.aside ≡ Patching place plants lifts clear
      → (has_function plants function ≡ true) ⊎ (has_function lifts function ≡ true) → Counts u place function

-- ---- functions in memory that is lent (vfork(2))

-- The memory of a process is lent to one, directly or from borrower to borrower.
pub data HasBorrowed (s : TracedSystem) (pid : ℕ) : ℕ → Type 0 where
  directly : {borrower : ℕ} → borrower_at s pid ≡ Some borrower → HasBorrowed s pid borrower
  through : {a borrower : ℕ} → HasBorrowed s pid a → borrower_at s a ≡ Some borrower → HasBorrowed s pid borrower

-- Truss has read the code of a function in a process that it opens, and rests on what it read: it plants its breakpoint
-- next.
abbrev pub IsRead : TrussState → ℕ → ℕ → Type 0
IsRead u place function = u.aside ≡ Planting place function

-- ---- programs that leave them alone

-- what an instruction stores, if it stores something, has no byte of a patch
abbrev pub StoresBeside : Patch → Option Store → Type 0
StoresBeside f None = Unit {0}
StoresBeside f (Some store) = are_spared (f ∷ []) store.at (length store.bytes) ≡ true

abbrev pub WorksBeside : Patch → InstructionEffect → Type 0
WorksBeside f (runs regs store) = StoresBeside f store
WorksBeside f (calls call regs) = Unit {0}
WorksBeside f (faults fault address) = Unit {0}
WorksBeside f (runs_into_watch address regs store) = StoresBeside f store

-- The instruction that an lwp runs stores nothing to a patch, and the call that it makes, or sleeps in, asks for no
-- memory of it; but for exec, which asks for a path.
pub record LeavesAlone (f : Patch) (p : TracedProcess) (l : TracedLwp) : Type 0 where
  pub instruction : RunsInstruction p l → WorksBeside f (instruction_effect p.space p.control.areas l.regs)
  pub called : (call : Sysno) → l.phase ≡ Entered call → is_exec call ≡ false
      → spares_call (f ∷ []) p.space call (arguments l.regs) ≡ true
  pub asleep : (call : Sysno) (args : List ℕ) (since : ℕ) → l.phase ≡ Asleep call args since → is_exec call ≡ false
      → spares_call (f ∷ []) p.space call args ≡ true

-- ---- where the memory is replaced

-- a turn makes a vfork(2) or an exec(2), and it is granted: a child has the memory too then, or the memory is another
abbrev pub takes_memory : Did → Bool
takes_memory (Made call (Value value)) = replaces call
takes_memory (Woke call (Value value)) = replaces call
takes_memory did = false
