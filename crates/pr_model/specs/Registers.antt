use Rattle.std.specs.Prelude.{◌+◌, ◌^◌, ◌%◌, ℕ, List, slice_set, slice_index, take, drop}
use Rattle.pr_num.specs.Errnos.{errno_number}
use Rattle.pr_num.specs.declared.syscalls.Sysno.{Sysno}
use Rattle.pr_num.specs.declared.syscalls.Sysno.TheVariants.{Exec, Sigreturn}
use Rattle.pr_model.specs.declared.events.Res.{Res}
use Rattle.pr_model.specs.declared.events.Res.TheVariants.{Value, Error, Ended}

-- The registers of an lwp, r0 to r7, sp, fp and pc in this order, and what system calls find and leave in them.

-- the six arguments of a system call, in r1 to r6
abbrev pub arguments : List ℕ → List ℕ
arguments regs = take 6 (drop 1 regs)

-- where a result is stored: a value v gives r0 = v and r7 = 0, an error e gives r0 = 0 and r7 = e
unfoldable pub with_result : Res → List ℕ → List ℕ
with_result (Value v) regs = slice_set (slice_set regs 0 v) 7 0
with_result (Error e) regs = slice_set (slice_set regs 0 0) 7 (errno_number e)
with_result Ended regs = regs

-- sigreturn and a successful exec store no result, since the registers that they leave are those of a handler's return
-- and of a new program
unfoldable pub stored : Sysno → Res → List ℕ → List ℕ
stored Sigreturn (Value v) regs = regs
stored Exec (Value v) regs = regs
stored call result regs = with_result result regs

-- the program counter stands last among the registers, and before it the stack pointer and the frame pointer
abbrev pub pc_of : List ℕ → ℕ
pc_of regs = slice_index regs 10

abbrev pub with_pc : ℕ → List ℕ → List ℕ
with_pc pc regs = slice_set regs 10 pc

abbrev pub sp_of : List ℕ → ℕ
sp_of regs = slice_index regs 8

abbrev pub with_sp : ℕ → List ℕ → List ℕ
with_sp sp regs = slice_set regs 8 sp

abbrev pub fp_of : List ℕ → ℕ
fp_of regs = slice_index regs 9

abbrev pub with_fp : ℕ → List ℕ → List ℕ
with_fp fp regs = slice_set regs 9 fp

-- the address that stands so many bytes after another; addresses wrap
abbrev pub address_at : ℕ → ℕ → ℕ
address_at base offset = (base + offset) % 2 ^ 64

-- the registers with pc at the next instruction
unfoldable pub moved_on : List ℕ → List ℕ
moved_on regs = with_pc (address_at (pc_of regs) 16) regs
