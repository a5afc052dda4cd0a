use Rattle.std.specs.Prelude.{◌==◌, ◌+◌, ◌-◌, ◌*◌, ◌/◌, ◌%◌, ◌^◌, ℕ, Bool, true, false, List, [], ◌∷◌, ◌++◌, Option, Some, None, Result, Ok, Err, not, length, take, drop, nat_lt, slice_index, slice_set, if◌then◌else◌}
use Rattle.pr_num.specs.Control.{prot_exec, prot_read, prot_write, watch_read, watch_write, watch_exec}
use Rattle.pr_num.specs.Instructions.{instruction_in, register_number}
use Rattle.pr_num.specs.Spaces.{Space, bytes_for}
use Rattle.pr_num.specs.Words.{word_bytes, word_of}
use Rattle.pr_num.specs.declared.faults.Flt.{Flt}
use Rattle.pr_num.specs.declared.faults.Flt.TheVariants.{Ill, Bounds, Access, Stack, Izdiv, Watch, Bpt as Breakpoint}
use Rattle.pr_num.specs.declared.instructions.Instruction.{Instruction}
use Rattle.pr_num.specs.declared.instructions.Instruction.TheVariants.{Bpt, Nop, Set, Mov, Add, Sub, Mul, Div, Ld, St, Ldb, Stb, Jmp, Jz, Jnz, Jlt, Call, Ret, Sys}
use Rattle.pr_num.specs.declared.instructions.Reg.{Reg}
use Rattle.pr_num.specs.declared.mappings.Area.{Area}
use Rattle.pr_num.specs.declared.mappings.BadByte.{BadByte}
use Rattle.pr_num.specs.declared.mappings.BadByte.TheVariants.{Hole, NotAllowed}
use Rattle.pr_num.specs.declared.syscalls.Sysno.{Sysno}
use Rattle.pr_parts.specs.WatchedAreas.{hit_in}
use Rattle.pr_model.specs.Registers.{pc_of, with_pc, sp_of, with_sp, fp_of, with_fp, address_at, moved_on}

-- What an instruction does to registers and memory. It is tried in this order: its fetch, areas watched for execution,
-- its decoding, its own faults, areas watched for the data that it reads or writes, and its effect. The untraced
-- machine has no watched areas.

-- bytes that an instruction stores from an address on
pub record Store : Type 0 where
  pub at : ℕ
  pub bytes : List ℕ

-- what an instruction does
pub data InstructionEffect : Type 0 where
  -- it leaves these registers, and stores bytes or none
  runs : List ℕ → Option Store → InstructionEffect
  -- it comes to a system call with these registers
  calls : Sysno → List ℕ → InstructionEffect
  -- it incurs a fault at an address, and changes nothing
  faults : Flt → ℕ → InstructionEffect
  -- it leaves these registers and stores bytes or none, and then incurs FLTWATCH at an address
  runs_into_watch : ℕ → List ℕ → Option Store → InstructionEffect

-- where bytes go that an instruction reads: a word or a byte into a register, or the two words of a call into fp and pc
pub data Load : Type 0 where
  a_word : Reg → Load
  a_byte : Reg → Load
  a_frame : Load

-- an instruction once it is decoded: one that faults by itself, one that comes to a system call, one that leaves
-- registers and does not touch memory, one that reads so many bytes from an address on, and one that leaves registers
-- and stores bytes, which may be those of a call
pub data Decoded : Type 0 where
  faults_itself : Flt → Decoded
  enters_call : Sysno → Decoded
  leaves : List ℕ → Decoded
  loads : Load → ℕ → ℕ → Decoded
  stores : Bool → List ℕ → Store → Decoded

-- the value of a register, and the registers with another value in it
abbrev pub in_register : Reg → List ℕ → ℕ
in_register r regs = slice_index regs (register_number r)

abbrev pub with_register : Reg → ℕ → List ℕ → List ℕ
with_register r value regs = slice_set regs (register_number r) value

-- numbers wrap at 2^64
abbrev pub wrapped : ℕ → ℕ
wrapped n = n % 2 ^ 64

-- a call of a subroutine: sp falls by 16, fp points to the two words there, and pc is the target
abbrev pub call_sp : List ℕ → ℕ
call_sp regs = address_at (sp_of regs) (2 ^ 64 - 16)

abbrev pub after_call : ℕ → List ℕ → List ℕ
after_call target regs = with_pc target (with_fp (call_sp regs) (with_sp (call_sp regs) regs))

-- the two words that a call stores: fp, and the pc after it
abbrev pub call_frame : List ℕ → List ℕ
call_frame regs = word_bytes (fp_of regs) ++ word_bytes (address_at (pc_of regs) 16)

-- the return from a subroutine: fp and pc are the two words at fp, and sp stands after them
abbrev pub after_return : List ℕ → List ℕ → List ℕ
after_return regs bytes =
    with_pc (word_of (drop 8 bytes)) (with_fp (word_of (take 8 bytes)) (with_sp (address_at (fp_of regs) 16) regs))

-- the registers after bytes were read
unfoldable pub loaded : Load → List ℕ → List ℕ → List ℕ
loaded (a_word to) regs bytes = moved_on (with_register to (word_of bytes) regs)
loaded (a_byte to) regs bytes = moved_on (with_register to (slice_index bytes 0) regs)
loaded a_frame regs bytes = after_return regs bytes

-- whether an access is one to the stack, by a return or a call
abbrev pub is_stack_load : Load → Bool
is_stack_load (a_word to) = false
is_stack_load (a_byte to) = false
is_stack_load a_frame = true

-- a jump, or the next instruction
abbrev pub jumped_if : Bool → ℕ → List ℕ → List ℕ
jumped_if true target regs = with_pc target regs
jumped_if false target regs = moved_on regs

-- where an access through a register and an offset begins
abbrev pub access_at : Reg → ℕ → List ℕ → ℕ
access_at base offset regs = address_at (in_register base regs) offset

-- a quotient; a zero divisor faults
abbrev pub divided : Reg → Reg → List ℕ → Decoded
divided to from regs =
    if in_register from regs == 0 then faults_itself Izdiv
    else leaves (moved_on (with_register to (in_register to regs / in_register from regs) regs))

-- What each instruction does, a row an instruction.
unfoldable pub decoded : Instruction → List ℕ → Decoded
decoded Bpt regs = faults_itself Breakpoint
decoded Nop regs = leaves (moved_on regs)
decoded (Set to imm) regs = leaves (moved_on (with_register to imm regs))
decoded (Mov to from) regs = leaves (moved_on (with_register to (in_register from regs) regs))
decoded (Add to from) regs =
    leaves (moved_on (with_register to (wrapped (in_register to regs + in_register from regs)) regs))
decoded (Sub to from) regs =
    leaves (moved_on (with_register to (wrapped (in_register to regs + (2 ^ 64 - in_register from regs))) regs))
decoded (Mul to from) regs =
    leaves (moved_on (with_register to (wrapped (in_register to regs * in_register from regs)) regs))
decoded (Div to from) regs = divided to from regs
decoded (Ld to base offset) regs = loads (a_word to) (access_at base offset regs) 8
decoded (St from base offset) regs =
    stores false (moved_on regs)
    (record { at = access_at base offset regs; bytes = word_bytes (in_register from regs) })
decoded (Ldb to base offset) regs = loads (a_byte to) (access_at base offset regs) 1
decoded (Stb from base offset) regs =
    stores false (moved_on regs) (record { at = access_at base offset regs; bytes = in_register from regs % 256 ∷ [] })
decoded (Jmp target) regs = leaves (with_pc target regs)
decoded (Jz test target) regs = leaves (jumped_if (in_register test regs == 0) target regs)
decoded (Jnz test target) regs = leaves (jumped_if (not (in_register test regs == 0)) target regs)
decoded (Jlt left right target) regs =
    leaves (jumped_if (nat_lt (in_register left regs) (in_register right regs)) target regs)
decoded (Call target) regs =
    stores true (after_call target regs) (record { at = call_sp regs; bytes = call_frame regs })
decoded Ret regs = loads a_frame (fp_of regs) 16
decoded (Sys call) regs = enters_call call

-- ---- faults and watched areas

-- a byte at which an access fails: FLTBOUNDS where nothing is mapped and FLTACCESS where the protection forbids it, and
-- at the stack FLTSTACK
abbrev pub access_fault : Bool → BadByte → InstructionEffect
access_fault true (Hole address) = faults Stack address
access_fault true (NotAllowed address) = faults Stack address
access_fault false (Hole address) = faults Bounds address
access_fault false (NotAllowed address) = faults Access address

-- what of a hit comes before the effect, at an area without TRAPAFTER, and what after it
abbrev pub hit_before : Option (ℕ × Bool) → Option ℕ
hit_before None = None
hit_before (Some h) = if h.1 then None else Some h.0

abbrev pub hit_after : Option (ℕ × Bool) → Option ℕ
hit_after None = None
hit_after (Some h) = if h.1 then Some h.0 else None

-- an effect, after which a hit of the execution, or else one of the data, traps
abbrev pub trapped_after : Option ℕ → Option ℕ → List ℕ → Option Store → InstructionEffect
trapped_after (Some address) data_hit regs store = runs_into_watch address regs store
trapped_after None (Some address) regs store = runs_into_watch address regs store
trapped_after None None regs store = runs regs store

-- An access whose bytes can be had takes effect, unless an area watched for its data forbids it.
abbrev pub unless_watched : Option ℕ → Option (ℕ × Bool) → List ℕ → Option Store → InstructionEffect
unless_watched exec_hit data_hit regs store = of (hit_before data_hit)
  where
    of : Option ℕ → InstructionEffect
    of (Some address) = faults Watch address
    of None = trapped_after exec_hit (hit_after data_hit) regs store

module _ (space : Space) (areas : List Area) where
  -- A read of bytes, in an instruction of which the execution met a hit that traps afterwards, or none.
  unfoldable pub load_effect : Option ℕ → List ℕ → Load → ℕ → ℕ → InstructionEffect
  load_effect exec_hit regs load at size = of (bytes_for prot_read space at size)
    where
      of : Result (List ℕ) BadByte → InstructionEffect
      of (Err bad) = access_fault (is_stack_load load) bad
      of (Ok bytes) = unless_watched exec_hit (hit_in watch_read areas at size) (loaded load regs bytes) None

  -- a write of bytes, which needs that all of them can be written
  unfoldable pub store_effect : Option ℕ → Bool → List ℕ → Store → InstructionEffect
  store_effect exec_hit stack regs store = of (bytes_for prot_write space store.at (length store.bytes))
    where
      of : Result (List ℕ) BadByte → InstructionEffect
      of (Err bad) = access_fault stack bad
      of (Ok old) = unless_watched exec_hit (hit_in watch_write areas store.at (length store.bytes)) regs (Some store)

  -- a decoded instruction; one that comes to a system call is not trapped
  unfoldable pub executed : Option ℕ → List ℕ → Decoded → InstructionEffect
  executed exec_hit regs (faults_itself f) = faults f (pc_of regs)
  executed exec_hit regs (enters_call call) = calls call (moved_on regs)
  executed exec_hit regs (leaves new) = trapped_after exec_hit None new None
  executed exec_hit regs (loads load at size) = load_effect exec_hit regs load at size
  executed exec_hit regs (stores stack new store) = store_effect exec_hit stack new store

  -- 16 bytes that encode no instruction incur FLTILL
  abbrev pub of_instruction : Option ℕ → List ℕ → Option Instruction → InstructionEffect
  of_instruction exec_hit regs None = faults Ill (pc_of regs)
  of_instruction exec_hit regs (Some i) = executed exec_hit regs (decoded i regs)

  -- bytes that were fetched, unless an area watched for execution forbids it
  abbrev pub unless_exec_watched : Option (ℕ × Bool) → List ℕ → List ℕ → InstructionEffect
  unless_exec_watched exec_hit regs bytes = of (hit_before exec_hit)
    where
      of : Option ℕ → InstructionEffect
      of (Some address) = faults Watch address
      of None = of_instruction (hit_after exec_hit) regs (instruction_in bytes)

  abbrev pub of_fetch : List ℕ → Result (List ℕ) BadByte → InstructionEffect
  of_fetch regs (Err bad) = access_fault false bad
  of_fetch regs (Ok bytes) = unless_exec_watched (hit_in watch_exec areas (pc_of regs) 16) regs bytes

  -- The instruction at pc: its 16 bytes are fetched, which have to be executable, decoded, and take effect.
  unfoldable pub instruction_effect : List ℕ → InstructionEffect
  instruction_effect regs = of_fetch regs (bytes_for prot_exec space (pc_of regs) 16)
