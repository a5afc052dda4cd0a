use Rattle.std.proofs.Common.{◌≡◌, ◌≢◌, ◌+◌, ◌%◌, ◌^◌, ℕ, zero, suc, Bool, true, false, eqb, Option, Some, None, Result, Ok, Err, List, [], length, cond, refl}
use Rattle.pr_num.specs.Control.{prot_read, prot_write, prot_exec, watch_read, watch_write, watch_exec}
use Rattle.pr_num.specs.Instructions.{instruction_in}
use Rattle.pr_num.specs.Spaces.{Space, bytes_for}
use Rattle.pr_num.specs.declared.faults.Flt.TheVariants.{Trace, Izdiv}
use Rattle.pr_num.specs.declared.instructions.Instruction.{Instruction}
use Rattle.pr_num.specs.declared.instructions.Instruction.TheVariants as op
use Rattle.pr_num.specs.declared.mappings.BadByte.{BadByte}
use Rattle.pr_num.specs.declared.mappings.BadByte.TheVariants.{Hole, NotAllowed}
use Rattle.pr_parts.specs.WatchedAreas.{hit_in}
use Rattle.pr_model.specs.InstructionEffects.{Load, Store, Decoded, faults_itself, enters_call, leaves, loads, stores, decoded, access_fault, load_effect, store_effect, executed, of_instruction, instruction_effect, in_register, is_stack_load}
use Rattle.pr_model.specs.Registers.{pc_of}
use Rattle.pr_erasure.specs.PlainEffects.{IsPlain}

-- Where nothing is watched no instruction incurs FLTWATCH, and none incurs FLTTRACE by itself: that comes of a step
-- mark.

unwatched : (kind at size : ℕ) → hit_in kind [] at size ≡ None
unfolding hit_in
unwatched kind at zero = refl
unwatched kind at (suc size) = rw (unwatched kind ((at + 1) % 2 ^ 64) size) refl

plain-access : (stack : Bool) (bad : BadByte) → IsPlain (access_fault stack bad)
plain-access true (Hole address) = λ e. cc
plain-access true (NotAllowed address) = λ e. cc
plain-access false (Hole address) = λ e. cc
plain-access false (NotAllowed address) = λ e. cc

plain-load : (space : Space) (regs : List ℕ) (load : Load) (at size : ℕ)
    → IsPlain (load_effect space [] None regs load at size)
unfolding load_effect
plain-load space regs load at size = by (bytes_for prot_read space at size) refl
  where
    by : (r : Result (List ℕ) BadByte) → bytes_for prot_read space at size ≡ r
        → IsPlain (load_effect space [] None regs load at size)
    by (Err bad) is = rw is (plain-access (is_stack_load load) bad)
    by (Ok bytes) is = rw (is, unwatched watch_read at size) tt

plain-store : (space : Space) (stack : Bool) (regs : List ℕ) (store : Store)
    → IsPlain (store_effect space [] None stack regs store)
unfolding store_effect
plain-store space stack regs store = by (bytes_for prot_write space store.at (length store.bytes)) refl
  where
    by : (r : Result (List ℕ) BadByte) → bytes_for prot_write space store.at (length store.bytes) ≡ r
        → IsPlain (store_effect space [] None stack regs store)
    by (Err bad) is = rw is (plain-access stack bad)
    by (Ok bytes) is = rw (is, unwatched watch_write store.at (length store.bytes)) tt

-- what an instruction faults by itself
abbrev FaultsPlainly : Decoded → Type 0
FaultsPlainly (faults_itself f) = f ≢ Trace
FaultsPlainly _ = Unit {0}

either : (b : Bool) (x y : Decoded) → FaultsPlainly x → FaultsPlainly y → FaultsPlainly (cond b x y)
either true x y one other = one
either false x y one other = other

no_divisor : Izdiv ≢ Trace
no_divisor e = cc

plain-decoded : (i : Instruction) (regs : List ℕ) → FaultsPlainly (decoded i regs)
unfolding decoded
plain-decoded op.Bpt regs = λ e. cc
plain-decoded op.Nop regs = tt
plain-decoded (op.Set to imm) regs = tt
plain-decoded (op.Mov to from) regs = tt
plain-decoded (op.Add to from) regs = tt
plain-decoded (op.Sub to from) regs = tt
plain-decoded (op.Mul to from) regs = tt
plain-decoded (op.Div to from) regs = either (eqb (in_register from regs) 0) _ _ no_divisor tt
plain-decoded (op.Ld to base offset) regs = tt
plain-decoded (op.St from base offset) regs = tt
plain-decoded (op.Ldb to base offset) regs = tt
plain-decoded (op.Stb from base offset) regs = tt
plain-decoded (op.Jmp target) regs = tt
plain-decoded (op.Jz test target) regs = tt
plain-decoded (op.Jnz test target) regs = tt
plain-decoded (op.Jlt left right target) regs = tt
plain-decoded (op.Call target) regs = tt
plain-decoded op.Ret regs = tt
plain-decoded (op.Sys call) regs = tt

plain-executed : (space : Space) (regs : List ℕ) (d : Decoded) → FaultsPlainly d
    → IsPlain (executed space [] None regs d)
unfolding executed
plain-executed space regs (faults_itself f) itself = itself
plain-executed space regs (enters_call call) itself = tt
plain-executed space regs (leaves new) itself = tt
plain-executed space regs (loads load at size) itself = plain-load space regs load at size
plain-executed space regs (stores stack new store) itself = plain-store space stack new store

plain-instruction : (space : Space) (regs : List ℕ) (i : Option Instruction)
    → IsPlain (of_instruction space [] None regs i)
plain-instruction space regs None = λ e. cc
plain-instruction space regs (Some i) = plain-executed space regs (decoded i regs) (plain-decoded i regs)

pub plain : (space : Space) (regs : List ℕ) → IsPlain (instruction_effect space [] regs)
unfolding instruction_effect
plain space regs = by (bytes_for prot_exec space (pc_of regs) 16) refl
  where
    by : (r : Result (List ℕ) BadByte) → bytes_for prot_exec space (pc_of regs) 16 ≡ r
        → IsPlain (instruction_effect space [] regs)
    by (Err bad) is = rw is (plain-access false bad)
    by (Ok bytes) is =
        rw (is, unwatched watch_exec (pc_of regs) 16) (plain-instruction space regs (instruction_in bytes))
