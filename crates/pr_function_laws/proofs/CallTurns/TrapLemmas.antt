use Rattle.std.proofs.Common.{◌≡◌, ◌≢◌, ◌==◌, ℕ, Bool, true, false, cond, Option, Some, None, Result, Ok, Err, List, length, refl}
use Rattle.pr_model.specs.InstructionEffects.{Decoded, InstructionEffect, Load, Store, access_fault, decoded, enters_call, executed, faults, faults_itself, hit_after, hit_before, in_register, instruction_effect, is_stack_load, leaves, load_effect, loaded, loads, of_instruction, store_effect, stores, trapped_after, unless_exec_watched, unless_watched}
use Rattle.pr_model.specs.Registers.{pc_of}
use Rattle.pr_num.specs.Control.{prot_exec, prot_read, prot_write, watch_exec, watch_read, watch_write}
use Rattle.pr_num.specs.Instructions.{instruction_in}
use Rattle.pr_num.specs.Spaces.{Space, bytes_for}
use Rattle.pr_num.specs.declared.faults.Flt.TheVariants.{Izdiv, Trace}
use Rattle.pr_num.specs.declared.instructions.Instruction.{Instruction}
use Rattle.pr_num.specs.declared.instructions.Instruction.TheVariants as op
use Rattle.pr_num.specs.declared.mappings.Area.{Area}
use Rattle.pr_num.specs.declared.mappings.BadByte.{BadByte}
use Rattle.pr_num.specs.declared.mappings.BadByte.TheVariants.{Hole, NotAllowed}
use Rattle.pr_parts.specs.WatchedAreas.{hit_in}

-- No instruction incurs FLTTRACE by itself, whatever areas are watched: a trace trap comes of a step mark alone.

abbrev pub IsTrapless : InstructionEffect → Type 0
IsTrapless (faults f address) = f ≢ Trace
IsTrapless _ = Unit {0}

trapless-access : (stack : Bool) (bad : BadByte) → IsTrapless (access_fault stack bad)
trapless-access true (Hole address) = λ e. cc
trapless-access true (NotAllowed address) = λ e. cc
trapless-access false (Hole address) = λ e. cc
trapless-access false (NotAllowed address) = λ e. cc

trapless-after : (a b : Option ℕ) (regs : List ℕ) (store : Option Store) → IsTrapless (trapped_after a b regs store)
trapless-after (Some address) b regs store = tt
trapless-after None (Some address) regs store = tt
trapless-after None None regs store = tt

trapless-watched : (exec_hit : Option ℕ) (data_hit : Option (ℕ × Bool)) (regs : List ℕ) (store : Option Store)
    → IsTrapless (unless_watched exec_hit data_hit regs store)
trapless-watched exec_hit data_hit regs store = by (hit_before data_hit) refl
  where
    by : (o : Option ℕ) → hit_before data_hit ≡ o → IsTrapless (unless_watched exec_hit data_hit regs store)
    by (Some address) is = rw is (λ e. cc)
    by None is = rw is (trapless-after exec_hit _ regs store)

-- what an instruction faults by itself
abbrev FaultsPlainly : Decoded → Type 0
FaultsPlainly (faults_itself f) = f ≢ Trace
FaultsPlainly _ = Unit {0}

either : (b : Bool) (x y : Decoded) → FaultsPlainly x → FaultsPlainly y → FaultsPlainly (cond b x y)
either true x y one other = one
either false x y one other = other

no_divisor : Izdiv ≢ Trace
no_divisor e = cc

plain-decoded : (i : Instruction) (regs : List ℕ) → FaultsPlainly (decoded i regs)
unfolding decoded
plain-decoded op.Bpt regs = λ e. cc
plain-decoded (op.Div to from) regs = either (in_register from regs == 0) _ _ no_divisor tt
plain-decoded _ regs = tt

module _ (space : Space) (areas : List Area) where
  trapless-load : (exec_hit : Option ℕ) (regs : List ℕ) (load : Load) (at size : ℕ)
      → IsTrapless (load_effect space areas exec_hit regs load at size)
  unfolding load_effect
  trapless-load exec_hit regs load at size = by (bytes_for prot_read space at size) refl
    where
      by : (r : Result (List ℕ) BadByte) → bytes_for prot_read space at size ≡ r
          → IsTrapless (load_effect space areas exec_hit regs load at size)
      by (Err bad) is = rw is (trapless-access (is_stack_load load) bad)
      by (Ok bytes) is =
          rw is (trapless-watched exec_hit (hit_in watch_read areas at size) (loaded load regs bytes) None)

  trapless-store : (exec_hit : Option ℕ) (stack : Bool) (regs : List ℕ) (store : Store)
      → IsTrapless (store_effect space areas exec_hit stack regs store)
  unfolding store_effect
  trapless-store exec_hit stack regs store = by (bytes_for prot_write space store.at (length store.bytes)) refl
    where
      by : (r : Result (List ℕ) BadByte) → bytes_for prot_write space store.at (length store.bytes) ≡ r
          → IsTrapless (store_effect space areas exec_hit stack regs store)
      by (Err bad) is = rw is (trapless-access stack bad)
      by (Ok bytes) is =
          rw is
          (trapless-watched exec_hit (hit_in watch_write areas store.at (length store.bytes)) regs (Some store))

  trapless-executed : (exec_hit : Option ℕ) (regs : List ℕ) (d : Decoded) → FaultsPlainly d
      → IsTrapless (executed space areas exec_hit regs d)
  unfolding executed
  trapless-executed exec_hit regs (faults_itself f) itself = itself
  trapless-executed exec_hit regs (enters_call call) itself = tt
  trapless-executed exec_hit regs (leaves new) itself = trapless-after exec_hit None new None
  trapless-executed exec_hit regs (loads load at size) itself = trapless-load exec_hit regs load at size
  trapless-executed exec_hit regs (stores stack new store) itself = trapless-store exec_hit stack new store

  trapless-instruction : (exec_hit : Option ℕ) (regs : List ℕ) (i : Option Instruction)
      → IsTrapless (of_instruction space areas exec_hit regs i)
  trapless-instruction exec_hit regs None = λ e. cc
  trapless-instruction exec_hit regs (Some i) =
      trapless-executed exec_hit regs (decoded i regs) (plain-decoded i regs)

  trapless-fetched : (exec_hit : Option (ℕ × Bool)) (regs bytes : List ℕ)
      → IsTrapless (unless_exec_watched space areas exec_hit regs bytes)
  trapless-fetched exec_hit regs bytes = by (hit_before exec_hit) refl
    where
      by : (o : Option ℕ) → hit_before exec_hit ≡ o → IsTrapless (unless_exec_watched space areas exec_hit regs bytes)
      by (Some address) is = rw is (λ e. cc)
      by None is = rw is (trapless-instruction (hit_after exec_hit) regs (instruction_in bytes))

  pub trapless : (regs : List ℕ) → IsTrapless (instruction_effect space areas regs)
  unfolding instruction_effect
  trapless regs = by (bytes_for prot_exec space (pc_of regs) 16) refl
    where
      by : (r : Result (List ℕ) BadByte) → bytes_for prot_exec space (pc_of regs) 16 ≡ r
          → IsTrapless (instruction_effect space areas regs)
      by (Err bad) is = rw is (trapless-access false bad)
      by (Ok bytes) is = rw is (trapless-fetched (hit_in watch_exec areas (pc_of regs) 16) regs bytes)
