use Rattle.std.proofs.Common.{◌≡◌, ◌≢◌, ◌+◌, ◌≤◌, ◌<◌, ℕ, Bool, true, false, Option, Some, None, Result, Ok, Err, List, [], ◌∷◌, length, cond, refl, sym, ◌∙◌, ap}
use Rattle.std.proofs.lemmas.Bool.{and_parts}
use Rattle.pr_num.specs.Control.{prot_exec, prot_read, prot_write, watch_exec, watch_read, watch_write}
use Rattle.pr_num.specs.Instructions.{instruction_in}
use Rattle.pr_num.specs.Spaces.{Space, bytes_for}
use Rattle.pr_num.specs.declared.instructions.Instruction.{Instruction}
use Rattle.pr_num.specs.declared.mappings.Area.{Area}
use Rattle.pr_num.specs.declared.mappings.BadByte.{BadByte}
use Rattle.pr_num.specs.declared.mappings.BadByte.TheVariants.{Hole, NotAllowed}
use Rattle.pr_parts.specs.WatchedAreas.{hit_in}
use Rattle.pr_model.specs.InstructionEffects.{Decoded, InstructionEffect, Load, Store, access_fault, calls, decoded, enters_call, executed, faults, faults_itself, hit_after, hit_before, instruction_effect, is_stack_load, leaves, load_effect, loaded, loads, of_instruction, runs, runs_into_watch, store_effect, stores, trapped_after, unless_exec_watched, unless_watched}
use Rattle.pr_model.specs.Registers.{pc_of}
use Rattle.pr_hidden.specs.Covers.{Patch, patched}
use Rattle.pr_hidden.specs.Sparing.{are_spared, spares_data, spares_decoded, spares_fetched, spares_instruction}
use Rattle.pr_hidden.proofs.PatchedSpaces.AccessLemmas.{bytes-spared}

-- An instruction that spares the patches does the same in the space as programs have it, and what it stores spares
-- them.

-- what an effect stores spares the patches
abbrev pub StoreSpares : List Patch → Option Store → Type 0
StoreSpares ps None = Unit {0}
StoreSpares ps (Some store) = are_spared ps store.at (length store.bytes) ≡ true

abbrev pub EffectSpares : List Patch → InstructionEffect → Type 0
EffectSpares ps (runs regs store) = StoreSpares ps store
EffectSpares ps (calls call regs) = Unit {0}
EffectSpares ps (faults f address) = Unit {0}
EffectSpares ps (runs_into_watch address regs store) = StoreSpares ps store

pub record IsSame (ps : List Patch) (beneath effect : InstructionEffect) : Type 0 where
  pub same : beneath ≡ effect
  pub spares : EffectSpares ps effect

trapped-spares : (ps : List Patch) (a b : Option ℕ) (regs : List ℕ) (store : Option Store) → StoreSpares ps store
    → EffectSpares ps (trapped_after a b regs store)
trapped-spares ps (Some address) b regs store spares = spares
trapped-spares ps None (Some address) regs store spares = spares
trapped-spares ps None None regs store spares = spares

watched-spares : (ps : List Patch) (exec_hit : Option ℕ) (data_hit : Option (ℕ × Bool)) (regs : List ℕ)
    (store : Option Store) → StoreSpares ps store → EffectSpares ps (unless_watched exec_hit data_hit regs store)
watched-spares ps exec_hit data_hit regs store spares = by (hit_before data_hit) refl
  where
    by : (o : Option ℕ) → hit_before data_hit ≡ o → EffectSpares ps (unless_watched exec_hit data_hit regs store)
    by (Some address) is = rw is tt
    by None is = rw is (trapped-spares ps exec_hit _ regs store spares)

fault-spares : (ps : List Patch) (stack : Bool) (bad : BadByte) → EffectSpares ps (access_fault stack bad)
fault-spares ps true (Hole address) = tt
fault-spares ps true (NotAllowed address) = tt
fault-spares ps false (Hole address) = tt
fault-spares ps false (NotAllowed address) = tt

module _ (ps : List Patch) (space : Space) (areas : List Area) where
  load-same : (exec_hit : Option ℕ) (regs : List ℕ) (load : Load) (at size : ℕ) → are_spared ps at size ≡ true
      → IsSame ps (load_effect (patched ps space) areas exec_hit regs load at size)
      (load_effect space areas exec_hit regs load at size)
  unfolding load_effect
  load-same exec_hit regs load at size spared = by (bytes_for prot_read space at size) refl
    where
      by : (r : Result (List ℕ) BadByte) → bytes_for prot_read space at size ≡ r
          → IsSame ps (load_effect (patched ps space) areas exec_hit regs load at size)
          (load_effect space areas exec_hit regs load at size)
      by (Err bad) is =
          rw (bytes-spared ps prot_read at size space spared ∙ is, is)
          (record { same = refl; spares = fault-spares ps (is_stack_load load) bad })
      by (Ok bytes) is =
          rw (bytes-spared ps prot_read at size space spared ∙ is, is) (record {
            same = refl;
            spares = watched-spares ps exec_hit (hit_in watch_read areas at size) (loaded load regs bytes) None tt;
          })

  store-same : (exec_hit : Option ℕ) (stack : Bool) (regs : List ℕ) (store : Store)
      → are_spared ps store.at (length store.bytes) ≡ true
      → IsSame ps (store_effect (patched ps space) areas exec_hit stack regs store)
      (store_effect space areas exec_hit stack regs store)
  unfolding store_effect
  store-same exec_hit stack regs store spared = by (bytes_for prot_write space store.at (length store.bytes)) refl
    where
      by : (r : Result (List ℕ) BadByte) → bytes_for prot_write space store.at (length store.bytes) ≡ r
          → IsSame ps (store_effect (patched ps space) areas exec_hit stack regs store)
          (store_effect space areas exec_hit stack regs store)
      by (Err bad) is =
          rw (bytes-spared ps prot_write store.at (length store.bytes) space spared ∙ is, is)
          (record { same = refl; spares = fault-spares ps stack bad })
      by (Ok old) is =
          rw (bytes-spared ps prot_write store.at (length store.bytes) space spared ∙ is, is) (record {
            same = refl;
            spares =
                watched-spares ps exec_hit (hit_in watch_write areas store.at (length store.bytes)) regs (Some store)
                spared;
          })

  executed-same : (exec_hit : Option ℕ) (regs : List ℕ) (d : Decoded) → spares_data ps d ≡ true
      → IsSame ps (executed (patched ps space) areas exec_hit regs d) (executed space areas exec_hit regs d)
  unfolding executed
  executed-same exec_hit regs (faults_itself f) spared = record { same = refl; spares = tt }
  executed-same exec_hit regs (enters_call call) spared = record { same = refl; spares = tt }
  executed-same exec_hit regs (leaves new) spared =
      record { same = refl; spares = trapped-spares ps exec_hit None new None tt }
  executed-same exec_hit regs (loads load at size) spared = load-same exec_hit regs load at size spared
  executed-same exec_hit regs (stores stack new store) spared = store-same exec_hit stack new store spared

  decoded-same : (exec_hit : Option ℕ) (regs : List ℕ) (i : Option Instruction) → spares_decoded ps regs i ≡ true
      → IsSame ps (of_instruction (patched ps space) areas exec_hit regs i) (of_instruction space areas exec_hit regs i)
  decoded-same exec_hit regs None spared = record { same = refl; spares = tt }
  decoded-same exec_hit regs (Some i) spared = executed-same exec_hit regs (decoded i regs) spared

  fetched-same : (exec_hit : Option (ℕ × Bool)) (regs bytes : List ℕ)
      → spares_decoded ps regs (instruction_in bytes) ≡ true
      → IsSame ps (unless_exec_watched (patched ps space) areas exec_hit regs bytes)
      (unless_exec_watched space areas exec_hit regs bytes)
  fetched-same exec_hit regs bytes spared = by (hit_before exec_hit) refl
    where
      by : (o : Option ℕ) → hit_before exec_hit ≡ o
          → IsSame ps (unless_exec_watched (patched ps space) areas exec_hit regs bytes)
          (unless_exec_watched space areas exec_hit regs bytes)
      by (Some address) is = rw is (record { same = refl; spares = tt })
      by None is = rw is (decoded-same (hit_after exec_hit) regs (instruction_in bytes) spared)

  pub instruction-same : (regs : List ℕ) → spares_instruction ps space regs ≡ true
      → IsSame ps (instruction_effect (patched ps space) areas regs) (instruction_effect space areas regs)
  unfolding instruction_effect spares_instruction
  instruction-same regs spared = by (bytes_for prot_exec space (pc_of regs) 16) refl
    where
      parts : (are_spared ps (pc_of regs) 16 ≡ true)
          × (spares_fetched ps regs (bytes_for prot_exec space (pc_of regs) 16) ≡ true)
      parts =
          and_parts (are_spared ps (pc_of regs) 16) (spares_fetched ps regs (bytes_for prot_exec space (pc_of regs) 16))
          spared

      by : (r : Result (List ℕ) BadByte) → bytes_for prot_exec space (pc_of regs) 16 ≡ r
          → IsSame ps (instruction_effect (patched ps space) areas regs) (instruction_effect space areas regs)
      by (Err bad) is =
          rw (bytes-spared ps prot_exec (pc_of regs) 16 space parts.0 ∙ is, is)
          (record { same = refl; spares = fault-spares ps false bad })
      by (Ok bytes) is =
          rw (bytes-spared ps prot_exec (pc_of regs) 16 space parts.0 ∙ is, is)
          (fetched-same (hit_in watch_exec areas (pc_of regs) 16) regs bytes (rw is at parts.1))

pub same-instruction : (ps : List Patch) (space : Space) (areas : List Area) (regs : List ℕ)
    → spares_instruction ps space regs ≡ true
    → instruction_effect (patched ps space) areas regs ≡ instruction_effect space areas regs
same-instruction ps space areas regs spared = (instruction-same ps space areas regs spared).same

pub ruleset follows = (same-instruction)
