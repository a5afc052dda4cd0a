use Rattle.std.proofs.Common.{◌≡◌, ◌≢◌, ℕ, Bool, true, false, Option, Some, None, List, Result, Ok, Err, refl, sym, subst, ap, ◌∙◌, inl, inr}
use Rattle.std.proofs.lemmas.Bool.{cases_Bool}
use Rattle.pr_hidden.proofs.Follows.FaultRows.{HowFaulted, by_instruction, by_return, how-faulted, trace-effect}
use Rattle.pr_model.specs.InstructionEffects as instruction
use Rattle.pr_model.specs.InstructionEffects.{InstructionEffect, Store, access_fault, decoded, executed, instruction_effect, of_instruction, unless_exec_watched}
use Rattle.pr_model.specs.Legal.{IsLegalEntry, state_after}
use Rattle.pr_model.specs.Registers.{pc_of}
use Rattle.pr_model.specs.Rows.{Row, executed_row, requested_row, row_for, watched_row}
use Rattle.pr_model.specs.State.{TracedLwp, TracedProcess, TracedState, live_process, lwp_of}
use Rattle.pr_model.specs.declared.events.Did.TheVariants.{Faulted, Stopped}
use Rattle.pr_model.specs.declared.events.Entry.{Entry}
use Rattle.pr_model.specs.declared.events.Turned.{Turned}
use Rattle.pr_model.specs.declared.lwps.Phase.TheVariants.{User, Exiting}
use Rattle.pr_num.specs.Control.{prot_exec, watch_exec}
use Rattle.pr_num.specs.Instructions.{instruction_in}
use Rattle.pr_num.specs.Spaces.{Space, bytes_for}
use Rattle.pr_num.specs.declared.faults.Flt.TheVariants.{Trace, Watch}
use Rattle.pr_num.specs.declared.instructions.Instruction.{Instruction}
use Rattle.pr_num.specs.declared.instructions.Instruction.TheVariants.{Bpt}
use Rattle.pr_num.specs.declared.mappings.Area.{Area}
use Rattle.pr_num.specs.declared.mappings.BadByte.{BadByte}
use Rattle.pr_num.specs.declared.mappings.BadByte.TheVariants.{Hole, NotAllowed}
use Rattle.pr_parts.specs.WatchedAreas.{hit_in}
use Rattle.pr_probe_laws.proofs.Hiding.HiddenFacts.{legal-turn}
use Rattle.pr_probe_laws.proofs.Hiding.HiddenTurns.{did-is}
use Rattle.pr_truss.specs.Marks.{breakpoint}
use Rattle.pr_truss_laws.proofs.Machine.StillLemmas.{row-directed}
use Rattle.pr_function_laws.proofs.CallTurns.TrapLemmas.{IsTrapless, trapless}
use Rattle.pr_function_laws.proofs.PlantedCalls.BreakpointCode.{breakpoint-read}
use Rattle.pr_function_laws.specs.Turns.{EndsInTrap}
use Rattle.pr_function_hides.proofs.StepsUnderWay.TrapTurns.{turn_entry}

-- An lwp that fetches the instruction of a breakpoint completes no instruction: its turn ends with no trace trap.

-- ---- the instruction of a breakpoint

abbrev IsNoRun : InstructionEffect → Type 0
IsNoRun e = (regs : List ℕ) (store : Option Store) → e ≢ instruction.runs regs store

access-none : (bad : BadByte) → IsNoRun (access_fault false bad)
access-none (Hole address) regs store is = cc
access-none (NotAllowed address) regs store is = cc

module _ (space : Space) (areas : List Area) (regs : List ℕ) where
  bpt-none : (hit : Option ℕ) → IsNoRun (of_instruction space areas hit regs (Some Bpt))
  unfolding executed decoded
  bpt-none hit rs store is = cc

  of-none : (hit : Option ℕ) → IsNoRun (of_instruction space areas hit regs (instruction_in breakpoint))
  of-none hit =
      subst (λ (i : Option Instruction). IsNoRun (of_instruction space areas hit regs i)) (sym breakpoint-read)
      (bpt-none hit)

  hit-none : (address : ℕ) (after : Bool)
      → IsNoRun (unless_exec_watched space areas (Some (address, after)) regs breakpoint)
  hit-none address true = of-none (Some address)
  hit-none address false = λ rs store is. cc

  fetched-none : (hit : Option (ℕ × Bool)) → IsNoRun (unless_exec_watched space areas hit regs breakpoint)
  fetched-none None = of-none None
  fetched-none (Some hit) = hit-none hit.0 hit.1

  effect-none : ((bytes : List ℕ) → bytes_for prot_exec space (pc_of regs) 16 ≡ Ok bytes → bytes ≡ breakpoint)
      → IsNoRun (instruction_effect space areas regs)
  unfolding instruction_effect
  effect-none only = by (bytes_for prot_exec space (pc_of regs) 16) refl
    where
      by : (r : Result (List ℕ) BadByte) → bytes_for prot_exec space (pc_of regs) 16 ≡ r
          → IsNoRun (instruction_effect space areas regs)
      by (Err bad) fetch rs store is = access-none bad rs store (rw fetch at is)
      by (Ok bytes) fetch rs store is =
          subst
          (λ (xs : List ℕ). IsNoRun (unless_exec_watched space areas (hit_in watch_exec areas (pc_of regs) 16) regs xs))
          (sym (only bytes fetch)) (fetched-none (hit_in watch_exec areas (pc_of regs) 16)) rs store (rw fetch at is)

-- ---- a turn

module _ (p : TracedProcess) (l : TracedLwp) where
  no-trap : (e : InstructionEffect) → IsTrapless e → IsNoRun e → (executed_row p l e).did ≡ Faulted Trace → ⊥
  unfolding executed_row watched_row
  no-trap (instruction.runs regs store) free never did = never regs store refl
  no-trap (instruction.calls call regs) free never did =
      let w = trace-effect p l (instruction.calls call regs) tt did in never w.regs w.store w.effect
  no-trap (instruction.faults f address) free never did =
      let w = trace-effect p l (instruction.faults f address) free did in never w.regs w.store w.effect
  no-trap (instruction.runs_into_watch address regs store) free never did = absurd (clash did)
    where
      clash : Faulted Watch ≡ Faulted Trace → ⊥
      clash e = cc

module _ (n : ℕ) (first : TracedState) (front : List Entry) (pid id : ℕ) (t : Turned)
    (its_legal : IsLegalEntry n (state_after first front) (turn_entry pid id t)) (p : TracedProcess) (l : TracedLwp)
    (live : live_process (state_after first front).system pid ≡ Some p) (there : lwp_of p id ≡ Some l)
    (trap : EndsInTrap t) where
  abbrev s : TracedState
  s = state_after first front

  did : (row_for s.system pid p id l).did ≡ Faulted Trace
  did =
      let here = legal-turn n s pid id t its_legal in
      sym (did-is s pid id (record { system = here.0; turned = t }) here.1 p l live there) ∙ trap

  -- its lwp was not directed to stop
  pub trapped-moves : l.control.directed ≡ false
  unfolding requested_row
  trapped-moves = elim (cases_Bool l.control.directed) [
    | inl will ↦ absurd
        (clash (sym (ap (λ (x : Row). x.did) (row-directed s.system pid p id l will)) ∙ did))
    | inr goes ↦ goes
  ]
    where
      clash : Stopped ≡ Faulted Trace → ⊥
      clash same = cc

  pub none-fetched : l.phase ≡ User
      → ((bytes : List ℕ) → bytes_for prot_exec p.space (pc_of l.regs) 16 ≡ Ok bytes → bytes ≡ breakpoint) → ⊥
  none-fetched user only = by (how-faulted s.system pid p id l Trace did)
    where
      clash : {call : _} {args : List ℕ} {result : _} → Exiting call args result ≡ User → ⊥
      clash same = cc

      by : HowFaulted s.system pid p id l → ⊥
      by (by_instruction it row) =
          no-trap p l (instruction_effect p.space p.control.areas l.regs) (trapless p.space p.control.areas l.regs)
          (effect-none p.space p.control.areas l.regs only)
          (ap (λ (x : Row). x.did) (sym row) ∙ did)
      by (by_return call back row) = clash (sym back.on_its_way ∙ user)
