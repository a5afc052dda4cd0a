use Rattle.std.proofs.Common.{◌≡◌, ◌≢◌, ◌==◌, ◌++◌, ◌/◌, ℕ, Bool, true, false, cond, is_ok, Result, Ok, Err, Option, Some, None, List, [], ◌∷◌, length, replicate, take, refl, sym, subst, ap, ◌∙◌, arith}
use Rattle.std.proofs.lemmas.Bool.{false≢true}
use Rattle.std.proofs.lemmas.List.{append-nil, take_all}
use Rattle.std.proofs.lemmas.List.Elements.{All-cons, All-nil}
use Rattle.std.proofs.lemmas.Option.{same_Some}
use Rattle.std.specs.Result.{result_ok}
use Rattle.pr_codec.proofs.MessageLemmas.{spelt_is_read}
use Rattle.pr_line.specs.declared.functions.Function.{Function}
use Rattle.pr_parts.proofs.WriteLemmas.{bytes_for-with_bytes}
use Rattle.pr_parts.specs.Accesses.{checked}
use Rattle.pr_model.specs.ControlMessages.{tail_of}
use Rattle.pr_model.specs.InstructionEffects.{Decoded, InstructionEffect, Load, Store, access_fault, calls, decoded, enters_call, executed, in_register, with_register, faults_itself, instruction_effect, is_stack_load, leaves, load_effect, loads, of_instruction, store_effect, stores, trapped_after, unless_exec_watched, unless_watched}
use Rattle.pr_model.specs.Registers.{moved_on, pc_of}
use Rattle.pr_num.specs.Control.{prot_exec, prot_read, prot_write, watch_exec}
use Rattle.pr_num.specs.declared.faults.Flt.TheVariants.{Izdiv}
use Rattle.pr_model.specs.State.{TracedLwp, TracedProcess}
use Rattle.pr_parts.specs.WatchedAreas.{hit_in}
use Rattle.pr_num.specs.Instructions.{instruction_in}
use Rattle.pr_num.specs.Limits.{instruction_size}
use Rattle.pr_num.specs.Messages.{Spells, bad_operand, first_message, message_code, operand_count, operands, padding, spelling, tail_length, unpadded_length}
use Rattle.pr_num.specs.Spaces.{Space, bytes_for}
use Rattle.pr_num.specs.Words.{IsWord, word_bytes, words_bytes}
use Rattle.pr_num.specs.declared.mappings.Area.{Area}
use Rattle.pr_num.specs.declared.instructions.Instruction.{Instruction}
use Rattle.pr_num.specs.declared.instructions.Instruction.TheVariants.{Div, Sys}
use Rattle.pr_num.specs.declared.mappings.BadByte.{BadByte}
use Rattle.pr_num.specs.declared.mappings.BadByte.TheVariants.{Hole, NotAllowed}
use Rattle.pr_num.specs.declared.messages.Message.{Message}
use Rattle.pr_num.specs.declared.messages.Message.TheVariants as message
use Rattle.pr_num.specs.declared.syscalls.Sysno.{Sysno}
use Rattle.pr_parts.specs.AddressSpaces.{with_bytes}
use Rattle.pr_probe_laws.proofs.Agents.AgentMemory.{any-bytes}
use Rattle.pr_function_laws.specs.Steppable.{HasCode, IsAtCode, IsSteppable}
use Rattle.pr_function_laws.specs.Steps.{RunsNoCall}

-- What stands at the address of a function whose breakpoint was lifted: its first instruction, which is no system call.

-- ---- an instruction that is no system call

abbrev IsNoCall : InstructionEffect → Type 0
IsNoCall e = (call : Sysno) (regs : List ℕ) → e ≢ calls call regs

fault-none : (stack : Bool) (bad : BadByte) → IsNoCall (access_fault stack bad)
fault-none true (Hole address) call regs is = cc
fault-none true (NotAllowed address) call regs is = cc
fault-none false (Hole address) call regs is = cc
fault-none false (NotAllowed address) call regs is = cc

trapped-none : (exec_hit data_hit : Option ℕ) (new : List ℕ) (store : Option Store)
    → IsNoCall (trapped_after exec_hit data_hit new store)
trapped-none (Some address) data_hit new store call regs is = cc
trapped-none None (Some address) new store call regs is = cc
trapped-none None None new store call regs is = cc

hit-none : (exec_hit : Option ℕ) (address : ℕ) (after : Bool) (new : List ℕ) (store : Option Store)
    → IsNoCall (unless_watched exec_hit (Some (address, after)) new store)
hit-none exec_hit address true new store call regs is = trapped-none exec_hit (Some address) new store call regs is
hit-none exec_hit address false new store call regs is = cc

watched-none : (exec_hit : Option ℕ) (data_hit : Option (ℕ × Bool)) (new : List ℕ) (store : Option Store)
    → IsNoCall (unless_watched exec_hit data_hit new store)
watched-none exec_hit None new store = trapped-none exec_hit None new store
watched-none exec_hit (Some h) new store = hit-none exec_hit h.0 h.1 new store

module _ (space : Space) (areas : List Area) where
  load-none : (exec_hit : Option ℕ) (regs : List ℕ) (load : Load) (at size : ℕ)
      → IsNoCall (load_effect space areas exec_hit regs load at size)
  unfolding load_effect
  load-none exec_hit regs load at size = by (bytes_for prot_read space at size) refl
    where
      by : (r : Result (List ℕ) BadByte) → bytes_for prot_read space at size ≡ r
          → IsNoCall (load_effect space areas exec_hit regs load at size)
      by (Err bad) read call rs is = fault-none (is_stack_load load) bad call rs (rw read at is)
      by (Ok bytes) read call rs is = watched-none exec_hit _ _ None call rs (rw read at is)

  store-none : (exec_hit : Option ℕ) (stack : Bool) (regs : List ℕ) (store : Store)
      → IsNoCall (store_effect space areas exec_hit stack regs store)
  unfolding store_effect
  store-none exec_hit stack regs store = by (bytes_for prot_write space store.at (length store.bytes)) refl
    where
      by : (r : Result (List ℕ) BadByte) → bytes_for prot_write space store.at (length store.bytes) ≡ r
          → IsNoCall (store_effect space areas exec_hit stack regs store)
      by (Err bad) read call rs is = fault-none stack bad call rs (rw read at is)
      by (Ok old) read call rs is = watched-none exec_hit _ regs (Some store) call rs (rw read at is)

  executed-none : (hit : Option ℕ) (regs : List ℕ) (d : Decoded) → ((call : Sysno) → d ≢ enters_call call)
      → IsNoCall (executed space areas hit regs d)
  unfolding executed
  executed-none hit regs (faults_itself f) other call rs is = cc
  executed-none hit regs (enters_call own) other call rs is = absurd (other own refl)
  executed-none hit regs (leaves new) other call rs is = trapped-none hit None new None call rs is
  executed-none hit regs (loads load at size) other call rs is = load-none hit regs load at size call rs is
  executed-none hit regs (stores stack new store) other call rs is = store-none hit stack new store call rs is

  decoded-none : (i : Instruction) (regs : List ℕ) → ((call : Sysno) → i ≢ Sys call) → (call : Sysno)
      → decoded i regs ≢ enters_call call
  unfolding decoded
  decoded-none (Sys own) regs other call is = absurd (other own refl)
  decoded-none (Div to from) regs other call is = by (in_register from regs == 0) is
    where
      by : (zero_divisor : Bool) → cond zero_divisor (faults_itself Izdiv)
          (leaves (moved_on (with_register to (in_register to regs / in_register from regs) regs))) ≡ enters_call
          call → ⊥
      by true same = cc
      by false same = cc
  decoded-none _ regs other call is = cc

  module _ (regs code : List ℕ) (none : (call : Sysno) → instruction_in code ≢ Some (Sys call)) where
    of-none : (hit : Option ℕ) (i : Option Instruction) → instruction_in code ≡ i
        → IsNoCall (of_instruction space areas hit regs i)
    of-none hit None is call rs same = cc
    of-none hit (Some i) is call rs same =
        executed-none hit regs (decoded i regs)
        (decoded-none i regs (λ own which. none own (is ∙ ap (λ x. Some x) which))) call rs same

    fetch-hit : (address : ℕ) (after : Bool) → IsNoCall (unless_exec_watched space areas (Some (address, after)) regs
        code)
    fetch-hit address true call rs same = of-none (Some address) (instruction_in code) refl call rs same
    fetch-hit address false call rs same = cc

    fetched-none : (hit : Option (ℕ × Bool)) → IsNoCall (unless_exec_watched space areas hit regs code)
    fetched-none None = of-none None (instruction_in code) refl
    fetched-none (Some h) = fetch-hit h.0 h.1

    effect-none : ((b : List ℕ) → bytes_for prot_exec space (pc_of regs) 16 ≡ Ok b → b ≡ code)
        → IsNoCall (instruction_effect space areas regs)
    unfolding instruction_effect
    effect-none only = by (bytes_for prot_exec space (pc_of regs) 16) refl
      where
        by : (r : Result (List ℕ) BadByte) → bytes_for prot_exec space (pc_of regs) 16 ≡ r
            → IsNoCall (instruction_effect space areas regs)
        by (Err bad) fetch call rs is = fault-none false bad call rs (rw fetch at is)
        by (Ok b) fetch call rs is =
            subst (λ (bytes : List ℕ). IsNoCall (unless_exec_watched space areas
            (hit_in watch_exec areas (pc_of regs) 16) regs bytes)) (sym (only b fetch))
            (fetched-none (hit_in watch_exec areas (pc_of regs) 16)) call rs (rw fetch at is)

-- ---- the memory at the address of a function

module _ (f : Function) (steppable : IsSteppable f) where
  pub code-runs : (p : TracedProcess) (l : TracedLwp) → IsAtCode f p l → RunsNoCall p l
  code-runs p l w = record {
    is_none = effect-none p.space p.control.areas l.regs f.code steppable.no_call
        (λ b fetch. w.code b (ap (λ (m : ℕ). bytes_for prot_exec p.space m 16) (sym w.at) ∙ fetch));
  }

  as-whole : (need : ℕ) (space : Space)
      → bytes_for need space f.at (length f.code) ≡ bytes_for need space f.at 16
  as-whole need space = ap (bytes_for need space f.at) steppable.size

  can-be : (r : Result (List ℕ) BadByte) → is_ok r ≡ true → checked r ≡ Ok tt
  can-be (Ok found) ok = refl
  can-be (Err bad) ok = absurd (false≢true ok)

  pub written-code : (space : Space) → is_ok (bytes_for 0 space f.at (length f.code)) ≡ true
      → HasCode f (with_bytes f.at f.code space)
  written-code space fits b fetch =
      let later : Space = with_bytes f.at f.code space in
      let any : bytes_for 0 later f.at 16 ≡ Ok b = any-bytes prot_exec later f.at 16 b fetch in
      let back : bytes_for 0 later f.at (length f.code) ≡ Ok f.code =
      bytes_for-with_bytes space f.at f.code 0 (omega (arith, steppable.fits, steppable.size))
      (can-be (bytes_for 0 space f.at (length f.code)) fits) in
      same_Some b f.code (ap result_ok (sym any ∙ sym (as-whole 0 later) ∙ back))

  pub unmapped-code : (space : Space) → is_ok (bytes_for 0 space f.at (length f.code)) ≡ false → HasCode f space
  unmapped-code space none b fetch =
      absurd (false≢true (sym none
      ∙ ap is_ok (as-whole 0 space ∙ any-bytes prot_exec space f.at 16 b fetch)))

  -- ---- the message that writes it

  abbrev pub lift_message : Message
  lift_message = message.Write f.at instruction_size

  abbrev pub lift_bytes : List ℕ
  lift_bytes = spelling lift_message f.code

  lift-spells : Spells lift_bytes lift_message f.code
  unfolding operands operand_count bad_operand tail_length
  lift-spells = record {
    words = All-cons IsWord f.at (16 ∷ []) (omega (arith, steppable.fits))
        (All-cons IsWord 16 [] (omega arith) (All-nil IsWord));
    count = refl;
    columns = refl;
    tail_bytes = steppable.bytes;
    tail_fits = steppable.size;
    spelt = refl;
  }

  pub lift-read : first_message lift_bytes ≡ Ok (lift_message, length lift_bytes)
  lift-read =
      ap first_message (sym (append-nil lift_bytes)) ∙ spelt_is_read lift_bytes [] lift_message f.code lift-spells

  pub lift-tail : tail_of lift_message lift_bytes ≡ f.code
  unfolding message_code operands word_bytes unpadded_length operand_count tail_length
  lift-tail =
      subst (λ (m : ℕ). tail_of lift_message
      (words_bytes (message_code lift_message ∷ operands lift_message) ++ f.code ++ replicate (padding m) 0) ≡ f.code)
      (sym steppable.size)
      (ap (take 16) (append-nil f.code) ∙ take_all 16 f.code (omega (arith, steppable.size)))
