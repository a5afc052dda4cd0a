use Rattle.std.proofs.Common.{◌≡◌, ◌≢◌, ◌+◌, ◌-◌, ◌<◌, ◌≤◌, ◌%◌, ◌^◌, ◌==◌, ◌&&◌, ◌/◌, ℕ, zero, suc, Bool, true, false, cond, Result, Ok, Err, Option, Some, None, List, [], ◌∷◌, length, take, drop, get_or, refl, sym, subst, ap, ◌∙◌, arith}
use Rattle.std.proofs.lemmas.Bool.{and_from, false≢true, le-leb, lt-ltb}
use Rattle.std.proofs.lemmas.List.{drop_more, take_all}
use Rattle.std.proofs.lemmas.Slice.Eq.{bytes_eq-Decides}
use Rattle.std.specs.Prelude.{nat_le, nat_lt}
use Rattle.pr_function_hides.proofs.CodeThere.TurnCode.{HoldsCode}
use Rattle.pr_function_hides.specs.FunctionHiders.{IsPatchable, patch_of}
use Rattle.pr_hidden.proofs.Follows.FaultRows.{HowFaulted, bpt-effect, by_instruction, by_return, how-faulted, return-no-breakpoint}
use Rattle.pr_line.specs.declared.functions.Function.{Function}
use Rattle.pr_parts.proofs.WriteLemmas.{byte_for-with_bytes}
use Rattle.pr_parts.specs.Accesses.{byte_after_write}
use Rattle.pr_model.specs.InstructionEffects.{Decoded, InstructionEffect, Load, Store, access_fault, decoded, enters_call, executed, faults, faults_itself, in_register, instruction_effect, is_stack_load, leaves, load_effect, loads, of_instruction, store_effect, stores, trapped_after, unless_exec_watched, unless_watched, with_register}
use Rattle.pr_model.specs.Registers.{moved_on, pc_of}
use Rattle.pr_model.specs.Rows.{Row, row_for}
use Rattle.pr_model.specs.State.{TracedLwp, TracedProcess, TracedSystem}
use Rattle.pr_model.specs.declared.events.Did.TheVariants.{Faulted}
use Rattle.pr_num.proofs.InstructionLemmas.{read-spelled}
use Rattle.pr_num.specs.Control.{prot_exec, prot_read, prot_write, watch_exec}
use Rattle.pr_num.specs.Instructions.{instruction_in}
use Rattle.pr_num.specs.Spaces.{Space, byte_for, bytes_for, one_more}
use Rattle.pr_num.specs.declared.faults.Flt.TheVariants as flt
use Rattle.pr_num.specs.declared.instructions.Instruction.{Instruction}
use Rattle.pr_num.specs.declared.instructions.Instruction.TheVariants.{Bpt, Div}
use Rattle.pr_num.specs.declared.mappings.Area.{Area}
use Rattle.pr_num.specs.declared.mappings.BadByte.{BadByte}
use Rattle.pr_num.specs.declared.mappings.BadByte.TheVariants.{Hole, NotAllowed}
use Rattle.pr_parts.specs.AddressSpaces.{with_bytes, written_byte}
use Rattle.pr_parts.specs.WatchedAreas.{hit_in}
use Rattle.pr_truss.specs.Marks.{breakpoint}

-- An lwp that fetches the code of a function runs into no breakpoint.

-- ---- what is read where bytes stand

record Begins (b : Result ℕ BadByte) (rest : Result (List ℕ) BadByte) (bs : List ℕ) : Type 0 where
  byte : ℕ
  more : List ℕ
  is : bs ≡ byte ∷ more
  here : b ≡ Ok byte
  behind : rest ≡ Ok more

begins : (b : Result ℕ BadByte) (rest : Result (List ℕ) BadByte) (bs : List ℕ) → one_more b rest ≡ Ok bs
    → Begins b rest bs
begins (Err bad) rest bs e = absurd (cc)
begins (Ok x) (Err bad) bs e = absurd (cc)
begins (Ok x) (Ok xs) bs e = record { byte = x; more = xs; is = cc; here = refl; behind = refl }

module _ (need : ℕ) (space : Space) (at : ℕ) (code : List ℕ) (within : at + length code ≤ 2 ^ 64)
    (stands : with_bytes at code space ≡ space) where
  -- a byte
  byte-same : (k x : ℕ) → k < length code → byte_for need space (at + k) ≡ Ok x → x ≡ get_or code k 0
  byte-same k x less read = ok-same (sym read ∙ over ∙ ap (byte_after_write at code (at + k)) read) ∙ value
    where
      ok-same : {a b : ℕ} → (let r : Result ℕ BadByte = Ok a in r) ≡ Ok b → a ≡ b
      ok-same e = cc

      over : byte_for need space (at + k) ≡ byte_after_write at code (at + k) (byte_for need space (at + k))
      over =
          ap (λ (sp : Space). byte_for need sp (at + k)) (sym stands) ∙ byte_for-with_bytes space at code need (at + k)

      inside : (nat_le at (at + k) && nat_lt (at + k) (at + length code)) ≡ true
      inside =
          and_from _ _ (le-leb at (at + k) (omega arith)) (lt-ltb (at + k) (at + length code) (omega (arith, less)))

      place : at + k - at ≡ k
      place = omega arith

      value : written_byte at code (at + k) x ≡ get_or code k 0
      value = rw (inside, place) refl

  next-same : (k n : ℕ) → k + suc n ≡ length code
      → bytes_for need space ((at + k + 1) % 2 ^ 64) n ≡ bytes_for need space (at + (k + 1)) n
  unfolding bytes_for
  next-same k zero size = refl
  next-same k (suc n) size =
      let next : (at + k + 1) % 2 ^ 64 ≡ at + (k + 1) = omega (arith, within, size) in
      ap (λ a. bytes_for need space a (suc n)) next

  code-read : (k n : ℕ) → k + n ≡ length code → (bs : List ℕ) → bytes_for need space (at + k) n ≡ Ok bs
      → bs ≡ take n (drop k code)
  unfolding bytes_for
  code-read k zero size bs read = none read
    where
      none : (let r : Result (List ℕ) BadByte = Ok [] in r) ≡ Ok bs → bs ≡ []
      none e = cc
  code-read k (suc n) size bs read =
      let parts =
      begins (byte_for need space (at + k)) (bytes_for need space ((at + k + 1) % 2 ^ 64) n) bs read in
      let less : k < length code = omega (arith, size) in
      let rest : parts.more ≡ take n (drop (k + 1) code) =
      code-read (k + 1) n (omega (arith, size)) parts.more (sym (next-same k n size) ∙ parts.behind) in
      parts.is ∙ ap (λ x. x ∷ parts.more) (byte-same k parts.byte less parts.here)
      ∙ ap (λ xs. get_or code k 0 ∷ xs) rest ∙ sym (ap (take (suc n)) (drop_more code k 0 less))

  -- all of them
  pub all-read : (size : ℕ) → length code ≡ size → (bs : List ℕ) → bytes_for need space at size ≡ Ok bs → bs ≡ code
  all-read size long bs read =
      let start : at + 0 ≡ at = omega arith in
      code-read 0 size (omega (arith, long)) bs (ap (λ a. bytes_for need space a size) start ∙ read)
      ∙ take_all size code (omega (arith, long))

-- ---- an instruction that is no breakpoint

abbrev IsNoBreak : InstructionEffect → Type 0
IsNoBreak e = (address : ℕ) → e ≢ faults flt.Bpt address

fault-none : (stack : Bool) (bad : BadByte) → IsNoBreak (access_fault stack bad)
fault-none true (Hole address) at is = cc
fault-none true (NotAllowed address) at is = cc
fault-none false (Hole address) at is = cc
fault-none false (NotAllowed address) at is = cc

trapped-none : (exec_hit data_hit : Option ℕ) (new : List ℕ) (store : Option Store)
    → IsNoBreak (trapped_after exec_hit data_hit new store)
trapped-none (Some address) data_hit new store at is = cc
trapped-none None (Some address) new store at is = cc
trapped-none None None new store at is = cc

hit-none : (exec_hit : Option ℕ) (address : ℕ) (after : Bool) (new : List ℕ) (store : Option Store)
    → IsNoBreak (unless_watched exec_hit (Some (address, after)) new store)
hit-none exec_hit address true new store at is = trapped-none exec_hit (Some address) new store at is
hit-none exec_hit address false new store at is = cc

watched-none : (exec_hit : Option ℕ) (data_hit : Option (ℕ × Bool)) (new : List ℕ) (store : Option Store)
    → IsNoBreak (unless_watched exec_hit data_hit new store)
watched-none exec_hit None new store = trapped-none exec_hit None new store
watched-none exec_hit (Some h) new store = hit-none exec_hit h.0 h.1 new store

module _ (space : Space) (areas : List Area) where
  load-none : (exec_hit : Option ℕ) (regs : List ℕ) (load : Load) (at size : ℕ)
      → IsNoBreak (load_effect space areas exec_hit regs load at size)
  unfolding load_effect
  load-none exec_hit regs load at size = by (bytes_for prot_read space at size) refl
    where
      by : (r : Result (List ℕ) BadByte) → bytes_for prot_read space at size ≡ r
          → IsNoBreak (load_effect space areas exec_hit regs load at size)
      by (Err bad) read address is = fault-none (is_stack_load load) bad address (rw read at is)
      by (Ok bytes) read address is = watched-none exec_hit _ _ None address (rw read at is)

  store-none : (exec_hit : Option ℕ) (stack : Bool) (regs : List ℕ) (store : Store)
      → IsNoBreak (store_effect space areas exec_hit stack regs store)
  unfolding store_effect
  store-none exec_hit stack regs store = by (bytes_for prot_write space store.at (length store.bytes)) refl
    where
      by : (r : Result (List ℕ) BadByte) → bytes_for prot_write space store.at (length store.bytes) ≡ r
          → IsNoBreak (store_effect space areas exec_hit stack regs store)
      by (Err bad) read address is = fault-none stack bad address (rw read at is)
      by (Ok bytes) read address is = watched-none exec_hit _ regs (Some store) address (rw read at is)

  executed-none : (hit : Option ℕ) (regs : List ℕ) (d : Decoded) → d ≢ faults_itself flt.Bpt
      → IsNoBreak (executed space areas hit regs d)
  unfolding executed
  executed-none hit regs (faults_itself f) other address is =
      let same : f ≡ flt.Bpt = cc in absurd (other (ap faults_itself same))
  executed-none hit regs (enters_call own) other address is = cc
  executed-none hit regs (leaves new) other address is = trapped-none hit None new None address is
  executed-none hit regs (loads load at size) other address is = load-none hit regs load at size address is
  executed-none hit regs (stores stack new store) other address is = store-none hit stack new store address is

  decoded-none : (i : Instruction) (regs : List ℕ) → i ≢ Bpt → decoded i regs ≢ faults_itself flt.Bpt
  unfolding decoded
  decoded-none Bpt regs other is = other refl
  decoded-none (Div to from) regs other is = by (in_register from regs == 0) is
    where
      by : (zero_divisor : Bool)
          → cond zero_divisor (faults_itself flt.Izdiv)
          (leaves (moved_on (with_register to (in_register to regs / in_register from regs) regs)))
          ≡ faults_itself flt.Bpt → ⊥
      by true same = cc
      by false same = cc
  decoded-none _ regs other is = cc

  module _ (regs code : List ℕ) (none : instruction_in code ≢ Some Bpt) where
    of-none : (hit : Option ℕ) (i : Option Instruction) → instruction_in code ≡ i
        → IsNoBreak (of_instruction space areas hit regs i)
    of-none hit None is address same = cc
    of-none hit (Some i) is address same =
        executed-none hit regs (decoded i regs) (decoded-none i regs (λ which. none (is ∙ ap (λ x. Some x) which)))
        address same

    fetch-hit : (address : ℕ) (after : Bool)
        → IsNoBreak (unless_exec_watched space areas (Some (address, after)) regs code)
    fetch-hit address true at same = of-none (Some address) (instruction_in code) refl at same
    fetch-hit address false at same = cc

    fetched-none : (hit : Option (ℕ × Bool)) → IsNoBreak (unless_exec_watched space areas hit regs code)
    fetched-none None = of-none None (instruction_in code) refl
    fetched-none (Some h) = fetch-hit h.0 h.1

    effect-none : ((b : List ℕ) → bytes_for prot_exec space (pc_of regs) 16 ≡ Ok b → b ≡ code)
        → IsNoBreak (instruction_effect space areas regs)
    unfolding instruction_effect
    effect-none only = by (bytes_for prot_exec space (pc_of regs) 16) refl
      where
        by : (r : Result (List ℕ) BadByte) → bytes_for prot_exec space (pc_of regs) 16 ≡ r
            → IsNoBreak (instruction_effect space areas regs)
        by (Err bad) fetch address is = fault-none false bad address (rw fetch at is)
        by (Ok b) fetch address is =
            subst (λ (bytes : List ℕ). IsNoBreak (unless_exec_watched space areas
            (hit_in watch_exec areas (pc_of regs) 16) regs bytes)) (sym (only b fetch))
            (fetched-none (hit_in watch_exec areas (pc_of regs) 16)) address (rw fetch at is)

-- ---- the code of a function

module _ (f : Function) (patchable : IsPatchable f) where
  not-breakpoint : instruction_in f.code ≢ Some Bpt
  not-breakpoint is =
      let same : f.code ≡ breakpoint = read-spelled f.code Bpt patchable.size patchable.bytes is in
      false≢true (sym patchable.other ∙ (bytes_eq-Decides breakpoint f.code).1 (sym same))

  -- no FLTBPT comes of it
  pub code-runs : (s : TracedSystem) (pid : ℕ) (p : TracedProcess) (id : ℕ) (l : TracedLwp) → HoldsCode (patch_of f) p
      → pc_of l.regs ≡ f.at → (row_for s pid p id l).did ≡ Faulted flt.Bpt → ⊥
  code-runs s pid p id l holds at did = by (how-faulted s pid p id l flt.Bpt did)
    where
      only : (b : List ℕ) → bytes_for prot_exec p.space (pc_of l.regs) 16 ≡ Ok b → b ≡ f.code
      only b fetch =
          all-read prot_exec p.space f.at f.code
          (let size : length f.code ≡ 16 = patchable.size in
          let most : f.at + 16 ≤ 2 ^ 64 = patchable.within in
          omega (arith, size, most)) holds.stands 16 patchable.size b
          (ap (λ a. bytes_for prot_exec p.space a 16) (sym at) ∙ fetch)

      by : HowFaulted s pid p id l → ⊥
      by (by_instruction runs is) =
          let effect = bpt-effect p l (instruction_effect p.space p.control.areas l.regs)
          (ap (λ (r : Row). r.did) (sym is) ∙ did) in
          effect-none p.space p.control.areas l.regs f.code not-breakpoint only effect.0 effect.1
      by (by_return call back is) =
          return-no-breakpoint p l call (ap (λ (r : Row). r.did) (sym is) ∙ did)
