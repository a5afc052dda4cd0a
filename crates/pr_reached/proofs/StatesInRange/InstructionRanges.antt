use Rattle.std.proofs.Common.{◌≡◌, ◌==◌, ◌&&◌, ◌+◌, ◌-◌, ◌*◌, ◌/◌, ◌%◌, ◌^◌, ℕ, zero, suc, Bool, true, false, cond, eqb, ltb, length, get_or, take, drop, Option, Some, None, Result, Ok, Err, List, [], refl, arith, not}
use Rattle.std.specs.List.{All, list_all}
use Rattle.std.specs.Option.{option_and_then, option_map}
use Rattle.std.proofs.lemmas.List.Elements.{All-nil, All-cons, All-append, All-drop, All-take}
use Rattle.pr_codec.proofs.WordLemmas.{AreBytes-word_bytes, word_of-below}
use Rattle.pr_num.specs.Control.{prot_exec, prot_read, prot_write, watch_exec, watch_read, watch_write}
use Rattle.pr_num.specs.Instructions.{Fields, HasImmediate, fields_in, fields_of, immediate_alone, instruction_in, instruction_with, one_register, register_number, registers_alone, two_registers, with_no_field}
use Rattle.pr_num.specs.Spaces.{Space, bytes_for}
use Rattle.pr_num.specs.Syscalls.{syscall_of_number}
use Rattle.pr_num.specs.Words.{IsByte, IsWord, word_bytes, word_of}
use Rattle.pr_num.specs.declared.instructions.Instruction.{Instruction}
use Rattle.pr_num.specs.declared.instructions.Instruction.TheVariants as i
use Rattle.pr_num.specs.declared.instructions.Reg.{Reg}
use Rattle.pr_num.specs.declared.mappings.Area.{Area}
use Rattle.pr_num.specs.declared.mappings.BadByte.{BadByte}
use Rattle.pr_num.specs.declared.mappings.BadByte.TheVariants.{Hole, NotAllowed}
use Rattle.pr_num.specs.declared.syscalls.Sysno.{Sysno}
use Rattle.pr_parts.specs.WatchedAreas.{first_hit, hit_in, watcher}
use Rattle.pr_rec.proofs.FieldLemmas.{syscall_number-lt}
use Rattle.pr_lawful.proofs.ProcessParts.FileLemmas.{choice}
use Rattle.pr_model.specs.InstructionEffects.{Store, InstructionEffect, runs, calls, faults, runs_into_watch, Load, a_word, a_byte, a_frame, Decoded, faults_itself, enters_call, leaves, loads, stores, access_fault, call_sp, decoded, executed, hit_after, hit_before, in_register, instruction_effect, is_stack_load, jumped_if, loaded, load_effect, of_fetch, of_instruction, store_effect, trapped_after, unless_exec_watched, unless_watched, with_register}
use Rattle.pr_model.specs.Registers.{address_at, fp_of, moved_on, pc_of, sp_of, with_fp, with_sp}
use Rattle.pr_reached.proofs.StatesInRange.MemoryRanges.{AreBytesRead, IsBadInRange, bytes-read}
use Rattle.pr_reached.proofs.StatesInRange.RegisterRanges.{address-word, byte-word, byte_at, moved_on-registers, register-at, registers-set, wraps}
use Rattle.pr_reached.specs.InRange.{AreRegisters, IsMappingInRange}

-- What an instruction leaves is in range: registers, the bytes that it stores, and the address of its fault.

-- ---- the immediate of an instruction that bytes spell

abbrev HasImmediateIf : Option Instruction → Type 0
HasImmediateIf None = Unit {0}
HasImmediateIf (Some x) = HasImmediate x

row : (b : Bool) (here rest : Option Instruction) → HasImmediateIf here → HasImmediateIf rest
    → HasImmediateIf (cond b here rest)
row true here rest one other = one
row false here rest one other = other

made : {X : Type 0} (make : X → Instruction) → ((x : X) → HasImmediate (make x)) → (o : Option X)
    → HasImmediateIf (option_map make o)
made make each None = tt
made make each (Some x) = each x

module _ (f : Fields) (fits : IsWord f.immediate) where
  alone : (make : ℕ → Instruction) → ((n : ℕ) → IsWord n → HasImmediate (make n))
      → HasImmediateIf (option_map make (immediate_alone f))
  alone make each =
      choice (λ (o : Option ℕ). HasImmediateIf (option_map make o)) ((f.a == 0) && (f.b == 0)) (Some f.immediate) None
      (λ is. each f.immediate fits) (λ not. tt)

  without : (x : Instruction) → HasImmediate x → HasImmediateIf (with_no_field f x)
  without x has = row _ (Some x) None has tt

  -- the rows in their order
  instruction-immediate : HasImmediateIf (instruction_with f)
  unfolding instruction_with HasImmediate fields_of
  instruction-immediate =
      row (eqb f.op 1) _ _ (without i.Bpt (omega arith))
      (row (eqb f.op 2) _ _ (without i.Nop (omega arith))
      (row (eqb f.op 3) _ _ (made (λ (to : Reg). i.Set to f.immediate) (λ to. fits) (one_register f))
      (row (eqb f.op 4) _ _ (made (λ (r : Reg × Reg). i.Mov r.0 r.1) (λ r. omega arith) (registers_alone f))
      (row (eqb f.op 5) _ _ (made (λ (r : Reg × Reg). i.Add r.0 r.1) (λ r. omega arith) (registers_alone f))
      (row (eqb f.op 6) _ _ (made (λ (r : Reg × Reg). i.Sub r.0 r.1) (λ r. omega arith) (registers_alone f))
      (row (eqb f.op 7) _ _ (made (λ (r : Reg × Reg). i.Mul r.0 r.1) (λ r. omega arith) (registers_alone f))
      (row (eqb f.op 8) _ _ (made (λ (r : Reg × Reg). i.Div r.0 r.1) (λ r. omega arith) (registers_alone f))
      (row (eqb f.op 9) _ _ (made (λ (r : Reg × Reg). i.Ld r.0 r.1 f.immediate) (λ r. fits) (two_registers f))
      (row (eqb f.op 10) _ _ (made (λ (r : Reg × Reg). i.St r.0 r.1 f.immediate) (λ r. fits) (two_registers f))
      (row (eqb f.op 11) _ _ (made (λ (r : Reg × Reg). i.Ldb r.0 r.1 f.immediate) (λ r. fits) (two_registers f))
      (row (eqb f.op 12) _ _ (made (λ (r : Reg × Reg). i.Stb r.0 r.1 f.immediate) (λ r. fits) (two_registers f))
      (row (eqb f.op 13) _ _ (alone i.Jmp (λ n it. it))
      (row (eqb f.op 14) _ _ (made (λ (test : Reg). i.Jz test f.immediate) (λ test. fits) (one_register f))
      (row (eqb f.op 15) _ _ (made (λ (test : Reg). i.Jnz test f.immediate) (λ test. fits) (one_register f))
      (row (eqb f.op 16) _ _ (made (λ (r : Reg × Reg). i.Jlt r.0 r.1 f.immediate) (λ r. fits) (two_registers f))
      (row (eqb f.op 17) _ _ (alone i.Call (λ n it. it))
      (row (eqb f.op 18) _ _ (without i.Ret (omega arith))
      (row (eqb f.op 19) _ _
      (made i.Sys (λ (c : Sysno). let small = syscall_number-lt c in omega arith)
      (option_and_then syscall_of_number (immediate_alone f))) tt))))))))))))))))))

spelt-immediate : (bytes : List ℕ) → All IsByte bytes → HasImmediateIf (instruction_in bytes)
unfolding instruction_in
spelt-immediate bytes all =
    row (list_all (λ b. b == 0) (take 5 (drop 3 bytes))) (instruction_with (fields_in bytes)) None
    (instruction-immediate (fields_in bytes)
    (word_of-below (take 8 (drop 8 bytes)) (All-take IsByte 8 (drop 8 bytes) (All-drop IsByte 8 bytes all)))) tt

-- ---- what a decoded instruction asks for

pub record IsStore (store : Store) : Type 0 where
  pub bytes : All IsByte store.bytes

abbrev pub IsStoreIf : Option Store → Type 0
IsStoreIf None = Unit {0}
IsStoreIf (Some store) = IsStore store

record IsStoring (new : List ℕ) (store : Store) : Type 0 where
  regs : AreRegisters new
  at : IsWord store.at
  bytes : All IsByte store.bytes

abbrev IsDecoded : Decoded → Type 0
IsDecoded (faults_itself f) = Unit {0}
IsDecoded (enters_call call) = Unit {0}
IsDecoded (leaves new) = AreRegisters new
IsDecoded (loads load at size) = IsWord at
IsDecoded (stores stack new store) = IsStoring new store

module _ (regs : List ℕ) (h : AreRegisters regs) where
  moves-on : (to : Reg) (v : ℕ) → IsWord v → AreRegisters (moved_on (with_register to v regs))
  moves-on to v fits = moved_on-registers (with_register to v regs) (registers-set regs (register_number to) v fits h)

  in-word : (r : Reg) → IsWord (in_register r regs)
  in-word r = register-at regs (register_number r) h

  jumps : (b : Bool) (target : ℕ) → IsWord target → AreRegisters (jumped_if b target regs)
  jumps true target fits = registers-set regs 10 target fits h
  jumps false target fits = moved_on-registers regs h

  quotient : (a b : ℕ) → IsWord a → IsWord (a / b)
  quotient a b fits = omega arith

  word-store : (r : Reg) → All IsByte (word_bytes (in_register r regs))
  word-store r = AreBytes-word_bytes (in_register r regs)

  decoded-range : (x : Instruction) → HasImmediate x → IsDecoded (decoded x regs)
  unfolding decoded HasImmediate fields_of
  decoded-range i.Bpt has = tt
  decoded-range i.Nop has = moved_on-registers regs h
  decoded-range (i.Set to imm) has = moves-on to imm has
  decoded-range (i.Mov to from) has = moves-on to (in_register from regs) (in-word from)
  decoded-range (i.Add to from) has = moves-on to _ (wraps (in_register to regs + in_register from regs))
  decoded-range (i.Sub to from) has = moves-on to _ (wraps (in_register to regs + (2 ^ 64 - in_register from regs)))
  decoded-range (i.Mul to from) has = moves-on to _ (wraps (in_register to regs * in_register from regs))
  decoded-range (i.Div to from) has =
      choice IsDecoded (in_register from regs == 0) _ _ (λ zero. tt)
      (λ some. moves-on to _ (quotient (in_register to regs) (in_register from regs) (in-word to)))
  decoded-range (i.Ld to base offset) has = address-word (in_register base regs) offset
  decoded-range (i.St from base offset) has = record {
    regs = moved_on-registers regs h;
    at = address-word (in_register base regs) offset;
    bytes = word-store from;
  }
  decoded-range (i.Ldb to base offset) has = address-word (in_register base regs) offset
  decoded-range (i.Stb from base offset) has = record {
    regs = moved_on-registers regs h;
    at = address-word (in_register base regs) offset;
    bytes = All-cons IsByte (in_register from regs % 256) [] (omega arith) (All-nil IsByte);
  }
  decoded-range (i.Jmp target) has = registers-set regs 10 target has h
  decoded-range (i.Jz test target) has = jumps (in_register test regs == 0) target has
  decoded-range (i.Jnz test target) has = jumps (not (in_register test regs == 0)) target has
  decoded-range (i.Jlt left right target) has = jumps (ltb (in_register left regs) (in_register right regs)) target has
  decoded-range (i.Call target) has = record {
    regs =
        let sp = address-word (sp_of regs) (2 ^ 64 - 16) in
        registers-set (with_fp (call_sp regs) (with_sp (call_sp regs) regs)) 10 target has
        (registers-set (with_sp (call_sp regs) regs) 9 (call_sp regs) sp (registers-set regs 8 (call_sp regs) sp h));
    at = address-word (sp_of regs) (2 ^ 64 - 16);
    bytes =
        All-append IsByte (word_bytes (fp_of regs)) (word_bytes (address_at (pc_of regs) 16))
        (AreBytes-word_bytes (fp_of regs)) (AreBytes-word_bytes (address_at (pc_of regs) 16));
  }
  decoded-range i.Ret has = register-at regs 9 h
  decoded-range (i.Sys call) has = tt

  loaded-range : (load : Load) (bytes : List ℕ) → All IsByte bytes → AreRegisters (loaded load regs bytes)
  unfolding loaded
  loaded-range (a_word to) bytes all = moves-on to (word_of bytes) (word_of-below bytes all)
  loaded-range (a_byte to) bytes all =
      moves-on to (get_or bytes 0 0) (byte-word (get_or bytes 0 0) (byte_at bytes 0 all))
  loaded-range a_frame bytes all =
      let sp = address_at (fp_of regs) 16 in
      let fp = word_of (take 8 bytes) in
      registers-set (with_fp fp (with_sp sp regs)) 10 (word_of (drop 8 bytes))
      (word_of-below (drop 8 bytes) (All-drop IsByte 8 bytes all))
      (registers-set (with_sp sp regs) 9 fp (word_of-below (take 8 bytes) (All-take IsByte 8 bytes all))
      (registers-set regs 8 sp (address-word (fp_of regs) 16) h))

-- ---- watched areas

abbrev IsHit : Option (ℕ × Bool) → Type 0
IsHit None = Unit {0}
IsHit (Some hit) = IsWord hit.0

abbrev IsAddressIf : Option ℕ → Type 0
IsAddressIf None = Unit {0}
IsAddressIf (Some address) = IsWord address

hit-range : (kind : ℕ) (areas : List Area) (size address : ℕ) → IsWord address → IsHit (hit_in kind areas address size)
unfolding hit_in
hit-range kind areas zero address fits = tt
hit-range kind areas (suc size) address fits =
    first (watcher kind areas address) (hit_in kind areas ((address + 1) % 2 ^ 64) size)
    (hit-range kind areas size ((address + 1) % 2 ^ 64) (wraps (address + 1)))
  where
    first : (o : Option Area) (behind : Option (ℕ × Bool)) → IsHit behind → IsHit (first_hit address o behind)
    first None behind it = it
    first (Some a) behind it = fits

before-range : (hit : Option (ℕ × Bool)) → IsHit hit → IsAddressIf (hit_before hit)
before-range None it = tt
before-range (Some h) it = choice IsAddressIf h.1 None (Some h.0) (λ later. tt) (λ now. it)

after-range : (hit : Option (ℕ × Bool)) → IsHit hit → IsAddressIf (hit_after hit)
after-range None it = tt
after-range (Some h) it = choice IsAddressIf h.1 (Some h.0) None (λ later. it) (λ now. tt)

-- ---- what an instruction does

abbrev pub IsInstructionEffect : InstructionEffect → Type 0
IsInstructionEffect (runs regs store) = AreRegisters regs × IsStoreIf store
IsInstructionEffect (calls call regs) = AreRegisters regs
IsInstructionEffect (faults f address) = IsWord address
IsInstructionEffect (runs_into_watch address regs store) = IsWord address × AreRegisters regs × IsStoreIf store

bad-range : (stack : Bool) (bad : BadByte) → IsBadInRange bad → IsInstructionEffect (access_fault stack bad)
bad-range true (Hole address) fits = fits
bad-range true (NotAllowed address) fits = fits
bad-range false (Hole address) fits = fits
bad-range false (NotAllowed address) fits = fits

trapped-range : (exec_hit data_hit : Option ℕ) (regs : List ℕ) (store : Option Store) → IsAddressIf exec_hit
    → IsAddressIf data_hit → AreRegisters regs → IsStoreIf store
    → IsInstructionEffect (trapped_after exec_hit data_hit regs store)
trapped-range (Some address) data_hit regs store is_exec is_data h stored = (is_exec, h, stored)
trapped-range None (Some address) regs store is_exec is_data h stored = (is_data, h, stored)
trapped-range None None regs store is_exec is_data h stored = (h, stored)

unwatched-range : (exec_hit : Option ℕ) (data_hit : Option (ℕ × Bool)) (regs : List ℕ) (store : Option Store)
    → IsAddressIf exec_hit → IsHit data_hit → AreRegisters regs → IsStoreIf store
    → IsInstructionEffect (unless_watched exec_hit data_hit regs store)
unwatched-range exec_hit data_hit regs store is_exec is_data h stored =
    by (hit_before data_hit) refl (before-range data_hit is_data)
  where
    by : (o : Option ℕ) → hit_before data_hit ≡ o → IsAddressIf o
        → IsInstructionEffect (unless_watched exec_hit data_hit regs store)
    by (Some address) is it = rw is it
    by None is it =
        rw is (trapped-range exec_hit (hit_after data_hit) regs store is_exec (after-range data_hit is_data) h stored)

module _ (space : Space) (areas : List Area) (mapped : All IsMappingInRange space) (exec_hit : Option ℕ)
    (is_exec : IsAddressIf exec_hit) (regs : List ℕ) (h : AreRegisters regs) where
  load-range : (load : Load) (at size : ℕ) → IsWord at
      → IsInstructionEffect (load_effect space areas exec_hit regs load at size)
  unfolding load_effect
  load-range load at size fits =
      by (bytes_for prot_read space at size) refl (bytes-read prot_read space mapped size at fits)
    where
      by : (r : Result (List ℕ) BadByte) → bytes_for prot_read space at size ≡ r → AreBytesRead size r
          → IsInstructionEffect (load_effect space areas exec_hit regs load at size)
      by (Err bad) is it = rw is (bad-range (is_stack_load load) bad it)
      by (Ok bytes) is it =
          rw is (unwatched-range exec_hit (hit_in watch_read areas at size) (loaded load regs bytes) None is_exec
          (hit-range watch_read areas size at fits) (loaded-range regs h load bytes it.0) tt)

  store-range : (stack : Bool) (new : List ℕ) (store : Store) → IsStoring new store
      → IsInstructionEffect (store_effect space areas exec_hit stack new store)
  unfolding store_effect
  store-range stack new store s =
      by (bytes_for prot_write space store.at (length store.bytes)) refl
      (bytes-read prot_write space mapped (length store.bytes) store.at s.at)
    where
      by : (r : Result (List ℕ) BadByte) → bytes_for prot_write space store.at (length store.bytes) ≡ r
          → AreBytesRead (length store.bytes) r
          → IsInstructionEffect (store_effect space areas exec_hit stack new store)
      by (Err bad) is it = rw is (bad-range stack bad it)
      by (Ok old) is it =
          rw is (unwatched-range exec_hit (hit_in watch_write areas store.at (length store.bytes)) new
          (Some store) is_exec (hit-range watch_write areas (length store.bytes) store.at s.at) s.regs
          (record { bytes = s.bytes }))

  executed-range : (d : Decoded) → IsDecoded d → IsInstructionEffect (executed space areas exec_hit regs d)
  unfolding executed
  executed-range (faults_itself f) it = register-at regs 10 h
  executed-range (enters_call call) it = moved_on-registers regs h
  executed-range (leaves new) it = trapped-range exec_hit None new None is_exec tt it tt
  executed-range (loads load at size) it = load-range load at size it
  executed-range (stores stack new store) it = store-range stack new store it

  spelt-range : (o : Option Instruction) → HasImmediateIf o
      → IsInstructionEffect (of_instruction space areas exec_hit regs o)
  spelt-range None it = register-at regs 10 h
  spelt-range (Some x) it = executed-range (decoded x regs) (decoded-range regs h x it)

module _ (space : Space) (areas : List Area) (mapped : All IsMappingInRange space) (regs : List ℕ)
    (h : AreRegisters regs) where
  fetched-range : (exec_hit : Option (ℕ × Bool)) (bytes : List ℕ) → IsHit exec_hit → All IsByte bytes
      → IsInstructionEffect (unless_exec_watched space areas exec_hit regs bytes)
  fetched-range exec_hit bytes is_hit all = by (hit_before exec_hit) refl (before-range exec_hit is_hit)
    where
      by : (o : Option ℕ) → hit_before exec_hit ≡ o → IsAddressIf o
          → IsInstructionEffect (unless_exec_watched space areas exec_hit regs bytes)
      by (Some address) is it = rw is it
      by None is it =
          rw is (spelt-range space areas mapped (hit_after exec_hit) (after-range exec_hit is_hit) regs h
          (instruction_in bytes) (spelt-immediate bytes all))

  fetch-range : (r : Result (List ℕ) BadByte) → AreBytesRead 16 r → IsInstructionEffect (of_fetch space areas regs r)
  fetch-range (Err bad) it = bad-range false bad it
  fetch-range (Ok bytes) it =
      fetched-range (hit_in watch_exec areas (pc_of regs) 16) bytes
      (hit-range watch_exec areas 16 (pc_of regs) (register-at regs 10 h)) it.0

  pub instruction-range : IsInstructionEffect (instruction_effect space areas regs)
  unfolding instruction_effect
  instruction-range =
      fetch-range (bytes_for prot_exec space (pc_of regs) 16)
      (bytes-read prot_exec space mapped 16 (pc_of regs) (register-at regs 10 h))
