use Rattle.std.proofs.Common.{◌≡◌, ◌+◌, ◌%◌, ◌^◌, ℕ, zero, suc, Bool, true, false, Option, None, Some, Result, Ok, Err, IsOk, List, [], ◌∷◌, length, refl, ap, arith, sym, ◌∙◌}
use Rattle.std.specs.Result.{result_err}
use Rattle.pr_num.specs.Control.{prot_read, prot_write, watch_read, watch_write}
use Rattle.pr_num.specs.Spaces.{Space, bytes_for}
use Rattle.pr_num.specs.declared.mappings.Area.{Area}
use Rattle.pr_num.specs.declared.mappings.BadByte.{BadByte}
use Rattle.pr_parts.specs.WatchedAreas.{hit_in}
use Rattle.pr_num.specs.declared.mappings.BadByte.TheVariants.{Hole, NotAllowed}
use Rattle.pr_num.specs.declared.faults.Flt.TheVariants.{Watch}
use Rattle.pr_parts.specs.AddressSpaces.{with_bytes}
use Rattle.pr_num.specs.declared.instructions.Instruction.{Instruction}
use Rattle.pr_model.specs.InstructionEffects.{faults, leaves, Load, Store, decoded, executed, of_instruction, load_effect, store_effect, loaded, access_fault, is_stack_load, unless_watched, trapped_after, hit_before, hit_after}
use Rattle.pr_lwp.specs.Plain.{decoded_of, leaves_registers, loaded_from, outcome_of, space_after, stores_bytes, with_store}
use Rattle.pr_lwp.specs.declared.decoding.Decoded.{Decoded}
use Rattle.pr_lwp.specs.declared.decoding.Decoded.TheVariants.{Leaves}

-- Loads and stores, by whether their bytes can be had.

record Has (X : Type 0) (r : Result X BadByte) : Type 0 where
  bytes : X
  is : r ≡ Ok bytes

failed : (load : Load) (regs : List ℕ) (r : Result (List ℕ) BadByte) (bad : BadByte) → Err bad ≡ loaded_from load regs r
    → r ≡ Err bad
failed load regs (Ok bytes) bad e = absurd (cc)
failed load regs (Err other) bad e = cc

record Loads (load : Load) (regs : List ℕ) (new : List ℕ) (r : Result (List ℕ) BadByte) : Type 0 where
  bytes : List ℕ
  is : r ≡ Ok bytes
  new_is : loaded load regs bytes ≡ new

succeeded : (load : Load) (regs new : List ℕ) (r : Result (List ℕ) BadByte) → Ok new ≡ loaded_from load regs r
    → Loads load regs new r
succeeded load regs new (Ok bytes) e = record { bytes = bytes; is = refl; new_is = cc }
succeeded load regs new (Err bad) e = absurd (cc)

-- ---- what watched areas say of an access

trapped-outcome : (exec_hit data_hit : Option ℕ) (regs : List ℕ) (store : Option Store)
    → outcome_of (trapped_after exec_hit data_hit regs store) ≡ outcome_of (trapped_after exec_hit data_hit regs None)
trapped-outcome (Some at) data_hit regs store = refl
trapped-outcome None (Some at) regs store = refl
trapped-outcome None None regs store = refl

trapped-space : (exec_hit data_hit : Option ℕ) (regs : List ℕ) (store : Option Store) (space : Space)
    → space_after (trapped_after exec_hit data_hit regs store) space ≡ with_store store space
trapped-space (Some at) data_hit regs store space = refl
trapped-space None (Some at) regs store space = refl
trapped-space None None regs store space = refl

watched : (exec_hit : Option ℕ) (hit : Option (ℕ × Bool)) (regs : List ℕ) (store : Option Store) (at : ℕ)
    → Some at ≡ hit_before hit → unless_watched exec_hit hit regs store ≡ faults Watch at
watched exec_hit hit regs store at e = rw (sym e) refl

free : (exec_hit : Option ℕ) (hit : Option (ℕ × Bool)) (regs : List ℕ) (store : Option Store) → None ≡ hit_before hit
    → unless_watched exec_hit hit regs store ≡ trapped_after exec_hit (hit_after hit) regs store
free exec_hit hit regs store e = rw (sym e) refl

module _ (space : Space) (areas : List Area) (exec_hit : Option ℕ) (regs : List ℕ) (load : Load) (at size : ℕ) where
  pub load-fails : (bad : BadByte) → Err bad ≡ loaded_from load regs (bytes_for prot_read space at size)
      → load_effect space areas exec_hit regs load at size ≡ access_fault (is_stack_load load) bad
  unfolding load_effect
  load-fails bad e = rw (failed load regs (bytes_for prot_read space at size) bad e) refl

  loads : (new : List ℕ) → Ok new ≡ loaded_from load regs (bytes_for prot_read space at size)
      → load_effect space areas exec_hit regs load at size
      ≡ unless_watched exec_hit (hit_in watch_read areas at size) new None
  unfolding load_effect
  loads new e =
      let had = succeeded load regs new (bytes_for prot_read space at size) e in
      rw (had.is) (ap (λ r. unless_watched exec_hit (hit_in watch_read areas at size) r None) had.new_is)

  pub load-watched : (new : List ℕ) (byte : ℕ) → Ok new ≡ loaded_from load regs (bytes_for prot_read space at size)
      → Some byte ≡ hit_before (hit_in watch_read areas at size)
      → load_effect space areas exec_hit regs load at size ≡ faults Watch byte
  load-watched new byte e hit = loads new e ∙ watched exec_hit _ new None byte hit

  pub load-free : (new : List ℕ) → Ok new ≡ loaded_from load regs (bytes_for prot_read space at size)
      → None ≡ hit_before (hit_in watch_read areas at size)
      → load_effect space areas exec_hit regs load at size
      ≡ trapped_after exec_hit (hit_after (hit_in watch_read areas at size)) new None
  load-free new e hit = loads new e ∙ free exec_hit _ new None hit

pub load-space : (exec_hit data_hit : Option ℕ) (regs : List ℕ) (space : Space)
    → space_after (trapped_after exec_hit data_hit regs None) space ≡ space
load-space exec_hit data_hit regs space = trapped-space exec_hit data_hit regs None space

pub fault-space : (stack : Bool) (bad : BadByte) (space : Space) → space_after (access_fault stack bad) space ≡ space
fault-space true (Hole at) space = refl
fault-space true (NotAllowed at) space = refl
fault-space false (Hole at) space = refl
fault-space false (NotAllowed at) space = refl

pub ruleset loading = (load-fails, load-watched, load-free, load-space, fault-space)

bad-err : (r : Result (List ℕ) BadByte) (bad : BadByte) → Some bad ≡ result_err r → r ≡ Err bad
bad-err (Ok bytes) bad e = absurd (cc)
bad-err (Err other) bad e = cc

good-ok : (r : Result (List ℕ) BadByte) → None ≡ result_err r → Has (List ℕ) r
good-ok (Ok bytes) e = record { bytes = bytes; is = refl }
good-ok (Err bad) e = absurd (cc)

pub good-is_ok : (r : Result (List ℕ) BadByte) → None ≡ result_err r → IsOk r
good-is_ok (Ok bytes) e = refl
good-is_ok (Err bad) e = absurd (cc)

module _ (space : Space) (areas : List Area) (exec_hit : Option ℕ) (stack : Bool) (regs : List ℕ) (store : Store) where
  pub store-fails : (bad : BadByte) → Some bad ≡ result_err (bytes_for prot_write space store.at (length store.bytes))
      → store_effect space areas exec_hit stack regs store ≡ access_fault stack bad
  unfolding store_effect
  store-fails bad e = rw (bad-err (bytes_for prot_write space store.at (length store.bytes)) bad e) refl

  stores : None ≡ result_err (bytes_for prot_write space store.at (length store.bytes))
      → store_effect space areas exec_hit stack regs store
      ≡ unless_watched exec_hit (hit_in watch_write areas store.at (length store.bytes)) regs (Some store)
  unfolding store_effect
  stores e =
      let had = good-ok (bytes_for prot_write space store.at (length store.bytes)) e in
      rw (had.is) refl

  pub store-watched : (byte : ℕ) → None ≡ result_err (bytes_for prot_write space store.at (length store.bytes))
      → Some byte ≡ hit_before (hit_in watch_write areas store.at (length store.bytes))
      → store_effect space areas exec_hit stack regs store ≡ faults Watch byte
  store-watched byte e hit = stores e ∙ watched exec_hit _ regs (Some store) byte hit

  pub store-free : None ≡ result_err (bytes_for prot_write space store.at (length store.bytes))
      → None ≡ hit_before (hit_in watch_write areas store.at (length store.bytes))
      → store_effect space areas exec_hit stack regs store
      ≡ trapped_after exec_hit (hit_after (hit_in watch_write areas store.at (length store.bytes))) regs (Some store)
  store-free e hit = stores e ∙ free exec_hit _ regs (Some store) hit

pub store-outcome : (exec_hit data_hit : Option ℕ) (regs : List ℕ) (store : Store)
    → outcome_of (trapped_after exec_hit data_hit regs (Some store))
    ≡ outcome_of (trapped_after exec_hit data_hit regs None)
store-outcome exec_hit data_hit regs store = trapped-outcome exec_hit data_hit regs (Some store)

pub store-space : (exec_hit data_hit : Option ℕ) (regs : List ℕ) (store : Store) (space : Space)
    → space_after (trapped_after exec_hit data_hit regs (Some store)) space ≡ with_bytes store.at store.bytes space
store-space exec_hit data_hit regs store space = trapped-space exec_hit data_hit regs (Some store) space

-- an access that takes effect stores the bytes, whether an area traps after it or not
pub store-stores : (exec_hit data_hit : Option ℕ) (regs : List ℕ) (store : Store)
    → stores_bytes (trapped_after exec_hit data_hit regs (Some store)) ≡ true
store-stores (Some at) data_hit regs store = refl
store-stores None (Some at) regs store = refl
store-stores None None regs store = refl

pub ruleset storing =
    (good-is_ok, store-fails, store-watched, store-free, store-outcome, store-space, store-stores, fault-space)

-- ---- no watched areas

-- nothing is hit where nothing is watched
pub no-hit : (kind : ℕ) (areas : List Area) (at size : ℕ) → length areas ≡ 0 → hit_in kind areas at size ≡ None
unfolding hit_in
no-hit kind [] at zero none = refl
no-hit kind [] at (suc size) none = no-hit kind [] ((at + 1) % 2 ^ 64) size refl
no-hit kind (area ∷ areas) at size none = absurd (omega arith)

pub ruleset no_hits = (no-hit)

-- ---- an instruction that was carried out when it was decoded

left-decoded : (d : Decoded) (regs : List ℕ) → leaves_registers d ≡ true → decoded_of d regs ≡ leaves regs
left-decoded Leaves regs is = refl
left-decoded _ regs is = absurd (cc)

module _ (space : Space) (areas : List Area) (exec_hit : Option ℕ) (regs new : List ℕ) (i : Instruction)
    (d : Decoded) where
  pub left-executed : decoded_of d new ≡ decoded i regs → leaves_registers d ≡ true
      → of_instruction space areas exec_hit regs (Some i) ≡ trapped_after exec_hit None new None
  unfolding executed
  left-executed value is = rw (sym value ∙ left-decoded d new is) refl

  -- any other is carried out then
  pub other-executed : decoded_of d new ≡ decoded i regs → new ≡ regs
      → of_instruction space areas exec_hit regs (Some i) ≡ executed space areas exec_hit new (decoded_of d new)
  other-executed value same =
      ap (λ (r : List ℕ). executed space areas exec_hit r (decoded i regs)) (sym same)
      ∙ ap (executed space areas exec_hit new) (sym value)

pub ruleset in_place = (left-executed, other-executed, load-space)
