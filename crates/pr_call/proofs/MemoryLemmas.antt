use Rattle.std.proofs.Common.{◌≡◌, ◌≤◌, ◌<◌, ◌+◌, ℕ, true, false, eqb, Some, [], ◌∷◌, Result, Ok, Err, OnErr, length, refl, sym, ap, ◌∙◌, inl, inr, arith}
use Rattle.std.specs.List.{list_any}
use Rattle.std.proofs.lemmas.Bool.{cases_Bool, eqb-true, le-leb, lt-leb, and_parts}
use Rattle.std.proofs.lemmas.List.Sums.{sum_by-cons}
use Rattle.std.proofs.lemmas.Option.{same_Some}
use Rattle.pr_num.proofs.BoolLemmas.{and_false}
use Rattle.pr_num.specs.ById.{put_under, under}
use Rattle.pr_num.proofs.ByIdLaws.{put_under-found, put_under-same}
use Rattle.pr_num.specs.Programs.{rounded}
use Rattle.pr_num.specs.Spaces.{IsSpace, Space, mapped_size, mapping_limit}
use Rattle.pr_num.specs.declared.errnos.Errno.{Errno}
use Rattle.pr_num.specs.declared.errnos.Errno.TheVariants.{Inval}
use Rattle.pr_parts.proofs.SpaceLemmas.{size_of}
use Rattle.pr_parts.specs.AddressSpaces.{has_range, is_range, with_protected, without_range}
use Rattle.pr_model.specs.Changes.{Effect, all_changed, changed, fails, gives, space_is, with_space}
use Rattle.pr_model.specs.MemoryCalls.{is_mapped_range, mprotect_effect, munmap_effect, prot_limit}
use Rattle.pr_model.specs.State.{TracedLwp, TracedProcess, TracedSystem, live_process, with_process}
use Rattle.pr_call.specs.Effects.{after_effect, outcome_of}
use Rattle.pr_call.specs.Memories.{memory_effect}
use Rattle.pr_model.proofs.StateLemmas.{live_process-found}

-- What the calls on memory do.

-- ---- ranges

-- a mapping is no longer than all of them together
range-within : (at size : ℕ) (space : Space) → list_any (is_range at size) space ≡ true → size ≤ mapped_size space
range-within at size [] any = absurd (cc)
range-within at size (m ∷ space) any =
    let whole : mapped_size (m ∷ space) ≡ length m.bytes + mapped_size space = sum_by-cons size_of m space in
    elim (cases_Bool (is_range at size m)) [
      | inl here ↦ let same =
          eqb-true (length m.bytes) size (and_parts (eqb m.at at) (eqb (length m.bytes) size) here).1 in
          omega arith
      | inr other ↦ let rest = range-within at size space (rw other at any) in omega arith
    ]

-- a range that mmap mapped is a range
pub mapped-range : (at size : ℕ) (space : Space) → list_any (is_mapped_range at size) space ≡ true
    → list_any (is_range at size) space ≡ true
mapped-range at size [] any = absurd (cc)
mapped-range at size (m ∷ space) any =
    elim (cases_Bool (is_range at size m)) [
      | inl here ↦ rw here refl
      | inr other ↦ let rest = mapped-range at size space (rw other at any) in
          rw other rest
    ]

too_long : (at size : ℕ) (space : Space) → IsSpace space → mapping_limit < size
    → list_any (is_range at size) space ≡ false
too_long at size space of beyond =
    elim (cases_Bool (list_any (is_range at size) space)) [
      | inl any ↦ absurd (let within = range-within at size space any in let limit = of.limit in omega arith)
      | inr none ↦ none
    ]

too_long-mapped : (at size : ℕ) (space : Space) → IsSpace space → mapping_limit < size
    → list_any (is_mapped_range at size) space ≡ false
too_long-mapped at size space of beyond =
    elim (cases_Bool (list_any (is_mapped_range at size) space)) [
      | inl any ↦
          absurd (let wrong = mapped-range at size space any in let none = too_long at size space of beyond in cc)
      | inr none ↦ none
    ]

-- ---- munmap and mprotect

module _ (s : TracedSystem) (p : TracedProcess) (space : Space) (at len : ℕ) where
  pub munmap-long : p.space ≡ space → IsSpace space → mapping_limit < rounded len
      → fails Inval ≡ munmap_effect s p at len
  unfolding munmap_effect
  munmap-long same of beyond = rw (same, too_long-mapped at (rounded len) space of beyond) refl

  pub munmap-none : (size : ℕ) → p.space ≡ space → size ≡ rounded len → list_any (is_mapped_range at size) space ≡ false
      → fails Inval ≡ munmap_effect s p at len
  unfolding munmap_effect
  munmap-none size same is none = rw (sym is, same, none) refl

  pub munmap-done : (size : ℕ) (new : Space) → p.space ≡ space → size ≡ rounded len
      → list_any (is_mapped_range at size) space ≡ true → new ≡ without_range at size space
      → gives 0 (space_is new ∷ []) ≡ munmap_effect s p at len
  unfolding munmap_effect
  munmap-done size new same is any e = rw (sym is, same, any, e) refl

  pub mprotect-prot : (prot : ℕ) → prot_limit < prot → fails Inval ≡ mprotect_effect s p at len prot
  unfolding mprotect_effect
  mprotect-prot prot beyond = rw (lt-leb prot prot_limit beyond, and_false (has_range at (rounded len) p.space)) refl

  pub mprotect-long : (prot : ℕ) → p.space ≡ space → IsSpace space → mapping_limit < rounded len
      → fails Inval ≡ mprotect_effect s p at len prot
  unfolding mprotect_effect
  mprotect-long prot same of beyond = rw (same, too_long at (rounded len) space of beyond) refl

  pub mprotect-none : (size prot : ℕ) → p.space ≡ space → size ≡ rounded len → has_range at size space ≡ false
      → fails Inval ≡ mprotect_effect s p at len prot
  unfolding mprotect_effect
  mprotect-none size prot same is none = rw (sym is, same, none) refl

  pub mprotect-done : (size prot : ℕ) (new : Space) → p.space ≡ space → size ≡ rounded len → prot ≤ prot_limit
      → has_range at size space ≡ true → new ≡ with_protected at size prot space
      → gives 0 (space_is new ∷ []) ≡ mprotect_effect s p at len prot
  unfolding mprotect_effect
  mprotect-done size prot new same is within any e = rw (sym is, same, any, le-leb prot prot_limit within, e) refl

pub ruleset munmap_laws = (mapped-range, munmap-long, munmap-none, munmap-done)

pub ruleset mprotect_laws = (mprotect-prot, mprotect-long, mprotect-none, mprotect-done)

-- ---- the system

-- a call that answered so and left this space, in the process of an id
after-space : (s : TracedSystem) (pid : ℕ) (p : TracedProcess) (id : ℕ) (l : TracedLwp) (answer : Result ℕ Errno)
    (new : Space) → live_process s pid ≡ Some p → ((e : Errno) → answer ≡ Err e → new ≡ p.space)
    → record s { processes = put_under pid (record p { space = new }) s.processes }
    ≡ after_effect pid p id l (memory_effect answer new) s
unfolding after_effect all_changed changed with_process with_space
after-space s pid p id l (Ok value) new found kept =
    ap (λ ps. record s { processes = ps })
    (put_under-found pid (with_space new) p s.processes (live_process-found s pid p found))
after-space s pid p id l (Err e) new found kept =
    ap (λ (space : Space). record s { processes = put_under pid (record p { space = space }) s.processes })
    (kept e refl)
    ∙ ap (λ ps. record s { processes = ps }) (put_under-same pid p s.processes (live_process-found s pid p found))

kept-by : (answer : Result ℕ Errno) (new old : Space) → OnErr answer (new ≡ old) → (e : Errno) → answer ≡ Err e
    → new ≡ old
kept-by (Ok value) new old kept e is = absurd (cc)
kept-by (Err other) new old kept e is = kept

-- the call in the process that was found, which is the live one
module _ (s : TracedSystem) (pid : ℕ) (q p : TracedProcess) (new : Space) (answer : Result ℕ Errno) (e : Effect) where
  the_live : under pid s.processes ≡ Some q → live_process s pid ≡ Some p → q ≡ p
  the_live there found = same_Some q p (sym there ∙ live_process-found s pid p found)

  pub space-done : (id : ℕ) (l : TracedLwp) → under pid s.processes ≡ Some q → live_process s pid ≡ Some p
      → (p.space ≡ q.space → memory_effect answer new ≡ e) → OnErr answer (new ≡ q.space)
      → record s { processes = put_under pid (record q { space = new }) s.processes } ≡ after_effect pid p id l e s
  space-done id l there found effect kept =
      let same : q ≡ p = the_live there found in
      let put : TracedProcess → TracedSystem =
      λ x. record s { processes = put_under pid (record x { space = new }) s.processes } in
      ap put same
      ∙ after-space s pid p id l answer new found
      (λ err is. kept-by answer new q.space kept err is ∙ ap (λ (x : TracedProcess). x.space) same)
      ∙ ap (λ x. after_effect pid p id l x s) (effect (ap (λ (x : TracedProcess). x.space) (sym same)))

  pub space-outcome : under pid s.processes ≡ Some q → live_process s pid ≡ Some p
      → (p.space ≡ q.space → memory_effect answer new ≡ e) → outcome_of (memory_effect answer new) ≡ outcome_of e
  space-outcome there found effect =
      ap outcome_of (effect (ap (λ (x : TracedProcess). x.space) (sym (the_live there found))))
