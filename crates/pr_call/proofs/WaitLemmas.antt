use Rattle.std.proofs.Common.{◌≡◌, ◌≢◌, ◌==◌, ℕ, true, false, eqb, Some, List, [], ◌∷◌, refl, sym, ap, ◌∙◌, inl, inr}
use Rattle.std.proofs.lemmas.Bool.{cases_Bool, eqb-true, eq-eqb, ne_eqb}
use Rattle.std.proofs.lemmas.Option.{same_Some}
use Rattle.pr_num.specs.ById.{change_under, put_under, under, without_id}
use Rattle.pr_num.proofs.ByIdLaws.{put_under-found, put_under-same}
use Rattle.pr_num.specs.Spaces.{Space}
use Rattle.pr_num.specs.Words.{word_bytes}
use Rattle.pr_num.specs.declared.errnos.Errno.TheVariants.{Child, Fault}
use Rattle.pr_parts.specs.AddressSpaces.{with_bytes}
use Rattle.pr_model.specs.Changes.{all_changed, changed, fails, gives, is_over, reaps, space_is, with_space}
use Rattle.pr_model.specs.FileCallRows.{word_size}
use Rattle.pr_model.specs.Lives.{with_reaped}
use Rattle.pr_model.specs.MemoryCalls.{can_write}
use Rattle.pr_model.specs.ProcessCalls.{wait_effect}
use Rattle.pr_model.specs.Readers.{Children, no_child, all_live, first_zombie, children_of}
use Rattle.pr_model.specs.State.{TracedLwp, TracedProcess, TracedSystem, live_process, with_process}
use Rattle.pr_model.specs.declared.events.Res.TheVariants.{Value, Error}
use Rattle.pr_call.specs.Effects.{after_effect, outcome_of, stores_bytes}
use Rattle.pr_call.specs.Waits.{reaped_by}
use Rattle.pr_call.specs.declared.requests.Performed.TheVariants as performed
use Rattle.pr_model.proofs.StateLemmas.{live_process-found}

-- What wait makes of the system.

-- ---- the status that is stored

module _ (s : TracedSystem) (pid : ℕ) (q p : TracedProcess) (new : Space) where
  pub stored-live : under pid s.processes ≡ Some q → live_process s pid ≡ Some p → q ≡ p
  stored-live there found = same_Some q p (sym there ∙ live_process-found s pid p found)

  pub stored-in : under pid s.processes ≡ Some q → live_process s pid ≡ Some p
      → record s { processes = put_under pid (record q { space = new }) s.processes }
      ≡ with_process pid (with_space new) s
  unfolding with_process with_space
  stored-in there found =
      ap (λ ps. record s { processes = ps }) (put_under-found pid (with_space new) q s.processes there)

  pub kept-in : under pid s.processes ≡ Some q → new ≡ q.space
      → record s { processes = put_under pid (record q { space = new }) s.processes } ≡ s
  kept-in there same =
      ap (λ (space : Space). record s { processes = put_under pid (record q { space = space }) s.processes }) same
      ∙ ap (λ ps. record s { processes = ps }) (put_under-same pid q s.processes there)

pub ruleset storing_in = (stored-live, stored-in, kept-in)

-- ---- the child that is reaped

without-changed : {X : Type 0} (child pid : ℕ) (f : X → X) → child ≢ pid → (es : List (ℕ × X))
    → without_id child (change_under pid f es) ≡ change_under pid f (without_id child es)
without-changed child pid f apart [] = refl
without-changed child pid f apart (e ∷ es) =
    elim (cases_Bool (eqb e.0 child)) [
      | inl here ↦ let other = ne_eqb e.0 pid (λ same. apart (sym (eqb-true e.0 child here) ∙ same)) in
          rw (other, here) refl
      | inr there ↦ elim (cases_Bool (eqb e.0 pid)) [
        | inl own ↦ rw (own, there) (rw own refl)
        | inr other ↦ rw (other, there) (rw other (ap (λ ds. e ∷ ds) (without-changed child pid f apart es)))
      ]
    ]

reaped-changed : (pid child : ℕ) (f : TracedProcess → TracedProcess) (s : TracedSystem)
    → reaped_by pid child (with_process pid f s) ≡ with_process pid f (reaped_by pid child s)
unfolding with_process with_reaped
reaped-changed pid child f s =
    elim (cases_Bool (eqb child pid)) [
      | inl same ↦ rw same refl
      | inr other ↦
          rw other
          (ap (λ ps. record s { processes = ps }) (without-changed child pid f (λ same. apart same other) s.processes))
    ]
  where
    apart : child ≡ pid → eqb child pid ≡ false → ⊥
    apart same other = absurd (let wrong : true ≡ false = sym (eq-eqb child pid same) ∙ other in cc)

-- ---- the effect

module _ (space : Space) (child status at : ℕ) where
  unstored : (at == 0) ≡ true → wait_effect space (first_zombie child status) at ≡ gives child (reaps child ∷ [])
  unfolding wait_effect
  unstored none = rw none refl

  stored : (at == 0) ≡ false → can_write space at word_size ≡ true
      → wait_effect space (first_zombie child status) at
      ≡ gives child (reaps child ∷ space_is (with_bytes at (word_bytes status) space) ∷ [])
  unfolding wait_effect
  stored some can = rw (some, can) refl

  faulty : (at == 0) ≡ false → can_write space at word_size ≡ false
      → wait_effect space (first_zombie child status) at ≡ fails Fault
  unfolding wait_effect
  faulty some cannot = rw (some, cannot) refl

module _ (s : TracedSystem) (pid : ℕ) (p : TracedProcess) (id : ℕ) (l : TracedLwp) (child status at : ℕ) where
  pub give-unstored : (at == 0) ≡ true
      → reaped_by pid child s ≡ after_effect pid p id l (wait_effect p.space (first_zombie child status) at) s
  unfolding after_effect all_changed changed
  give-unstored none = rw (unstored p.space child status at none) refl

  pub give-stored : (t : TracedSystem) → (at == 0) ≡ false → can_write p.space at word_size ≡ true
      → t ≡ with_process pid (with_space (with_bytes at (word_bytes status) p.space)) s
      → reaped_by pid child t ≡ after_effect pid p id l (wait_effect p.space (first_zombie child status) at) s
  unfolding after_effect all_changed changed
  give-stored t some can is =
      rw (stored p.space child status at some can)
      (ap (reaped_by pid child) is
      ∙ reaped-changed pid child (with_space (with_bytes at (word_bytes status) p.space)) s)

  pub give-faulty : (at == 0) ≡ false → can_write p.space at word_size ≡ false
      → s ≡ after_effect pid p id l (wait_effect p.space (first_zombie child status) at) s
  unfolding after_effect all_changed
  give-faulty some cannot = rw (faulty p.space child status at some cannot) refl

pub gave-unstored : (space : Space) (child status at : ℕ) → (at == 0) ≡ true
    → performed.Done (Value child) ≡ outcome_of (wait_effect space (first_zombie child status) at)
gave-unstored space child status at none = rw (unstored space child status at none) refl

pub gave-stored : (space : Space) (child status at : ℕ) → (at == 0) ≡ false → can_write space at word_size ≡ true
    → performed.Done (Value child) ≡ outcome_of (wait_effect space (first_zombie child status) at)
gave-stored space child status at some can = rw (stored space child status at some can) refl

pub gave-faulty : (space : Space) (child status at : ℕ) → (at == 0) ≡ false → can_write space at word_size ≡ false
    → performed.Done (Error Fault) ≡ outcome_of (wait_effect space (first_zombie child status) at)
gave-faulty space child status at some cannot = rw (faulty space child status at some cannot) refl

-- memory may run out where a status is stored
pub give-lacks : (space : Space) (child status at : ℕ) → (at == 0) ≡ false → can_write space at word_size ≡ true
    → stores_bytes (wait_effect space (first_zombie child status) at) ≡ true
give-lacks space child status at some can = ap stores_bytes (stored space child status at some can)

pub ruleset giving = (give-lacks, give-unstored, give-stored, give-faulty, gave-unstored, gave-stored, gave-faulty)

-- ---- the call

module _ (s : TracedSystem) (pid : ℕ) (p : TracedProcess) (id : ℕ) (l : TracedLwp) (at : ℕ) where
  pub wait-nobody : no_child ≡ children_of s pid
      → s ≡ after_effect pid p id l (wait_effect p.space (children_of s pid) at) s
  unfolding after_effect all_changed wait_effect
  wait-nobody none = rw (sym none) refl

  pub wait-living : all_live ≡ children_of s pid
      → s ≡ after_effect pid p id l (wait_effect p.space (children_of s pid) at) s
  unfolding after_effect wait_effect
  wait-living live = rw (sym live) refl

pub waited-nobody : (space : Space) (c : Children) (at : ℕ) → no_child ≡ c
    → performed.Done (Error Child) ≡ outcome_of (wait_effect space c at)
unfolding wait_effect
waited-nobody space c at none = rw (sym none) refl

pub waited-living : (space : Space) (c : Children) (at : ℕ) → all_live ≡ c
    → performed.Sleep ≡ outcome_of (wait_effect space c at)
unfolding wait_effect
waited-living space c at live = rw (sym live) refl

pub ruleset waiting = (wait-nobody, wait-living, waited-nobody, waited-living)

-- ---- whether it would sleep

pub over-nobody : (space : Space) (at : ℕ) (c : Children) → no_child ≡ c → is_over (wait_effect space c at) ≡ true
unfolding wait_effect
over-nobody space at c none = rw (sym none) refl

pub over-living : (space : Space) (at : ℕ) (c : Children) → all_live ≡ c → is_over (wait_effect space c at) ≡ false
unfolding wait_effect
over-living space at c live = rw (sym live) refl

over-given : (space : Space) (at child status : ℕ) → is_over (wait_effect space (first_zombie child status) at) ≡ true
over-given space at child status =
    elim (cases_Bool (at == 0)) [
      | inl none ↦ rw (unstored space child status at none) refl
      | inr some ↦ elim (cases_Bool (can_write space at word_size)) [
        | inl can ↦ rw (stored space child status at some can) refl
        | inr cannot ↦ rw (faulty space child status at some cannot) refl
      ]
    ]

pub over-zombie : (space : Space) (at child status : ℕ) (c : Children) → first_zombie child status ≡ c
    → is_over (wait_effect space c at) ≡ true
over-zombie space at child status c is = rw (sym is) (over-given space at child status)

pub ruleset overs = (over-nobody, over-living, over-zombie)
