use Rattle.std.proofs.Common.{◌≡◌, ◌≢◌, ◌==◌, ◌<◌, ℕ, true, false, Option, Some, None, length, refl, sym, ◌∙◌, ◌≤◌, ◌+◌, [], ◌∷◌}
use Rattle.std.proofs.Math.ListN.{get_or-append}
use Rattle.std.proofs.Math.Seq.{get_or-append_seam}
use Rattle.std.proofs.lemmas.Bool.{eq-eqb, ne_eqb}
use Rattle.std.proofs.lemmas.List.Edits.{get_or-remove_above, get_or-remove_below, length-remove}
use Rattle.std.proofs.lemmas.List.{length-set, get_or-set_other, get_or-set_same, length-append}
use Rattle.std.proofs.lemmas.Option.{none-some, same_Some}
use Rattle.pr_truss.specs.Trusses.{TrussState, nobody, traced_at, with_traced, with_opened, without_traced}
use Rattle.pr_truss.specs.declared.processes.Traced.{Traced}
use Rattle.pr_report_laws.proofs.Replies.Orderly.{IsOrderly}
use Rattle.pr_report_laws.proofs.Replies.Places.{place-own, place-set}
use Rattle.pr_report_laws.specs.Watching.{place_of}
pub use Rattle.pr_report_laws.proofs.Replies.Places.{place-pid, place-within}

-- Where a process stands among those that truss traces, and where it stands after a step.

-- ---- where a process stands, and where it does not

module _ (t : TrussState) (pid : ℕ) where
  -- a process that stands nowhere has no place
  pub place-none : ((place : ℕ) → place < length t.traced → (traced_at t place).pid ≢ pid) → place_of t pid ≡ None
  place-none nowhere = by (place_of t pid) refl
    where
      by : (x : Option ℕ) → place_of t pid ≡ x → place_of t pid ≡ None
      by None is = is
      by (Some place) is = absurd (nowhere place (place-within t pid place is) (place-pid t pid place is))

  module _ (order : IsOrderly t) where
    -- a process has the place at which it stands
    pub place-some : (place : ℕ) → place < length t.traced → (traced_at t place).pid ≡ pid → place_of t pid ≡ Some place
    place-some place within is = place-own t place pid order within is

    pub none-pid : place_of t pid ≡ None → (place : ℕ) → place < length t.traced → (traced_at t place).pid ≢ pid
    none-pid none place within is = none-some place (sym none ∙ place-some place within is)

    pub other-pid : (place other : ℕ) → place_of t pid ≡ Some place → other < length t.traced → other ≢ place
        → (traced_at t other).pid ≢ pid
    other-pid place other at within differs is = differs (same_Some other place (sym (place-some other within is) ∙ at))

-- ---- one more process

module _ (t : TrussState) (new : Traced) where
  pub opened-length : length (with_opened t new).traced ≡ length t.traced + 1
  opened-length = length-append t.traced (new ∷ [])

  pub opened-before : (place : ℕ) → place < length t.traced → traced_at (with_opened t new) place ≡ traced_at t place
  opened-before place within = get_or-append t.traced (new ∷ []) nobody place within

  pub opened-last : traced_at (with_opened t new) (length t.traced) ≡ new
  opened-last = get_or-append_seam t.traced new [] nobody

-- ---- what is known of one process changes

module _ (t : TrussState) (place : ℕ) (x : Traced) where
  pub set-length : length (with_traced t place x).traced ≡ length t.traced
  set-length = length-set t.traced place x

  pub set-here : place < length t.traced → traced_at (with_traced t place x) place ≡ x
  set-here within = get_or-set_same t.traced place x nobody within

  pub set-other : (other : ℕ) → other ≢ place → traced_at (with_traced t place x) other ≡ traced_at t other
  set-other other differs = get_or-set_other t.traced place other x nobody differs

  -- each process stands where it stood
  pub set-place : (pid : ℕ) → x.pid ≡ (traced_at t place).pid → place_of (with_traced t place x) pid ≡ place_of t pid
  set-place pid same = place-set t place pid x same

-- ---- one process less

module _ (t : TrussState) (place : ℕ) (there : place < length t.traced) where
  pub removed-length : length (without_traced t place).traced + 1 ≡ length t.traced
  removed-length = length-remove t.traced place there

  pub removed-before : (other : ℕ) → other < place → traced_at (without_traced t place) other ≡ traced_at t other
  removed-before other before = get_or-remove_below t.traced place nobody other before there

  pub removed-behind : (other : ℕ) → place ≤ other → traced_at (without_traced t place) other ≡ traced_at t (other + 1)
  removed-behind other behind = get_or-remove_above t.traced place nobody other behind there

-- ---- a step is about a place or not

pub same-place : (a b : ℕ) → a ≡ b → (a == b) ≡ true
same-place a b is = eq-eqb a b is

pub other-place : (a b : ℕ) → a ≢ b → (a == b) ≡ false
other-place a b differs = ne_eqb a b differs
