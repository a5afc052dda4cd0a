use Rattle.std.proofs.Common.{◌≡◌, ◌≢◌, ◌-◌, ◌^◌, ℕ, true, false, ltb, Some, None, List, [], ◌∷◌, length, take, refl, ap, inl, inr, arith}
use Rattle.std.specs.List.{slice_get}
use Rattle.std.proofs.lemmas.Bool.{cases_Bool}
use Rattle.std.proofs.lemmas.Option.{same_Some, slice_get-get_or}
use Rattle.pr_num.specs.Limits.{signal_count}
use Rattle.pr_num.specs.Sets.{set_of_word}
use Rattle.pr_num.specs.Signals.{holdable_word, signal_of_number}
use Rattle.pr_num.specs.declared.errnos.Errno.TheVariants.{Inval}
use Rattle.pr_num.specs.declared.signals.Sig.{Sig}
use Rattle.pr_model.specs.Changes as changes
use Rattle.pr_model.specs.Changes.{disposition_is, fails, gives, held_is}
use Rattle.pr_model.specs.SignalCalls.{can_be_caught, sigaction_effect, sigmask_effect, sigreturn_effect}
use Rattle.pr_model.specs.Signals.{disposition_of}
use Rattle.pr_model.specs.declared.events.Res.TheVariants.{Value}
use Rattle.pr_model.specs.declared.frames.Frame.{Frame}
use Rattle.pr_call.specs.Effects.{resuming}

-- What the calls on signals do, by what they find.

module _ (dispositions : List ℕ) (number disposition : ℕ) where
  pub sigaction-none : signal_of_number number ≡ None → sigaction_effect dispositions number disposition ≡ fails Inval
  unfolding sigaction_effect
  sigaction-none e = rw e refl

  pub sigaction-some : (g : Sig) → signal_of_number number ≡ Some g → can_be_caught g ≡ true
      → sigaction_effect dispositions number disposition
      ≡ gives (disposition_of dispositions g) (disposition_is g disposition ∷ [])
  unfolding sigaction_effect
  sigaction-some g e can = rw (e, can) refl

  pub sigaction-never : (g : Sig) → signal_of_number number ≡ Some g → can_be_caught g ≡ false
      → sigaction_effect dispositions number disposition ≡ fails Inval
  unfolding sigaction_effect
  sigaction-never g e cannot = rw (e, cannot) refl

pub ruleset sigaction_laws = (sigaction-none, sigaction-some, sigaction-never)

pub sigmask-none : (held word : ℕ) → set_of_word signal_count word ≡ None → sigmask_effect held word ≡ fails Inval
unfolding sigmask_effect
sigmask-none held word e =
    elim (cases_Bool (ltb word (2 ^ signal_count)))
    [ inl within ↦ absurd (let wrong = rw within at e in cc) | inr beyond ↦ rw beyond refl ]

pub sigmask-some : (held word set : ℕ) → set_of_word signal_count word ≡ Some set
    → sigmask_effect held word ≡ gives held (held_is (holdable_word set) ∷ [])
unfolding sigmask_effect
sigmask-some held word set e =
    elim (cases_Bool (ltb word (2 ^ signal_count))) [
      | inl within ↦
          rw within (ap (λ w. gives held (held_is (holdable_word w) ∷ [])) (same_Some word set (rw within at e)))
      | inr beyond ↦ absurd (let wrong = rw beyond at e in cc)
    ]

pub ruleset sigmask_laws = (sigmask-none, sigmask-some)

pub sigreturn-none : (frames : List Frame) → length frames ≡ 0 → sigreturn_effect frames ≡ fails Inval
unfolding sigreturn_effect
sigreturn-none [] none = refl
sigreturn-none (f ∷ frames) none = absurd (omega arith)

pub sigreturn-some : (frames : List Frame) → length frames ≢ 0
    → changes.does (Value 0) (resuming (slice_get frames (length frames - 1)) (take (length frames - 1) frames))
    ≡ sigreturn_effect frames
unfolding sigreturn_effect
sigreturn-some [] some = absurd (some refl)
sigreturn-some (f ∷ frames) some = rw (slice_get-get_or (f ∷ frames) (length (f ∷ frames) - 1) f (omega arith)) refl

pub ruleset sigreturn_laws = (sigreturn-none, sigreturn-some)
