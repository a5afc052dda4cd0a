use Rattle.std.proofs.Common.{◌≡◌, ◌==◌, ◌||◌, ℕ, Bool, true, false, not, length, Option, Some, None, List, [], ◌∷◌, nat_le, refl, sym, ap, ◌∙◌, inl, inr}
use Rattle.std.proofs.lemmas.Bool.{cases_Bool, ne_eqb}
use Rattle.std.proofs.lemmas.Option.{none-some}
use Rattle.pr_num.specs.Agents.{agent_id}
use Rattle.pr_num.specs.Limits.{process_limit}
use Rattle.pr_num.specs.declared.errnos.Errno.{Errno}
use Rattle.pr_num.specs.declared.errnos.Errno.TheVariants.{Notsup}
use Rattle.pr_lawful.proofs.ProcessParts.SystemLemmas.{next-free}
use Rattle.pr_lawful.proofs.Following.UseLemmas.{files-room}
use Rattle.pr_model.specs.Changes.{Effect, all_changed, changed, fails, forks, gives}
use Rattle.pr_model.specs.Lawful.{IsLawfulSystem}
use Rattle.pr_model.specs.Lives.{Birth, by_fork, by_vfork, with_child}
use Rattle.pr_model.specs.Machines.{traced}
use Rattle.pr_model.specs.ProcessCalls.{fork_effect, vfork_effect}
use Rattle.pr_model.specs.Readers.{size_of, total_has_room}
use Rattle.pr_model.specs.State.{TracedLwp, TracedProcess, TracedSystem, live_process, process_of}
use Rattle.pr_proc.specs.Refusals.{fork_refusal, lend_refusal}
use Rattle.pr_call.specs.Effects.{after_effect, is_granted, outcome_of}
use Rattle.pr_call.specs.declared.requests.Performed.TheVariants as performed
use Rattle.pr_model.specs.declared.events.Res.TheVariants.{Error, Value}
use Rattle.pr_model.proofs.StateLemmas.{live_process-found}

-- What fork and vfork do, by what refuses them.

-- whether the call is not supported where it is made so
abbrev is_barred : Birth → TracedProcess → ℕ → Bool
is_barred by_fork p id = id == agent_id
is_barred by_vfork p id = (id == agent_id) || not (length p.lwps == 1)

-- what refuses the child
abbrev birth_refusal : Birth → TracedSystem → TracedProcess → Option Errno
birth_refusal by_fork s p = fork_refusal s p
birth_refusal by_vfork s p = lend_refusal s

abbrev birth_effect : Birth → TracedSystem → TracedProcess → ℕ → List ℕ → Effect
birth_effect by_fork s p id args = fork_effect s p id args
birth_effect by_vfork s p id args = vfork_effect s p id args

abbrev by_refusal : Birth → TracedSystem → List ℕ → Option Errno → Effect
by_refusal birth s args (Some e) = fails e
by_refusal birth s args None = gives s.made (forks birth args ∷ [])

pub birth-barred : (birth : Birth) (s : TracedSystem) (p : TracedProcess) (id : ℕ) (args : List ℕ)
    → is_barred birth p id ≡ true
    → birth_effect birth s p id args ≡ fails Notsup
unfolding fork_effect vfork_effect
birth-barred by_fork s p id args barred = rw barred refl
birth-barred by_vfork s p id args barred = rw barred refl

birth-by : (birth : Birth) (s : TracedSystem) (p : TracedProcess) (id : ℕ) (args : List ℕ)
    → is_barred birth p id ≡ false
    → birth_effect birth s p id args ≡ by_refusal birth s args (birth_refusal birth s p)
unfolding fork_effect vfork_effect fork_refusal lend_refusal
birth-by by_fork s p id args other =
    elim (cases_Bool (nat_le process_limit s.made)) [
      | inl full ↦ rw (other, full) refl
      | inr fewer ↦ elim (cases_Bool (total_has_room s (size_of p) 0))
          [ inl room ↦ rw (other, fewer, room) refl | inr none ↦ rw (other, fewer, none) refl ]
    ]
birth-by by_vfork s p id args other =
    elim (cases_Bool (nat_le process_limit s.made))
    [ inl full ↦ rw (other, full) refl | inr fewer ↦ rw (other, fewer) refl ]

module _ (birth : Birth) (s : TracedSystem) (p : TracedProcess) (id : ℕ) (args : List ℕ) where
  pub birth-refused : (e : Errno) → is_barred birth p id ≡ false → birth_refusal birth s p ≡ Some e
      → birth_effect birth s p id args ≡ fails e
  birth-refused e other is = birth-by birth s p id args other ∙ ap (by_refusal birth s args) is

  pub birth-granted : is_barred birth p id ≡ false → birth_refusal birth s p ≡ None
      → birth_effect birth s p id args ≡ gives s.made (forks birth args ∷ [])
  birth-granted other is = birth-by birth s p id args other ∙ ap (by_refusal birth s args) is

-- the next id is not that of a process that stands
next-other : (s : TracedSystem) (pid : ℕ) (p : TracedProcess) → IsLawfulSystem s → live_process s pid ≡ Some p
    → (s.made == pid) ≡ false
next-other s pid p lawful found =
    ne_eqb s.made pid
    (λ same.
    absurd (none-some p (sym (next-free s lawful) ∙ ap (process_of s) same ∙ live_process-found s pid p found)))

module _ (birth : Birth) (s : TracedSystem) (pid : ℕ) (p : TracedProcess) (id : ℕ) (l : TracedLwp) (args : List ℕ) where
  pub born-barred : is_barred birth p id ≡ true → s ≡ after_effect pid p id l (birth_effect birth s p id args) s
  unfolding after_effect all_changed
  born-barred barred = rw (birth-barred birth s p id args barred) refl

  pub born-refused : (e : Errno) → is_barred birth p id ≡ false → birth_refusal birth s p ≡ Some e
      → s ≡ after_effect pid p id l (birth_effect birth s p id args) s
  unfolding after_effect all_changed
  born-refused e other is = rw (birth-refused birth s p id args e other is) refl

  pub born-child : IsLawfulSystem s → live_process s pid ≡ Some p → is_barred birth p id ≡ false
      → birth_refusal birth s p ≡ None
      → with_child traced birth pid p l args s ≡ after_effect pid p id l (birth_effect birth s p id args) s
  unfolding after_effect all_changed changed
  born-child lawful found other is = rw (birth-granted birth s p id args other is, next-other s pid p lawful found) refl

-- what is told of it
module _ (birth : Birth) (s : TracedSystem) (p : TracedProcess) (id : ℕ) (args : List ℕ) where
  pub told-barred : is_barred birth p id ≡ true
      → performed.Done (Error Notsup) ≡ outcome_of (birth_effect birth s p id args)
  told-barred barred = ap outcome_of (sym (birth-barred birth s p id args barred))

  pub told-refused : (e : Errno) → is_barred birth p id ≡ false → birth_refusal birth s p ≡ Some e
      → performed.Done (Error e) ≡ outcome_of (birth_effect birth s p id args)
  told-refused e other is = ap outcome_of (sym (birth-refused birth s p id args e other is))

  pub told-child : (child : ℕ) → is_barred birth p id ≡ false → birth_refusal birth s p ≡ None → child ≡ s.made
      → performed.Done (Value child) ≡ outcome_of (birth_effect birth s p id args)
  told-child child other is made =
      ap (λ n. performed.Done (Value n)) made ∙ ap outcome_of (sym (birth-granted birth s p id args other is))

  -- memory runs out only where nothing refuses it
  pub granted-where : is_barred birth p id ≡ false → birth_refusal birth s p ≡ None
      → is_granted (birth_effect birth s p id args) ≡ true
  granted-where other is = ap is_granted (birth-granted birth s p id args other is)

pub ruleset births = (next-free, files-room)
