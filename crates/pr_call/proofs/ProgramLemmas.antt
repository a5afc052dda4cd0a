use Rattle.std.specs.List.{slice_get}
use Rattle.std.proofs.Common.{◌≡◌, ◌<◌, ◌==◌, ℕ, zero, suc, arith, length, IsSome, Bool, true, false, Option, Some, None, Result, Ok, Err, List, [], ◌∷◌, cond, refl, sym, ap, ◌∙◌}
use Rattle.pr_num.specs.Agents.{agent_id}
use Rattle.pr_num.specs.Programs.{Program}
use Rattle.pr_num.specs.Spaces.{first_space, mapped_size}
use Rattle.pr_num.specs.declared.errnos.Errno.{Errno}
use Rattle.pr_num.specs.declared.errnos.Errno.TheVariants.{Noent, Nomem, Notsup}
use Rattle.pr_model.specs.Changes.{Effect, all_changed, becomes, changed, fails, gives}
use Rattle.pr_model.specs.Lives.{with_loan_back, with_program}
use Rattle.pr_model.specs.Machines.{traced}
use Rattle.pr_model.specs.MemoryCalls.{path_at}
use Rattle.pr_model.specs.ProcessCalls.{exec_effect, given_up, program_named}
use Rattle.pr_model.specs.Readers.{total_has_room}
use Rattle.pr_model.specs.State.{TracedLwp, TracedProcess, TracedSystem, with_process, with_process_if}
use Rattle.pr_model.specs.declared.events.Res.TheVariants.{Value, Error}
use Rattle.pr_proc.specs.Refusals.{exec_refusal}
use Rattle.pr_call.specs.Effects.{after_effect, is_granted, outcome_of}
use Rattle.pr_call.specs.Processes.{exec_found, exec_of}
use Rattle.pr_call.specs.declared.requests.Performed.TheVariants as performed

-- What exec does, by what refuses it.

module _ (s : TracedSystem) (p : TracedProcess) (id : ℕ) where
  found-none : (o : Option Program) → o ≡ None → exec_found s p id o ≡ fails Noent
  unfolding exec_found
  found-none o none = rw none refl

  found-refused : (o : Option Program) (g : Program) (e : Errno) → o ≡ Some g → exec_refusal s p id g ≡ Some e
      → exec_found s p id o ≡ fails e
  unfolding exec_found exec_refusal
  found-refused o g e is refusal =
      rw is (by (total_has_room s (mapped_size (first_space g)) (given_up s p id)) refl refusal)
    where
      by : (b : Bool) → total_has_room s (mapped_size (first_space g)) (given_up s p id) ≡ b
          → cond b None (Some Nomem) ≡ Some e → cond b (gives 0 (becomes g ∷ [])) (fails Nomem) ≡ fails e
      by true room told = absurd (cc)
      by false none told = ap fails (cc)

  found-granted : (o : Option Program) (g : Program) → o ≡ Some g → exec_refusal s p id g ≡ None
      → exec_found s p id o ≡ gives 0 (becomes g ∷ [])
  unfolding exec_found exec_refusal
  found-granted o g is refusal = rw is (by (total_has_room s (mapped_size (first_space g)) (given_up s p id)) refusal)
    where
      by : (b : Bool) → cond b None (Some Nomem) ≡ None
          → cond b (gives 0 (becomes g ∷ [])) (fails Nomem) ≡ gives 0 (becomes g ∷ [])
      by true told = refl
      by false told = absurd (cc)

module _ (s : TracedSystem) (pid : ℕ) (p : TracedProcess) (id : ℕ) (l : TracedLwp) (o : Option Program) where
  pub ran-none : o ≡ None → s ≡ after_effect pid p id l (exec_found s p id o) s
  unfolding after_effect all_changed
  ran-none none = rw (found-none s p id o none) refl

  pub ran-refused : (g : Program) (e : Errno) → o ≡ Some g → exec_refusal s p id g ≡ Some e
      → s ≡ after_effect pid p id l (exec_found s p id o) s
  unfolding after_effect all_changed
  ran-refused g e is refusal = rw (found-refused s p id o g e is refusal) refl

  pub ran-program : (g : Program) → o ≡ Some g → exec_refusal s p id g ≡ None
      → with_process_if p.lender (with_loan_back pid p) (with_process pid (with_program traced id l g) s)
      ≡ after_effect pid p id l (exec_found s p id o) s
  unfolding after_effect all_changed changed
  ran-program g is refusal = rw (found-granted s p id o g is refusal) refl

some-at : {X : Type 0} (xs : List X) (i : ℕ) → i < length xs → IsSome (slice_get xs i)
some-at [] i within = absurd (omega arith)
some-at (x ∷ xs) zero within = refl
some-at (x ∷ xs) (suc i) within = some-at xs i (omega arith)

-- the program that is found is run, or refused
module _ (s new : TracedSystem) (pid : ℕ) (p : TracedProcess) (id : ℕ) (l : TracedLwp) (x : Effect) where
  run-by : (o : Option Program) → IsSome o → exec_found s p id o ≡ x
      → ((g : Program) → o ≡ Some g
      → new ≡ with_process_if p.lender (with_loan_back pid p) (with_process pid (with_program traced id l g) s))
      → ((g : Program) → o ≡ Some g → exec_refusal s p id g ≡ None) → new ≡ after_effect pid p id l x s
  run-by None some is ran free = absurd (cc)
  run-by (Some g) some is ran free =
      ran g refl ∙ ran-program s pid p id l (Some g) g refl (free g refl) ∙ ap (λ e. after_effect pid p id l e s) is

  pub run-system : (place : ℕ) → place < length s.programs → exec_found s p id (slice_get s.programs place) ≡ x
      → ((g : Program) → slice_get s.programs place ≡ Some g
      → new ≡ with_process_if p.lender (with_loan_back pid p) (with_process pid (with_program traced id l g) s))
      → ((g : Program) → slice_get s.programs place ≡ Some g → exec_refusal s p id g ≡ None)
      → new ≡ after_effect pid p id l x s
  run-system place within = run-by (slice_get s.programs place) (some-at s.programs place within)

  refuse-by : (o : Option Program) (e : Errno) → IsSome o → exec_found s p id o ≡ x → new ≡ s
      → ((g : Program) → o ≡ Some g → exec_refusal s p id g ≡ Some e) → new ≡ after_effect pid p id l x s
  refuse-by None e some is same told = absurd (cc)
  refuse-by (Some g) e some is same told =
      same ∙ ran-refused s pid p id l (Some g) g e refl (told g refl) ∙ ap (λ y. after_effect pid p id l y s) is

  pub refuse-system : (place : ℕ) (e : Errno) → place < length s.programs
      → exec_found s p id (slice_get s.programs place) ≡ x → new ≡ s
      → ((g : Program) → slice_get s.programs place ≡ Some g → exec_refusal s p id g ≡ Some e)
      → new ≡ after_effect pid p id l x s
  refuse-system place e within = refuse-by (slice_get s.programs place) e (some-at s.programs place within)

module _ (s : TracedSystem) (p : TracedProcess) (id : ℕ) (x : Effect) where
  run-told : (o : Option Program) → IsSome o → exec_found s p id o ≡ x
      → ((g : Program) → o ≡ Some g → exec_refusal s p id g ≡ None) → performed.Done (Value 0) ≡ outcome_of x
  run-told None some is free = absurd (cc)
  run-told (Some g) some is free = ap outcome_of (sym (found-granted s p id (Some g) g refl (free g refl)) ∙ is)

  pub run-outcome : (place : ℕ) → place < length s.programs → exec_found s p id (slice_get s.programs place) ≡ x
      → ((g : Program) → slice_get s.programs place ≡ Some g → exec_refusal s p id g ≡ None)
      → performed.Done (Value 0) ≡ outcome_of x
  run-outcome place within = run-told (slice_get s.programs place) (some-at s.programs place within)

  refuse-told : (o : Option Program) (e : Errno) → IsSome o → exec_found s p id o ≡ x
      → ((g : Program) → o ≡ Some g → exec_refusal s p id g ≡ Some e) → performed.Done (Error e) ≡ outcome_of x
  refuse-told None e some is told = absurd (cc)
  refuse-told (Some g) e some is told = ap outcome_of (sym (found-refused s p id (Some g) g e refl (told g refl)) ∙ is)

  pub refuse-outcome : (place : ℕ) (e : Errno) → place < length s.programs
      → exec_found s p id (slice_get s.programs place) ≡ x
      → ((g : Program) → slice_get s.programs place ≡ Some g → exec_refusal s p id g ≡ Some e)
      → performed.Done (Error e) ≡ outcome_of x
  refuse-outcome place e within = refuse-told (slice_get s.programs place) e (some-at s.programs place within)

  -- where nothing refuses it, it is granted
  granted-told : (o : Option Program) → IsSome o → exec_found s p id o ≡ x
      → ((g : Program) → o ≡ Some g → exec_refusal s p id g ≡ None) → is_granted x ≡ true
  granted-told None some is free = absurd (cc)
  granted-told (Some g) some is free = ap is_granted (sym is ∙ found-granted s p id (Some g) g refl (free g refl))

  pub run-granted : (place : ℕ) → place < length s.programs → exec_found s p id (slice_get s.programs place) ≡ x
      → ((g : Program) → slice_get s.programs place ≡ Some g → exec_refusal s p id g ≡ None) → is_granted x ≡ true
  run-granted place within = granted-told (slice_get s.programs place) (some-at s.programs place within)

-- a call that is refused leaves all as it was
pub after-fails : (s : TracedSystem) (pid : ℕ) (p : TracedProcess) (id : ℕ) (l : TracedLwp) (e : Errno) (x : Effect)
    → fails e ≡ x → s ≡ after_effect pid p id l x s
unfolding after_effect all_changed
after-fails s pid p id l e x is = ap (λ y. after_effect pid p id l y s) is

pub ruleset running = (after-fails)

-- ---- by a path

module _ (s : TracedSystem) (p : TracedProcess) (id at : ℕ) where
  pub exec-agent : id ≡ agent_id → exec_effect s p id at ≡ fails Notsup
  unfolding exec_effect
  exec-agent agent = rw agent refl

  exec-by : (r : Result (List ℕ) Errno) → path_at p.space at ≡ r → (id == agent_id) ≡ false
      → exec_effect s p id at ≡ exec_of s p id r
  unfolding exec_effect exec_found
  exec-by (Err e) is other = rw (other, is) refl
  exec-by (Ok name) is other = by (program_named s.programs name) refl
    where
      by : (o : Option Program) → program_named s.programs name ≡ o
          → exec_effect s p id at ≡ exec_found s p id (program_named s.programs name)
      by None e = rw (other, is, e) refl
      by (Some g) e = rw (other, is, e) refl

module _ (s : TracedSystem) (p : TracedProcess) (id at : ℕ) where
  pub exec-faulty : (e : Errno) → Err e ≡ path_at p.space at → (id == agent_id) ≡ false
      → fails e ≡ exec_effect s p id at
  exec-faulty e is other = sym (exec-by s p id at (Err e) (sym is) other)

  pub exec-none : (name : List ℕ) → Ok name ≡ path_at p.space at → (id == agent_id) ≡ false
      → program_named s.programs name ≡ None → fails Noent ≡ exec_effect s p id at
  exec-none name is other none =
      sym (exec-by s p id at (Ok name) (sym is) other ∙ found-none s p id (program_named s.programs name) none)

  pub exec-place : (name : List ℕ) (place : ℕ) → Ok name ≡ path_at p.space at → (id == agent_id) ≡ false
      → slice_get s.programs place ≡ program_named s.programs name
      → exec_found s p id (slice_get s.programs place) ≡ exec_effect s p id at
  exec-place name place is other named = ap (exec_found s p id) named ∙ sym (exec-by s p id at (Ok name) (sym is) other)

pub ruleset naming = (exec-agent, exec-faulty, exec-none, exec-place)
