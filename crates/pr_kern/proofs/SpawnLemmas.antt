use Rattle.std.proofs.Common.{◌≡◌, ◌<◌, ℕ, Bool, true, false, cond, List, Some, None, length, refl, sym, ◌∙◌, ap, inl, inr, arith}
use Rattle.std.specs.List.{slice_get}
use Rattle.std.proofs.lemmas.Bool.{lt-leb}
use Rattle.std.proofs.lemmas.Option.{slice_get_cases}
use Rattle.pr_num.specs.Limits.{process_limit}
use Rattle.pr_num.specs.Spaces.{first_space, mapped_size}
use Rattle.pr_num.specs.Programs.{Program}
use Rattle.pr_num.specs.declared.errnos.Errno.{Errno}
use Rattle.pr_num.specs.declared.errnos.Errno.TheVariants.{Noent, Nomem}
use Rattle.pr_kern.specs.Memory.{may_lack_for_process}
use Rattle.pr_lawful.proofs.ProcessParts.SystemLemmas.{next-free}
use Rattle.pr_model.specs.Calls.{Answer, spawn_answer, spawn_found, spawn_unless}
use Rattle.pr_model.specs.Lives.{with_spawned}
use Rattle.pr_model.specs.Machines.{traced}
use Rattle.pr_model.specs.ProcessCalls.{program_named}
use Rattle.pr_model.specs.Readers.{total_has_room}
use Rattle.pr_model.specs.Spawning.{spawn_refusal}
use Rattle.pr_model.specs.State.{TracedState, TracedSystem}
use Rattle.pr_model.specs.declared.calls.Reply.TheVariants.{Fail, Pid}

-- What the making of a process from outside answers, by what refuses it.

-- the answer that leaves this system and gives this id
abbrev given : TracedState → TracedSystem → ℕ → Answer
given s new child = record { state = record s { system = new }; reply = Pid child }

module _ (s : TracedState) (held : Bool) (place : ℕ) (within : place < length s.system.programs) where
  -- it is what is found at a place where a program stands
  answered-at : (a : Answer)
      → ((g : Program) → slice_get s.system.programs place ≡ Some g
      → a ≡ spawn_unless s g held (spawn_refusal s.system g))
      → a ≡ spawn_found s held (slice_get s.system.programs place)
  answered-at a is =
      elim (slice_get_cases s.system.programs place).1 [
        | inl here ↦ is here.0 here.2 ∙ ap (spawn_found s held) (sym here.2)
        | inr past ↦ absurd (omega (arith, past.0, within))
      ]

  pub spawn-made : (new : TracedSystem) (child : ℕ)
      → ((g : Program) → slice_get s.system.programs place ≡ Some g → new ≡ with_spawned traced g held s.system)
      → ((g : Program) → slice_get s.system.programs place ≡ Some g → spawn_refusal s.system g ≡ None)
      → child ≡ s.system.made → given s new child ≡ spawn_found s held (slice_get s.system.programs place)
  spawn-made new child made free is =
      answered-at (given s new child)
      (λ g at. ap (λ (m : TracedSystem). given s m child) (made g at)
      ∙ ap (given s (with_spawned traced g held s.system)) is ∙ ap (spawn_unless s g held) (sym (free g at)))

  pub spawn-refused : (e : Errno)
      → ((g : Program) → slice_get s.system.programs place ≡ Some g → spawn_refusal s.system g ≡ Some e)
      → (let a : Answer = record { state = s; reply = Fail e } in a)
      ≡ spawn_found s held (slice_get s.system.programs place)
  spawn-refused e told = answered-at _ (λ g at. ap (spawn_unless s g held) (sym (told g at)))

  lacks-by : (g : Program) (b : Bool)
      → may_lack_for_process (spawn_unless s g held (cond b None (Some Nomem))).reply ≡ true
  lacks-by g true = refl
  lacks-by g false = refl

  lacks-for : s.system.made < process_limit → (g : Program)
      → may_lack_for_process (spawn_unless s g held (spawn_refusal s.system g)).reply ≡ true
  unfolding spawn_refusal
  lacks-for few g =
      rw (lt-leb process_limit s.system.made few) (lacks-by g (total_has_room s.system (mapped_size (first_space g)) 0))

  -- memory may run out where fewer processes were made than can be
  pub spawn-lacks : s.system.made < process_limit
      → may_lack_for_process (spawn_found s held (slice_get s.system.programs place)).reply ≡ true
  spawn-lacks few =
      elim (slice_get_cases s.system.programs place).1 [
        | inl here ↦ ap (λ o. may_lack_for_process (spawn_found s held o).reply) here.2 ∙ lacks-for few here.0
        | inr past ↦ absurd (omega (arith, past.0, within))
      ]

-- ---- by a name

pub spawn-none : (s : TracedState) (held : Bool) (name : List ℕ) → None ≡ program_named s.system.programs name
    → (let a : Answer = record { state = s; reply = Fail Noent } in a) ≡ spawn_answer s name held
unfolding spawn_answer
spawn-none s held name none = ap (spawn_found s held) none

pub spawn-named : (s : TracedState) (held : Bool) (name : List ℕ) (place : ℕ) (a : Answer)
    → slice_get s.system.programs place ≡ program_named s.system.programs name
    → a ≡ spawn_found s held (slice_get s.system.programs place) → a ≡ spawn_answer s name held
unfolding spawn_answer
spawn-named s held name place a named is = is ∙ ap (spawn_found s held) named

pub ruleset spawning = (next-free, spawn-lacks)

pub named-lacks : (s : TracedState) (held : Bool) (name : List ℕ) (place : ℕ)
    → slice_get s.system.programs place ≡ program_named s.system.programs name
    → may_lack_for_process (spawn_found s held (slice_get s.system.programs place)).reply ≡ true
    → may_lack_for_process (spawn_answer s name held).reply ≡ true
unfolding spawn_answer
named-lacks s held name place named lacks =
    ap (λ o. may_lack_for_process (spawn_found s held o).reply) (sym named) ∙ lacks
