use Rattle.std.specs.Prelude.{◌==◌, ◌||◌, ℕ, Bool, true, false, List, [], ◌∷◌, length, is_some, nat_lt, nat_le, replicate, slice_set, if◌then◌else◌}
use Rattle.pr_num.specs.Agents.{agent_id}
use Rattle.pr_num.specs.declared.errnos.Errno.TheVariants.{Inval, Srch, Again, Notsup}
use Rattle.pr_num.specs.Limits.{last_lwp, lwp_limit}
use Rattle.pr_model.specs.Changes.{Effect, gives, fails, makes_lwp, suspends}
use Rattle.pr_model.specs.Registers.{with_pc, with_sp}
use Rattle.pr_model.specs.State.{ProcessOf, lwp_of}

-- The system calls on lwps, a definition a call. Each tries its refusals in their order.

-- the registers of an lwp that is made: its pc, its sp and its r1 are given, and the others are 0
abbrev pub made_registers : ℕ → ℕ → ℕ → List ℕ
made_registers pc sp r1 = with_pc pc (with_sp sp (slice_set (replicate 11 0) 1 r1))

module _ {C H K : Type 0} (p : ProcessOf C H K) where
  -- lwp_create(2): gives the new lwp's id. ENOTSUP: by the agent; EAGAIN: 64 lwps stand, or no id is left.
  unfoldable pub lwp_create_effect : ℕ → ℕ → ℕ → ℕ → ℕ → Effect
  lwp_create_effect id held pc sp r1 =
      if id == agent_id then fails Notsup
      else (if nat_le lwp_limit (length p.lwps) || nat_lt last_lwp p.next_lwp then fails Again
      else gives p.next_lwp (makes_lwp p.next_lwp (made_registers pc sp r1) held ∷ []))

  -- whether an lwp that another one names stands; the agent cannot be named
  abbrev pub can_be_named : ℕ → Bool
  can_be_named other = if other == agent_id then false else is_some (lwp_of p other)

  -- lwp_suspend(2). ESRCH: no such lwp, or the agent; EINVAL: itself.
  unfoldable pub lwp_suspend_effect : ℕ → ℕ → Effect
  lwp_suspend_effect id other =
      if can_be_named other then
      (if other == id then fails Inval else gives 0 (suspends other true ∷ [])) else fails Srch

  -- lwp_continue(2). ESRCH: no such lwp, or the agent.
  unfoldable pub lwp_continue_effect : ℕ → Effect
  lwp_continue_effect other = if can_be_named other then gives 0 (suspends other false ∷ []) else fails Srch
