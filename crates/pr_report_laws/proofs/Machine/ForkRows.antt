use Rattle.std.proofs.Common.{◌≡◌, ◌==◌, ◌||◌, ℕ, Bool, true, false, not, cond, None, Some, Option, List, [], ◌∷◌, Ok, refl, sym, ap, ◌∙◌}
use Rattle.std.proofs.lemmas.Option.{none-some, same_Some}
use Rattle.std.specs.Option.{option_and_then}
use Rattle.pr_line.specs.declared.events.Event.TheVariants.{Left}
use Rattle.pr_num.specs.Agents.{agent_id}
use Rattle.pr_num.specs.Limits.{process_limit}
use Rattle.pr_num.specs.Syscalls.{is_fork_call}
use Rattle.pr_num.specs.declared.errnos.Errno.{Errno}
use Rattle.pr_num.specs.declared.errnos.Errno.TheVariants.{Again, Intr, Nomem, Notsup}
use Rattle.pr_num.specs.declared.faults.Flt.{Flt}
use Rattle.pr_num.specs.declared.signals.Sig.{Sig}
use Rattle.pr_num.specs.declared.syscalls.Sysno.{Sysno}
use Rattle.pr_num.specs.declared.syscalls.Sysno.TheVariants as call
use Rattle.pr_parts.specs.declared.actions.Action.{Action}
use Rattle.pr_parts.specs.declared.actions.Action.TheVariants as act
use Rattle.pr_model.specs.CallEffects.{call_effect}
use Rattle.pr_model.specs.Changes.{Effect, does, ends, forks, gives, fails, sleeps}
use Rattle.pr_model.specs.Events.{event_of}
use Rattle.pr_model.specs.InstructionEffects.{InstructionEffect, instruction_effect, runs}
use Rattle.pr_model.specs.Lives.{Birth, by_fork, call_of, by_vfork}
use Rattle.pr_model.specs.ProcessCalls.{fork_effect, vfork_effect}
use Rattle.pr_model.specs.Readers.{size_of, total_has_room}
use Rattle.pr_model.specs.Registers.{arguments}
use Rattle.pr_model.specs.Rows.{Row, acted_row, call_row, caught_row, current_row_or, entered_row, executed_row, finished, handler_row, incurred_row, interrupted_row, own_taken_row, performed_row, posted_row, posted_row_or, ran_row, requested_row, returned_row, row_for, row_in, shared_taken_row, signal_row_or, taken_or, watched_row}
use Rattle.pr_model.specs.Signals.{action_for, own_takeable, shared_takeable}
use Rattle.pr_model.specs.State.{TracedLwp, TracedProcess, TracedSystem}
use Rattle.pr_model.specs.Transitions.{performed}
use Rattle.pr_model.specs.declared.events.Did.{Did}
use Rattle.pr_model.specs.declared.events.Did.TheVariants as did
use Rattle.pr_model.specs.declared.events.Res.{Res}
use Rattle.pr_model.specs.declared.events.Res.TheVariants.{Value, Error, Ended}
use Rattle.pr_model.specs.declared.lwps.Current.{Current}
use Rattle.pr_model.specs.declared.lwps.Phase.{Phase}
use Rattle.pr_model.specs.declared.lwps.Phase.TheVariants as phase
use Rattle.pr_truss_laws.specs.Told.{told}
use Rattle.std.specs.Prelude.{length, nat_le}
use Rattle.pr_report_laws.specs.Births.{child_made}

-- The turn that makes a child.

-- ---- what a turn did, by the event that is told of it

fork-by : (c d : Sysno) (v w : ℕ) → is_fork_call c ≡ true → d ≡ c → w ≡ v
    → cond (is_fork_call d) (Some w) None ≡ Some v
fork-by c d v w fork same value = rw (same, fork) (ap (λ n. Some n) value)

made-left : (c maker : Sysno) (v w : ℕ) (args own : List ℕ) → is_fork_call maker ≡ true
    → Some (Left c own (Ok w)) ≡ Some (Left maker args (Ok v)) → cond (is_fork_call c) (Some w) None ≡ Some v
made-left c maker v w args own makes is =
    let same : c ≡ maker = cc in
    let value : w ≡ v = cc in
    fork-by maker c v w makes same value

-- The exit of a call that makes a child is told of the turn that made it.
pub told-made : (p : TracedProcess) (l : TracedLwp) (new : Option TracedLwp) (d : Did) (maker : Sysno) (args : List ℕ)
    (v : ℕ) → is_fork_call maker ≡ true → option_and_then told (event_of p l new d) ≡ Some (Left maker args (Ok v))
    → child_made d ≡ Some v
unfolding event_of told
told-made p l new (did.Made c (Value w)) maker args v makes is = made-left c maker v w args _ makes is
told-made p l new (did.Made c (Error e)) maker args v makes is = cc
told-made p l new (did.Made c Ended) maker args v makes is = cc
told-made p l new (did.Woke c (Value w)) maker args v makes is = made-left c maker v w args _ makes is
told-made p l new (did.Woke c (Error e)) maker args v makes is = cc
told-made p l new (did.Woke c Ended) maker args v makes is = cc
told-made p l new did.Stopped maker args v makes is = cc
told-made p l new did.Ran maker args v makes is = cc
told-made p l new (did.Entered c) maker args v makes is = cc
told-made p l new (did.Slept c) maker args v makes is = cc
told-made p l new _ maker args v makes is = cc

-- ---- the row of the turn

-- each way in which a child is made has its call
pub birth-makes : (birth : Birth) → is_fork_call (call_of birth) ≡ true
unfolding is_fork_call
birth-makes by_fork = refl
birth-makes by_vfork = refl

-- a row that makes a child, by a call with these arguments, and does no more
pub record MakesOne (row : Row) : Type 0 where
  pub birth : Birth
  pub args : List ℕ
  pub changes : row.transition.changes ≡ forks birth args ∷ []
  pub ending : row.transition.ending ≡ None

module _ (s : TracedSystem) (pid : ℕ) (p : TracedProcess) (id : ℕ) (l : TracedLwp) where
  -- where the turn made a child, that is the next process, and its row does that and no more
  pub record MakesChild (row : Row) : Type 0 where
    pub child : (c : ℕ) → child_made row.did ≡ Some c → (c ≡ s.made) × MakesOne row

  none-makes : (row : Row) → child_made row.did ≡ None → MakesChild row
  none-makes row none = record { child = λ c is. absurd (none-some c (sym none ∙ is)) }

  either-makes : (b : Bool) (x y : Row) → MakesChild x → MakesChild y → MakesChild (cond b x y)
  either-makes true x y one other = one
  either-makes false x y one other = other

  -- ---- calls

  failed-none : (woken : Bool) (c : Sysno) (e : Errno) → child_made (finished woken c (Error e)) ≡ None
  failed-none true c e = refl
  failed-none false c e = refl

  ended-none : (woken : Bool) (c : Sysno) → child_made (finished woken c Ended) ≡ None
  ended-none true c = refl
  ended-none false c = refl

  other-none : (woken : Bool) (c : Sysno) (r : Res) → is_fork_call c ≡ false → child_made (finished woken c r) ≡ None
  other-none true c (Value v) other = rw other refl
  other-none false c (Value v) other = rw other refl
  other-none woken c (Error e) other = failed-none woken c e
  other-none woken c Ended other = ended-none woken c

  interrupted-makes : (woken : Bool) (c : Sysno) (args : List ℕ) → MakesChild (interrupted_row woken c args)
  unfolding interrupted_row
  interrupted-makes woken c args = none-makes (interrupted_row woken c args) (failed-none woken c Intr)

  performed-none : (woken : Bool) (c : Sysno) (args : List ℕ) (since : ℕ) (effect : Effect) → is_fork_call c ≡ false
      → MakesChild (performed_row woken c args since effect)
  unfolding performed_row
  performed-none woken c args since (does r changes) other =
      none-makes (performed_row woken c args since (does r changes)) (other-none woken c r other)
  performed-none woken c args since sleeps other = none-makes (performed_row woken c args since sleeps) refl
  performed-none woken c args since (ends how) other =
      none-makes (performed_row woken c args since (ends how)) (ended-none woken c)

  -- the calls that make a child
  module _ (woken : Bool) (args : List ℕ) (since : ℕ) where
    abbrev EffectMakes : Sysno → Effect → Type 0
    EffectMakes c effect = MakesChild (performed_row woken c args since effect)

    fails-makes : (c : Sysno) (e : Errno) → EffectMakes c (fails e)
    unfolding performed_row
    fails-makes c e = none-makes (performed_row woken c args since (fails e)) (failed-none woken c e)

    gave : (w : Bool) (c : Sysno) (v : ℕ) → is_fork_call c ≡ true → child_made (finished w c (Value v)) ≡ Some v
    gave true c v makes = rw makes refl
    gave false c v makes = rw makes refl

    gives-makes : (birth : Birth) → EffectMakes (call_of birth) (gives s.made (forks birth args ∷ []))
    unfolding performed_row performed
    gives-makes birth = record {
      child = λ c is. (
        same_Some c s.made (sym is ∙ gave woken (call_of birth) s.made (birth-makes birth)),
        record { birth = birth; args = args; changes = refl; ending = refl },
      );
    }

    either-effect : (c : Sysno) (b : Bool) (x y : Effect) → EffectMakes c x → EffectMakes c y
        → EffectMakes c (cond b x y)
    either-effect c true x y one other = one
    either-effect c false x y one other = other

    fork-makes : EffectMakes call.Fork (fork_effect s p id args)
    unfolding fork_effect
    fork-makes =
        either-effect call.Fork (id == agent_id) _ _ (fails-makes call.Fork Notsup)
        (either-effect call.Fork (nat_le process_limit s.made) _ _ (fails-makes call.Fork Again)
        (either-effect call.Fork (total_has_room s (size_of p) 0) _ _ (gives-makes by_fork)
        (fails-makes call.Fork Nomem)))

    vfork-makes : EffectMakes call.Vfork (vfork_effect s p id args)
    unfolding vfork_effect
    vfork-makes =
        either-effect call.Vfork ((id == agent_id) || not (length p.lwps == 1)) _ _ (fails-makes call.Vfork Notsup)
        (either-effect call.Vfork (nat_le process_limit s.made) _ _ (fails-makes call.Vfork Again)
        (gives-makes by_vfork))

  performed-makes : (woken : Bool) (c : Sysno) (args : List ℕ) (since : ℕ)
      → MakesChild (performed_row woken c args since (call_effect s pid p id l since c args))
  unfolding call_effect is_fork_call
  performed-makes woken call.Fork args since = fork-makes woken args since
  performed-makes woken call.Vfork args since = vfork-makes woken args since
  performed-makes woken c args since = performed-none woken c args since (call_effect s pid p id l since c args) refl

  call-makes : (woken : Bool) (c : Sysno) (args : List ℕ) (since : ℕ)
      → MakesChild (call_row s pid p id l woken c args since)
  unfolding call_row
  call-makes woken c args since =
      either-makes l.control.abort _ _ (interrupted-makes woken c args) (performed-makes woken c args since)

  -- ---- other turns

  returned-makes : (c : Sysno) → MakesChild (returned_row p l c)
  unfolding returned_row
  returned-makes c = either-makes l.control.step _ _ (none-makes _ refl) (none-makes _ refl)

  executed-makes : (e : InstructionEffect) → MakesChild (executed_row p l e)
  unfolding executed_row ran_row entered_row incurred_row watched_row
  executed-makes (runs regs store) = either-makes l.control.step _ _ (none-makes _ refl) (none-makes _ refl)
  executed-makes _ = none-makes _ refl

  posted-makes : (f : Flt) (address : ℕ) → MakesChild (posted_row f address)
  unfolding posted_row
  posted-makes f address = none-makes _ refl

  handler-makes : (c : Current) (handler : ℕ) → MakesChild (handler_row l c handler)
  unfolding handler_row
  handler-makes c handler = none-makes _ refl

  caught-makes : (c : Current) (handler : ℕ) (ph : Phase) → MakesChild (caught_row l c handler ph)
  unfolding caught_row
  caught-makes c handler (phase.Entered made) = interrupted-makes false made (arguments l.regs)
  caught-makes c handler (phase.Asleep made args since) = interrupted-makes true made args
  caught-makes c handler _ = handler-makes c handler

  acted-makes : (c : Current) → MakesChild (acted_row p l c)
  unfolding acted_row
  acted-makes c = by (action_for p.dispositions c.signal) refl
    where
      by : (a : Action) → action_for p.dispositions c.signal ≡ a → MakesChild (acted_row p l c)
      by act.Ignore is = rw is (none-makes _ refl)
      by act.Stop is = rw is (none-makes _ refl)
      by act.Die is = rw is (none-makes _ refl)
      by (act.Catch handler) is = rw is (caught-makes c handler l.phase)

  -- ---- the table

  in-phase : (ph : Phase) → MakesChild (row_in s pid p id l ph)
  unfolding row_in
  in-phase phase.User = executed-makes (instruction_effect p.space p.control.areas l.regs)
  in-phase (phase.Entered c) = call-makes false c (arguments l.regs) s.clock
  in-phase (phase.Asleep c args since) = call-makes true c args since
  in-phase (phase.Exiting c args result) = returned-makes c
  in-phase (phase.Faulted f address) = posted-makes f address

  taken-makes : (own shared : Option Sig) (otherwise : Row) → MakesChild otherwise
      → MakesChild (taken_or s pid p id l own shared otherwise)
  unfolding own_taken_row shared_taken_row
  taken-makes (Some g) shared otherwise makes = none-makes _ refl
  taken-makes None (Some g) otherwise makes = none-makes _ refl
  taken-makes None None otherwise makes = makes

  signal-makes : (ph : Phase) (otherwise : Row) → MakesChild otherwise
      → MakesChild (signal_row_or s pid p id l ph otherwise)
  unfolding signal_row_or
  signal-makes phase.User otherwise makes = taken-makes (own_takeable l) (shared_takeable p l) otherwise makes
  signal-makes (phase.Entered c) otherwise makes = makes
  signal-makes (phase.Asleep c args since) otherwise makes =
      taken-makes (own_takeable l) (shared_takeable p l) otherwise makes
  signal-makes (phase.Exiting c args result) otherwise makes =
      taken-makes (own_takeable l) (shared_takeable p l) otherwise makes
  signal-makes (phase.Faulted f address) otherwise makes = makes

  current-makes : (c : Option Current) (otherwise : Row) → MakesChild otherwise
      → MakesChild (current_row_or s pid p id l c otherwise)
  current-makes (Some c) otherwise makes = acted-makes c
  current-makes None otherwise makes = makes

  first-makes : (ph : Phase) (otherwise : Row) → MakesChild otherwise
      → MakesChild (posted_row_or s pid p id l ph otherwise)
  first-makes (phase.Faulted f address) otherwise makes = posted-makes f address
  first-makes _ otherwise makes = makes

  requested-makes : MakesChild requested_row
  unfolding requested_row
  requested-makes = none-makes requested_row refl

  pub row-makes : MakesChild (row_for s pid p id l)
  unfolding row_for
  row-makes =
      either-makes l.control.directed requested_row _ requested-makes
      (first-makes l.phase _ (current-makes l.current _ (signal-makes l.phase _ (in-phase l.phase))))
