use Rattle.std.proofs.Common.{◌≡◌, ◌||◌, ◌==◌, ℕ, Bool, true, false, cond, not, length, nat_le, List, [], Option, Some, None, Result, Ok, Err, refl, sym, ap, ◌∙◌}
use Rattle.std.proofs.lemmas.Bool.{false≢true}
use Rattle.std.proofs.lemmas.Option.{none-some}
use Rattle.pr_keeps.proofs.KeepsLemmas.{choice}
use Rattle.pr_keeps.proofs.RowLemmas.{row-kind}
use Rattle.pr_keeps.specs.RowKinds as kind
use Rattle.pr_keeps.specs.RowKinds.{RowKind}
use Rattle.pr_model.specs.CallEffects.{call_effect}
use Rattle.pr_model.specs.Changes.{Effect, does, ends, sleeps}
use Rattle.pr_model.specs.InstructionEffects as instruction
use Rattle.pr_model.specs.InstructionEffects.{InstructionEffect, instruction_effect}
use Rattle.pr_model.specs.MemoryCalls.{path_at}
use Rattle.pr_model.specs.ProcessCalls.{exec_effect, fork_effect, given_up, program_named, vfork_effect}
use Rattle.pr_model.specs.Readers.{size_of, total_has_room}
use Rattle.pr_model.specs.Rows.{Row, executed_row, entered_row, finished, handler_row, incurred_row, interrupted_row, own_taken_row, performed_row, posted_row, ran_row, requested_row, returned_row, row_for, shared_taken_row, watched_row}
use Rattle.pr_model.specs.State.{TracedLwp, TracedProcess, TracedSystem}
use Rattle.pr_model.specs.Transitions.{interrupted, performed}
use Rattle.pr_model.specs.declared.events.Did.{Did}
use Rattle.pr_model.specs.declared.events.Did.TheVariants.{Made, Slept, Woke}
use Rattle.pr_model.specs.declared.events.Res.{Res}
use Rattle.pr_model.specs.declared.events.Res.TheVariants.{Ended, Error, Value}
use Rattle.pr_num.specs.Agents.{agent_id}
use Rattle.pr_num.specs.Limits.{process_limit}
use Rattle.pr_num.specs.Programs.{Program}
use Rattle.pr_num.specs.Spaces.{first_space, mapped_size}
use Rattle.pr_num.specs.Syscalls.{is_fork_call}
use Rattle.pr_num.specs.declared.errnos.Errno.{Errno}
use Rattle.pr_num.specs.declared.syscalls.Sysno.{Sysno}
use Rattle.pr_num.specs.declared.syscalls.Sysno.TheVariants as sys
use Rattle.pr_truss.specs.FunctionEvents.{copies_memory}
use Rattle.pr_function_hides.specs.Copying.{makes_copy}

-- A fork, a vfork and an exec that are refused change nothing.

-- the call that a turn made, finished, or fell asleep in
abbrev pub call_in : Did → Option Sysno
call_in (Made call result) = Some call
call_in (Woke call result) = Some call
call_in (Slept call) = Some call
call_in did = None

-- an effect gives a value, or changes nothing
abbrev GivesOrLeaves : Effect → Type 0
GivesOrLeaves (does (Value value) changes) = Unit {0}
GivesOrLeaves (does result changes) = changes ≡ []
GivesOrLeaves sleeps = Unit {0}
GivesOrLeaves (ends how) = Unit {0}

one-of : (b : Bool) (x y : Effect) → GivesOrLeaves x → GivesOrLeaves y → GivesOrLeaves (cond b x y)
one-of true x y one two = one
one-of false x y one two = two

module _ (s : TracedSystem) (pid : ℕ) (p : TracedProcess) (id : ℕ) (l : TracedLwp) where
  fork-leaves : (args : List ℕ) → GivesOrLeaves (fork_effect s p id args)
  unfolding fork_effect
  fork-leaves args =
      one-of (id == agent_id) _ _ refl
      (one-of (nat_le process_limit s.made) _ _ refl (one-of (total_has_room s (size_of p) 0) _ _ tt refl))

  vfork-leaves : (args : List ℕ) → GivesOrLeaves (vfork_effect s p id args)
  unfolding vfork_effect
  vfork-leaves args =
      one-of ((id == agent_id) || not (length p.lwps == 1)) _ _ refl
      (one-of (nat_le process_limit s.made) _ _ refl tt)

  exec-leaves : (at : ℕ) → GivesOrLeaves (exec_effect s p id at)
  unfolding exec_effect
  exec-leaves at = by (path_at p.space at) refl
    where
      run : (name : List ℕ) (o : Option Program) → path_at p.space at ≡ Ok name → program_named s.programs name ≡ o
          → GivesOrLeaves (exec_effect s p id at)
      run name None is found = rw (is, found) (one-of (id == agent_id) _ _ refl refl)
      run name (Some program) is found =
          rw (is, found) (one-of (id == agent_id) _ _ refl
          (one-of (total_has_room s (mapped_size (first_space program)) (given_up s p id)) _ _ tt refl))

      by : (r : Result (List ℕ) Errno) → path_at p.space at ≡ r → GivesOrLeaves (exec_effect s p id at)
      by (Err e) is = rw is (one-of (id == agent_id) _ _ refl refl)
      by (Ok name) is = run name (program_named s.programs name) is refl

  copying-leaves : (since : ℕ) (c : Sysno) (args : List ℕ) → copies_memory c ≡ true
      → GivesOrLeaves (call_effect s pid p id l since c args)
  unfolding call_effect copies_memory is_fork_call
  copying-leaves since sys.Fork args copying = fork-leaves args
  copying-leaves since sys.Vfork args copying = vfork-leaves args
  copying-leaves since sys.Exec args copying = exec-leaves _
  copying-leaves since _ args copying = absurd (false≢true copying)

  -- ---- the rows

  -- a row is of no call; or of one that copies no memory; or its call was granted; or it changes nothing
  abbrev Leaves : Sysno → Row → Type 0
  Leaves c row = call_in row.did ≡ Some c → makes_copy row.did ≡ false → row.transition.changes ≡ []

  performed-leaves : (woken : Bool) (called c : Sysno) (args : List ℕ) (since : ℕ) (effect : Effect)
      → copies_memory c ≡ true → (copies_memory called ≡ true → GivesOrLeaves effect)
      → Leaves c (performed_row woken called args since effect)
  unfolding performed_row performed
  performed-leaves woken called c args since sleeps copying leaves is refused = refl
  performed-leaves woken called c args since (ends how) copying leaves is refused = refl
  performed-leaves woken called c args since (does result changes) copying leaves is refused =
      by result (leaves (ap copies_memory (own woken result is) ∙ copying)) (no_copy woken result refused)
    where
      own : (b : Bool) (r : Res) → call_in (finished b called r) ≡ Some c → called ≡ c
      own true r same = cc
      own false r same = cc

      no_copy : (b : Bool) (r : Res) → makes_copy (finished b called r) ≡ false → makes_copy (Made called r) ≡ false
      no_copy true (Value value) same = same
      no_copy true (Error e) same = refl
      no_copy true Ended same = refl
      no_copy false r same = same

      by : (r : Res) → GivesOrLeaves (does r changes) → makes_copy (Made called r) ≡ false → changes ≡ []
      by (Value value) gives same =
          absurd (false≢true (sym same ∙ ap copies_memory (own woken result is) ∙ copying))
      by (Error e) gives same = gives
      by Ended gives same = gives

  ran-leaves : (c : Sysno) (effect : InstructionEffect) → Leaves c (executed_row p l effect)
  unfolding ran_row entered_row incurred_row watched_row executed_row
  ran-leaves c (instruction.runs regs store) =
      choice (Leaves c) l.control.step _ _ (λ marked is refused. absurd (none-some c is))
      (λ free is refused. absurd (none-some c is))
  ran-leaves c (instruction.calls call regs) = λ is refused. absurd (none-some c is)
  ran-leaves c (instruction.faults f address) = λ is refused. absurd (none-some c is)
  ran-leaves c (instruction.runs_into_watch address regs store) = λ is refused. absurd (none-some c is)

  kind-leaves : (c : Sysno) → copies_memory c ≡ true → (row : Row) → RowKind s pid p id l row → Leaves c row
  unfolding requested_row posted_row handler_row own_taken_row shared_taken_row interrupted_row interrupted returned_row
  kind-leaves c copying row (kind.stops now) = λ is refused. absurd (none-some c is)
  kind-leaves c copying row (kind.posts at) = λ is refused. absurd (none-some c is)
  kind-leaves c copying row (kind.ignores now is) = λ is refused. absurd (none-some c is)
  kind-leaves c copying row (kind.stops_job now is) = λ is refused. absurd (none-some c is)
  kind-leaves c copying row (kind.dies now is) = λ is refused. absurd (none-some c is)
  kind-leaves c copying row (kind.catches now is) = λ is refused. absurd (none-some c is)
  kind-leaves c copying row (kind.takes_own none is) = λ is refused. absurd (none-some c is)
  kind-leaves c copying row (kind.takes_shared none own is) = λ is refused. absurd (none-some c is)
  kind-leaves c copying row (kind.interrupts it why) = λ is refused. refl
  kind-leaves c copying row (kind.performs {woken = woken} {call = call} {args = args} {since = since} it goes none) =
      performed-leaves woken call c args since _ copying (λ copies. copying-leaves since call args copies)
  kind-leaves c copying row (kind.returns at none) =
      choice (Leaves c) l.control.step _ _ (λ marked is refused. absurd (none-some c is))
      (λ free is refused. absurd (none-some c is))
  kind-leaves c copying row (kind.executes at none) =
      ran-leaves c (instruction_effect p.space p.control.areas l.regs)

  -- the turn of such a call changes nothing, unless it is granted
  pub refused-leaves : (c : Sysno) → copies_memory c ≡ true → call_in (row_for s pid p id l).did ≡ Some c
      → makes_copy (row_for s pid p id l).did ≡ false → (row_for s pid p id l).transition.changes ≡ []
  refused-leaves c copying is refused = kind-leaves c copying (row_for s pid p id l) (row-kind s pid p id l) is refused

-- ---- a call that copies memory

pub performed-call : (woken : Bool) (c : Sysno) (args : List ℕ) (since : ℕ) (effect : Effect)
    → (let r : Row = performed_row woken c args since effect in call_in r.did) ≡ Some c
unfolding performed_row
performed-call true c args since (does result changes) = refl
performed-call false c args since (does result changes) = refl
performed-call woken c args since sleeps = refl
performed-call true c args since (ends how) = refl
performed-call false c args since (ends how) = refl
