use Rattle.std.proofs.Common.{◌≡◌, ◌⊎◌, ℕ, Some, Bool, true, false, List, cond, refl, sym, ◌∙◌, ap, inl, inr}
use Rattle.std.proofs.lemmas.Bool.{false≢true}
use Rattle.pr_num.specs.declared.syscalls.Sysno.{Sysno}
use Rattle.pr_keeps.specs.RowKinds as kind
use Rattle.pr_keeps.specs.RowKinds.{RowKind}
use Rattle.pr_keeps.proofs.RowLemmas.{row-kind}
use Rattle.pr_model.specs.CallEffects.{call_effect}
use Rattle.pr_model.specs.Changes.{Effect}
use Rattle.pr_model.specs.Changes as change
use Rattle.pr_model.specs.Erasure.{uncontrolled_system, erased_process, erased_system}
use Rattle.pr_model.specs.Handles.{released}
use Rattle.pr_model.specs.InstructionEffects.{InstructionEffect, Store, instruction_effect}
use Rattle.pr_model.specs.InstructionEffects as instruction
use Rattle.pr_model.specs.LwpTurns.{LwpTurn, turn_of, settled}
use Rattle.pr_model.specs.Rows.{Row, requested_row, posted_row, interrupted_row, performed_row, own_taken_row, shared_taken_row, handler_row, returned_row, ran_row, entered_row, incurred_row, watched_row, executed_row, row_for}
use Rattle.pr_model.specs.Running.{with_run}
use Rattle.pr_model.specs.State.{TracedLwp, TracedProcess, TracedSystem, with_lwp}
use Rattle.pr_model.specs.Stops.{directed, with_all_directed}
use Rattle.pr_model.specs.declared.events.Did.{Did}
use Rattle.pr_model.specs.declared.events.Did.TheVariants.{Stopped, Ran, Entered, Made, Slept, Woke, Returned, Faulted, Posted, Took, Acted}
use Rattle.pr_erasure.proofs.SeenParts.BareLemmas.{same-process, same-system}
use Rattle.pr_erasure.proofs.SeenHistories.CallLemmas.{with_run-hidden, released-hidden}
use Rattle.pr_erasure.proofs.SeenTurns.PointLemmas.{directed-hidden, with_all_directed-hidden}
use Rattle.pr_erasure.proofs.SeenParts.StateLemmas.{with_lwp-hidden}
use Rattle.pr_erasure.proofs.SeenTurns.TransitionLemmas.{requested-bare}
use Rattle.pr_model.proofs.TurnLemmas.{turn-taken}

-- What controllers do to stop lwps and to run them, and stops that were asked for, as programs see them: nothing.

pub lwp-directed : (id : ℕ) (p : TracedProcess) → erased_process (with_lwp id directed p) ≡ erased_process p
lwp-directed id p = same-process (with_lwp id directed p) p (with_lwp-hidden p id directed directed-hidden)

pub all-directed : (p : TracedProcess) → erased_process (with_all_directed p) ≡ erased_process p
all-directed p = same-process (with_all_directed p) p (with_all_directed-hidden p)

pub all-run : (p : TracedProcess) → erased_process (with_run 0 p) ≡ erased_process p
all-run p = same-process (with_run 0 p) p (with_run-hidden p)

pub all-released : (p : TracedProcess) → erased_process (released p) ≡ erased_process p
all-released p = same-process (released p) p (released-hidden p)

pub ruleset hidden = (lwp-directed, all-directed, all-run, all-released)

-- ---- only the first row is a requested stop

is_stop : Did → Bool
is_stop Stopped = true
is_stop Ran = false
is_stop (Entered c) = false
is_stop (Made c r) = false
is_stop (Slept c) = false
is_stop (Woke c r) = false
is_stop (Returned c) = false
is_stop (Faulted f) = false
is_stop (Posted f) = false
is_stop (Took g) = false
is_stop (Acted g how) = false

module _ (s : TracedSystem) (pid : ℕ) (p : TracedProcess) (id : ℕ) (l : TracedLwp) where
  GoesOn : Row → Type 0
  GoesOn row = is_stop row.did ≡ false

  either : (b : Bool) (x y : Row) → GoesOn x → GoesOn y → GoesOn (cond b x y)
  either true x y one other = one
  either false x y one other = other

  executed-goes : (e : InstructionEffect) → GoesOn (executed_row p l e)
  unfolding GoesOn is_stop executed_row ran_row entered_row incurred_row watched_row
  executed-goes (instruction.runs regs store) = either l.control.step _ _ refl refl
  executed-goes (instruction.calls call regs) = refl
  executed-goes (instruction.faults f address) = refl
  executed-goes (instruction.runs_into_watch address regs store) = refl

  interrupted-goes : (woken : Bool) (call : Sysno) (args : List ℕ) → GoesOn (interrupted_row woken call args)
  unfolding GoesOn is_stop interrupted_row
  interrupted-goes false call args = refl
  interrupted-goes true call args = refl

  performed-goes : (woken : Bool) (call : Sysno) (args : List ℕ) (since : ℕ) (effect : Effect)
      → GoesOn (performed_row woken call args since effect)
  unfolding GoesOn is_stop performed_row
  performed-goes false call args since (change.does result changes) = refl
  performed-goes true call args since (change.does result changes) = refl
  performed-goes woken call args since change.sleeps = refl
  performed-goes false call args since (change.ends how) = refl
  performed-goes true call args since (change.ends how) = refl

  -- it stops as directed, or goes on
  kind-goes : (row : Row) → RowKind s pid p id l row → (row ≡ requested_row) ⊎ GoesOn row
  unfolding GoesOn is_stop posted_row handler_row own_taken_row shared_taken_row returned_row
  kind-goes row (kind.stops now) = inl refl
  kind-goes row (kind.interrupts {woken = woken} {call = call} {args = args} it why) =
      inr (interrupted-goes woken call args)
  kind-goes row (kind.performs {woken = woken} {call = call} {args = args} {since = since} it goes none) =
      inr (performed-goes woken call args since (call_effect s pid p id l since call args))
  kind-goes row (kind.returns at none) = inr (either l.control.step _ _ refl refl)
  kind-goes row (kind.executes at none) = inr (executed-goes (instruction_effect p.space p.control.areas l.regs))
  kind-goes row _ = inr refl

  only_requested : (row_for s pid p id l).did ≡ Stopped → row_for s pid p id l ≡ requested_row
  unfolding GoesOn is_stop
  only_requested did = elim (kind-goes (row_for s pid p id l) (row-kind s pid p id l)) [
    | inl is ↦ is
    | inr goes ↦ absurd (false≢true (sym goes ∙ ap is_stop did))
  ]

-- and that row changes what controllers set alone
stop-bare : (s : TracedSystem) (pid id : ℕ) (t : LwpTurn) → turn_of s pid id ≡ Some t → t.turned.did ≡ Stopped
    → uncontrolled_system t.system ≡ uncontrolled_system s
unfolding settled
stop-bare s pid id t turn did =
    let taken = turn-taken s pid id t turn in
    let p = taken.process in
    let l = taken.lwp in
    let was : (row_for s pid p id l).did ≡ Stopped = sym (ap (λ (x : LwpTurn). x.turned.did) taken.is) ∙ did in
    ap (λ (x : LwpTurn). uncontrolled_system x.system) (taken.is
    ∙ ap (settled s pid p id l) (only_requested s pid p id l was))
    ∙ requested-bare s pid p id l

pub stop-hidden : (s : TracedSystem) (pid id : ℕ) (t : LwpTurn) → turn_of s pid id ≡ Some t → t.turned.did ≡ Stopped
    → erased_system t.system ≡ erased_system s
stop-hidden s pid id t turn did = same-system t.system s (stop-bare s pid id t turn did)

pub ruleset stops = (stop-hidden)
