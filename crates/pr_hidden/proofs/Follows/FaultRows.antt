use Rattle.std.proofs.Common.{◌≡◌, ◌≢◌, ◌⊎◌, ℕ, Bool, true, false, Option, Some, None, List, cond, refl, sym, ◌∙◌, ap, inl, inr}
use Rattle.std.proofs.lemmas.Bool.{cases_Bool}
use Rattle.pr_num.specs.declared.faults.Flt.{Flt}
use Rattle.pr_num.specs.declared.faults.Flt.TheVariants.{Bpt, Trace, Watch}
use Rattle.pr_num.specs.declared.signals.Sig.{Sig}
use Rattle.pr_num.specs.declared.syscalls.Sysno.{Sysno}
use Rattle.pr_keeps.specs.RowKinds as kind
use Rattle.pr_keeps.specs.RowKinds.{RowKind}
use Rattle.pr_keeps.proofs.RowLemmas.{row-kind}
use Rattle.pr_model.specs.CallEffects.{call_effect}
use Rattle.pr_model.specs.Changes.{Effect}
use Rattle.pr_model.specs.Changes as change
use Rattle.pr_model.specs.InstructionEffects.{InstructionEffect, Store, instruction_effect}
use Rattle.pr_model.specs.InstructionEffects as instruction
use Rattle.pr_model.specs.Rows.{Row, current_row_or, entered_row, executed_row, handler_row, incurred_row, interrupted_row, own_taken_row, performed_row, posted_row, posted_row_or, ran_row, requested_row, returned_row, row_for, row_in, shared_taken_row, signal_row_or, taken_or, watched_row}
use Rattle.pr_model.specs.Signals.{own_takeable, shared_takeable}
use Rattle.pr_model.specs.State.{TracedLwp, TracedProcess, TracedSystem}
use Rattle.pr_model.specs.declared.events.Did.{Did}
use Rattle.pr_model.specs.declared.events.Did.TheVariants.{Stopped, Ran, Entered, Made, Slept, Woke, Returned, Faulted, Posted, Took, Acted}
use Rattle.pr_model.specs.declared.events.Res.{Res}
use Rattle.pr_model.specs.declared.lwps.Phase.{Phase}
use Rattle.pr_model.specs.declared.lwps.Phase.TheVariants.{Exiting, User}
use Rattle.pr_erasure.specs.PlainEffects.{IsPlain}
use Rattle.pr_hidden.specs.Following.{RunsInstruction}
use Rattle.pr_hidden.specs.Hiding.{GoesBack}

-- How a turn comes to a fault: by the instruction that it runs, or by a step mark on the way out of a call.

is_fault : Did → Bool
is_fault Stopped = false
is_fault Ran = false
is_fault (Entered c) = false
is_fault (Made c r) = false
is_fault (Slept c) = false
is_fault (Woke c r) = false
is_fault (Returned c) = false
is_fault (Faulted f) = true
is_fault (Posted f) = false
is_fault (Took g) = false
is_fault (Acted g how) = false

pub no-way : {X : Type 0} → false ≡ true → X
no-way e = absurd (clash e)
  where
    clash : false ≡ true → ⊥
    clash e = cc

pub apart-bools : {X : Type 0} (b : Bool) → b ≡ true → b ≡ false → X
apart-bools b is other = no-way (sym other ∙ is)

module _ (s : TracedSystem) (pid : ℕ) (p : TracedProcess) (id : ℕ) (l : TracedLwp) where
  data Faulting : Type 0 where
    in_program : l.phase ≡ User → l.current ≡ None → Faulting
    on_its_way : (call : Sysno) (args : List ℕ) (result : Res) → l.phase ≡ Exiting call args result → l.current ≡ None
        → Faulting

  interrupted-no : (woken : Bool) (call : Sysno) (args : List ℕ)
      → is_fault (interrupted_row woken call args).did ≡ false
  unfolding is_fault interrupted_row
  interrupted-no false call args = refl
  interrupted-no true call args = refl

  performed-no : (woken : Bool) (call : Sysno) (args : List ℕ) (since : ℕ) (effect : Effect)
      → is_fault (performed_row woken call args since effect).did ≡ false
  unfolding is_fault performed_row
  performed-no false call args since (change.does result changes) = refl
  performed-no true call args since (change.does result changes) = refl
  performed-no woken call args since change.sleeps = refl
  performed-no false call args since (change.ends how) = refl
  performed-no true call args since (change.ends how) = refl

  kind-faulting : (row : Row) → RowKind s pid p id l row → is_fault row.did ≡ true → Faulting
  unfolding is_fault requested_row posted_row handler_row own_taken_row shared_taken_row
  kind-faulting row (kind.returns {call = call} {args = args} {result = result} at none) is =
      on_its_way call args result at none
  kind-faulting row (kind.executes at none) is = in_program at none
  kind-faulting row (kind.interrupts {woken = woken} {call = call} {args = args} it why) is =
      no-way (sym (interrupted-no woken call args) ∙ is)
  kind-faulting row (kind.performs {woken = woken} {call = call} {args = args} {since = since} it goes none) is =
      no-way (sym (performed-no woken call args since (call_effect s pid p id l since call args)) ∙ is)
  kind-faulting row _ is = no-way is

  -- a signal that is taken comes first
  none-taken : (a b : Option Sig) (row : Row) → is_fault (taken_or s pid p id l a b row).did ≡ true
      → (a ≡ None) × (b ≡ None)
  unfolding is_fault own_taken_row shared_taken_row
  none-taken (Some g) b row is = no-way is
  none-taken None (Some g) row is = no-way is
  none-taken None None row is = (refl, refl)

  rest : Phase → Row
  rest phase =
      posted_row_or s pid p id l phase
      (current_row_or s pid p id l l.current (signal_row_or s pid p id l phase (row_in s pid p id l phase)))

  not-directed : is_fault (row_for s pid p id l).did ≡ true → l.control.directed ≡ false
  unfolding is_fault row_for requested_row rest
  not-directed is =
      elim (cases_Bool l.control.directed) [
        | inl directed ↦ no-way (sym (ap (λ b. is_fault (cond b requested_row (rest l.phase)).did) directed) ∙ is)
        | inr goes ↦ goes
      ]

  -- how a turn comes to a fault
  pub data HowFaulted : Type 0 where
    by_instruction : RunsInstruction p l
        → row_for s pid p id l ≡ executed_row p l (instruction_effect p.space p.control.areas l.regs) → HowFaulted
    by_return : (call : Sysno) → GoesBack p l call → row_for s pid p id l ≡ returned_row p l call → HowFaulted

  faulting-how : is_fault (row_for s pid p id l).did ≡ true → Faulting → HowFaulted
  unfolding row_for rest signal_row_or row_in
  faulting-how is (in_program at none) =
      let goes = not-directed is in
      let row = executed_row p l (instruction_effect p.space p.control.areas l.regs) in
      let first : row_for s pid p id l ≡ taken_or s pid p id l (own_takeable l) (shared_takeable p l) row =
      ap (λ b. cond b requested_row (rest l.phase)) goes ∙ ap rest at
      ∙ ap (λ o. current_row_or s pid p id l o
      (taken_or s pid p id l (own_takeable l) (shared_takeable p l) row)) none in
      let free =
      none-taken (own_takeable l) (shared_takeable p l) row (ap (λ (r : Row). is_fault r.did) (sym first) ∙ is) in
      by_instruction (record {
        not_directed = goes;
        in_program = at;
        no_current = none;
        none_own = free.0;
        none_shared = free.1;
      })
      (first ∙ ap (λ o. taken_or s pid p id l o (shared_takeable p l) row) free.0
      ∙ ap (λ o. taken_or s pid p id l None o row) free.1)
  faulting-how is (on_its_way call args result at none) =
      let goes = not-directed is in
      let row = returned_row p l call in
      let first : row_for s pid p id l ≡ taken_or s pid p id l (own_takeable l) (shared_takeable p l) row =
      ap (λ b. cond b requested_row (rest l.phase)) goes ∙ ap rest at
      ∙ ap (λ o. current_row_or s pid p id l o
      (taken_or s pid p id l (own_takeable l) (shared_takeable p l) row)) none in
      let free =
      none-taken (own_takeable l) (shared_takeable p l) row (ap (λ (r : Row). is_fault r.did) (sym first) ∙ is) in
      by_return call (record {
        not_directed = goes;
        args = args;
        result = result;
        on_its_way = at;
        no_current = none;
        none_own = free.0;
        none_shared = free.1;
      })
      (first ∙ ap (λ o. taken_or s pid p id l o (shared_takeable p l) row) free.0
      ∙ ap (λ o. taken_or s pid p id l None o row) free.1)

  pub how-faulted : (f : Flt) → (row_for s pid p id l).did ≡ Faulted f → HowFaulted
  unfolding is_fault
  how-faulted f did =
      let is : is_fault (row_for s pid p id l).did ≡ true = ap is_fault did in
      faulting-how is (kind-faulting (row_for s pid p id l) (row-kind s pid p id l) is)

-- ---- which fault it is

either-did : (P : Did → Type 0) (b : Bool) (x y : Row) → (b ≡ true → P x.did) → (b ≡ false → P y.did)
    → P (cond b x y).did
either-did P true x y one other = one refl
either-did P false x y one other = other refl

module _ (p : TracedProcess) (l : TracedLwp) where
  pub bpt-effect : (e : InstructionEffect) → (executed_row p l e).did ≡ Faulted Bpt
      → (address : ℕ) × (e ≡ instruction.faults Bpt address)
  unfolding executed_row ran_row entered_row incurred_row watched_row
  bpt-effect (instruction.runs regs store) did =
      absurd (either-did (λ d. d ≡ Faulted Bpt → ⊥) l.control.step _ _ (λ b e. cc) (λ b e. cc) did)
  bpt-effect (instruction.calls call regs) did = absurd (clash did)
    where
      clash : Entered call ≡ Faulted Bpt → ⊥
      clash e = cc
  bpt-effect (instruction.faults f address) did = (address, ap (λ g. instruction.faults g address) (same did))
    where
      same : Faulted f ≡ Faulted Bpt → f ≡ Bpt
      same e = cc
  bpt-effect (instruction.runs_into_watch address regs store) did = absurd (clash did)
    where
      clash : Faulted Watch ≡ Faulted Bpt → ⊥
      clash e = cc

  pub record Steps (e : InstructionEffect) : Type 0 where
    pub regs : List ℕ
    pub store : Option Store
    pub effect : e ≡ instruction.runs regs store
    pub marked : l.control.step ≡ true

  pub trace-effect : (e : InstructionEffect) → IsPlain e → (executed_row p l e).did ≡ Faulted Trace → Steps e
  unfolding executed_row ran_row entered_row incurred_row watched_row
  trace-effect (instruction.runs regs store) plain did = record {
    regs = regs;
    store = store;
    effect = refl;
    marked =
        either-did (λ d. d ≡ Faulted Trace → l.control.step ≡ true) l.control.step _ _
        (λ b e. b) (λ b e. absurd (clash e)) did;
  }
    where
      clash : Ran ≡ Faulted Trace → ⊥
      clash e = cc
  trace-effect (instruction.calls call regs) plain did = absurd (clash did)
    where
      clash : Entered call ≡ Faulted Trace → ⊥
      clash e = cc
  trace-effect (instruction.faults f address) plain did = absurd (plain (same did))
    where
      same : Faulted f ≡ Faulted Trace → f ≡ Trace
      same e = cc
  trace-effect (instruction.runs_into_watch address regs store) plain did = absurd plain

  pub return-marked : (call : Sysno) → (returned_row p l call).did ≡ Faulted Trace → l.control.step ≡ true
  unfolding returned_row
  return-marked call did =
      either-did (λ d. d ≡ Faulted Trace → l.control.step ≡ true) l.control.step _ _
      (λ b e. b) (λ b e. absurd (clash e)) did
    where
      clash : Returned call ≡ Faulted Trace → ⊥
      clash e = cc

  pub return-no-breakpoint : (call : Sysno) → (returned_row p l call).did ≡ Faulted Bpt → ⊥
  unfolding returned_row
  return-no-breakpoint call did =
      either-did (λ d. d ≡ Faulted Bpt → ⊥) l.control.step _ _ (λ b e. cc) (λ b e. cc) did
