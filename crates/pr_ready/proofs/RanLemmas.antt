use Rattle.std.proofs.Common.{◌≡◌, ◌||◌, ◌<◌, ℕ, Bool, true, false, eqb, cond, Option, Some, None, List, [], ◌∷◌, refl, sym, subst, ◌∙◌, ap}
use Rattle.std.specs.List.{list_any}
use Rattle.std.specs.Option.{option_map}
use Rattle.std.proofs.lemmas.Option.{same_Some}
use Rattle.pr_num.specs.ById.{change_under}
use Rattle.pr_num.specs.Limits.{process_limit}
use Rattle.pr_num.specs.declared.faults.Flt.TheVariants.{Trace}
use Rattle.pr_num.specs.declared.syscalls.Sysno.{Sysno}
use Rattle.pr_num.proofs.ByIdLaws.{under-change_under}
use Rattle.pr_keeps.specs.RowKinds as kind
use Rattle.pr_keeps.specs.RowKinds.{RowKind}
use Rattle.pr_keeps.proofs.RowLemmas.{row-kind}
use Rattle.pr_model.proofs.StateLemmas.{live_process-found}
use Rattle.pr_model.proofs.TurnLemmas.{turn-taken}
use Rattle.pr_model.specs.CallEffects.{call_effect}
use Rattle.pr_model.specs.Changes.{Effect, all_changed, changed, does, ends, sleeps, with_space}
use Rattle.pr_model.specs.InstructionEffects.{InstructionEffect, Store, calls, faults, instruction_effect, runs, runs_into_watch}
use Rattle.pr_model.specs.Lawful.{IsLawfulSystem}
use Rattle.pr_model.specs.LwpTurns.{LwpTurn, can_move, may_turn, settled, turn_of, with_counted}
use Rattle.pr_model.specs.Machines.{traced}
use Rattle.pr_model.specs.Moves as move
use Rattle.pr_model.specs.Moves.{moved}
use Rattle.pr_model.specs.Points.{after_meeting}
use Rattle.pr_model.specs.Rows.{Row, entered_row, executed_row, handler_row, incurred_row, instruction_row, interrupted_row, own_taken_row, performed_row, posted_row, ran_row, requested_row, returned_row, row_for, shared_taken_row, watched_row}
use Rattle.pr_model.specs.State.{TracedLwp, TracedProcess, TracedSystem, live_process, lwp_of, process_of, with_lwp, with_lwp_of, with_process}
use Rattle.pr_model.specs.Transitions.{after_transition, ran, stored_in}
use Rattle.pr_model.specs.declared.events.Did.TheVariants.{Faulted, Ran, Returned}
use Rattle.pr_model.specs.declared.lwps.Phase.{Phase}
use Rattle.pr_parts.specs.AddressSpaces.{with_bytes}
use Rattle.pr_ready.specs.Queues.{AreReady, is_movable}
use Rattle.pr_ready.specs.Ready.{Covers, ReadySets, is_asked, is_woken}
use Rattle.pr_ready_laws.specs.Left.{dozes, sleeps_at_pipe, wakes_between}
use Rattle.pr_ready.specs.Following.{around_lwp}
use Rattle.pr_ready_laws.specs.Reach.{reach_of}
use Rattle.pr_ready.proofs.AroundLemmas.{turn-ready}
use Rattle.pr_ready.proofs.LookLemmas.{follows-alone, grows-but, grows-same}
use Rattle.pr_ready.proofs.StepLemmas.{any-under}

-- A turn in which its lwp only ran leaves to each set what it has to have: it could move before, and no phase differs.

-- ---- the row

-- it leaves these registers, and stores bytes or none
abbrev ran_only : TracedProcess → List ℕ → Option Store → Row
ran_only p regs store = instruction_row Ran None (ran p.space regs store)

record JustRan (p : TracedProcess) (row : Row) : Type 0 where
  regs : List ℕ
  store : Option Store
  is : row ≡ ran_only p regs store

-- one of two rows
one-ran : (p : TracedProcess) (b : Bool) (x y : Row) → (x.did ≡ Ran → JustRan p x) → (y.did ≡ Ran → JustRan p y)
    → (cond b x y).did ≡ Ran → JustRan p (cond b x y)
one-ran p true x y one other is = one is
one-ran p false x y one other is = other is

module _ (s : TracedSystem) (pid : ℕ) (p : TracedProcess) (id : ℕ) (l : TracedLwp) where
  executed-ran : (e : InstructionEffect) → (executed_row p l e).did ≡ Ran → JustRan p (executed_row p l e)
  unfolding executed_row ran_row entered_row incurred_row watched_row
  executed-ran (runs regs store) is =
      one-ran p l.control.step _ _ (λ (trap : Faulted Trace ≡ Ran). absurd (cc))
      (λ (on : Ran ≡ Ran). record { regs = regs; store = store; is = refl }) is
  executed-ran (calls call regs) is = absurd (cc)
  executed-ran (faults f address) is = absurd (cc)
  executed-ran (runs_into_watch address regs store) is = absurd (cc)

  returned-ran : (call : Sysno) → (returned_row p l call).did ≡ Ran → JustRan p (returned_row p l call)
  unfolding returned_row
  returned-ran call is =
      one-ran p l.control.step _ _ (λ (trap : Faulted Trace ≡ Ran). absurd (cc))
      (λ (back : Returned call ≡ Ran). absurd (cc)) is

  performed-ran : (woken : Bool) (call : Sysno) (args : List ℕ) (since : ℕ) (e : Effect)
      → (performed_row woken call args since e).did ≡ Ran → JustRan p (performed_row woken call args since e)
  unfolding performed_row
  performed-ran true call args since (does result changes) is = absurd (cc)
  performed-ran false call args since (does result changes) is = absurd (cc)
  performed-ran woken call args since sleeps is = absurd (cc)
  performed-ran true call args since (ends how) is = absurd (cc)
  performed-ran false call args since (ends how) is = absurd (cc)

  kind-ran : (row : Row) → RowKind s pid p id l row → row.did ≡ Ran → JustRan p row
  unfolding requested_row posted_row handler_row own_taken_row shared_taken_row interrupted_row
  kind-ran row (kind.executes at none) is = executed-ran (instruction_effect p.space p.control.areas l.regs) is
  kind-ran row (kind.returns {call = call} at none) is = returned-ran call is
  kind-ran row (kind.performs {woken = woken} {call = call} {args = args} {since = since} it goes none) is =
      performed-ran woken call args since (call_effect s pid p id l since call args) is
  kind-ran row (kind.interrupts {woken = true} it why) is = absurd (cc)
  kind-ran row (kind.interrupts {woken = false} it why) is = absurd (cc)
  kind-ran row _ is = absurd (cc)

  -- ---- the process

  -- what stands under its id once it is changed
  stands : (f : TracedProcess → TracedProcess) (u : TracedSystem) (x : TracedProcess) → process_of u pid ≡ Some x
      → process_of (with_process pid f u) pid ≡ Some (f x)
  unfolding with_process
  stands f u x there = under-change_under pid f u.processes ∙ ap (option_map f) there

  -- a system in which it stands with other registers of an lwp, at the same moment
  record RunsOn (u : TracedSystem) : Type 0 where
    regs : List ℕ
    process : TracedProcess
    there : process_of u pid ≡ Some process
    lwps : process.lwps ≡ change_under id (moved traced (move.runs regs)) p.lwps
    clock : u.clock ≡ s.clock

  runs-on : (regs : List ℕ) (store : Option Store) → process_of s pid ≡ Some p
      → RunsOn (settled s pid p id l (ran_only p regs store)).system
  unfolding settled after_transition all_changed changed ran stored_in with_lwp_of with_process with_counted with_lwp
      with_space after_meeting
  runs-on regs store there = by store
    where
      moves : TracedProcess → TracedProcess
      moves = with_lwp id (moved traced (move.runs regs))

      counts : TracedProcess → TracedProcess
      counts = with_counted Ran true

      after : (u : TracedSystem) (x : TracedProcess) → process_of u pid ≡ Some x
          → process_of
          (with_process pid (after_meeting None id) (with_process pid counts (with_process pid moves u))) pid
          ≡ Some (after_meeting None id (counts (moves x)))
      after u x there =
          stands (after_meeting None id) (with_process pid counts (with_process pid moves u)) (counts (moves x))
          (stands counts (with_process pid moves u) (moves x) (stands moves u x there))

      by : (store : Option Store) → RunsOn (settled s pid p id l (ran_only p regs store)).system
      by None = record {
        regs = regs;
        process = after_meeting None id (counts (moves p));
        there = after s p there;
        lwps = refl;
        clock = refl;
      }
      by (Some kept) = record {
        regs = regs;
        process = after_meeting None id (counts (moves (with_space (with_bytes kept.at kept.bytes p.space) p)));
        there =
            after (with_process pid (with_space (with_bytes kept.at kept.bytes p.space)) s)
            (with_space (with_bytes kept.at kept.bytes p.space) p)
            (stands (with_space (with_bytes kept.at kept.bytes p.space)) s p there);
        lwps = refl;
        clock = refl;
      }

-- ---- the phases

-- no lwp has another phase
same-phases : (test : Phase → Bool) (id : ℕ) (regs : List ℕ) (es : List (ℕ × TracedLwp))
    → list_any (λ (e : ℕ × TracedLwp). test e.1.phase) (change_under id (moved traced (move.runs regs)) es)
    ≡ list_any (λ (e : ℕ × TracedLwp). test e.1.phase) es
unfolding moved
same-phases test id regs [] = refl
same-phases test id regs (e ∷ es) =
    elim (eqb e.0 id) as
    (λ b. list_any (λ (x : ℕ × TracedLwp). test x.1.phase)
    (cond b ((e.0, moved traced (move.runs regs) e.1) ∷ es) (e ∷ change_under id (moved traced (move.runs regs)) es))
    ≡ (test e.1.phase || list_any (λ (x : ℕ × TracedLwp). test x.1.phase) es)) [
      | true ↦ refl
      | false ↦ ap (λ b. test e.1.phase || b) (same-phases test id regs es)
    ]

-- ---- the sets

module _ (s : TracedSystem) (pid id : ℕ) (t : LwpTurn) (turn : turn_of s pid id ≡ Some t)
    (only : t.turned.did ≡ Ran) where
  -- the lwp could move
  moved-before : can_move s pid id ≡ true
  unfolding can_move may_turn
  moved-before =
      let it = turn-taken s pid id t turn in
      rw (it.live, it.there, it.free, it.goes) refl

  left : (p : TracedProcess) (l : TracedLwp) → live_process s pid ≡ Some p
      → t ≡ settled s pid p id l (row_for s pid p id l) → RunsOn s pid p id l t.system
  unfolding settled
  left p l live is =
      let row : (row_for s pid p id l).did ≡ Ran = sym (ap (λ (v : LwpTurn). v.turned.did) is) ∙ only in
      let just = kind-ran s pid p id l (row_for s pid p id l) (row-kind s pid p id l) row in
      let now : t ≡ settled s pid p id l (ran_only p just.regs just.store) =
      is ∙ ap (λ (r : Row). settled s pid p id l r) just.is in
      subst (λ (v : LwpTurn). RunsOn s pid p id l v.system) (sym now)
      (runs-on s pid p id l just.regs just.store (live_process-found s pid p live))

  pub ran-covers : (r : ReadySets) → AreReady s r → pid < process_limit → Covers (is_movable t.system) t.system r pid
  ran-covers r ready small =
      let it = turn-taken s pid id t turn in
      by it.process it.lwp it.live it.there (left it.process it.lwp it.live it.is)
    where
      was : Covers (is_movable s) s r pid
      was = ready.covers.each pid refl small

      by : (p : TracedProcess) (l : TracedLwp) → live_process s pid ≡ Some p → lwp_of p id ≡ Some l
          → RunsOn s pid p id l t.system → Covers (is_movable t.system) t.system r pid
      by p l live there on = record {
        moves = λ q lives said.
            was.moves p live (any-under (is_asked (is_movable s) pid) id l p.lwps there moved-before);
        waits = λ q lives said. was.waits p live (before sleeps_at_pipe q lives said);
        dozes = λ q lives said. was.dozes p live (before dozes q lives said);
        wakes = λ q moment lives said.
            was.wakes p moment live
            (subst (λ n. list_any (is_woken n moment) p.lwps ≡ true) on.clock
            (before (wakes_between t.system.clock moment) q lives said));
      }
        where
          before : (test : Phase → Bool) (q : TracedProcess) → live_process t.system pid ≡ Some q
              → list_any (λ (e : ℕ × TracedLwp). test e.1.phase) q.lwps ≡ true
              → list_any (λ (e : ℕ × TracedLwp). test e.1.phase) p.lwps ≡ true
          before test q lives said =
              let found : process_of t.system pid ≡ Some q = live_process-found t.system pid q lives in
              let same : on.process ≡ q = same_Some on.process q (sym on.there ∙ found) in
              sym (same-phases test id on.regs p.lwps)
              ∙ ap (list_any (λ (e : ℕ × TracedLwp). test e.1.phase)) (sym on.lwps)
              ∙ ap (λ (x : TracedProcess). list_any (λ (e : ℕ × TracedLwp). test e.1.phase) x.lwps) same ∙ said

-- so sets that had every process that they have to have still do
pub ran-ready : (s : TracedSystem) (pid id : ℕ) (t : LwpTurn) (r : ReadySets) → IsLawfulSystem s
    → turn_of s pid id ≡ Some t → t.turned.did ≡ Ran → AreReady s r → AreReady t.system r
unfolding reach_of
ran-ready s pid id t r h turn only ready =
    turn-ready s pid id t r r h turn
    (follows-alone (is_movable t.system) t.system pid r r (reach_of t.turned.did)
    (ran-covers s pid id t turn only r ready) (grows-but pid r r (grows-same r)) (ap reach_of only)
    (around_lwp s pid id)) ready
