use Rattle.std.proofs.Common.{◌≡◌, ◌≢◌, nat_lt, ℕ, Bool, true, false, cond, None, Some, Option, List, length, refl, sym, subst, ap, ◌∙◌, inl, inr}
use Rattle.std.proofs.lemmas.Bool.{false≢true, cases_eq}
use Rattle.std.proofs.lemmas.Option.{same_Some, none-some}
use Rattle.pr_num.proofs.ByIdLaws.{under-change_under, under-change_under_other, under-map_each}
use Rattle.pr_num.specs.ById.{change_under, under}
use Rattle.pr_num.specs.Control.{async_mode, has_flags}
use Rattle.pr_num.specs.Signals.{signal_number}
use Rattle.pr_num.specs.declared.errnos.Errno.TheVariants.{Intr}
use Rattle.pr_num.specs.declared.signals.Sig.TheVariants.{Segv}
use Rattle.pr_num.specs.declared.syscalls.Sysno.{Sysno}
use Rattle.pr_num.specs.Limits.{frame_limit}
use Rattle.pr_keeps.proofs.RowLemmas.{row-kind}
use Rattle.pr_keeps.specs.RowKinds as kind
use Rattle.pr_keeps.specs.RowKinds.{IsInCall, RowKind, at_it, asleep_in_it}
use Rattle.pr_lawful.proofs.LawfulTurns.EffectLemmas.{IsActing}
use Rattle.pr_lawful.proofs.LawfulTurns.EndLemmas.{found-live}
use Rattle.pr_lawful.proofs.ProcessParts.FileLemmas.{choice}
use Rattle.pr_lawful.proofs.LawfulTurns.SuitingLemmas.{SuitsTransition}
use Rattle.pr_lawful.proofs.LawfulTurns.TurnLemmas.{acting, row-suits}
use Rattle.pr_model.proofs.TurnLemmas.{turn-taken}
use Rattle.pr_model.specs.Changes.{Effect, all_changed, does, ends, ends_process, sleeps as effect_sleeps}
use Rattle.pr_model.specs.CallEffects.{call_effect}
use Rattle.pr_model.specs.InstructionEffects as instruction
use Rattle.pr_model.specs.InstructionEffects.{InstructionEffect, instruction_effect}
use Rattle.pr_model.specs.Lawful.{IsLawfulSystem}
use Rattle.pr_model.specs.LwpTurns.{LwpTurn, settled, turn_of, with_counted}
use Rattle.pr_model.specs.Machines.{call_over, fault_incurred, fault_posted, step_taken, stopped_as_directed, traced}
use Rattle.pr_model.specs.Moves.{Move, moved}
use Rattle.pr_model.specs.Moves as move
use Rattle.pr_model.specs.Points.{after_meeting, is_traced, stop_at, stopped_at, with_others_directed, with_stop_at}
use Rattle.pr_model.specs.Rows.{Row, entered_row, executed_row, finished, handler_row, incurred_row, interrupted_row, own_taken_row, performed_row, posted_row, ran_row, requested_row, returned_row, row_for, shared_taken_row, watched_row}
use Rattle.pr_model.specs.Signals.{handler_held, handler_registers, with_frame}
use Rattle.pr_model.specs.State.{TracedControl, TracedLwp, TracedProcess, TracedSystem, live_process, lwp_of, process_of, with_lwp, with_lwp_of, with_process}
use Rattle.pr_model.specs.Stops.{directed, with_all_directed}
use Rattle.pr_model.specs.Transitions.{Transition, after_transition, died, dropped, ended_if, ending, entered, handled, incurred, interrupted, job_stopped, moving, own_taken, performed, posted, ran, requested, returned, shared_taken, trapped}
use Rattle.pr_model.specs.declared.events.Res.{Res}
use Rattle.pr_model.specs.declared.events.Res.TheVariants.{Ended, Error, Value}
use Rattle.pr_model.specs.declared.lwps.Current.{Current}
use Rattle.pr_model.specs.declared.lwps.Phase.{Phase}
use Rattle.pr_model.specs.declared.lwps.Phase.TheVariants.{Entered}
use Rattle.pr_model.specs.declared.stops.Point.{Point}
use Rattle.pr_model.specs.declared.stops.Point.TheVariants.{Signal, Fault, Entry, Exit}
use Rattle.pr_model.specs.declared.stops.Stop.TheVariants as stop
use Rattle.pr_truss.specs.FunctionEvents.{copies_memory}
use Rattle.pr_truss_laws.proofs.EventStops.BridgeLemmas.{mapped-some}
use Rattle.pr_truss_laws.proofs.EventStops.OwnTurnLemmas.{meeting-same}
use Rattle.pr_truss_laws.specs.Stills.{HasSameSettings, IsUndisturbed}
use Rattle.pr_report_laws.proofs.Machine.TurnSettings.{turn-settings}
use Rattle.pr_function_laws.proofs.OpenedProcesses.ComingLwps.{Came, Come, acts, changes-go, counted-goes, kept, new}
use Rattle.pr_function_laws.proofs.OpenedProcesses.StopTurns.{directed-leaves, free-stopless}
use Rattle.pr_function_hides.specs.Copying.{HasNoCopyGoing, HaveNoCopyGoing, IsNot, StopsAtCopies, is_in_copy, leaves_copy, makes_copy}

-- Where the lwps of a process stop at the entry of each fork, vfork and exec, no turn makes one of a lwp that has not
-- been run from there.

-- ---- an lwp

-- with no stop, and at no such call
pub free-clear : (l : TracedLwp) → l.control.stop ≡ None → is_in_copy l.phase ≡ false → HasNoCopyGoing l
free-clear l free out = record {
  waits = λ is. absurd (false≢true (sym out ∙ is));
  left_none = ap leaves_copy free;
}

-- with the stop and the phase of another one
pub alike-clear : (l k : TracedLwp) → k.control.stop ≡ l.control.stop → k.phase ≡ l.phase → HasNoCopyGoing l
    → HasNoCopyGoing k
alike-clear l k stops phase h = record {
  waits = λ is.
      let w = h.waits (ap is_in_copy (sym phase) ∙ is) in
      record { call = w.call; copies = w.copies; phase = phase ∙ w.phase; stop = stops ∙ w.stop };
  left_none = ap leaves_copy stops ∙ h.left_none;
}

-- one that has a turn is at no such call
pub turn-out : (l : TracedLwp) → l.control.stop ≡ None → HasNoCopyGoing l → is_in_copy l.phase ≡ false
turn-out l free h = by (is_in_copy l.phase) refl
  where
    by : (b : Bool) → is_in_copy l.phase ≡ b → is_in_copy l.phase ≡ false
    by false is = is
    by true is = let w = h.waits is in absurd (none-some (stop.SysEntry w.call) (sym free ∙ w.stop))

-- others leave a process alone
pub alone-clear : (but : Option ℕ) (p q : TracedProcess) → IsUndisturbed p q → HaveNoCopyGoing but p
    → HaveNoCopyGoing but q
alone-clear but p q alone all = record {
  each = λ n k other there.
      let was = alone.each n k there in
      alike-clear was.0 k (ap (λ (x : TracedLwp). x.control.stop) was.1.1)
      (ap (λ (x : TracedLwp). x.phase) was.1.1) (all.each n was.0 other was.1.0);
}

-- ---- rows

-- a point that is at the exit of no such call
abbrev exits_copy : Option Point → Bool
exits_copy (Some (Exit call)) = copies_memory call
exits_copy point = false

-- this point is the entry of such a call, and an lwp in this phase is at that call
record MeetsEntry (point : Option Point) (phase : Phase) : Type 0 where
  call : Sysno
  copies : copies_memory call ≡ true
  at : point ≡ Some (Entry call)
  phase_is : phase ≡ Entered call

-- The row of an lwp that is at no such call makes none, and is at the exit of none. And after its move the lwp is at
-- one only where it met its entry.
record SparesCopies (row : Row) : Type 0 where
  did : makes_copy row.did ≡ false
  exits : exits_copy row.point ≡ false
  enters : (k : TracedLwp) → is_in_copy k.phase ≡ false
      → is_in_copy (moved traced row.transition.move k).phase ≡ true
      → MeetsEntry row.point (moved traced row.transition.move k).phase

-- after its move an lwp is at no such call where it was at none before
abbrev StaysOut : Move → Type 0
StaysOut m = (k : TracedLwp) → is_in_copy k.phase ≡ false → is_in_copy (moved traced m k).phase ≡ false

spares-out : (row : Row) → makes_copy row.did ≡ false → exits_copy row.point ≡ false → StaysOut row.transition.move
    → SparesCopies row
spares-out row did exits out = record {
  did = did;
  exits = exits;
  enters = λ k was is. absurd (false≢true (sym (out k was) ∙ is));
}

-- what was done with a call that is none such
finished-spares : (woken : Bool) (call : Sysno) (result : Res) → copies_memory call ≡ false
    → makes_copy (finished woken call result) ≡ false
finished-spares true call (Value value) none = none
finished-spares false call (Value value) none = none
finished-spares true call (Error e) none = refl
finished-spares false call (Error e) none = refl
finished-spares true call Ended none = refl
finished-spares false call Ended none = refl

spares-if : (b : Bool) (u v : Row) → SparesCopies u → SparesCopies v → SparesCopies (cond b u v)
spares-if true u v one other = one
spares-if false u v one other = other

module _ (s : TracedSystem) (pid : ℕ) (p : TracedProcess) (id : ℕ) (l : TracedLwp) (out : is_in_copy l.phase ≡ false)
  where
    no-copy : {woken : Bool} {call : Sysno} {args : List ℕ} {since : ℕ} → IsInCall s l woken call args since
        → copies_memory call ≡ false
    no-copy (at_it at) = ap is_in_copy (sym at) ∙ out
    no-copy (asleep_in_it at) = ap is_in_copy (sym at) ∙ out

    performed-spares : (woken : Bool) (call : Sysno) (args : List ℕ) (since : ℕ) (effect : Effect)
        → copies_memory call ≡ false → SparesCopies (performed_row woken call args since effect)
    unfolding performed_row performed moved traced
    performed-spares woken call args since (does result changes) none =
        spares-out (performed_row woken call args since (does result changes))
        (finished-spares woken call result none) none (λ k was. refl)
    performed-spares woken call args since effect_sleeps none =
        spares-out (performed_row woken call args since effect_sleeps) refl refl (λ k was. none)
    performed-spares woken call args since (ends how) none =
        spares-out (performed_row woken call args since (ends how)) (finished-spares woken call Ended none) refl
        (λ k was. was)

    executed-spares : (e : InstructionEffect) → SparesCopies (executed_row p l e)
    unfolding executed_row ran_row entered_row incurred_row watched_row ran entered incurred trapped moved traced
        fault_incurred
    executed-spares (instruction.runs regs store) =
        spares-if l.control.step _ _ (spares-out _ refl refl (λ k was. refl)) (spares-out _ refl refl (λ k was. was))
    executed-spares (instruction.calls call regs) =
        record {
          did = refl;
          exits = refl;
          enters = λ k was is. record { call = call; copies = is; at = refl; phase_is = refl };
        }
    executed-spares (instruction.faults f address) = spares-out _ refl refl (λ k was. refl)
    executed-spares (instruction.runs_into_watch address regs store) = spares-out _ refl refl (λ k was. refl)

    handled-out : (c : Current) (handler : ℕ) → StaysOut (let t : Transition = handled l c handler in t.move)
    unfolding handled moved traced
    handled-out c handler k was =
        elim (nat_lt (length l.frames) frame_limit) as
        (λ b. is_in_copy (moved traced (let t : Transition = cond b (moving (move.catches (with_frame l.regs l.held
        l.frames) (handler_registers c handler l.regs) (handler_held c l.held))) (ending (ends_process
        (signal_number Segv))) in t.move) k).phase ≡ false)
        [ true ↦ refl | false ↦ was ]

    kind-spares : (row : Row) → RowKind s pid p id l row → SparesCopies row
    unfolding requested_row posted_row handler_row own_taken_row shared_taken_row interrupted_row returned_row requested
        posted own_taken shared_taken interrupted returned trapped dropped job_stopped died moved traced fault_posted
        fault_incurred
    kind-spares row (kind.stops _) = spares-out _ refl refl (λ k was. was)
    kind-spares row (kind.posts {f = f} {address = address} at) = spares-out _ refl refl (λ k was. refl)
    kind-spares row (kind.ignores is _) = spares-out _ refl refl (λ k was. was)
    kind-spares row (kind.stops_job is _) = spares-out _ refl refl (λ k was. was)
    kind-spares row (kind.dies is _) = spares-out _ refl refl (λ k was. was)
    kind-spares row (kind.catches {c = c} {handler = handler} is _) =
        spares-out _ refl refl (handled-out c handler)
    kind-spares row (kind.takes_own none is) = spares-out _ refl refl (λ k was. was)
    kind-spares row (kind.takes_shared none own is) = spares-out _ refl refl (λ k was. was)
    kind-spares row (kind.interrupts {woken = woken} {call = call} {args = args} it why) =
        spares-out _ (finished-spares woken call (Error Intr) (no-copy it)) (no-copy it) (λ k was. refl)
    kind-spares row (kind.performs {woken = woken} {call = call} {args = args} {since = since} it goes none) =
        performed-spares woken call args since (call_effect s pid p id l since call args) (no-copy it)
    kind-spares row (kind.returns {call = call} at none) =
        spares-if l.control.step _ _ (spares-out _ refl refl (λ k was. refl)) (spares-out _ refl refl (λ k was. refl))
    kind-spares row (kind.executes at none) = executed-spares (instruction_effect p.space p.control.areas l.regs)

-- ---- the move, and the point that was met

-- an lwp with no stop stands at the exit of no such call after its move
moved-left : (m : Move) (k : TracedLwp) → k.control.stop ≡ None → leaves_copy (moved traced m k).control.stop ≡ false
unfolding moved traced stopped_as_directed fault_incurred fault_posted step_taken call_over
moved-left move.stops k free = refl
moved-left move.stays k free = ap leaves_copy free
moved-left (move.posts f address) k free = ap leaves_copy free
moved-left move.returns k free = ap leaves_copy free
moved-left (move.runs regs) k free = ap leaves_copy free
moved-left (move.enters call regs) k free = ap leaves_copy free
moved-left (move.incurs f address) k free = ap leaves_copy free
moved-left (move.traps f address regs) k free = ap leaves_copy free
moved-left (move.leaves call args result) k free = ap leaves_copy free
moved-left (move.sleeps call args since) k free = ap leaves_copy free
moved-left (move.takes c own) k free = ap leaves_copy free
moved-left move.drops k free = ap leaves_copy free
moved-left (move.catches frames regs held) k free = ap leaves_copy free

-- where each lwp is so but the one whose turn it is, and that one is at such a call only where it met its entry
record Meets (but : Option ℕ) (id : ℕ) (point : Option Point) (x : TracedProcess) : Type 0 where
  others : (n : ℕ) (k : TracedLwp) → n ≢ id → IsNot but n → lwp_of x n ≡ Some k → HasNoCopyGoing k
  left : (k : TracedLwp) → IsNot but id → lwp_of x id ≡ Some k → leaves_copy k.control.stop ≡ false
  enters : (k : TracedLwp) → IsNot but id → lwp_of x id ≡ Some k → is_in_copy k.phase ≡ true
      → MeetsEntry point k.phase

stop-left : (pt : Point) → exits_copy (Some pt) ≡ false → leaves_copy (Some (stop_at pt)) ≡ false
stop-left (Signal g) exits = refl
stop-left (Fault f) exits = refl
stop-left (Entry c) exits = refl
stop-left (Exit c) exits = exits

met-clear : (pt : Point) (k : TracedLwp) → exits_copy (Some pt) ≡ false
    → (is_in_copy k.phase ≡ true → MeetsEntry (Some pt) k.phase) → HasNoCopyGoing (stopped_at pt k)
unfolding stopped_at
met-clear pt k exits enters = record {
  waits = λ is.
      let e = enters is in
      record {
        call = e.call;
        copies = e.copies;
        phase = e.phase_is;
        stop = ap (λ (x : Point). Some (stop_at x)) (same_Some pt (Entry e.call) e.at);
      };
  left_none = stop-left pt exits;
}

all-directed-clear : (but : Option ℕ) (x : TracedProcess) → HaveNoCopyGoing but x
    → HaveNoCopyGoing but (with_all_directed x)
unfolding with_all_directed
all-directed-clear but x all = record {
  each = λ n k other there.
      let m = mapped-some directed (lwp_of x n) k (sym (under-map_each n directed x.lwps) ∙ there) in
      let leaves = directed-leaves in
      subst HasNoCopyGoing m.1.1
      (alike-clear m.0 (directed m.0) (leaves.stops m.0) (leaves.phase m.0) (all.each n m.0 other m.1.0));
}

meeting-clear : (but : Option ℕ) (id : ℕ) (point : Option Point) (x : TracedProcess) → StopsAtCopies x.control
    → (IsNot but id → exits_copy point ≡ false) → Meets but id point x
    → HaveNoCopyGoing but (after_meeting point id x)
unfolding after_meeting with_stop_at with_others_directed with_lwp
meeting-clear but id None x stops exits m = record {
  each = λ n k other there. elim (cases_eq n id) [
    | inl same ↦ own n k same other there
    | inr apart ↦ m.others n k apart other there
  ];
}
  where
    own : (n : ℕ) (k : TracedLwp) → n ≡ id → IsNot but n → lwp_of x n ≡ Some k → HasNoCopyGoing k
    own n k same other there =
        let it : IsNot but id = subst (IsNot but) same other in
        let at : lwp_of x id ≡ Some k = subst (λ i. lwp_of x i ≡ Some k) same there in
        record {
          waits = λ is. (let e = m.enters k it at is in absurd (none-some (Entry e.call) e.at));
          left_none = m.left k it at;
        }
meeting-clear but id (Some pt) x stops exits m =
    choice (HaveNoCopyGoing but) (is_traced x.control pt) _ x
    (λ traces. choice (HaveNoCopyGoing but) (has_flags x.control.modes async_mode) _ _ (λ alone. stopped)
    (λ directs. all-directed-clear but (with_lwp id (stopped_at pt) x) stopped)) passing
  where
    stopped : HaveNoCopyGoing but (with_lwp id (stopped_at pt) x)
    stopped = record {
      each = λ n k other there. elim (cases_eq id n) [
        | inl same ↦ own n k same other there
        | inr apart ↦ m.others n k (λ is. apart (sym is)) other
            (sym (under-change_under_other id n (stopped_at pt) apart x.lwps) ∙ there)
      ];
    }
      where
        own : (n : ℕ) (k : TracedLwp) → id ≡ n → IsNot but n → under n (change_under id (stopped_at pt) x.lwps) ≡ Some k
            → HasNoCopyGoing k
        own n k same other there =
            let a =
            mapped-some (stopped_at pt) (lwp_of x id) k (sym (under-change_under id (stopped_at pt) x.lwps)
            ∙ subst (λ i. under i (change_under id (stopped_at pt) x.lwps) ≡ Some k) (sym same) there) in
            subst HasNoCopyGoing a.1.1
            (let it : IsNot but id = subst (IsNot but) (sym same) other in
            met-clear pt a.0 (exits it) (m.enters a.0 it a.1.0))

    -- what is not traced is no entry of such a call
    untraced : {phase : Phase} → is_traced x.control pt ≡ false → MeetsEntry (Some pt) phase → ⊥
    untraced passes e =
        false≢true
        (sym passes ∙ ap (is_traced x.control) (same_Some pt (Entry e.call) e.at) ∙ stops.traced e.call e.copies)

    passing : is_traced x.control pt ≡ false → HaveNoCopyGoing but x
    passing passes = record {
      each = λ n k other there. elim (cases_eq n id) [
        | inl same ↦ own n k same other there
        | inr apart ↦ m.others n k apart other there
      ];
    }
      where
        own : (n : ℕ) (k : TracedLwp) → n ≡ id → IsNot but n → lwp_of x n ≡ Some k → HasNoCopyGoing k
        own n k same other there =
            let it : IsNot but id = subst (IsNot but) same other in
            let at : lwp_of x id ≡ Some k = subst (λ i. lwp_of x i ≡ Some k) same there in
            record { waits = λ is. absurd (untraced passes (m.enters k it at is)); left_none = m.left k it at }

-- ---- a turn

module _ (s : TracedSystem) (pid : ℕ) (p : TracedProcess) (id : ℕ) (l : TracedLwp) (a : IsActing s pid p id l)
    (free : l.control.stop ≡ None) (row : Row) (suits : SuitsTransition s pid p id l row.transition)
    (but : Option ℕ) (all : HaveNoCopyGoing but p) where
  abbrev changes : TracedSystem
  changes = all_changed traced pid p id l row.transition.changes s

  abbrev moves : TracedSystem
  moves = with_process pid (with_lwp id (moved traced row.transition.move)) changes

  abbrev ended_now : TracedSystem
  ended_now = ended_if traced pid p id l row.transition.ending moves

  abbrev counts : TracedSystem
  counts = with_process pid (with_counted row.did row.begun) ended_now

  out-now : IsNot but id → is_in_copy l.phase ≡ false
  out-now other = turn-out l free (all.each id l other a.there)

  changed-stands : (x : TracedProcess) → process_of changes pid ≡ Some x → x.ended ≡ None
      → (n : ℕ) (k : TracedLwp) → IsNot but n → lwp_of x n ≡ Some k
      → HasNoCopyGoing k × (n ≡ id → (k.control.stop ≡ None) × (is_in_copy k.phase ≡ false))
  changed-stands x found live n k other there =
      let goes = changes-go id l pid p row.transition.changes s in
      let was = goes.from x found live in
      let same : was.0 ≡ p = same_Some was.0 p (sym was.1.0 ∙ a.found) in
      by (subst (λ (y : TracedProcess). Came id l y n k) same (was.1.1.1 n k there))
    where
      clear : k.control.stop ≡ None → is_in_copy k.phase ≡ false
          → HasNoCopyGoing k × (n ≡ id → (k.control.stop ≡ None) × (is_in_copy k.phase ≡ false))
      clear stops out = (free-clear k stops out, λ same. (stops, out))

      own : n ≡ id → k.control.stop ≡ l.control.stop → k.phase ≡ l.phase
          → HasNoCopyGoing k × (n ≡ id → (k.control.stop ≡ None) × (is_in_copy k.phase ≡ false))
      own same stops phase =
          clear (stops ∙ free) (ap is_in_copy phase ∙ out-now (subst (IsNot but) same other))

      by : Came id l p n k
          → HasNoCopyGoing k × (n ≡ id → (k.control.stop ≡ None) × (is_in_copy k.phase ≡ false))
      by (new stops phase) = clear stops (ap is_in_copy phase)
      by (acts same stops phase) = own same stops phase
      by (kept m at stops phase current) = elim (cases_eq n id) [
        | inl same ↦
            let it : m ≡ l = same_Some m l (sym at ∙ ap (lwp_of p) same ∙ a.there) in
            own same (stops ∙ ap (λ (y : TracedLwp). y.control.stop) it) (phase ∙ ap (λ (y : TracedLwp). y.phase) it)
        | inr apart ↦ (alike-clear m k stops phase (all.each n m other at), λ same. absurd (apart same))
      ]

  moved-meets : (IsNot but id → SparesCopies row) → (x : TracedProcess) → process_of moves pid ≡ Some x → x.ended ≡ None
      → Meets but id row.point x
  unfolding with_lwp with_process
  moved-meets spares x found live =
      let m =
      mapped-some (with_lwp id (moved traced row.transition.move)) (process_of changes pid) x
      (sym (under-change_under pid (with_lwp id (moved traced row.transition.move)) changes.processes) ∙ found) in
      let still : m.0.ended ≡ None = ap (λ (y : TracedProcess). y.ended) m.1.1 ∙ live in
      subst (Meets but id row.point) m.1.1 (record {
        others = λ n k apart other there.
            (changed-stands m.0 m.1.0 still n k other
            (sym (under-change_under_other id n (moved traced row.transition.move) (λ is. apart (sym is)) m.0.lwps)
            ∙ there)).0;
        left = λ k other there.
            let b = own m.0 k there in
            let was = (changed-stands m.0 m.1.0 still id b.0 other b.1.0).1 refl in
            subst (λ (y : TracedLwp). leaves_copy y.control.stop ≡ false) b.1.1
            (moved-left row.transition.move b.0 was.0);
        enters = λ k other there is.
            let b = own m.0 k there in
            let was = (changed-stands m.0 m.1.0 still id b.0 other b.1.0).1 refl in
            let sp = spares other in
            subst (λ (y : TracedLwp). MeetsEntry row.point y.phase) b.1.1
            (sp.enters b.0 was.1 (ap (λ (y : TracedLwp). is_in_copy y.phase) b.1.1 ∙ is));
      })
    where
      own : (y : TracedProcess) (k : TracedLwp)
          → under id (change_under id (moved traced row.transition.move) y.lwps) ≡ Some k
          → (b : TracedLwp) × ((lwp_of y id ≡ Some b) × (moved traced row.transition.move b ≡ k))
      own y k there =
          mapped-some (moved traced row.transition.move) (lwp_of y id) k
          (sym (under-change_under id (moved traced row.transition.move) y.lwps) ∙ there)

  -- and so it is where lwps only came from there
  come-meets : (y x : TracedProcess) → Come id l y x → Meets but id row.point y → Meets but id row.point x
  come-meets y x come m = record {
    others = λ n k apart other there. other_by n k apart other (come n k there);
    left = λ k other there. left_by k other (come id k there);
    enters = λ k other there is. enters_by k other is (come id k there);
  }
    where
      other_by : (n : ℕ) (k : TracedLwp) → n ≢ id → IsNot but n → Came id l y n k → HasNoCopyGoing k
      other_by n k apart other (new stops phase) = free-clear k stops (ap is_in_copy phase)
      other_by n k apart other (kept o at stops phase current) =
          alike-clear o k stops phase (m.others n o apart other at)
      other_by n k apart other (acts same stops phase) = absurd (apart same)

      left_by : (k : TracedLwp) → IsNot but id → Came id l y id k → leaves_copy k.control.stop ≡ false
      left_by k other (new stops phase) = ap leaves_copy stops
      left_by k other (kept o at stops phase current) = ap leaves_copy stops ∙ m.left o other at
      left_by k other (acts same stops phase) = ap leaves_copy (stops ∙ free)

      enters_by : (k : TracedLwp) → IsNot but id → is_in_copy k.phase ≡ true → Came id l y id k
          → MeetsEntry row.point k.phase
      enters_by k other is (new stops phase) = absurd (false≢true (sym (ap is_in_copy phase) ∙ is))
      enters_by k other is (kept o at stops phase current) =
          subst (MeetsEntry row.point) (sym phase) (m.enters o other at (ap is_in_copy (sym phase) ∙ is))
      enters_by k other is (acts same stops phase) =
          absurd (false≢true (sym (ap is_in_copy phase ∙ out-now other) ∙ is))

  counts-meets : (IsNot but id → SparesCopies row) → (x : TracedProcess) → process_of counts pid ≡ Some x
      → x.ended ≡ None → Meets but id row.point x
  unfolding with_lwp_of with_counted
  counts-meets spares x found live =
      let two = counted-goes id l pid p row s a.lawful suits in
      let was = two.from x found live in
      come-meets was.0 x was.1.1.1 (moved-meets spares was.0 was.1.0 was.1.1.0)

  -- and the stop at the point that was met
  row-clear : (IsNot but id → SparesCopies row) → (q : TracedProcess)
      → process_of (with_process pid (after_meeting row.point id) counts) pid ≡ Some q → q.ended ≡ None
      → StopsAtCopies q.control → HaveNoCopyGoing but q
  unfolding with_process
  row-clear spares q found live stops =
      let m =
      mapped-some (after_meeting row.point id) (process_of counts pid) q
      (sym (under-change_under pid (after_meeting row.point id) counts.processes) ∙ found) in
      let still : m.0.ended ≡ None =
      sym (meeting-same (λ (y : TracedProcess). y.ended) (λ y es. refl) row.point id m.0)
      ∙ ap (λ (y : TracedProcess). y.ended) m.1.1 ∙ live in
      let control : q.control ≡ m.0.control =
      ap (λ (y : TracedProcess). y.control) (sym m.1.1)
      ∙ meeting-same (λ (y : TracedProcess). y.control) (λ y es. refl) row.point id m.0 in
      let exits : IsNot but id → exits_copy row.point ≡ false = λ other. (let sp = spares other in sp.exits) in
      subst (HaveNoCopyGoing but) m.1.1
      (meeting-clear but id row.point m.0 (subst StopsAtCopies control stops) exits
      (counts-meets spares m.0 m.1.0 still))

-- what is traced of a process stays so in a turn of it
same-stops : (p q : TracedProcess) → HasSameSettings p q → StopsAtCopies p.control → StopsAtCopies q.control
unfolding is_traced
same-stops p q settings stops = record {
  traced = λ call copies.
      ap (λ (c : TracedControl). is_traced c (Entry call)) settings.control ∙ stops.traced call copies;
}

module _ (s : TracedSystem) (pid : ℕ) (p : TracedProcess) (id : ℕ) (t : LwpTurn) (lawful : IsLawfulSystem s)
    (live : live_process s pid ≡ Some p) (turn : turn_of s pid id ≡ Some t) (but : Option ℕ)
    (all : HaveNoCopyGoing but p) where
  -- an lwp of which it is so makes no such call
  pub turn-makes-none : IsNot but id → makes_copy t.turned.did ≡ false
  unfolding settled
  turn-makes-none other =
      let it = turn-taken s pid id t turn in
      let same : it.process ≡ p = same_Some it.process p (sym it.live ∙ live) in
      let there : lwp_of p id ≡ Some it.lwp = subst (λ (y : TracedProcess). lwp_of y id ≡ Some it.lwp) same it.there in
      let free = free-stopless it.process id it.lwp it.free in
      let spares =
      kind-spares s pid it.process id it.lwp (turn-out it.lwp free (all.each id it.lwp other there))
      (row_for s pid it.process id it.lwp) (row-kind s pid it.process id it.lwp) in
      ap (λ (v : LwpTurn). makes_copy v.turned.did) it.is ∙ spares.did

  -- and it stays so
  pub turn-clear : StopsAtCopies p.control → (q : TracedProcess) → live_process t.system pid ≡ Some q
      → HaveNoCopyGoing but q
  unfolding settled after_transition with_lwp_of
  turn-clear stops q later =
      let it = turn-taken s pid id t turn in
      let same : p ≡ it.process = same_Some p it.process (sym live ∙ it.live) in
      let a = acting s pid id it.process it.lwp lawful it.live it.there in
      let free = free-stopless it.process id it.lwp it.free in
      let row : Row = row_for s pid it.process id it.lwp in
      let suits = row-suits s pid it.process id it.lwp a in
      let its : HaveNoCopyGoing but it.process = subst (HaveNoCopyGoing but) same all in
      let found = found-live t.system pid q later in
      row-clear s pid it.process id it.lwp a free row suits but its
      (λ other.
      kind-spares s pid it.process id it.lwp (turn-out it.lwp free (its.each id it.lwp other it.there)) row
      (row-kind s pid it.process id it.lwp)) q
      (ap (λ (v : LwpTurn). process_of v.system pid) (sym it.is) ∙ found.0) found.1
      (same-stops p q (turn-settings s pid p id t lawful live turn q later) stops)

pub ruleset copy_turns = (alone-clear, turn-makes-none, turn-clear)
