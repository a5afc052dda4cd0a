use Rattle.std.proofs.Common.{◌≡◌, ◌≢◌, ℕ, true, false, cond, Option, Some, None, refl, sym, subst, ap}
use Rattle.std.proofs.Common.{◌∙◌}
use Rattle.std.proofs.lemmas.Bool.{false≢true}
use Rattle.std.proofs.lemmas.Option.{same_Some}
use Rattle.std.specs.Option.{option_map}
use Rattle.pr_function_laws.proofs.OpenedProcesses.ComingLwps.{Came, acts, changes-go, counted-goes, kept, new}
use Rattle.pr_function_laws.proofs.OpenedProcesses.StopTurns.{FaultsSo, counted-moved, directed-leaves, faults}
use Rattle.pr_function_laws.proofs.OpenedProcesses.StopTurns.{free-stopless, kind-so, no_fault}
use Rattle.pr_hidden.proofs.Follows.FaultRows.{HowFaulted, bpt-effect, by_instruction, by_return, how-faulted}
use Rattle.pr_keeps.proofs.RowLemmas.{row-kind}
use Rattle.pr_lawful.proofs.LawfulTurns.EffectLemmas.{IsActing}
use Rattle.pr_lawful.proofs.LawfulTurns.EndLemmas.{found-live}
use Rattle.pr_lawful.proofs.ProcessParts.FileLemmas.{choice}
use Rattle.pr_lawful.proofs.LawfulTurns.SuitingLemmas.{SuitsTransition}
use Rattle.pr_lawful.proofs.LawfulTurns.TurnLemmas.{acting, row-suits}
use Rattle.pr_model.proofs.TurnLemmas.{turn-taken}
use Rattle.pr_model.specs.Changes.{all_changed}
use Rattle.pr_model.specs.InstructionEffects as instruction
use Rattle.pr_model.specs.InstructionEffects.{InstructionEffect, instruction_effect}
use Rattle.pr_model.specs.Lawful.{IsLawfulSystem}
use Rattle.pr_model.specs.LwpTurns.{LwpTurn, settled, turn_of, with_counted}
use Rattle.pr_model.specs.Machines.{fault_incurred, traced}
use Rattle.pr_model.specs.Moves.{moved}
use Rattle.pr_model.specs.Points.{after_meeting, is_traced, stop_at, stopped_at, with_others_directed, with_stop_at}
use Rattle.pr_model.specs.Rows.{Row, executed_row, incurred_row, ran_row, returned_row, row_for, watched_row}
use Rattle.pr_model.specs.Rows.{entered_row}
use Rattle.pr_model.specs.State.{TracedControl, TracedLwp, TracedProcess, TracedSystem, live_process, lwp_of}
use Rattle.pr_model.specs.State.{process_of, with_lwp, with_lwp_of, with_process}
use Rattle.pr_model.specs.Stops.{directed, has_event_stop, with_all_directed}
use Rattle.pr_model.specs.Transitions.{after_transition, ended_if, incurred}
use Rattle.pr_model.specs.declared.events.Did.TheVariants.{Faulted}
use Rattle.pr_model.specs.declared.lwps.Phase.TheVariants.{Faulted as AtFault, User}
use Rattle.pr_model.specs.declared.stops.Point.{Point}
use Rattle.pr_model.specs.declared.stops.Point.TheVariants.{Fault}
use Rattle.pr_model.specs.declared.stops.Stop.TheVariants as stop
use Rattle.pr_num.proofs.ByIdLaws.{under-change_under, under-change_under_other, under-map_each}
use Rattle.pr_num.specs.ById.{change_under, under}
use Rattle.pr_num.specs.Control.{async_mode, has_flags}
use Rattle.pr_num.specs.declared.faults.Flt.{Flt}
use Rattle.pr_num.specs.declared.faults.Flt.TheVariants.{Bpt, Trace, Watch}
use Rattle.pr_report_laws.proofs.Machine.TurnSettings.{turn-settings}
use Rattle.pr_truss_laws.proofs.EventStops.BridgeLemmas.{mapped-some}
use Rattle.pr_truss_laws.proofs.EventStops.OwnTurnLemmas.{meeting-same}
use Rattle.pr_truss_laws.proofs.Machine.StillLemmas.{halting-leaves, row-directed, stop-settled, stopped-live}
use Rattle.pr_truss_laws.specs.Stills.{HasSameSettings, IsHalting, stopped_lwp, with_lwp_stopped}

-- The turn of an lwp: which other lwps stand at a fault then, and that it stops at once at a fault that it incurs,
-- where that is traced.

-- ---- the other lwps

-- an lwp is in its program, or it was there before, at the same phase and on the same stop
pub data IsOldPhase (p : TracedProcess) (n : ℕ) (k : TracedLwp) : Type 0 where
  fresh : k.phase ≡ User → IsOldPhase p n k
  old : (m : TracedLwp) → lwp_of p n ≡ Some m → k.phase ≡ m.phase → k.control.stop ≡ m.control.stop
      → IsOldPhase p n k

same-phase : (p : TracedProcess) (n : ℕ) (m k : TracedLwp) → k.phase ≡ m.phase → k.control.stop ≡ m.control.stop
    → IsOldPhase p n m → IsOldPhase p n k
same-phase p n m k same stops (fresh is) = fresh (same ∙ is)
same-phase p n m k same stops (old j there is at) = old j there (same ∙ is) (stops ∙ at)

came-old : (id : ℕ) (l : TracedLwp) (p : TracedProcess) (n : ℕ) (k : TracedLwp) → n ≢ id → Came id l p n k
    → IsOldPhase p n k
came-old id l p n k apart (new stops phase) = fresh phase
came-old id l p n k apart (kept m there stops phase current) = old m there phase stops
came-old id l p n k apart (acts same stops phase) = absurd (apart same)

directed-phase : (l : TracedLwp) → (directed l).phase ≡ l.phase
directed-phase l = let leaves = directed-leaves in leaves.phase l

directed-regs : (l : TracedLwp) → (directed l).regs ≡ l.regs
unfolding directed
directed-regs l =
    elim (has_event_stop l) as
    (λ b. (cond b l (record l { control = record l.control { directed = true } })).regs ≡ l.regs)
    [ true ↦ refl | false ↦ refl ]

-- the point that was met leaves the phases and the stops of others
module _ (id n : ℕ) (apart : n ≢ id) (k : TracedLwp) (x : TracedProcess) where
  abbrev Before : TracedProcess → Type 0
  Before y =
      lwp_of y n ≡ Some k
      → (m : TracedLwp)
      × ((lwp_of x n ≡ Some m) × ((k.phase ≡ m.phase) × (k.control.stop ≡ m.control.stop)))

  meeting-phase : (point : Option Point) → Before (after_meeting point id x)
  unfolding after_meeting with_stop_at with_others_directed with_all_directed with_lwp
  meeting-phase None = λ there. (k, (there, (refl, refl)))
  meeting-phase (Some pt) =
      choice Before (is_traced x.control pt) _ x
      (λ is. choice Before (has_flags (with_lwp id (stopped_at pt) x).control.modes async_mode)
      (with_lwp id (stopped_at pt) x) (with_all_directed (with_lwp id (stopped_at pt) x))
      (λ alone there.
      (k, (sym (under-change_under_other id n (stopped_at pt) other x.lwps) ∙ there, (refl, refl))))
      (λ others there.
      let m =
      mapped-some directed (under n (change_under id (stopped_at pt) x.lwps)) k
      (sym (under-map_each n directed (change_under id (stopped_at pt) x.lwps)) ∙ there) in
      let leaves = directed-leaves in (
        m.0,
        (
          sym (under-change_under_other id n (stopped_at pt) other x.lwps) ∙ m.1.0,
          (
            ap (λ (y : TracedLwp). y.phase) (sym m.1.1) ∙ directed-phase m.0,
            ap (λ (y : TracedLwp). y.control.stop) (sym m.1.1) ∙ leaves.stops m.0,
          ),
        ),
      ))) (λ passes there. (k, (there, (refl, refl))))
    where
      other : id ≢ n
      other same = apart (sym same)

module _ (s : TracedSystem) (pid : ℕ) (p : TracedProcess) (id : ℕ) (l : TracedLwp) (a : IsActing s pid p id l)
    (free : l.control.stop ≡ None) (row : Row) (suits : SuitsTransition s pid p id l row.transition) where
  abbrev changes : TracedSystem
  changes = all_changed traced pid p id l row.transition.changes s

  abbrev moves : TracedSystem
  moves = with_process pid (with_lwp id (moved traced row.transition.move)) changes

  abbrev ended_now : TracedSystem
  ended_now = ended_if traced pid p id l row.transition.ending moves

  abbrev counts : TracedSystem
  counts = with_process pid (with_counted row.did row.begun) ended_now

  abbrev OthersOld : TracedProcess → Type 0
  OthersOld x = (n : ℕ) (k : TracedLwp) → n ≢ id → lwp_of x n ≡ Some k → IsOldPhase p n k

  changed-old : (x : TracedProcess) → process_of changes pid ≡ Some x → x.ended ≡ None → OthersOld x
  changed-old x found live n k apart there =
      let goes = changes-go id l pid p row.transition.changes s in
      let was = goes.from x found live in
      let same : was.0 ≡ p = same_Some was.0 p (sym was.1.0 ∙ a.found) in
      came-old id l p n k apart (subst (λ (y : TracedProcess). Came id l y n k) same (was.1.1.1 n k there))

  moved-old : (x : TracedProcess) → process_of moves pid ≡ Some x → x.ended ≡ None → OthersOld x
  unfolding with_lwp with_process
  moved-old x found live n k apart there =
      let m =
      mapped-some (with_lwp id (moved traced row.transition.move)) (process_of changes pid) x
      (sym (under-change_under pid (with_lwp id (moved traced row.transition.move)) changes.processes) ∙ found) in
      changed-old m.0 m.1.0 (ap (λ (y : TracedProcess). y.ended) m.1.1 ∙ live) n k apart
      (sym (under-change_under_other id n (moved traced row.transition.move) (λ is. apart (sym is)) m.0.lwps)
      ∙ ap (λ (y : TracedProcess). lwp_of y n) m.1.1 ∙ there)

  counted-old : (x : TracedProcess) → process_of counts pid ≡ Some x → x.ended ≡ None → OthersOld x
  unfolding with_lwp_of with_counted
  counted-old x found live n k apart there =
      let two = counted-goes id l pid p row s a.lawful suits in
      let was = two.from x found live in
      by was.0 was.1.0 was.1.1.0 (was.1.1.1 n k there)
    where
      by : (y : TracedProcess) → process_of moves pid ≡ Some y → y.ended ≡ None → Came id l y n k
          → IsOldPhase p n k
      by y at lives (new stops phase) = fresh phase
      by y at lives (kept m here stops phase current) =
          same-phase p n m k phase stops (moved-old y at lives n m apart here)
      by y at lives (acts same stops phase) = absurd (apart same)

  pub row-old : (q : TracedProcess)
      → process_of (with_process pid (after_meeting row.point id) counts) pid ≡ Some q → q.ended ≡ None → OthersOld q
  unfolding with_process
  row-old q found live n k apart there =
      let m =
      mapped-some (after_meeting row.point id) (process_of counts pid) q
      (sym (under-change_under pid (after_meeting row.point id) counts.processes) ∙ found) in
      let still : m.0.ended ≡ None =
      sym (meeting-same (λ (y : TracedProcess). y.ended) (λ y es. refl) row.point id m.0)
      ∙ ap (λ (y : TracedProcess). y.ended) m.1.1 ∙ live in
      let was =
      meeting-phase id n apart k m.0 row.point (ap (λ (y : TracedProcess). lwp_of y n) m.1.1 ∙ there) in
      same-phase p n was.0 k was.1.1.0 was.1.1.1 (counted-old m.0 m.1.0 still n was.0 apart was.1.0)

-- ---- the point at which a fault is incurred

-- this row met the fault that it incurred
abbrev MeetsIt : Flt → Row → Type 0
MeetsIt f row = row.did ≡ Faulted f → row.point ≡ Some (Fault f)

fault-same : {f g : Flt} → Faulted f ≡ Faulted g → f ≡ g
fault-same is = cc

met-so : (g f : Flt) → Faulted g ≡ Faulted f → Some (Fault g) ≡ Some (Fault f)
met-so g f is = ap (λ x. Some (Fault x)) (fault-same is)

module _ (p : TracedProcess) (l : TracedLwp) (f : Flt) where
  executed-meets : (e : InstructionEffect) → MeetsIt f (executed_row p l e)
  unfolding executed_row ran_row entered_row incurred_row watched_row
  executed-meets (instruction.runs regs store) =
      choice (MeetsIt f) l.control.step _ _ (λ marked did. met-so Trace f did) (λ plain did. cc)
  executed-meets (instruction.calls call regs) = λ did. cc
  executed-meets (instruction.faults g address) = λ did. met-so g f did
  executed-meets (instruction.runs_into_watch address regs store) = λ did. met-so Watch f did

  returned-meets : (call : _) → MeetsIt f (returned_row p l call)
  unfolding returned_row
  returned-meets call =
      choice (MeetsIt f) l.control.step _ _ (λ marked did. met-so Trace f did) (λ plain did. cc)

module _ (s : TracedSystem) (pid : ℕ) (p : TracedProcess) (id : ℕ) (l : TracedLwp) where
  row-meets : (f : Flt) → MeetsIt f (row_for s pid p id l)
  row-meets f did = by (how-faulted s pid p id l f did)
    where
      by : HowFaulted s pid p id l → (row_for s pid p id l).point ≡ Some (Fault f)
      by (by_instruction runs is) =
          ap (λ (r : Row). r.point) is
          ∙ executed-meets p l f (instruction_effect p.space p.control.areas l.regs)
          (ap (λ (r : Row). r.did) (sym is) ∙ did)
      by (by_return call back is) =
          ap (λ (r : Row). r.point) is
          ∙ returned-meets p l f call (ap (λ (r : Row). r.did) (sym is) ∙ did)

  abbrev Stays : Row → Type 0
  Stays row = (moved traced row.transition.move l).regs ≡ l.regs

  incurred-stays : (address : ℕ) → Stays (incurred_row Bpt address)
  unfolding incurred_row incurred moved traced fault_incurred
  incurred-stays address = refl

  executed-is : (address : ℕ) → executed_row p l (instruction.faults Bpt address) ≡ incurred_row Bpt address
  unfolding executed_row
  executed-is address = refl

  returned-not : (call : _) → (returned_row p l call).did ≡ Faulted Bpt → ⊥
  unfolding returned_row
  returned-not call =
      choice (λ (r : Row). r.did ≡ Faulted Bpt → ⊥) l.control.step _ _ (λ marked is. cc) (λ plain is. cc)

  -- FLTBPT leaves the registers as they are
  row-regs : (row_for s pid p id l).did ≡ Faulted Bpt → Stays (row_for s pid p id l)
  row-regs did = by (how-faulted s pid p id l Bpt did)
    where
      by : HowFaulted s pid p id l → Stays (row_for s pid p id l)
      by (by_instruction runs is) =
          let e : InstructionEffect = instruction_effect p.space p.control.areas l.regs in
          let at = bpt-effect p l e (ap (λ (r : Row). r.did) (sym is) ∙ did) in
          subst Stays (sym (is ∙ ap (executed_row p l) at.1 ∙ executed-is at.0)) (incurred-stays at.0)
      by (by_return call back is) = absurd (returned-not call (ap (λ (r : Row). r.did) (sym is) ∙ did))

-- ---- it stops at once

-- a traced point stops the lwp that met it
module _ (id : ℕ) (pt : Point) (x : TracedProcess) (l k : TracedLwp) (there : lwp_of x id ≡ Some l) where
  abbrev Stops : TracedProcess → Type 0
  Stops y =
      lwp_of y id ≡ Some k → (k.control.stop ≡ Some (stop_at pt)) × ((k.regs ≡ l.regs) × (k.phase ≡ l.phase))

  stopped-there : lwp_of (with_lwp id (stopped_at pt) x) id ≡ Some (stopped_at pt l)
  unfolding with_lwp
  stopped-there = under-change_under id (stopped_at pt) x.lwps ∙ ap (option_map (stopped_at pt)) there

  stopped-so : (y : TracedLwp) → y ≡ stopped_at pt l
      → (y.control.stop ≡ Some (stop_at pt)) × ((y.regs ≡ l.regs) × (y.phase ≡ l.phase))
  unfolding stopped_at
  stopped-so y is = (
    ap (λ (z : TracedLwp). z.control.stop) is,
    (ap (λ (z : TracedLwp). z.regs) is, ap (λ (z : TracedLwp). z.phase) is),
  )

  meeting-stops : is_traced x.control pt ≡ true → Stops (after_meeting (Some pt) id x)
  unfolding after_meeting with_stop_at with_others_directed with_all_directed
  meeting-stops traces =
      choice Stops (is_traced x.control pt) _ x
      (λ is. choice Stops (has_flags (with_lwp id (stopped_at pt) x).control.modes async_mode)
      (with_lwp id (stopped_at pt) x) (with_all_directed (with_lwp id (stopped_at pt) x))
      (λ alone here. stopped-so k (same_Some k (stopped_at pt l) (sym here ∙ stopped-there)))
      (λ others here.
      let m =
      mapped-some directed (lwp_of (with_lwp id (stopped_at pt) x) id) k
      (sym (under-map_each id directed (with_lwp id (stopped_at pt) x).lwps) ∙ here) in
      let so = stopped-so m.0 (same_Some m.0 (stopped_at pt l) (sym m.1.0 ∙ stopped-there)) in
      let leaves = directed-leaves in (
        ap (λ (z : TracedLwp). z.control.stop) (sym m.1.1) ∙ leaves.stops m.0 ∙ so.0,
        (
          ap (λ (z : TracedLwp). z.regs) (sym m.1.1) ∙ directed-regs m.0 ∙ so.1.0,
          ap (λ (z : TracedLwp). z.phase) (sym m.1.1) ∙ directed-phase m.0 ∙ so.1.1,
        ),
      ))) (λ passes. absurd (false≢true (sym passes ∙ traces)))

same-traced : (p q : TracedProcess) (pt : Point) → HasSameSettings p q → is_traced q.control pt ≡ is_traced p.control pt
unfolding is_traced
same-traced p q (Fault f) settings = ap (λ (c : TracedControl). is_traced c (Fault f)) settings.control
same-traced p q pt settings = ap (λ (c : TracedControl). is_traced c pt) settings.control

-- a row that met a fault leaves its lwp at it
fault-at : (l : TracedLwp) (row : Row) → FaultsSo l row → (f : Flt) → row.point ≡ Some (Fault f)
    → (address : ℕ) × ((moved traced row.transition.move l).phase ≡ AtFault f address)
fault-at l row (no_fault other) f is = absurd (other f is)
fault-at l row (faults g met current goes stores at) f is =
    subst (λ (x : Flt). (address : ℕ) × ((moved traced row.transition.move l).phase ≡ AtFault x address))
    (point-same (same_Some (Fault g) (Fault f) (sym met ∙ is))) (at.address, at.phase)
  where
    point-same : Fault g ≡ Fault f → g ≡ f
    point-same same = cc

-- ---- a turn

module _ (s : TracedSystem) (pid : ℕ) (p : TracedProcess) (id : ℕ) (t : LwpTurn) (lawful : IsLawfulSystem s)
    (live : live_process s pid ≡ Some p) (turn : turn_of s pid id ≡ Some t) (q : TracedProcess)
    (later : live_process t.system pid ≡ Some q) where
  -- another lwp stands at a fault only where it stood there before, on the same stop
  pub turn-old : (n : ℕ) (k : TracedLwp) → n ≢ id → lwp_of q n ≡ Some k → IsOldPhase p n k
  unfolding settled after_transition with_lwp_of
  turn-old n k apart there =
      let it = turn-taken s pid id t turn in
      let same : it.process ≡ p = same_Some it.process p (sym it.live ∙ live) in
      let a = acting s pid id it.process it.lwp lawful it.live it.there in
      let free = free-stopless it.process id it.lwp it.free in
      let row : Row = row_for s pid it.process id it.lwp in
      let found = found-live t.system pid q later in
      subst (λ (y : TracedProcess). IsOldPhase y n k) same
      (row-old s pid it.process id it.lwp a free row (row-suits s pid it.process id it.lwp a) q
      (ap (λ (v : LwpTurn). process_of v.system pid) (sym it.is) ∙ found.0) found.1 n k apart there)

  -- it stops at the fault that it incurs, where that is traced
  pub turn-stops : (f : Flt) → t.turned.did ≡ Faulted f → is_traced p.control (Fault f) ≡ true → (k : TracedLwp)
      → lwp_of q id ≡ Some k
      → (k.control.stop ≡ Some (stop.Faulted f))
      × (((address : ℕ) × (k.phase ≡ AtFault f address))
      × (f ≡ Bpt → (l : TracedLwp) × ((lwp_of p id ≡ Some l) × (k.regs ≡ l.regs))))
  unfolding settled after_transition with_lwp_of with_process
  turn-stops f did traces k there =
      let it = turn-taken s pid id t turn in
      let same : it.process ≡ p = same_Some it.process p (sym it.live ∙ live) in
      let a = acting s pid id it.process it.lwp lawful it.live it.there in
      let free = free-stopless it.process id it.lwp it.free in
      let row : Row = row_for s pid it.process id it.lwp in
      let suits = row-suits s pid it.process id it.lwp a in
      let found = found-live t.system pid q later in
      let its : row.did ≡ Faulted f = ap (λ (v : LwpTurn). v.turned.did) (sym it.is) ∙ did in
      let point : row.point ≡ Some (Fault f) = row-meets s pid it.process id it.lwp f its in
      let now : TracedSystem = counts s pid it.process id it.lwp a free row suits in
      let m =
      mapped-some (after_meeting row.point id) (process_of now pid) q
      (sym (under-change_under pid (after_meeting row.point id) now.processes)
      ∙ ap (λ (v : LwpTurn). process_of v.system pid) (sym it.is) ∙ found.0) in
      let x : TracedProcess = m.0 in
      let is : after_meeting (Some (Fault f)) id x ≡ q =
      ap (λ o. after_meeting o id x) (sym point) ∙ m.1.1 in
      let control : q.control ≡ x.control =
      ap (λ (y : TracedProcess). y.control) (sym m.1.1)
      ∙ meeting-same (λ (y : TracedProcess). y.control) (λ y es. refl) row.point id x in
      let traced_now : is_traced x.control (Fault f) ≡ true =
      ap (λ (c : TracedControl). is_traced c (Fault f)) (sym control)
      ∙ same-traced p q (Fault f) (turn-settings s pid p id t lawful live turn q later) ∙ traces in
      let so = kind-so s pid it.process id it.lwp row (row-kind s pid it.process id it.lwp) in
      let own = counted-moved s pid it.process id it.lwp a free row suits so x m.1.0 f point in
      let at = fault-at it.lwp row so f point in
      let stops =
      meeting-stops id (Fault f) x (moved traced row.transition.move it.lwp) k own.own traced_now
      (ap (λ (y : TracedProcess). lwp_of y id) is ∙ there) in (
        stops.0,
        (
          (at.0, stops.1.1 ∙ at.1),
          λ bpt. (
            it.lwp,
            (
              subst (λ (y : TracedProcess). lwp_of y id ≡ Some it.lwp) same it.there,
              stops.1.0 ∙ row-regs s pid it.process id it.lwp (its ∙ ap Faulted bpt),
            ),
          ),
        ),
      )

  -- one that was directed to stop stays at its phase
  pub turn-directed : (l : TracedLwp) → lwp_of p id ≡ Some l → l.control.directed ≡ true → (k : TracedLwp)
      → lwp_of q id ≡ Some k → k.phase ≡ l.phase
  unfolding with_lwp with_counted
  turn-directed l there directs k here =
      let it = turn-taken s pid id t turn in
      let same : it.process ≡ p = same_Some it.process p (sym it.live ∙ live) in
      let own : it.lwp ≡ l =
      same_Some it.lwp l (sym (subst (λ (y : TracedProcess). lwp_of y id ≡ Some it.lwp) same it.there) ∙ there) in
      let is : t ≡ settled s pid p id l (row_for s pid p id l) =
      it.is ∙ ap (λ (y : TracedProcess). settled s pid y id it.lwp (row_for s pid y id it.lwp)) same
      ∙ ap (λ (x : TracedLwp). settled s pid p id x (row_for s pid p id x)) own in
      let stopped : with_lwp_stopped id p ≡ q =
      same_Some (with_lwp_stopped id p) q
      (sym (ap (λ (v : LwpTurn). live_process v.system pid)
      (is ∙ ap (settled s pid p id l) (row-directed s pid p id l directs) ∙ stop-settled s pid p id l)
      ∙ stopped-live s pid p live id) ∙ later) in
      let m =
      mapped-some stopped_lwp (lwp_of p id) k
      (sym (under-change_under id stopped_lwp p.lwps) ∙ ap (λ (y : TracedProcess). lwp_of y id) stopped ∙ here) in
      ap (λ (x : TracedLwp). x.phase) (sym m.1.1)
      ∙ ap (λ (x : TracedLwp). x.phase) (same_Some m.0 l (sym m.1.0 ∙ there))

  -- where each lwp stands still or will stop, another one stays as it is
  pub turn-other : IsHalting p → (n : ℕ) (k : TracedLwp) → n ≢ id → lwp_of q n ≡ Some k → lwp_of p n ≡ Some k
  unfolding with_lwp with_counted
  turn-other halting n k apart there =
      sym (under-change_under_other id n stopped_lwp (λ is. apart (sym is)) p.lwps)
      ∙ ap (λ (y : TracedProcess). lwp_of y n)
      (same_Some (with_lwp_stopped id p) q (sym (halting-leaves s pid p live halting id t turn) ∙ later))
      ∙ there

  -- who has a turn stands on no stop
  pub turn-free : (l : TracedLwp) → lwp_of p id ≡ Some l → l.control.stop ≡ None
  turn-free l there =
      let it = turn-taken s pid id t turn in
      let same : it.process ≡ p = same_Some it.process p (sym it.live ∙ live) in
      let own : it.lwp ≡ l =
      same_Some it.lwp l (sym (subst (λ (y : TracedProcess). lwp_of y id ≡ Some it.lwp) same it.there) ∙ there) in
      ap (λ (x : TracedLwp). x.control.stop) (sym own) ∙ free-stopless it.process id it.lwp it.free
