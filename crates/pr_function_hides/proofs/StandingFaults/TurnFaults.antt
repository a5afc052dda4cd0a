use Rattle.std.proofs.Common.{◌≡◌, ◌≢◌, ◌⊎◌, ℕ, Bool, true, false, Option, Some, None, List, refl, sym, subst, ap, ◌∙◌, inl, inr}
use Rattle.std.proofs.lemmas.Bool.{cases_Bool, cases_eq, false≢true}
use Rattle.std.proofs.lemmas.Option.{none-some, same_Some}
use Rattle.pr_function_hides.proofs.StandingFaults.OwnFaults.{own-met}
use Rattle.pr_function_laws.proofs.OpenedProcesses.OneEventLemmas.{met-halting}
use Rattle.pr_function_laws.proofs.OpenedProcesses.StopTurns.{directed-leaves}
use Rattle.pr_function_laws.specs.OneEvent.{HasMetNothing, HasOneEventAtMost, met, unmet}
use Rattle.pr_keeps.proofs.RowLemmas.{row-kind}
use Rattle.pr_keeps.specs.RowKinds as kind
use Rattle.pr_keeps.specs.RowKinds.{RowKind}
use Rattle.pr_lawful.proofs.LawfulTurns.EndLemmas.{found-live}
use Rattle.pr_lawful.proofs.ProcessParts.FileLemmas.{choice}
use Rattle.pr_lawful.proofs.LawfulTurns.SuitingLemmas.{SuitsTransition, is_stop}
use Rattle.pr_lawful.proofs.LawfulTurns.TurnLemmas.{acting, row-suits}
use Rattle.pr_model.proofs.TurnLemmas.{turn-taken}
use Rattle.pr_model.specs.CallEffects.{call_effect}
use Rattle.pr_model.specs.Changes.{Effect, does, ends, sleeps as effect_sleeps}
use Rattle.pr_model.specs.InstructionEffects as instruction
use Rattle.pr_model.specs.InstructionEffects.{InstructionEffect, instruction_effect}
use Rattle.pr_model.specs.Lawful.{IsLawfulSystem}
use Rattle.pr_model.specs.LwpTurns.{LwpTurn, settled, turn_of, with_counted}
use Rattle.pr_model.specs.Machines.{stopped_as_directed, traced}
use Rattle.pr_model.specs.Points.{after_meeting, is_traced, stop_at, stopped_at, with_others_directed, with_stop_at}
use Rattle.pr_model.specs.Rows.{Row, entered_row, executed_row, handler_row, incurred_row, interrupted_row, own_taken_row, performed_row, posted_row, ran_row, requested_row, returned_row, row_for, shared_taken_row, watched_row}
use Rattle.pr_model.specs.State.{TracedLwp, TracedProcess, TracedSystem, live_process, lwp_of, process_of, with_lwp, with_process}
use Rattle.pr_model.specs.Stops.{directed, with_all_directed}
use Rattle.pr_model.specs.Transitions.{after_transition}
use Rattle.pr_model.specs.declared.events.Did.TheVariants.{Faulted}
use Rattle.pr_model.specs.declared.stops.Point.{Point}
use Rattle.pr_model.specs.declared.stops.Point.TheVariants.{Entry, Exit, Fault, Signal}
use Rattle.pr_model.specs.declared.stops.Stop.TheVariants as stop
use Rattle.pr_num.proofs.ByIdLaws.{under-change_under, under-change_under_other, under-map_each}
use Rattle.pr_num.specs.ById.{change_under, under}
use Rattle.pr_num.specs.Control.{async_mode, has_flags}
use Rattle.pr_num.specs.declared.faults.Flt.{Flt}
use Rattle.pr_num.specs.declared.faults.Flt.TheVariants.{Trace, Watch}
use Rattle.pr_num.specs.declared.syscalls.Sysno.{Sysno}
use Rattle.pr_report_laws.specs.AtBirth.{has_met, is_met_if}
use Rattle.pr_truss_laws.proofs.EventStops.BridgeLemmas.{mapped-some}
use Rattle.pr_truss_laws.proofs.EventStops.OwnTurnLemmas.{Carries, GoesOn, meeting-same, new, old, row-carries}
use Rattle.pr_truss_laws.proofs.Machine.StillLemmas.{halting-leaves, row-directed, stop-settled, stopped-live}
use Rattle.pr_truss_laws.specs.Stills.{stopped_lwp, with_lwp_stopped}

-- Which lwps stand on the stop of a fault after a turn of an lwp of their process: those that stood there before, or
-- the one whose turn it was, which incurred that fault.

-- ---- the row of a turn

point-same : {f g : Flt} → Fault g ≡ Fault f → g ≡ f
point-same is = cc

-- a row that met a fault incurred it
abbrev IncursIt : Flt → Row → Type 0
IncursIt f row = row.point ≡ Some (Fault f) → row.did ≡ Faulted f

incurs-so : (g f : Flt) → Some (Fault g) ≡ Some (Fault f) → Faulted g ≡ Faulted f
incurs-so g f is = ap Faulted (point-same (same_Some (Fault g) (Fault f) is))

taken-so : {A : Type 0} (f : Flt) (point : Point) → (point ≡ Fault f → ⊥) → Some point ≡ Some (Fault f) → A
taken-so f point other is = absurd (other (same_Some point (Fault f) is))

quiet-so : {A : Type 0} (f : Flt) → (let o : Option Point = None in o) ≡ Some (Fault f) → A
quiet-so f is = absurd (none-some (Fault f) is)

module _ (s : TracedSystem) (pid : ℕ) (p : TracedProcess) (id : ℕ) (l : TracedLwp) (f : Flt) where
  performed-incurs : (woken : Bool) (call : Sysno) (args : List ℕ) (since : ℕ) (effect : Effect)
      → IncursIt f (performed_row woken call args since effect)
  unfolding performed_row
  performed-incurs woken call args since (does result changes) = λ met. taken-so f (Exit call) (λ same. cc) met
  performed-incurs woken call args since effect_sleeps = λ met. quiet-so f met
  performed-incurs woken call args since (ends how) = λ met. quiet-so f met

  executed-incurs : (e : InstructionEffect) → IncursIt f (executed_row p l e)
  unfolding executed_row ran_row entered_row incurred_row watched_row
  executed-incurs (instruction.runs regs store) =
      choice (IncursIt f) l.control.step _ _ (λ marked is. incurs-so Trace f is) (λ plain met. quiet-so f met)
  executed-incurs (instruction.calls call regs) = λ met. taken-so f (Entry call) (λ same. cc) met
  executed-incurs (instruction.faults g address) = λ is. incurs-so g f is
  executed-incurs (instruction.runs_into_watch address regs store) = λ is. incurs-so Watch f is

  returned-incurs : (call : Sysno) → IncursIt f (returned_row p l call)
  unfolding returned_row
  returned-incurs call =
      choice (IncursIt f) l.control.step _ _ (λ marked is. incurs-so Trace f is) (λ plain met. quiet-so f met)

  kind-incurs : (row : Row) → RowKind s pid p id l row → IncursIt f row
  unfolding requested_row posted_row handler_row own_taken_row shared_taken_row interrupted_row
  kind-incurs row (kind.takes_own {g = g} none is) = λ met. taken-so f (Signal g) (λ same. cc) met
  kind-incurs row (kind.takes_shared {g = g} none own is) = λ met. taken-so f (Signal g) (λ same. cc) met
  kind-incurs row (kind.interrupts {call = call} it why) = λ met. taken-so f (Exit call) (λ same. cc) met
  kind-incurs row (kind.performs {woken = woken} {call = call} {args = args} {since = since} it goes none) =
      performed-incurs woken call args since (call_effect s pid p id l since call args)
  kind-incurs row (kind.returns {call = call} at none) = returned-incurs call
  kind-incurs row (kind.executes at none) = executed-incurs (instruction_effect p.space p.control.areas l.regs)
  kind-incurs row _ = λ met. quiet-so f met

  row-incurs : IncursIt f (row_for s pid p id l)
  row-incurs = kind-incurs (row_for s pid p id l) (row-kind s pid p id l)

-- ---- the point that was met

point-faulted : (pt : Point) (f : Flt) → stop_at pt ≡ stop.Faulted f → pt ≡ Fault f
point-faulted (Signal g) f is = cc
point-faulted (Fault g) f is = let same : g ≡ f = cc in ap (λ x. Fault x) same
point-faulted (Entry c) f is = cc
point-faulted (Exit c) f is = cc

module _ (id : ℕ) (x : TracedProcess) (none : HasMetNothing x) where
  -- an lwp that stands on the stop of a fault is this one, and that fault was met
  abbrev Met : Option Point → TracedProcess → Type 0
  Met point y =
      (n : ℕ) (k : TracedLwp) (f : Flt) → lwp_of y n ≡ Some k → k.control.stop ≡ Some (stop.Faulted f)
      → (n ≡ id) × (point ≡ Some (Fault f))

  was-none : {A : Type 0} (n : ℕ) (k : TracedLwp) (f : Flt) → lwp_of x n ≡ Some k
      → k.control.stop ≡ Some (stop.Faulted f) → A
  was-none n k f there is = absurd (false≢true (sym (none n k there) ∙ own-met k f is))

  stopped-met : (pt : Point) → Met (Some pt) (with_lwp id (stopped_at pt) x)
  unfolding with_lwp stopped_at
  stopped-met pt n k f there is = elim (cases_eq id n) [
    | inl same ↦ (sym same, ap (λ y. Some y) (own same))
    | inr apart ↦ was-none n k f (sym (under-change_under_other id n (stopped_at pt) apart x.lwps) ∙ there) is
  ]
    where
      own : id ≡ n → pt ≡ Fault f
      own same =
          let m =
          mapped-some (stopped_at pt) (lwp_of x n) k
          (sym (under-change_under n (stopped_at pt) x.lwps)
          ∙ subst (λ i. under n (change_under i (stopped_at pt) x.lwps) ≡ Some k) same there) in
          point-faulted pt f
          (same_Some (stop_at pt) (stop.Faulted f) (ap (λ (y : TracedLwp). y.control.stop) m.1.1 ∙ is))

  directed-met : (point : Option Point) (y : TracedProcess) → Met point y → Met point (with_all_directed y)
  unfolding with_all_directed
  directed-met point y all n k f there is =
      let m = mapped-some directed (lwp_of y n) k (sym (under-map_each n directed y.lwps) ∙ there) in
      let leaves = directed-leaves in
      all n m.0 f m.1.0 (sym (leaves.stops m.0) ∙ ap (λ (z : TracedLwp). z.control.stop) m.1.1 ∙ is)

  meeting-met : (point : Option Point) → Met point (after_meeting point id x)
  unfolding after_meeting with_stop_at with_others_directed
  meeting-met None = λ n k f there is. was-none n k f there is
  meeting-met (Some pt) =
      choice (Met (Some pt)) (is_traced x.control pt) _ x
      (λ traces. choice (Met (Some pt)) (has_flags (with_lwp id (stopped_at pt) x).control.modes async_mode)
      (with_lwp id (stopped_at pt) x) (with_all_directed (with_lwp id (stopped_at pt) x)) (λ alone. stopped-met pt)
      (λ others. directed-met (Some pt) (with_lwp id (stopped_at pt) x) (stopped-met pt)))
      (λ passes n k f there is. was-none n k f there is)

-- ---- a turn

-- it went on from one that met nothing
carried-unmet : (p x : TracedProcess) → GoesOn p x → HasMetNothing p → HasMetNothing x
carried-unmet p x goes none n k there = by (goes.lwps n k there)
  where
    by : Carries p n k → has_met k ≡ false
    by (new free) = ap is_met_if free.no_stop
    by (old l at stops mark) = ap is_met_if stops ∙ none n l at

stopped-unmet : (l : TracedLwp) → has_met (stopped_lwp l) ≡ false
unfolding stopped_as_directed
stopped-unmet l = refl

module _ (s : TracedSystem) (pid : ℕ) (p : TracedProcess) (id : ℕ) (l : TracedLwp) (h : IsLawfulSystem s)
    (live : live_process s pid ≡ Some p) (moves_on : l.control.directed ≡ false) (none : HasMetNothing p) (row : Row)
    (suits : SuitsTransition s pid p id l row.transition) where
  abbrev before_point : TracedSystem
  before_point =
      with_process pid (with_counted row.did row.begun) (after_transition traced pid p id l row.transition s)

  no-stop : is_stop row.transition.move ≡ false
  no-stop = elim (cases_Bool (is_stop row.transition.move)) [
    | inl stops ↦ absurd (false≢true (sym moves_on ∙ (suits.stop stops).0))
    | inr goes ↦ goes
  ]

  row-met : (q : TracedProcess)
      → process_of (with_process pid (after_meeting row.point id) before_point) pid ≡ Some q → q.ended ≡ None
      → (n : ℕ) (k : TracedLwp) (f : Flt) → lwp_of q n ≡ Some k → k.control.stop ≡ Some (stop.Faulted f)
      → (n ≡ id) × (row.point ≡ Some (Fault f))
  unfolding with_process
  row-met q found over n k f there is =
      let m =
      mapped-some (after_meeting row.point id) (process_of before_point pid) q
      (sym (under-change_under pid (after_meeting row.point id) before_point.processes) ∙ found) in
      let same = meeting-same (λ (y : TracedProcess). y.ended) (λ y es. refl) row.point id m.0 in
      let carried = row-carries pid p id l row s h no-stop suits in
      let from = carried.from m.0 m.1.0 (sym same ∙ ap (λ (y : TracedProcess). y.ended) m.1.1 ∙ over) in
      let was = found-live s pid p live in
      let goes : GoesOn p m.0 =
      subst (λ (y : TracedProcess). GoesOn y m.0) (same_Some from.0 p (sym from.1.0 ∙ was.0)) from.1.1 in
      meeting-met id m.0 (carried-unmet p m.0 goes none) row.point n k f
      (ap (λ (y : TracedProcess). lwp_of y n) m.1.1 ∙ there) is

module _ (s : TracedSystem) (pid : ℕ) (p : TracedProcess) (id : ℕ) (t : LwpTurn) (lawful : IsLawfulSystem s)
    (live : live_process s pid ≡ Some p) (turn : turn_of s pid id ≡ Some t) (q : TracedProcess)
    (later : live_process t.system pid ≡ Some q) where
  -- it stops as it was directed to
  stopped-other : with_lwp_stopped id p ≡ q → (n : ℕ) (k : TracedLwp) → lwp_of q n ≡ Some k → has_met k ≡ true
      → (n ≢ id) × (lwp_of p n ≡ Some k)
  unfolding with_lwp with_counted
  stopped-other stopped n k there its = elim (cases_eq id n) [
    | inl same ↦ own same
    | inr apart ↦ (
      (λ is. apart (sym is)),
      sym (under-change_under_other id n stopped_lwp apart p.lwps)
          ∙ ap (λ (y : TracedProcess). lwp_of y n) stopped ∙ there,
    )
  ]
    where
      own : {A : Type 0} → id ≡ n → A
      own same =
          let m =
          mapped-some stopped_lwp (lwp_of p id) k
          (sym (under-change_under id stopped_lwp p.lwps) ∙ ap (λ (y : TracedProcess). lwp_of y id) stopped
          ∙ subst (λ i. lwp_of q i ≡ Some k) (sym same) there) in
          absurd (false≢true (sym (stopped-unmet m.0) ∙ ap has_met m.1.1 ∙ its))

  unmet-turn : HasMetNothing p → (n : ℕ) (k : TracedLwp) (f : Flt) → lwp_of q n ≡ Some k
      → k.control.stop ≡ Some (stop.Faulted f) → (n ≡ id) × (t.turned.did ≡ Faulted f)
  unfolding settled
  unmet-turn none n k f there met_it =
      let it = turn-taken s pid id t turn in
      let same : it.process ≡ p = same_Some it.process p (sym it.live ∙ live) in
      let own : lwp_of p id ≡ Some it.lwp =
      subst (λ (y : TracedProcess). lwp_of y id ≡ Some it.lwp) same it.there in
      let is : t ≡ settled s pid p id it.lwp (row_for s pid p id it.lwp) =
      it.is ∙ ap (λ (y : TracedProcess). settled s pid y id it.lwp (row_for s pid y id it.lwp)) same in
      let a = acting s pid id p it.lwp lawful live own in
      let row : Row = row_for s pid p id it.lwp in
      let found = found-live t.system pid q later in
      elim (cases_Bool it.lwp.control.directed) [
        | inl will ↦
            (let w =
            stopped-other
            (same_Some (with_lwp_stopped id p) q
            (sym (ap (λ (v : LwpTurn). live_process v.system pid)
            (is ∙ ap (settled s pid p id it.lwp) (row-directed s pid p id it.lwp will)
            ∙ stop-settled s pid p id it.lwp) ∙ stopped-live s pid p live id) ∙ later)) n k there
            (own-met k f met_it) in
            absurd (false≢true (sym (none n k w.1) ∙ own-met k f met_it)))
        | inr goes ↦
            (let w =
            row-met s pid p id it.lwp lawful live goes none row (row-suits s pid p id it.lwp a) q
            (ap (λ (v : LwpTurn). process_of v.system pid) (sym is) ∙ found.0) found.1 n k f there met_it in
            (w.0, ap (λ (v : LwpTurn). v.turned.did) is ∙ row-incurs s pid p id it.lwp f w.1))
      ]

  -- it stood there before, or it is the one whose turn it was, and incurred that fault
  pub turn-met : HasOneEventAtMost p → (n : ℕ) (k : TracedLwp) (f : Flt) → lwp_of q n ≡ Some k
      → k.control.stop ≡ Some (stop.Faulted f)
      → ((n ≢ id) × (lwp_of p n ≡ Some k)) ⊎ ((n ≡ id) × (t.turned.did ≡ Faulted f))
  turn-met (unmet none) n k f there is = inr (unmet-turn none n k f there is)
  turn-met (met one w) n k f there is =
      inl (stopped-other
      (same_Some (with_lwp_stopped id p) q
      (sym (halting-leaves s pid p live (met-halting p one w) id t turn) ∙ later)) n k there (own-met k f is))

  -- an lwp that incurred a fault was not directed to stop
  pub fault-free : (f : Flt) → t.turned.did ≡ Faulted f → (l : TracedLwp) → lwp_of p id ≡ Some l
      → l.control.directed ≡ false
  unfolding settled requested_row
  fault-free f did l there = elim (cases_Bool l.control.directed) [
    | inr free ↦ free
    | inl will ↦ absurd (faulted-not (sym did ∙ stops will))
  ]
    where
      faulted-not : Faulted f ≡ requested_row.did → ⊥
      faulted-not same = cc

      stops : l.control.directed ≡ true → t.turned.did ≡ requested_row.did
      stops will =
          let it = turn-taken s pid id t turn in
          let same : it.process ≡ p = same_Some it.process p (sym it.live ∙ live) in
          let own : it.lwp ≡ l =
          same_Some it.lwp l (sym (subst (λ (y : TracedProcess). lwp_of y id ≡ Some it.lwp) same it.there) ∙ there) in
          let is : t ≡ settled s pid p id l (row_for s pid p id l) =
          it.is ∙ ap (λ (y : TracedProcess). settled s pid y id it.lwp (row_for s pid y id it.lwp)) same
          ∙ ap (λ (x : TracedLwp). settled s pid p id x (row_for s pid p id x)) own in
          ap (λ (v : LwpTurn). v.turned.did) is ∙ ap (λ (r : Row). r.did) (row-directed s pid p id l will)
