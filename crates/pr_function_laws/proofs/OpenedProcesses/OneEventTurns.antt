use Rattle.std.proofs.Common.{◌≡◌, ◌≢◌, ◌||◌, ◌&&◌, ℕ, Bool, true, false, not, cond, None, Some, Option, refl, sym, subst, ap, ◌∙◌, inl, inr}
use Rattle.std.proofs.lemmas.Bool.{cases_Bool, cases_eq, false≢true}
use Rattle.std.proofs.lemmas.Option.{none-some, same_Some}
use Rattle.std.specs.Option.{option_map}
use Rattle.pr_keeps.proofs.RowLemmas.{row-kind}
use Rattle.pr_lawful.proofs.LawfulTurns.EffectLemmas.{IsActing}
use Rattle.pr_lawful.proofs.LawfulTurns.EndLemmas.{found-live}
use Rattle.pr_lawful.proofs.ProcessParts.FileLemmas.{choice}
use Rattle.pr_lawful.proofs.LawfulTurns.SuitingLemmas.{SuitsTransition, is_stop}
use Rattle.pr_lawful.proofs.LawfulTurns.TurnLemmas.{acting, row-suits}
use Rattle.pr_model.proofs.TurnLemmas.{turn-taken}
use Rattle.pr_model.specs.Lawful.{IsLawfulSystem}
use Rattle.pr_model.specs.LwpTurns.{LwpTurn, is_held_back, settled, turn_of, with_counted}
use Rattle.pr_model.specs.Machines.{fault_incurred, fault_posted, stopped_as_directed, traced}
use Rattle.pr_model.specs.Moves.{Move, moved}
use Rattle.pr_model.specs.Moves as move
use Rattle.pr_model.specs.Points.{after_meeting, is_traced, meets, stop_at, stopped_at, with_others_directed, with_stop_at}
use Rattle.pr_model.specs.Readers.{has_lent}
use Rattle.pr_model.specs.Rows.{Row, row_for}
use Rattle.pr_model.specs.State.{TracedControl, TracedLwp, TracedProcess, TracedSystem, live_process, lwp_of, process_of, with_lwp, with_lwp_of, with_process}
use Rattle.pr_model.specs.Stops.{directed, has_event_stop, with_all_directed}
use Rattle.pr_model.specs.Transitions.{after_transition}
use Rattle.pr_model.specs.declared.stops.Point.{Point}
use Rattle.pr_model.specs.declared.stops.Point.TheVariants.{Signal, Fault, Entry, Exit}
use Rattle.pr_model.specs.declared.stops.Stop.TheVariants as stop
use Rattle.pr_num.proofs.ByIdLaws.{under-change_under, under-change_under_other, under-map_each}
use Rattle.pr_num.specs.ById.{change_under, under}
use Rattle.pr_num.specs.Control.{async_mode, has_flags}
use Rattle.pr_num.specs.declared.faults.Flt.{Flt}
use Rattle.pr_report_laws.proofs.Machine.StoppedLaws.{no-thing}
use Rattle.pr_report_laws.specs.AtBirth.{has_met, is_met_if}
use Rattle.pr_report_laws.specs.Positions.{IsHeld}
use Rattle.pr_truss_laws.proofs.EventStops.BridgeLemmas.{mapped-some}
use Rattle.pr_truss_laws.proofs.EventStops.OwnTurnLemmas.{Carries, GoesOn, all-directed, meeting-same, new, old, row-carries}
use Rattle.pr_truss_laws.proofs.Machine.StillLemmas.{halting-leaves, row-directed, stop-settled, stopped-live}
use Rattle.pr_truss_laws.specs.Stills.{HasSameSettings, is_met, stopped_lwp, will_stop, with_lwp_stopped}
use Rattle.pr_function_laws.proofs.OpenedProcesses.OneEventLemmas.{met-halting, stands-unheld}
use Rattle.pr_function_laws.proofs.OpenedProcesses.StopTurns.{FaultsSo, counted-moved, directed-leaves, free-stopless, kind-so}
use Rattle.pr_function_laws.proofs.Stepping.StretchLemmas.{stopped-lent}
use Rattle.pr_function_laws.specs.OneEvent.{HasMetAlone, HasMetNothing, HasOneEventAtMost, IsAwakeAtFault, met, unmet}

-- The turns of the lwps of a process leave at most one of them on an event that it met, where PR_ASYNC is not set.

-- ---- an lwp stops as it was directed to

stopped-one : (own : ℕ) (p : TracedProcess) (k : TracedLwp) → lwp_of (with_lwp_stopped own p) own ≡ Some k
    → (l : TracedLwp) × ((lwp_of p own ≡ Some l) × (stopped_lwp l ≡ k))
unfolding with_lwp with_counted
stopped-one own p k there =
    mapped-some stopped_lwp (lwp_of p own) k (sym (under-change_under own stopped_lwp p.lwps) ∙ there)

stopped-other : (own n : ℕ) (p : TracedProcess) → own ≢ n → lwp_of (with_lwp_stopped own p) n ≡ lwp_of p n
unfolding with_lwp with_counted
stopped-other own n p differs = under-change_under_other own n stopped_lwp differs p.lwps

stopped-held : (l : TracedLwp) → IsHeld (stopped_lwp l)
unfolding stopped_as_directed
stopped-held l = record { stops = refl; met_nothing = refl }

stopped-unmet : (own : ℕ) (p : TracedProcess) → HasMetNothing p → HasMetNothing (with_lwp_stopped own p)
stopped-unmet own p none n k there = elim (cases_eq own n) [
  | inl same ↦
      let m = stopped-one own p k (subst (λ i. lwp_of (with_lwp_stopped own p) i ≡ Some k) (sym same) there) in
      let held = stopped-held m.0 in
      ap has_met (sym m.1.1) ∙ held.met_nothing
  | inr other ↦ none n k (sym (stopped-other own n p other) ∙ there)
]

stopped-met : (own id : ℕ) (p : TracedProcess) → own ≢ id → HasMetAlone p id → HasMetAlone (with_lwp_stopped own p) id
stopped-met own id p differs w = record {
  lwp = w.lwp;
  there = stopped-other own id p differs ∙ w.there;
  stands = w.stands;
  awake = w.awake;
  not_lent = λ f is. stopped-lent own p ∙ w.not_lent f is;
  others = λ n k apart there. elim (cases_eq own n) [
    | inl same ↦ own-held n k same there
    | inr other ↦ w.others n k apart (sym (stopped-other own n p other) ∙ there)
  ];
}
  where
    own-held : (n : ℕ) (k : TracedLwp) → own ≡ n → lwp_of (with_lwp_stopped own p) n ≡ Some k → IsHeld k
    own-held n k same there =
        let m = stopped-one own p k (subst (λ i. lwp_of (with_lwp_stopped own p) i ≡ Some k) (sym same) there) in
        subst IsHeld m.1.1 (stopped-held m.0)

-- ---- the point that was met

pub directed-held : (l : TracedLwp) → will_stop (directed l) ≡ true → has_met l ≡ false → IsHeld (directed l)
directed-held l stops none = record {
  stops = stops;
  met_nothing = let leaves = directed-leaves in ap is_met_if (leaves.stops l) ∙ none;
}

pub directed-suspended : (l : TracedLwp) → (directed l).suspended ≡ l.suspended
unfolding directed
directed-suspended l =
    elim (has_event_stop l) as
    (λ b. (cond b l (record l { control = record l.control { directed = true } })).suspended ≡ l.suspended)
    [ true ↦ refl | false ↦ refl ]

pub point-met : (pt : Point) → is_met (stop_at pt) ≡ true
point-met (Signal g) = refl
point-met (Fault f) = refl
point-met (Entry c) = refl
point-met (Exit c) = refl

point-faulted : (pt : Point) (f : Flt) → stop_at pt ≡ stop.Faulted f → pt ≡ Fault f
point-faulted (Signal g) f is = cc
point-faulted (Fault g) f is = let same : g ≡ f = cc in ap (λ x. Fault x) same
point-faulted (Entry c) f is = cc
point-faulted (Exit c) f is = cc

-- the lwp of a turn that met a fault was not suspended, and its process had lent its memory to nobody
record IsFreeAt (id : ℕ) (x : TracedProcess) : Type 0 where
  awake : (k : TracedLwp) → lwp_of x id ≡ Some k → k.suspended ≡ false
  not_lent : x.borrower ≡ None

abbrev IsFreeMeeting : Point → ℕ → TracedProcess → Type 0
IsFreeMeeting pt id x = (f : Flt) → pt ≡ Fault f → IsFreeAt id x

module _ (pt : Point) (id : ℕ) (x : TracedProcess) (none : HasMetNothing x) (free : IsFreeMeeting pt id x) where
  abbrev stopped : TracedProcess
  stopped = with_lwp id (stopped_at pt) x

  own-there : (k : TracedLwp) → lwp_of x id ≡ Some k
      → lwp_of (with_all_directed stopped) id ≡ Some (directed (stopped_at pt k))
  unfolding with_all_directed with_lwp
  own-there k there =
      under-map_each id directed (change_under id (stopped_at pt) x.lwps)
      ∙ ap (option_map directed) (under-change_under id (stopped_at pt) x.lwps ∙ ap (option_map (stopped_at pt)) there)

  own-gone : lwp_of x id ≡ None → lwp_of (with_all_directed stopped) id ≡ None
  unfolding with_all_directed with_lwp
  own-gone gone =
      under-map_each id directed (change_under id (stopped_at pt) x.lwps)
      ∙ ap (option_map directed) (under-change_under id (stopped_at pt) x.lwps ∙ ap (option_map (stopped_at pt)) gone)

  other-from : (n : ℕ) (k : TracedLwp) → id ≢ n → lwp_of (with_all_directed stopped) n ≡ Some k
      → (l : TracedLwp) × ((lwp_of x n ≡ Some l) × (directed l ≡ k))
  unfolding with_all_directed with_lwp
  other-from n k other there =
      let m =
      mapped-some directed (under n (change_under id (stopped_at pt) x.lwps)) k
      (sym (under-map_each n directed (change_under id (stopped_at pt) x.lwps)) ∙ there) in
      (m.0, (sym (under-change_under_other id n (stopped_at pt) other x.lwps) ∙ m.1.0, m.1.1))

  other-held : (n : ℕ) (k : TracedLwp) → id ≢ n → lwp_of (with_all_directed stopped) n ≡ Some k → IsHeld k
  other-held n k other there =
      let m = other-from n k other there in
      let halting = all-directed stopped in
      subst IsHeld m.1.1
      (directed-held m.0 (ap will_stop m.1.1 ∙ halting.each n k there) (none n m.0 m.1.0))

  own-stop : (k : TracedLwp) → (directed (stopped_at pt k)).control.stop ≡ Some (stop_at pt)
  unfolding stopped_at
  own-stop k = let leaves = directed-leaves in leaves.stops (stopped_at pt k)

  own-awake : (k : TracedLwp) → lwp_of x id ≡ Some k → IsAwakeAtFault (directed (stopped_at pt k))
  unfolding stopped_at
  own-awake k there f is =
      let it = free f (point-faulted pt f (same_Some (stop_at pt) (stop.Faulted f) (sym (own-stop k) ∙ is))) in
      directed-suspended (stopped_at pt k) ∙ it.awake k there

  same-loan : (with_all_directed stopped).borrower ≡ x.borrower
  unfolding with_all_directed with_lwp
  same-loan = refl

  own-loan : (k : TracedLwp) (f : Flt) → (directed (stopped_at pt k)).control.stop ≡ Some (stop.Faulted f)
      → (with_all_directed stopped).borrower ≡ None
  own-loan k f is =
      let it = free f (point-faulted pt f (same_Some (stop_at pt) (stop.Faulted f) (sym (own-stop k) ∙ is))) in
      same-loan ∙ it.not_lent

  halted : HasOneEventAtMost (with_all_directed stopped)
  halted = by (lwp_of x id) refl
    where
      by : (o : Option TracedLwp) → lwp_of x id ≡ o → HasOneEventAtMost (with_all_directed stopped)
      by None gone =
          unmet (λ n k there. elim (cases_eq id n) [
            | inl same ↦ absurd
                (none-some k (sym (own-gone gone)
                ∙ subst (λ i. lwp_of (with_all_directed stopped) i ≡ Some k) (sym same) there))
            | inr other ↦ (let held = other-held n k other there in held.met_nothing)
          ])
      by (Some k) there =
          met id (record {
            lwp = directed (stopped_at pt k);
            there = own-there k there;
            stands = record { stop = stop_at pt; is = own-stop k; met = point-met pt };
            awake = own-awake k there;
            not_lent = own-loan k;
            others = λ n l apart at. other-held n l (λ same. apart (sym same)) at;
          })

  same-modes : stopped.control ≡ x.control
  unfolding with_lwp
  same-modes = refl

  meeting-few : has_flags x.control.modes async_mode ≡ false → HasOneEventAtMost (after_meeting (Some pt) id x)
  unfolding after_meeting with_stop_at with_others_directed
  meeting-few directs =
      choice HasOneEventAtMost (is_traced x.control pt) _ _
      (λ traces. choice HasOneEventAtMost (has_flags stopped.control.modes async_mode) _ _
      (λ alone. absurd (false≢true (sym directs
      ∙ ap (λ (c : TracedControl). has_flags c.modes async_mode) (sym same-modes) ∙ alone)))
      (λ others. halted)) (λ passes. unmet none)

-- ---- a turn

-- a move leaves an lwp suspended, or not
moved-suspended : (m : Move) (l : TracedLwp) → (moved traced m l).suspended ≡ l.suspended
unfolding moved traced fault_posted fault_incurred
moved-suspended move.stays l = refl
moved-suspended move.stops l = refl
moved-suspended (move.posts f address) l = refl
moved-suspended move.returns l = refl
moved-suspended (move.runs regs) l = refl
moved-suspended (move.enters call regs) l = refl
moved-suspended (move.incurs f address) l = refl
moved-suspended (move.traps f address regs) l = refl
moved-suspended (move.leaves call args result) l = refl
moved-suspended (move.sleeps call args since) l = refl
moved-suspended (move.takes c own) l = refl
moved-suspended move.drops l = refl
moved-suspended (move.catches frames regs held) l = refl

-- an lwp that has a turn is not suspended
free-awake : (p : TracedProcess) (id : ℕ) (l : TracedLwp) → is_held_back p id l ≡ false → l.suspended ≡ false
unfolding is_held_back
free-awake p id l free = by (has_event_stop l) l.suspended _ free
  where
    by : (a b c : Bool) → (a || (b || c)) ≡ false → b ≡ false
    by false false c is = refl
    by false true c is = cc
    by true b c is = cc

-- one that has a turn, but not to stop as directed, is of a process that has lent nothing
free-lent : (p : TracedProcess) (id : ℕ) (l : TracedLwp) → is_held_back p id l ≡ false → l.control.directed ≡ false
    → p.borrower ≡ None
unfolding is_held_back
free-lent p id l free moves_on =
    no-thing p.borrower
    (by (has_event_stop l) l.suspended _ (has_lent p) (not l.control.directed) free (ap not moves_on))
  where
    by : (a b c d e : Bool) → (a || (b || (c || (d && e)))) ≡ false → e ≡ true → d ≡ false
    by false false false false e is goes = refl
    by false false false true true is goes = cc
    by false false false true false is goes = cc
    by false false true d e is goes = cc
    by false true c d e is goes = cc
    by true b c d e is goes = cc

-- it went on from one that met nothing
carried-unmet : (p x : TracedProcess) → GoesOn p x → HasMetNothing p → HasMetNothing x
carried-unmet p x goes none n k there = by (goes.lwps n k there)
  where
    by : Carries p n k → has_met k ≡ false
    by (new free) = ap is_met_if free.no_stop
    by (old l at stop mark) = ap is_met_if stop ∙ none n l at

module _ (s : TracedSystem) (pid : ℕ) (p : TracedProcess) (id : ℕ) (l : TracedLwp) (h : IsLawfulSystem s)
    (live : live_process s pid ≡ Some p) (a : IsActing s pid p id l) (free : is_held_back p id l ≡ false)
    (moves_on : l.control.directed ≡ false) (none : HasMetNothing p)
    (directs : has_flags p.control.modes async_mode ≡ false) (row : Row)
    (suits : SuitsTransition s pid p id l row.transition) (so : FaultsSo l row) where
  abbrev before_point : TracedSystem
  before_point =
      with_process pid (with_counted row.did row.begun) (after_transition traced pid p id l row.transition s)

  no-stop : is_stop row.transition.move ≡ false
  no-stop = elim (cases_Bool (is_stop row.transition.move)) [
    | inl stops ↦ absurd (false≢true (sym moves_on ∙ (suits.stop stops).0))
    | inr goes ↦ goes
  ]

  free-there : (x : TracedProcess) → process_of before_point pid ≡ Some x → (f : Flt) → row.point ≡ Some (Fault f)
      → IsFreeAt id x
  unfolding after_transition with_lwp_of
  free-there x found f is =
      let it = counted-moved s pid p id l a (free-stopless p id l free) row suits so x found f is in
      record {
        awake = λ k there.
            ap (λ (y : TracedLwp). y.suspended)
            (sym (same_Some (moved traced row.transition.move l) k (sym it.own ∙ there)))
            ∙ moved-suspended row.transition.move l
            ∙ free-awake p id l free;
        not_lent = it.loan ∙ free-lent p id l free moves_on;
      }

  met-few : (point : Option Point) → row.point ≡ point → (x : TracedProcess) → process_of before_point pid ≡ Some x
      → GoesOn p x → HasOneEventAtMost (after_meeting point id x)
  unfolding after_meeting
  met-few None is x found goes = unmet (carried-unmet p x goes none)
  met-few (Some pt) is x found goes =
      let settings : HasSameSettings p x = goes.settings in
      meeting-few pt id x (carried-unmet p x goes none)
      (λ f same. free-there x found f (is ∙ ap (λ y. Some y) same))
      (ap (λ (c : TracedControl). has_flags c.modes async_mode) settings.control ∙ directs)

  -- where it met no point that is traced, still none stands on an event
  unmet-if : (point : Option Point) → meets p.control point ≡ false → (x : TracedProcess) → GoesOn p x
      → HasMetNothing (after_meeting point id x)
  unfolding after_meeting with_stop_at with_others_directed is_traced
  unmet-if None off x goes = carried-unmet p x goes none
  unmet-if (Some pt) off x goes =
      let settings : HasSameSettings p x = goes.settings in
      choice HasMetNothing (is_traced x.control pt) _ _
      (λ traces. absurd (false≢true (sym (ap (λ (c : TracedControl). is_traced c pt) settings.control ∙ off) ∙ traces)))
      (λ passes. carried-unmet p x goes none)

  pub row-unmet : meets p.control row.point ≡ false → (q : TracedProcess)
      → process_of (with_process pid (after_meeting row.point id) before_point) pid ≡ Some q → q.ended ≡ None
      → HasMetNothing q
  unfolding with_process
  row-unmet off q found over =
      let m =
      mapped-some (after_meeting row.point id) (process_of before_point pid) q
      (sym (under-change_under pid (after_meeting row.point id) before_point.processes) ∙ found) in
      let same = meeting-same (λ (y : TracedProcess). y.ended) (λ y es. refl) row.point id m.0 in
      let carried = row-carries pid p id l row s h no-stop suits in
      let from = carried.from m.0 m.1.0 (sym same ∙ ap (λ (y : TracedProcess). y.ended) m.1.1 ∙ over) in
      let was = found-live s pid p live in
      let goes : GoesOn p m.0 =
      subst (λ (y : TracedProcess). GoesOn y m.0) (same_Some from.0 p (sym from.1.0 ∙ was.0)) from.1.1 in
      subst HasMetNothing m.1.1 (unmet-if row.point off m.0 goes)

  pub row-few : (q : TracedProcess)
      → process_of (with_process pid (after_meeting row.point id) before_point) pid ≡ Some q → q.ended ≡ None
      → HasOneEventAtMost q
  unfolding with_process
  row-few q found over =
      let m =
      mapped-some (after_meeting row.point id) (process_of before_point pid) q
      (sym (under-change_under pid (after_meeting row.point id) before_point.processes) ∙ found) in
      let same = meeting-same (λ (y : TracedProcess). y.ended) (λ y es. refl) row.point id m.0 in
      let carried = row-carries pid p id l row s h no-stop suits in
      let from = carried.from m.0 m.1.0 (sym same ∙ ap (λ (y : TracedProcess). y.ended) m.1.1 ∙ over) in
      let was = found-live s pid p live in
      let goes : GoesOn p m.0 =
      subst (λ (y : TracedProcess). GoesOn y m.0) (same_Some from.0 p (sym from.1.0 ∙ was.0)) from.1.1 in
      subst HasOneEventAtMost m.1.1 (met-few row.point refl m.0 m.1.0 goes)

module _ (s : TracedSystem) (pid : ℕ) (p : TracedProcess) (own : ℕ) (t : LwpTurn) (h : IsLawfulSystem s)
    (live : live_process s pid ≡ Some p) (turn : turn_of s pid own ≡ Some t)
    (directs : has_flags p.control.modes async_mode ≡ false) (q : TracedProcess)
    (later : live_process t.system pid ≡ Some q) where
  unmet-turn : HasMetNothing p → HasOneEventAtMost q
  unfolding settled
  unmet-turn none =
      let it = turn-taken s pid own t turn in
      let same : it.process ≡ p = same_Some it.process p (sym it.live ∙ live) in
      let there : lwp_of p own ≡ Some it.lwp =
      subst (λ (y : TracedProcess). lwp_of y own ≡ Some it.lwp) same it.there in
      let is : t ≡ settled s pid p own it.lwp (row_for s pid p own it.lwp) =
      it.is ∙ ap (λ (y : TracedProcess). settled s pid y own it.lwp (row_for s pid y own it.lwp)) same in
      let free : is_held_back p own it.lwp ≡ false =
      subst (λ (y : TracedProcess). is_held_back y own it.lwp ≡ false) same it.free in
      let a = acting s pid own p it.lwp h live there in
      let row : Row = row_for s pid p own it.lwp in
      let found = found-live t.system pid q later in
      elim (cases_Bool it.lwp.control.directed) [
        | inl will ↦ subst HasOneEventAtMost
            (same_Some (with_lwp_stopped own p) q
            (sym (ap (λ (v : LwpTurn). live_process v.system pid)
            (is ∙ ap (settled s pid p own it.lwp) (row-directed s pid p own it.lwp will)
            ∙ stop-settled s pid p own it.lwp) ∙ stopped-live s pid p live own) ∙ later))
            (unmet (stopped-unmet own p none))
        | inr goes ↦ row-few s pid p own it.lwp h live a free goes none directs row (row-suits s pid p own it.lwp a)
            (kind-so s pid p own it.lwp row (row-kind s pid p own it.lwp)) q
            (ap (λ (v : LwpTurn). process_of v.system pid) (sym is) ∙ found.0) found.1
      ]

  -- a turn in which its lwp met no point that is traced
  pub turn-unmet : HasMetNothing p → t.turned.stop ≡ false → HasMetNothing q
  unfolding settled
  turn-unmet none off =
      let it = turn-taken s pid own t turn in
      let same : it.process ≡ p = same_Some it.process p (sym it.live ∙ live) in
      let there : lwp_of p own ≡ Some it.lwp =
      subst (λ (y : TracedProcess). lwp_of y own ≡ Some it.lwp) same it.there in
      let is : t ≡ settled s pid p own it.lwp (row_for s pid p own it.lwp) =
      it.is ∙ ap (λ (y : TracedProcess). settled s pid y own it.lwp (row_for s pid y own it.lwp)) same in
      let free : is_held_back p own it.lwp ≡ false =
      subst (λ (y : TracedProcess). is_held_back y own it.lwp ≡ false) same it.free in
      let a = acting s pid own p it.lwp h live there in
      let row : Row = row_for s pid p own it.lwp in
      let found = found-live t.system pid q later in
      elim (cases_Bool it.lwp.control.directed) [
        | inl will ↦ subst HasMetNothing
            (same_Some (with_lwp_stopped own p) q
            (sym (ap (λ (v : LwpTurn). live_process v.system pid)
            (is ∙ ap (settled s pid p own it.lwp) (row-directed s pid p own it.lwp will)
            ∙ stop-settled s pid p own it.lwp) ∙ stopped-live s pid p live own) ∙ later))
            (stopped-unmet own p none)
        | inr goes ↦ row-unmet s pid p own it.lwp h live a free goes none directs row (row-suits s pid p own it.lwp a)
            (kind-so s pid p own it.lwp row (row-kind s pid p own it.lwp))
            (ap (λ (v : LwpTurn). v.turned.stop) (sym is) ∙ off) q
            (ap (λ (v : LwpTurn). process_of v.system pid) (sym is) ∙ found.0) found.1
      ]

  pub turn-few : HasOneEventAtMost p → HasOneEventAtMost q
  turn-few (unmet none) = unmet-turn none
  turn-few (met id w) =
      let it = turn-taken s pid own t turn in
      let same : it.process ≡ p = same_Some it.process p (sym it.live ∙ live) in
      let there : lwp_of p own ≡ Some it.lwp =
      subst (λ (y : TracedProcess). lwp_of y own ≡ Some it.lwp) same it.there in
      let halting = met-halting p id w in
      let apart : own ≢ id =
      λ is. stands-unheld p id w it.lwp (subst (λ i. lwp_of p i ≡ Some it.lwp) is there) it.process own it.free in
      subst HasOneEventAtMost
      (same_Some (with_lwp_stopped own p) q (sym (halting-leaves s pid p live halting own t turn) ∙ later))
      (met id (stopped-met own id p apart w))
