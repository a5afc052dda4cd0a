use Rattle.std.proofs.Common.{◌≡◌, ℕ, Bool, Option, Some, None, sym, subst}
use Rattle.pr_num.specs.Control.{has_flags, async_mode}
use Rattle.pr_lawful.proofs.LawfulTurns.EffectLemmas.{IsActing}
use Rattle.pr_lawful.proofs.ProcessParts.FileLemmas.{choice}
use Rattle.pr_lawful.proofs.LawfulTurns.TurnLemmas.{acting}
use Rattle.pr_model.proofs.TurnLemmas.{turn-taken}
use Rattle.pr_model.specs.Changes.{Ending, all_changed}
use Rattle.pr_model.specs.Lawful.{IsLawfulSystem}
use Rattle.pr_model.specs.LwpTurns.{LwpTurn, settled, turn_of, with_counted}
use Rattle.pr_model.specs.Machines.{traced}
use Rattle.pr_model.specs.Moves.{moved}
use Rattle.pr_model.specs.Points.{after_meeting, is_traced, stopped_at, with_others_directed, with_stop_at}
use Rattle.pr_model.specs.Rows.{Row, row_for}
use Rattle.pr_model.specs.State.{TracedLwp, TracedProcess, TracedSystem, with_lwp, with_lwp_of, with_process}
use Rattle.pr_model.specs.Transitions.{after_transition, ended_if}
use Rattle.pr_model.specs.declared.events.Did.{Did}
use Rattle.pr_model.specs.declared.stops.Point.{Point}
use Rattle.pr_reached.proofs.StatesInRange.CallRanges.{acting-lwp, acting-process}
use Rattle.pr_reached.proofs.StatesInRange.ChangeRanges.{all_changed-range}
use Rattle.pr_reached.proofs.StatesInRange.EndRanges.{ended-range}
use Rattle.pr_reached.proofs.StatesInRange.ProcessRanges.{KeepsLwp, KeepsProcess, all_directed-keeps, changed-one, keeps-one, with_marks}
use Rattle.pr_reached.proofs.StatesInRange.RowRanges.{IsEndingIf, IsTransitionInRange, moved-range, row-range}
use Rattle.pr_reached.specs.InRange.{IsInRange, IsProcessInRange}

-- A turn of an lwp leaves a system in range.

-- ---- the counts, and the stop at a point

counted-keeps : (did : Did) (begun : Bool) → KeepsProcess (with_counted did begun)
unfolding with_counted
counted-keeps did begun x h = record {
  program = h.program;
  made_at = h.made_at;
  ended = h.ended;
  space = h.space;
  dispositions = h.dispositions;
  pending = h.pending;
  lwps = h.lwps;
  control = record {
    signals = h.control.signals;
    faults = h.control.faults;
    entries = h.control.entries;
    exits = h.control.exits;
    modes = h.control.modes;
    areas = h.control.areas;
    few_areas = h.control.few_areas;
  };
}

stopped-keeps : (point : Point) → KeepsLwp (stopped_at point)
unfolding stopped_at
stopped-keeps point l h = with_marks l _ h

meeting-keeps : (point : Option Point) (id : ℕ) → KeepsProcess (after_meeting point id)
unfolding after_meeting with_stop_at with_others_directed
meeting-keeps None id x h = h
meeting-keeps (Some point) id x h =
    let stopped : TracedProcess = with_lwp id (stopped_at point) x in
    let ranged = keeps-one id (stopped_at point) (stopped-keeps point) x h in
    choice IsProcessInRange (is_traced x.control point) _ _
    (λ traces. choice IsProcessInRange (has_flags stopped.control.modes async_mode) _ _ (λ alone. ranged)
    (λ all. all_directed-keeps stopped ranged))
    (λ passes. h)

-- ---- a turn

module _ (s : TracedSystem) (pid : ℕ) (p : TracedProcess) (id : ℕ) (l : TracedLwp) (a : IsActing s pid p id l)
    (h : IsInRange s) where
  ended_if-range : (o : Option Ending) (t : TracedSystem) → IsEndingIf o → IsInRange t
      → IsInRange (ended_if traced pid p id l o t)
  ended_if-range None t it ranged = ranged
  ended_if-range (Some how) t it ranged = ended-range t pid p id how it (acting-process s pid p id l a h) ranged

  settled-range : (row : Row) → IsTransitionInRange row.transition → IsInRange (settled s pid p id l row).system
  unfolding settled after_transition with_lwp_of
  settled-range row it =
      let changes = all_changed traced pid p id l row.transition.changes s in
      let changed =
      all_changed-range pid p id l (acting-process s pid p id l a h)
      (acting-lwp s pid p id l a h) row.transition.changes s it.changes h in
      let moves = with_process pid (with_lwp id (moved traced row.transition.move)) changes in
      let moved_too =
      changed-one changes pid (with_lwp id (moved traced row.transition.move))
      (keeps-one id (moved traced row.transition.move) (moved-range row.transition.move it.move)) changed in
      let ends = ended_if traced pid p id l row.transition.ending moves in
      let ended_too = ended_if-range row.transition.ending moves it.ending moved_too in
      let counts = with_process pid (with_counted row.did row.begun) ends in
      changed-one counts pid (after_meeting row.point id) (meeting-keeps row.point id)
      (changed-one ends pid (with_counted row.did row.begun) (counted-keeps row.did row.begun) ended_too)

pub turn-range : (s : TracedSystem) (pid id : ℕ) (t : LwpTurn) → IsLawfulSystem s → IsInRange s
    → turn_of s pid id ≡ Some t → IsInRange t.system
turn-range s pid id t lawful h turn =
    let it = turn-taken s pid id t turn in
    let a = acting s pid id it.process it.lwp lawful it.live it.there in
    subst (λ (v : LwpTurn). IsInRange v.system) (sym it.is)
    (settled-range s pid it.process id it.lwp a h (row_for s pid it.process id it.lwp)
    (row-range s pid it.process id it.lwp a h))
