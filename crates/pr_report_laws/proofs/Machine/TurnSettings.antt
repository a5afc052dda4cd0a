use Rattle.std.proofs.Common.{◌≡◌, ℕ, true, false, cond, None, Some, Option, refl, sym, subst, ap, ◌∙◌, inl, inr}
use Rattle.std.proofs.lemmas.Bool.{cases_Bool}
use Rattle.std.proofs.lemmas.Option.{same_Some, none-some}
use Rattle.std.specs.Option.{option_map}
use Rattle.pr_num.proofs.ByIdLaws.{under-change_under}
use Rattle.pr_num.specs.Control.{async_mode, has_flags}
use Rattle.pr_lawful.proofs.LawfulTurns.EndLemmas.{found-live}
use Rattle.pr_lawful.proofs.LawfulTurns.SuitingLemmas.{SuitsTransition, is_stop}
use Rattle.pr_lawful.proofs.LawfulTurns.TurnLemmas.{acting, row-suits}
use Rattle.pr_model.proofs.TurnLemmas.{turn-taken}
use Rattle.pr_model.specs.Lawful.{IsLawfulSystem}
use Rattle.pr_model.specs.LwpTurns.{LwpTurn, settled, turn_of, with_counted}
use Rattle.pr_model.specs.Machines.{traced}
use Rattle.pr_model.specs.Points.{after_meeting, is_traced, stopped_at, with_others_directed, with_stop_at}
use Rattle.pr_model.specs.Rows.{Row, row_for}
use Rattle.pr_model.specs.State.{TracedControl, TracedLwp, TracedProcess, TracedSystem, live_process, lwp_of, process_of, with_lwp, with_process}
use Rattle.pr_model.specs.Stops.{with_all_directed}
use Rattle.pr_model.specs.Transitions.{after_transition}
use Rattle.pr_model.specs.declared.stops.Point.{Point}
use Rattle.pr_truss_laws.proofs.EventStops.OwnTurnLemmas.{Carried, row-carries}
use Rattle.pr_truss_laws.proofs.Machine.StillLemmas.{row-directed, stop-settled, stopped-live}
use Rattle.pr_truss_laws.specs.Stills.{HasSameSettings, with_lwp_stopped}

-- A turn of one of its own lwps leaves what is set on a process, but for its watched areas and its usage.

-- the point that was met
meeting-control : (id : ℕ) (point : Option Point) (x : TracedProcess) → (after_meeting point id x).control ≡ x.control
unfolding after_meeting with_stop_at with_others_directed with_lwp with_all_directed
meeting-control id None x = refl
meeting-control id (Some pt) x =
    elim (is_traced x.control pt) as
    (λ b. (cond b (with_stop_at pt id x) x).control ≡ x.control) [
      | true ↦ elim
          (has_flags x.control.modes async_mode) as
          (λ b. (cond b (with_lwp id (stopped_at pt) x)
          (with_all_directed
          (with_lwp id
          (stopped_at pt) x))).control ≡ x.control) [ true ↦ refl | false ↦ refl ]
      | false ↦ refl
    ]

meeting-ended : (id : ℕ) (point : Option Point) (x : TracedProcess) → (after_meeting point id x).ended ≡ x.ended
unfolding after_meeting with_stop_at with_others_directed with_lwp with_all_directed
meeting-ended id None x = refl
meeting-ended id (Some pt) x =
    elim (is_traced x.control pt) as
    (λ b. (cond b (with_stop_at pt id x) x).ended ≡ x.ended) [
      | true ↦ elim
          (has_flags x.control.modes async_mode) as
          (λ b. (cond b (with_lwp id (stopped_at pt) x)
          (with_all_directed
          (with_lwp id
          (stopped_at pt) x))).ended ≡ x.ended) [ true ↦ refl | false ↦ refl ]
      | false ↦ refl
    ]

module _ (s : TracedSystem) (pid : ℕ) (p : TracedProcess) (id : ℕ) (t : LwpTurn) (h : IsLawfulSystem s)
    (live : live_process s pid ≡ Some p) (turn : turn_of s pid id ≡ Some t) where
  -- an lwp that was directed stops
  stopped-settings : (l : TracedLwp) (q : TracedProcess) → l.control.directed ≡ true
      → t ≡ settled s pid p id l (row_for s pid p id l) → live_process t.system pid ≡ Some q → HasSameSettings p q
  unfolding with_counted with_lwp
  stopped-settings l q directed is later =
      let row = ap (settled s pid p id l) (row-directed s pid p id l directed) in
      let now : live_process t.system pid ≡ Some (with_lwp_stopped id p) =
      ap (λ (x : LwpTurn). live_process x.system pid) (is ∙ row ∙ stop-settled s pid p id l)
      ∙ stopped-live s pid p live id in
      subst (HasSameSettings p) (same_Some (with_lwp_stopped id p) q (sym now ∙ later)) (record { control = refl })

  -- an lwp that does anything else
  counted-system : Row → TracedLwp → TracedSystem
  counted-system row l =
      with_process pid (with_counted row.did row.begun) (after_transition traced pid p id l row.transition s)

  found-settled : (row : Row) (l : TracedLwp) (q : TracedProcess)
      → process_of (settled s pid p id l row).system pid ≡ Some q
      → option_map (after_meeting row.point id) (process_of (counted-system row l) pid) ≡ Some q
  unfolding settled with_process counted-system
  found-settled row l q at =
      sym (under-change_under pid (after_meeting row.point id) (counted-system row l).processes) ∙ at

  moved-settings : (row : Row) (l : TracedLwp) (q : TracedProcess) → is_stop row.transition.move ≡ false
      → SuitsTransition s pid p id l row.transition → process_of (settled s pid p id l row).system pid ≡ Some q
      → q.ended ≡ None → HasSameSettings p q
  unfolding counted-system
  moved-settings row l q not_stop suits at over =
      by (process_of (counted-system row l) pid) refl (found-settled row l q at)
    where
      carried : Carried pid s (counted-system row l)
      carried = row-carries pid p id l row s h not_stop suits

      by : (o : Option TracedProcess) → process_of (counted-system row l) pid ≡ o
          → option_map (after_meeting row.point id) o ≡ Some q → HasSameSettings p q
      by None there is = absurd (none-some q is)
      by (Some x) there is =
          let same : after_meeting row.point id x ≡ q = same_Some (after_meeting row.point id x) q is in
          let a =
          carried.from x there (sym (meeting-ended id row.point x) ∙ ap (λ (y : TracedProcess). y.ended) same
          ∙ over) in
          let was : a.0 ≡ p = same_Some a.0 p (sym a.1.0 ∙ (found-live s pid p live).0) in
          let control : q.control ≡ x.control =
          ap (λ (y : TracedProcess). y.control) (sym same) ∙ meeting-control id row.point x in
          let settings : HasSameSettings p x = subst (λ (y : TracedProcess). HasSameSettings y x) was a.1.1.settings in
          record {
            control = control ∙ settings.control
                ∙ ap (λ (c : TracedControl). record p.control { areas = c.areas; usage = c.usage }) (sym control);
          }

  pub turn-settings : (q : TracedProcess) → live_process t.system pid ≡ Some q → HasSameSettings p q
  turn-settings q later =
      let it = turn-taken s pid id t turn in
      let same : it.process ≡ p = same_Some it.process p (sym it.live ∙ live) in
      let there : lwp_of p id ≡ Some it.lwp = subst (λ (y : TracedProcess). lwp_of y id ≡ Some it.lwp) same it.there in
      let is : t ≡ settled s pid p id it.lwp (row_for s pid p id it.lwp) =
      it.is ∙ ap (λ (y : TracedProcess). settled s pid y id it.lwp (row_for s pid y id it.lwp)) same in
      let row : Row = row_for s pid p id it.lwp in
      let suits = row-suits s pid p id it.lwp (acting s pid id p it.lwp h live there) in
      let now = found-live t.system pid q later in
      elim (cases_Bool (is_stop row.transition.move)) [
        | inl stops ↦ stopped-settings it.lwp q (suits.stop stops).0 is later
        | inr moves ↦ moved-settings row it.lwp q moves suits (ap (λ (x : LwpTurn). process_of x.system pid) (sym is)
            ∙ now.0) now.1
      ]
