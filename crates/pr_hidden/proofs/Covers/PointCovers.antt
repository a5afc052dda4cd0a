use Rattle.std.proofs.Common.{◌≡◌, ℕ, Bool, true, false, Option, Some, None, cond, refl, ◌∙◌, ap}
use Rattle.pr_num.specs.Control.{async_mode, has_flags}
use Rattle.pr_model.specs.LwpTurns.{with_counted}
use Rattle.pr_model.specs.Machines.{step_taken}
use Rattle.pr_model.specs.Points.{after_meeting, is_traced, stopped_at, with_others_directed, with_stop_at}
use Rattle.pr_model.specs.State.{TracedLwp, TracedProcess, with_lwp}
use Rattle.pr_model.specs.Stops.{directed, has_event_stop, with_all_directed}
use Rattle.pr_model.specs.declared.events.Did.{Did}
use Rattle.pr_model.specs.declared.stops.Point.{Point}
use Rattle.pr_hidden.specs.Covers.{Cover, keeps_lwp, lwp_beneath, uncovered_lwp, uncovered_process}
use Rattle.pr_hidden.proofs.Covers.SeenLemmas.{seen-each}
use Rattle.pr_hidden.proofs.Covers.StateCovers.{with_lwp-uncovered}

-- The stop at a point that a turn met, and its counts, without what is hidden.

directed-uncovered : (own : Bool) (l : TracedLwp) → uncovered_lwp own (directed l) ≡ directed (uncovered_lwp own l)
unfolding uncovered_lwp directed step_taken
directed-uncovered own l =
    elim (has_event_stop l) as
    (λ b. uncovered_lwp own (cond b l (record l { control = record l.control { directed = true } }))
    ≡ cond b (uncovered_lwp own l)
    (record (uncovered_lwp own l) { control = record (uncovered_lwp own l).control { directed = true } }))
    [ true ↦ refl | false ↦ refl ]

all_directed-uncovered : (c : Cover) (p : TracedProcess)
    → uncovered_process c (with_all_directed p) ≡ with_all_directed (uncovered_process c p)
unfolding uncovered_process with_all_directed
all_directed-uncovered c p =
    ap (λ ls. record (uncovered_process c p) { lwps = ls })
    (seen-each (keeps_lwp c) (lwp_beneath c) directed directed (λ id l. directed-uncovered (c.faulted id) l) p.lwps)

others_directed-uncovered : (c : Cover) (p : TracedProcess)
    → uncovered_process c (with_others_directed p) ≡ with_others_directed (uncovered_process c p)
unfolding uncovered_process with_others_directed
others_directed-uncovered c p =
    elim (has_flags p.control.modes async_mode) as
    (λ b. uncovered_process c (cond b p (with_all_directed p))
    ≡ cond b (uncovered_process c p) (with_all_directed (uncovered_process c p)))
    [ true ↦ refl | false ↦ all_directed-uncovered c p ]

stop_at-uncovered : (c : Cover) (point : Point) (id : ℕ) (p : TracedProcess)
    → uncovered_process c (with_stop_at point id p) ≡ with_stop_at point id (uncovered_process c p)
unfolding with_stop_at uncovered_lwp stopped_at step_taken
stop_at-uncovered c point id p =
    others_directed-uncovered c (with_lwp id (stopped_at point) p)
    ∙ ap with_others_directed (with_lwp-uncovered c p id (stopped_at point) (stopped_at point) (λ l. refl))

pub meeting-uncovered : (c : Cover) (point : Option Point) (id : ℕ) (p : TracedProcess)
    → uncovered_process c (after_meeting point id p) ≡ after_meeting point id (uncovered_process c p)
unfolding after_meeting uncovered_process
meeting-uncovered c None id p = refl
meeting-uncovered c (Some point) id p =
    elim (is_traced p.control point) as
    (λ b. uncovered_process c (cond b (with_stop_at point id p) p)
    ≡ cond b (with_stop_at point id (uncovered_process c p)) (uncovered_process c p))
    [ true ↦ stop_at-uncovered c point id p | false ↦ refl ]

pub counted-uncovered : (c : Cover) (did : Did) (begun : Bool) (p : TracedProcess)
    → uncovered_process c (with_counted did begun p) ≡ with_counted did begun (uncovered_process c p)
unfolding with_counted uncovered_process
counted-uncovered c did begun p = refl
