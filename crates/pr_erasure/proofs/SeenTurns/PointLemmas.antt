use Rattle.std.proofs.Common.{◌≡◌, ℕ, Bool, true, false, Option, Some, None, cond, refl, ◌∙◌, ap}
use Rattle.pr_num.specs.Control.{has_flags, async_mode}
use Rattle.pr_model.specs.Erasure.{uncontrolled_lwp, uncontrolled_process}
use Rattle.pr_model.specs.LwpTurns.{with_counted}
use Rattle.pr_model.specs.Points.{is_traced, stopped_at, with_others_directed, with_stop_at, after_meeting}
use Rattle.pr_model.specs.State.{TracedLwp, TracedProcess, with_lwp}
use Rattle.pr_model.specs.Stops.{has_event_stop, directed, with_all_directed}
use Rattle.pr_model.specs.declared.events.Did.{Did}
use Rattle.pr_model.specs.declared.stops.Point.{Point}
use Rattle.pr_erasure.proofs.SeenParts.StateLemmas.{map_each-all_hidden, with_lwp-hidden}

-- A stop where an lwp met what is traced, others that are directed to stop, and counts: these change what controllers
-- set and read, and nothing else.

pub directed-hidden : (l : TracedLwp) → uncontrolled_lwp (directed l) ≡ uncontrolled_lwp l
unfolding uncontrolled_lwp directed
directed-hidden l =
    elim (has_event_stop l) as
    (λ b. uncontrolled_lwp
    (cond b l
    (record l { control = record l.control { directed = true } })) ≡ uncontrolled_lwp l) [ true ↦ refl | false ↦ refl ]

stopped_at-hidden : (point : Point) (l : TracedLwp) → uncontrolled_lwp (stopped_at point l) ≡ uncontrolled_lwp l
unfolding uncontrolled_lwp stopped_at
stopped_at-hidden point l = refl

pub with_all_directed-hidden : (p : TracedProcess) → uncontrolled_process (with_all_directed p) ≡ uncontrolled_process p
unfolding uncontrolled_process with_all_directed
with_all_directed-hidden p =
    ap (λ ls. record (uncontrolled_process p) { lwps = ls })
    (map_each-all_hidden uncontrolled_lwp directed p.lwps directed-hidden)

with_others_directed-hidden : (p : TracedProcess)
    → uncontrolled_process (with_others_directed p) ≡ uncontrolled_process p
unfolding with_others_directed
with_others_directed-hidden p =
    elim (has_flags p.control.modes async_mode) as
    (λ b. uncontrolled_process (cond b p (with_all_directed p)) ≡ uncontrolled_process p)
    [ true ↦ refl | false ↦ with_all_directed-hidden p ]

with_stop_at-hidden : (point : Point) (id : ℕ) (p : TracedProcess)
    → uncontrolled_process (with_stop_at point id p) ≡ uncontrolled_process p
unfolding with_stop_at
with_stop_at-hidden point id p =
    with_others_directed-hidden (with_lwp id (stopped_at point) p)
    ∙ with_lwp-hidden p id (stopped_at point) (stopped_at-hidden point)

pub after_meeting-hidden : (point : Option Point) (id : ℕ) (p : TracedProcess)
    → uncontrolled_process (after_meeting point id p) ≡ uncontrolled_process p
unfolding after_meeting
after_meeting-hidden None id p = refl
after_meeting-hidden (Some point) id p =
    elim (is_traced p.control point) as
    (λ b. uncontrolled_process (cond b (with_stop_at point id p) p) ≡ uncontrolled_process p)
    [ true ↦ with_stop_at-hidden point id p | false ↦ refl ]

pub with_counted-hidden : (did : Did) (begun : Bool) (p : TracedProcess)
    → uncontrolled_process (with_counted did begun p) ≡ uncontrolled_process p
unfolding uncontrolled_process with_counted
with_counted-hidden did begun p = refl
