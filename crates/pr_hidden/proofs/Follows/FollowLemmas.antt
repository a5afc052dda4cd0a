use Rattle.std.proofs.Common.{◌≡◌, ◌≢◌, ◌&&◌, ℕ, Bool, true, false, eqb, not, is_some, Option, Some, None, List, [], ◌∷◌, cond, refl, sym, subst, ◌∙◌, ap}
use Rattle.std.proofs.lemmas.Bool.{eqb-true}
use Rattle.std.specs.List.{All}
use Rattle.pr_num.specs.Agents.{agent_id}
use Rattle.pr_num.specs.ById.{IsRising, change_under, map_each, under}
use Rattle.pr_num.specs.Control.{async_mode, has_flags}
use Rattle.pr_num.proofs.BoolLemmas.{either}
use Rattle.pr_model.specs.LwpTurns.{settled, with_counted}
use Rattle.pr_model.specs.Machines.{traced}
use Rattle.pr_model.specs.Points.{after_meeting, is_traced, stopped_at, with_others_directed, with_stop_at}
use Rattle.pr_model.specs.Rows.{Row}
use Rattle.pr_model.specs.State.{TracedLwp, TracedProcess, TracedSystem, process_of, with_lwp, with_process}
use Rattle.pr_model.specs.Stops.{directed, has_event_stop, with_all_directed}
use Rattle.pr_model.specs.Transitions.{after_transition}
use Rattle.pr_model.specs.UntracedMachine.{UntracedRun, ends_here}
use Rattle.pr_model.specs.declared.events.Did.{Did}
use Rattle.pr_model.specs.declared.steps.Step.{Step}
use Rattle.pr_model.specs.declared.stops.Point.{Point}
use Rattle.pr_erasure.specs.Untouched.{IsUntouched}
use Rattle.pr_hidden.specs.Covers.{Cover, Covers, all_kept, keeps_lwp, process_beneath, seen, seen_under, uncovered, uncovered_process, with_cover}
use Rattle.pr_hidden.specs.Hiding.{with_fault}
use Rattle.pr_hidden.proofs.NothingHidden.CoverLemmas.{cover-other, cover-own, each-cover}
use Rattle.pr_hidden.proofs.Covers.OneLemmas.{one-followed}
use Rattle.pr_hidden.proofs.NothingHidden.TameLemmas.{IsTame, IsTameLwp, IsTameProcess, tame-each, tame-fewer, tame-lwp, tame-process, tame-untouched, untouched-tame}

-- What programs see of one entry, and that it leaves the rest untouched.

pub record Follows (covers new : Covers) (s t : TracedSystem) (steps : List Step) : Type 0 where
  pub run : UntracedRun (seen covers s) steps (seen new t)
  pub tame : IsTame new t

-- nothing is seen of it
pub follows-unseen : (covers new : Covers) (s t : TracedSystem) → seen new t ≡ seen covers s → IsTame new t
    → Follows covers new s t []
follows-unseen covers new s t same tame =
    record { run = subst (λ v. UntracedRun (seen covers s) [] v) (sym same) ends_here; tame = tame }

pub follows-same : (covers : Covers) (s : TracedSystem) → IsTame covers s → Follows covers covers s s []
follows-same covers s tame = record { run = ends_here; tame = tame }

-- ---- the same agents are hidden

pub agents-same : (covers new : Covers) → ((n : ℕ) → (new n).agent ≡ (covers n).agent) → (s : TracedSystem)
    → IsTame covers s → IsTame new s
agents-same covers new same s tame =
    tame-fewer covers new
    (λ pid id kept. ap (λ own. not (own && eqb id agent_id)) (sym (same pid)) ∙ kept) s tame

pub agent-of-one : (covers : Covers) (pid : ℕ) (c : Cover) → c.agent ≡ (covers pid).agent → (n : ℕ)
    → (with_cover pid c covers n).agent ≡ (covers n).agent
agent-of-one covers pid c same n =
    elim (eqb n pid) as (λ b. eqb n pid ≡ b → (cond b c (covers n)).agent ≡ (covers n).agent) [
      | true ↦ λ here. same ∙ ap (λ m. (covers m).agent) (sym (eqb-true n pid here))
      | false ↦ λ there. refl
    ] refl

-- ---- the counts and the stop of a turn

directed-abort : (l : TracedLwp) → (directed l).control.abort ≡ l.control.abort
unfolding directed
directed-abort l =
    elim (has_event_stop l) as
    (λ b. (cond b l (record l { control = record l.control { directed = true } })).control.abort ≡ l.control.abort)
    [ true ↦ refl | false ↦ refl ]

met-tame : (covers : Covers) (pid : ℕ) (point : Option Point) (id : ℕ) (x : TracedProcess)
    → IsTameProcess covers (pid, x) → IsTameProcess covers (pid, after_meeting point id x)
unfolding after_meeting with_stop_at with_others_directed with_all_directed stopped_at
met-tame covers pid None id x tame = tame
met-tame covers pid (Some point) id x tame =
    let at = with_lwp id (stopped_at point) x in
    let stopped = tame-lwp covers pid id (stopped_at point) (λ l. refl) x tame in
    either (λ y. IsTameProcess covers (pid, y)) (is_traced x.control point) (with_stop_at point id x) x
    (either (λ y. IsTameProcess covers (pid, y)) (has_flags at.control.modes async_mode) at (with_all_directed at)
    stopped (record {
      no_kill = stopped.no_kill;
      unwatched = stopped.unwatched;
      lwps = tame-each covers pid directed directed-abort at.lwps stopped.lwps;
    }))
    tame

pub settled-tame : (covers : Covers) (s : TracedSystem) (pid : ℕ) (p : TracedProcess) (id : ℕ)
    (l : TracedLwp) (row : Row)
    → IsTame covers (after_transition traced pid p id l row.transition s)
    → IsTame covers (settled s pid p id l row).system
unfolding settled with_counted
settled-tame covers s pid p id l row tame =
    tame-process covers pid (after_meeting row.point id) (λ x it. met-tame covers pid row.point id x it) _
    (tame-process covers pid (with_counted row.did row.begun)
    (λ x it. record { no_kill = it.no_kill; unwatched = it.unwatched; lwps = it.lwps }) _ tame)

-- ---- a process of which the same is seen

map-same : {X : Type 0} (es : List (ℕ × X)) → map_each (λ x. x) es ≡ es
map-same [] = refl
map-same (e ∷ es) = ap (λ ds. e ∷ ds) (map-same es)

pub change-same : {X : Type 0} (id : ℕ) (f : X → X) → ((x : X) → f x ≡ x) → (es : List (ℕ × X))
    → change_under id f es ≡ es
change-same id f same [] = refl
change-same id f same (e ∷ es) =
    elim (eqb e.0 id) as (λ b. cond b ((e.0, f e.1) ∷ es) (e ∷ change_under id f es) ≡ e ∷ es) [
      | true ↦ ap (λ x. (e.0, x) ∷ es) (same e.1)
      | false ↦ ap (λ ds. e ∷ ds) (change-same id f same es)
    ]

-- it is changed, and perhaps another thing is hidden of it
pub process-same : (covers : Covers) (pid : ℕ) (c : Cover) (s : TracedSystem) (p : TracedProcess)
    (f : TracedProcess → TracedProcess) → IsRising s.processes → process_of s pid ≡ Some p
    → uncovered_process c (f p) ≡ uncovered_process (covers pid) p
    → uncovered (with_cover pid c covers) (with_process pid f s) ≡ uncovered covers s
unfolding uncovered with_process
process-same covers pid c s p f rising found same =
    let view = process_beneath covers in
    let new = process_beneath (with_cover pid c covers) in
    let changed = seen_under all_kept new (change_under pid f s.processes) in
    let old = seen_under all_kept view s.processes in
    ap (λ ps. record s { processes = ps })
    (sym (map-same changed)
    ∙ one-followed all_kept view new (λ y. y) pid
    (λ n other x. ap (λ (d : Cover). uncovered_process d x) (cover-other pid c covers n other)) f (λ y. y) p refl
    (ap (λ (d : Cover). uncovered_process d (f p)) (cover-own pid c covers) ∙ same) 0 s.processes rising found
    ∙ map-same (change_under pid (λ y. y) old) ∙ change-same pid (λ y. y) (λ y. refl) old)

-- so it is as tame as it was
pub beneath-tame : (covers new : Covers) (s t : TracedSystem) → uncovered new t ≡ uncovered covers s → IsTame covers s
    → IsTame new t
beneath-tame covers new s t same tame =
    untouched-tame new t (subst IsUntouched (sym same) (tame-untouched covers s tame))
