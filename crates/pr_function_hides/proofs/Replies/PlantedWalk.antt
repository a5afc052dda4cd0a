use Rattle.pr_rec.specs.declared.lwps.LwpStatus.{LwpStatus}
use Rattle.pr_truss.specs.Asides.{marks_at, with_aside, with_marks, with_patches}
use Rattle.pr_truss.specs.FunctionStops.{with_call_shown, with_copy_begun, with_copy_ended, with_function_event, with_memory_replaced, with_other_event, with_step_begun, with_step_completed, with_trap_over}
use Rattle.pr_truss.specs.Marks.{no_marks}
use Rattle.pr_truss.specs.Stops.{with_old_stop_over, with_stop, with_stop_over}
use Rattle.pr_truss.specs.Trusses.{TrussState, nobody, traced_at, with_traced}
use Rattle.pr_truss.specs.declared.asides.Aside.{Aside}
use Rattle.pr_truss.specs.declared.function_events.FunctionEvent.TheVariants.{Other, AtBreakpoint, Completed, TraceTrap, BeforeCopy, AfterCopy, Replaced}
use Rattle.pr_truss.specs.declared.function_events.FunctionEvent.{FunctionEvent}
use Rattle.pr_truss.specs.declared.marks.Marks.{Marks}
use Rattle.pr_truss.specs.declared.processes.Traced.{Traced}
use Rattle.pr_truss_laws.proofs.Files.HeldLemmas.{at_place, set-at}
use Rattle.std.proofs.Common.{◌≡◌, ◌<◌, ◌-◌, ℕ, false, None, List, length, refl, sym, subst, ap, ◌∙◌, inl, inr}
use Rattle.std.proofs.lemmas.Bool.{cases_eq}
use Rattle.std.proofs.lemmas.List.{get_or-set_other, length-set}
use Rattle.std.specs.List.{slice_set}
pub use Rattle.pr_function_laws.proofs.Marks.MarkWalk.{marks_then}
use Rattle.pr_function_hides.proofs.Replies.FunctionSteps.{over, stop}

-- What a truss with functions that follows no children and does not leave makes of a stop leaves its processes as they
-- are, with their marks, but for those of the process that stands on a new event.

-- ---- the same processes, with the same marks

pub record IsAlike (u v : TrussState) : Type 0 where
  pub many : length v.traced ≡ length u.traced
  pub pids : (i : ℕ) → (traced_at v i).pid ≡ (traced_at u i).pid
  pub marks : (i : ℕ) → marks_at v i ≡ marks_at u i

-- the same list
abbrev pub same_alike : (u v : TrussState) → v.traced ≡ u.traced → IsAlike u v
same_alike u v same = record {
  many = ap length same;
  pids = λ i. ap (λ (ts : List Traced). (at_place ts i).pid) same;
  marks = λ i. ap (λ (ts : List Traced). (at_place ts i).marks) same;
}

pub alike-join : (u v w : TrussState) → IsAlike u v → IsAlike v w → IsAlike u w
alike-join u v w a b = record {
  many = b.many ∙ a.many;
  pids = λ i. b.pids i ∙ a.pids i;
  marks = λ i. b.marks i ∙ a.marks i;
}

-- the process at a place becomes another with the same id, and the same marks
pub set-alike : (u : TrussState) (q : ℕ) (t : Traced) → q < length u.traced → t.pid ≡ (traced_at u q).pid
    → t.marks ≡ marks_at u q → IsAlike u (with_traced u q t)
set-alike u q t within pid marks = record {
  many = length-set u.traced q t;
  pids = λ i. elim (cases_eq i q) [
    | inl same ↦
        ap (λ (x : Traced). x.pid) (ap (at_place (slice_set u.traced q t)) same ∙ set-at u.traced q t within)
        ∙ pid ∙ ap (λ n. (at_place u.traced n).pid) (sym same)
    | inr apart ↦ ap (λ (x : Traced). x.pid) (get_or-set_other u.traced q i t nobody apart)
  ];
  marks = λ i. elim (cases_eq i q) [
    | inl same ↦
        ap (λ (x : Traced). x.marks) (ap (at_place (slice_set u.traced q t)) same ∙ set-at u.traced q t within)
        ∙ marks ∙ ap (λ n. (at_place u.traced n).marks) (sym same)
    | inr apart ↦ ap (λ (x : Traced). x.marks) (get_or-set_other u.traced q i t nobody apart)
  ];
}

-- ---- where truss does not leave its processes, and follows none

module _ (u : TrussState) (off : u.leaving ≡ false) (follow : u.options.follow ≡ false) (q : ℕ)
    (within : q < length u.traced) where
  over-alike : IsAlike u (with_stop_over u q)
  over-alike = same_alike u _ (let n = over u off follow q within in n.traced)

  stop-alike : (l : LwpStatus) → IsAlike u (with_stop u q l)
  unfolding with_old_stop_over
  stop-alike l = stop (IsAlike u) u off follow q l within (λ v n. same_alike u v n.traced) (λ some.
      let t : Traced = record (traced_at u q) { old = (traced_at u q).old - 1 } in
      alike-join u (with_traced u q t) _ (set-alike u q t within refl refl)
      (same_alike (with_traced u q t) _
      (let n = over (with_traced u q t) off follow q (subst (λ k. q < k) (sym (length-set u.traced q t)) within) in
      n.traced)))

-- ---- with other marks of the process

module _ (u : TrussState) (off : u.leaving ≡ false) (follow : u.options.follow ≡ false) (q : ℕ) (l : LwpStatus)
    (within : q < length u.traced) where
  abbrev m : Marks
  m = marks_at u q

  set-within : (n : Marks) → q < length (with_marks u q n).traced
  set-within n = subst (λ k. q < k) (sym (length-set u.traced q (record (traced_at u q) { marks = n }))) within

  over-marked : (n : Marks) → IsAlike (with_marks u q n) (with_stop_over (with_marks u q n) q)
  over-marked n = over-alike (with_marks u q n) off follow q (set-within n)

  stop-marked : (n : Marks) → IsAlike (with_marks u q n) (with_stop (with_marks u q n) q l)
  stop-marked n = stop-alike (with_marks u q n) off follow q (set-within n) l

  -- another aside
  beside : (w v : TrussState) (a : Aside) → IsAlike w v → IsAlike w (with_aside v a)
  beside w v a it = record { many = it.many; pids = it.pids; marks = it.marks }

  -- an event makes these of its marks, and nothing of others
  pub event-kept : (e : FunctionEvent) → IsAlike (with_marks u q (marks_then m l e)) (with_function_event u q l e)
  unfolding with_function_event with_step_begun with_step_completed with_trap_over with_copy_begun with_copy_ended
      with_other_event with_memory_replaced with_call_shown with_patches
  event-kept (AtBreakpoint function) = beside _ _ _ (over-marked _)
  event-kept (Completed step) =
      beside _ _ _
      (alike-join (with_marks u q (record m { stepped = None; flags = _ })) _ _ (same_alike _ _ refl)
      (over-alike _ off follow q (set-within _)))
  event-kept TraceTrap = over-marked _
  event-kept BeforeCopy = beside _ _ _ (stop-marked _)
  event-kept AfterCopy = beside _ _ _ (stop-marked _)
  event-kept Replaced = stop-marked no_marks
  event-kept Other = beside _ _ _ (stop-marked _)
