use Rattle.std.proofs.Common.{◌≡◌, ◌<◌, ℕ, true, false, Option, Some, None, length, refl, sym, subst, ap, ◌∙◌, inl, inr}
use Rattle.std.proofs.lemmas.Bool.{cases_eq, false≢true}
use Rattle.std.proofs.lemmas.List.{get_or-set_other, length-set}
use Rattle.std.proofs.lemmas.Option.{none-some, same_Some}
use Rattle.std.specs.List.{slice_set}
use Rattle.pr_function_hides.proofs.Replies.BareStages.{IsBare}
use Rattle.pr_function_hides.proofs.Replies.FilesWalk.{AreApart, SameFiles, set-apart}
use Rattle.pr_function_hides.proofs.Replies.LeavingTruss as Leaving
use Rattle.pr_function_hides.proofs.Replies.OwnFiles.{IsBeside, IsWithin}
use Rattle.pr_function_laws.proofs.NextCalls.PatchCalls.{fed-staged, next-beside}
use Rattle.pr_model.specs.declared.calls.Call.{Call}
use Rattle.pr_model.specs.declared.calls.Reply.{Reply}
use Rattle.pr_report_laws.proofs.Files.KeepLemmas.{can_wait}
use Rattle.pr_report_laws.proofs.Invariant.StandLemmas.{Each, each-but, each-set}
use Rattle.pr_truss.specs.Closings.{with_interrupt}
use Rattle.pr_truss.specs.Feeding.{with_reply}
use Rattle.pr_truss.specs.FunctionCalls.{call_beside, function_call_of, next_function_call_of, patch_call}
use Rattle.pr_truss.specs.FunctionFeeding.{fed_functions, with_function_reply, with_function_step_answered}
use Rattle.pr_truss.specs.Marks.{first_function, has_functions}
use Rattle.pr_truss.specs.NextCalls.{call_of}
use Rattle.pr_truss.specs.Openings.{with_stop_seen}
use Rattle.pr_truss.specs.Replies.{answer_of}
use Rattle.pr_truss.specs.Stops.{with_poll_answered}
use Rattle.pr_truss.specs.Trusses.{TrussState, nobody, traced_at, with_traced}
use Rattle.pr_truss.specs.declared.asides.Aside.{Aside}
use Rattle.pr_truss.specs.declared.asides.Aside.TheVariants.{Nothing, Patching, Planting, Reading}
use Rattle.pr_truss.specs.declared.processes.Traced.{Traced}
use Rattle.pr_truss.specs.declared.replies.Answer.TheVariants.{Interrupted}
use Rattle.pr_truss.specs.declared.stages.AfterClosing.TheVariants.{GoOn, OpenNext}
use Rattle.pr_truss.specs.declared.stages.OpeningStep.{OpeningStep}
use Rattle.pr_truss.specs.declared.stages.Stage.{Stage}
use Rattle.pr_truss.specs.declared.stages.Stage.TheVariants.{Closing, Finished, Opening, OpeningControl, Polling}
use Rattle.pr_truss.specs.declared.stages.Stage.TheVariants.{ReadingStatus, ReadingText, Running, Spawning}
use Rattle.pr_truss_laws.proofs.Files.HeldLemmas.{at_place, set-at}

-- The first interrupt of a truss with functions that follows no children: it was waiting for a stop, and begins to
-- leave its processes.

module _ (S : Traced → Type 0)
    (alike : (u v : Traced) → SameFiles u v → v.attached ≡ u.attached → v.marks ≡ u.marks → S u → S v)
    (R : Traced → Type 0) (as_old : (u v : Traced) → SameFiles u v → v.attached ≡ u.attached → v.old ≡ u.old
    → v.seen ≡ u.seen → R u → R v)
    (Ended : ℕ → Type 0)
    (unattached : (v : Traced) → S v → v.attached ≡ false → IsBare Ended v) where
  abbrev pub Left : TrussState → Type 0
  Left v = Leaving.Left S alike R as_old Ended unattached v

  abbrev Base : TrussState → Type 0
  Base v = Leaving.Base S alike R as_old Ended unattached v

  abbrev Whole : TrussState → Type 0
  Whole v = Leaving.Whole S alike R as_old Ended unattached v

  module _ (t : TrussState) (r : Reply) (follow : t.options.follow ≡ false) (has : has_functions t.options ≡ true)
      (apart : AreApart t.traced) (all : Each S t.traced) (whole : Whole t)
      (whole_seen : (q : ℕ) (step : OpeningStep) → t.stage ≡ Opening q step → q < length t.traced
      → R (record (traced_at t q) { seen = true })) (interrupted : answer_of r
      ≡ Interrupted) (c : Call) (waits : can_wait c ≡ true) where
    never : {A : Type 0} → (d : Call) → Some d ≡ Some c → can_wait d ≡ false → A
    never d is still = absurd (false≢true (sym still ∙ ap can_wait (same_Some d c is) ∙ waits))

    patch-never : {A : Type 0} → (q : ℕ) (plant lift : Option ℕ)
        → Some (patch_call t.options (traced_at t q).control plant lift) ≡ Some c → A
    patch-never q (Some i) lift is = never _ is refl
    patch-never q None (Some i) is = never _ is refl
    patch-never q None None is = never _ is refl

    stage-begins : t.aside ≡ Nothing → (stage : Stage) → t.stage ≡ stage → IsWithin (length t.traced) stage
        → function_call_of t stage ≡ Some c → Left (fed_functions t r)
    unfolding function_call_of call_of with_function_reply with_function_step_answered with_reply with_poll_answered
        with_interrupt with_stop_seen
    stage-begins idle (Spawning program) at w is = never _ is refl
    stage-begins idle (OpeningControl pid) at w is = never _ is refl
    stage-begins idle (Opening q step) at w is =
        subst Left
        (sym (fed-staged t.options has t r (Opening q step) refl idle at
        ∙ ap (with_function_step_answered t q step r) interrupted))
        (Leaving.next-left S alike R as_old Ended unattached (record (with_stop_seen t q) { leaving = true })
        begun-base begun-old idle)
      where
        seen_at : ℕ → Traced
        seen_at q = record (traced_at t q) { seen = true }

        begun-old : Whole (record (with_traced t q (seen_at q)) { leaving = true })
        begun-old i inside =
            let before = subst (λ k. i < k) (length-set t.traced q (seen_at q)) inside in
            elim (cases_eq i q) [
              | inl same ↦
                  subst R
                  (sym (ap (at_place (slice_set t.traced q (seen_at q))) same ∙ set-at t.traced q (seen_at q) w))
                  (whole_seen q step at w)
              | inr other ↦
                  subst R (sym (get_or-set_other t.traced q i (seen_at q) nobody other)) (whole i before)
            ]

        begun-base : Base (record (with_traced t q (seen_at q)) { leaving = true })
        begun-base = record {
          on = refl;
          follow = follow;
          each = each-set S t.traced q (seen_at q) w (each-but S t.traced q all)
              (alike (traced_at t q) (seen_at q)
              (record { pid = refl; control = refl; status = refl; lstatus = refl; memory = refl }) refl refl
              (all q w));
          apart = set-apart t.traced q (seen_at q) w refl apart;
          rest = λ i inside other. begun-old i inside;
        }
    stage-begins idle Polling at w is =
        subst Left
        (sym (fed-staged t.options has t r Polling refl idle at ∙ ap (with_poll_answered t r) interrupted))
        (Leaving.next-left S alike R as_old Ended unattached (record t { leaving = true })
        (record { on = refl; follow = follow; each = all; apart = apart; rest = λ i inside other. whole i inside })
        whole idle)
    stage-begins idle (ReadingStatus q) at w is = never _ is refl
    stage-begins idle (ReadingText q l from len) at w is = never _ is refl
    stage-begins idle (Running q) at w is = never _ is refl
    stage-begins idle (Closing q OpenNext) at w is = never _ is refl
    stage-begins idle (Closing q GoOn) at w is = never _ is refl
    stage-begins idle Finished at w is = absurd (none-some c is)
    stage-begins idle _ at w is = absurd w

    aside-begins : IsWithin (length t.traced) t.stage → (aside : Aside) → t.aside ≡ aside
        → IsBeside (length t.traced) aside → call_beside t t.stage aside ≡ Some c → Left (fed_functions t r)
    unfolding call_beside
    aside-begins within Nothing idle w is = stage-begins idle t.stage refl within is
    aside-begins within (Reading q function) at w is = never _ is refl
    aside-begins within (Planting q function) at w is = never _ is refl
    aside-begins within (Patching q plants lifts clear) at w is =
        patch-never q (first_function plants) (first_function lifts) is
    aside-begins within _ at w is = absurd w

    pub begins-left : IsWithin (length t.traced) t.stage → IsBeside (length t.traced) t.aside
        → next_function_call_of t ≡ Some c → Left (fed_functions t r)
    begins-left within beside next =
        aside-begins within t.aside refl beside (sym (next-beside t.options has t refl) ∙ next)
