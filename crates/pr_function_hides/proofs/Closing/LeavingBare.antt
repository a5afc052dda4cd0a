use Rattle.std.proofs.Common.{◌≡◌, ◌⊎◌, ◌<◌, ℕ, true, false, Option, Some, length, sym, subst}
use Rattle.std.proofs.Common.{◌∙◌, inl, inr}
use Rattle.pr_function_hides.proofs.Replies.BareStages.{BareIf, IsBare, Told}
use Rattle.pr_function_hides.proofs.Copying.CopyOpening.{bare-marks}
use Rattle.pr_function_hides.proofs.Copying.CopyPlaces.{IsBareMarks}
use Rattle.pr_function_hides.proofs.Replies.FilesWalk.{AreApart, SameFiles}
use Rattle.pr_function_hides.proofs.Replies.LeavingBegins as Begins
use Rattle.pr_function_hides.proofs.Replies.LeavingStages.{IsLeft, closes_files, lifted_after}
use Rattle.pr_function_hides.proofs.Replies.LeavingStages.{with_fewer}
use Rattle.pr_function_hides.proofs.Replies.LeavingTruss as Leaving
use Rattle.pr_function_hides.proofs.Replies.OwnFiles.{IsBeside, IsWithin}
use Rattle.pr_function_hides.proofs.Replies.PlantedReplies.{lost-marks}
use Rattle.pr_function_hides.proofs.Replies.UnplantedReplies.{lifted-none}
use Rattle.pr_model.specs.declared.calls.Call.{Call}
use Rattle.pr_model.specs.declared.calls.Reply.{Reply}
use Rattle.pr_report_laws.proofs.Files.KeepLemmas.{can_wait}
use Rattle.pr_report_laws.proofs.Invariant.StandLemmas.{Each}
use Rattle.pr_truss.specs.Asides.{marks_at}
use Rattle.pr_truss.specs.FunctionCalls.{next_function_call_of}
use Rattle.pr_truss.specs.FunctionFeeding.{fed_functions}
use Rattle.pr_truss.specs.Marks.{first_function, has_functions}
use Rattle.pr_truss.specs.Processes.{without_last}
use Rattle.pr_truss.specs.Replies.{answer_of}
use Rattle.pr_truss.specs.Trusses.{TrussState, traced_at}
use Rattle.pr_truss.specs.declared.marks.Marks.{Marks}
use Rattle.pr_truss.specs.declared.processes.Traced.{Traced}
use Rattle.pr_truss.specs.declared.replies.Answer.TheVariants.{Interrupted}
use Rattle.pr_truss_laws.proofs.Replies.ReplySteps.{lost-same}

-- Once truss was interrupted, a process that it has not attached has no marks: nothing is planted in it, nothing waits
-- to be planted again, and no step is under way; or it has ended. So nothing is planted where truss closes its files.
-- In any other process truss lifts all before that, unless it is told that the process has ended.

-- ---- lifts

fewer-bare : (m : Marks) (lift : Option ℕ) → IsBareMarks m
    → IsBareMarks (record m { planted = lifted_after m.planted lift })
fewer-bare m lift b =
    let l = b.lifted in
    record {
      lifted = record { none_planted = lifted-none m.planted lift l.none_planted; no_step = l.no_step };
      left = b.left;
    }

-- ---- one process

module _ (Ended : ℕ → Type 0) where
  -- one that is not attached has ended, or has no marks
  abbrev pub HasNoneUnattached : Traced → Type 0
  HasNoneUnattached v = v.attached ≡ false → Ended v.pid ⊎ IsBareMarks v.marks

  pub none-alike : (u v : Traced) → SameFiles u v → v.attached ≡ u.attached → v.marks ≡ u.marks → HasNoneUnattached u
      → HasNoneUnattached v
  none-alike u v files attached marks so not = by (so (sym attached ∙ not))
    where
      by : Ended u.pid ⊎ IsBareMarks u.marks → Ended v.pid ⊎ IsBareMarks v.marks
      by (inl over) = inl (subst Ended (sym files.pid) over)
      by (inr bare) = inr (subst IsBareMarks (sym marks) bare)

  pub none-planted : (v : Traced) → HasNoneUnattached v → v.attached ≡ false → IsBare Ended v
  none-planted v so not = by (so not)
    where
      by : Ended v.pid ⊎ IsBareMarks v.marks → IsBare Ended v
      by (inl over) = inl over
      by (inr bare) = inr (let l = bare.lifted in l.none_planted)

  -- nothing is asked of old stops
  abbrev pub NoneOld : Traced → Type 0
  NoneOld v = Unit {0}

  pub as-old : (u v : Traced) → SameFiles u v → v.attached ≡ u.attached → v.old ≡ u.old
      → v.seen ≡ u.seen → NoneOld u → NoneOld v
  as-old u v files attached old seen it = tt

  -- ---- truss that leaves its processes

  abbrev pub LeavesBare : TrussState → Type 0
  LeavesBare t = Leaving.Left HasNoneUnattached none-alike NoneOld as-old Ended none-planted t

  fewer-so : (v : Traced) → HasNoneUnattached v → HasNoneUnattached (with_fewer v)
  fewer-so v so not = by (so not)
    where
      by : Ended v.pid ⊎ IsBareMarks v.marks → Ended v.pid ⊎ IsBareMarks (with_fewer v).marks
      by (inl over) = inl over
      by (inr bare) = inr (fewer-bare v.marks (first_function v.marks.planted) bare)

  lost-so : (v u : Traced) → without_last v ≡ Some u → HasNoneUnattached v → HasNoneUnattached u
  lost-so v u is so not =
      let same = lost-same v u is in
      by same.pid (so (sym same.attached ∙ not))
    where
      by : u.pid ≡ v.pid → Ended v.pid ⊎ IsBareMarks v.marks → Ended u.pid ⊎ IsBareMarks u.marks
      by same (inl over) = inl (subst Ended (sym same) over)
      by same (inr bare) = inr (subst IsBareMarks (sym (lost-marks v u is)) bare)

  pub leaves-fed : (t : TrussState) (r : Reply) → t.options.follow ≡ false → has_functions t.options ≡ true
      → (w : LeavesBare t) → Told Ended t r w.at → LeavesBare (fed_functions t r)
  leaves-fed t r follow has w told =
      Leaving.fed-left HasNoneUnattached none-alike NoneOld as-old Ended none-planted t r w.on follow has w.apart
      (λ q within still. tt) w.at
      (Leaving.after-all HasNoneUnattached none-alike NoneOld as-old Ended none-planted t r fewer-so
      (λ v so not. inr bare-marks) lost-so w.each w.at) told w.bare

  -- with the first interrupt
  pub leaves-begun : (t : TrussState) (r : Reply) → t.options.follow ≡ false → has_functions t.options ≡ true
      → AreApart t.traced → Each HasNoneUnattached t.traced → answer_of r ≡ Interrupted → (c : Call)
      → can_wait c ≡ true → IsWithin (length t.traced) t.stage → IsBeside (length t.traced) t.aside
      → next_function_call_of t ≡ Some c → LeavesBare (fed_functions t r)
  leaves-begun t r follow has apart all =
      Begins.begins-left HasNoneUnattached none-alike NoneOld as-old Ended none-planted t r follow has apart all
      (λ q within. tt) (λ q step opens within. tt)

-- ---- later

-- what is so of processes that have ended is so of them later
module _ (Ended Later : ℕ → Type 0) (t : TrussState)
    (stays : (q : ℕ) → q < length t.traced → Ended (traced_at t q).pid → Later (traced_at t q).pid) where
  bare-stays : (w : IsLeft t) → BareIf Ended t w → BareIf Later t w
  bare-stays (closes_files at idle within) (inl over) = inl (stays 0 within over)
  bare-stays (closes_files at idle within) (inr none) = inr none
  bare-stays _ bare = tt

  none-stays : (q : ℕ) → q < length t.traced → HasNoneUnattached Ended (traced_at t q)
      → HasNoneUnattached Later (traced_at t q)
  none-stays q within so not = by (so not)
    where
      by : Ended (traced_at t q).pid ⊎ IsBareMarks (marks_at t q)
          → Later (traced_at t q).pid ⊎ IsBareMarks (marks_at t q)
      by (inl over) = inl (stays q within over)
      by (inr bare) = inr bare

  pub leaves-stays : LeavesBare Ended t → LeavesBare Later t
  leaves-stays w = record {
    on = w.on;
    at = w.at;
    bare = bare-stays w.at w.bare;
    each = λ q within. none-stays q within (w.each q within);
    apart = w.apart;
    unlooked = λ q within still. tt;
  }
