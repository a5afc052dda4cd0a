use Rattle.std.proofs.Common.{◌≡◌, ℕ, true, false, Some, length, sym, subst, ◌∙◌, inl}
use Rattle.pr_function_hides.proofs.Replies.BareStages.{IsBare, Told}
use Rattle.pr_function_hides.proofs.Replies.FilesWalk.{AreApart, SameFiles}
use Rattle.pr_function_hides.proofs.Replies.FunctionSets.{has-none}
use Rattle.pr_function_hides.proofs.Replies.LeavingBegins as Begins
use Rattle.pr_function_hides.proofs.Replies.LeavingStages.{IsLeft, closes_files, has_ended, with_fewer}
use Rattle.pr_function_hides.proofs.Replies.LeavingTruss as Leaving
use Rattle.pr_function_hides.proofs.Replies.OwnFiles.{IsBeside, IsWithin}
use Rattle.pr_function_hides.proofs.Replies.PlantedReplies.{lost-marks}
use Rattle.pr_function_hides.proofs.Replies.UnplantedReplies.{lifted-none}
use Rattle.pr_function_hides.specs.Copying.{IsEmpty}
use Rattle.pr_model.specs.declared.calls.Call.{Call}
use Rattle.pr_model.specs.declared.calls.Reply.{Reply}
use Rattle.pr_report_laws.proofs.Files.KeepLemmas.{can_wait}
use Rattle.pr_report_laws.proofs.Invariant.StandLemmas.{Each}
use Rattle.pr_truss.specs.FunctionCalls.{next_function_call_of}
use Rattle.pr_truss.specs.FunctionFeeding.{fed_functions}
use Rattle.pr_truss.specs.Marks.{first_function, has_functions}
use Rattle.pr_truss.specs.Processes.{without_last}
use Rattle.pr_truss.specs.Replies.{answer_of}
use Rattle.pr_truss.specs.Trusses.{TrussState}
use Rattle.pr_truss.specs.declared.marks.Marks.{Marks}
use Rattle.pr_truss.specs.declared.processes.Traced.{Traced}
use Rattle.pr_truss.specs.declared.replies.Answer.TheVariants.{Interrupted}
use Rattle.pr_truss_laws.proofs.Replies.ReplySteps.{lost-same}

-- Once truss was interrupted, no function is marked as planted in a process that it has not attached, whatever it is
-- replied.

-- ---- one process

abbrev pub HasNoneUnattached : Traced → Type 0
HasNoneUnattached v = v.attached ≡ false → IsEmpty v.marks.planted

pub none-alike : (u v : Traced) → SameFiles u v → v.attached ≡ u.attached → v.marks ≡ u.marks → HasNoneUnattached u
    → HasNoneUnattached v
none-alike u v files attached marks so not =
    subst (λ (m : Marks). IsEmpty m.planted) (sym marks) (so (sym attached ∙ not))

-- nothing is asked of old stops, nor of processes that have ended
abbrev pub NoneOld : Traced → Type 0
NoneOld v = Unit {0}

pub as-old : (u v : Traced) → SameFiles u v → v.attached ≡ u.attached → v.old ≡ u.old → v.seen ≡ u.seen → NoneOld u
    → NoneOld v
as-old u v files attached old seen it = tt

abbrev pub Anyone : ℕ → Type 0
Anyone pid = Unit {0}

pub any-bare : (v : Traced) → HasNoneUnattached v → v.attached ≡ false → IsBare Anyone v
any-bare v so not = inl tt

-- ---- truss that leaves its processes

abbrev pub LeavesNone : TrussState → Type 0
LeavesNone t = Leaving.Left HasNoneUnattached none-alike NoneOld as-old Anyone any-bare t

pub each-none : (t : TrussState) → LeavesNone t → Each HasNoneUnattached t.traced
each-none t w = w.each

fewer-so : (v : Traced) → HasNoneUnattached v → HasNoneUnattached (with_fewer v)
fewer-so v so not = lifted-none v.marks.planted (first_function v.marks.planted) (so not)

lost-so : (v u : Traced) → without_last v ≡ Some u → HasNoneUnattached v → HasNoneUnattached u
lost-so v u is so not =
    let same = lost-same v u is in
    subst (λ (m : Marks). IsEmpty m.planted) (sym (lost-marks v u is)) (so (sym same.attached ∙ not))

any-told : (t : TrussState) (r : Reply) (w : IsLeft t) → Told Anyone t r w
any-told t r (closes_files at idle within) = tt
any-told t r (has_ended at idle) = tt
any-told t r _ = λ gone. tt

pub none-fed : (t : TrussState) (r : Reply) → t.options.follow ≡ false → has_functions t.options ≡ true
    → LeavesNone t → LeavesNone (fed_functions t r)
none-fed t r follow has w =
    Leaving.fed-left HasNoneUnattached none-alike NoneOld as-old Anyone any-bare t r w.on follow has w.apart
    (λ q within still. tt) w.at
    (Leaving.after-all HasNoneUnattached none-alike NoneOld as-old Anyone any-bare t r fewer-so (λ v so not. has-none)
    lost-so w.each w.at) (any-told t r w.at) w.bare

-- with the first interrupt
pub none-begun : (t : TrussState) (r : Reply) → t.options.follow ≡ false → has_functions t.options ≡ true
    → AreApart t.traced → Each HasNoneUnattached t.traced → answer_of r ≡ Interrupted → (c : Call)
    → can_wait c ≡ true → IsWithin (length t.traced) t.stage → IsBeside (length t.traced) t.aside
    → next_function_call_of t ≡ Some c → LeavesNone (fed_functions t r)
none-begun t r follow has apart all =
    Begins.begins-left HasNoneUnattached none-alike NoneOld as-old Anyone any-bare t r follow has apart all
    (λ q within. tt) (λ q step opens within. tt)
