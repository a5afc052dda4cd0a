use Rattle.std.proofs.Common.{◌≡◌, ◌<◌, ℕ, true, false, Option, Some, length, inl}
use Rattle.pr_truss.specs.Processes.{without_last}
use Rattle.pr_function_hides.proofs.Replies.BareStages.{BareIf, IsBare, Told}
use Rattle.pr_function_hides.proofs.Replies.FilesWalk.{AreApart, SameFiles}
use Rattle.pr_function_hides.proofs.Replies.LeavingBegins as Begins
use Rattle.pr_function_hides.proofs.Replies.LeavingStages.{IsLeft, IsUnlooked, closes_files, has_ended, with_fewer}
use Rattle.pr_function_hides.proofs.Replies.LeavingStages.{with_no_marks}
use Rattle.pr_function_hides.proofs.Replies.LeavingTruss as Leaving
use Rattle.pr_function_hides.proofs.Replies.OwnFiles.{IsBeside, IsWithin}
use Rattle.pr_model.specs.declared.calls.Call.{Call}
use Rattle.pr_model.specs.declared.calls.Reply.{Reply}
use Rattle.pr_report_laws.proofs.Files.KeepLemmas.{can_wait}
use Rattle.pr_report_laws.proofs.Invariant.StandLemmas.{Each}
use Rattle.pr_truss.specs.FunctionCalls.{next_function_call_of}
use Rattle.pr_truss.specs.FunctionFeeding.{fed_functions}
use Rattle.pr_truss.specs.Marks.{has_functions}
use Rattle.pr_truss.specs.Replies.{answer_of}
use Rattle.pr_truss.specs.Trusses.{TrussState, traced_at}
use Rattle.pr_truss.specs.declared.processes.Traced.{Traced}
use Rattle.pr_truss.specs.declared.replies.Answer.TheVariants.{Interrupted}
use Rattle.pr_truss.specs.declared.stages.OpeningStep.{OpeningStep}
use Rattle.pr_truss.specs.declared.stages.Stage.TheVariants.{Opening}

-- The same where nothing is asked of the processes that truss has not attached: once it was interrupted, what is so of
-- the files and marks of each process stays so, but where a breakpoint is lifted or a file closed, or the memory was
-- replaced.

-- S is so of each process, and R until truss looks at it.
module _ (S : Traced → Type 0)
    (alike : (u v : Traced) → SameFiles u v → v.attached ≡ u.attached → v.marks ≡ u.marks → S u → S v)
    (R : Traced → Type 0) (as_old : (u v : Traced) → SameFiles u v → v.attached ≡ u.attached → v.old ≡ u.old
    → v.seen ≡ u.seen → R u → R v) where
  abbrev pub Any : ℕ → Type 0
  Any pid = Unit {0}

  pub none-asked : (v : Traced) → S v → v.attached ≡ false → IsBare Any v
  none-asked v so not = inl tt

  abbrev pub Left : TrussState → Type 0
  Left v = Leaving.Left S alike R as_old Any none-asked v

  abbrev pub Rest : Option Traced → Type 0
  Rest v = Leaving.Rest S alike R as_old Any none-asked v

  abbrev pub After : (t : TrussState) → Reply → IsLeft t → Type 0
  After t r at = Leaving.After S alike R as_old Any none-asked t r at

  -- it is so whatever is lifted, closed or replaced
  pub after-all : (t : TrussState) (r : Reply) → ((v : Traced) → S v → S (with_fewer v))
      → ((v : Traced) → S v → S (with_no_marks v)) → ((v u : Traced) → without_last v ≡ Some u → S v → S u)
      → Each S t.traced → (at : IsLeft t) → After t r at
  after-all = Leaving.after-all S alike R as_old Any none-asked

  told : (t : TrussState) (r : Reply) (at : IsLeft t) → Told Any t r at
  told t r (closes_files at idle within) = tt
  told t r (has_ended at idle) = tt
  told t r _ = λ gone. tt

  bare : (t : TrussState) (at : IsLeft t) → BareIf Any t at
  bare t (closes_files at idle within) = inl tt
  bare t _ = tt

  pub fed-left : (t : TrussState) (r : Reply) → t.leaving ≡ true → t.options.follow ≡ false
      → has_functions t.options ≡ true → AreApart t.traced
      → ((q : ℕ) → q < length t.traced → IsUnlooked t.stage q → R (traced_at t q)) → (at : IsLeft t) → After t r at
      → Left (fed_functions t r)
  fed-left t r on follow has apart unlooked at after =
      Leaving.fed-left S alike R as_old Any none-asked t r on follow has apart unlooked at after (told t r at)
      (bare t at)

  pub begins-left : (t : TrussState) (r : Reply) → t.options.follow ≡ false → has_functions t.options ≡ true
      → AreApart t.traced → Each S t.traced → ((q : ℕ) → q < length t.traced → R (traced_at t q))
      → ((q : ℕ) (step : OpeningStep) → t.stage ≡ Opening q step → q < length t.traced
      → R (record (traced_at t q) { seen = true })) → answer_of r ≡ Interrupted → (c : Call) → can_wait c ≡ true
      → IsWithin (length t.traced) t.stage
      → IsBeside (length t.traced) t.aside → next_function_call_of t ≡ Some c → Left (fed_functions t r)
  begins-left = Begins.begins-left S alike R as_old Any none-asked
