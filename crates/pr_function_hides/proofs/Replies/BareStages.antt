use Rattle.std.proofs.Common.{◌≡◌, ◌⊎◌, ℕ}
use Rattle.pr_function_hides.proofs.Replies.LeavingStages.{IsLeft, closes_files, has_ended}
use Rattle.pr_function_hides.specs.Copying.{IsEmpty}
use Rattle.pr_model.specs.declared.calls.Reply.{Reply}
use Rattle.pr_truss.specs.Replies.{answer_of}
use Rattle.pr_truss.specs.Trusses.{TrussState, traced_at}
use Rattle.pr_truss.specs.declared.processes.Traced.{Traced}
use Rattle.pr_truss.specs.declared.replies.Answer.TheVariants.{Gone}

-- What is so of the first process where a truss that leaves its processes closes the files of that.

-- a process has ended, or nothing is planted in it
abbrev pub IsBare : (ℕ → Type 0) → Traced → Type 0
IsBare Ended v = Ended v.pid ⊎ IsEmpty v.marks.planted

-- so it is of the first one where its files are closed next
abbrev pub BareIf : (ℕ → Type 0) → (t : TrussState) → IsLeft t → Type 0
BareIf Ended t (closes_files at idle within) = IsBare Ended (traced_at t 0)
BareIf Ended t at = Unit {0}

-- truss is told of the first process that it is gone only where that has ended
abbrev pub Told : (ℕ → Type 0) → (t : TrussState) → Reply → IsLeft t → Type 0
Told Ended t r (closes_files at idle within) = Unit {0}
Told Ended t r (has_ended at idle) = Unit {0}
Told Ended t r at = answer_of r ≡ Gone → Ended (traced_at t 0).pid
