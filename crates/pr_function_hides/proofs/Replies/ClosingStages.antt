use Rattle.std.proofs.Common.{◌≡◌, ◌<◌, ℕ, length, refl, inl, inr}
use Rattle.pr_function_hides.proofs.Replies.ClosingWalk.{StageSo}
use Rattle.pr_function_hides.proofs.Replies.OwnFiles.{IsWithin}
use Rattle.pr_truss.specs.Trusses.{TrussState, traced_at}
use Rattle.pr_truss.specs.declared.stages.AfterClosing.TheVariants.{GoOn, OpenNext}
use Rattle.pr_truss.specs.declared.stages.OpeningStep.{OpeningStep}
use Rattle.pr_truss.specs.declared.stages.Stage.{Stage}
use Rattle.pr_truss.specs.declared.stages.Stage.TheVariants as stage

-- What is so of the processes of a truss that it opens or closes is another thing later, where this follows of each.

module _ (Over Later : ℕ → Type 0) (Opens Opened : OpeningStep → ℕ → Type 0) (Leaves Left : ℕ → Type 0)
    (t : TrussState)
    (over : (q : ℕ) → q < length t.traced → Over (traced_at t q).pid → Later (traced_at t q).pid) where
  pub stage-stays : (s : Stage) → IsWithin (length t.traced) s
      → ((q : ℕ) (step : OpeningStep) → q < length t.traced → s ≡ stage.Opening q step
      → Opens step (traced_at t q).pid → Opened step (traced_at t q).pid)
      → ((q : ℕ) → q < length t.traced → s ≡ stage.Closing q OpenNext → Leaves (traced_at t q).pid
      → Left (traced_at t q).pid)
      → StageSo Over Opens Leaves t s → StageSo Later Opened Left t s
  stage-stays (stage.Spawning program) w opens leaves it = tt
  stage-stays (stage.OpeningControl pid) w opens leaves it = tt
  stage-stays (stage.Opening q step) w opens leaves it = opens q step w refl it
  stage-stays stage.Polling w opens leaves it = tt
  stage-stays (stage.ReadingStatus q) w opens leaves it = tt
  stage-stays (stage.ReadingText q l from len) w opens leaves it = tt
  stage-stays (stage.Running q) w opens leaves it = tt
  stage-stays (stage.Closing q OpenNext) w opens leaves (inl gone) = inl (over q w gone)
  stage-stays (stage.Closing q OpenNext) w opens leaves (inr it) = inr (leaves q w refl it.0, it.1)
  stage-stays (stage.Closing q GoOn) w opens leaves gone = over q w gone
  stage-stays stage.Finished w opens leaves it = tt
  stage-stays _ w opens leaves it = absurd w
