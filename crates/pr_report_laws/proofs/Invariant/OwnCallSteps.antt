use Rattle.std.proofs.Common.{◌≡◌, ℕ, None, Some, refl, sym, subst, ap, ◌∙◌, ◌⊎◌}
use Rattle.std.proofs.lemmas.Option.{none-some}
use Rattle.pr_line.specs.declared.options.Options.{Options}
use Rattle.pr_model.specs.Calls.{Answer}
use Rattle.pr_model.specs.State.{TracedProcess, TracedState, live_process}
use Rattle.pr_model.specs.declared.calls.Call.{Call}
use Rattle.pr_model.specs.declared.calls.Reply.TheVariants.{Handle}
use Rattle.pr_truss.specs.Feeding.{fed}
use Rattle.pr_truss.specs.NextCalls.{call_of, next_call_of}
use Rattle.pr_truss.specs.Trusses.{TrussState}
use Rattle.pr_truss.specs.declared.stages.Stage.{Stage}
use Rattle.pr_truss.specs.declared.stages.Stage.TheVariants.{Spawning, OpeningControl, Opening, Polling, ReadingStatus, ReadingText, OpeningChildControl, OpeningChild, Running, Closing, Unfollowing, ReadingLwps, FreeingChild, Finished}
use Rattle.pr_report_laws.proofs.Invariant.Tallies.{Tally, told-nothing, with_told}
use Rattle.pr_report_laws.proofs.Invariant.EntrySteps.{Lost}
use Rattle.pr_report_laws.proofs.Invariant.OwnCalls.{Leaves}
use Rattle.pr_report_laws.proofs.Invariant.OwnChild.{child-comes}
use Rattle.pr_report_laws.proofs.Replies.NewStops.{read-is, read_at, read_now}
use Rattle.pr_report_laws.proofs.Replies.OwnLooks.{Comes, IsCall, lwps-comes, polling-comes, status-comes, text-comes}
use Rattle.pr_report_laws.proofs.Replies.OwnOpens.{control-comes, opening-child-control-comes, opening-comes, spawning-comes}
use Rattle.pr_report_laws.proofs.Replies.OwnRuns.{closing-comes, freeing-comes, running-comes, unfollowing-comes}
use Rattle.pr_report_laws.proofs.Invariant.Standing.{Prepares, Standing}
use Rattle.pr_report_laws.proofs.Invariant.Positions.{IsAtBirth}

-- What a call of truss leaves, stage by stage.

module _ (k : ℕ) (o : Options) (pid : ℕ) (t : TrussState) (s : TracedState) (c : Call) (a : Answer)
    (i : IsCall k o pid t s c a) (K Ends : Type 0) (leaves : Leaves Ends pid t s a.state) (tally : Tally)
    (birth : (parent handle : ℕ)
    (p : TracedProcess) → t.stage ≡ OpeningChildControl parent pid → a.reply ≡ Handle handle
    → live_process s.system pid ≡ Some p → IsAtBirth o p)
    (prepares : Prepares o pid t s) (standing : Standing (Lost K pid s) o pid t s tally) where
  abbrev Goes : Type 0
  Goes =
      Comes (Lost (K ⊎ Ends) pid a.state) o pid (fed t a.reply) a.state (with_told tally (read_now pid t a.reply))

  -- at a stage in which truss reads no stop it is told nothing
  untold : (stage : Stage) → t.stage ≡ stage → read_at pid t a.reply stage ≡ None
      → Comes (Lost (K ⊎ Ends) pid a.state) o pid (fed t a.reply) a.state tally → Goes
  untold stage at none comes =
      subst (Comes (Lost (K ⊎ Ends) pid a.state) o pid (fed t a.reply) a.state)
      (sym (ap (with_told tally) (read-is pid t a.reply stage at ∙ none) ∙ told-nothing tally)) comes

  -- truss has finished: it makes no call
  finished-comes : t.stage ≡ Finished → Goes
  unfolding next_call_of call_of
  finished-comes at = absurd (none-some c (sym (ap (call_of t) at) ∙ i.next))

  stage-comes : (stage : Stage) → t.stage ≡ stage → Goes
  stage-comes (Spawning program) at =
      untold (Spawning program) at refl (spawning-comes k o pid t s c a i K Ends leaves tally standing program at)
  stage-comes (OpeningControl of) at =
      untold (OpeningControl of) at refl (control-comes k o pid t s c a i K Ends leaves tally standing of at)
  stage-comes (Opening place step) at =
      untold (Opening place step) at refl
      (opening-comes k o pid t s c a i K Ends leaves tally standing place step at prepares)
  stage-comes Polling at =
      untold Polling at refl (polling-comes k o pid t s c a i K Ends leaves tally standing at)
  stage-comes (ReadingStatus place) at = status-comes k o pid t s c a i K Ends leaves tally standing place at
  stage-comes (ReadingText place l from len) at =
      untold (ReadingText place l from len) at refl
      (text-comes k o pid t s c a i K Ends leaves tally standing place l from len at)
  stage-comes (OpeningChildControl parent of) at =
      untold (OpeningChildControl parent of) at refl
      (opening-child-control-comes k o pid t s c a i K Ends leaves tally standing parent of at
      (λ handle p own reply live. birth parent handle p (at ∙ ap (OpeningChildControl parent) own) reply live))
  stage-comes (OpeningChild parent place step) at =
      untold (OpeningChild parent place step) at refl
      (child-comes k o pid t s c a i K Ends leaves tally standing prepares parent place step at)
  stage-comes (Running place) at =
      untold (Running place) at refl (running-comes k o pid t s c a i K Ends leaves tally standing place at)
  stage-comes (Closing place next) at =
      untold (Closing place next) at refl (closing-comes k o pid t s c a i K Ends leaves tally standing place next at)
  stage-comes Unfollowing at =
      untold Unfollowing at refl (unfollowing-comes k o pid t s c a i K Ends leaves tally standing at)
  stage-comes ReadingLwps at = lwps-comes k o pid t s c a i K Ends leaves tally standing at
  stage-comes (FreeingChild child step) at =
      untold (FreeingChild child step) at refl
      (freeing-comes k o pid t s c a i K Ends leaves tally standing child step at)
  stage-comes Finished at = finished-comes at

  pub call-goes : Goes
  call-goes = stage-comes t.stage refl
