use Rattle.std.proofs.Common.{◌≡◌, ◌<◌, ℕ, Option, Some, None, length, refl, ap, ◌∙◌}
use Rattle.std.proofs.lemmas.Option.{same_Some}
use Rattle.pr_model.specs.Replies.{number_of}
use Rattle.pr_model.specs.declared.calls.Call.{Call}
use Rattle.pr_model.specs.declared.calls.Reply.{Reply}
use Rattle.pr_model.specs.declared.calls.Reply.TheVariants as reply
use Rattle.pr_num.specs.declared.errnos.Errno.TheVariants.{Noent}
use Rattle.pr_rec.specs.declared.lwps.LwpStatus.{LwpStatus}
use Rattle.pr_truss.specs.Children.{with_child_answered, with_child_started, with_child_step_answered, with_freeing_answered, with_refused_child_step}
use Rattle.pr_truss.specs.Feeding.{fed, with_reply}
use Rattle.pr_truss.specs.NextCalls.{call_of, child_call, freeing_call, next_call_of, opening_call}
use Rattle.pr_truss.specs.Openings.{with_refused_step, with_step_answered}
use Rattle.pr_truss.specs.Replies.{answer_of}
use Rattle.pr_truss.specs.Stops.{after_text, with_event_shown, with_lwps_answered, with_run_answered, with_status_answered, with_text_answered, with_unfollowed}
use Rattle.pr_truss.specs.Trusses.{TrussState, traced_at, with_stage}
use Rattle.pr_truss.specs.declared.stages.AfterClosing.{AfterClosing}
use Rattle.pr_truss.specs.declared.stages.ChildStep.{ChildStep}
use Rattle.pr_truss.specs.declared.stages.ChildStep.TheVariants as child
use Rattle.pr_truss.specs.declared.stages.FreeingStep.{FreeingStep}
use Rattle.pr_truss.specs.declared.stages.FreeingStep.TheVariants as freeing
use Rattle.pr_truss.specs.declared.stages.OpeningStep.{OpeningStep}
use Rattle.pr_truss.specs.declared.stages.OpeningStep.TheVariants as opening
use Rattle.pr_truss.specs.declared.stages.Stage.{Stage}
use Rattle.pr_truss.specs.declared.stages.Stage.TheVariants.{Opening, ReadingStatus, ReadingText, OpeningChild, Running, Closing, Unfollowing, ReadingLwps, FreeingChild}
use Rattle.pr_truss_laws.proofs.Files.HeldLemmas.{Fits, of_stage}
use Rattle.pr_truss_laws.proofs.Replies.FitLemmas.{last-within}
use Rattle.pr_truss_laws.specs.Business.{goes_to}

-- What truss does when a reply says that a process is gone: it closes the files of the process to which its call went,
-- or the one file of a child that it sets free. The reply is a given one, so a row a stage is the shortest form of
-- this: the kinds of steps have more rows for other replies than there are stages.

abbrev pub ended : Reply
ended = reply.Fail Noent

abbrev goes : Option Call → Option ℕ
goes (Some c) = goes_to c
goes None = None

-- the handle is of this file of the process at a place, to which the next call goes
pub data IsNamed (s : TrussState) (handle : ℕ) : ℕ → Type 0 where
  its_control : {place : ℕ} → (traced_at s place).control ≡ handle → IsNamed s handle place
  its_status : {place : ℕ} → s.stage ≡ ReadingStatus place → number_of (traced_at s place).status ≡ handle
      → IsNamed s handle place
  its_memory : {place : ℕ} {l : LwpStatus} {from len : ℕ} → s.stage ≡ ReadingText place l from len
      → number_of (traced_at s place).memory ≡ handle → IsNamed s handle place
  its_lstatus : {place : ℕ} → s.stage ≡ Opening place opening.ReadLwps
      → number_of (traced_at s place).lstatus ≡ handle → IsNamed s handle place
  its_last : s.stage ≡ ReadingLwps → number_of (traced_at s 0).lstatus ≡ handle → IsNamed s handle 0

pub data WhenGone (s : TrussState) (handle : ℕ) : Type 0 where
  shuts : (place : ℕ) (next : AfterClosing) → place < length s.traced → IsNamed s handle place
      → ((pid h : ℕ) → of_stage pid h s.stage ≡ 0) → (fed s ended).stage ≡ Closing place next
      → (fed s ended).traced ≡ s.traced → WhenGone s handle
  frees : (pid : ℕ) → s.stage ≡ FreeingChild pid (freeing.SetRelease handle)
      → fed s ended ≡ with_stage s (FreeingChild pid (freeing.Close handle)) → WhenGone s handle

module _ (s : TrussState) (handle : ℕ) where
  answered-at : (stage : Stage) → s.stage ≡ stage → fed s ended ≡ with_reply s ended stage
  unfolding fed
  answered-at stage at = ap (with_reply s ended) at

  shut : (stage : Stage) (place : ℕ) (next : AfterClosing) → s.stage ≡ stage
      → (with_reply s ended stage).stage ≡ Closing place next → (with_reply s ended stage).traced ≡ s.traced
      → ((pid h : ℕ) → of_stage pid h stage ≡ 0) → place < length s.traced → IsNamed s handle place
      → WhenGone s handle
  shut stage place next at closing same alone within named =
      let is : fed s ended ≡ with_reply s ended stage = answered-at stage at in
      shuts place next within named (λ pid h. ap (of_stage pid h) at ∙ alone pid h)
      (ap (λ (u : TrussState). u.stage) is ∙ closing) (ap (λ (u : TrussState). u.traced) is ∙ same)

  opening-named : (place : ℕ) (now : OpeningStep) → s.stage ≡ Opening place now
      → goes_to (opening_call s.options (traced_at s place) now) ≡ Some handle → IsNamed s handle place
  unfolding opening_call
  opening-named place opening.OpenStatus at is = cc
  opening-named place opening.OpenLstatus at is = cc
  opening-named place opening.OpenMemory at is = cc
  opening-named place opening.ReadLwps at is = its_lstatus at (same_Some _ handle is)
  opening-named place (opening.AwaitStop until) at is = its_control (same_Some _ handle is)
  opening-named place _ at is = its_control (same_Some _ handle is)

  child-gone : (parent place : ℕ) (now : ChildStep) → s.stage ≡ OpeningChild parent place now
      → place < length s.traced → goes_to (child_call (traced_at s place) now) ≡ Some handle → WhenGone s handle
  unfolding with_reply answer_of child_call with_child_answered with_child_step_answered with_child_started
      with_refused_child_step
  child-gone parent place child.SetRelease at within is =
      shut _ place _ at refl refl (λ pid h. refl) within (its_control (same_Some _ handle is))
  child-gone parent place child.Start at within is =
      shut _ place _ at refl refl (λ pid h. refl) within (its_control (same_Some _ handle is))
  child-gone parent place child.OpenStatus at within is = cc
  child-gone parent place child.OpenLstatus at within is = cc
  child-gone parent place child.OpenMemory at within is = cc

  freeing-gone : (pid : ℕ) (now : FreeingStep) → s.stage ≡ FreeingChild pid now
      → goes_to (freeing_call pid now) ≡ Some handle → WhenGone s handle
  unfolding with_reply freeing_call with_freeing_answered
  freeing-gone pid freeing.OpenControl at is = cc
  freeing-gone pid (freeing.SetRelease control) at is =
      let same : control ≡ handle = same_Some control handle is in
      frees pid (at ∙ ap (λ n. FreeingChild pid (freeing.SetRelease n)) same)
      (answered-at _ at ∙ ap (λ n. with_stage s (FreeingChild pid (freeing.Close n))) same)
  freeing-gone pid (freeing.Close control) at is = cc

  stage-gone : (stage : Stage) → s.stage ≡ stage → Fits s.traced stage → goes (call_of s stage) ≡ Some handle
      → WhenGone s handle
  unfolding with_reply answer_of call_of with_step_answered with_refused_step with_status_answered
      with_text_answered after_text with_event_shown with_run_answered with_unfollowed with_lwps_answered
  stage-gone (Opening place now) at f is =
      shut _ place _ at refl refl (λ pid h. refl) f.0 (opening-named place now at is)
  stage-gone (ReadingStatus place) at f is =
      shut _ place _ at refl refl (λ pid h. refl) f (its_status at (same_Some _ handle is))
  stage-gone (ReadingText place l from len) at f is =
      shut _ place _ at refl refl (λ pid h. refl) f (its_memory at (same_Some _ handle is))
  stage-gone (OpeningChild parent place now) at f is =
      child-gone parent place now at (last-within s.traced parent place f.0) is
  stage-gone (Running place) at f is =
      shut _ place _ at refl refl (λ pid h. refl) f (its_control (same_Some _ handle is))
  stage-gone Unfollowing at f is =
      shut _ 0 _ at refl refl (λ pid h. refl) f (its_control (same_Some _ handle is))
  stage-gone ReadingLwps at f is =
      shut _ 0 _ at refl refl (λ pid h. refl) f (its_last at (same_Some _ handle is))
  stage-gone (FreeingChild pid now) at f is = freeing-gone pid now at is
  stage-gone _ at f is = cc

  pub gone-closes : (c : Call) → Fits s.traced s.stage → next_call_of s ≡ Some c → goes_to c ≡ Some handle
      → WhenGone s handle
  unfolding next_call_of
  gone-closes c f is to = stage-gone s.stage refl f (ap goes is ∙ to)
