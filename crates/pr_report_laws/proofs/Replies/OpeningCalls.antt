use Rattle.std.proofs.Common.{◌≡◌, ◌≢◌, ◌++◌, ℕ, true, false, None, Some, List, All, refl, sym, subst, ap, ◌∙◌, inl, inr}
use Rattle.std.proofs.lemmas.List.{append-nil}
use Rattle.std.proofs.lemmas.Option.{none-some, same_Some}
use Rattle.pr_line.specs.declared.options.Options.{Options}
use Rattle.pr_model.specs.Calls.{Answer, answer_to}
use Rattle.pr_model.specs.Handles.{handle_of}
use Rattle.pr_model.specs.Lawful.{IsLawful}
use Rattle.pr_model.specs.Records.{lstatus_of}
use Rattle.pr_model.specs.Replies.{number_of}
use Rattle.pr_model.specs.State.{TracedProcess, TracedState, live_process}
use Rattle.pr_model.specs.declared.calls.Call.{Call}
use Rattle.pr_model.specs.declared.calls.Call.TheVariants as call
use Rattle.pr_model.specs.declared.calls.File.TheVariants.{Ctl, Lstatus}
use Rattle.pr_model.specs.declared.calls.Mode.TheVariants.{Read, WriteExcl}
use Rattle.pr_rec.specs.InRange.{IsLwpStatus}
use Rattle.pr_truss.specs.Feeding.{fed}
use Rattle.pr_truss.specs.NextCalls.{call_of, next_call_of, open_control, opening_call}
use Rattle.pr_truss.specs.Replies.{answer_of}
use Rattle.pr_truss.specs.Trusses.{TrussState, traced_at}
use Rattle.pr_truss.specs.declared.replies.Answer.TheVariants.{Accepted, Interrupted}
use Rattle.pr_truss.specs.declared.stages.OpeningStep.{OpeningStep}
use Rattle.pr_truss.specs.declared.stages.OpeningStep.TheVariants as opening
use Rattle.pr_truss.specs.declared.stages.Stage.{Stage}
use Rattle.pr_truss.specs.declared.stages.Stage.TheVariants.{Spawning, OpeningControl, Opening}
use Rattle.pr_truss_laws.proofs.Files.HeldLemmas.{Fits}
use Rattle.pr_truss_laws.proofs.Files.OpensLemmas.{held_by}
use Rattle.pr_truss_laws.proofs.Files.OwnLemmas.{Owns}
use Rattle.pr_report_laws.proofs.Invariant.Tallies.{IsWhole, Tally}
use Rattle.pr_report_laws.proofs.Files.FileLaws.{HasFiles}
use Rattle.pr_report_laws.proofs.Files.FileUses.{opening-read}
use Rattle.pr_report_laws.proofs.Machine.OpeningFacts.{opening-done, stop-has-no-end}
use Rattle.pr_report_laws.proofs.Replies.OpeningParts.{IsStepDone}
use Rattle.pr_report_laws.proofs.Invariant.OpeningSteps.{Comes, Stood, control-step, not-watched, opening-step, spawning-step}
use Rattle.pr_report_laws.proofs.Replies.Orderly.{IsOrderly}
use Rattle.pr_report_laws.proofs.Files.KeepLemmas.{can_wait}
use Rattle.pr_report_laws.proofs.Machine.PollLaws.{never-interrupted}
use Rattle.pr_report_laws.proofs.Invariant.Standing.{Accounted, Prepares, Standing}
use Rattle.pr_report_laws.proofs.Replies.Unwatched.{apart-accounted}
use Rattle.pr_reached.specs.Fits.{IsFitSystem}
use Rattle.pr_report_laws.specs.Shown.{LwpEvent}

-- The call of a step of an opening, and what it leaves.

-- nothing is missing where there is no cause for it
pub accounted-whole : (Why : Type 0) (tally : Tally) → (Why → ⊥) → Accounted Why tally
    → IsWhole tally
accounted-whole Why tally never a = elim a.few [
  | inl none ↦ a.is ∙ ap (λ (xs : List LwpEvent). tally.told ++ xs) none ∙ append-nil tally.told
  | inr one ↦ absurd (never one.1.1)
]

module _ (Why : Type 0) (o : Options) (pid : ℕ) (t : TrussState) (s : TracedState) (tally : Tally) (k : ℕ)
    (c : Call) (a : Answer) (next : next_call_of t ≡ Some c) (is : answer_to s k c ≡ Some a)
    (place : ℕ) (step : OpeningStep) (stage : t.stage ≡ Opening place step) (order : IsOrderly t)
    (options : t.options ≡ o)
    (control : handle_of s.opens k (traced_at t place).control ≡ Some
    (held_by k (traced_at t place).pid 0 Ctl WriteExcl)) where
  opening-next : next_call_of t ≡ Some (opening_call o (traced_at t place) step)
  unfolding next_call_of call_of
  opening-next = ap (call_of t) stage ∙ ap (λ (w : Options). Some (opening_call w (traced_at t place) step)) options

  opening-is : answer_to s k (opening_call o (traced_at t place) step) ≡ Some a
  opening-is = subst (λ (x : Call). answer_to s k x ≡ Some a) (same_Some c _ (sym next ∙ opening-next)) is

  module _ (lawful : IsLawful s) (fit : IsFitSystem s.system)
      (reads : (p : TracedProcess) → live_process s.system pid ≡ Some p → All IsLwpStatus (lstatus_of p))
      (lstatus : step ≡ opening.ReadLwps → handle_of s.opens k (number_of (traced_at t place).lstatus) ≡ Some
      (held_by k (traced_at t place).pid 0 Lstatus Read)) where
    step-does : Prepares o pid t s → (traced_at t place).pid ≡ pid → answer_of a.reply ≡ Accepted
        → IsStepDone o pid (traced_at t place) a.reply step s a.state
    step-does asked own accepted =
        subst (λ n. IsStepDone o n (traced_at t place) a.reply step s a.state) own
        (opening-done s k (held_by k (traced_at t place).pid 0 Ctl WriteExcl) o
        (traced_at t place) control refl a accepted lawful fit
        (λ p live. reads p (ap (live_process s.system) (sym own) ∙ live)) step
        (λ n now. asked.until place n (stage ∙ ap (λ (st : OpeningStep). Opening place st) now))
        (λ now. record {
          handle = held_by k (traced_at t place).pid 0 Lstatus Read;
          opened = lstatus now;
          file = refl;
          own = refl;
        })
        opening-is)

    -- where no event is missing of a process that lives after the call
    pub opening-call : (Why → live_process a.state.system pid ≡ None) → IsOrderly (fed t a.reply) → Prepares o pid t s
        → Stood Why o pid t s a.state tally place → Comes Why o pid (fed t a.reply) a.state tally
    opening-call ended later asked stood =
        opening-step Why o pid t s a.state tally a.reply place step stage order options (step-does asked)
        (λ now accepted. stop-has-no-end s k (held_by k (traced_at t place).pid 0 Ctl WriteExcl) o
        (traced_at t place) control refl a accepted step now opening-is)
        asked
        (λ last own p q before live.
        accounted-whole Why tally (λ why. none-some q (sym (ended why) ∙ live))
        (apart-accounted Why o pid t s tally
        (not-watched Why o pid t s a.state tally a.reply place step stage order own)
        (stood.own own)))
        stood later

-- ---- where truss holds the files of its processes

pub files-order : (k : ℕ) (t : TrussState) (s : TracedState) → HasFiles k t s → Fits t.traced t.stage → IsOrderly t
files-order k t s files fits = record { one = files.one; unseen = files.unseen; fits = fits }

module _ (Why : Type 0) (o : Options) (pid : ℕ) (t : TrussState) (s : TracedState) (tally : Tally) (k : ℕ)
    (c : Call) (a : Answer) (next : next_call_of t ≡ Some c) (is : answer_to s k c ≡ Some a) (owns : Owns k t s)
    (files : HasFiles k t s) (later : IsOrderly (fed t a.reply)) where
  order : IsOrderly t
  order = files-order k t s files owns.fits

  next-is : (stage : Stage) (d : Call) → t.stage ≡ stage → call_of t stage ≡ Some d → c ≡ d
  unfolding next_call_of
  next-is stage d at call = same_Some c d (sym next ∙ ap (call_of t) at ∙ call)

  -- no interrupt ends such a call
  uninterrupted : (d : Call) → c ≡ d → can_wait d ≡ false → answer_of a.reply ≢ Interrupted
  uninterrupted d same waits = never-interrupted s k c a (ap can_wait same ∙ waits) is

  pub spawning-goes : (program : List ℕ) → t.stage ≡ Spawning program → Standing Why o pid t a.state tally
      → Comes Why o pid (fed t a.reply) a.state tally
  unfolding call_of
  spawning-goes program stage =
      spawning-step Why o pid t a.state tally a.reply program stage
      (uninterrupted (call.Spawn program true)
      (next-is (Spawning program) (call.Spawn program true) stage refl) refl)

  pub control-goes : (of : ℕ) → t.stage ≡ OpeningControl of → Standing Why o pid t a.state tally
      → Comes Why o pid (fed t a.reply) a.state tally
  unfolding call_of
  control-goes of stage =
      control-step Why o pid t a.state tally a.reply of stage
      (uninterrupted (open_control of) (next-is (OpeningControl of) (open_control of) stage refl) refl) order later

  pub opening-goes : (place : ℕ) (step : OpeningStep) → t.stage ≡ Opening place step → IsLawful s
      → IsFitSystem s.system → t.options ≡ o
      → ((p : TracedProcess) → live_process s.system pid ≡ Some p → All IsLwpStatus (lstatus_of p))
      → (Why → live_process a.state.system pid ≡ None)
      → Prepares o pid t s → Stood Why o pid t s a.state tally place → Comes Why o pid (fed t a.reply) a.state tally
  opening-goes place step stage lawful fit options reads ended asked stood =
      let f : Fits t.traced (Opening place step) = subst (Fits t.traced) stage owns.fits in
      let held = files.control place f.0 in
      opening-call Why o pid t s tally k c a next is place step stage order options held.is lawful fit reads
      (λ now. let look = opening-read k t s files owns.fits place (stage
      ∙ ap (λ (st : OpeningStep). Opening place st) now) in look.is)
      ended later asked stood
