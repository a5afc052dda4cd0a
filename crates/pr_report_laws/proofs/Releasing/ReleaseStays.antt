use Rattle.std.proofs.Common.{◌≡◌, ◌==◌, ◌||◌, ℕ, Bool, true, false, cond, not, None, Some, refl, sym, subst, ap, ◌∙◌, inl, inr}
use Rattle.std.proofs.lemmas.Bool.{eqb-true}
use Rattle.std.proofs.lemmas.Option.{none-some, same_Some}
use Rattle.pr_lawful.proofs.ProcessParts.HandleLemmas.{handle-at, handle-writer}
use Rattle.pr_model.specs.Calls.{Answer, answer_to}
use Rattle.pr_model.specs.Handles.{conflicts, fits_file, handle_of, has_exclusive_writer, has_file, has_writer, is_control, open_refusal}
use Rattle.pr_model.specs.Lawful.{IsLawful}
use Rattle.pr_model.specs.State.{TracedState, process_of}
use Rattle.pr_model.specs.declared.calls.Call.{Call}
use Rattle.pr_model.specs.declared.calls.Call.TheVariants as call
use Rattle.pr_model.specs.declared.calls.File.TheVariants as file
use Rattle.pr_model.specs.declared.calls.Mode.TheVariants.{WriteExcl}
use Rattle.pr_model.specs.declared.handles.Held.{Held}
use Rattle.pr_num.specs.declared.errnos.Errno.TheVariants.{Busy, Inval, Noent}
use Rattle.pr_truss.specs.NextCalls.{call_of, freeing_call, next_call_of}
use Rattle.pr_truss.specs.Replies.{answer_of}
use Rattle.pr_truss.specs.Trusses.{TrussState, traced_at}
use Rattle.pr_truss.specs.declared.replies.Answer.TheVariants.{Accepted}
use Rattle.pr_truss.specs.declared.stages.ChildStep.TheVariants as child
use Rattle.pr_truss.specs.declared.stages.FreeingStep.TheVariants as freeing
use Rattle.pr_truss.specs.declared.stages.OpeningStep.TheVariants as opening
use Rattle.pr_truss.specs.declared.stages.Stage.{Stage}
use Rattle.pr_truss.specs.declared.stages.Stage.TheVariants.{OpeningControl, Opening, OpeningChildControl, OpeningChild, FreeingChild}
use Rattle.pr_truss_laws.proofs.Files.OpensLemmas.{open-opens}
use Rattle.pr_report_laws.proofs.Machine.ControlLaws.{refusal-not}
use Rattle.pr_report_laws.proofs.Releasing.ReleaseMarks.{HasSet, counts-or}
use Rattle.pr_report_laws.specs.Releases.{Modes, modes_next, released, spared}

-- What truss has set of a process stays set as long as truss has its control file open.

-- an open for writing alone is refused where the process is open for writing
not-free : (a b c : Bool) → c ≡ true
    → cond (not a) (Some Inval) (cond (not b) (Some Noent) (cond c (Some Busy) None)) ≡ None → ⊥
not-free false b c is none = none-some Inval (sym none)
not-free true false c is none = none-some Noent (sym none)
not-free true true true is none = none-some Busy (sym none)
not-free true true false is none = cc

pub not-allowed : (s : TracedState) (pid : ℕ) → has_writer pid s.opens ≡ true
    → open_refusal s pid 0 file.Ctl WriteExcl ≡ None → ⊥
unfolding open_refusal
not-allowed s pid writer allowed =
    not-free (fits_file file.Ctl WriteExcl 0) (has_file (process_of s.system pid) file.Ctl 0)
    (conflicts pid WriteExcl s.opens) (ap (λ b. b || has_exclusive_writer pid s.opens) writer) allowed

module _ (k pid : ℕ) (t : TrussState) (s : TracedState) (c : Call) (a : Answer) (m : Modes) (lawful : IsLawful s)
    (next : next_call_of t ≡ Some c) (answer : answer_to s k c ≡ Some a) (set : HasSet pid t m) (number : ℕ) (g : Held)
    (there : handle_of s.opens k number ≡ Some g) (control : is_control g.file ≡ true) (of : g.pid ≡ pid)
    (has : m ≡ released) where
  writer : has_writer pid s.opens ≡ true
  writer =
      subst (λ n. has_writer n s.opens ≡ true) of
      (handle-writer s.opens number g lawful.fitting (handle-at s.opens k number g there) control)

  -- its control file is not opened again
  not-opened : (target : ℕ) → call.Open target 0 file.Ctl WriteExcl ≡ c → answer_of a.reply ≡ Accepted → target ≡ pid
      → ⊥
  not-opened target is accepted same =
      elim (open-opens s k target 0 file.Ctl WriteExcl a
      (subst (λ (x : Call). answer_to s k x ≡ Some a) (sym is) answer)) [
        | inl refused ↦ refusal-not refused.errno (ap answer_of (sym refused.reply) ∙ accepted)
        | inr opened ↦ not-allowed s target (ap (λ n. has_writer n s.opens) same ∙ writer) opened.allowed
      ]

  stage-stays : (stage : Stage) → t.stage ≡ stage → call_of t stage ≡ Some c
      → modes_next pid t a.reply m stage ≡ released
  unfolding call_of freeing_call
  stage-stays (OpeningControl target) is makes =
      counts-or (target == pid) (answer_of a.reply) spared m has
      (λ same accepted. absurd (not-opened target (same_Some _ c makes) accepted (eqb-true target pid same)))
  stage-stays (OpeningChildControl parent target) is makes =
      counts-or (target == pid) (answer_of a.reply) spared m has
      (λ same accepted. absurd (not-opened target (same_Some _ c makes) accepted (eqb-true target pid same)))
  stage-stays (FreeingChild target freeing.OpenControl) is makes =
      counts-or (target == pid) (answer_of a.reply) spared m has
      (λ same accepted. absurd (not-opened target (same_Some _ c makes) accepted (eqb-true target pid same)))
  stage-stays (Opening q opening.ClearModes) is makes =
      counts-or ((traced_at t q).pid == pid) (answer_of a.reply) spared m has
      (λ same accepted. absurd
      (let asked : m ≡ spared = set.given q opening.ClearModes is
      (eqb-true (traced_at t q).pid pid same) in cc))
  stage-stays (Opening q opening.SetRelease) is makes =
      counts-or ((traced_at t q).pid == pid) (answer_of a.reply) released m has (λ same accepted. refl)
  stage-stays (OpeningChild parent q child.SetRelease) is makes =
      counts-or ((traced_at t q).pid == pid) (answer_of a.reply) released m has (λ same accepted. refl)
  stage-stays (FreeingChild target (freeing.SetRelease cm)) is makes =
      counts-or (target == pid) (answer_of a.reply) released m has (λ same accepted. refl)
  stage-stays _ is makes = has

  pub released-stays : modes_next pid t a.reply m t.stage ≡ released
  unfolding next_call_of
  released-stays = stage-stays t.stage refl next
