use Rattle.std.proofs.Common.{◌≡◌, ◌++◌, ℕ, false, None, Some, List, ◌∷◌, refl, sym, subst, ap, ◌∙◌}
use Rattle.std.proofs.lemmas.Bool.{eq-eqb, false≢true}
use Rattle.std.proofs.lemmas.Option.{none-some, same_Some}
use Rattle.pr_line.specs.declared.options.Options.{Options}
use Rattle.pr_model.specs.Handles.{handle_of}
use Rattle.pr_model.specs.Legal.{state_after}
use Rattle.pr_model.specs.State.{TracedState}
use Rattle.pr_model.specs.declared.calls.Call.TheVariants as call
use Rattle.pr_model.specs.declared.calls.File.{File}
use Rattle.pr_model.specs.declared.calls.Mode.{Mode}
use Rattle.pr_model.specs.declared.events.Entry.{Entry}
use Rattle.pr_model.specs.declared.handles.Held.{Held}
use Rattle.pr_truss.specs.NextCalls.{call_of, child_call, freeing_call, next_call_of, opening_call}
use Rattle.pr_truss.specs.Processes.{last_handle}
use Rattle.pr_truss.specs.Trusses.{TrussState, traced_at}
use Rattle.pr_truss.specs.declared.processes.Traced.{Traced}
use Rattle.pr_truss.specs.declared.stages.AfterClosing.{AfterClosing}
use Rattle.pr_truss.specs.declared.stages.ChildStep.{ChildStep}
use Rattle.pr_truss.specs.declared.stages.ChildStep.TheVariants as child
use Rattle.pr_truss.specs.declared.stages.FreeingStep.{FreeingStep}
use Rattle.pr_truss.specs.declared.stages.FreeingStep.TheVariants as freeing
use Rattle.pr_truss.specs.declared.stages.OpeningStep.{OpeningStep}
use Rattle.pr_truss.specs.declared.stages.OpeningStep.TheVariants as opening
use Rattle.pr_truss.specs.declared.stages.Stage.{Stage}
use Rattle.pr_truss.specs.declared.stages.Stage.TheVariants.{Opening, OpeningChild, Closing, FreeingChild, Finished}
use Rattle.pr_truss_laws.proofs.Files.HeldLemmas.{Fits}
use Rattle.pr_truss_laws.proofs.Files.OwnLemmas.{Owns}
use Rattle.pr_truss_laws.specs.Exchanges.{truss_at}
use Rattle.pr_truss_laws.specs.Runs.{IsTrussRun}
use Rattle.pr_report_laws.proofs.Files.FileLaws.{HasFiles, IsFileOf}
use Rattle.pr_report_laws.proofs.Files.FileSteps.{MakesNext, makes-next}
use Rattle.pr_report_laws.proofs.Files.FileUses as uses
use Rattle.pr_report_laws.proofs.Files.WatchHistories.{Reaches, run-reaches}
use Rattle.pr_report_laws.proofs.Holding.HoldPlaces.{hold-watched}
use Rattle.pr_report_laws.proofs.Replies.Places.{unwatched-away, unwatched-none}
use Rattle.pr_report_laws.proofs.Watching.HistoryParts.{front-run, rest-makes}
use Rattle.pr_report_laws.specs.Attachments.{HasFile}
use Rattle.pr_report_laws.specs.OwnFiles.{ClosesNothingHeld}
use Rattle.pr_report_laws.specs.Watching.{is_away, place_of, watches}

-- Truss closes no file of a process of which it has hold.

-- ---- the stages that close

pub data ClosesBy (t : TrussState) (handle : ℕ) (stage : Stage) : Type 0 where
  closing : (place : ℕ) (next : AfterClosing) → stage ≡ Closing place next → last_handle (traced_at t place) ≡ handle
      → ClosesBy t handle stage
  freed : (pid : ℕ) → stage ≡ FreeingChild pid (freeing.Close handle) → ClosesBy t handle stage

module _ (t : TrussState) (handle : ℕ) where
  opening-closes : {A : Type 0} (u : Traced) (now : OpeningStep)
      → opening_call t.options u now ≡ call.Close handle → A
  unfolding opening_call
  opening-closes u opening.OpenStatus is = cc
  opening-closes u _ is = cc

  child-closes : {A : Type 0} (u : Traced) (now : ChildStep) → child_call u now ≡ call.Close handle → A
  unfolding child_call
  child-closes u child.SetRelease is = cc
  child-closes u _ is = cc

  freeing-closes : (pid : ℕ) (now : FreeingStep) → freeing_call pid now ≡ call.Close handle
      → ClosesBy t handle (FreeingChild pid now)
  unfolding freeing_call
  freeing-closes pid freeing.OpenControl is = cc
  freeing-closes pid (freeing.SetRelease control) is = cc
  freeing-closes pid (freeing.Close control) is =
      let same : control ≡ handle = cc in freed pid (ap (λ m. FreeingChild pid (freeing.Close m)) same)

  same-handle : {a : ℕ} → Some (call.Close a) ≡ Some (call.Close handle) → a ≡ handle
  same-handle is = cc

  stage-closes : (stage : Stage) → call_of t stage ≡ Some (call.Close handle) → ClosesBy t handle stage
  unfolding call_of
  stage-closes (Closing place next) is = closing place next refl (same-handle is)
  stage-closes (FreeingChild pid now) is = freeing-closes pid now (same_Some _ _ is)
  stage-closes (Opening place now) is = opening-closes (traced_at t place) now (same_Some _ _ is)
  stage-closes (OpeningChild parent place now) is = child-closes (traced_at t place) now (same_Some _ _ is)
  stage-closes Finished is = absurd (none-some _ is)
  stage-closes _ is = cc

  pub next-closes : next_call_of t ≡ Some (call.Close handle) → ClosesBy t handle t.stage
  unfolding next_call_of
  next-closes is = stage-closes t.stage is

-- ---- a handle is of one file

pub file-one : (k : ℕ) (s : TracedState) (pid handle : ℕ) (f : File) → HasFile k pid f handle s → (of number : ℕ)
    (other : File) (mode : Mode) → IsFileOf k s of number other mode → number ≡ handle → (other ≡ f) × (of ≡ pid)
file-one k s pid handle f mine of number other mode its same =
    let held : Held = record { controller = k; pid = of; lwp = 0; file = other; mode = mode } in
    let is : held ≡ mine.held =
    same_Some held mine.held (sym its.is ∙ ap (λ m. handle_of s.opens k m) same ∙ mine.there) in
    (ap (λ (h : Held). h.file) is ∙ mine.file, ap (λ (h : Held). h.pid) is ∙ mine.of)

-- ---- it does not watch the process then

module _ (k pid : ℕ) (t : TrussState) (s : TracedState) (g : Reaches k t s) (handle : ℕ) (f : File)
    (mine : HasFile k pid f handle s) (next : next_call_of t ≡ Some (call.Close handle)) where
  files : HasFiles k t s
  files = g.files

  owns : Owns k t s
  owns = g.owns

  same-process : (of : ℕ) (other : File) (mode : Mode) (number : ℕ) → IsFileOf k s of number other mode
      → number ≡ handle → of ≡ pid
  same-process of other mode number its same =
      let one = file-one k s pid handle f mine of number other mode its same in one.1

  pub closes-unwatched : watches t pid ≡ false
  closes-unwatched = by (next-closes t handle next)
    where
      by : ClosesBy t handle t.stage → watches t pid ≡ false
      by (closing place after is last) =
          let o = owns in
          let fits : Fits t.traced (Closing place after) = subst (Fits t.traced) is o.fits in
          let its = uses.closed-file k t s files place fits.0 in
          let of : (traced_at t place).pid ≡ pid = same-process _ its.file its.mode _ its.is last in
          let h : HasFiles k t s = files in
          unwatched-away t pid place (subst (λ p. place_of t p ≡ Some place) of (h.one place fits.0))
          (ap (λ x. is_away t.leaving x place) is ∙ eq-eqb place place refl)
      by (freed child is) =
          let lawful = g.lawful in
          let its = uses.freed-file k t s files child handle (freeing.Close handle) is refl in
          let of : child ≡ pid = same-process child _ _ handle its refl in
          unwatched-none t pid
          (subst (λ p. place_of t p ≡ None) of
          (uses.freed-apart k t s files child handle (freeing.Close handle) owns lawful.exclusive is refl))

pub closes-nothing-held : (n k : ℕ) (o : Options) (first : TracedState) (h : List Entry) → IsTrussRun n k o first h
    → ClosesNothingHeld k o first h
closes-nothing-held n k o first h run = record {
  each = λ before later e pid handle f r is own mine held.
      let all : IsTrussRun n k o first (before ++ e ∷ later) = subst (IsTrussRun n k o first) is run in
      let front = front-run n k o first before (e ∷ later) all in
      let t : TrussState = truss_at k o before in
      let m = makes-next k t e later (rest-makes n k o first before (e ∷ later) all) in
      let next : next_call_of t ≡ Some (call.Close handle) = subst (MakesNext t) own m.0 in
      let off =
      closes-unwatched k pid t (state_after first before) (run-reaches n k o first before front) handle f mine next in
      false≢true (sym off ∙ hold-watched n k o pid first before front held);
}

pub ruleset kept_open = (closes-nothing-held)
