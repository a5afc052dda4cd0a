use Rattle.std.proofs.Common.{◌≡◌, ◌<◌, ◌++◌, ℕ, Option, None, Some, List, [], ◌∷◌, cond, is_some, length, refl, sym, subst, ap, ◌∙◌}
use Rattle.std.specs.List.{cons_option}
use Rattle.pr_line.specs.declared.options.Options.{Options}
use Rattle.pr_model.specs.Legal.{state_after}
use Rattle.pr_model.specs.Replies.{number_of}
use Rattle.pr_model.specs.State.{TracedState}
use Rattle.pr_model.specs.declared.calls.Call.TheVariants as call
use Rattle.pr_model.specs.declared.calls.File.{File}
use Rattle.pr_model.specs.declared.calls.File.TheVariants as file
use Rattle.pr_model.specs.declared.calls.Mode.{Mode}
use Rattle.pr_model.specs.declared.calls.Mode.TheVariants.{Read, WriteExcl}
use Rattle.pr_model.specs.declared.events.Entry.{Entry}
use Rattle.pr_truss.specs.NextCalls.{next_call_of}
use Rattle.pr_truss.specs.Processes.{last_handle}
use Rattle.pr_truss.specs.Trusses.{TrussState, traced_at}
use Rattle.pr_truss.specs.declared.processes.Traced.{Traced}
use Rattle.pr_truss.specs.declared.stages.FreeingStep.TheVariants as freeing
use Rattle.pr_truss.specs.declared.stages.Stage.TheVariants.{Closing, FreeingChild}
use Rattle.pr_truss_laws.proofs.Files.HeldLemmas.{Fits, of_stage}
use Rattle.pr_truss_laws.proofs.Files.OwnLemmas.{Owns}
use Rattle.pr_truss_laws.specs.Exchanges.{truss_at}
use Rattle.pr_truss_laws.specs.Handles.{handles_of}
use Rattle.pr_truss_laws.specs.Runs.{IsTrussRun}
use Rattle.pr_report_laws.proofs.Files.FileLaws.{HasFiles, IsFileOf}
use Rattle.pr_report_laws.proofs.Files.FileSteps.{MakesNext, makes-next}
use Rattle.pr_report_laws.proofs.Files.FileUses as uses
use Rattle.pr_report_laws.proofs.Files.WatchHistories.{Reaches, run-reaches}
use Rattle.pr_report_laws.proofs.OwnFiles.EndedFiles.{all-of, among-one, freed-all}
use Rattle.pr_report_laws.proofs.OwnFiles.KeptOpen.{ClosesBy, closing, file-one, freed, next-closes}
use Rattle.pr_report_laws.proofs.Watching.HistoryParts.{front-run, rest-makes}
use Rattle.pr_report_laws.specs.Attachments.{HasFile}
use Rattle.pr_report_laws.specs.OwnFiles.{AreAllOf, ClosesControlsLast}

-- Of the files of a process truss closes the control file last.

-- which of these handles is closed first
abbrev first_of : Option ℕ → Option ℕ → Option ℕ → ℕ → ℕ
first_of memory lstatus status control =
    cond (is_some memory) (number_of memory) (cond (is_some lstatus) (number_of lstatus)
    (cond (is_some status) (number_of status) control))

module _ (k pid : ℕ) (t : TrussState) (s : TracedState) (g : Reaches k t s) (handle : ℕ)
    (mine : HasFile k pid file.Ctl handle s) where
  files : HasFiles k t s
  files = g.files

  -- ---- the files of a process that truss traces

  module _ (place : ℕ) (within : place < length t.traced) (last : last_handle (traced_at t place) ≡ handle) where
    abbrev u : Traced
    u = traced_at t place

    -- the handle is of a control file
    other-file : {A : Type 0} (n : ℕ) (f : File) (mode : Mode) → IsFileOf k s u.pid n f mode → n ≡ handle
        → (f ≡ file.Ctl → ⊥) → A
    other-file n f mode its same apart =
        let one = file-one k s pid handle file.Ctl mine u.pid n f mode its same in absurd (apart one.0)

    first-is : (m l st : Option ℕ) → u.memory ≡ m → u.lstatus ≡ l → u.status ≡ st → first_of m l st u.control ≡ handle
    unfolding last_handle
    first-is m l st memory lstatus status =
        subst (λ x. first_of x l st u.control ≡ handle) memory
        (subst (λ x. first_of u.memory x st u.control ≡ handle) lstatus
        (subst (λ x. first_of u.memory u.lstatus x u.control ≡ handle) status last))

    alone-by : (m l st : Option ℕ) → u.memory ≡ m → u.lstatus ≡ l → u.status ≡ st → handles_of u ≡ handle ∷ []
    alone-by (Some n) l st memory lstatus status =
        let h : HasFiles k t s = files in
        other-file n file.Mem Read (h.memory place n within memory) (first-is (Some n) l st memory lstatus status)
        (λ same. cc)
    alone-by None (Some n) st memory lstatus status =
        let h : HasFiles k t s = files in
        other-file n file.Lstatus Read (h.lstatus place n within lstatus)
        (first-is None (Some n) st memory lstatus status) (λ same. cc)
    alone-by None None (Some n) memory lstatus status =
        let h : HasFiles k t s = files in
        other-file n file.Status Read (h.status place n within status)
        (first-is None None (Some n) memory lstatus status) (λ same. cc)
    alone-by None None None memory lstatus status =
        ap (λ x. cons_option x (cons_option u.lstatus (cons_option u.status (u.control ∷ [])))) memory
        ∙ ap (λ x. cons_option x (cons_option u.status (u.control ∷ []))) lstatus
        ∙ ap (λ x. cons_option x (u.control ∷ [])) status
        ∙ ap (λ c. c ∷ []) (first-is None None None memory lstatus status)

    of-place : u.pid ≡ pid
    of-place =
        let its = uses.closed-file k t s files place within in
        let one = file-one k s pid handle file.Ctl mine u.pid (last_handle u) its.file its.mode its.is last in one.1

    closes-place : ((h : ℕ) → of_stage pid h t.stage ≡ 0) → AreAllOf k pid s (handle ∷ [])
    closes-place none =
        subst (AreAllOf k pid s) (alone-by u.memory u.lstatus u.status refl refl refl)
        (all-of k t s g pid place within of-place none)

  -- ---- at each close

  closes-all-left : ClosesBy t handle t.stage → AreAllOf k pid s (handle ∷ [])
  closes-all-left (closing place after is last) =
      let owns : Owns k t s = g.owns in
      let fits : Fits t.traced (Closing place after) = subst (Fits t.traced) is owns.fits in
      closes-place place fits.0 last (λ h. ap (of_stage pid h) is)
  closes-all-left (freed child is) =
      let its = uses.freed-file k t s files child handle (freeing.Close handle) is refl in
      let one = file-one k s pid handle file.Ctl mine child handle file.Ctl WriteExcl its refl in
      freed-all k t s g pid handle (freeing.Close handle)
      (is ∙ ap (λ c. FreeingChild c (freeing.Close handle)) one.1) refl

  pub last-left : (number : ℕ) (f : File) → HasFile k pid f number s → next_call_of t ≡ Some (call.Close handle)
      → number ≡ handle
  last-left number f other next =
      let all : AreAllOf k pid s (handle ∷ []) = closes-all-left (next-closes t handle next) in
      sym (among-one number handle (all.all number other.held other.there other.of))

pub closes-controls-last : (n k : ℕ) (o : Options) (first : TracedState) (h : List Entry) → IsTrussRun n k o first h
    → ClosesControlsLast k first h
closes-controls-last n k o first h run = record {
  each = λ before later e pid handle number f r is own mine other.
      let all : IsTrussRun n k o first (before ++ e ∷ later) = subst (IsTrussRun n k o first) is run in
      let t : TrussState = truss_at k o before in
      let m = makes-next k t e later (rest-makes n k o first before (e ∷ later) all) in
      last-left k pid t (state_after first before)
      (run-reaches n k o first before (front-run n k o first before (e ∷ later) all)) handle mine number f other
      (subst (MakesNext t) own m.0);
}

pub ruleset controls_last = (closes-controls-last)
