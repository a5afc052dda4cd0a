use Rattle.std.proofs.Common.{◌≡◌, ◌++◌, ◌<◌, ℕ, true, false, Some, None, List, [], ◌∷◌, length, refl, sym, subst, ap, ◌∙◌}
use Rattle.std.proofs.lemmas.Bool.{eq-eqb, false≢true}
use Rattle.pr_line.specs.declared.options.Options.{Options}
use Rattle.pr_model.specs.Handles.{handle_of}
use Rattle.pr_model.specs.Lawful.{IsLawful}
use Rattle.pr_model.specs.Legal.{state_after}
use Rattle.pr_model.specs.State.{TracedState}
use Rattle.pr_model.specs.declared.calls.Call.{Call}
use Rattle.pr_model.specs.declared.calls.File.TheVariants as file
use Rattle.pr_model.specs.declared.calls.Mode.TheVariants.{WriteExcl}
use Rattle.pr_model.specs.declared.events.Entry.{Entry}
use Rattle.pr_model.specs.declared.handles.Held.{Held}
use Rattle.pr_truss.specs.Feeding.{fed}
use Rattle.pr_truss.specs.NextCalls.{next_call_of}
use Rattle.pr_truss.specs.Trusses.{TrussState, traced_at}
use Rattle.pr_truss.specs.declared.processes.Traced.{Traced}
use Rattle.pr_truss.specs.declared.stages.AfterClosing.{AfterClosing}
use Rattle.pr_truss.specs.declared.stages.FreeingStep.TheVariants as freeing
use Rattle.pr_truss.specs.declared.stages.Stage.TheVariants.{Closing, FreeingChild}
use Rattle.pr_truss_laws.proofs.Files.HeldLemmas.{Fits, at_place}
use Rattle.pr_truss_laws.proofs.Files.OwnLemmas.{Owns}
use Rattle.pr_truss_laws.proofs.Replies.GoneLemmas.{WhenGone, frees, gone-closes, shuts}
use Rattle.pr_truss_laws.specs.Business.{goes_to}
use Rattle.pr_truss_laws.specs.Exchanges.{truss_at}
use Rattle.pr_truss_laws.specs.Runs.{IsTrussRun}
use Rattle.pr_report_laws.proofs.Files.FileLaws.{HasFiles}
use Rattle.pr_report_laws.proofs.Files.FileSteps.{MakesNext}
use Rattle.pr_report_laws.proofs.Files.FileUses.{IsSomeFile, file-owner, freed-apart, freed-file, named-file}
use Rattle.pr_report_laws.proofs.Files.WatchHistories.{Reaches, run-front, run-next, run-reaches, truss_at-push}
use Rattle.pr_report_laws.proofs.Replies.Places.{unwatched-away, unwatched-none}
use Rattle.pr_report_laws.proofs.Watching.LeftReads.{left-off}
use Rattle.pr_report_laws.specs.Holds.{IsToldOfEnd, LetsGoIn, leaves_it, told_end}
use Rattle.pr_report_laws.specs.Watching.{is_away, place_of, watches, with_exchange}
pub use Rattle.pr_truss_laws.proofs.Replies.GoneLemmas.{ended}

-- Where truss lets a process go, it does not watch it any more: it closes the files of what has ended.

-- the files of the process are closed then
pub record ClosesIt (t : TrussState) (pid : ℕ) : Type 0 where
  pub place : ℕ
  pub next : AfterClosing
  pub within : place < length t.traced
  pub own : (traced_at t place).pid ≡ pid
  pub stage : (fed t ended).stage ≡ Closing place next
  pub same : (fed t ended).traced ≡ t.traced

module _ (k : ℕ) (t : TrussState) (s : TracedState) (g : Reaches k t s) (pid handle : ℕ) (held : Held)
    (there : handle_of s.opens k handle ≡ Some held) (of : held.pid ≡ pid) (on : watches t pid ≡ true) where
  abbrev files : HasFiles k t s
  files = g.files

  fits : Fits t.traced t.stage
  fits = let owns : Owns k t s = g.owns in owns.fits

  mine : (owner : ℕ) → IsSomeFile k s owner handle → owner ≡ pid
  mine owner = file-owner k s pid owner handle held there of

  -- a child that is set free is not watched
  freed-not : (child : ℕ) → t.stage ≡ FreeingChild child (freeing.SetRelease handle) → ⊥
  freed-not child at =
      let lawful : IsLawful s = g.lawful in
      let freed = freed-file k t s files child handle (freeing.SetRelease handle) at refl in
      let own : child ≡ pid = mine child (record { file = file.Ctl; mode = WriteExcl; is = freed }) in
      let apart : place_of t child ≡ None =
      freed-apart k t s files child handle (freeing.SetRelease handle) g.owns lawful.exclusive at refl in
      false≢true (sym (unwatched-none t pid (ap (place_of t) (sym own) ∙ apart)) ∙ on)

  pub next-closes : (c : Call) → next_call_of t ≡ Some c → goes_to c ≡ Some handle → ClosesIt t pid
  next-closes c next is = by (gone-closes t handle c fits next is)
    where
      by : WhenGone t handle → ClosesIt t pid
      by (frees child at now) = absurd (freed-not child at)
      by (shuts place later within named alone at same) = record {
        place = place;
        next = later;
        within = within;
        own = mine (traced_at t place).pid (named-file k t s files fits handle place within named);
        stage = at;
        same = same;
      }

-- ---- along a history

module _ (n k : ℕ) (o : Options) (pid : ℕ) (s : TracedState) (before : List Entry) (e : Entry)
    (run : IsTrussRun n k o s (before ++ e ∷ [])) (on : watches (truss_at k o before) pid ≡ true) where
  abbrev was : TrussState
  was = truss_at k o before

  abbrev v : TrussState
  v = truss_at k o (before ++ e ∷ [])

  told-off : IsToldOfEnd k pid (state_after s before) e → watches v pid ≡ false
  told-off w =
      let next : next_call_of was ≡ Some w.call = subst (MakesNext was) w.is (run-next n k o s before e run) in
      let c =
      next-closes k was (state_after s before)
      (run-reaches n k o s before (run-front n k o s before e run)) pid w.handle
      w.held w.there w.of on w.call next w.goes in
      let now : v ≡ fed was ended = truss_at-push k o before e ∙ ap (with_exchange was) w.is in
      let later : Reaches k v (state_after s (before ++ e ∷ [])) = run-reaches n k o s (before ++ e ∷ []) run in
      let files : HasFiles k v (state_after s (before ++ e ∷ [])) = later.files in
      let same : v.traced ≡ was.traced = ap (λ (u : TrussState). u.traced) now ∙ c.same in
      let within : c.place < length v.traced = subst (λ (ts : List Traced). c.place < length ts) (sym same) c.within in
      let own : (traced_at v c.place).pid ≡ pid = ap (λ (ts : List Traced). (at_place ts c.place).pid) same ∙ c.own in
      unwatched-away v pid c.place (subst (λ p. place_of v p ≡ Some c.place) own (files.one c.place within))
      (ap (λ x. is_away v.leaving x c.place) (ap (λ (u : TrussState). u.stage) now ∙ c.stage)
      ∙ eq-eqb c.place c.place refl)

  -- Where truss lets a process go that it watched, it watches it no more.
  pub goes-off : LetsGoIn k pid s before e → watches v pid ≡ false
  goes-off (told_end w) = told-off w
  goes-off (leaves_it w) = left-off n k o pid s before e run w
