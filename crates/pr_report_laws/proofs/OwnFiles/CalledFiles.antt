use Rattle.std.proofs.Common.{◌≡◌, ◌<◌, ◌++◌, ℕ, Option, Some, None, List, ◌∷◌, length, map, slice_get, refl, sym, subst, ap, ◌∙◌, inl, inr}
use Rattle.std.proofs.lemmas.Option.{same_Some}
use Rattle.pr_line.specs.declared.options.Options.{Options}
use Rattle.pr_model.specs.Legal.{state_after}
use Rattle.pr_model.specs.State.{TracedState}
use Rattle.pr_model.specs.declared.calls.Call.{Call}
use Rattle.pr_model.specs.declared.calls.Call.TheVariants as call
use Rattle.pr_model.specs.declared.calls.File.{File}
use Rattle.pr_model.specs.declared.calls.File.TheVariants as file
use Rattle.pr_model.specs.declared.calls.Mode.{Mode}
use Rattle.pr_model.specs.declared.calls.Mode.TheVariants.{WriteExcl}
use Rattle.pr_model.specs.declared.events.Entry.{Entry}
use Rattle.pr_model.specs.declared.handles.Held.{Held}
use Rattle.pr_truss.specs.NextCalls.{call_of, child_call, freeing_call, next_call_of, opening_call}
use Rattle.pr_truss.specs.Trusses.{TrussState, traced_at}
use Rattle.pr_truss.specs.declared.processes.Traced.{Traced}
use Rattle.pr_truss.specs.declared.stages.ChildStep.{ChildStep}
use Rattle.pr_truss.specs.declared.stages.ChildStep.TheVariants as child
use Rattle.pr_truss.specs.declared.stages.FreeingStep.{FreeingStep}
use Rattle.pr_truss.specs.declared.stages.FreeingStep.TheVariants as freeing
use Rattle.pr_truss.specs.declared.stages.OpeningStep.{OpeningStep}
use Rattle.pr_truss.specs.declared.stages.OpeningStep.TheVariants as opening
use Rattle.pr_truss.specs.declared.stages.Stage.{Stage}
use Rattle.pr_truss.specs.declared.stages.Stage.TheVariants.{Spawning, OpeningControl, Opening, Polling, ReadingStatus, ReadingText, OpeningChildControl, OpeningChild, Running, Closing, Unfollowing, ReadingLwps, FreeingChild, Finished}
use Rattle.pr_truss_laws.proofs.Replies.FitLemmas.{last-within}
use Rattle.pr_truss_laws.proofs.Files.HeldLemmas.{Fits}
use Rattle.pr_truss_laws.proofs.Files.OpensLemmas.{held_by}
use Rattle.pr_truss_laws.proofs.Files.OwnLemmas.{Owns}
use Rattle.pr_truss_laws.specs.Business.{IsAmong}
use Rattle.pr_truss_laws.specs.Exchanges.{truss_at}
use Rattle.pr_truss_laws.specs.Runs.{IsTrussRun}
use Rattle.pr_report_laws.proofs.Files.FileLaws.{HasFiles, IsFileOf}
use Rattle.pr_report_laws.proofs.Files.FileSteps.{MakesNext, makes-next}
use Rattle.pr_report_laws.proofs.Files.FileUses as uses
use Rattle.pr_report_laws.proofs.Files.WatchHistories.{Reaches, run-reaches}
use Rattle.pr_report_laws.proofs.ToldForks.OldStops.{one-place}
use Rattle.pr_report_laws.proofs.Watching.HistoryParts.{front-run, rest-makes}
use Rattle.pr_report_laws.proofs.Watching.NamedSoon.{control-at, poll-stage}
use Rattle.pr_report_laws.specs.OwnFiles.{CallsItsFiles, HasOpen, NamesItsOwn, PollsEachOnce}

-- Each call of truss names files that it has open, and each poll names a file once.

pub file-open : {k : ℕ} {s : TracedState} {pid number : ℕ} {f : File} {mode : Mode}
    → IsFileOf k s pid number f mode → HasOpen k f s number
file-open {pid = pid} its =
    record { pid = pid; has = record { held = _; there = its.is; of = refl; file = refl } }

module _ (k : ℕ) (t : TrussState) (s : TracedState) (g : Reaches k t s) where
  abbrev Names : Option Call → Type 0
  Names None = Unit {0}
  Names (Some c) = NamesItsOwn k s c

  files : HasFiles k t s
  files = g.files

  fits : Fits t.traced t.stage
  fits = let owns : Owns k t s = g.owns in owns.fits

  control-open : (place : ℕ) → place < length t.traced → HasOpen k file.Ctl s (traced_at t place).control
  control-open place within = file-open (files.control place within)

  opening-names : (place : ℕ) (now : OpeningStep) → t.stage ≡ Opening place now → place < length t.traced
      → NamesItsOwn k s (opening_call t.options (traced_at t place) now)
  unfolding opening_call
  opening-names place opening.OpenStatus at within = tt
  opening-names place opening.OpenLstatus at within = tt
  opening-names place opening.OpenMemory at within = tt
  opening-names place opening.ReadLwps at within =
      inr (inl (file-open (uses.opening-read k t s files fits place at)))
  opening-names place (opening.AwaitStop until) at within = control-open place within
  opening-names place _ at within = control-open place within

  child-names : (place : ℕ) (now : ChildStep) → place < length t.traced
      → NamesItsOwn k s (child_call (traced_at t place) now)
  unfolding child_call
  child-names place child.OpenStatus within = tt
  child-names place child.OpenLstatus within = tt
  child-names place child.OpenMemory within = tt
  child-names place _ within = control-open place within

  freeing-names : (pid : ℕ) (now : FreeingStep) → t.stage ≡ FreeingChild pid now
      → NamesItsOwn k s (freeing_call pid now)
  unfolding freeing_call
  freeing-names pid freeing.OpenControl at = tt
  freeing-names pid (freeing.SetRelease control) at =
      file-open (uses.freed-file k t s files pid control (freeing.SetRelease control) at refl)
  freeing-names pid (freeing.Close control) at =
      (file.Ctl, file-open (uses.freed-file k t s files pid control (freeing.Close control) at refl))

  polled-open : (handle : ℕ) → IsAmong handle (map (λ (u : Traced). u.control) t.traced) → HasOpen k file.Ctl s handle
  polled-open handle among =
      let it = control-at t.traced among.place handle among.is in
      subst (HasOpen k file.Ctl s) it.1 (control-open among.place it.0)

  stage-names : (stage : Stage) → t.stage ≡ stage → Fits t.traced stage → Names (call_of t stage)
  unfolding call_of
  stage-names (Spawning program) at f = tt
  stage-names (OpeningControl pid) at f = tt
  stage-names (Opening place now) at f = opening-names place now at f.0
  stage-names Polling at f = polled-open
  stage-names (ReadingStatus place) at f = inl (file-open (uses.status-read k t s files fits place at))
  stage-names (ReadingText place l from len) at f =
      inr (inr (file-open (uses.memory-read k t s files fits place l from len at)))
  stage-names (OpeningChildControl parent pid) at f = tt
  stage-names (OpeningChild parent place now) at f = child-names place now (last-within t.traced parent place f.0)
  stage-names (Running place) at f = control-open place f
  stage-names (Closing place next) at f =
      let it = uses.closed-file k t s files place f.0 in
      (it.file, file-open it.is)
  stage-names Unfollowing at f = control-open 0 f
  stage-names ReadingLwps at f = inr (inl (file-open (uses.lwps-read k t s files fits at)))
  stage-names (FreeingChild pid now) at f = freeing-names pid now at
  stage-names Finished at f = tt

  pub next-names : (c : Call) → next_call_of t ≡ Some c → NamesItsOwn k s c
  unfolding next_call_of
  next-names c is = subst Names is (stage-names t.stage refl fits)

pub calls-files : (n k : ℕ) (o : Options) (first : TracedState) (h : List Entry) → IsTrussRun n k o first h
    → CallsItsFiles k first h
calls-files n k o first h run = record {
  each = λ before later e x is own.
      let all : IsTrussRun n k o first (before ++ e ∷ later) = subst (IsTrussRun n k o first) is run in
      let t : TrussState = truss_at k o before in
      let m = makes-next k t e later (rest-makes n k o first before (e ∷ later) all) in
      let next : next_call_of t ≡ Some x.call = subst (MakesNext t) own m.0 in
      next-names k t (state_after first before)
      (run-reaches n k o first before (front-run n k o first before (e ∷ later) all)) x.call next;
}

-- ---- a poll

module _ (k : ℕ) (t : TrussState) (s : TracedState) (g : Reaches k t s) (handle : ℕ) where
  all : HasFiles k t s
  all = g.files

  -- a file stands at one place alone
  same-place : (one two : ℕ) → one < length t.traced → two < length t.traced → (traced_at t one).control ≡ handle
      → (traced_at t two).control ≡ handle → one ≡ two
  same-place one two first second is same =
      let h : HasFiles k t s = all in
      let a : IsFileOf k s (traced_at t one).pid handle file.Ctl WriteExcl =
      subst (λ m. IsFileOf k s (traced_at t one).pid m file.Ctl WriteExcl) is (h.control one first) in
      let b : IsFileOf k s (traced_at t two).pid handle file.Ctl WriteExcl =
      subst (λ m. IsFileOf k s (traced_at t two).pid m file.Ctl WriteExcl) same (h.control two second) in
      one-place t h.one one two first second
      (ap (λ (x : Held). x.pid) (same_Some (held_by k (traced_at t one).pid 0 file.Ctl WriteExcl)
      (held_by k (traced_at t two).pid 0 file.Ctl WriteExcl) (sym a.is ∙ b.is)))

  pub poll-once : (handles : List ℕ) → next_call_of t ≡ Some (call.Poll handles) → (one two : ℕ)
      → slice_get handles one ≡ Some handle → slice_get handles two ≡ Some handle → one ≡ two
  unfolding next_call_of
  poll-once handles next one two first second =
      let p = poll-stage t handles t.stage next in
      let a = control-at t.traced one handle (ap (λ (ms : List ℕ). slice_get ms one) p.1 ∙ first) in
      let b = control-at t.traced two handle (ap (λ (ms : List ℕ). slice_get ms two) p.1 ∙ second) in
      same-place one two a.0 b.0 a.1 b.1

pub polls-once : (n k : ℕ) (o : Options) (first : TracedState) (h : List Entry) → IsTrussRun n k o first h
    → PollsEachOnce k h
polls-once n k o first h run = record {
  each = λ before later e handles r one two handle is own at again.
      let all : IsTrussRun n k o first (before ++ e ∷ later) = subst (IsTrussRun n k o first) is run in
      let t : TrussState = truss_at k o before in
      let m = makes-next k t e later (rest-makes n k o first before (e ∷ later) all) in
      let next : next_call_of t ≡ Some (call.Poll handles) = subst (MakesNext t) own m.0 in
      poll-once k t (state_after first before)
      (run-reaches n k o first before (front-run n k o first before (e ∷ later) all)) handle handles next one two at
      again;
}

pub ruleset called = (calls-files, polls-once)
