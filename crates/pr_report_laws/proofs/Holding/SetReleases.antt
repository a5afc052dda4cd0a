use Rattle.std.proofs.Common.{◌≡◌, ◌≢◌, ◌++◌, ℕ, true, Some, None, List, [], ◌∷◌, refl, sym, subst, ap, ◌∙◌, append_assoc, arith}
use Rattle.std.proofs.lemmas.Bool.{eq-eqb}
use Rattle.std.proofs.lemmas.List.{append-nil}
use Rattle.std.proofs.lemmas.Option.{same_Some}
use Rattle.pr_laws.specs.LastCloses.{IsReleased}
use Rattle.pr_line.specs.declared.options.Options.{Options}
use Rattle.pr_model.specs.Calls.{Answer, answer_to}
use Rattle.pr_model.specs.Handles.{handle_of, is_control}
use Rattle.pr_model.specs.Legal.{state_after}
use Rattle.pr_model.specs.State.{TracedProcess, TracedState, live_process}
use Rattle.pr_model.specs.declared.calls.Call.{Call}
use Rattle.pr_model.specs.declared.calls.Call.TheVariants.{Close, Ctl}
use Rattle.pr_model.specs.declared.calls.File.TheVariants as file
use Rattle.pr_model.specs.declared.calls.Mode.TheVariants.{WriteExcl}
use Rattle.pr_model.specs.declared.calls.Reply.{Reply}
use Rattle.pr_model.specs.declared.calls.Reply.TheVariants as reply
use Rattle.pr_model.specs.declared.events.Entry.{Entry}
use Rattle.pr_model.specs.declared.handles.Held.{Held}
use Rattle.pr_num.specs.Control.{fork_mode, rlc_mode}
use Rattle.pr_num.specs.Messages.{first_message, spelling}
use Rattle.pr_num.specs.declared.messages.Message.{Message}
use Rattle.pr_num.specs.declared.messages.Message.TheVariants as message
use Rattle.pr_truss.specs.Messages.{all_modes, message_call, traced_entries, traced_exits, traced_faults, traced_signals}
use Rattle.pr_truss.specs.NextCalls.{call_of, child_call, freeing_call, next_call_of, opening_call}
use Rattle.pr_truss.specs.Replies.{answer_of}
use Rattle.pr_truss.specs.Trusses.{TrussState, traced_at}
use Rattle.pr_truss.specs.declared.replies.Answer.TheVariants.{Accepted}
use Rattle.pr_truss.specs.declared.stages.ChildStep.{ChildStep}
use Rattle.pr_truss.specs.declared.stages.ChildStep.TheVariants as child
use Rattle.pr_truss.specs.declared.stages.FreeingStep.{FreeingStep}
use Rattle.pr_truss.specs.declared.stages.FreeingStep.TheVariants as freeing
use Rattle.pr_truss.specs.declared.stages.OpeningStep.{OpeningStep}
use Rattle.pr_truss.specs.declared.stages.OpeningStep.TheVariants as opening
use Rattle.pr_truss.specs.declared.stages.Stage.{Stage}
use Rattle.pr_truss.specs.declared.stages.Stage.TheVariants.{Opening, OpeningChild, Running, Unfollowing, FreeingChild}
use Rattle.pr_truss_laws.proofs.Files.HeldLemmas.{Fits}
use Rattle.pr_truss_laws.proofs.Files.OwnLemmas.{Owns}
use Rattle.pr_truss_laws.proofs.Machine.TakenLemmas.{ReadsAs, stop-reads}
use Rattle.pr_truss_laws.proofs.Replies.TracedChanges.{accepted-granted}
use Rattle.pr_truss_laws.specs.Exchanges.{Exchange, errno_in, exchange_of, truss_at}
use Rattle.pr_truss_laws.specs.Runs.{IsTrussRun}
use Rattle.pr_report_laws.proofs.Files.FileLaws.{HasFiles, IsFileOf}
use Rattle.pr_report_laws.proofs.Files.FileSteps.{MakesNext}
use Rattle.pr_report_laws.proofs.Files.FileUses.{freed-file, stage-control, stage_place}
use Rattle.pr_report_laws.proofs.Files.WatchHistories.{IsAnswered, Reaches, exchange-answered, run-front, run-last, run-next, run-reaches}
use Rattle.pr_report_laws.proofs.Holding.HoldPlaces.{hold-watched, more-run, one-run}
use Rattle.pr_report_laws.proofs.Machine.ControlLaws.{clear-reads, entries-read, exits-read, faults-read, follow-reads, run-reads, signals-read, unfollow-reads}
use Rattle.pr_report_laws.proofs.Releasing.ReleaseGrants.{release-granted, release-whole}
use Rattle.pr_report_laws.proofs.Releasing.ReleaseLaws.{modes-push, set-stays}
use Rattle.pr_report_laws.proofs.Releasing.ReleaseSteps.{modes_told, truss-releases}
use Rattle.pr_report_laws.proofs.Replies.WatchedPlaces.{IsWatched, watched-place}
use Rattle.pr_report_laws.specs.Holds.{HasHold}
use Rattle.pr_report_laws.specs.Releases.{Modes, modes_next, modes_set, released}
use Rattle.pr_report_laws.specs.SetModes.{HasSetRelease, SetsRelease}

-- What truss has set, by its messages and their replies alone, is released when truss closes the control file.

-- ---- the message that sets PR_RLC is no other one

not-release : {A : Type 0} (m : Message) (bytes : List ℕ) → ReadsAs m (first_message bytes)
    → bytes ≡ spelling (message.Set rlc_mode) [] → (message.Set rlc_mode ≡ m → ⊥) → A
not-release m bytes reads same differs =
    let here : ReadsAs m (first_message (spelling (message.Set rlc_mode) [])) =
    subst (λ (bs : List ℕ). ReadsAs m (first_message bs)) same reads in
    absurd (differs (subst (ReadsAs m) release-whole here))

same-bytes : {a b : ℕ} {xs ys : List ℕ} → Ctl a xs ≡ Ctl b ys → xs ≡ ys
same-bytes is = cc

same-handle : {a b : ℕ} {xs ys : List ℕ} → Ctl a xs ≡ Ctl b ys → a ≡ b
same-handle is = cc

not-follow : message.Set rlc_mode ≡ message.Set fork_mode → ⊥
not-follow is = let same : rlc_mode ≡ fork_mode = cc in omega (arith, same)

granted-accepted : (r : Reply) → errno_in r ≡ None → answer_of r ≡ Accepted
unfolding answer_of
granted-accepted (reply.Fail errno) is = cc
granted-accepted _ is = refl

-- ---- the entry that sets it

module _ (n k : ℕ) (o : Options) (s : TracedState) (before : List Entry) (e : Entry)
    (run : IsTrussRun n k o s (before ++ e ∷ [])) (number : ℕ) (held : Held)
    (w : SetsRelease k number held (state_after s before) e) where
  abbrev was : TrussState
  was = truss_at k o before

  abbrev now : TracedState
  now = state_after s before

  reached : Reaches k was now
  reached = run-reaches n k o s before (run-front n k o s before e run)

  files : HasFiles k was now
  files = let g = reached in g.files

  fits : Fits was.traced was.stage
  fits = let g = reached in let owns : Owns k was now = g.owns in owns.fits

  abbrev sets : Call
  sets = message_call number (message.Set rlc_mode)

  next : next_call_of was ≡ Some sets
  next = subst (MakesNext was) w.is (run-next n k o s before e run)

  its-own : (owner control : ℕ) → IsFileOf k now owner control file.Ctl WriteExcl → control ≡ number
      → owner ≡ held.pid
  its-own owner control its same =
      ap (λ (h : Held). h.pid) (same_Some _ held (sym its.is ∙ ap (λ m. handle_of now.opens k m) same ∙ w.there))

  place-own : (place : ℕ) (stage : Stage) → was.stage ≡ stage → stage_place stage ≡ Some place
      → (traced_at was place).control ≡ number → (traced_at was place).pid ≡ held.pid
  place-own place stage at named same =
      let c = stage-control k was now files fits place (ap stage_place at ∙ named) in
      its-own (traced_at was place).pid (traced_at was place).control c.1 same

  abbrev Released : Modes → Stage → Type 0
  Released m stage = modes_next held.pid was w.reply m stage ≡ released

  opening-sets : (m : Modes) (place : ℕ) (step : OpeningStep) → was.stage ≡ Opening place step
      → opening_call was.options (traced_at was place) step ≡ sets → Released m (Opening place step)
  unfolding opening_call
  opening-sets m place opening.SetRelease at is =
      rw (
        eq-eqb (traced_at was place).pid held.pid
            (place-own place (Opening place opening.SetRelease) at refl (same-handle is)),
        granted-accepted w.reply w.granted,
      ) refl
  opening-sets m place opening.ClearModes at is =
      not-release (message.Unset all_modes) _ clear-reads (same-bytes is) (λ same. cc)
  opening-sets m place opening.Stop at is = not-release message.Stop _ stop-reads (same-bytes is) (λ same. cc)
  opening-sets m place opening.TraceSignals at is =
      not-release _ _ (signals-read (traced_signals was.options)) (same-bytes is) (λ same. cc)
  opening-sets m place opening.TraceFaults at is =
      not-release _ _ (faults-read (traced_faults was.options)) (same-bytes is) (λ same. cc)
  opening-sets m place opening.TraceEntries at is =
      not-release _ _ (entries-read (traced_entries was.options)) (same-bytes is) (λ same. cc)
  opening-sets m place opening.TraceExits at is =
      not-release _ _ (exits-read (traced_exits was.options)) (same-bytes is) (λ same. cc)
  opening-sets m place opening.Follow at is =
      not-release (message.Set fork_mode) _ follow-reads (same-bytes is) not-follow
  opening-sets m place opening.Start at is = not-release (message.Run 0) _ run-reads (same-bytes is) (λ same. cc)
  opening-sets m place opening.OpenStatus at is = cc
  opening-sets m place opening.OpenLstatus at is = cc
  opening-sets m place opening.OpenMemory at is = cc
  opening-sets m place (opening.AwaitStop until) at is = cc
  opening-sets m place opening.ReadLwps at is = cc

  child-sets : (m : Modes) (parent place : ℕ) (step : ChildStep) → was.stage ≡ OpeningChild parent place step
      → child_call (traced_at was place) step ≡ sets → Released m (OpeningChild parent place step)
  unfolding child_call
  child-sets m parent place child.SetRelease at is =
      rw (
        eq-eqb (traced_at was place).pid held.pid
            (place-own place (OpeningChild parent place child.SetRelease) at refl (same-handle is)),
        granted-accepted w.reply w.granted,
      ) refl
  child-sets m parent place child.Start at is =
      not-release (message.Run 0) _ run-reads (same-bytes is) (λ same. cc)
  child-sets m parent place child.OpenStatus at is = cc
  child-sets m parent place child.OpenLstatus at is = cc
  child-sets m parent place child.OpenMemory at is = cc

  freeing-sets : (m : Modes) (pid : ℕ) (step : FreeingStep) → was.stage ≡ FreeingChild pid step
      → freeing_call pid step ≡ sets → Released m (FreeingChild pid step)
  unfolding freeing_call
  freeing-sets m pid (freeing.SetRelease control) at is =
      rw (
        eq-eqb pid held.pid
            (its-own pid control (freed-file k was now files pid control (freeing.SetRelease control) at refl)
            (same-handle is)),
        granted-accepted w.reply w.granted,
      ) refl
  freeing-sets m pid freeing.OpenControl at is = cc
  freeing-sets m pid (freeing.Close control) at is = cc

  stage-sets : (m : Modes) (stage : Stage) → was.stage ≡ stage → call_of was stage ≡ Some sets → Released m stage
  unfolding call_of
  stage-sets m (Opening place step) at is = opening-sets m place step at (same_Some _ _ is)
  stage-sets m (OpeningChild parent place step) at is = child-sets m parent place step at (same_Some _ _ is)
  stage-sets m (FreeingChild pid step) at is = freeing-sets m pid step at (same_Some _ _ is)
  stage-sets m (Running place) at is =
      not-release (message.Run 0) _ run-reads (same-bytes (same_Some _ _ is)) (λ same. cc)
  stage-sets m Unfollowing at is =
      not-release (message.Unset fork_mode) _ unfollow-reads (same-bytes (same_Some _ _ is)) (λ same. cc)
  stage-sets m _ at is = cc

  next-sets : (m : Modes) → next_call_of was ≡ Some sets → Released m was.stage
  unfolding next_call_of
  next-sets m is = stage-sets m was.stage refl is

  sets-now : modes_set k o held.pid (before ++ e ∷ []) ≡ released
  sets-now =
      modes-push n k o s before e run held.pid
      ∙ ap (modes_told held.pid was (modes_set k o held.pid before)) w.is
      ∙ next-sets (modes_set k o held.pid before) next

-- ---- it stays so

module _ (n k : ℕ) (o : Options) (s : TracedState) (number : ℕ) (held : Held)
    (control : is_control held.file ≡ true) where
  abbrev Has : List Entry → Type 0
  Has h = handle_of (state_after s h).opens k number ≡ Some held

  abbrev IsSet : List Entry → Type 0
  IsSet h = modes_set k o held.pid h ≡ released

  stays-set : (later past : List Entry) → IsTrussRun n k o s (past ++ later) → IsSet past
      → ((first rest : List Entry) → later ≡ first ++ rest → Has (past ++ first)) → IsSet (past ++ later)
  stays-set [] past run set has = subst IsSet (sym (append-nil past)) set
  stays-set (e ∷ later) past run set has =
      subst IsSet (append_assoc past (e ∷ []) later)
      (stays-set later (past ++ e ∷ []) (more-run n k o held.pid s past later e run)
      (set-stays n k o s past e (one-run n k o held.pid s past later e run) number held
      (subst Has (append-nil past) (has [] (e ∷ later) refl)) control set)
      (λ first rest is. subst Has (sym (append_assoc past (e ∷ []) first))
      (has (e ∷ first) rest (ap (λ (es : List Entry). e ∷ es) is))))

module _ (n k : ℕ) (o : Options) (s : TracedState) (h : List Entry) (run : IsTrussRun n k o s h) where
  has-set : (number : ℕ) (held : Held) → HasSetRelease k number held s h → modes_set k o held.pid h ≡ released
  has-set number held w =
      let sets : SetsRelease k number held (state_after s w.before) w.entry = w.sets in
      let all : IsTrussRun n k o s (w.before ++ w.entry ∷ w.later) = subst (IsTrussRun n k o s) w.is run in
      let one = one-run n k o held.pid s w.before w.later w.entry all in
      let joined : (w.before ++ w.entry ∷ []) ++ w.later ≡ h =
      append_assoc w.before (w.entry ∷ []) w.later ∙ sym w.is in
      subst (λ (es : List Entry). modes_set k o held.pid es ≡ released) joined
      (stays-set n k o s number held sets.control w.later (w.before ++ w.entry ∷ [])
      (more-run n k o held.pid s w.before w.later w.entry all)
      (sets-now n k o s w.before w.entry one number held sets)
      (λ first rest is. subst (λ (es : List Entry). handle_of (state_after s es).opens k number ≡ Some held)
      (sym (append_assoc w.before (w.entry ∷ []) first)) (w.open_since first rest is)))

  has-open : (number : ℕ) (held : Held) → HasSetRelease k number held s h
      → handle_of (state_after s h).opens k number ≡ Some held
  has-open number held w =
      subst (λ (es : List Entry). handle_of (state_after s es).opens k number ≡ Some held) (sym w.is)
      (w.open_since w.later [] (sym (append-nil w.later)))

  -- What truss has set is released when truss closes the file.
  pub releases-set : (number : ℕ) (held : Held) (p : TracedProcess) (a : Answer) → HasSetRelease k number held s h
      → live_process (state_after s h).system held.pid ≡ Some p
      → answer_to (state_after s h) k (Close number) ≡ Some a
      → (q : TracedProcess) × ((live_process a.state.system held.pid ≡ Some q) × IsReleased q)
  releases-set number held p a w live close =
      let sets : SetsRelease k number held (state_after s w.before) w.entry = w.sets in
      truss-releases n k o s h run number held p a (has-open number held w) sets.control (has-set number held w) live
      close

  pub holds-control : (pid : ℕ) → HasHold k o pid s h
      → (number : ℕ) × IsFileOf k (state_after s h) pid number file.Ctl WriteExcl
  holds-control pid g =
      let w = watched-place (truss_at k o h) pid (hold-watched n k o pid s h run g) in
      let i : IsWatched (truss_at k o h) pid w.0 = w.1 in
      let r = run-reaches n k o s h run in
      let files : HasFiles k (truss_at k o h) (state_after s h) = r.files in (
        (traced_at (truss_at k o h) w.0).control,
        subst (λ x. IsFileOf k (state_after s h) x (traced_at (truss_at k o h) w.0).control file.Ctl WriteExcl) i.of
            (files.control w.0 i.within),
      )

-- It is refused for no live process but process 0.
pub grants-release : (n k : ℕ) (o : Options) (s : TracedState) (before : List Entry) (e : Entry)
    → IsTrussRun n k o s (before ++ e ∷ []) → (number : ℕ) (r : Reply) (held : Held) (p : TracedProcess)
    → exchange_of k e ≡ Some (record { call = message_call number (message.Set rlc_mode); reply = r })
    → handle_of (state_after s before).opens k number ≡ Some held → held.file ≡ file.Ctl
    → live_process (state_after s before).system held.pid ≡ Some p → held.pid ≢ 0 → errno_in r ≡ None
grants-release n k o s before e run number r held p its there control live some =
    let x : Exchange = record { call = message_call number (message.Set rlc_mode); reply = r } in
    let y : IsAnswered k (state_after s before) x =
    exchange-answered n k (state_after s before) e x (run-last n k o s before e run) its in
    accepted-granted r
    (ap answer_of (sym y.reply)
    ∙ release-granted (state_after s before) k number held there control p live some y.answer y.is)

pub ruleset set_releases = (releases-set, grants-release)
