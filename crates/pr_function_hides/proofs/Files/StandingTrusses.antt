use Rattle.std.proofs.Common.{◌≡◌, ◌≢◌, ◌<◌, ◌++◌, ℕ, Bool, true, false, List, length, refl, sym, subst, ap, ◌∙◌}
use Rattle.std.proofs.lemmas.List.{length-map}
use Rattle.pr_function_hides.proofs.Tidy.CopyFree.{function-run, options-of, truss-is}
use Rattle.pr_function_hides.specs.RunsOfTrusses.{IsRunOfTrusses}
use Rattle.pr_function_hides.specs.TidyWrites.{IsTrussAfter}
use Rattle.pr_function_laws.proofs.OrdinaryTruss.OrdinaryFiles.{Follows, run-halfway}
use Rattle.pr_function_laws.proofs.OrdinaryTruss.OrdinaryReplies.{at-ordinary}
use Rattle.pr_function_laws.specs.Opened.{IsFunctionRun, functions_at}
use Rattle.pr_function_laws.specs.Ordinary.{ordinary, unmarked}
use Rattle.pr_hidden.specs.Hiders.{Hiders, hides}
use Rattle.pr_line.specs.declared.options.Options.{Options}
use Rattle.pr_model.specs.Legal.{state_after}
use Rattle.pr_model.specs.State.{TracedState}
use Rattle.pr_model.specs.declared.events.Entry.{Entry}
use Rattle.pr_rec.specs.declared.lwps.LwpStatus.{LwpStatus}
use Rattle.pr_report_laws.proofs.Files.FileUses.{standing}
use Rattle.pr_report_laws.proofs.Files.WatchHistories.{Reaches}
use Rattle.pr_report_laws.proofs.Invariant.StandLemmas.{Each, EachBut, HasMemoryOpen, IsAttached, IsThere, RestBut}
use Rattle.pr_report_laws.proofs.Invariant.StandLemmas.{Rests}
use Rattle.pr_report_laws.proofs.Invariant.StandLemmas.{Stands, StandsAt, busy, rest-stays}
use Rattle.pr_truss.specs.Trusses.{TrussState, traced_at}
use Rattle.pr_truss.specs.declared.processes.Traced.{Traced}
use Rattle.pr_truss.specs.declared.stages.OpeningStep.{OpeningStep}
use Rattle.pr_truss.specs.declared.stages.OpeningStep.TheVariants.{AwaitStop}
use Rattle.pr_truss.specs.declared.stages.Stage.TheVariants.{Opening, Polling, ReadingLwps, ReadingText}
use Rattle.pr_world.specs.ControllerStates.{ControllerState}

-- Which processes truss has attached, and which files of them are open, by where it stands.

-- how truss stands, but for what it does about breakpoints
abbrev pub StandsSo : TrussState → Type 0
StandsSo t = Stands (ordinary t).traced t.leaving t.stage

pub stands-after : (n k : ℕ) (o : Options) (s : TracedState) (before later : List Entry)
    → IsFunctionRun n k o s (before ++ later) → StandsSo (functions_at k o before)
stands-after n k o s before later run =
    let half = run-halfway n k o s before later run in
    let f : Follows k o (functions_at k o before) (state_after s before) = half.follows in
    let reached : Reaches k (ordinary (functions_at k o before)) (state_after s before) = f.reaches in
    standing k (ordinary (functions_at k o before)) (state_after s before) (functions_at k o before).stage
    reached.files refl

module _ {n : ℕ} {who : Hiders} {controllers : List ControllerState} {first : TracedState}
    {h : List Entry} (run : IsRunOfTrusses n who controllers first h) (k : ℕ) (hider : hides who k ≡ true) where
  pub stands-there : (front back : List Entry) → h ≡ front ++ back → (t : TrussState)
      → IsTrussAfter who controllers first h front k t → StandsSo t
  stands-there front back place t is =
      subst StandsSo (sym (truss-is run.own_calls run.are k hider front back place t is))
      (stands-after n k (options-of run.are k hider) first front back
      (subst (IsFunctionRun n k (options-of run.are k hider) first) place
      (function-run run.legal run.reached run.own_calls run.are k hider)))

module _ (t : TrussState) (w : StandsSo t) where
  abbrev ts : List Traced
  ts = (ordinary t).traced

  its-attached : (q : ℕ) (b : Bool) → (traced_at (ordinary t) q).attached ≡ b → (traced_at t q).attached ≡ b
  its-attached q b is = ap (λ (u : Traced). u.attached) (sym (at-ordinary t q)) ∙ is

  inside : (q : ℕ) → q < length t.traced → q < length ts
  inside q within = subst (λ m. q < m) (sym (length-map t.traced unmarked)) within

  -- ---- where it does not leave its processes

  module _ (off : t.leaving ≡ false) where
    rests-attached : (q : ℕ) → Rests t.leaving (traced_at (ordinary t) q) → (traced_at t q).attached ≡ true
    rests-attached q rests =
        its-attached q true
        (let a = rest-stays t.leaving (traced_at (ordinary t) q) rests off in a.attached)

    -- each process, where it polls
    pub polls-attached : t.stage ≡ Polling → (q : ℕ) → q < length t.traced → (traced_at t q).attached ≡ true
    polls-attached at q within =
        let all : Each (Rests t.leaving) ts = subst (RestBut t.leaving ts) (ap busy at) w.rests in
        rests-attached q (all q (inside q within))

    -- each other process, where it opens one
    pub opens-attached : (b : ℕ) (step : OpeningStep) → t.stage ≡ Opening b step → (q : ℕ) → q < length t.traced
        → q ≢ b → (traced_at t q).attached ≡ true
    opens-attached b step at q within other =
        let all : EachBut (Rests t.leaving) ts b = subst (RestBut t.leaving ts) (ap busy at) w.rests in
        rests-attached q (all q (inside q within) other)

    -- but not the one that it opens, as long as it waits for the stop of that
    pub awaits-free : (q until : ℕ) → t.stage ≡ Opening q (AwaitStop until) → (traced_at t q).attached ≡ false
    awaits-free q until at =
        its-attached q false
        (let a : HasMemoryOpen (traced_at (ordinary t) q) = subst (StandsAt ts) at w.at in
        let new = a.fresh in new.free)

  -- ---- where it does

  pub lwps-there : t.stage ≡ ReadingLwps → IsThere (traced_at t 0).lstatus
  lwps-there at =
      let a : IsAttached (traced_at (ordinary t) 0) = subst (StandsAt ts) at w.at in
      subst (λ (u : Traced). IsThere u.lstatus) (at-ordinary t 0) a.opened.lstatus

  pub text-there : (l : LwpStatus) (from len : ℕ) → t.stage ≡ ReadingText 0 l from len
      → IsThere (traced_at t 0).memory
  text-there l from len at =
      let a : IsAttached (traced_at (ordinary t) 0) = subst (StandsAt ts) at w.at in
      subst (λ (u : Traced). IsThere u.memory) (at-ordinary t 0) a.opened.memory
