use Rattle.std.proofs.Common.{◌≡◌, ◌≢◌, ◌<◌, ◌++◌, ℕ, true, false, Option, Some, None, List, [], ◌∷◌, length, refl, sym, subst, ap, ◌∙◌}
use Rattle.std.proofs.lemmas.Option.{none-some}
use Rattle.std.specs.List.{All}
use Rattle.pr_function_hides.proofs.Replies.ClosingWalk.{called_at}
use Rattle.pr_function_hides.proofs.Copying.CopyEnds.{aside-within, gone-there, stage-within}
use Rattle.pr_function_hides.proofs.Copying.CopyForeign.{control-at}
use Rattle.pr_function_hides.proofs.Replies.CountedWalk.{TrussIn}
use Rattle.pr_function_hides.proofs.FirstPlanted.FirstFunctions.{IsFirstOf}
use Rattle.pr_function_hides.proofs.FirstPlanted.FirstLaw.{firsts-after}
use Rattle.pr_function_hides.proofs.Replies.OwnFiles.{IsBeside, IsWithin}
use Rattle.pr_function_laws.proofs.Stepping.BreakpointLemmas.{IsForeign, IsOwnEntry, foreign-entry, own-entry}
use Rattle.pr_function_laws.proofs.Pending.FrontLemmas as fronts
use Rattle.pr_function_laws.proofs.Pending.FrontLemmas.{calm-answer}
use Rattle.pr_function_laws.proofs.Marks.KeptPlaces.{Kept, apart-at}
use Rattle.pr_function_laws.proofs.Pending.KnownLaws.{known-at}
use Rattle.pr_function_laws.proofs.OpenedProcesses.OpenedCalls.{IsSo, control-fresh}
use Rattle.pr_function_laws.proofs.OpenedProcesses.OpenedLaws.{Goes, before-goes, bytes-front}
use Rattle.pr_function_laws.proofs.OpenedProcesses.OpenedLemmas.{control-made}
use Rattle.pr_function_laws.proofs.OrdinaryTruss.OrdinaryFiles.{run-halfway}
use Rattle.pr_function_laws.proofs.OrdinaryTruss.OrdinaryExchanges.{IsFit}
use Rattle.pr_function_laws.proofs.OrdinaryTruss.OrdinaryStops.{FitsAside}
use Rattle.pr_function_laws.proofs.Marks.SoundLemmas.{AsideIsBelow}
use Rattle.pr_function_laws.specs.Lifted.{HasControl}
use Rattle.pr_function_laws.specs.ReachedRuns.{IsReachedFunctionRun}
use Rattle.pr_function_laws.specs.Opened.{IsFunctionRun, WasNotInterrupted, functions_at}
use Rattle.pr_function_laws.specs.Runs.{functions_on}
use Rattle.pr_line.specs.declared.options.Options.{Options}
use Rattle.pr_model.specs.Lawful.{IsLawful}
use Rattle.pr_model.specs.Legal.{IsLegalEntry, after, state_after}
use Rattle.pr_model.specs.State.{TracedProcess, TracedState, live_process}
use Rattle.pr_model.specs.declared.events.Entry.{Entry}
use Rattle.pr_reached.specs.ByteHistories.{HasBytes}
use Rattle.pr_report_laws.proofs.Invariant.StandLemmas.{Each}
use Rattle.pr_truss.specs.FunctionCalls.{next_function_call_of}
use Rattle.pr_truss.specs.FunctionFeeding.{fed_functions}
use Rattle.pr_truss.specs.Marks.{has_functions}
use Rattle.pr_truss.specs.Replies.{answer_of}
use Rattle.pr_truss.specs.Trusses.{TrussState, traced_at}
use Rattle.pr_truss.specs.declared.processes.Traced.{Traced}
use Rattle.pr_truss.specs.declared.replies.Answer.TheVariants.{Accepted, Gone}
use Rattle.pr_truss.specs.declared.stages.Stage.TheVariants.{OpeningControl}
use Rattle.pr_truss.specs.declared.asides.Aside.TheVariants.{Nothing}
use Rattle.pr_truss_laws.proofs.Machine.OverLemmas.{stays-over}
use Rattle.pr_truss_laws.specs.Exchanges.{Exchange, exchange_of, exchanges}

-- An entry of a history of truss with functions before which it was not interrupted: what is so of truss and of the
-- machine before it and behind it.

module _ (n k : ℕ) (o : Options) (s : TracedState) (h : List Entry) (run : IsReachedFunctionRun n k o s h)
    (front : List Entry) (e : Entry) (later : List Entry)
    (is : h ≡ front ++ e ∷ later) (calm : All WasNotInterrupted (exchanges k front)) where
  abbrev pub t : TrussState
  t = functions_at k o front

  abbrev pub now : TracedState
  now = state_after s front

  abbrev pub next_front : List Entry
  next_front = front ++ e ∷ []

  pub goes : Goes (Unit {0}) k o t now
  goes =
      before-goes n k o s h run.of front (e ∷ later) is calm (Unit {0}) (λ r. run.reached)
      (λ r. bytes-front front (e ∷ later) (subst HasBytes is run.bytes))

  pub legal : IsLegalEntry n now e
  legal = fronts.legal n k o s h run.of front e later is calm

  pub lawful : IsLawful now
  lawful = let g = goes in g.lawful

  pub options : t.options ≡ o
  options = let g = goes in g.options

  pub has : has_functions t.options ≡ true
  has = fronts.has n k o s h run.of front e later is calm

  pub kept : Kept (IsSo (Unit {0}) k t.options now) t
  kept = let g = goes in g.kept

  pub off : t.leaving ≡ false
  off = let w = kept in w.off

  pub follow : t.options.follow ≡ false
  follow = let w = kept in w.follow

  pub at-stage : IsWithin (length t.traced) t.stage
  at-stage = let w = kept in stage-within (IsSo (Unit {0}) k t.options now) t.traced t.stage w.stage

  pub at-aside : IsBeside (length t.traced) t.aside
  at-aside = let w = kept in aside-within (IsSo (Unit {0}) k t.options now) t.traced t.aside w.beside

  fit : IsFit o t
  fit =
      let half =
      run-halfway n k o s front (e ∷ later) (subst (λ (es : List Entry). IsFunctionRun n k o s es) is run.of) in
      let f = half.follows in f.fit

  pub fits : FitsAside t.aside t.stage
  fits = let f = fit in f.fits

  -- what it plants and lifts next are functions that its options name, each the first at its address
  pub below : AsideIsBelow (length o.functions) t.aside
  below = let f = fit in let sound = f.sound in let names = sound.names in names.aside

  pub firsts : TrussIn (IsFirstOf o) t
  firsts = firsts-after n k o s h run.of front (e ∷ later) is calm

  pub control : (q : ℕ) → q < length t.traced → HasControl k (traced_at t q).pid (traced_at t q).control now
  control q within = control-at n k o t now goes q within

  pub made-at : (q : ℕ) → q < length t.traced → (traced_at t q).pid < now.system.made
  made-at q within = control-made k (traced_at t q).pid (traced_at t q).control now lawful (control q within)

  pub apart : (i j : ℕ) → i < length t.traced → j < length t.traced → i ≢ j
      → (traced_at t i).pid ≢ (traced_at t j).pid
  apart i j one two other = let w = kept in apart-at t.traced i j one two other w.apart

  pub pushed : functions_at k o next_front ≡ functions_on t (exchange_of k e)
  pushed = fronts.pushed n k o s h run.of front e later is calm

  pub next-state : state_after s next_front ≡ after now e
  next-state = fronts.next-state n k o s h run.of front e later is calm

  pub next-live : (pid : ℕ) → live_process (state_after s next_front).system pid
      ≡ live_process (after now e).system pid
  next-live pid = ap (λ (u : TracedState). live_process u.system pid) next-state

  -- a process of truss that lives later lived before
  pub over-next : (q : ℕ) → q < length t.traced → live_process now.system (traced_at t q).pid ≡ None
      → live_process (state_after s next_front).system (traced_at t q).pid ≡ None
  over-next q within none =
      next-live (traced_at t q).pid
      ∙ stays-over n now e (traced_at t q).pid lawful legal (made-at q within) none

  pub lived-before : (q : ℕ) → q < length t.traced → (y : TracedProcess)
      → live_process (state_after s next_front).system (traced_at t q).pid ≡ Some y
      → (x : TracedProcess) × (live_process now.system (traced_at t q).pid ≡ Some x)
  lived-before q within y later_live = by (live_process now.system (traced_at t q).pid) refl
    where
      by : (x : Option TracedProcess) → live_process now.system (traced_at t q).pid ≡ x
          → (x : TracedProcess) × (live_process now.system (traced_at t q).pid ≡ Some x)
      by (Some x) live = (x, live)
      by None none = absurd (none-some y (sym (over-next q within none) ∙ later_live))

  -- ---- an entry of others

  pub foreign : exchange_of k e ≡ None → IsForeign k now e
  foreign none = foreign-entry n k now e legal none

  pub same-truss : exchange_of k e ≡ None → functions_at k o next_front ≡ t
  same-truss none = pushed ∙ ap (functions_on t) none

  -- ---- a call of truss

  module _ (x : Exchange) (mine : exchange_of k e ≡ Some x) where
    pub own : IsOwnEntry k now e x
    own = own-entry n k now e x legal mine

    pub next : next_function_call_of t ≡ Some x.call
    next = fronts.makes-next n k o s h run.of front e later is calm x mine

    pub fed-truss : functions_at k o next_front ≡ fed_functions t x.reply
    fed-truss = pushed ∙ ap (functions_on t) mine

    pub over : (pid : ℕ) → pid < now.system.made → live_process now.system pid ≡ None
        → (let it = own in live_process it.answer.state.system pid ≡ None)
    over pid made none =
        let it = own in
        ap (λ (u : TracedState). live_process u.system pid) it.later ∙ stays-over n now e pid lawful legal made none

    pub left-state : (let it = own in it.answer.state ≡ state_after s next_front)
    left-state = let it = own in it.later ∙ sym next-state

    pub fresh : (pid : ℕ) → t.stage ≡ OpeningControl pid → t.aside ≡ Nothing → answer_of x.reply ≡ Accepted
        → Each (λ (u : Traced). u.pid ≢ pid) t.traced
    fresh pid at idle accepted =
        let g = goes in
        let it = own in
        control-fresh (Unit {0}) n k now g.lawful x.call it.answer it.is over t g.kept g.reached pid at idle has next
        (ap answer_of it.replied ∙ accepted)

    -- who is told to be gone has ended
    pub gone : answer_of x.reply ≡ Gone → (q : ℕ) → called_at t.stage t.aside ≡ Some q
        → live_process now.system (traced_at t q).pid ≡ None
    gone told q here =
        let it = own in
        gone-there n k o t now goes (known-at n k o s h run.of front (e ∷ later) is calm) x.call it.answer it.is
        (ap answer_of it.replied ∙ told) has next q here
