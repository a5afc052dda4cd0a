use Rattle.std.proofs.Common.{◌≡◌, ◌<◌, ◌||◌, ◌++◌, ℕ, Bool, true, false, is_some, Option, Some, None, List, [], ◌∷◌, length, append_assoc, refl, sym, subst, ap, ◌∙◌, arith}
use Rattle.std.proofs.lemmas.Bool.{eq-eqb, false≢true}
use Rattle.std.proofs.lemmas.List.{length-map, length-set}
use Rattle.std.proofs.lemmas.Option.{none-some, same_Some}
use Rattle.pr_line.specs.declared.options.Options.{Options}
use Rattle.pr_model.specs.Legal.{state_after}
use Rattle.pr_model.specs.State.{TracedState}
use Rattle.pr_model.specs.declared.calls.Call.{Call}
use Rattle.pr_model.specs.declared.calls.Call.TheVariants as call
use Rattle.pr_model.specs.declared.calls.Reply.TheVariants as reply
use Rattle.pr_model.specs.declared.events.Entry.{Entry}
use Rattle.pr_num.specs.declared.errnos.Errno.TheVariants.{Noent}
use Rattle.pr_truss.specs.Asides.{patching, with_aside}
use Rattle.pr_truss.specs.Closings.{closed_or_removed, with_closed}
use Rattle.pr_truss.specs.Feeding.{fed, with_reply}
use Rattle.pr_truss.specs.FunctionCalls.{call_beside, function_call_of, next_function_call_of, patch_call}
use Rattle.pr_truss.specs.FunctionFeeding.{after_first, after_patch, fed_functions, with_asking_answered, with_aside_answered, with_code_answered, with_function_reply, with_function_step_answered, with_halt_answered, with_patch_answered, with_pending_told, with_plant_answered, with_wait_answered}
use Rattle.pr_truss.specs.FunctionStops.{with_function_lwps_answered, with_function_run_answered, with_function_status_answered, with_function_text_answered}
use Rattle.pr_truss.specs.Marks.{first_function, has_functions, without_function}
use Rattle.pr_truss.specs.NextCalls.{call_of, next_call_of}
use Rattle.pr_truss.specs.Openings.{with_refused_step}
use Rattle.pr_truss.specs.Processes.{last_handle, without_last}
use Rattle.pr_truss.specs.Replies.{answer_of}
use Rattle.pr_truss.specs.Stops.{after_text, with_event_shown, with_run_answered, with_status_answered, with_text_answered}
use Rattle.pr_truss.specs.Trusses.{TrussState, first_truss, traced_at, with_traced}
use Rattle.pr_truss.specs.declared.asides.Aside.{Aside}
use Rattle.pr_truss.specs.declared.asides.Aside.TheVariants.{Nothing, Reading, Planting, Patching, AwaitingStop, Asking, AwaitingAgain}
use Rattle.pr_truss.specs.declared.processes.Traced.{Traced}
use Rattle.pr_truss.specs.declared.replies.Answer.TheVariants.{Gone}
use Rattle.pr_truss.specs.declared.stages.AfterClosing.{AfterClosing}
use Rattle.pr_truss.specs.declared.stages.AfterClosing.TheVariants.{OpenNext, GoOn}
use Rattle.pr_truss.specs.declared.stages.OpeningStep.TheVariants.{Start}
use Rattle.pr_truss.specs.declared.stages.Stage.{Stage}
use Rattle.pr_truss.specs.declared.stages.Stage.TheVariants.{Opening, ReadingStatus, ReadingText, Running, Closing, Unfollowing, ReadingLwps}
use Rattle.pr_truss_laws.proofs.Files.HeldLemmas.{ClosesFirst, Fits, at_place, closes-first, closes-next, of_stage, set-at}
use Rattle.pr_truss_laws.proofs.Files.OwnLemmas.{Owns}
use Rattle.pr_truss_laws.proofs.Replies.FunctionOptionLemmas.{fed_functions-options}
use Rattle.pr_truss_laws.proofs.Replies.GoneLemmas.{WhenGone, ended, frees, gone-closes, shuts}
use Rattle.pr_truss_laws.specs.Business.{goes_to}
use Rattle.pr_truss_laws.specs.Exchanges.{Exchange, exchanges}
use Rattle.pr_truss_laws.specs.Handles.{handles_of}
use Rattle.pr_report_laws.proofs.Files.FileLaws.{HasFiles}
use Rattle.pr_report_laws.proofs.Files.FileUses.{file-owner, named-file, stage-control, stage_place}
use Rattle.pr_report_laws.proofs.Files.WatchHistories.{Reaches}
use Rattle.pr_report_laws.proofs.Invariant.StandLemmas.{Leaves, Stands}
use Rattle.pr_report_laws.proofs.OwnFiles.EndedFiles.{all-of}
use Rattle.pr_report_laws.proofs.Replies.Places.{unwatched-away}
use Rattle.pr_report_laws.specs.Attachments.{WasInterrupted}
use Rattle.pr_report_laws.specs.Holds.{IsToldOfEnd}
use Rattle.pr_report_laws.specs.OwnFiles.{CloseAllOf, CloseFirst}
use Rattle.pr_report_laws.specs.Watching.{is_away, place_of, watches}
use Rattle.pr_function_laws.proofs.Holding.HoldEnds.{GoesToIt, interrupted-leaves, like-goes, owner-here}
use Rattle.pr_function_laws.proofs.Holding.HoldLaws.{hold-watched}
use Rattle.pr_function_laws.proofs.NextCalls.PatchCalls.{fed-beside, fed-staged, next-beside, next-staged}
use Rattle.pr_function_laws.proofs.NextCalls.SteadyReplies.{Steady, fed-steady}
use Rattle.pr_function_laws.proofs.OrdinaryTruss.OrdinaryEntries as entries
use Rattle.pr_function_laws.proofs.OrdinaryTruss.OrdinaryEntries.{front-run, watches-ordinary}
use Rattle.pr_function_laws.proofs.OrdinaryTruss.OrdinaryExchanges.{IsFit, Turn, goes_on, goes_out}
use Rattle.pr_function_laws.proofs.OrdinaryTruss.OrdinaryFiles.{Follows, Halfway, run-halfway}
use Rattle.pr_function_laws.proofs.OrdinaryTruss.OrdinaryReplies.{at-ordinary}
use Rattle.pr_function_laws.proofs.OrdinaryTruss.OrdinaryStops.{FitsAside, IsLookedAt, IsToDo, patch-looked}
use Rattle.pr_function_laws.proofs.ShownOnce.GoingOn.{Going}
use Rattle.pr_function_laws.specs.EndedProcesses.{ClosesAllThatEndedOf, LiftsUnheld}
use Rattle.pr_function_laws.specs.Holds.{HasHoldWithFunctions}
use Rattle.pr_function_laws.specs.Opened.{IsFunctionRun, functions_at}
use Rattle.pr_function_laws.specs.Ordinary.{PassesOver, SeesTo, ordinary, unmarked}
use Rattle.pr_function_laws.specs.Runs.{MakesFunctionCalls}

-- Where truss with calls of functions is told that a process has ended it closes all files of it that it has open.

-- ---- closing

module _ (o : Options) (has : has_functions o ≡ true) (place : ℕ) (next : AfterClosing) where
  -- truss closes the files of the process at the place, and does nothing before
  record IsClosing (u : TrussState) : Type 0 where
    options : u.options ≡ o
    idle : u.aside ≡ Nothing
    stage : u.stage ≡ Closing place next
    within : place < length u.traced

  close-fed : (u : TrussState) (x : Exchange) → IsClosing u
      → fed_functions u x.reply ≡ closed_or_removed u place next (without_last (traced_at u place))
  unfolding with_function_reply with_reply with_closed
  close-fed u x w = fed-staged o has u x.reply (Closing place next) w.options w.idle w.stage

  close-call : (u : TrussState) (x : Exchange) → IsClosing u → next_function_call_of u ≡ Some x.call
      → x.call ≡ call.Close (last_handle (traced_at u place))
  unfolding function_call_of call_of
  close-call u x w made =
      same_Some x.call (call.Close (last_handle (traced_at u place)))
      (sym made ∙ next-staged o has u (Closing place next) w.options w.idle w.stage)

  -- the next file is closed
  closes-first-file : (u : TrussState) (x : Exchange) (xs : List Exchange) → IsClosing u
      → x.call ≡ call.Close (last_handle (traced_at u place))
      → ((v : TrussState) → IsClosing v → MakesFunctionCalls v xs → CloseFirst xs (handles_of (traced_at v place)))
      → (left : Option Traced) → ClosesFirst (traced_at u place) left
      → MakesFunctionCalls (closed_or_removed u place next left) xs
      → CloseFirst (x ∷ xs) (handles_of (traced_at u place))
  closes-first-file u x xs w closes later None first made =
      subst (CloseFirst (x ∷ xs)) (sym first) (closes, nothing xs)
    where
      nothing : (ys : List Exchange) → CloseFirst ys []
      nothing [] = tt
      nothing (y ∷ ys) = tt
  closes-first-file u x xs w closes later (Some t) first made =
      let it =
      later (with_traced u place t) (record {
        options = w.options;
        idle = w.idle;
        stage = w.stage;
        within = omega (arith, length-set u.traced place t, w.within);
      }) made in
      subst (CloseFirst (x ∷ xs)) (sym first)
      (closes, subst (λ (z : Traced). CloseFirst xs (handles_of z)) (set-at u.traced place t w.within) it)

  closes-all : (xs : List Exchange) (u : TrussState) → IsClosing u → MakesFunctionCalls u xs
      → CloseFirst xs (handles_of (traced_at u place))
  closes-all [] u w makes = tt
  closes-all (x ∷ xs) u w makes =
      closes-first-file u x xs w (close-call u x w makes.0) (λ v. closes-all xs v) (without_last (traced_at u place))
      (closes-first (traced_at u place))
      (subst (λ (v : TrussState). MakesFunctionCalls v xs) (close-fed u x w) makes.1)

-- ---- the reply

-- truss lifts in a process whose opening was refused
record IsGivenUp (t : TrussState) : Type 0 where
  place : ℕ
  plants : List Bool
  lifts : List Bool
  clear : Bool
  at : ℕ
  aside : t.aside ≡ Patching place plants lifts clear
  stage : t.stage ≡ Closing at OpenNext

module _ (t : TrussState) (never : IsGivenUp t → ⊥) where
  staged-idle : t.aside ≡ Nothing → (stage : Stage) → t.stage ≡ stage
      → (with_function_reply t ended stage).aside ≡ Nothing
  unfolding with_function_reply with_function_step_answered with_function_status_answered with_function_text_answered
      with_function_run_answered with_halt_answered with_function_lwps_answered with_refused_step with_status_answered
      with_text_answered after_text with_event_shown with_run_answered answer_of fed
  staged-idle idle (Opening place now) at = idle
  staged-idle idle (ReadingStatus place) at = idle
  staged-idle idle (ReadingText place l from len) at = idle
  staged-idle idle (Running place) at = idle
  staged-idle idle Unfollowing at = idle
  staged-idle idle ReadingLwps at = idle
  staged-idle idle stage at =
      let it : Steady t ended (fed t ended) = fed-steady t ended in
      ap (λ st. (with_reply t ended st).aside) (sym at) ∙ it.aside ∙ idle

  -- nothing comes before the closes
  patch-idle : (u : TrussState) (rest : Aside) (place : ℕ) (stage : Stage) → u.aside ≡ Nothing
      → IsLookedAt place stage → ((at : ℕ) → stage ≡ Closing at OpenNext → ⊥)
      → (after_patch u rest place stage Gone).aside ≡ Nothing
  unfolding after_patch with_pending_told
  patch-idle u rest place (Closing at OpenNext) idle looked other = absurd (other at refl)
  patch-idle u rest place (Closing at GoOn) idle looked other = idle
  patch-idle u rest place (Running at) idle looked other = idle
  patch-idle u rest place (ReadingText at l from len) idle looked other = idle
  patch-idle u rest place _ idle looked other = absurd looked

  first-idle : (place : ℕ) (plants lifts : List Bool) (clear : Bool) → IsLookedAt place t.stage
      → ((at : ℕ) → t.stage ≡ Closing at OpenNext → ⊥) → (plant lift : Option ℕ)
      → (after_first (with_aside t Nothing) place plants lifts clear Gone plant lift).aside ≡ Nothing
  first-idle place plants lifts clear looked other (Some function) lift =
      patch-idle _ (patching place (without_function plants function) lifts clear) place t.stage refl looked other
  first-idle place plants lifts clear looked other None (Some function) =
      patch-idle _ (patching place plants (without_function lifts function) clear) place t.stage refl looked other
  first-idle place plants lifts clear looked other None None =
      patch-idle _ Nothing place t.stage refl looked other

  aside-idle : (aside : Aside) → t.aside ≡ aside → FitsAside aside t.stage
      → (with_aside_answered t ended aside).aside ≡ Nothing
  unfolding with_aside_answered with_code_answered with_plant_answered with_patch_answered with_wait_answered
      with_asking_answered with_refused_step answer_of
  aside-idle Nothing is fits = staged-idle is t.stage refl
  aside-idle (Reading place function) is fits = refl
  aside-idle (Planting place function) is fits = refl
  aside-idle (Patching place plants lifts clear) is fits =
      first-idle place plants lifts clear (patch-looked place plants clear t.stage fits.0)
      (λ at stage. never (record {
        place = place;
        plants = plants;
        lifts = lifts;
        clear = clear;
        at = at;
        aside = is;
        stage = stage;
      })) (first_function plants) (first_function lifts)
  aside-idle (AwaitingStop until) is fits = refl
  aside-idle Asking is fits = refl
  aside-idle (AwaitingAgain until) is fits = refl

  ended-idle : (o : Options) → has_functions o ≡ true → IsFit o t → (fed_functions t ended).aside ≡ Nothing
  ended-idle o has fit =
      ap (λ (u : TrussState). u.aside) (fed-beside o has t ended fit.options) ∙ aside-idle t.aside refl fit.fits

-- ---- one entry

module _ (n k : ℕ) (o : Options) (pid : ℕ) (s : TracedState) (before later : List Entry) (e : Entry)
    (run : IsFunctionRun n k o s (before ++ e ∷ later)) (w : IsToldOfEnd k pid (state_after s before) e) where
  abbrev t : TrussState
  t = functions_at k o before

  abbrev u : TrussState
  u = ordinary t

  abbrev v : TrussState
  v = functions_at k o (before ++ e ∷ [])

  abbrev now : TracedState
  now = state_after s before

  abbrev x : Exchange
  x = record { call = w.call; reply = reply.Fail Noent }

  there : Follows k o t now
  there = entries.follows n k o s before later e run

  fit : IsFit o t
  fit = let f = there in f.fit

  reached : Reaches k u now
  reached = let f = there in f.reaches

  files : HasFiles k u now
  files = let g = reached in g.files

  fits : Fits u.traced u.stage
  fits = let g = reached in let owns : Owns k u now = g.owns in owns.fits

  stands : Stands u.traced u.leaving u.stage
  stands = let f = files in f.stands

  turned : Turn t x
  turned = entries.turned n k o s before later e run x w.is

  pushed : v ≡ fed_functions t ended
  pushed = entries.pushed n k o s before later e run x w.is

  made : MakesFunctionCalls v (exchanges k later)
  made =
      let half : Halfway n k o (first_truss o) s (before ++ e ∷ []) later =
      run-halfway n k o s (before ++ e ∷ []) later
      (subst (IsFunctionRun n k o s) (sym (append_assoc before (e ∷ []) later)) run) in
      half.makes

  -- The files of the process at this place are closed next, if nothing is lifted in one whose opening was refused.
  module _ (place : ℕ) (next : AfterClosing) (within : place < length u.traced) (own : (traced_at u place).pid ≡ pid)
      (alone : (h : ℕ) → of_stage pid h u.stage ≡ 0) (at : v.stage ≡ Closing place next)
      (same : (ordinary v).traced ≡ u.traced) (never : IsGivenUp t → ⊥) where
    closing : IsClosing o run.has place next v
    closing = record {
      options =
          let f = fit in
          ap (λ (z : TrussState). z.options) pushed ∙ fed_functions-options t ended ∙ f.options;
      idle = ap (λ (z : TrussState). z.aside) pushed ∙ ended-idle t never o run.has fit;
      stage = at;
      within = traced-within (subst (λ (ts : List Traced). place < length ts) (sym same) within);
    }
      where
        traced-within : place < length (ordinary v).traced → place < length v.traced
        traced-within less = omega (arith, less, length-map v.traced unmarked)

    closes-these : CloseAllOf k pid now (exchanges k later)
    closes-these = (
      handles_of (traced_at u place),
      (
        all-of k u now reached pid place within own alone,
        subst (CloseFirst (exchanges k later))
            (ap handles_of (sym (at-ordinary v place)) ∙ ap (λ (ts : List Traced). handles_of (at_place ts place)) same)
            (closes-all o run.has place next (exchanges k later) v closing made),
      ),
    )

  -- ---- a call that is like one of a truss

  not-close : (d : Call) (number place : ℕ) (next : AfterClosing) → goes_to d ≡ Some number
      → u.stage ≡ Closing place next → next_call_of u ≡ Some d → ⊥
  not-close d number place next goes at called =
      let is : d ≡ call.Close (last_handle (traced_at u place)) =
      same_Some d _ (sym called ∙ closes-next u (traced_at u place) place next at refl) in
      none-some number (sym (ap goes_to is) ∙ goes)

  like-closes : (y : Exchange) → (ordinary v ≡ fed u y.reply) → next_call_of u ≡ Some y.call
      → (y.reply ≡ reply.Fail Noent) × GoesToIt n k o pid s before later e run y.call
      → CloseAllOf k pid now (exchanges k later)
  like-closes y comes called goes =
      by (gone-closes u g.number y.call fits called g.goes)
    where
      g : GoesToIt n k o pid s before later e run y.call
      g = goes.1

      so : ordinary v ≡ fed u ended
      so = comes ∙ ap (fed u) goes.0

      by : WhenGone u g.number → CloseAllOf k pid now (exchanges k later)
      by (shuts place next within named alone at same) =
          closes-these place next within
          (file-owner k now pid _ g.number g.held g.there g.of
          (named-file k u now files fits g.number place within named))
          (λ h. alone pid h) (ap (λ (z : TrussState). z.stage) so ∙ at)
          (ap (λ (z : TrussState). z.traced) so ∙ same)
          (λ given. not-close y.call g.number given.at OpenNext g.goes given.stage called)
      by (frees child at is) =
          absurd (subst (Going (exchanges k before)) at (entries.going n k o s before later e run))

  -- ---- a call that is left out

  module _ (unless : LiftsUnheld k o pid s before e → ⊥) where
    -- it lifts in a process whose opening was refused
    gives-up : (at : ℕ) → t.stage ≡ Closing at OpenNext → SeesTo t t.stage w.call → IsGivenUp t → ⊥
    unfolding call_beside
    gives-up at stage sees given =
        let f = fit in
        let fitting : FitsAside (Patching given.place given.plants given.lifts given.clear) (Closing at OpenNext) =
        subst (FitsAside (Patching given.place given.plants given.lifts given.clear)) stage
        (subst (λ a. FitsAside a t.stage) given.aside f.fits) in
        by (first_function given.lifts) refl fitting.0.1.0 fitting.0.1.1 fitting.1
      where
        called : (lift : Option ℕ) → first_function given.lifts ≡ lift → first_function given.plants ≡ None
            → w.call ≡ patch_call o (traced_at t given.place).control None lift
        called lift is none =
            let f = fit in
            same_Some w.call _
            (sym (entries.made n k o s before later e run x w.is)
            ∙ next-beside o run.has t f.options ∙ ap (call_beside t t.stage) given.aside
            ∙ ap (λ q. Some (patch_call q (traced_at t given.place).control (first_function given.plants)
            (first_function given.lifts))) f.options
            ∙ ap (λ p. Some (patch_call o (traced_at t given.place).control p (first_function given.lifts))) none
            ∙ ap (λ p. Some (patch_call o (traced_at t given.place).control None p)) is)

        unheld : HasHoldWithFunctions k o pid s before → ⊥
        unheld held =
            let c = stage-control k u now files fits at (ap stage_place stage) in
            let owner : (traced_at u at).pid ≡ pid =
            owner-here n k o pid s before later e run w (Closing at OpenNext) at stage refl
            (subst (λ st. SeesTo t st w.call) stage sees) in
            let off : watches u pid ≡ false =
            unwatched-away u pid at (subst (λ p. place_of u p ≡ Some at) owner (files.one at c.0))
            (ap (λ z. is_away u.leaving z at) stage ∙ eq-eqb at at refl) in
            false≢true
            (sym off ∙ watches-ordinary t pid
            ∙ hold-watched n k o pid s before (front-run n k o s before (e ∷ later) run) held)

        unbroken : WasInterrupted k before → ⊥
        unbroken broken =
            let st = stands in
            let off : u.leaving ≡ false = subst (Leaves u.leaving) stage st.leaves in
            false≢true (sym off ∙ interrupted-leaves n k o pid s before later e run broken)

        by : (lift : Option ℕ) → first_function given.lifts ≡ lift → first_function given.plants ≡ None
            → given.clear ≡ false → IsToDo given.plants given.lifts given.clear → ⊥
        by None is none unclear todo =
            false≢true
            (sym (ap (λ b. is_some (first_function given.plants) || is_some (first_function given.lifts) || b) unclear
            ∙ ap (λ (p : Option ℕ). is_some p || is_some (first_function given.lifts) || false) none
            ∙ ap (λ (p : Option ℕ). false || is_some p || false) is) ∙ todo)
        by (Some function) is none unclear todo =
            unless (record {
              control = (traced_at t given.place).control;
              function = function;
              reply = reply.Fail Noent;
              is = w.is
                  ∙ ap (λ (c : Call). let z : Exchange = record { call = c; reply = reply.Fail Noent } in Some z)
                  (called (Some function) is none);
              unheld = unheld;
              unbroken = unbroken;
            })

    out-closes : (stage : Stage) → t.stage ≡ stage → SeesTo t stage w.call → PassesOver stage (reply.Fail Noent)
        → ordinary v ≡ u → CloseAllOf k pid now (exchanges k later)
    out-closes (Opening place Start) at sees passes stay = absurd (none-some Noent (sym passes))
    out-closes (Running place) at sees passes stay = absurd (passes refl)
    out-closes (ReadingText place l from len) at sees passes stay = absurd (passes refl)
    out-closes ReadingLwps at sees passes stay = absurd (passes refl)
    out-closes (Closing place next) at sees passes stay =
        let c = stage-control k u now files fits place (ap stage_place at) in
        closes-these place next c.0
        (owner-here n k o pid s before later e run w (Closing place next) place at refl sees)
        (λ h. ap (of_stage pid h) at) (ap (λ (z : TrussState). z.stage) stay ∙ at)
        (ap (λ (z : TrussState). z.traced) stay)
        (λ given. gives-up given.at given.stage (subst (λ st. SeesTo t st w.call) (sym at) sees) given)
    out-closes _ at sees passes stay = absurd sees

    pub closes-told : CloseAllOf k pid (state_after s before) (exchanges k later)
    closes-told = by turned
      where
        by : Turn t x → CloseAllOf k pid now (exchanges k later)
        by (goes_out sees passes stay) = out-closes t.stage refl sees passes (ap ordinary pushed ∙ stay)
        by (goes_on y like called comes) =
            like-closes y (ap ordinary pushed ∙ comes) called
            (like-goes n k o pid s before later e run w x y refl refl like called)

pub closes-all-ended : (n k : ℕ) (o : Options) (s : TracedState) (h : List Entry) → IsFunctionRun n k o s h
    → ClosesAllThatEndedOf k o s h
closes-all-ended n k o s h run = record {
  each = λ before later e pid is w unless.
      closes-told n k o pid s before later e (subst (IsFunctionRun n k o s) is run) w unless;
}

pub ruleset ended_files = (closes-all-ended)
