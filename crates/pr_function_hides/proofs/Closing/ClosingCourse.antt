use Rattle.std.proofs.Common.{◌≡◌, ◌≢◌, ◌⊎◌, ◌<◌, ◌++◌, ℕ, true, false, cond, Option, Some, None, List, [], ◌∷◌, length}
use Rattle.std.proofs.Common.{refl, sym, subst, ap, ◌∙◌, inl, inr}
use Rattle.std.proofs.lemmas.Bool.{cases_eq, eq-eqb, false≢true}
use Rattle.std.proofs.lemmas.List.{append-nil, append_assoc}
use Rattle.std.proofs.lemmas.Option.{same_Some}
use Rattle.std.specs.List.{slice_get}
use Rattle.pr_api.specs.Entries.{call_entry}
use Rattle.pr_function_hides.proofs.Replies.BareStages.{Told}
use Rattle.pr_function_hides.proofs.Files.CallFacts.{controllers-push, legal-here, same-truss}
use Rattle.pr_function_hides.proofs.GoingOn.CalmCalls.{told-over}
use Rattle.pr_function_hides.proofs.Replies.ClosingStages.{stage-stays}
use Rattle.pr_function_hides.proofs.Replies.ClosingWalk.{CalledSo, ClosesSo, StageSo, fed-closes, first-closes}
use Rattle.pr_function_laws.proofs.LeavingProcesses.LeavingWaits.{WaitsAt, awaits_opening, polls, waits-at}
use Rattle.pr_function_hides.proofs.Copying.CopyFeeds.{opens-of}
use Rattle.pr_function_hides.proofs.Tidy.CopyFree.{copies-on}
use Rattle.pr_function_hides.proofs.Copying.CopyOpening.{early-marks}
use Rattle.pr_function_hides.proofs.Copying.CopyPlaces.{CopiesSo, IsBareMarks}
use Rattle.pr_function_hides.proofs.LeavingCopies.CopyStill.{may-can}
use Rattle.pr_function_hides.proofs.Files.FilesCalls.{Files}
use Rattle.pr_function_hides.proofs.Files.GoneTold.{called-within, left-told}
use Rattle.pr_function_hides.proofs.Closing.LeavingBare.{HasNoneUnattached, LeavesBare, leaves-begun, leaves-fed, leaves-stays}
use Rattle.pr_function_hides.proofs.Replies.OwnFiles.{GoesOn, HasItsFiles, IsWithin}
use Rattle.pr_function_hides.proofs.Files.StandingTrusses.{StandsSo, lwps-there, opens-attached, polls-attached, stands-there}
use Rattle.pr_function_hides.proofs.Files.StandingTrusses.{text-there}
use Rattle.pr_function_hides.proofs.Tidy.TidyCalls as Calls
use Rattle.pr_function_hides.proofs.Tidy.TidyEntries.{its-lawful, its-legal, now-is}
use Rattle.pr_function_hides.proofs.Tidy.TidyKept.{Kept as TidyKept, Truss as TidyTruss, has-files, stays-on}
use Rattle.pr_function_hides.proofs.Tidy.TidyLaw.{kept-at}
use Rattle.pr_function_hides.specs.RunsOfTrusses.{IsRunOfTrusses}
use Rattle.pr_function_hides.specs.TidyWrites.{IsTrussAfter}
use Rattle.pr_function_laws.proofs.Stepping.BreakpointLemmas.{IsOwnEntry}
use Rattle.pr_function_laws.proofs.Marks.KeptPlaces.{AtStage, Kept}
use Rattle.pr_function_laws.proofs.Pending.KnownFiles.{Knows, known-fed, known-first}
use Rattle.pr_function_laws.proofs.OpenedProcesses.OpenedLemmas.{control-made}
use Rattle.pr_function_laws.proofs.OrdinaryTruss.OrdinaryFiles.{entry-calm}
use Rattle.pr_function_laws.proofs.NextCalls.PatchCalls.{next-beside}
use Rattle.pr_function_laws.specs.Soon.{may_wait}
use Rattle.pr_hidden.specs.Hiders.{Hiders, hides}
use Rattle.pr_model.specs.Legal.{IsLegal, IsLegalEntry, state_after}
use Rattle.pr_model.specs.State.{TracedProcess, TracedState, live_process}
use Rattle.pr_model.specs.declared.calls.Call.{Call}
use Rattle.pr_model.specs.declared.calls.Reply.{Reply}
use Rattle.pr_model.specs.declared.calls.Reply.TheVariants as reply
use Rattle.pr_model.specs.declared.events.Act.{Act}
use Rattle.pr_model.specs.declared.events.Act.TheVariants as act
use Rattle.pr_model.specs.declared.events.Actor.{Actor}
use Rattle.pr_model.specs.declared.events.Actor.TheVariants.{Controller, Lwp, Clock}
use Rattle.pr_model.specs.declared.events.Entry.{Entry}
use Rattle.pr_num.specs.declared.errnos.Errno.TheVariants.{Intr}
use Rattle.pr_report_laws.proofs.Invariant.StandLemmas.{Each}
use Rattle.pr_truss.specs.Asides.{marks_at}
use Rattle.pr_truss.specs.FunctionCalls.{call_beside, function_call_of, next_function_call_of}
use Rattle.pr_truss.specs.FunctionFeeding.{fed_functions}
use Rattle.pr_truss.specs.Marks.{has_functions}
use Rattle.pr_truss.specs.NextCalls.{call_of, open_control}
use Rattle.pr_truss.specs.Replies.{answer_of}
use Rattle.pr_truss.specs.Trusses.{TrussState, first_truss, traced_at}
use Rattle.pr_truss.specs.declared.asides.Aside.TheVariants.{Nothing}
use Rattle.pr_truss.specs.declared.processes.Traced.{Traced}
use Rattle.pr_truss.specs.declared.replies.Answer.{Answer}
use Rattle.pr_truss.specs.declared.replies.Answer.TheVariants.{Accepted, Gone, Interrupted, Refused}
use Rattle.pr_truss.specs.declared.stages.OpeningStep.{OpeningStep}
use Rattle.pr_truss.specs.declared.stages.OpeningStep.TheVariants as opening
use Rattle.pr_truss.specs.declared.stages.Stage.TheVariants.{OpeningControl, Opening}
use Rattle.pr_truss_laws.proofs.Replies.AnswerLemmas.{IsAnswer, answer-is}
use Rattle.pr_truss_laws.proofs.Machine.OverLemmas.{stays-over}
use Rattle.pr_world.specs.ControllerStates.{ControllerState}
use Rattle.pr_world.specs.Protocol.{controllers_after, controllers_at}

-- What is so of the processes whose files truss closes: where it goes on they have ended, or their opening was refused
-- and all that was planted is lifted first; and where it leaves its processes, once a wait of it was interrupted, they
-- have ended, or nothing is planted in them any more.

-- no more is said of a process that is opened
abbrev pub no_opens : OpeningStep → ℕ → Type 0
no_opens step pid = Unit {0}

abbrev pub no_leaves : ℕ → Type 0
no_leaves pid = Unit {0}

-- what is so of processes that have ended stays so
over-stays : (Over Later : ℕ → Type 0) (t : TrussState)
    → ((q : ℕ) → q < length t.traced → Over (traced_at t q).pid → Later (traced_at t q).pid)
    → IsWithin (length t.traced) t.stage → StageSo Over no_opens no_leaves t t.stage
    → StageSo Later no_opens no_leaves t t.stage
over-stays Over Later t stays within =
    stage-stays Over Later no_opens no_opens no_leaves no_leaves t stays t.stage within (λ q step w is it. tt)
    (λ q w is it. tt)

module _ {n : ℕ} {who : Hiders} {controllers : List ControllerState} {first : TracedState}
    {h : List Entry} (run : IsRunOfTrusses n who controllers first h) where
  abbrev pub here : List Entry → TracedState
  here front = state_after first front

  abbrev pub Over : List Entry → ℕ → Type 0
  Over front pid = live_process (here front).system pid ≡ None

  -- what is so of a truss after some entries, where it goes on
  pub record ClosesAt (front : List Entry) (t : TrussState) : Type 0 where
    pub closes : ClosesSo (Over front) no_opens no_leaves t
    pub known : Kept Knows t

  -- and where it leaves its processes
  pub data ComesTo (front : List Entry) (t : TrussState) : Type 0 where
    goes_so : ClosesAt front t → ComesTo front t
    leaves_so : LeavesBare (Over front) t → ComesTo front t

  abbrev Comes : List Entry → Type 0
  Comes front =
      (k : ℕ) → hides who k ≡ true → (t : TrussState) → IsTrussAfter who controllers first h front k t
      → ComesTo front t

  abbrev its_kept : (front back : List Entry) → h ≡ front ++ back → TidyKept who controllers first h front
  its_kept = kept-at run

  -- ---- an entry of others

  module _ (front : List Entry) (e : Entry) (back : List Entry) (place : h ≡ front ++ e ∷ back) (k : ℕ)
      (hider : hides who k ≡ true) where
    abbrev truss : TidyTruss who controllers first h front k
    truss = let w = its_kept front (e ∷ back) place in w.trusses k hider

    abbrev t : TrussState
    t = let w = truss in w.t

    files : HasItsFiles k t (here front)
    files = has-files truss

    goes-on : ClosesAt front t → GoesOn t
    goes-on was = stays-on truss (let known = was.known in known.off)

    stays : (q : ℕ) → q < length t.traced → Over front (traced_at t q).pid
        → Over (front ++ e ∷ []) (traced_at t q).pid
    stays q within over =
        let f = files in
        let kept = its_kept front (e ∷ back) place in
        let lawful = its-lawful run front e back place kept in
        ap (λ (x : TracedState). live_process x.system (traced_at t q).pid) (now-is run front e back place kept)
        ∙ stays-over n (here front) e (traced_at t q).pid lawful (its-legal run front e back place kept)
        (control-made k (traced_at t q).pid (traced_at t q).control (here front) lawful (f.control q within)) over

    stage-later : ClosesAt front t → StageSo (Over (front ++ e ∷ [])) no_opens no_leaves t t.stage
    stage-later was =
        let so = was.closes in
        over-stays (Over front) (Over (front ++ e ∷ [])) t stays (let g = goes-on was in g.stage) so.stage

    same-comes : ComesTo front t → ComesTo (front ++ e ∷ []) t
    same-comes (goes_so was) =
        let so = was.closes in
        goes_so (record { closes = record { stage = stage-later was; looks = so.looks }; known = was.known })
    same-comes (leaves_so w) = leaves_so (leaves-stays (Over front) (Over (front ++ e ∷ [])) t stays w)

    foreign-comes : Comes front → (later : TrussState)
        → slice_get (controllers_at controllers (front ++ e ∷ [])) k ≡ slice_get (controllers_at controllers front) k
        → IsTrussAfter who controllers first h (front ++ e ∷ []) k later → ComesTo (front ++ e ∷ []) later
    foreign-comes comes later same is =
        let w = truss in
        subst (ComesTo (front ++ e ∷ [])) (same-truss t later _ w.is (sym same ∙ is))
        (same-comes (comes k hider w.t w.is))

  -- ---- a call of its own

  module _ (front back : List Entry) (j : ℕ) (c : Call) (r : Reply) (place : h ≡ front ++ call_entry j c r ∷ back)
      (hider : hides who j ≡ true) where
    abbrev e : Entry
    e = call_entry j c r

    abbrev later : List Entry
    later = front ++ e ∷ []

    abbrev u : TracedState
    u = here front

    abbrev kept : TidyKept who controllers first h front
    kept = its_kept front (e ∷ back) place

    abbrev truss-now : TidyTruss who controllers first h front j
    truss-now = let w = kept in w.trusses j hider

    abbrev tr : TrussState
    tr = let w = truss-now in w.t

    abbrev has : has_functions tr.options ≡ true
    has = Calls.has run front back j c r place kept hider

    abbrev next : next_function_call_of tr ≡ Some c
    next = Calls.next run front back j c r place kept hider

    abbrev own : IsOwnEntry j u e (record { call = c; reply = r })
    own = Calls.own run front back j c r place kept hider

    abbrev replied : own.answer.reply ≡ r
    replied = Calls.reply-is run front back j c r place kept hider

    abbrev its-files : (q : ℕ) → q < length tr.traced → Files j u (traced_at tr q)
    its-files q within = let w = truss-now in w.files q within

    abbrev stands : StandsSo tr
    stands = let w = truss-now in stands-there run j hider front (e ∷ back) place w.t w.is

    abbrev stays-now : (q : ℕ) → q < length tr.traced → Over front (traced_at tr q).pid
        → Over later (traced_at tr q).pid
    stays-now = stays front e back place j hider

    -- ---- where it goes on

    module _ (was : ClosesAt front tr) where
      goes : GoesOn tr
      goes = goes-on front e back place j hider was

      stage-now : StageSo (Over later) no_opens no_leaves tr tr.stage
      stage-now = stage-later front e back place j hider was

      called-so : CalledSo (Over later) no_opens no_leaves tr r
      called-so = record {
        stays = λ why. stage-now;
        closes = λ q following v is left. subst (StageSo (Over later) no_opens no_leaves tr) is stage-now;
        gone = λ q called told.
            (let g = goes in
            stays-now q (called-within tr g.stage g.beside q called)
            (told-over run front back j c r place hider g.off q called told));
        begins = λ pid is idle accepted. tt;
        steps = λ q step following is idle accepted after. tt;
      }

      fresh : (pid : ℕ) → tr.stage ≡ OpeningControl pid → tr.aside ≡ Nothing → answer_of r ≡ Accepted
          → Each (λ (v : Traced). v.pid ≢ pid) tr.traced
      unfolding call_beside function_call_of call_of
      fresh pid is idle accepted q within =
          let opening_is : c ≡ open_control pid =
          same_Some c (open_control pid)
          (sym next ∙ next-beside tr.options has tr refl ∙ ap (call_beside tr tr.stage) idle
          ∙ ap (function_call_of tr) is) in
          Calls.new-apart run front back j c r place kept hider pid opening_is accepted q within

      goes-later : answer_of r ≢ Interrupted → ClosesAt later (fed_functions tr r)
      goes-later calm =
          let g = goes in
          record {
            closes = fed-closes (Over later) no_opens no_leaves (λ step pid it. tt) tr r g.off g.follow g.stage
                g.beside calm (let so = was.closes in so.looks) called-so has;
            known = known-fed tr r calm was.known fresh has;
          }

      -- ---- with its first interrupt

      -- a process that it has not attached has no marks
      module _ (stopped : tr.leaving ≡ false) where
        opened-bare : (b until : ℕ) → b < length tr.traced → tr.stage ≡ Opening b (opening.AwaitStop until)
            → Over later (traced_at tr b).pid ⊎ IsBareMarks (marks_at tr b)
        opened-bare b until within at = by (live_process u.system (traced_at tr b).pid) refl
          where
            copies : CopiesSo tr u.system
            copies = let w = truss-now in copies-on run j hider front (e ∷ back) place w.t w.is stopped

            by : (p : Option TracedProcess) → live_process u.system (traced_at tr b).pid ≡ p
                → Over later (traced_at tr b).pid ⊎ IsBareMarks (marks_at tr b)
            by None ended = inl (stays-now b within ended)
            by (Some p) live =
                inr (early-marks (opening.AwaitStop until) (traced_at tr b) p refl
                (opens-of tr b p (opening.AwaitStop until) at (copies.each b within p live)))

        pub waits-bare : WaitsAt tr → Each (HasNoneUnattached (Over later)) tr.traced
        waits-bare (polls at) q within not =
            absurd (false≢true (sym not ∙ polls-attached tr stands stopped at q within))
        waits-bare (awaits_opening b until at) q within not = elim (cases_eq q b) [
          | inl same ↦
              subst (λ i. Over later (traced_at tr i).pid ⊎ IsBareMarks (marks_at tr i)) (sym same)
              (opened-bare b until
              (let known = was.known in let w = subst (AtStage Knows tr.traced) at known.stage in w.0) at)
          | inr other ↦
              absurd (false≢true
              (sym not ∙ opens-attached tr stands stopped b (opening.AwaitStop until) at q within other))
        ]

      begun-bare : answer_of r ≡ Interrupted → LeavesBare (Over later) (fed_functions tr r)
      unfolding IsAnswer
      begun-bare interrupted =
          let g = goes in
          let broken : r ≡ reply.Fail Intr = subst (IsAnswer r) interrupted (answer-is r) in
          let waits : may_wait c ≡ true =
          (let calm =
          entry-calm n j u e (record { call = c; reply = r }) (its-legal run front e back place kept)
          (ap (λ b. cond b (Some (record { call = c; reply = r })) None) (eq-eqb j j refl)) in calm.waits broken) in
          let known = was.known in
          let at = waits-at tr.options has tr refl Knows c waits known.stage known.beside next in
          leaves-begun (Over later) tr r g.follow has (let w = truss-now in w.apart) (waits-bare g.off at.1) interrupted
          c (may-can c waits) g.stage g.beside next

    -- ---- where it leaves its processes

    told-now : (w : LeavesBare (Over later) tr) → Told (Over later) tr r w.at
    told-now w =
        subst (λ (y : Reply). Told (Over later) tr y w.at) replied
        (left-told j u c own.answer own.is tr its-files (Over later) stays-now has next (lwps-there tr stands)
        (text-there tr stands) w.at)

    leaves-later : LeavesBare (Over front) tr → LeavesBare (Over later) (fed_functions tr r)
    leaves-later w =
        let now : LeavesBare (Over later) tr = leaves-stays (Over front) (Over later) tr stays-now w in
        leaves-fed (Over later) tr r (let x = truss-now in x.follow) has now (told-now now)

    -- ---- each reply

    is-interrupted : (a : Answer) → answer_of r ≡ a → (answer_of r ≡ Interrupted) ⊎ (answer_of r ≢ Interrupted)
    is-interrupted Interrupted is = inl is
    is-interrupted Accepted is = inr (λ same. let its : Accepted ≡ Interrupted = sym is ∙ same in cc)
    is-interrupted (Refused errno) is = inr (λ same. let its : Refused errno ≡ Interrupted = sym is ∙ same in cc)
    is-interrupted Gone is = inr (λ same. let its : Gone ≡ Interrupted = sym is ∙ same in cc)

    own-comes : ComesTo front tr → ComesTo later (fed_functions tr r)
    own-comes (goes_so was) = by (is-interrupted (answer_of r) refl)
      where
        by : (answer_of r ≡ Interrupted) ⊎ (answer_of r ≢ Interrupted) → ComesTo later (fed_functions tr r)
        by (inl interrupted) = leaves_so (begun-bare was interrupted)
        by (inr calm) = goes_so (goes-later was calm)
    own-comes (leaves_so w) = leaves_so (leaves-later w)

    own-later : Comes front → (v : TrussState) → IsTrussAfter who controllers first h later j v → ComesTo later v
    own-later comes v is =
        let w = truss-now in
        subst (ComesTo later)
        (same-truss (fed_functions tr r) v _ (Calls.own-after run front back j c r place kept hider) is)
        (own-comes (comes j hider w.t w.is))

  -- ---- along the history

  called-comes : (front back : List Entry) (j : ℕ) (c : Call) (r : Reply) → h ≡ front ++ call_entry j c r ∷ back
      → Comes front → Comes (front ++ call_entry j c r ∷ [])
  called-comes front back j c r place comes k hider v is = elim (cases_eq j k) [
    | inl same ↦
        subst (λ i. IsTrussAfter who controllers first h (front ++ call_entry j c r ∷ []) i v
        → ComesTo (front ++ call_entry j c r ∷ []) v) same
        (λ at. own-later front back j c r place (subst (λ i. hides who i ≡ true) (sym same) hider) comes v at) is
    | inr apart ↦
        foreign-comes front (call_entry j c r) back place k hider comes v
        (Calls.foreign-same run front back j c r place (its_kept front (call_entry j c r ∷ back) place) k apart) is
  ]

  quiet-comes : (front : List Entry) (e : Entry) (back : List Entry) → h ≡ front ++ e ∷ back
      → controllers_after (controllers_at controllers front) e ≡ controllers_at controllers front → Comes front
      → Comes (front ++ e ∷ [])
  quiet-comes front e back place same comes k hider v is =
      foreign-comes front e back place k hider comes v
      (ap (λ (cs : List ControllerState). slice_get cs k) (controllers-push controllers front e ∙ same)) is

  entry-comes : (front : List Entry) (actor : Actor) (did : Act) (back : List Entry)
      → h ≡ front ++ record { actor = actor; act = did } ∷ back
      → IsLegalEntry n (here front) (record { actor = actor; act = did })
      → Comes front → Comes (front ++ record { actor = actor; act = did } ∷ [])
  unfolding IsLegalEntry controllers_after
  entry-comes front (Controller j) (act.Call c r) back place it comes = called-comes front back j c r place comes
  entry-comes front (Lwp pid id) (act.Turn turned) back place it comes = quiet-comes front _ back place refl comes
  entry-comes front Clock (act.Tick moment) back place it comes = quiet-comes front _ back place refl comes
  entry-comes front _ _ back place it comes = absurd it

  walk : (middle front back : List Entry) → h ≡ front ++ (middle ++ back) → Comes front → Comes (front ++ middle)
  walk [] front back place comes = subst Comes (sym (append-nil front)) comes
  walk (e ∷ middle) front back place comes =
      subst Comes (append_assoc front (e ∷ []) middle)
      (walk middle (front ++ e ∷ []) back (place ∙ sym (append_assoc front (e ∷ []) (middle ++ back)))
      (entry-comes front e.actor e.act (middle ++ back) place
      (legal-here n first front e (middle ++ back) (subst (λ (es : List Entry). IsLegal n first es) place run.legal))
      comes))

  at-first : Comes []
  at-first k hider t is =
      let i = run.are.trusses k hider in
      subst (ComesTo []) (same-truss (first_truss i.options) t _ i.starts is)
      (goes_so (record {
        closes = first-closes (Over []) no_opens no_leaves i.options;
        known = known-first i.options i.follows_none;
      }))

  pub comes-at : (front back : List Entry) → h ≡ front ++ back → (k : ℕ) → hides who k ≡ true → (t : TrussState)
      → IsTrussAfter who controllers first h front k t → ComesTo front t
  comes-at front back place = walk front [] back place at-first
