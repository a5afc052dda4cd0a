use Rattle.std.proofs.Common.{append_assoc, append-nil, ◌≡◌, ◌≢◌, ◌<◌, ◌++◌, ◌==◌, ℕ, Bool, true, false, not, Option, Some, None, List, [], ◌∷◌, length, refl, sym, subst, ap, ◌∙◌, inl, inr}
use Rattle.std.proofs.lemmas.Bool.{cases_eq, eqb-false, false≢true}
use Rattle.std.proofs.lemmas.Option.{same_Some}
use Rattle.std.specs.List.{All}
use Rattle.pr_line.specs.declared.options.Options.{Options}
use Rattle.pr_model.specs.Legal.{IsLegalEntry, after, after_turn, state_after}
use Rattle.pr_model.specs.LwpTurns.{LwpTurn, turn_of}
use Rattle.pr_model.specs.State.{TracedProcess, TracedState, TracedSystem, live_process}
use Rattle.pr_model.specs.declared.events.Act.{Act}
use Rattle.pr_model.specs.declared.events.Act.TheVariants as act
use Rattle.pr_model.specs.declared.events.Actor.{Actor}
use Rattle.pr_model.specs.declared.events.Actor.TheVariants.{Controller, Lwp, Clock}
use Rattle.pr_model.specs.declared.events.Entry.{Entry}
use Rattle.pr_report_laws.proofs.Invariant.OtherSteps.{lives-later}
use Rattle.pr_report_laws.proofs.Invariant.StandLemmas.{Each, EachBut}
use Rattle.pr_report_laws.proofs.Machine.FrameLaws.{alone-event}
use Rattle.pr_report_laws.proofs.Machine.OwnTurnLaws.{event-halts, event-waits, stopped-event}
use Rattle.pr_report_laws.specs.Positions.{HasEvent}
use Rattle.pr_report_laws.specs.Shown.{LwpEvent}
use Rattle.pr_truss.specs.Replies.{answer_of}
use Rattle.pr_truss.specs.Trusses.{TrussState, traced_at}
use Rattle.pr_truss.specs.declared.asides.Aside.{Aside}
use Rattle.pr_truss.specs.declared.asides.Aside.TheVariants.{Nothing, Reading, Planting, Patching}
use Rattle.pr_truss.specs.declared.processes.Traced.{Traced}
use Rattle.pr_truss.specs.declared.replies.Answer.TheVariants.{Accepted}
use Rattle.pr_truss.specs.declared.stages.AfterClosing.TheVariants.{OpenNext, GoOn}
use Rattle.pr_truss.specs.declared.stages.OpeningStep.TheVariants as opening
use Rattle.pr_truss.specs.declared.stages.Stage.{Stage}
use Rattle.pr_truss.specs.declared.stages.Stage.TheVariants.{Spawning, OpeningControl, Opening, Polling, ReadingStatus, ReadingText, Running, Closing, Finished}
use Rattle.pr_truss_laws.proofs.Files.HeldLemmas.{at_place}
use Rattle.pr_truss_laws.proofs.Machine.OutlastLemmas.{Outlasts, others-entry}
use Rattle.pr_truss_laws.proofs.Machine.OverLemmas.{stays-over}
use Rattle.pr_truss_laws.proofs.Machine.StillLemmas.{halting-leaves}
use Rattle.pr_truss_laws.specs.Exchanges.{Exchange, exchange_of, exchanges}
use Rattle.pr_truss_laws.specs.Stills.{IsUndisturbed, with_lwp_stopped}
use Rattle.pr_function_laws.proofs.Stepping.BreakpointLemmas.{IsForeign, IsOwnEntry, foreign-entry, own-entry}
use Rattle.pr_function_laws.proofs.Pending.FrontLemmas as fronts
use Rattle.pr_function_laws.proofs.Pending.FrontLemmas.{calm-answer}
use Rattle.pr_function_laws.proofs.Marks.KeptPlaces.{AtAside, AtPlace, AtStage, Kept, apart-at, rests}
use Rattle.pr_function_laws.proofs.OpenedProcesses.OpenedCalls.{IsSo, control-fresh}
use Rattle.pr_function_laws.proofs.OpenedProcesses.OpenedLaws.{Goes, foreign-sets}
use Rattle.pr_function_laws.proofs.OpenedProcesses.OpenedLemmas.{Holds, control-made, control-sole, holds-goes}
use Rattle.pr_function_laws.proofs.Pending.PendingCalls.{IsPending, later-pending, opens-other}
use Rattle.pr_function_laws.proofs.Pending.PendingPlaces.{IsSame, Pends, still-pends}
use Rattle.pr_function_laws.specs.OneEvent.{is_looked_at}
use Rattle.pr_function_laws.specs.Opened.{IsFunctionRun, WasNotInterrupted, functions_at, is_opened}
use Rattle.pr_model.proofs.TurnLemmas.{turn-taken}
use Rattle.pr_model.specs.Lawful.{IsLawful}
use Rattle.pr_report_laws.proofs.Files.WatchHistories.{exchanges-both}
use Rattle.pr_report_laws.proofs.Watching.HistoryParts.{all-front}
use Rattle.pr_truss.specs.FunctionCalls.{next_function_call_of}
use Rattle.pr_truss.specs.Marks.{has_functions}
use Rattle.pr_truss.specs.NextCalls.{read_record}
use Rattle.pr_function_laws.proofs.Stepping.BreakpointLemmas.{read-is}
use Rattle.pr_function_laws.proofs.Marks.KeptPlaces.{Position}
use Rattle.pr_function_laws.proofs.OrdinaryTruss.OrdinaryStops.{FitsAside, IsLookedAt, IsOpenedAt, patch-looked}
use Rattle.pr_function_laws.specs.Lifted.{HasControl}
use Rattle.pr_function_laws.specs.Runs.{functions_on}

-- What is so of a process that truss has opened, and that others leave alone, stays so until truss reads it: an lwp of
-- it stands on an event, from the turn by which that came on; or none does.

-- ---- truss, where it neither looks at a process nor runs it

-- past the read of its status truss looks at the process at a place, or runs it
abbrev pub is_to_run : Stage → ℕ → Bool
is_to_run (ReadingText at l from len) place = at == place
is_to_run (Running at) place = at == place
is_to_run _ place = false

pub not-to-run : (stage : Stage) (place : ℕ) → is_looked_at stage place ≡ false → is_to_run stage place ≡ false
not-to-run (ReadingText at l from len) place away = away
not-to-run (Running at) place away = away
not-to-run _ place away = refl

negated : (b : Bool) → not b ≡ true → b ≡ false
negated true is = absurd (false≢true is)
negated false is = refl

module _ (P : Position → Traced → Type 0) (t : TrussState) (w : Kept P t) (place : ℕ)
    (within : place < length t.traced) (new : (at_place t.traced place).old ≡ 0)
    (fits : FitsAside t.aside t.stage) (opened : is_opened t.stage place ≡ true)
    (away : is_to_run t.stage place ≡ false) where
  abbrev its : Traced
  its = at_place t.traced place

  others : (j : ℕ) → j < length t.traced → j ≢ place → (at_place t.traced j).pid ≢ its.pid
  others j inside other = apart-at t.traced j place inside within other w.apart

  own : IsSame its.pid its its
  own = record { control = refl; status = refl; lstatus = refl; memory = refl; marks = refl; new = new }

  all : Each (Pends its.pid its rests) t.traced
  all j inside same = elim (cases_eq j place) [
    | inl here ↦ subst (λ i. IsSame its.pid its (at_place t.traced i)) (sym here) own
    | inr other ↦ absurd (others j inside other same)
  ]

  but : (b : ℕ) → EachBut (Pends its.pid its rests) t.traced b
  but b j inside other = all j inside

  place-pends : (b : ℕ) → b ≢ place → AtPlace P t.traced b → AtPlace (Pends its.pid its) t.traced b
  place-pends b other w = (w.0, (but b, others b w.0 other))

  stage-pends : (stage : Stage) → is_opened stage place ≡ true → is_to_run stage place ≡ false
      → AtStage P t.traced stage → AtStage (Pends its.pid its) t.traced stage
  stage-pends (Spawning program) opened away w = all
  stage-pends (OpeningControl pid) opened away w = all
  stage-pends (Opening b step) opened away w =
      (w.0, (but b, others b w.0 (eqb-false b place (negated (b == place) opened))))
  stage-pends Polling opened away w = all
  stage-pends (ReadingStatus b) opened away w = (w.0, (all, all b w.0))
  stage-pends (ReadingText b l from len) opened away w = (w.0, (all, others b w.0 (eqb-false b place away)))
  stage-pends (Running b) opened away w = (w.0, (but b, others b w.0 (eqb-false b place away)))
  stage-pends (Closing b OpenNext) opened away w =
      place-pends b (eqb-false b place (negated (b == place) opened)) w
  stage-pends (Closing b GoOn) opened away w =
      place-pends b (eqb-false b place (negated (b == place) opened)) w
  stage-pends Finished opened away w = all
  stage-pends _ opened away w = absurd w

  -- what is done beside a stage is done to another process
  opened-other : (b : ℕ) (stage : Stage) → IsOpenedAt b stage → is_opened stage place ≡ true → b ≢ place
  opened-other b (Opening at opening.Start) same whole here =
      eqb-false at place (negated (at == place) whole) (same ∙ here)
  opened-other b _ none whole here = absurd none

  looked-other : (b : ℕ) (stage : Stage) → IsLookedAt b stage → is_opened stage place ≡ true
      → is_to_run stage place ≡ false → b ≢ place
  looked-other b (Running at) same whole apart here = eqb-false at place apart (same ∙ here)
  looked-other b (ReadingText at l from len) same whole apart here = eqb-false at place apart (same ∙ here)
  looked-other b (Closing at OpenNext) same whole apart here =
      eqb-false at place (negated (at == place) whole) (same ∙ here)
  looked-other b (Closing at GoOn) same whole apart here =
      eqb-false at place (negated (at == place) whole) (same ∙ here)
  looked-other b _ none whole apart here = absurd none

  aside-pends : (aside : Aside) → FitsAside aside t.stage → AtAside P t.traced aside
      → AtAside (Pends its.pid its) t.traced aside
  aside-pends Nothing fit w = tt
  aside-pends (Reading q function) fit w = place-pends q (opened-other q t.stage fit opened) w
  aside-pends (Planting q function) fit w = place-pends q (opened-other q t.stage fit opened) w
  aside-pends (Patching q plants lifts clear) fit w =
      (place-pends q (looked-other q t.stage (patch-looked q plants clear t.stage fit.0) opened away) w.0, w.1)
  aside-pends _ fit w = absurd w

  pub first-pends : Kept (Pends its.pid its) t
  first-pends = record {
    follow = w.follow;
    off = w.off;
    stage = stage-pends t.stage opened away w.stage;
    beside = aside-pends t.aside fits w.beside;
    apart = w.apart;
  }

-- ---- one entry

-- an exchange that was not interrupted and reads no status of the process
pub record IsStill (was : Traced) (x : Exchange) : Type 0 where
  pub calm : WasNotInterrupted x
  pub no_read : (number : ℕ) → was.status ≡ Some number → x.call ≢ read_record (Some number)

-- truss has the files of the process and does not look at it, and if it lives this is so of it
pub record Pending (k : ℕ) (o : Options) (s : TracedState) (was : Traced) (H : TracedProcess → Type 0)
    (front : List Entry) : Type 0 where
  pub pends : Kept (Pends was.pid was) (functions_at k o front)
  pub is : IsPending k o was H (state_after s front)

-- an lwp of a process stands on an event
abbrev pub On : LwpEvent → TracedProcess → Type 0
On event p = HasEvent p event.id event.event

-- so it is too where others leave the process alone
pub on-stays : (event : LwpEvent) (p q : TracedProcess) → IsUndisturbed p q → On event p → On event q
on-stays event p q alone has = alone-event p q alone event.id event.event has

-- and after the turns of its lwps, which do nothing but stop
pub on-turns : (event : LwpEvent) (u : TracedSystem) (pid own : ℕ) (turn : LwpTurn) (p q : TracedProcess)
    → live_process u pid ≡ Some p → turn_of u pid own ≡ Some turn → live_process turn.system pid ≡ Some q
    → On event p → On event q
on-turns event u pid own turn p q live took later has =
    let id = event.id in
    let differs : own ≢ id =
    λ one. event-waits p id event.event has u pid turn live
    (subst (λ i. turn_of u pid i ≡ Some turn) one took) in
    subst (λ (x : TracedProcess). HasEvent x id event.event)
    (same_Some (with_lwp_stopped own p) q
    (sym (halting-leaves u pid p live (event-halts p id event.event has) own turn took) ∙ later))
    (stopped-event p id event.event has own differs)

module _ (n k : ℕ) (o : Options) (s : TracedState) (h : List Entry) (run : IsFunctionRun n k o s h) (was : Traced)
    (H : TracedProcess → Type 0) (stays : (p q : TracedProcess) → IsUndisturbed p q → H p → H q) where
  abbrev Stands : List Entry → Type 0
  Stands front = Pending k o s was H front

  module _ (front : List Entry) (e : Entry) (later : List Entry) (at : h ≡ front ++ e ∷ later)
      (calm : All WasNotInterrupted (exchanges k front)) (w : Stands front) where
    abbrev t : TrussState
    t = functions_at k o front

    abbrev now : TracedState
    now = state_after s front

    here : Goes ⊥ k o t now
    here = fronts.here n k o s h run front e later at calm

    legal : IsLegalEntry n now e
    legal = fronts.legal n k o s h run front e later at calm

    has : has_functions t.options ≡ true
    has = fronts.has n k o s h run front e later at calm

    lawful : IsLawful now
    lawful = let g = here in g.lawful

    holds : Holds k o now None was.pid was.control was.status was.lstatus was.memory
    holds = let is = w.is in is.holds

    control : HasControl k was.pid was.control now
    control = let h = holds in h.its

    over : (pid : ℕ) → pid < now.system.made → live_process now.system pid ≡ None
        → live_process (after now e).system pid ≡ None
    over pid made none = stays-over n now e pid lawful legal made none

    over-own : live_process now.system was.pid ≡ None → live_process (after now e).system was.pid ≡ None
    over-own none = over was.pid (control-made k was.pid was.control now lawful control) none

    abbrev Has : TracedSystem → Type 0
    Has u = (q : TracedProcess) → live_process u was.pid ≡ Some q → H q

    -- so it is after a turn of an lwp of the process
    abbrev Turns : Type 0
    Turns =
        (own : ℕ) (turn : LwpTurn) → e ≡ record { actor = Lwp was.pid own; act = act.Turn turn.turned }
        → turn_of now.system was.pid own ≡ Some turn → (after now e).system ≡ turn.system → Has turn.system

    next-is : Holds k o (after now e) None was.pid was.control was.status was.lstatus was.memory
        → Has (after now e).system → IsPending k o was H (state_after s (front ++ e ∷ []))
    next-is files stands =
        subst (λ (u : TracedState). IsPending k o was H u)
        (sym (fronts.next-state n k o s h run front e later at calm)) (record { holds = files; has = stands })

    -- ---- of others

    module _ (f : IsForeign k now e) where
      elsewhere : ((own : ℕ) → e.actor ≢ Lwp was.pid own) → Has (after now e).system
      elsewhere apart q later_live =
          let p =
          lives-later o was.pid t now (after now e)
          (λ p live. others-entry n now k was.pid e p lawful (control-sole k was.pid was.control now lawful control)
          legal apart f.other live) over-own q later_live in
          stays p.0 q p.1.1 (let is = w.is in is.has p.0 p.1.0)

    turn-stands : Turns → (own : ℕ) (turn : LwpTurn)
        → e ≡ record { actor = Lwp was.pid own; act = act.Turn turn.turned }
        → turn_of now.system was.pid own ≡ Some turn → (after now e).system ≡ turn.system → Has (after now e).system
    turn-stands turned own turn is took same = subst Has (sym same) (turned own turn is took same)

    foreign-stands : Turns → (actor : Actor) (it : Act) → e ≡ record { actor = actor; act = it }
        → IsLegalEntry n now (record { actor = actor; act = it }) → IsForeign k now e → Has (after now e).system
    unfolding IsLegalEntry after
    foreign-stands turns (Controller j) (act.Call c r) same legal_here f =
        elsewhere f
        (λ own is. let it : Controller j ≡ Lwp was.pid own = ap (λ (x : Entry). x.actor) (sym same) ∙ is in cc)
    foreign-stands turns (Lwp acting own) (act.Turn turned) same legal_here f = elim (cases_eq acting was.pid) [
      | inl one ↦ turn-stands turns own (record { system = legal_here.0; turned = turned })
          (same ∙ ap (λ i. record { actor = Lwp i own; act = act.Turn turned }) one)
          (subst (λ i. turn_of now.system i own ≡ Some (record { system = legal_here.0; turned = turned })) one
          legal_here.1)
          (ap (λ (x : Entry). (after now x).system) same
          ∙ ap (λ (x : Option LwpTurn). (after_turn now x).system) legal_here.1)
      | inr differs ↦ elsewhere f (λ i is.
          differs (let it : Lwp acting own ≡ Lwp was.pid i = ap (λ (x : Entry). x.actor) (sym same) ∙ is in cc))
    ]
    foreign-stands turns Clock (act.Tick m) same legal_here f =
        elsewhere f (λ own is. let it : Clock ≡ Lwp was.pid own = ap (λ (x : Entry). x.actor) (sym same) ∙ is in cc)
    foreign-stands turns _ _ same legal_here f = absurd legal_here

    foreign-next : Turns → exchange_of k e ≡ None → Stands (front ++ e ∷ [])
    foreign-next turns none =
        let f = foreign-entry n k now e legal none in
        record {
          pends = subst (Kept (Pends was.pid was))
              (sym (fronts.pushed n k o s h run front e later at calm ∙ ap (functions_on t) none)) w.pends;
          is = next-is
              (holds-goes k o now (after now e) None was.pid was.control was.status was.lstatus was.memory
              (λ m held there own. f.handles m ∙ there)
              (foreign-sets n k now lawful e.actor e.act legal f was.pid was.control control) holds)
              (foreign-stands turns e.actor e.act refl legal f);
        }

    -- ---- of truss

    module _ (x : Exchange) (mine : exchange_of k e ≡ Some x) (still : IsStill was x) where
      it : IsOwnEntry k now e x
      it = own-entry n k now e x legal mine

      next : next_function_call_of t ≡ Some x.call
      next = fronts.makes-next n k o s h run front e later at calm x mine

      over-answer : (pid : ℕ) → pid < now.system.made → live_process now.system pid ≡ None
          → live_process it.answer.state.system pid ≡ None
      over-answer pid made none =
          ap (λ (u : TracedState). live_process u.system pid) it.later ∙ over pid made none

      kept : Kept (IsSo ⊥ k t.options now) t
      kept = let g = here in g.kept

      pending : IsPending k t.options was H now
      pending =
          let g = here in subst (λ (y : Options). IsPending k y was H now) (sym g.options) w.is

      read : (q : ℕ) → t.aside ≡ Nothing → t.stage ≡ ReadingStatus q → (traced_at t q).pid ≢ was.pid
      read q idle is same =
          let p = w.pends in
          let placed : AtStage (Pends was.pid was) t.traced (ReadingStatus q) =
          subst (AtStage (Pends was.pid was) t.traced) is p.stage in
          let one : IsSame was.pid was (at_place t.traced q) = placed.1.1 same in
          let h = holds in
          let known = h.known in
          still.no_read known.number known.is
          (same_Some _ _ (sym next ∙ read-is t q has is idle) ∙ ap read_record (one.status ∙ known.is))

      fresh : (number : ℕ) → t.stage ≡ OpeningControl number → t.aside ≡ Nothing → answer_of x.reply ≡ Accepted
          → (number ≢ was.pid) × Each (λ (u : Traced). u.pid ≢ number) t.traced
      fresh number is idle accepted =
          let granted = ap answer_of it.replied ∙ accepted in (
            opens-other n k now lawful x.call it.answer it.is over-answer t kept was w.pends H stays pending number is
                idle has next granted,
            control-fresh ⊥ n k now lawful x.call it.answer it.is over-answer t kept (λ none. absurd none) number
                is idle has next granted,
          )

      pub own-outlasts : (p : TracedProcess) → live_process now.system was.pid ≡ Some p
          → Outlasts was.pid p (after now e).system
      own-outlasts p live =
          let left =
          later-pending n k now lawful x.call it.answer it.is over-answer t kept was w.pends H stays pending has
          next in
          subst (λ (u : TracedState). Outlasts was.pid p u.system) it.later (left.1 p live)

      own-next : Stands (front ++ e ∷ [])
      own-next =
          let g = here in
          let left =
          later-pending n k now lawful x.call it.answer it.is over-answer t kept was w.pends H stays pending has
          next in
          let goes : IsPending k o was H (after now e) =
          subst (λ (u : TracedState). IsPending k o was H u) it.later
          (subst (λ (y : Options). IsPending k y was H it.answer.state) g.options left.0) in
          record {
            pends = subst (Kept (Pends was.pid was))
                (sym (fronts.pushed n k o s h run front e later at calm ∙ ap (functions_on t) mine))
                (still-pends was.pid was t x.reply w.pends fresh read has (calm-answer x still.calm));
            is = next-is goes.holds goes.has;
          }

    pub entry-next : Turns → ((x : Exchange) → exchange_of k e ≡ Some x → IsStill was x) → Stands (front ++ e ∷ [])
    entry-next turns still = by (exchange_of k e) refl
      where
        by : (x : Option Exchange) → exchange_of k e ≡ x → Stands (front ++ e ∷ [])
        by None none = foreign-next turns none
        by (Some x) mine = own-next x mine (still x mine)

  -- ---- all entries between

  module _ (turns : (u : TracedSystem) (pid own : ℕ) (turn : LwpTurn) (p q : TracedProcess)
      → live_process u pid ≡ Some p → turn_of u pid own ≡ Some turn → live_process turn.system pid ≡ Some q
      → H p → H q) (base middle later : List Entry) (at : h ≡ base ++ (middle ++ later))
      (calm : All WasNotInterrupted (exchanges k (base ++ middle)))
      (still : (done rest : List Entry) (e : Entry) (x : Exchange) → middle ≡ done ++ e ∷ rest
      → exchange_of k e ≡ Some x → IsStill was x) where
    walk : (rest done : List Entry) → middle ≡ done ++ rest → Stands (base ++ done) → Stands (base ++ (done ++ rest))
    walk [] done is w = subst (λ (es : List Entry). Stands (base ++ es)) (sym (append-nil done)) w
    walk (e ∷ rest) done is w =
        let parts : base ++ (middle ++ later) ≡ (base ++ done) ++ e ∷ (rest ++ later) =
        ap (λ (es : List Entry). base ++ (es ++ later)) is
        ∙ ap (λ (es : List Entry). base ++ es) (append_assoc done (e ∷ rest) later)
        ∙ sym (append_assoc base done (e ∷ (rest ++ later))) in
        let front : base ++ middle ≡ (base ++ done) ++ e ∷ rest =
        ap (λ (es : List Entry). base ++ es) is ∙ sym (append_assoc base done (e ∷ rest)) in
        let its_calm : All WasNotInterrupted (exchanges k (base ++ done)) =
        all-front WasNotInterrupted (exchanges k (base ++ done)) (exchanges k (e ∷ rest))
        (subst (All WasNotInterrupted) (ap (exchanges k) front ∙ exchanges-both k (base ++ done) (e ∷ rest)) calm) in
        let next : Stands ((base ++ done) ++ e ∷ []) =
        entry-next (base ++ done) e (rest ++ later) (at ∙ parts) its_calm w
        (λ own turn entry_is took after_is q later_live.
        let it = turn-taken (state_after s (base ++ done)).system was.pid own turn took in
        turns (state_after s (base ++ done)).system was.pid own turn it.process q it.live took later_live
        (let p = w.is in p.has it.process it.live))
        (λ x mine. still done rest e x is mine) in
        subst (λ (es : List Entry). Stands (base ++ es)) (append_assoc done (e ∷ []) rest)
        (walk rest (done ++ e ∷ []) (is ∙ sym (append_assoc done (e ∷ []) rest))
        (subst (λ (es : List Entry). Stands es) (append_assoc base done (e ∷ [])) next))

    pub still-stands : Stands base → Stands (base ++ middle)
    still-stands w =
        walk middle [] refl (subst (λ (es : List Entry). Stands es) (sym (append-nil base)) w)
