use Rattle.std.proofs.Common.{◌≡◌, ◌≢◌, ◌<◌, ◌==◌, ◌⊎◌, ℕ, Bool, true, false, not, cond, Option, Some, None, List, [], ◌∷◌, length, refl, sym, subst, ap, ◌∙◌, inl, inr, arith}
use Rattle.std.proofs.lemmas.Bool.{cases_Bool, cases_eq, eq-eqb, eqb-true, false≢true, ne_eqb}
use Rattle.std.proofs.lemmas.List.{get_or_append_left, length-append}
use Rattle.pr_function_hides.proofs.Replies.OwnFiles.{IsBeside, IsWithin}
use Rattle.pr_function_hides.proofs.Replies.PlantedReplies.{AfterAside, AfterStage as MarksAfter, LeftSo, So, fed-so}
use Rattle.pr_function_hides.specs.Treating.{is_run_soon}
use Rattle.pr_function_laws.proofs.Marks.KeptLemmas.{fed-kept}
use Rattle.pr_function_laws.proofs.Marks.KeptPlaces.{AfterBeside, AfterStage, AtAside, AtStage, IsLasting, Kept, LeftHas, Position, apart-at, closes, looks, opens, planted_as, position_after, rests, runs, to_read}
use Rattle.pr_function_laws.proofs.OrdinaryTruss.OrdinaryStops.{FitsAside, IsLookedAt, IsOpenedAt, patch-looked}
use Rattle.pr_function_laws.specs.Opened.{is_opened}
use Rattle.pr_model.specs.Replies.{handle_in}
use Rattle.pr_model.specs.declared.calls.Reply.{Reply}
use Rattle.pr_report_laws.proofs.Invariant.StandLemmas.{Each, EachBut, each-but}
use Rattle.pr_truss.specs.Asides.{marks_at}
use Rattle.pr_truss.specs.Feeding.{fed, with_reply}
use Rattle.pr_truss.specs.FunctionFeeding.{fed_functions, with_aside_answered, with_function_reply}
use Rattle.pr_truss.specs.Marks.{has_functions}
use Rattle.pr_truss.specs.Openings.{learnt, step_after, with_control, with_control_answered}
use Rattle.pr_truss.specs.Processes.{newly_traced, without_last}
use Rattle.pr_truss.specs.Replies.{answer_of}
use Rattle.pr_truss.specs.Stops.{with_poll_answered, with_polled}
use Rattle.pr_truss.specs.Trusses.{TrussState, nobody, traced_at}
use Rattle.pr_truss.specs.declared.asides.Aside.{Aside}
use Rattle.pr_truss.specs.declared.asides.Aside.TheVariants.{Nothing, Patching, Planting, Reading}
use Rattle.pr_truss.specs.declared.marks.Marks.{Marks}
use Rattle.pr_truss.specs.declared.processes.Traced.{Traced}
use Rattle.pr_truss.specs.declared.replies.Answer.{Answer}
use Rattle.pr_truss.specs.declared.replies.Answer.TheVariants.{Accepted, Gone, Interrupted, Refused}
use Rattle.pr_truss.specs.declared.stages.AfterClosing.TheVariants.{GoOn, OpenNext}
use Rattle.pr_truss.specs.declared.stages.OpeningStep.{OpeningStep}
use Rattle.pr_truss.specs.declared.stages.OpeningStep.TheVariants as opening
use Rattle.pr_truss.specs.declared.stages.Stage.{Stage}
use Rattle.pr_truss.specs.declared.stages.Stage.TheVariants.{Closing, Finished, Opening, OpeningControl, Polling, ReadingStatus, ReadingText, Running, Spawning}
use Rattle.pr_truss_laws.proofs.Files.HeldLemmas.{at_place}
use Rattle.pr_truss_laws.proofs.Replies.ReplySteps.{lost-same}

-- What a reply leaves of a process whose status truss does not read: as many stops from before, if it has opened it;
-- and the same marks, if it does not run it soon either.

abbrev is_polling : Stage → Bool
is_polling Polling = true
is_polling _ = false

polling-is : (stage : Stage) → is_polling stage ≡ true → stage ≡ Polling
polling-is Polling is = refl
polling-is _ is = absurd (false≢true is)

-- nothing comes before a poll
polling-idle : (aside : Aside) → FitsAside aside Polling → aside ≡ Nothing
polling-idle Nothing fits = refl
polling-idle (Reading q function) fits = absurd fits
polling-idle (Planting q function) fits = absurd fits
polling-idle (Patching q plants lifts clear) fits = absurd fits.0
polling-idle _ fits = cc

-- nor before a status is read
pub reading-idle : (aside : Aside) (q : ℕ) → FitsAside aside (ReadingStatus q) → aside ≡ Nothing
reading-idle Nothing q fits = refl
reading-idle (Reading at function) q fits = absurd fits
reading-idle (Planting at function) q fits = absurd fits
reading-idle (Patching at plants lifts clear) q fits = absurd fits.0
reading-idle _ q fits = cc

-- truss reads the status of the process at a place
abbrev pub is_read_at : Stage → ℕ → Bool
is_read_at (ReadingStatus at) q = at == q
is_read_at _ q = false

pub read-at-is : (stage : Stage) (q : ℕ) → is_read_at stage q ≡ true → stage ≡ ReadingStatus q
read-at-is (ReadingStatus at) q is = ap (λ n. ReadingStatus n) (eqb-true at q is)
read-at-is _ q is = absurd (false≢true is)

pub unread-at : (stage : Stage) (q : ℕ) → is_read_at stage q ≡ false → stage ≢ ReadingStatus q
unread-at stage q other is = false≢true (sym other ∙ ap (λ st. is_read_at st q) is ∙ eq-eqb q q refl)

-- a process of which the control file is opened is not opened whole
pub control-shut : (t : TrussState) (r : Reply) (pid : ℕ) → has_functions t.options ≡ true
    → t.stage ≡ OpeningControl pid → t.aside ≡ Nothing → answer_of r ≡ Accepted
    → Each (λ (u : Traced). u.pid ≢ pid) t.traced → (q : ℕ) → q < length (fed_functions t r).traced
    → is_opened (fed_functions t r).stage q ≡ true → (traced_at (fed_functions t r) q).pid ≢ pid
unfolding fed_functions with_aside_answered with_function_reply with_reply with_control_answered with_control
control-shut t r pid has is idle accepted fresh q within opened =
    subst (λ (u : TrussState). q < length u.traced → is_opened u.stage q ≡ true → (traced_at u q).pid ≢ pid)
    (sym (ap (λ b. cond b (with_aside_answered t r t.aside) (fed t r)) has ∙ ap (with_aside_answered t r) idle
    ∙ ap (with_function_reply t r) is ∙ ap (with_control_answered t pid r) accepted))
    (λ inside whole same.
    let other : q ≢ length t.traced =
    (λ last. false≢true (sym (ap not (eq-eqb (length t.traced) q (sym last))) ∙ whole)) in
    let below : q < length t.traced =
    omega (arith, inside, other, length-append t.traced (newly_traced pid (handle_in r) ∷ [])) in
    fresh q below
    (sym (ap (λ (x : Traced). x.pid) (get_or_append_left t.traced (newly_traced pid (handle_in r) ∷ []) nobody q below))
    ∙ same)) within opened

-- it begins to run the process at a place now, at the end of its opening
pub record Starts (t : TrussState) (r : Reply) (i : ℕ) : Type 0 where
  pub stage : t.stage ≡ Opening i opening.Start
  pub idle : t.aside ≡ Nothing
  pub accepted : answer_of r ≡ Accepted

-- it counts as many stops of it, and has opened it, or starts it
abbrev pub Stayed : TrussState → Reply → ℕ → ℕ → Type 0
Stayed t r i old = (old ≡ (traced_at t i).old) × ((is_opened t.stage i ≡ true) ⊎ Starts t r i)

module _ (P : Position → Traced → Type 0) (t : TrussState) (r : Reply) (kept : Kept P t)
    (fits : FitsAside t.aside t.stage) (calm : answer_of r ≢ Interrupted)
    (fresh : (pid : ℕ) → t.stage ≡ OpeningControl pid → t.aside ≡ Nothing → answer_of r ≡ Accepted
    → Each (λ (u : Traced). u.pid ≢ pid) t.traced) (i : ℕ) (inside : i < length t.traced)
    (unread : t.stage ≢ ReadingStatus i) where
  abbrev pid : ℕ
  pid = (traced_at t i).pid

  -- a process stands at one place
  place-same : (q : ℕ) → q < length t.traced → (traced_at t q).pid ≡ pid → q ≡ i
  place-same q within same = elim (cases_eq q i) [
    | inl is ↦ is
    | inr apart ↦ absurd (apart-at t.traced q i within inside apart kept.apart same)
  ]

  apart-pid : (q : ℕ) → q < length t.traced → q ≢ i → (traced_at t q).pid ≢ pid
  apart-pid q within apart same = apart (place-same q within same)

  -- ---- stops from before

  module _ (ran : is_run_soon t.stage i ≡ true → (t.stage ≡ Running i) × (t.aside ≡ Nothing)) where
    abbrev Counted : Traced → Type 0
    Counted u = u.pid ≡ pid → Stayed t r i u.old

    abbrev S : Position → Traced → Type 0
    S (opens step) u = Unit {0}
    S rests u = Counted u
    S to_read u = u.pid ≢ pid
    S looks u = u.pid ≢ pid
    S runs u = Counted u
    S closes u = Unit {0}

    planted-counted : (at : Position) (u : Traced) (set : List Bool) → S at u → S at (planted_as u set)
    planted-counted (opens step) u set it = tt
    planted-counted rests u set it = it
    planted-counted to_read u set it = it
    planted-counted looks u set it = it
    planted-counted runs u set it = it
    planted-counted closes u set it = tt

    lasting : IsLasting S
    lasting = record {
      may_close = λ at u it. tt;
      reads = λ u one it. it;
      may_run = λ u one it. one;
      counts = λ u one it some same. absurd (it same);
      sees = λ u m it. it;
      meets = λ u m it new. it;
      plants = planted-counted;
      loosens = λ u m it. tt;
    }

    one : is_opened t.stage i ≡ true → (q : ℕ) → q < length t.traced → Counted (at_place t.traced q)
    one opened q within same = (ap (λ n. (traced_at t n).old) (place-same q within same), inl opened)

    whole : is_opened t.stage i ≡ true → Each Counted t.traced
    whole opened q within = one opened q within

    but : is_opened t.stage i ≡ true → (q : ℕ) → EachBut Counted t.traced q
    but opened q j within other = one opened j within

    -- where it opens or closes another one
    open-then : (q : ℕ) → is_opened t.stage i ≡ not (q == i) → i ≢ q → is_opened t.stage i ≡ true
    open-then q is other = is ∙ ap not (ne_eqb q i (λ same. other (sym same)))

    but-shut : (q : ℕ) → is_opened t.stage i ≡ not (q == i) → EachBut Counted t.traced q
    but-shut q is j within other same =
        let own = place-same j within same in
        one (open-then q is (λ here. other (own ∙ here))) j within same

    left-has : (v : Option Traced) (u : Traced) → without_last u ≡ v → LeftHas S v u.pid
    left-has None u is = tt
    left-has (Some v) u is = (tt, let same = lost-same u v is in same.pid)

    -- a step of an opening
    next : t.aside ≡ Nothing → answer_of r ≡ Accepted → (q : ℕ) → q < length t.traced → (step : OpeningStep)
        → t.stage ≡ Opening q step
        → S (position_after (step_after t.options r step)) (learnt (at_place t.traced q) r step)
    unfolding step_after learnt
    next idle accepted q within opening.OpenStatus is = tt
    next idle accepted q within opening.OpenLstatus is = tt
    next idle accepted q within opening.OpenMemory is = tt
    next idle accepted q within opening.ClearModes is = tt
    next idle accepted q within opening.SetRelease is = tt
    next idle accepted q within opening.Stop is = tt
    next idle accepted q within (opening.AwaitStop until) is = tt
    next idle accepted q within opening.ReadLwps is = tt
    next idle accepted q within opening.TraceSignals is = tt
    next idle accepted q within opening.TraceFaults is = tt
    next idle accepted q within opening.TraceEntries is = tt
    next idle accepted q within opening.TraceExits is = tt
    next idle accepted q within opening.Follow is = tt
    next idle accepted q within opening.Start is = λ same.
        (let own = place-same q within same in (
          ap (λ n. (traced_at t n).old) own,
          inr (record { stage = is ∙ ap (λ n. Opening n opening.Start) own; idle = idle; accepted = accepted }),
        ))

    text-apart : (q : ℕ) (stage : Stage) → t.stage ≡ stage → is_run_soon stage q ≡ true → stage ≢ Running q → q ≢ i
    text-apart q stage is soon other same =
        let runs_it = ran (ap (λ st. is_run_soon st i) is ∙ ap (is_run_soon stage) (sym same) ∙ soon) in
        other (sym is ∙ runs_it.0 ∙ ap (λ n. Running n) (sym same))

    stage-after : t.aside ≡ Nothing → is_polling t.stage ≡ false → (stage : Stage) → t.stage ≡ stage
        → AtStage P t.traced stage → AfterStage S t r stage
    stage-after idle busy (Spawning program) is w = whole (ap (λ st. is_opened st i) is)
    stage-after idle busy (OpeningControl new) is w =
        (whole (ap (λ st. is_opened st i) is), λ accepted. (tt, fresh new is idle accepted))
    stage-after idle busy (Opening q step) is w =
        (w.0, (but-shut q (ap (λ st. is_opened st i) is), (tt, λ accepted. next idle accepted q w.0 step is)))
    stage-after idle busy Polling is w = absurd (false≢true (sym busy ∙ ap is_polling is))
    stage-after idle busy (ReadingStatus q) is w = (
      w.0,
      (
        whole (ap (λ st. is_opened st i) is),
        apart-pid q w.0 (λ same. unread (is ∙ ap (λ n. ReadingStatus n) same)),
      ),
    )
    stage-after idle busy (ReadingText q l from len) is w = (
      w.0,
      (
        whole (ap (λ st. is_opened st i) is),
        apart-pid q w.0 (text-apart q (ReadingText q l from len) is (eq-eqb q q refl) (λ same. cc)),
      ),
    )
    stage-after idle busy (Running q) is w =
        let opened : is_opened t.stage i ≡ true = ap (λ st. is_opened st i) is in
        (w.0, (but opened q, (tt, λ lives. one opened q w.0)))
    stage-after idle busy (Closing q OpenNext) is w = (
      w.0,
      (
        but-shut q (ap (λ st. is_opened st i) is),
        left-has (without_last (at_place t.traced q)) (at_place t.traced q) refl,
      ),
    )
    stage-after idle busy (Closing q GoOn) is w = (
      w.0,
      (
        but-shut q (ap (λ st. is_opened st i) is),
        left-has (without_last (at_place t.traced q)) (at_place t.traced q) refl,
      ),
    )
    stage-after idle busy Finished is w = whole (ap (λ st. is_opened st i) is)
    stage-after idle busy _ is w = absurd w

    stage-at : (stage : Stage) → t.stage ≡ stage → AtStage P t.traced stage → AtStage S t.traced stage
    stage-at (Spawning program) is w = whole (ap (λ st. is_opened st i) is)
    stage-at (OpeningControl new) is w = whole (ap (λ st. is_opened st i) is)
    stage-at (Opening q step) is w = (w.0, (but-shut q (ap (λ st. is_opened st i) is), tt))
    stage-at Polling is w = whole (ap (λ st. is_opened st i) is)
    stage-at (ReadingStatus q) is w = (
      w.0,
      (
        whole (ap (λ st. is_opened st i) is),
        apart-pid q w.0 (λ same. unread (is ∙ ap (λ n. ReadingStatus n) same)),
      ),
    )
    stage-at (ReadingText q l from len) is w = (
      w.0,
      (
        whole (ap (λ st. is_opened st i) is),
        apart-pid q w.0 (text-apart q (ReadingText q l from len) is (eq-eqb q q refl) (λ same. cc)),
      ),
    )
    stage-at (Running q) is w =
        let opened : is_opened t.stage i ≡ true = ap (λ st. is_opened st i) is in
        (w.0, (but opened q, one opened q w.0))
    stage-at (Closing q OpenNext) is w = (w.0, (but-shut q (ap (λ st. is_opened st i) is), tt))
    stage-at (Closing q GoOn) is w = (w.0, (but-shut q (ap (λ st. is_opened st i) is), tt))
    stage-at Finished is w = whole (ap (λ st. is_opened st i) is)
    stage-at _ is w = absurd w

    -- what comes before the call of a stage is about the process of that stage
    opened-but : (q : ℕ) (stage : Stage) → t.stage ≡ stage → IsOpenedAt q stage → EachBut Counted t.traced q
    opened-but q (Opening b opening.Start) is fit =
        but-shut q (ap (λ st. is_opened st i) is ∙ ap (λ n. not (n == i)) fit)
    opened-but q _ is fit = absurd fit

    looked-but : (q : ℕ) (stage : Stage) → t.stage ≡ stage → IsLookedAt q stage → EachBut Counted t.traced q
    looked-but q (Running b) is fit = but (ap (λ st. is_opened st i) is) q
    looked-but q (ReadingText b l from len) is fit = but (ap (λ st. is_opened st i) is) q
    looked-but q (Closing b OpenNext) is fit =
        but-shut q (ap (λ st. is_opened st i) is ∙ ap (λ n. not (n == i)) fit)
    looked-but q (Closing b GoOn) is fit =
        but-shut q (ap (λ st. is_opened st i) is ∙ ap (λ n. not (n == i)) fit)
    looked-but q _ is fit = absurd fit

    aside-after : is_polling t.stage ≡ false → (aside : Aside) → t.aside ≡ aside → FitsAside aside t.stage
        → AtAside P t.traced aside → AfterBeside S t r aside
    aside-after busy Nothing is fit w = stage-after is busy t.stage refl kept.stage
    aside-after busy (Reading q function) is fit w =
        (stage-at t.stage refl kept.stage, (w.0, (opened-but q t.stage refl fit, tt)))
    aside-after busy (Planting q function) is fit w =
        (stage-at t.stage refl kept.stage, (w.0, (opened-but q t.stage refl fit, tt)))
    aside-after busy (Patching q plants lifts clear) is fit w = (
      stage-at t.stage refl kept.stage,
      ((w.0.0, (looked-but q t.stage refl (patch-looked q plants clear t.stage fit.0), tt)), w.1),
    )
    aside-after busy _ is fit w = absurd w

    later : is_polling t.stage ≡ false → has_functions t.options ≡ true → Kept S (fed_functions t r)
    later busy has =
        fed-kept S lasting t r kept.follow kept.off kept.apart calm has (aside-after busy t.aside refl fits kept.beside)

    -- after a poll
    polled-same : (a : Answer) → a ≢ Interrupted → (with_poll_answered t r a).traced ≡ t.traced
    unfolding with_poll_answered
    polled-same Accepted other = by _
      where
        by : (x : Option ℕ) → (with_polled t x).traced ≡ t.traced
        by None = refl
        by (Some place) = refl
    polled-same (Refused errno) other = refl
    polled-same Gone other = refl
    polled-same Interrupted other = absurd (other refl)

    poll-same : has_functions t.options ≡ true → t.stage ≡ Polling → t.aside ≡ Nothing
        → (fed_functions t r).traced ≡ t.traced
    unfolding fed_functions with_aside_answered with_function_reply with_reply
    poll-same has is idle =
        ap (λ (u : TrussState). u.traced)
        (ap (λ b. cond b (with_aside_answered t r t.aside) (fed t r)) has
        ∙ ap (with_aside_answered t r) idle ∙ ap (with_function_reply t r) is)
        ∙ polled-same (answer_of r) calm

    abbrev u : TrussState
    u = fed_functions t r

    -- of one that it has opened whole then
    pub old-stays : has_functions t.options ≡ true → (q : ℕ) → q < length u.traced → is_opened u.stage q ≡ true
        → (traced_at u q).pid ≡ pid → Stayed t r i (traced_at u q).old
    old-stays has q within opened own = elim (cases_Bool (is_polling t.stage)) [
      | inl polls ↦ polled (polling-is t.stage polls)
      | inr busy ↦ (let w = later busy has in by u.stage opened w.stage own)
    ]
      where
        polled : t.stage ≡ Polling → Stayed t r i (traced_at u q).old
        polled is =
            let same = poll-same has is (polling-idle t.aside (subst (FitsAside t.aside) is fits)) in
            subst (λ (ts : List Traced). q < length ts → (at_place ts q).pid ≡ pid → Stayed t r i (at_place ts q).old)
            (sym same) (λ inside_then its. one (ap (λ st. is_opened st i) is) q inside_then its) within own

        beside : (b : ℕ) → not (b == q) ≡ true → EachBut Counted u.traced b → Counted (at_place u.traced q)
        beside b other others =
            others q within (λ same. false≢true (sym (ap not (eq-eqb b q (sym same))) ∙ other))

        run : (b : ℕ) → EachBut Counted u.traced b → Counted (at_place u.traced b) → Counted (at_place u.traced q)
        run b others here = elim (cases_eq q b) [
          | inl same ↦ subst (λ n. Counted (at_place u.traced n)) (sym same) here
          | inr other ↦ others q within other
        ]

        by : (stage : Stage) → is_opened stage q ≡ true → AtStage S u.traced stage → Counted (at_place u.traced q)
        by (Spawning program) is w = w q within
        by (OpeningControl new) is w = w q within
        by (Opening b step) is w = beside b is w.1.0
        by Polling is w = w q within
        by (ReadingStatus b) is w = w.1.0 q within
        by (ReadingText b l from len) is w = w.1.0 q within
        by (Running b) is w = run b w.1.0 w.1.1
        by (Closing b OpenNext) is w = beside b is w.1.0
        by (Closing b GoOn) is w = beside b is w.1.0
        by Finished is w = w q within
        by _ is w = absurd w

  -- ---- marks

  module _ (opened : is_opened t.stage i ≡ true) (quiet : is_run_soon t.stage i ≡ false)
      (at_stage : IsWithin (length t.traced) t.stage) (at_aside : IsBeside (length t.traced) t.aside) where
    abbrev Q : ℕ → Marks → Type 0
    Q n m = n ≡ pid → m ≡ marks_at t i

    all : Each (So Q) t.traced
    all q within same = ap (marks_at t) (place-same q within same)

    others : (q : ℕ) → EachBut (So Q) t.traced q
    others q = each-but (So Q) t.traced q all

    apart : {A : Type 0} (q : ℕ) → q < length t.traced → q ≢ i → (traced_at t q).pid ≡ pid → A
    apart q within other same = absurd (other (place-same q within same))

    left : (q : ℕ) → q < length t.traced → (v : Option Traced) → LeftSo Q v (traced_at t q)
    left q within None = tt
    left q within (Some v) = all q within

    runs-other : (q : ℕ) (stage : Stage) → t.stage ≡ stage → is_run_soon stage q ≡ true → q ≢ i
    runs-other q stage is soon same =
        false≢true
        (sym quiet ∙ ap (λ st. is_run_soon st i) is ∙ ap (is_run_soon stage) (sym same) ∙ soon)

    shut-other : (q : ℕ) (stage : Stage) → t.stage ≡ stage → is_opened stage q ≡ false → q ≢ i
    shut-other q stage is shut same =
        false≢true
        (sym (ap (λ st. is_opened st i) is ∙ ap (is_opened stage) (sym same) ∙ shut) ∙ opened)

    stage-marks : t.aside ≡ Nothing → (stage : Stage) → t.stage ≡ stage → IsWithin (length t.traced) stage
        → MarksAfter Q t r stage
    stage-marks idle (OpeningControl new) is w =
        (all, λ accepted same. absurd (fresh new is idle accepted i inside (sym same)))
    stage-marks idle (ReadingStatus q) is w = (
      all,
      λ l e accepted told fresh_event.
          apart q w (λ same. unread (is ∙ ap (λ n. ReadingStatus n) same)),
    )
    stage-marks idle (Running q) is w =
        (others q, apart q w (runs-other q (Running q) is (eq-eqb q q refl)))
    stage-marks idle (Closing q OpenNext) is w = (others q, left q w (without_last (traced_at t q)))
    stage-marks idle (Closing q GoOn) is w = (others q, left q w (without_last (traced_at t q)))
    stage-marks idle (Spawning program) is w = all
    stage-marks idle (Opening q step) is w = all
    stage-marks idle Polling is w = all
    stage-marks idle (ReadingText q l from len) is w = all
    stage-marks idle Finished is w = all
    stage-marks idle _ is w = absurd w

    opened-other : (q : ℕ) (stage : Stage) → t.stage ≡ stage → IsOpenedAt q stage → q ≢ i
    opened-other q (Opening b opening.Start) is fit =
        shut-other q (Opening b opening.Start) is (ap not (eq-eqb b q fit))
    opened-other q _ is fit = absurd fit

    looked-other : (q : ℕ) (stage : Stage) → t.stage ≡ stage → IsLookedAt q stage → q ≢ i
    looked-other q (Running b) is fit = runs-other q (Running b) is (eq-eqb b q fit)
    looked-other q (ReadingText b l from len) is fit =
        runs-other q (ReadingText b l from len) is (eq-eqb b q fit)
    looked-other q (Closing b OpenNext) is fit = shut-other q (Closing b OpenNext) is (ap not (eq-eqb b q fit))
    looked-other q (Closing b GoOn) is fit = shut-other q (Closing b GoOn) is (ap not (eq-eqb b q fit))
    looked-other q _ is fit = absurd fit

    aside-marks : (aside : Aside) → t.aside ≡ aside → FitsAside aside t.stage → IsBeside (length t.traced) aside
        → AfterAside Q t r aside
    aside-marks Nothing is fit w = stage-marks is t.stage refl at_stage
    aside-marks (Reading q function) is fit w = all
    aside-marks (Planting q function) is fit w =
        (others q, apart q w (opened-other q t.stage refl fit))
    aside-marks (Patching q plants lifts clear) is fit w =
        (others q, apart q w (looked-other q t.stage refl (patch-looked q plants clear t.stage fit.0)))
    aside-marks _ is fit w = absurd w

    pub marks-stay : has_functions t.options ≡ true → Each (So Q) (fed_functions t r).traced
    marks-stay has =
        fed-so Q t r kept.off kept.follow at_stage at_aside calm has (aside-marks t.aside refl fits at_aside)
