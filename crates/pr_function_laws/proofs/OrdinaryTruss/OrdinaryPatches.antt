use Rattle.std.proofs.Common.{◌≡◌, ◌≢◌, ◌+◌, ◌++◌, ℕ, Bool, true, false, cond, nat_lt, Option, Some, None, List, [], length, append-nil, refl, sym, subst, ap, ◌∙◌}
use Rattle.pr_model.specs.Replies.{bytes_in, until_in}
use Rattle.pr_model.specs.declared.calls.Reply.{Reply}
use Rattle.pr_model.specs.declared.calls.Reply.TheVariants as reply
use Rattle.pr_num.specs.declared.errnos.Errno.{Errno}
use Rattle.pr_num.specs.declared.errnos.Errno.TheVariants.{Noent}
use Rattle.pr_rec.specs.declared.lwps.LwpStatus.{LwpStatus}
use Rattle.pr_report_laws.proofs.Replies.NewStops.{refused-bytes}
use Rattle.pr_truss.specs.Asides.{marks_at, patching, with_aside, with_lifts}
use Rattle.pr_truss.specs.Closings.{with_closing}
use Rattle.pr_truss.specs.Feeding.{fed, with_reply}
use Rattle.pr_truss.specs.FunctionFeeding.{after_first, after_patch, fed_functions, is_to_plant, planted_if, with_aside_answered, with_asking_answered, with_code_answered, with_code_read, with_next_function, with_patch_answered, with_pending_told, with_plant_answered, with_planted, with_refused_opening, with_wait_answered, without_planted}
use Rattle.pr_truss.specs.Marks.{first_function, has_functions, no_functions, without_function}
use Rattle.pr_truss.specs.Openings.{with_refused_step, with_step_answered}
use Rattle.pr_truss.specs.Replies.{answer_of}
use Rattle.pr_truss.specs.Reports.{all_reports, pending_at}
use Rattle.pr_truss.specs.Stops.{after_text, text_of, with_event_shown, with_lwps_answered, with_run_answered, with_text_answered}
use Rattle.pr_truss.specs.Trusses.{TrussState, with_stage}
use Rattle.pr_truss.specs.declared.asides.Aside.{Aside}
use Rattle.pr_truss.specs.declared.asides.Aside.TheVariants.{Nothing, Reading, Planting, Patching, AwaitingStop, Asking, AwaitingAgain}
use Rattle.pr_truss.specs.declared.replies.Answer.{Answer}
use Rattle.pr_truss.specs.declared.replies.Answer.TheVariants.{Accepted, Interrupted, Gone, Refused}
use Rattle.pr_truss.specs.declared.stages.AfterClosing.TheVariants.{OpenNext, GoOn}
use Rattle.pr_truss.specs.declared.stages.OpeningStep.TheVariants as opening
use Rattle.pr_truss.specs.declared.stages.Stage.{Stage}
use Rattle.pr_truss.specs.declared.stages.Stage.TheVariants.{Opening, ReadingText, Running, Closing, ReadingLwps}
use Rattle.pr_truss_laws.proofs.Replies.AnswerLemmas.{IsAnswer, answer-is, gone-refuses, other-refuses}
use Rattle.pr_truss_laws.proofs.Files.HeldLemmas.{Grown, grown-one, grown-same}
use Rattle.pr_function_laws.proofs.OrdinaryTruss.OrdinaryReplies.{marked, refused_step, shown}
use Rattle.pr_function_laws.proofs.OrdinaryTruss.OrdinaryRows.{Row, fed-at, is_beside, refuses, stage-row, stays, writes}
use Rattle.pr_function_laws.proofs.OrdinaryTruss.OrdinaryStops.{FitsAside, IsLookedAt, IsOpenedAt, PatchFits, lift-fits, next-fits, none-fits, patch-fits, patch-looked}
use Rattle.pr_function_laws.specs.Ordinary.{IsTakenUp, PassesOver, ordinary}

-- What a reply to what comes before the call of a stage makes of truss with calls of functions, without its
-- breakpoints: it leaves it as it was, or counts as a refusal of that call.

-- ---- replies to what comes before the call of the stage

lives : (r : Reply) (a : Answer) → answer_of r ≡ a → a ≢ Gone → r ≢ reply.Fail Noent
unfolding answer_of
lives r a is more same = more (sym is ∙ ap answer_of same)

accepted-passes : (r : Reply) (stage : Stage) → answer_of r ≡ Accepted → PassesOver stage r
unfolding IsAnswer
accepted-passes r (Opening place now) is = subst (IsAnswer r) is (answer-is r)
accepted-passes r (Closing place next) is = tt
accepted-passes r _ is = lives r Accepted is (λ (gone : Accepted ≡ Gone). cc)

-- ---- what comes before the call of the stage

module _ (s : TrussState) (r : Reply) (beside : is_beside s.aside ≡ true) where
  abbrev at_once : TrussState
  at_once = with_aside s Nothing

  -- a function is looked at next, or the call of the stage comes
  next-row : (u : TrussState) (place function : ℕ) → ordinary u ≡ ordinary s → IsOpenedAt place s.stage
      → u.reports ≡ s.reports → answer_of r ≡ Accepted → Row s r (with_next_function u place function)
  unfolding with_next_function
  next-row u place function same opened kept granted =
      let grows = subst (Grown s.reports) (sym kept) (grown-same s.reports) in
      let over = accepted-passes r s.stage granted in
      let stage : s.stage ≡ u.stage = sym (ap (λ (x : TrussState). x.stage) same) in
      elim (nat_lt function (length u.options.functions))
      as (λ b. Row s r (cond b (with_aside u (Reading place function)) (with_aside u Nothing))) [
        | true ↦ record { step = stays beside over same; fits = subst (IsOpenedAt place) stage opened; grows = grows }
        | false ↦ record { step = stays beside over same; fits = tt; grows = grows }
      ]

  opened-is : (place : ℕ) (stage : Stage) → IsOpenedAt place stage → stage ≡ Opening place opening.Start
  opened-is place (Opening at opening.Start) opened = ap (λ n. Opening n opening.Start) opened
  opened-is place _ opened = absurd opened

  opened-refusable : (place : ℕ) (stage : Stage) (errno : Errno) → IsOpenedAt place stage → IsTakenUp stage errno
  opened-refusable place (Opening at opening.Start) errno opened = tt
  opened-refusable place _ errno opened = absurd opened

  refused-fed : (place : ℕ) (errno : Errno) (a : Answer) → IsOpenedAt place s.stage → answer_of r ≡ a
      → with_step_answered (ordinary s) place opening.Start r a ≡ with_refused_step (ordinary s) place errno
      → ordinary (with_refused_step at_once place errno) ≡ fed (ordinary s) r
  unfolding with_reply
  refused-fed place errno a opened is same =
      refused_step at_once place errno ∙ sym same
      ∙ ap (with_step_answered (ordinary s) place opening.Start r) (sym is)
      ∙ fed-at s r (Opening place opening.Start) (opened-is place s.stage opened)

  gone-row : (place : ℕ) → IsOpenedAt place s.stage → answer_of r ≡ Gone
      → Row s r (with_refused_step at_once place Noent)
  unfolding with_step_answered with_refused_step
  gone-row place opened is = record {
    step = refuses Noent beside (gone-refuses r is) (opened-refusable place s.stage Noent opened)
        (refused-fed place Noent Gone opened is refl);
    fits = tt;
    grows = grown-one s.reports _;
  }

  refused-row : (place : ℕ) (errno : Errno) → IsOpenedAt place s.stage → answer_of r ≡ Refused errno
      → Row s r (with_refused_opening at_once place errno)
  unfolding with_step_answered with_refused_opening with_lifts with_refused_step
  refused-row place errno opened is = record {
    step = refuses errno beside (other-refuses r errno is) (opened-refusable place s.stage errno opened)
        (refused-fed place errno (Refused errno) opened is refl);
    fits =
        patch-fits place no_functions (marks_at s place).planted false (Closing place OpenNext)
        (lift-fits place (Closing place OpenNext) refl);
    grows = grown-one s.reports _;
  }

  code-row : (place function : ℕ) → IsOpenedAt place s.stage → (a : Answer) → answer_of r ≡ a → a ≢ Interrupted
      → Row s r (with_code_answered at_once place function r a)
  unfolding with_code_answered with_code_read
  code-row place function opened Accepted is calm =
      elim (is_to_plant s.options function (bytes_in r))
      as (λ b. Row s r
      (cond b (with_aside at_once (Planting place function)) (with_next_function at_once place (function + 1)))) [
        | true ↦ record {
          step = stays beside (accepted-passes r s.stage is) refl;
          fits = opened;
          grows = grown-same s.reports;
        }
        | false ↦ next-row at_once place (function + 1) refl opened refl is
      ]
  code-row place function opened Interrupted is calm = absurd (calm refl)
  code-row place function opened Gone is calm = gone-row place opened is
  code-row place function opened (Refused errno) is calm = refused-row place errno opened is

  plant-row : (place function : ℕ) → IsOpenedAt place s.stage → (a : Answer) → answer_of r ≡ a → a ≢ Interrupted
      → Row s r (with_plant_answered at_once place function a)
  unfolding with_plant_answered
  plant-row place function opened Accepted is calm =
      next-row (with_planted at_once place function) place (function + 1) (marked at_once place _) opened refl is
  plant-row place function opened Interrupted is calm = absurd (calm refl)
  plant-row place function opened Gone is calm = gone-row place opened is
  plant-row place function opened (Refused errno) is calm = refused-row place errno opened is

  -- ---- breakpoints

  -- what is reported of an event whose memory was not read
  told-as : (u : TrussState) (stage : Stage) → u.stage ≡ stage → pending_at u stage ≡ []
      → ordinary (with_pending_told u) ≡ ordinary u
  unfolding with_pending_told all_reports
  told-as u stage at nothing =
      ap (λ reports. ordinary (record u { reports = reports }))
      (ap (λ st. u.reports ++ pending_at u st) at ∙ ap (λ rs. u.reports ++ rs) nothing ∙ append-nil u.reports)

  told-shown : (u : TrussState) (place : ℕ) (l : LwpStatus) (from len : ℕ) → u.stage ≡ ReadingText place l from len
      → with_pending_told u ≡ with_event_shown u place l None
  unfolding with_pending_told all_reports with_event_shown
  told-shown u place l from len at =
      ap (λ st. record u { reports = u.reports ++ pending_at u st }) at

  -- what is reported so
  pending-grown : (u : TrussState) → Grown u.reports (with_pending_told u).reports
  unfolding with_pending_told all_reports
  pending-grown u = record { more = pending_at u u.stage; is = refl }

  module _ (u : TrussState) (place : ℕ) (same : ordinary u ≡ ordinary s) (free : u.aside ≡ Nothing)
      (kept : u.reports ≡ s.reports) (rest : Aside) (fits : FitsAside rest s.stage) where
    grown : Grown s.reports u.reports
    grown = subst (Grown s.reports) (sym kept) (grown-same s.reports)

    told-grown : Grown s.reports (with_pending_told u).reports
    told-grown = subst (λ rs. Grown rs (with_pending_told u).reports) kept (pending-grown u)

    stage-same : s.stage ≡ u.stage
    stage-same = sym (ap (λ (x : TrussState). x.stage) same)

    on : (stage : Stage) → s.stage ≡ stage → PassesOver stage r → Row s r (with_aside u rest)
    on stage is over = record {
      step = stays beside (subst (λ st. PassesOver st r) (sym is) over) same;
      fits = subst (FitsAside rest) stage-same fits;
      grows = grown;
    }

    closed-again : (at : ℕ) → s.stage ≡ Closing at GoOn → at ≡ place → Row s r (with_closing u place)
    closed-again at is here =
        let still : Closing place GoOn ≡ s.stage = sym (is ∙ ap (λ n. Closing n GoOn) here) in
        record {
          step = stays beside (subst (λ st. PassesOver st r) (sym is) tt)
              (ap (λ x. with_closing x place) same ∙ ap (with_stage (ordinary s)) still);
          fits = none-fits (with_closing u place) free;
          grows = grown;
        }

    ran-out : (at : ℕ) → s.stage ≡ Running at → at ≡ place → answer_of r ≡ Gone
        → Row s r (with_closing (with_pending_told u) place)
    unfolding with_run_answered with_reply with_pending_told
    ran-out at is here gone =
        let now : ordinary (with_closing (with_pending_told u) place) ≡ with_closing (ordinary s) at =
        ap (λ x. with_closing x place) (told-as u (Running at) (sym stage-same ∙ is) refl ∙ same)
        ∙ ap (with_closing (ordinary s)) (sym here) in
        record {
          step = refuses Noent beside (gone-refuses r gone) (subst (λ st. IsTakenUp st Noent) (sym is) refl)
              (now ∙ ap (with_run_answered (ordinary s) at) (sym gone) ∙ fed-at s r (Running at) is);
          fits = none-fits (with_closing (with_pending_told u) place) free;
          grows = told-grown;
        }

    text-lost : (at : ℕ) (l : LwpStatus) (from len : ℕ) → s.stage ≡ ReadingText at l from len → at ≡ place
        → answer_of r ≡ Gone → Row s r (with_closing (with_pending_told u) place)
    unfolding with_text_answered after_text with_reply with_pending_told
    text-lost at l from len is here gone =
        let shows : ordinary (with_pending_told u) ≡ with_event_shown (ordinary s) at l None =
        ap (λ x. ordinary x) (told-shown u at l from len (sym stage-same ∙ is))
        ∙ shown u at l None ∙ ap (λ x. with_event_shown x at l None) same in
        let unread : None ≡ text_of len (bytes_in r) =
        sym (ap (text_of len) (refused-bytes r (λ took. let d : Gone ≡ Accepted = sym gone ∙ took in cc))) in
        let now : ordinary (with_closing (with_pending_told u) place) ≡
        after_text (with_event_shown (ordinary s) at l (text_of len (bytes_in r))) at l (answer_of r) =
        ap (λ x. with_closing x place) shows
        ∙ ap (with_closing (with_event_shown (ordinary s) at l None)) (sym here)
        ∙ ap (λ text. with_closing (with_event_shown (ordinary s) at l text) at) unread
        ∙ ap (after_text (with_event_shown (ordinary s) at l (text_of len (bytes_in r))) at l) (sym gone) in
        record {
          step = refuses Noent beside (gone-refuses r gone) (subst (λ st. IsTakenUp st Noent) (sym is) refl)
              (now ∙ fed-at s r (ReadingText at l from len) is);
          fits = none-fits (with_closing (with_pending_told u) place) free;
          grows = told-grown;
        }

    patched-row : (stage : Stage) → s.stage ≡ stage → IsLookedAt place stage → (a : Answer) → answer_of r ≡ a
        → a ≢ Interrupted → Row s r (after_patch u rest place stage a)
    unfolding after_patch
    patched-row (Closing at OpenNext) is here a answer calm = on _ is tt
    patched-row (Closing at GoOn) is here Gone answer calm = closed-again at is here
    patched-row (Closing at GoOn) is here Accepted answer calm = on _ is tt
    patched-row (Closing at GoOn) is here Interrupted answer calm = on _ is tt
    patched-row (Closing at GoOn) is here (Refused errno) answer calm = on _ is tt
    patched-row (Running at) is here Accepted answer calm =
        on (Running at) is (lives r Accepted answer (λ (gone : Accepted ≡ Gone). cc))
    patched-row (Running at) is here (Refused errno) answer calm =
        on (Running at) is (lives r (Refused errno) answer (λ (gone : Refused errno ≡ Gone). cc))
    patched-row (Running at) is here Gone answer calm = ran-out at is here answer
    patched-row (Running at) is here Interrupted answer calm = absurd (calm refl)
    patched-row (ReadingText at l from len) is here Accepted answer calm =
        on (ReadingText at l from len) is (lives r Accepted answer (λ (gone : Accepted ≡ Gone). cc))
    patched-row (ReadingText at l from len) is here (Refused errno) answer calm =
        on (ReadingText at l from len) is (lives r (Refused errno) answer (λ (gone : Refused errno ≡ Gone). cc))
    patched-row (ReadingText at l from len) is here Gone answer calm = text-lost at l from len is here answer
    patched-row (ReadingText at l from len) is here Interrupted answer calm = absurd (calm refl)
    patched-row _ is here a answer calm = absurd here

  planted-as : (place function : ℕ) (a : Answer) → ordinary (planted_if at_once place function a) ≡ ordinary s
  planted-as place function Accepted = marked at_once place _
  planted-as place function _ = refl

  planted-reports : (place function : ℕ) (a : Answer) → (planted_if at_once place function a).reports ≡ s.reports
  planted-reports place function Accepted = refl
  planted-reports place function _ = refl

  planted-aside : (place function : ℕ) (a : Answer) → (planted_if at_once place function a).aside ≡ Nothing
  planted-aside place function Accepted = refl
  planted-aside place function _ = refl

  first-row : (place : ℕ) (plants lifts : List Bool) (clear : Bool) → PatchFits place plants clear s.stage
      → (a : Answer) → answer_of r ≡ a → a ≢ Interrupted → (plant lift : Option ℕ) → first_function plants ≡ plant
      → Row s r (after_first at_once place plants lifts clear a plant lift)
  first-row place plants lifts clear here a is calm (Some function) lift first =
      patched-row (planted_if at_once place function a) place (planted-as place function a)
      (planted-aside place function a) (planted-reports place function a)
      (patching place (without_function plants function) lifts clear)
      (patch-fits place (without_function plants function) lifts clear s.stage
      (next-fits place function plants clear s.stage here first)) s.stage refl
      (patch-looked place plants clear s.stage here) a is calm
  first-row place plants lifts clear here a is calm None (Some function) first =
      patched-row (without_planted at_once place function) place (marked at_once place _) refl refl
      (patching place plants (without_function lifts function) clear)
      (patch-fits place plants (without_function lifts function) clear s.stage here) s.stage refl
      (patch-looked place plants clear s.stage here) a is calm
  first-row place plants lifts clear here a is calm None None first =
      patched-row at_once place refl refl refl Nothing tt s.stage refl
      (patch-looked place plants clear s.stage here) a is calm

  -- ---- the wait for a stop

  gone-look : s.stage ≡ ReadingLwps → answer_of r ≡ Gone → Row s r (with_closing at_once 0)
  unfolding with_lwps_answered with_reply
  gone-look at is = record {
    step = refuses Noent beside (gone-refuses r is) (subst (λ st. IsTakenUp st Noent) (sym at) refl)
        (ap (with_lwps_answered (ordinary s) r) (sym is) ∙ fed-at s r ReadingLwps at);
    fits = tt;
    grows = grown-same s.reports;
  }

  here-row : s.stage ≡ ReadingLwps → (a : Answer) → answer_of r ≡ a → a ≢ Gone → (rest : Aside)
      → FitsAside rest ReadingLwps → Row s r (with_aside at_once rest)
  here-row at a is more rest fit = record {
    step = stays beside (subst (λ st. PassesOver st r) (sym at) (lives r a is more)) refl;
    fits = subst (FitsAside rest) (sym at) fit;
    grows = grown-same s.reports;
  }

  wait-row : s.stage ≡ ReadingLwps → (a : Answer) → answer_of r ≡ a → Row s r (with_wait_answered at_once a)
  unfolding with_wait_answered
  wait-row at Accepted is = here-row at Accepted is (λ (gone : Accepted ≡ Gone). cc) Nothing tt
  wait-row at Interrupted is = here-row at Interrupted is (λ (gone : Interrupted ≡ Gone). cc) Asking refl
  wait-row at (Refused errno) is = here-row at (Refused errno) is (λ (gone : Refused errno ≡ Gone). cc) Nothing tt
  wait-row at Gone is = gone-look at is

  asking-row : s.stage ≡ ReadingLwps → (a : Answer) → answer_of r ≡ a → Row s r (with_asking_answered at_once r a)
  unfolding with_asking_answered
  asking-row at Accepted is =
      here-row at Accepted is (λ (gone : Accepted ≡ Gone). cc) (AwaitingAgain (until_in r)) refl
  asking-row at Interrupted is = here-row at Interrupted is (λ (gone : Interrupted ≡ Gone). cc) Asking refl
  asking-row at (Refused errno) is = here-row at (Refused errno) is (λ (gone : Refused errno ≡ Gone). cc) Nothing tt
  asking-row at Gone is = gone-look at is

-- ---- any reply

module _ (s : TrussState) (r : Reply) (off : s.options.follow ≡ false) (fits : FitsAside s.aside s.stage)
    (calm : writes s.aside ≡ true → answer_of r ≢ Interrupted) where
  aside-row : (aside : Aside) → s.aside ≡ aside → FitsAside aside s.stage
      → (writes aside ≡ true → answer_of r ≢ Interrupted) → Row s r (with_aside_answered s r aside)
  unfolding with_aside_answered with_patch_answered
  aside-row Nothing is fit quiet = stage-row s r off is s.stage refl
  aside-row (Reading place function) is fit quiet =
      code-row s r (ap is_beside is) place function fit (answer_of r) refl (quiet refl)
  aside-row (Planting place function) is fit quiet =
      plant-row s r (ap is_beside is) place function fit (answer_of r) refl (quiet refl)
  aside-row (Patching place plants lifts clear) is fit quiet =
      first-row s r (ap is_beside is) place plants lifts clear fit.0 (answer_of r) refl (quiet refl)
      (first_function plants) (first_function lifts) refl
  aside-row (AwaitingStop until) is fit quiet = wait-row s r (ap is_beside is) fit (answer_of r) refl
  aside-row Asking is fit quiet = asking-row s r (ap is_beside is) fit (answer_of r) refl
  aside-row (AwaitingAgain until) is fit quiet = wait-row s r (ap is_beside is) fit (answer_of r) refl

  pub function-row : has_functions s.options ≡ true → Row s r (fed_functions s r)
  unfolding fed_functions
  function-row has =
      subst (λ b. Row s r (cond b (with_aside_answered s r s.aside) (fed s r))) (sym has)
      (aside-row s.aside refl fits calm)
