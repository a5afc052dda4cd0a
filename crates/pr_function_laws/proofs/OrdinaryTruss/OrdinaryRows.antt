use Rattle.std.proofs.Common.{◌≡◌, ◌≢◌, ℕ, Bool, true, false, cond, nat_lt, Option, Some, None, [], length, refl, sym, subst, ap, ◌∙◌}
use Rattle.std.specs.List.{slice_get}
use Rattle.std.specs.Option.{option_and_then}
use Rattle.pr_model.specs.Replies.{bytes_in}
use Rattle.pr_model.specs.declared.calls.Reply.{Reply}
use Rattle.pr_model.specs.declared.calls.Reply.TheVariants as reply
use Rattle.pr_num.specs.declared.errnos.Errno.{Errno}
use Rattle.pr_rec.specs.Reading.{record_read}
use Rattle.pr_rec.specs.declared.lwps.LwpStatus.{LwpStatus}
use Rattle.pr_report_laws.proofs.Replies.NewStops.{refused-bytes}
use Rattle.pr_report_laws.proofs.Replies.TextReports.{reads_stop}
use Rattle.pr_truss.specs.Asides.{marks_at, with_aside, with_lifts, with_marks}
use Rattle.pr_truss.specs.Closings.{with_interrupt}
use Rattle.pr_truss.specs.Feeding.{fed, with_reply}
use Rattle.pr_truss.specs.FunctionFeeding.{with_function_reply, with_function_step_answered, with_functions_begun, with_halt_answered, with_next_function, with_refused_opening}
use Rattle.pr_truss.specs.FunctionStops.{after_function_text, with_function_lwps_answered, with_function_run_answered, with_function_status_answered, with_function_stop, with_function_stop_read, with_function_text_answered}
use Rattle.pr_truss.specs.Marks.{no_functions}
use Rattle.pr_truss.specs.Openings.{step_after, with_refused_step, with_step_answered, with_step_done, with_stop_seen}
use Rattle.pr_truss.specs.Records.{event_stops, lstatus_lwps, status_lwp}
use Rattle.pr_truss.specs.Replies.{answer_of}
use Rattle.pr_truss.specs.Stops.{after_text, text_of, with_event_over, with_event_shown, with_lwps_answered, with_run_answered, with_status_answered, with_stop_over, with_stop_read, with_text_answered, with_unfollowed}
use Rattle.pr_truss.specs.Trusses.{TrussState}
use Rattle.pr_truss.specs.declared.asides.Aside.{Aside}
use Rattle.pr_truss.specs.declared.asides.Aside.TheVariants.{Nothing, Reading, Planting, Patching}
use Rattle.pr_truss.specs.declared.marks.Marks.{Marks}
use Rattle.pr_truss.specs.declared.replies.Answer.{Answer}
use Rattle.pr_truss.specs.declared.replies.Answer.TheVariants.{Accepted, Interrupted, Gone, Refused}
use Rattle.pr_truss.specs.declared.stages.AfterClosing.{AfterClosing}
use Rattle.pr_truss.specs.declared.stages.AfterClosing.TheVariants.{OpenNext, GoOn}
use Rattle.pr_truss.specs.declared.stages.OpeningStep.{OpeningStep}
use Rattle.pr_truss.specs.declared.stages.OpeningStep.TheVariants as opening
use Rattle.pr_truss.specs.declared.stages.Stage.{Stage}
use Rattle.pr_truss.specs.declared.stages.Stage.TheVariants.{Opening, ReadingStatus, ReadingText, Running, Closing, Unfollowing, ReadingLwps}
use Rattle.pr_truss_laws.proofs.Replies.AnswerLemmas.{Refuses}
use Rattle.pr_truss_laws.proofs.Replies.FedSteps.{fed-step}
use Rattle.pr_truss_laws.proofs.Replies.FitLemmas.{fed-grown}
use Rattle.pr_truss_laws.proofs.Files.HeldLemmas.{Grown, grown-one, grown-same}
use Rattle.pr_truss_laws.proofs.Replies.ReplySteps as row
use Rattle.pr_truss_laws.proofs.Replies.ReplySteps.{Closes, GoesOn, Looks, ReplyStep, Returns, Settles, StopOver}
use Rattle.pr_function_laws.proofs.OrdinaryTruss.OrdinaryReplies.{marked, refused_step, reply-ordinary, run, step_done, stop_over, text}
use Rattle.pr_function_laws.proofs.OrdinaryTruss.OrdinaryStops.{FitsAside, IsLookedAt, IsOpenedAt, Passes, as_always, event-over, function-stop, lift-fits, none-fits, over-over, own_fault, patch-fits}
use Rattle.pr_function_laws.specs.Ordinary.{IsOwnStop, IsTakenUp, OwnFaultRead, PassesOver, TellsOfOwnFault, ordinary}

-- What a reply makes of truss with calls of functions, without its breakpoints: it leaves it as it was, or makes of it
-- what the reply makes of truss without calls of functions; where it tells of a fault of truss's own, as a read that
-- gave no bytes would.

-- ---- what stays beside the stage

on-aside : {u v : TrussState} {given : Bool} → GoesOn u given v → v.aside ≡ u.aside
on-aside (row.polls _ _) = refl
on-aside _ = refl

over-aside : {u v : TrussState} {place : ℕ} {pid : Option ℕ} → StopOver u place pid v → v.aside ≡ u.aside
over-aside (row.runs _) = refl
over-aside _ = refl

module _ (s : TrussState) (r : Reply) where
  settles-aside : (stage : Stage) (given : Bool) (u : TrussState) → Settles s r stage given u → u.aside ≡ s.aside
  settles-aside stage given u row.ran = refl
  settles-aside stage given u _ = refl

  looks-aside : (stage : Stage) (place : ℕ) (pid : Option ℕ) (u : TrussState) → Looks s r stage place pid u
      → u.aside ≡ s.aside
  looks-aside stage place pid u (row.passes _) = refl
  looks-aside stage place pid u _ = refl

  closes-aside : (stage : Stage) (place : ℕ) (next : AfterClosing) (u : TrussState) → Closes s r stage place next u
      → u.aside ≡ s.aside
  closes-aside stage place next u (row.status_ended _) = refl
  closes-aside stage place next u _ = refl

  returns-aside : (stage : Stage) (parent : ℕ) (u : TrussState) → Returns s r stage parent u → u.aside ≡ s.aside
  returns-aside stage parent u (row.child_runs _) = refl
  returns-aside stage parent u _ = refl

  step-aside : (stage : Stage) (v : TrussState) → ReplyStep s r stage v → v.aside ≡ s.aside
  step-aside stage v (row.settles {u = u} w on) = on-aside on ∙ settles-aside stage _ u w
  step-aside stage v (row.looks {u = u} w over) = over-aside over ∙ looks-aside stage _ _ u w
  step-aside stage v (row.closes {u = u} w) = closes-aside stage _ _ u w
  step-aside stage v (row.returns {u = u} w) = returns-aside stage _ u w
  step-aside stage v _ = refl

  reply-grown : (stage : Stage) → s.stage ≡ stage → Grown s.reports (with_reply s r stage).reports
  unfolding fed
  reply-grown stage at = subst (λ st. Grown s.reports (with_reply s r st).reports) at (fed-grown s r)

  reply-aside : (stage : Stage) → s.stage ≡ stage → (with_reply s r stage).aside ≡ s.aside
  unfolding fed
  reply-aside stage at =
      subst (λ st. (with_reply s r st).aside ≡ s.aside) at (step-aside s.stage (fed s r) (fed-step s r))

-- ---- the reply, and where truss is then

-- whether something comes before the call of the stage, and whether that is a write to a process
abbrev pub is_beside : Aside → Bool
is_beside Nothing = false
is_beside _ = true

abbrev pub writes : Aside → Bool
writes (Reading place function) = true
writes (Planting place function) = true
writes (Patching place plants lifts clear) = true
writes _ = false

module _ (s : TrussState) (r : Reply) where
  pub data Step (v : TrussState) : Type 0 where
    stays : is_beside s.aside ≡ true → PassesOver s.stage r → ordinary v ≡ ordinary s → Step v
    feeds : s.aside ≡ Nothing → (TellsOfOwnFault s r → ⊥) → ordinary v ≡ fed (ordinary s) r → Step v
    refuses : (errno : Errno) → is_beside s.aside ≡ true → Refuses r errno → IsTakenUp s.stage errno
        → ordinary v ≡ fed (ordinary s) r → Step v
    passes : s.aside ≡ Nothing → reads_stop s.stage ≡ true → TellsOfOwnFault s r
        → ordinary v ≡ fed (ordinary s) (reply.Bytes []) → Step v

  pub record Row (v : TrussState) : Type 0 where
    pub step : Step v
    pub fits : FitsAside v.aside v.stage
    pub grows : Grown s.reports v.reports

pub fed-at : (s : TrussState) (r : Reply) (stage : Stage) → s.stage ≡ stage
    → with_reply (ordinary s) r stage ≡ fed (ordinary s) r
unfolding fed
fed-at s r stage at = ap (with_reply (ordinary s) r) (sym at)

pub no-status : option_and_then status_lwp (bytes_in (reply.Bytes [])) ≡ None
unfolding status_lwp record_read bytes_in
no-status = refl

pub no-lwps : slice_get (event_stops (bytes_in (reply.Bytes []))) 0 ≡ None
unfolding event_stops lstatus_lwps bytes_in
no-lwps = refl

-- ---- a call of the stage itself

module _ (s : TrussState) (r : Reply) (off : s.options.follow ≡ false) (none : s.aside ≡ Nothing) where
  untold : (stage : Stage) → s.stage ≡ stage → (OwnFaultRead s r stage → ⊥) → TellsOfOwnFault s r → ⊥
  untold stage at none_own own = none_own (subst (OwnFaultRead s r) at own)

  as-fed : (stage : Stage) → s.stage ≡ stage → (OwnFaultRead s r stage → ⊥) → (v : TrussState)
      → v ≡ with_reply s r stage → Row s r v
  as-fed stage at none_own v is =
      subst (Row s r) (sym is) (record {
        step = feeds none (untold stage at none_own) (reply-ordinary s r stage ∙ fed-at s r stage at);
        fits = none-fits (with_reply s r stage) (reply-aside s r stage at ∙ none);
        grows = reply-grown s r stage at;
      })

  -- ---- opening

  exits-fit : (place : ℕ) → IsOpenedAt place (with_step_done s place r opening.TraceExits).stage
  unfolding with_step_done step_after
  exits-fit place =
      subst (λ b. IsOpenedAt place (Opening place (cond b opening.Follow opening.Start))) (sym off) refl

  exits-grown : (place : ℕ) → Grown s.reports (with_step_done s place r opening.TraceExits).reports
  unfolding with_step_done step_after
  exits-grown place = grown-same s.reports

  accepted-row : (place : ℕ) (now : OpeningStep) → s.stage ≡ Opening place now → answer_of r ≡ Accepted
      → Row s r (with_functions_begun (with_step_done s place r now) place now)
  unfolding with_step_answered with_reply with_next_function
  accepted-row place opening.TraceExits at is =
      let u : TrussState = with_step_done s place r opening.TraceExits in
      let fed_so : ordinary u ≡ fed (ordinary s) r =
      step_done s place r opening.TraceExits
      ∙ ap (with_step_answered (ordinary s) place opening.TraceExits r) (sym is)
      ∙ fed-at s r (Opening place opening.TraceExits) at in
      elim (nat_lt 0 (length u.options.functions))
      as (λ b. Row s r (cond b (with_aside u (Reading place 0)) (with_aside u Nothing))) [
        | true ↦ record {
          step = feeds none (untold (Opening place opening.TraceExits) at (λ own. own)) fed_so;
          fits = exits-fit place;
          grows = exits-grown place;
        }
        | false ↦ record {
          step = feeds none (untold (Opening place opening.TraceExits) at (λ own. own)) fed_so;
          fits = tt;
          grows = exits-grown place;
        }
      ]
  accepted-row place now at is =
      as-fed (Opening place now) at (λ own. own) _ (ap (with_step_answered s place now r) (sym is))

  opening-row : (place : ℕ) (now : OpeningStep) → s.stage ≡ Opening place now → (a : Answer) → answer_of r ≡ a
      → Row s r (with_function_step_answered s place now r a)
  unfolding with_function_step_answered with_refused_opening with_lifts with_step_answered with_reply with_refused_step
  opening-row place now at Accepted is = accepted-row place now at is
  opening-row place now at Interrupted is =
      as-fed (Opening place now) at (λ own. own) _ (ap (with_step_answered s place now r) (sym is))
  opening-row place now at Gone is =
      as-fed (Opening place now) at (λ own. own) _ (ap (with_step_answered s place now r) (sym is))
  opening-row place now at (Refused errno) is = record {
    step =
        feeds none (untold (Opening place now) at (λ own. own))
        (refused_step s place errno ∙ ap (with_step_answered (ordinary s) place now r) (sym is)
        ∙ fed-at s r (Opening place now) at);
    fits =
        patch-fits place no_functions (marks_at s place).planted false (Closing place OpenNext)
        (lift-fits place (Closing place OpenNext) refl);
    grows = grown-one s.reports _;
  }

  -- ---- a stop

  -- the lwp that was read, if one was
  module _ (place : ℕ) (reads : reads_stop s.stage ≡ true) (o : Option LwpStatus)
      (tells : IsOwnStop s place o → TellsOfOwnFault s r) (told : TellsOfOwnFault s r → IsOwnStop s place o)
      (now : with_stop_read (ordinary s) place o ≡ fed (ordinary s) r)
      (unread : with_stop_over (ordinary s) place ≡ fed (ordinary s) (reply.Bytes [])) where
    read-row : (read : Option LwpStatus) → o ≡ read → Row s r (with_function_stop_read s place read)
    unfolding with_lifts
    read-row None is =
        let over = over-over s place in
        let fed_so : ordinary (with_stop_over s place) ≡ fed (ordinary s) r =
        stop_over s place ∙ ap (with_stop_read (ordinary s) place) (sym is) ∙ now in
        let none_own : TellsOfOwnFault s r → ⊥ = λ own. subst (IsOwnStop s place) is (told own) in
        elim s.leaving
        as (λ b. Row s r (cond b (with_lifts (with_stop_over s place) place false) (with_stop_over s place))) [
          | true ↦ record {
            step = feeds none none_own fed_so;
            fits = patch-fits place no_functions (marks_at (with_stop_over s place) place).planted false
                (with_stop_over s place).stage (lift-fits place (with_stop_over s place).stage over.looked);
            grows = over.grows;
          }
          | false ↦ record {
            step = feeds none none_own fed_so;
            fits = none-fits (with_stop_over s place) (over.aside ∙ none);
            grows = over.grows;
          }
        ]
    read-row (Some l) is =
        let stopped = function-stop s place l off none in
        record { step = by stopped.passes; fits = stopped.fits; grows = stopped.grows }
      where
        by : Passes s place l off none (with_function_stop s place l) → Step s r (with_function_stop s place l)
        by (as_always none_own same) =
            feeds none (λ own. none_own (subst (IsOwnStop s place) is (told own)))
            (same ∙ ap (with_stop_read (ordinary s) place) (sym is) ∙ now)
        by (own_fault own same) =
            passes none reads (tells (subst (IsOwnStop s place) (sym is) own)) (same ∙ unread)

  -- a read that was refused tells of none
  status-refused : (place : ℕ) → answer_of r ≢ Accepted → OwnFaultRead s r (ReadingStatus place) → ⊥
  status-refused place refused own =
      subst (λ bytes. IsOwnStop s place (option_and_then status_lwp bytes)) (refused-bytes r refused) own

  lwps-refused : answer_of r ≢ Accepted → OwnFaultRead s r ReadingLwps → ⊥
  unfolding event_stops
  lwps-refused refused own =
      subst (λ bytes. IsOwnStop s 0 (slice_get (event_stops bytes) 0)) (refused-bytes r refused) own

  status-row : (place : ℕ) → s.stage ≡ ReadingStatus place → (a : Answer) → answer_of r ≡ a
      → Row s r (with_function_status_answered s place r a)
  unfolding with_function_status_answered with_status_answered with_reply answer_of
  status-row place at Accepted is =
      read-row place (ap reads_stop at) (option_and_then status_lwp (bytes_in r))
      (λ own. subst (OwnFaultRead s r) (sym at) own) (λ own. subst (OwnFaultRead s r) at own)
      (ap (with_status_answered (ordinary s) place r) (sym is) ∙ fed-at s r (ReadingStatus place) at)
      (ap (with_stop_read (ordinary s) place) (sym no-status)
      ∙ fed-at s (reply.Bytes []) (ReadingStatus place) at)
      (option_and_then status_lwp (bytes_in r)) refl
  status-row place at Interrupted is =
      as-fed (ReadingStatus place) at
      (status-refused place (λ took. let d : Interrupted ≡ Accepted = sym is ∙ took in cc)) _
      (ap (with_status_answered s place r) (sym is))
  status-row place at Gone is =
      as-fed (ReadingStatus place) at
      (status-refused place (λ took. let d : Gone ≡ Accepted = sym is ∙ took in cc)) _
      (ap (with_status_answered s place r) (sym is))
  status-row place at (Refused errno) is =
      as-fed (ReadingStatus place) at
      (status-refused place (λ took. let d : Refused errno ≡ Accepted = sym is ∙ took in cc)) _
      (ap (with_status_answered s place r) (sym is))

  lwps-row : s.stage ≡ ReadingLwps → (a : Answer) → answer_of r ≡ a → Row s r (with_function_lwps_answered s r a)
  unfolding with_function_lwps_answered with_lwps_answered with_reply answer_of with_lifts
  lwps-row at Accepted is =
      read-row 0 (ap reads_stop at) (slice_get (event_stops (bytes_in r)) 0)
      (λ own. subst (OwnFaultRead s r) (sym at) own) (λ own. subst (OwnFaultRead s r) at own)
      (ap (with_lwps_answered (ordinary s) r) (sym is) ∙ fed-at s r ReadingLwps at)
      (ap (with_stop_read (ordinary s) 0) (sym no-lwps) ∙ fed-at s (reply.Bytes []) ReadingLwps at)
      (slice_get (event_stops (bytes_in r)) 0) refl
  lwps-row at Gone is =
      as-fed ReadingLwps at (lwps-refused (λ took. let d : Gone ≡ Accepted = sym is ∙ took in cc)) _
      (ap (with_lwps_answered s r) (sym is))
  lwps-row at Interrupted is = record {
    step = feeds none
        (untold ReadingLwps at (lwps-refused (λ took. let d : Interrupted ≡ Accepted = sym is ∙ took in cc)))
        (ap (with_lwps_answered (ordinary s) r) (sym is) ∙ fed-at s r ReadingLwps at);
    fits =
        patch-fits 0 no_functions (marks_at s 0).planted false (Closing 0 GoOn) (lift-fits 0 (Closing 0 GoOn) refl);
    grows = grown-same s.reports;
  }
  lwps-row at (Refused errno) is = record {
    step = feeds none
        (untold ReadingLwps at (lwps-refused (λ took. let d : Refused errno ≡ Accepted = sym is ∙ took in cc)))
        (ap (with_lwps_answered (ordinary s) r) (sym is) ∙ fed-at s r ReadingLwps at);
    fits =
        patch-fits 0 no_functions (marks_at s 0).planted false (Closing 0 GoOn) (lift-fits 0 (Closing 0 GoOn) refl);
    grows = grown-same s.reports;
  }

  -- ---- memory for a line

  text-looked : (place : ℕ) (l : LwpStatus) (u : TrussState) (a : Answer) → u.options.follow ≡ false
      → u.leaving ≡ true → a ≢ Gone → IsLookedAt place (after_text u place l a).stage
  unfolding after_text
  text-looked place l u Accepted still on more = let over = event-over u place l still in over.looked
  text-looked place l u (Refused errno) still on more = let over = event-over u place l still in over.looked
  text-looked place l u Gone still on more = absurd (more refl)
  text-looked place l u Interrupted still on more =
      let over = event-over u place l still in
      subst (λ b. IsLookedAt place (cond b (with_event_over u place l) (with_interrupt (with_stop_seen u place))).stage)
      (sym on) over.looked

  text-row : (place : ℕ) (l : LwpStatus) (from len : ℕ) → s.stage ≡ ReadingText place l from len
      → Row s r (with_function_text_answered s place l len r)
  unfolding with_function_text_answered with_text_answered with_event_shown with_reply with_lifts
  text-row place l from len at = by (answer_of r) refl
    where
      v : TrussState
      v = with_text_answered s place l len r

      text-grown : Grown s.reports v.reports
      text-grown = reply-grown s r (ReadingText place l from len) at

      same : Row s r v
      same = as-fed (ReadingText place l from len) at (λ own. own) v refl

      fed_so : ordinary v ≡ fed (ordinary s) r
      fed_so = text s place l len r ∙ fed-at s r (ReadingText place l from len) at

      left : answer_of r ≢ Gone → (b : Bool) → s.leaving ≡ b → Row s r (cond b (with_lifts v place false) v)
      left more true on = record {
        step = feeds none (untold (ReadingText place l from len) at (λ own. own)) fed_so;
        fits = patch-fits place no_functions (marks_at v place).planted false v.stage
            (lift-fits place v.stage
            (text-looked place l (with_event_shown s place l (text_of len (bytes_in r))) (answer_of r) off on more));
        grows = text-grown;
      }
      left more false on = same

      by : (a : Answer) → answer_of r ≡ a → Row s r (after_function_text s v place a)
      by Gone is = same
      by Accepted is = left (λ gone. let d : Accepted ≡ Gone = sym is ∙ gone in cc) s.leaving refl
      by Interrupted is = left (λ gone. let d : Interrupted ≡ Gone = sym is ∙ gone in cc) s.leaving refl
      by (Refused errno) is = left (λ gone. let d : Refused errno ≡ Gone = sym is ∙ gone in cc) s.leaving refl

  -- ---- PCRUN, and leaving

  ran-row : (place : ℕ) → s.stage ≡ Running place → (a : Answer) → answer_of r ≡ a
      → Row s r (with_run_answered (with_marks s place (record (marks_at s place) { flags = 0 })) place a)
  unfolding with_reply
  ran-row place at a is =
      let m : Marks = record (marks_at s place) { flags = 0 } in
      let u : TrussState = with_marks s place m in
      let v : TrussState = with_run_answered u place a in
      let stays : v.aside ≡ u.aside =
      ap (λ x. (with_run_answered u place x).aside) (sym is) ∙ reply-aside u r (Running place) at in
      record {
        step = feeds none (untold (Running place) at (λ own. own))
            (run u place a ∙ ap (λ w. with_run_answered w place a) (marked s place m)
            ∙ ap (with_run_answered (ordinary s) place) (sym is) ∙ fed-at s r (Running place) at);
        fits = none-fits v (stays ∙ none);
        grows = subst (λ x. Grown s.reports (with_run_answered u place x).reports) is
            (reply-grown u r (Running place) at);
      }

  run-row : (place : ℕ) → s.stage ≡ Running place → (a : Answer) → answer_of r ≡ a
      → Row s r (with_function_run_answered s place a)
  unfolding with_function_run_answered with_reply
  run-row place at Interrupted is = as-fed (Running place) at (λ own. own) _ (ap (with_run_answered s place) (sym is))
  run-row place at Accepted is = ran-row place at Accepted is
  run-row place at Gone is = ran-row place at Gone is
  run-row place at (Refused errno) is = ran-row place at (Refused errno) is

  halt-row : s.stage ≡ Unfollowing → (a : Answer) → answer_of r ≡ a → Row s r (with_halt_answered s r a)
  unfolding with_halt_answered with_unfollowed with_reply
  halt-row at Accepted is = record {
    step = feeds none (untold Unfollowing at (λ own. own))
        (ap (with_unfollowed (ordinary s)) (sym is) ∙ fed-at s r Unfollowing at);
    fits = refl;
    grows = grown-same s.reports;
  }
  halt-row at Interrupted is = record {
    step = feeds none (untold Unfollowing at (λ own. own))
        (ap (with_unfollowed (ordinary s)) (sym is) ∙ fed-at s r Unfollowing at);
    fits = refl;
    grows = grown-same s.reports;
  }
  halt-row at (Refused errno) is = as-fed Unfollowing at (λ own. own) _ (ap (with_unfollowed s) (sym is))
  halt-row at Gone is = as-fed Unfollowing at (λ own. own) _ (ap (with_unfollowed s) (sym is))

  pub stage-row : (stage : Stage) → s.stage ≡ stage → Row s r (with_function_reply s r stage)
  unfolding with_function_reply
  stage-row (Opening place now) at = opening-row place now at (answer_of r) refl
  stage-row (ReadingStatus place) at = status-row place at (answer_of r) refl
  stage-row (ReadingText place l from len) at = text-row place l from len at
  stage-row (Running place) at = run-row place at (answer_of r) refl
  stage-row Unfollowing at = halt-row at (answer_of r) refl
  stage-row ReadingLwps at = lwps-row at (answer_of r) refl
  stage-row stage at = as-fed stage at (λ own. own) _ refl
