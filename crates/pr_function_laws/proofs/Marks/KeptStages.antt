use Rattle.std.proofs.Common.{◌≡◌, ◌≢◌, ◌<◌, ◌++◌, ℕ, Bool, true, false, cond, nat_lt, Option, Some, None, List, [], ◌∷◌, length, position, refl, sym, subst, ap, ◌∙◌, arith}
use Rattle.std.proofs.lemmas.List.{get_or_push, length-append, length-set}
use Rattle.std.proofs.lemmas.Option.{none-some}
use Rattle.std.specs.List.{slice_set}
use Rattle.std.specs.Option.{option_and_then}
use Rattle.pr_model.specs.Replies.{bytes_in, handle_in}
use Rattle.pr_model.specs.declared.calls.Reply.{Reply}
use Rattle.pr_num.proofs.TableLemmas.{position-within}
use Rattle.pr_num.specs.declared.errnos.Errno.{Errno}
use Rattle.pr_num.specs.declared.errnos.Errno.TheVariants.{Noent}
use Rattle.pr_rec.specs.declared.lwps.LwpStatus.{LwpStatus}
use Rattle.pr_report_laws.proofs.Invariant.StandLemmas.{Each, EachBut, but-append, but-set, each-remove, each-set}
use Rattle.pr_truss.specs.Asides.{marks_at, patching, with_aside, with_lifts}
use Rattle.pr_truss.specs.Closings.{after_closing, closed_or_removed, with_closed, with_closing, with_going_on, with_next_opening}
use Rattle.pr_truss.specs.Feeding.{with_reply}
use Rattle.pr_truss.specs.FunctionFeeding.{with_function_reply, with_function_step_answered, with_functions_begun, with_next_function, with_refused_opening}
use Rattle.pr_truss.specs.FunctionStops.{after_function_text, with_function_run_answered, with_function_status_answered, with_function_stop_read, with_function_text_answered}
use Rattle.pr_truss.specs.Marks.{no_functions}
use Rattle.pr_truss.specs.Openings.{at_step, learnt, pid_in, step_after, with_control, with_control_answered, with_refused_control, with_refused_start, with_refused_step, with_start_answered, with_step_done}
use Rattle.pr_truss.specs.Processes.{newly_traced, without_last}
use Rattle.pr_truss.specs.Records.{status_lwp}
use Rattle.pr_truss.specs.Replies.{answer_of, ready_in}
use Rattle.pr_truss.specs.Stops.{after_text, has_control, text_of, with_event_over, with_event_shown, with_poll_answered, with_polled, with_run_answered, with_status_answered, with_stop_over, with_text_answered}
use Rattle.pr_truss.specs.Trusses.{TrussState, nobody, traced_at, with_report, with_stage, with_traced, without_traced}
use Rattle.pr_truss.specs.declared.asides.Aside.{Aside}
use Rattle.pr_truss.specs.declared.asides.Aside.TheVariants.{Nothing, Reading}
use Rattle.pr_truss.specs.declared.processes.Traced.{Traced}
use Rattle.pr_truss.specs.declared.replies.Answer.{Answer}
use Rattle.pr_truss.specs.declared.replies.Answer.TheVariants.{Accepted, Interrupted, Gone, Refused}
use Rattle.pr_truss.specs.declared.reports.Report.{Report}
use Rattle.pr_truss.specs.declared.stages.AfterClosing.TheVariants.{OpenNext, GoOn}
use Rattle.pr_truss.specs.declared.stages.OpeningStep.{OpeningStep}
use Rattle.pr_truss.specs.declared.stages.OpeningStep.TheVariants as opening
use Rattle.pr_truss.specs.declared.stages.Stage.{Stage}
use Rattle.pr_truss.specs.declared.stages.Stage.TheVariants.{Spawning, OpeningControl, Opening, Polling, ReadingStatus, ReadingText, Running, Closing, Finished}
use Rattle.pr_truss_laws.proofs.Files.HeldLemmas.{at_place, set-at}
use Rattle.pr_function_laws.proofs.Marks.KeptPlaces.{AfterStage, Apart, AtAside, AtPlace, AtStage, IsLastingWhere, Kept, LeftHas, Position, Whole, apart-append, apart-remove, apart-set, closes, looks, opens, to_read, position_after, rests, subject, subject_of, unflagged}
use Rattle.pr_function_laws.proofs.Marks.KeptStops as stops-of

-- What is so of each process stays so at the reply to the call of a stage: a row a stage, and the opening of a process.

module _ (P : Position → Traced → Type 0) (Seen : Traced → Type 0) (Touched : ℕ → Type 0)
    (lasting : IsLastingWhere P Seen Touched) where
  abbrev Full : (u : TrussState) → Type 0
  Full = stops-of.Full P Seen Touched lasting

  abbrev Base : (q : ℕ) (u : TrussState) → Type 0
  Base = stops-of.Base P Seen Touched lasting

  abbrev KeptAt : (q : ℕ) (u : TrussState) → Type 0
  KeptAt = stops-of.KeptAt P Seen Touched lasting

  abbrev to : (u : TrussState) (stage : Stage) → Full u → AtStage P u.traced stage → Kept P (with_stage u stage)
  to = stops-of.to P Seen Touched lasting

  abbrev told : (q : ℕ) (u : TrussState) (report : Report) → Base q u → Base q (with_report u report)
  told = stops-of.told P Seen Touched lasting

  abbrev over-kept : (q : ℕ) (u : TrussState) → Base q u → KeptAt q (with_stop_over u q)
  over-kept = stops-of.over-kept P Seen Touched lasting

  abbrev event-over-kept : (q : ℕ) (u : TrussState) (l : LwpStatus) → Base q u → KeptAt q (with_event_over u q l)
  event-over-kept = stops-of.event-over-kept P Seen Touched lasting

  abbrev beside-kept : (q : ℕ) (u : TrussState) (a : Aside) → AtAside P u.traced a → KeptAt q u
      → KeptAt q (with_aside u a)
  beside-kept = stops-of.beside-kept P Seen Touched lasting

  abbrev patching-at : (q : ℕ) (ts : List Traced) (plants lifts : List Bool) → AtPlace P ts q
      → AtAside P ts (patching q plants lifts false)
  patching-at = stops-of.patching-at P Seen Touched lasting

  abbrev read-kept : (q : ℕ) (u : TrussState) (l : Option LwpStatus) → Seen (traced_at u q) → Base q u
      → KeptAt q (with_function_stop_read u q l)
  read-kept = stops-of.read-kept P Seen Touched lasting

  abbrev closing-kept : (q : ℕ) (u : TrussState) → Base q u → KeptAt q (with_closing u q)
  closing-kept = stops-of.closing-kept P Seen Touched lasting

  abbrev going-kept : (u : TrussState) → Full u → Kept P (with_going_on u)
  going-kept = stops-of.going-kept P Seen Touched lasting

  abbrev opening-kept : (u : TrussState) → Full u → Kept P (with_next_opening u)
  opening-kept = stops-of.opening-kept P Seen Touched lasting

  -- ---- the replies

  module _ (t : TrussState) (r : Reply) (follow : t.options.follow ≡ false) (off : t.leaving ≡ false)
      (apart : Apart t.traced) (calm : answer_of r ≢ Interrupted)
      (seen : (q : ℕ) → t.aside ≡ Nothing → t.stage ≡ ReadingStatus q → Seen (traced_at t q))
      (touched : (q : ℕ) → subject t.stage t.aside ≡ Some q → Touched (traced_at t q).pid) where
    -- the subject of a stage, where nothing is done beside it
    stage-touched : t.aside ≡ Nothing → (stage : Stage) → t.stage ≡ stage → (q : ℕ) → subject_of stage ≡ Some q
        → Touched (traced_at t q).pid
    stage-touched idle stage is q its =
        touched q (ap (subject t.stage) idle ∙ ap subject_of is ∙ its)

    module _ (idle : t.aside ≡ Nothing) where
      full : Whole P t.traced → Full t
      full all = record { follow = follow; off = off; all = all; idle = idle; apart = apart }

      base : (q : ℕ) → Touched (traced_at t q).pid
          → (q < length t.traced) × (Whole P t.traced × P looks (at_place t.traced q)) → Base q t
      base q its here = record { full = full here.1.0; here = here.0; sees = here.1.1; touched = its }

      -- where the status is read that a poll named
      named-base : (q : ℕ) → Seen (traced_at t q) → Touched (traced_at t q).pid
          → (q < length t.traced) × (Whole P t.traced × P to_read (at_place t.traced q)) → Base q t
      named-base q its touched_it here = record {
        full = full here.1.0;
        here = here.0;
        touched = touched_it;
        sees = lasting.reads (traced_at t q) its (here.1.0 q here.0) here.1.1;
      }

      reported : (report : Report) → Whole P t.traced → Full (with_report t report)
      reported report all = record { follow = follow; off = off; all = all; idle = idle; apart = apart }

      nothing : AtAside P t.traced t.aside
      nothing = subst (AtAside P t.traced) (sym idle) tt

      -- the process of a program
      start-kept : (program : List ℕ) (a : Answer) → a ≢ Interrupted → Whole P t.traced
          → Kept P (with_start_answered t program r a)
      unfolding with_start_answered with_refused_start
      start-kept program Accepted other all = to t (OpeningControl (pid_in r)) (full all) all
      start-kept program (Refused errno) other all = going-kept _ (reported _ all)
      start-kept program Gone other all = going-kept _ (reported _ all)
      start-kept program Interrupted other all = absurd (other refl)

      -- a control file
      opened-kept : (pid : ℕ) → Whole P t.traced → P (opens opening.OpenStatus) (newly_traced pid (handle_in r))
          → Each (λ (u : Traced). u.pid ≢ pid) t.traced → Kept P (with_control t pid (handle_in r))
      unfolding with_control newly_traced
      opened-kept pid all has fresh =
          let u : Traced = newly_traced pid (handle_in r) in
          let last : at_place (t.traced ++ u ∷ []) (length t.traced) ≡ u =
          get_or_push t.traced u nobody (length t.traced) refl in
          record {
            follow = follow;
            off = off;
            stage = (
              omega (arith, length-append t.traced (u ∷ [])),
              (
                but-append (P rests) t.traced u all,
                subst (P (opens opening.OpenStatus)) (sym last) has,
              ),
            );
            beside = subst (AtAside P (t.traced ++ u ∷ [])) (sym idle) tt;
            apart = apart-append t.traced u fresh apart;
          }

      control-kept : (pid : ℕ) (a : Answer) → a ≢ Interrupted → Whole P t.traced
          → (a ≡ Accepted
          → P (opens opening.OpenStatus) (newly_traced pid (handle_in r)) × Each (λ (u : Traced). u.pid ≢ pid) t.traced)
          → Kept P (with_control_answered t pid r a)
      unfolding with_control_answered with_refused_control
      control-kept pid Accepted other all new = let it = new refl in opened-kept pid all it.0 it.1
      control-kept pid (Refused errno) other all new = opening-kept _ (reported _ all)
      control-kept pid Gone other all new = opening-kept _ (reported _ all)
      control-kept pid Interrupted other all new = absurd (other refl)

      -- a poll
      polled : (place : Option ℕ)
          → ((q : ℕ) → place ≡ Some q → (q < length t.traced) × P to_read (at_place t.traced q)) → t.stage ≡ Polling
          → Whole P t.traced → Kept P (with_polled t place)
      polled None named is all = record {
        follow = follow;
        off = off;
        stage = subst (AtStage P t.traced) (sym is) all;
        beside = nothing;
        apart = apart;
      }
      polled (Some q) named is all =
          let it = named q refl in to t (ReadingStatus q) (full all) (it.0, (all, it.1))

      -- what a poll finds ready is seen
      abbrev Finds : Type 0
      Finds =
          (handle q : ℕ) → ready_in r ≡ Some handle → position (has_control handle) t.traced ≡ Some q
          → P to_read (at_place t.traced q)

      poll-named : Finds → (handle : Option ℕ) → ready_in r ≡ handle → (q : ℕ)
          → option_and_then (λ h. position (has_control h) t.traced) handle ≡ Some q
          → (q < length t.traced) × P to_read (at_place t.traced q)
      poll-named finds None ready q is = absurd (none-some q is)
      poll-named finds (Some h) ready q is = (position-within (has_control h) t.traced q is, finds h q ready is)

      same-poll : t.stage ≡ Polling → Whole P t.traced → Kept P t
      same-poll is all = polled None (λ q it. absurd (none-some q it)) is all

      poll-kept : (a : Answer) → a ≢ Interrupted → t.stage ≡ Polling → Whole P t.traced → (a ≡ Accepted → Finds)
          → Kept P (with_poll_answered t r a)
      unfolding with_poll_answered
      poll-kept Accepted other is all finds =
          polled (option_and_then (λ h. position (has_control h) t.traced) (ready_in r))
          (poll-named (finds refl) (ready_in r) refl) is all
      poll-kept (Refused errno) other is all finds = same-poll is all
      poll-kept Gone other is all finds = same-poll is all
      poll-kept Interrupted other is all finds = absurd (other refl)

      -- a status, and memory
      status-kept : (q : ℕ) (a : Answer) → a ≢ Interrupted → Seen (traced_at t q) → Base q t
          → KeptAt q (with_function_status_answered t q r a)
      unfolding with_function_status_answered with_status_answered
      status-kept q Accepted other seen b = read-kept q t (option_and_then status_lwp (bytes_in r)) seen b
      status-kept q (Refused errno) other seen b = over-kept q t b
      status-kept q Gone other seen b = closing-kept q t b
      status-kept q Interrupted other seen b = absurd (other refl)

      after-text-kept : (q : ℕ) (l : LwpStatus) (u : TrussState) (a : Answer) → a ≢ Interrupted → Base q u
          → KeptAt q (after_text u q l a)
      unfolding after_text
      after-text-kept q l u Accepted other b = event-over-kept q u l b
      after-text-kept q l u (Refused errno) other b = event-over-kept q u l b
      after-text-kept q l u Gone other b = closing-kept q u b
      after-text-kept q l u Interrupted other b = absurd (other refl)

      text-kept : (q : ℕ) (l : LwpStatus) (len : ℕ) (a : Answer) → a ≢ Interrupted → Base q t
          → KeptAt q (after_text (with_event_shown t q l (text_of len (bytes_in r))) q l a)
      unfolding with_event_shown
      text-kept q l len a other b = after-text-kept q l _ a other (told q t _ b)

      function-text-kept : (q : ℕ) (u : TrussState) (a : Answer) → Kept P u → Kept P (after_function_text t u q a)
      function-text-kept q u Gone it = it
      function-text-kept q u _ it = subst (Kept P) (sym (ap (λ b. cond b (with_lifts u q false) u) off)) it

      -- PCRUN
      run-full : (q : ℕ) → q < length t.traced → EachBut (P rests) t.traced q → P rests (unflagged (traced_at t q))
          → Full (with_traced t q (unflagged (traced_at t q)))
      run-full q within others has = record {
        follow = follow;
        off = off;
        all = each-set (P rests) t.traced q (unflagged (traced_at t q)) within others has;
        idle = idle;
        apart = apart-set t.traced q (unflagged (traced_at t q)) within refl apart;
      }

      run-gone : (q : ℕ) → q < length t.traced → EachBut (P rests) t.traced q → P closes (traced_at t q)
          → Kept P (with_closing (with_traced t q (unflagged (traced_at t q))) q)
      run-gone q within others has =
          let v : Traced = unflagged (traced_at t q) in
          record {
            follow = follow;
            off = off;
            stage = (
              omega (arith, within, length-set t.traced q v),
              (
                but-set (P rests) t.traced q v others,
                subst (P closes) (sym (set-at t.traced q v within)) (lasting.loosens (traced_at t q) _ has),
              ),
            );
            beside = subst (AtAside P (slice_set t.traced q v)) (sym idle) tt;
            apart = apart-set t.traced q v within refl apart;
          }

      run-kept : (q : ℕ) (a : Answer) → answer_of r ≡ a → AfterStage P t r (Running q)
          → Kept P (with_function_run_answered t q a)
      unfolding with_function_run_answered with_run_answered
      run-kept q Accepted is w =
          going-kept _ (run-full q w.0 w.1.0 (w.1.1.1 (λ gone. let e = sym gone ∙ is in cc)))
      run-kept q (Refused errno) is w =
          going-kept _ (run-full q w.0 w.1.0 (w.1.1.1 (λ gone. let e = sym gone ∙ is in cc)))
      run-kept q Gone is w = run-gone q w.0 w.1.0 w.1.1.0
      run-kept q Interrupted is w = absurd (calm is)

      -- a file is closed
      removed : (q : ℕ) → q < length t.traced → EachBut (P rests) t.traced q → Full (without_traced t q)
      removed q within others = record {
        follow = follow;
        off = off;
        all = each-remove (P rests) t.traced q within others;
        idle = idle;
        apart = apart-remove t.traced q within apart;
      }

      left-kept : (q : ℕ) (v : Traced) → q < length t.traced → EachBut (P rests) t.traced q
          → P closes v → v.pid ≡ (traced_at t q).pid
          → AtStage P (slice_set t.traced q v) t.stage → Kept P (with_traced t q v)
      left-kept q v within others has same stage = record {
        follow = follow;
        off = off;
        stage = stage;
        beside = subst (AtAside P (slice_set t.traced q v)) (sym idle) tt;
        apart = apart-set t.traced q v within same apart;
      }

      left-place : (q : ℕ) (v : Traced) → q < length t.traced → EachBut (P rests) t.traced q
          → P closes v → AtPlace P (slice_set t.traced q v) q
      left-place q v within others has = (
        omega (arith, within, length-set t.traced q v),
        (
          but-set (P rests) t.traced q v others,
          subst (P closes) (sym (set-at t.traced q v within)) has,
        ),
      )

      closed-next : (q : ℕ) → t.stage ≡ Closing q OpenNext → (v : Option Traced) → q < length t.traced
          → EachBut (P rests) t.traced q → LeftHas P v (traced_at t q).pid
          → Kept P (closed_or_removed t q OpenNext v)
      unfolding after_closing
      closed-next q is None within others left = opening-kept (without_traced t q) (removed q within others)
      closed-next q is (Some v) within others left =
          left-kept q v within others left.0 left.1
          (subst (AtStage P (slice_set t.traced q v)) (sym is) (left-place q v within others left.0))

      closed-on : (q : ℕ) → t.stage ≡ Closing q GoOn → (v : Option Traced) → q < length t.traced
          → EachBut (P rests) t.traced q → LeftHas P v (traced_at t q).pid
          → Kept P (closed_or_removed t q GoOn v)
      unfolding after_closing
      closed-on q is None within others left = going-kept (without_traced t q) (removed q within others)
      closed-on q is (Some v) within others left =
          left-kept q v within others left.0 left.1
          (subst (AtStage P (slice_set t.traced q v)) (sym is) (left-place q v within others left.0))

    -- ---- the opening of a process

    pub next-function : (q function : ℕ) (u : TrussState) → Kept P u → AtPlace P u.traced q
        → Kept P (with_next_function u q function)
    unfolding with_next_function
    next-function q function u w here =
        elim (nat_lt function (length u.options.functions))
        as (λ b. Kept P (cond b (with_aside u (Reading q function)) (with_aside u Nothing))) [
          | true ↦ record { follow = w.follow; off = w.off; stage = w.stage; beside = here; apart = w.apart }
          | false ↦ record { follow = w.follow; off = w.off; stage = w.stage; beside = tt; apart = w.apart }
        ]

    begun-kept : (q : ℕ) (step : OpeningStep) (u : TrussState) → Kept P u
        → (step ≡ opening.TraceExits → AtPlace P u.traced q) → Kept P (with_functions_begun u q step)
    begun-kept q opening.TraceExits u w here = next-function q 0 u w (here refl)
    begun-kept q _ u w here = w

    -- a refusal: the files of the process are closed
    pub refused-kept : (q : ℕ) (u : TrussState) (errno : Errno) → u.options.follow ≡ false → u.leaving ≡ false
        → u.aside ≡ Nothing → Apart u.traced → AtPlace P u.traced q → KeptAt q (with_refused_step u q errno)
    unfolding with_refused_step
    refused-kept q u errno its_follow its_off its_idle its_apart here = record {
      kept = record {
        follow = its_follow;
        off = its_off;
        stage = here;
        beside = subst (AtAside P u.traced) (sym its_idle) tt;
        apart = its_apart;
      };
      here = here;
    }

    lifted : (q : ℕ) (u : TrussState) → KeptAt q u → Kept P (with_lifts u q false)
    unfolding with_lifts
    lifted q u w =
        let it = beside-kept q u _ (patching-at q u.traced no_functions (marks_at u q).planted w.here) w in
        it.kept

    pub refused-opening : (q : ℕ) (u : TrussState) (errno : Errno) → u.options.follow ≡ false → u.leaving ≡ false
        → u.aside ≡ Nothing → Apart u.traced → AtPlace P u.traced q → Kept P (with_refused_opening u q errno)
    unfolding with_refused_opening
    refused-opening q u errno its_follow its_off its_idle its_apart here =
        lifted q _ (refused-kept q u errno its_follow its_off its_idle its_apart here)

    learnt-pid : (u : Traced) (step : OpeningStep) → (learnt u r step).pid ≡ u.pid
    unfolding learnt
    learnt-pid u opening.OpenStatus = refl
    learnt-pid u opening.OpenLstatus = refl
    learnt-pid u opening.OpenMemory = refl
    learnt-pid u (opening.AwaitStop until) = refl
    learnt-pid u opening.ReadLwps = refl
    learnt-pid u _ = refl

    module _ (idle : t.aside ≡ Nothing) (q : ℕ) (step : OpeningStep) (within : q < length t.traced)
        (others : EachBut (P rests) t.traced q) (its : Touched (traced_at t q).pid) where
      abbrev now : Traced
      now = learnt (traced_at t q) r step

      abbrev later : List Traced
      later = slice_set t.traced q now

      later-within : q < length later
      later-within = omega (arith, within, length-set t.traced q now)

      later-place : (next : Option OpeningStep) → P (position_after next) now → AtPlace P later q
      later-place next has = (
        later-within,
        (
          but-set (P rests) t.traced q now others,
          subst (P closes) (sym (set-at t.traced q now within)) (lasting.may_close (position_after next) now
              (subst Touched (sym (learnt-pid (traced_at t q) step)) its) has),
        ),
      )

      done-kept : (next : Option OpeningStep) → P (position_after next) now
          → Kept P (at_step (with_traced t q now) q next)
      done-kept None has =
          opening-kept (with_traced t q now) (record {
            follow = follow;
            off = off;
            all = each-set (P rests) t.traced q now within others has;
            idle = idle;
            apart = apart-set t.traced q now within (learnt-pid (traced_at t q) step) apart;
          })
      done-kept (Some next) has = record {
        follow = follow;
        off = off;
        stage = (
          later-within,
          (
            but-set (P rests) t.traced q now others,
            subst (P (opens next)) (sym (set-at t.traced q now within)) has,
          ),
        );
        beside = subst (AtAside P later) (sym idle) tt;
        apart = apart-set t.traced q now within (learnt-pid (traced_at t q) step) apart;
      }

    exits-place : (idle : t.aside ≡ Nothing) (q : ℕ) (step : OpeningStep) → (within : q < length t.traced)
        → (others : EachBut (P rests) t.traced q) → Touched (traced_at t q).pid
        → P (position_after (step_after t.options r step)) (learnt (traced_at t q) r step) → step ≡ opening.TraceExits
        → AtPlace P (with_step_done t q r step).traced q
    unfolding with_step_done step_after
    exits-place idle q opening.TraceExits within others its has is =
        later-place idle q opening.TraceExits within others its (step_after t.options r opening.TraceExits) has
    exits-place idle q _ within others its has is = cc

    step-kept : (idle : t.aside ≡ Nothing) (q : ℕ) (step : OpeningStep) (a : Answer) → a ≢ Interrupted
        → (within : q < length t.traced) → (others : EachBut (P rests) t.traced q) → Touched (traced_at t q).pid
        → P closes (traced_at t q)
        → (a ≡ Accepted → P (position_after (step_after t.options r step)) (learnt (traced_at t q) r step))
        → Kept P (with_function_step_answered t q step r a)
    unfolding with_function_step_answered with_step_done
    step-kept idle q step Accepted other within others its has learns =
        begun-kept q step _ (done-kept idle q step within others its (step_after t.options r step) (learns refl))
        (λ is. exits-place idle q step within others its (learns refl) is)
    step-kept idle q step (Refused errno) other within others its has learns =
        refused-opening q t errno follow off idle apart (within, (others, has))
    step-kept idle q step Gone other within others its has learns =
        let it =
        refused-kept q t Noent follow off idle apart (within, (others, has)) in
        it.kept
    step-kept idle q step Interrupted other within others its has learns = absurd (other refl)

    -- ---- a row a stage

    pub stage-kept : (idle : t.aside ≡ Nothing) (stage : Stage) → t.stage ≡ stage → AfterStage P t r stage
        → Kept P (with_function_reply t r stage)
    unfolding with_function_reply with_reply with_function_text_answered with_text_answered with_closed
    stage-kept idle (Spawning program) is all = start-kept idle program (answer_of r) calm all
    stage-kept idle (OpeningControl pid) is w = control-kept idle pid (answer_of r) calm w.0 w.1
    stage-kept idle (Opening q step) is w =
        step-kept idle q step (answer_of r) calm w.0 w.1.0 (stage-touched idle (Opening q step) is q refl) w.1.1.0
        w.1.1.1
    stage-kept idle Polling is w = poll-kept idle (answer_of r) calm is w.0 w.1
    stage-kept idle (ReadingStatus q) is w =
        let its = seen q idle is in
        let it = status-kept idle q (answer_of r) calm its (named-base idle q its
        (stage-touched idle (ReadingStatus q) is q refl) w) in it.kept
    stage-kept idle (ReadingText q l from len) is w =
        let it = text-kept idle q l len (answer_of r) calm
        (base idle q (stage-touched idle (ReadingText q l from len) is q refl) w) in
        function-text-kept idle q _ (answer_of r) it.kept
    stage-kept idle (Running q) is w = run-kept idle q (answer_of r) refl w
    stage-kept idle (Closing q OpenNext) is w =
        closed-next idle q is (without_last (traced_at t q)) w.0 w.1.0 w.1.1
    stage-kept idle (Closing q GoOn) is w = closed-on idle q is (without_last (traced_at t q)) w.0 w.1.0 w.1.1
    stage-kept idle Finished is all = record {
      follow = follow;
      off = off;
      stage = subst (AtStage P t.traced) (sym is) all;
      beside = nothing idle;
      apart = apart;
    }
    stage-kept idle _ is w = absurd w
