use Rattle.std.proofs.Common.{◌≡◌, ◌≢◌, ◌||◌, ℕ, false, cond, is_some, Option, Some, None, List, [], refl, sym, subst, ap, ◌∙◌}
use Rattle.std.proofs.lemmas.Bool.{false≢true}
use Rattle.std.proofs.lemmas.Option.{none-some, same_Some}
use Rattle.pr_line.specs.declared.options.Options.{Options}
use Rattle.pr_model.specs.Calls.{Answer}
use Rattle.pr_model.specs.State.{TracedState}
use Rattle.pr_model.specs.declared.calls.Call.{Call}
use Rattle.pr_model.specs.declared.calls.Call.TheVariants as call
use Rattle.pr_model.specs.declared.calls.Reply.{Reply}
use Rattle.pr_num.specs.Limits.{instruction_size}
use Rattle.pr_num.specs.Messages.{first_message, message_code, message_read, nth_word, operands, spelling, two_words}
use Rattle.pr_num.specs.Words.{word_bytes, word_of}
use Rattle.pr_num.specs.declared.messages.Message.{Message}
use Rattle.pr_num.specs.declared.messages.Message.TheVariants as message
use Rattle.pr_report_laws.proofs.Invariant.StandLemmas.{Each}
use Rattle.pr_truss.specs.Closings.{with_closed}
use Rattle.pr_truss.specs.Feeding.{fed, with_reply}
use Rattle.pr_truss.specs.FunctionCalls.{call_beside, function_call_of, next_function_call_of, patch_call}
use Rattle.pr_truss.specs.FunctionFeeding.{fed_functions, with_aside_answered, with_function_reply}
use Rattle.pr_truss.specs.Marks.{address_of, breakpoint, code_of, first_function}
use Rattle.pr_truss.specs.NextCalls.{call_of, next_call_of, read_record}
use Rattle.pr_truss.specs.Processes.{without_last}
use Rattle.pr_truss.specs.Replies.{answer_of}
use Rattle.pr_truss.specs.Stops.{with_poll_answered, with_polled}
use Rattle.pr_truss.specs.Trusses.{TrussState, traced_at, with_stage}
use Rattle.pr_truss.specs.declared.asides.Aside.{Aside}
use Rattle.pr_truss.specs.declared.asides.Aside.TheVariants.{Nothing, Reading, Planting, Patching}
use Rattle.pr_truss.specs.declared.replies.Answer.{Answer as Told}
use Rattle.pr_truss.specs.declared.replies.Answer.TheVariants.{Accepted, Gone, Interrupted, Refused}
use Rattle.pr_truss.specs.declared.stages.AfterClosing.TheVariants.{GoOn, OpenNext}
use Rattle.pr_truss.specs.declared.stages.OpeningStep.{OpeningStep}
use Rattle.pr_truss.specs.declared.stages.OpeningStep.TheVariants as opening
use Rattle.pr_truss.specs.declared.stages.Stage.{Stage}
use Rattle.pr_truss.specs.declared.stages.Stage.TheVariants.{Spawning, OpeningControl, Opening, Polling, ReadingStatus, ReadingText, Running, Closing, Finished}
use Rattle.pr_truss_laws.proofs.Machine.TakenLemmas.{read-as}
use Rattle.pr_function_laws.proofs.Marks.KeptPlaces.{AtAside, AtStage}
use Rattle.pr_function_laws.proofs.OpenedProcesses.OpenedCalls.{IsSo, write-as}
use Rattle.pr_function_laws.proofs.OpenedProcesses.StoodCalls.{BeginLeavingLwps, leaves-as, leaves_lwps}
use Rattle.pr_function_laws.specs.Stretches.{acts_by}
use Rattle.pr_function_hides.proofs.Copying.CopyFeeds.{IsRestedSo, all-rest, idle-fed}
use Rattle.pr_function_hides.proofs.Copying.CopyLooking.{code-done, plant-done}
use Rattle.pr_function_hides.proofs.Copying.CopyOpening.{control-done, fits-idle, start-done, step-done}
use Rattle.pr_function_hides.proofs.Copying.CopyOwn.{OwnCall, all-rested, is-off, is-unfollowed, later}
use Rattle.pr_function_hides.proofs.Copying.CopyClosing.{close-done}
use Rattle.pr_function_hides.proofs.Copying.CopyPatching.{patch-done, text-done}
use Rattle.pr_function_hides.proofs.Copying.CopyPlaces.{CopiesSo, FitsSo, is_about}
use Rattle.pr_function_hides.proofs.Copying.CopyReading.{status-accepted, status-gone, status-refused}
use Rattle.pr_function_hides.proofs.Copying.CopyRunning.{run-done}

-- Each call of truss, and its reply, leaves the forks, vforks and execs of its processes as they are to stand.

-- ---- where truss looks at functions

-- they are looked at where a process is run next
started : (q b : ℕ) (step : OpeningStep) → (q ≡ b) × (step ≡ opening.Start) → Opening b step ≡ Opening q opening.Start
started q b step is = ap (λ x. Opening x step) (sym is.0) ∙ ap (λ x. Opening q x) is.1

reading-starts : (q function : ℕ) (stage : Stage) → FitsSo (Reading q function) stage
    → stage ≡ Opening q opening.Start
reading-starts q function (Opening b step) fits = started q b step fits
reading-starts q function _ fits = absurd fits

pub planting-starts : (q function : ℕ) (stage : Stage) → FitsSo (Planting q function) stage
    → stage ≡ Opening q opening.Start
planting-starts q function (Opening b step) fits = started q b step fits
planting-starts q function _ fits = absurd fits

-- ---- the messages by which truss reads and writes memory

read-leaves : (at size : ℕ) → BeginLeavingLwps (spelling (message.Read at size) [])
unfolding message_code operands nth_word word_bytes word_of message_read two_words
read-leaves at size =
    let bytes : List ℕ = spelling (message.Read at size) [] in
    let m : Message = message.Read (nth_word bytes 1) (nth_word bytes 2) in
    leaves-as m (first_message bytes) refl (read-as bytes m refl refl)

write-leaves : (at size : ℕ) (code : List ℕ) → BeginLeavingLwps (spelling (message.Write at size) code)
write-leaves at size code = write-as leaves_lwps (λ at size. refl) at size code

module _ {n k : ℕ} {o : Options} {t : TrussState} {s : TracedState} {c : Call} {a : Answer}
    (w : OwnCall n k o t s c a) where
  abbrev r : Reply
  r = let b : Answer = a in b.reply

  abbrev Done : TrussState → Type 0
  Done z = CopiesSo z (later w)

  abbrev At : Stage → Type 0
  At stage = AtStage (IsSo (Unit {0}) k t.options s) t.traced stage

  at-now : At t.stage
  at-now = let g = w.goes in let m = g.kept in m.stage

  -- ---- the call of a stage

  module _ (idle : t.aside ≡ Nothing) where
    abbrev Rested : Type 0
    Rested = Each (IsRestedSo (later w)) t.traced

    same-done : Rested → (z : TrussState) → z.traced ≡ t.traced → z.aside ≡ Nothing
        → ((place : ℕ) → is_about z.stage place ≡ false) → Done z
    same-done all z traced beside about =
        all-rest (later w) z about (fits-idle w z beside)
        (subst (λ us. Each (IsRestedSo (later w)) us) (sym traced) all)

    polled-done : t.stage ≡ Polling → Rested → (q : Option ℕ) → Done (with_polled t q)
    polled-done at all None =
        same-done all t refl idle (λ place. ap (λ (y : Stage). is_about y place) at)
    polled-done at all (Some q) = same-done all (with_stage t (ReadingStatus q)) refl idle (λ place. refl)

    poll-done : t.stage ≡ Polling → Rested → (told : Told) → told ≢ Interrupted → Done (with_poll_answered t r told)
    unfolding with_poll_answered
    poll-done at all Accepted other = polled-done at all _
    poll-done at all (Refused errno) other = polled-done at all None
    poll-done at all Gone other = polled-done at all None
    poll-done at all Interrupted other = absurd (other refl)

    fed-is : (stage : Stage) → t.stage ≡ stage → fed_functions t r ≡ with_function_reply t r stage
    fed-is stage at =
        idle-fed t r 0 w.has (is-off w) (is-unfollowed w) idle ∙ ap (with_function_reply t r) at

    about-none : (stage : Stage) → t.stage ≡ stage → ((place : ℕ) → is_about stage place ≡ false) → (place : ℕ)
        → is_about t.stage place ≡ false
    about-none stage at none place = ap (λ (y : Stage). is_about y place) at ∙ none place

    stage-done : (stage : Stage) → t.stage ≡ stage → At stage → function_call_of t stage ≡ Some c
        → Done (fed_functions t r)
    unfolding function_call_of call_of with_function_reply with_reply with_closed
    stage-done (Spawning program) at w_stage is =
        subst Done (sym (fed-is (Spawning program) at))
        (start-done w idle program (answer_of r) w.calm
        (all-rested w (about-none (Spawning program) at (λ place. refl)) (ap acts_by (sym (same_Some _ c is)))))
    stage-done (OpeningControl pid) at w_stage is =
        subst Done (sym (fed-is (OpeningControl pid) at))
        (control-done w idle pid (answer_of r) w.calm
        (all-rested w (about-none (OpeningControl pid) at (λ place. refl)) (ap acts_by (sym (same_Some _ c is)))))
    stage-done (Opening q step) at w_stage is =
        subst Done (sym (fed-is (Opening q step) at))
        (step-done w q w_stage.0 step at idle is (answer_of r) refl w.calm)
    stage-done Polling at w_stage is =
        subst Done (sym (fed-is Polling at))
        (poll-done at
        (all-rested w (about-none Polling at (λ place. refl)) (ap acts_by (sym (same_Some _ c is)))) (answer_of r)
        w.calm)
    stage-done (ReadingStatus q) at w_stage is = by (answer_of r) refl
      where
        sent : c ≡ read_record (traced_at t q).status
        sent = sym (same_Some _ c is)

        by : (told : Told) → answer_of r ≡ told → Done (fed_functions t r)
        by Accepted told = status-accepted w q w_stage.0 at idle sent told
        by (Refused errno) told = status-refused w q w_stage.0 at idle sent errno told
        by Gone told = status-gone w q w_stage.0 at idle sent told
        by Interrupted told = absurd (w.calm told)
    stage-done (ReadingText q l from len) at w_stage is =
        text-done w q w_stage.0 l from len at idle (ap acts_by (sym (same_Some _ c is)))
        (fed-is (ReadingText q l from len) at)
    stage-done (Running q) at w_stage is =
        subst Done (sym (fed-is (Running q) at))
        (run-done w q w_stage.0 at idle (sym (same_Some _ c is)) (answer_of r) refl w.calm)
    stage-done (Closing q OpenNext) at w_stage is =
        subst Done (sym (fed-is (Closing q OpenNext) at))
        (close-done w q w_stage.0 OpenNext at idle (sym (same_Some _ c is)) (let h = w_stage.1.1 in h.holds) w_stage
        (without_last (traced_at t q)) refl)
    stage-done (Closing q GoOn) at w_stage is =
        subst Done (sym (fed-is (Closing q GoOn) at))
        (close-done w q w_stage.0 GoOn at idle (sym (same_Some _ c is)) (let h = w_stage.1.1 in h.holds) w_stage
        (without_last (traced_at t q)) refl)
    stage-done Finished at w_stage is = absurd (none-some c is)
    stage-done _ at w_stage is = absurd w_stage

  -- ---- what comes before it

  aside-fed : (aside : Aside) → t.aside ≡ aside → fed_functions t r ≡ with_aside_answered t r aside
  unfolding fed_functions
  aside-fed aside beside =
      ap (λ b. cond b (with_aside_answered t r t.aside) (fed t r)) w.has ∙ ap (with_aside_answered t r) beside

  fits-now : (aside : Aside) → t.aside ≡ aside → FitsSo aside t.stage
  fits-now aside beside = let cs = w.copies in subst (λ x. FitsSo x t.stage) beside cs.fits

  beside-now : (aside : Aside) → t.aside ≡ aside → AtAside (IsSo (Unit {0}) k t.options s) t.traced aside
  beside-now aside beside =
      let g = w.goes in let m = g.kept in subst (AtAside (IsSo (Unit {0}) k t.options s) t.traced) beside m.beside

  aside-done : (aside : Aside) → t.aside ≡ aside → call_beside t t.stage aside ≡ Some c → Done (fed_functions t r)
  unfolding call_beside with_aside_answered
  aside-done Nothing beside is = stage-done beside t.stage refl at-now is
  aside-done (Reading q function) beside is =
      subst Done (sym (aside-fed (Reading q function) beside))
      (code-done w q (let b = beside-now (Reading q function) beside in b.0)
      (reading-starts q function t.stage (fits-now (Reading q function) beside)) _ (sym (same_Some _ c is))
      (read-leaves (address_of t.options function) instruction_size) function (answer_of r) refl w.calm)
  aside-done (Planting q function) beside is =
      subst Done (sym (aside-fed (Planting q function) beside))
      (plant-done w q (let b = beside-now (Planting q function) beside in b.0)
      (planting-starts q function t.stage (fits-now (Planting q function) beside)) _ (sym (same_Some _ c is))
      (write-leaves (address_of t.options function) instruction_size breakpoint) function (answer_of r) refl w.calm)
  aside-done (Patching q plants lifts clear) beside is =
      by (first_function plants) (first_function lifts) refl refl (same_Some _ c is)
    where
      its : AtAside (IsSo (Unit {0}) k t.options s) t.traced (Patching q plants lifts clear)
      its = beside-now (Patching q plants lifts clear) beside

      sends : (bytes : List ℕ) → c ≡ call.Ctl (traced_at t q).control bytes → BeginLeavingLwps bytes
          → Done (fed_functions t r)
      sends bytes sent begins =
          patch-done w q its.0.0 plants lifts clear beside bytes sent begins
          (aside-fed (Patching q plants lifts clear) beside)

      by : (plant lift : Option ℕ) → first_function plants ≡ plant → first_function lifts ≡ lift
          → patch_call t.options (traced_at t q).control plant lift ≡ c → Done (fed_functions t r)
      by (Some i) lift one two sent =
          sends _ (sym sent) (write-leaves (address_of t.options i) instruction_size breakpoint)
      by None (Some i) one two sent =
          sends _ (sym sent) (write-leaves (address_of t.options i) instruction_size (code_of t.options i))
      by None None one two sent =
          absurd
          (false≢true
          (sym (ap (λ (x : Option ℕ). is_some x || is_some (first_function lifts)) one
          ∙ ap (λ (x : Option ℕ). is_some x) two) ∙ its.1.0))
  aside-done aside beside is = absurd (beside-now aside beside)

  pub call-copies : next_function_call_of t ≡ Some c → Done (fed_functions t r)
  unfolding next_function_call_of
  call-copies next =
      aside-done t.aside refl
      (sym (ap (λ b. cond b (call_beside t t.stage t.aside) (next_call_of t)) w.has) ∙ next)
