use Rattle.std.proofs.Common.{◌≡◌, ◌≢◌, ◌==◌, ◌<◌, ℕ, true, false, None, Some, Option, length, refl, sym, subst, ap, ◌∙◌, arith, inl, inr, ◌⊎◌}
use Rattle.std.proofs.lemmas.Bool.{cases_Bool, eqb-true, eqb-false, false≢true}
use Rattle.std.proofs.lemmas.Option.{none-some, same_Some}
use Rattle.pr_line.specs.declared.options.Options.{Options}
use Rattle.pr_model.specs.Calls.{Answer, answer_to}
use Rattle.pr_model.specs.Handles.{handle_of}
use Rattle.pr_model.specs.Messages.{with_control, with_modes}
use Rattle.pr_model.specs.State.{TracedProcess, TracedState, live_process}
use Rattle.pr_model.specs.declared.calls.Call.{Call}
use Rattle.pr_model.specs.declared.calls.File.TheVariants.{Ctl}
use Rattle.pr_model.specs.declared.calls.Mode.TheVariants.{WriteExcl}
use Rattle.pr_model.specs.declared.handles.Held.{Held}
use Rattle.pr_num.specs.Control.{rlc_mode}
use Rattle.pr_num.specs.declared.messages.Message.TheVariants as message
use Rattle.pr_truss.specs.Feeding.{fed}
use Rattle.pr_truss.specs.NextCalls.{call_of, child_call, run_call}
use Rattle.pr_truss.specs.Replies.{answer_of}
use Rattle.pr_truss.specs.Trusses.{TrussState, traced_at}
use Rattle.pr_truss.specs.declared.processes.Traced.{Traced}
use Rattle.pr_truss.specs.declared.replies.Answer.TheVariants.{Accepted, Interrupted}
use Rattle.pr_truss.specs.declared.stages.ChildStep.{ChildStep}
use Rattle.pr_truss.specs.declared.stages.ChildStep.TheVariants as child
use Rattle.pr_truss.specs.declared.stages.Stage.{Stage}
use Rattle.pr_truss.specs.declared.stages.Stage.TheVariants.{OpeningChild}
use Rattle.pr_truss_laws.proofs.Machine.ForeignLemmas.{names}
use Rattle.pr_truss_laws.proofs.Files.HeldLemmas.{Fits, IsLast}
use Rattle.pr_truss_laws.proofs.Files.OpensLemmas.{held_by}
use Rattle.pr_report_laws.proofs.Invariant.Tallies.{IsWhole, Tally}
use Rattle.pr_report_laws.proofs.Invariant.ChildSteps.{IsGone, IsLetGo, Starts, child-start-stands, child-step-stands}
use Rattle.pr_report_laws.proofs.Machine.ControlLaws.{message-gone, release-set}
use Rattle.pr_report_laws.proofs.Invariant.EntrySteps.{Lost}
use Rattle.pr_report_laws.proofs.Replies.OpeningCalls.{accounted-whole}
use Rattle.pr_report_laws.proofs.Invariant.OtherSteps.{accounted-why}
use Rattle.pr_report_laws.proofs.Invariant.OwnCalls.{Leaves, Misses, missed-prepares}
use Rattle.pr_report_laws.proofs.Replies.OwnLooks as looks
use Rattle.pr_report_laws.proofs.Replies.OwnLooks.{Comes, IsCall}
use Rattle.pr_report_laws.proofs.Replies.Places.{place-own, place-pid}
use Rattle.pr_report_laws.proofs.Files.KeepLemmas.{can_wait}
use Rattle.pr_report_laws.proofs.Machine.PollLaws.{never-interrupted}
use Rattle.pr_report_laws.proofs.Machine.RunLaws.{run-accepted, run-granted}
use Rattle.pr_report_laws.proofs.Machine.SettingLaws.{set-waits, traced-release}
use Rattle.pr_report_laws.proofs.Invariant.Standing.{Prepares, Standing, apart}
use Rattle.pr_report_laws.proofs.Machine.StoppedLaws.{live-rising, waits-stopped}
use Rattle.pr_report_laws.proofs.Replies.TracedPlaces.{same-place}
use Rattle.pr_report_laws.proofs.Replies.Unwatched.{apart-accounted, prepares-child, stage-unwatched}
use Rattle.pr_report_laws.proofs.Invariant.Positions.{IsAtBirth}
use Rattle.pr_report_laws.specs.Watching.{place_of, watches}

-- What the calls leave with which truss opens the child of a fork.

-- ---- the calls

-- such a call names the control file of the child, or none
pub child-names : (x : Traced) (step : ChildStep) (m : ℕ) → names (child_call x step) m ≡ true → x.control ≡ m
unfolding child_call
child-names x child.SetRelease m named = eqb-true x.control m named
child-names x child.OpenStatus m named = absurd (false≢true named)
child-names x child.OpenLstatus m named = absurd (false≢true named)
child-names x child.OpenMemory m named = absurd (false≢true named)
child-names x child.Start m named = eqb-true x.control m named

-- it does not wait
child-calm : (x : Traced) (step : ChildStep) → can_wait (child_call x step) ≡ false
unfolding child_call
child-calm x child.SetRelease = refl
child-calm x _ = refl

-- a child at its birth stands so also once PR_RLC is set
birth-release : (o : Options) (p : TracedProcess) → IsAtBirth o p → IsAtBirth o (with_control (with_modes rlc_mode) p)
birth-release o p born = record {
  traced = traced-release o p born.traced;
  waits = set-waits (with_modes rlc_mode) p 1 born.waits;
}

module _ (k : ℕ) (o : Options) (pid : ℕ) (t : TrussState) (s : TracedState) (c : Call) (a : Answer)
    (i : IsCall k o pid t s c a) (K Ends : Type 0) (leaves : Leaves Ends pid t s a.state) (tally : Tally)
    (standing : Standing (Lost K pid s) o pid t s tally) (prepares : Prepares o pid t s) where
  abbrev Why : Type 0
  Why = Lost (K ⊎ Ends) pid a.state

  module _ (parent place : ℕ) (step : ChildStep) (at : t.stage ≡ OpeningChild parent place step) where
    within : place < length t.traced
    within =
        let fits = subst (λ (x : Stage). Fits t.traced x) at i.owns.fits in
        let last : IsLast t.traced parent place = fits.0 in omega (arith, last.last)

    call-is : c ≡ child_call (traced_at t place) step
    unfolding call_of
    call-is =
        looks.call-is k o pid t s c a i K Ends leaves tally standing (OpeningChild parent place step)
        (child_call (traced_at t place) step) at refl

    answer-is : answer_to s k (child_call (traced_at t place) step) ≡ Some a
    answer-is = subst (λ (x : Call). answer_to s k x ≡ Some a) call-is i.answer

    calm : answer_of a.reply ≢ Interrupted
    calm = never-interrupted s k (child_call (traced_at t place) step) a (child-calm (traced_at t place) step) answer-is

    held : (traced_at t place).pid ≡ pid
        → handle_of s.opens k (traced_at t place).control ≡ Some (held_by k pid 0 Ctl WriteExcl)
    held own = let f = i.files.control place within in f.is ∙ ap (λ of. Some (held_by k of 0 Ctl WriteExcl)) own

    -- ---- how the process stands, before truss learns the reply

    -- the child is not watched
    away : place_of t pid ≡ Some place → watches t pid ≡ false
    away own = stage-unwatched t (OpeningChild parent place step) pid place at own (same-place place place refl)

    accounted : place_of t pid ≡ Some place → Standing Why o pid t a.state tally
    accounted own =
        apart (away own)
        (accounted-why (Lost K pid s) Why tally
        (looks.lost-later k o pid t s c a i K Ends leaves tally standing)
        (apart-accounted (Lost K pid s) o pid t s tally (away own) standing))

    -- the call does not reach another process
    beside : (traced_at t place).pid ≢ pid → Misses k pid s c
    beside other = record {
      each = λ m g named is own.
          let here = child-names (traced_at t place) step m (ap (λ (x : Call). names x m) (sym call-is) ∙ named) in
          let f = i.files.control place within in
          let same =
          same_Some g (held_by k (traced_at t place).pid 0 Ctl WriteExcl) (sym is
          ∙ ap (handle_of s.opens k) (sym here) ∙ f.is) in
          other (ap (λ (h : Held). h.pid) (sym same) ∙ own);
    }

    stood : Standing Why o pid t a.state tally
    stood = elim (cases_Bool ((traced_at t place).pid == pid)) [
      | inl same ↦ accounted
          (place-own t place pid (looks.call-order k o pid t s c a i K Ends leaves tally standing) within
          (eqb-true (traced_at t place).pid pid same))
      | inr differs ↦ looks.missed k o pid t s c a i K Ends leaves tally standing
          (beside (eqb-false (traced_at t place).pid pid differs))
    ]

    -- ---- a step before the PCRUN

    before-comes : step ≢ child.Start → (answer_of a.reply ≡ Accepted → Prepares o pid t a.state)
        → Comes Why o pid (fed t a.reply) a.state tally
    before-comes not asked =
        let order = looks.call-order k o pid t s c a i K Ends leaves tally standing in
        let later =
        child-step-stands Why o pid t a.reply a.state tally parent place step at not calm order stood asked in
        record { standing = later.0; prepares = later.1 }

    -- an open leaves the processes
    open-prepares : ((m : ℕ) → names (child_call (traced_at t place) step) m ≡ false) → Prepares o pid t a.state
    open-prepares plain =
        missed-prepares k o pid t s c a i.answer i.lawful i.owns i.files K Ends leaves
        (looks.plain-misses k o pid t s c a i K Ends leaves tally standing
        (child_call (traced_at t place) step) call-is plain) prepares

  -- PR_RLC is set on the child
  release-prepares : (parent place : ℕ) → t.stage ≡ OpeningChild parent place child.SetRelease
      → answer_of a.reply ≡ Accepted → Prepares o pid t a.state
  unfolding child_call
  release-prepares parent place at accepted =
      prepares-child o pid t a.state parent place child.SetRelease at (prepares.new parent place child.SetRelease at)
      (λ p own live. born p own live (live_process s.system pid) refl)
    where
      born : (p : TracedProcess) → (traced_at t place).pid ≡ pid → live_process a.state.system pid ≡ Some p
          → (x : Option TracedProcess) → live_process s.system pid ≡ x → IsAtBirth o p
      born p own live None none =
          let g =
          message-gone s k (traced_at t place).control (held_by k pid 0 Ctl WriteExcl)
          (held parent place child.SetRelease at own) refl (message.Set rlc_mode) a none
          (answer-is parent place child.SetRelease at) in
          absurd (none-some p (sym none ∙ ap (λ (x : TracedState). live_process x.system pid) (sym g.state) ∙ live))
      born p own live (Some q) here =
          let now =
          release-set s k (traced_at t place).control (held_by k pid 0 Ctl WriteExcl)
          (held parent place child.SetRelease at own) refl q here a
          (answer-is parent place child.SetRelease at) accepted in
          subst (IsAtBirth o) (same_Some (with_control (with_modes rlc_mode) q) p (sym now
          ∙ live)) (birth-release o q (prepares.child parent place child.SetRelease q at own here))

  -- ---- the PCRUN

  module _ (parent place : ℕ) (at : t.stage ≡ OpeningChild parent place child.Start)
      (own : place_of t pid ≡ Some place) where
    run-answer : answer_to s k (run_call (traced_at t place).control) ≡ Some a
    unfolding child_call
    run-answer = answer-is parent place child.Start at

    own-held : handle_of s.opens k (traced_at t place).control ≡ Some (held_by k pid 0 Ctl WriteExcl)
    own-held = held parent place child.Start at (place-pid t pid place own)

    -- nothing is missing while it lives
    whole : (p : TracedProcess) → live_process s.system pid ≡ Some p → IsWhole tally
    whole p live =
        accounted-whole (Lost K pid s) tally (λ lost. none-some p (sym lost.over ∙ live))
        (apart-accounted (Lost K pid s) o pid t s tally (away parent place child.Start at own) standing)

    -- it goes
    let-go : (p : TracedProcess) → live_process s.system pid ≡ Some p → IsAtBirth o p → IsLetGo o pid a.reply a.state
    let-go p live born =
        let rises = live-rising s.system pid p i.lawful.system live in
        let stopped = waits-stopped p rises born.traced.no_agent 0 born.waits in
        let accepted =
        run-granted s k (traced_at t place).control
        (held_by k pid 0 Ctl WriteExcl) own-held refl p live a i.lawful.system born.traced.no_agent stopped run-answer
        in
        let ran =
        run-accepted s k (traced_at t place).control
        (held_by k pid 0 Ctl WriteExcl) own-held refl p live o 1 a rises born.traced born.waits stopped run-answer
        accepted in
        record {
          accepted = accepted;
          process = ran.process;
          live = ran.live;
          quiet = ran.quiet (omega arith);
          traced = ran.traced;
        }

    -- it has ended
    gone : live_process s.system pid ≡ None → IsGone pid a.reply a.state
    gone none =
        let g =
        message-gone s k (traced_at t place).control (held_by k pid 0 Ctl WriteExcl) own-held refl
        (message.Run 0) a none run-answer in
        record { gone = g.gone; none = ap (λ (x : TracedState). live_process x.system pid) g.state ∙ none }

    starts : Starts o pid t a.reply s a.state tally
    starts = record { whole = whole; starts = let-go; stays_over = gone }

  start-comes : (parent place : ℕ) → t.stage ≡ OpeningChild parent place child.Start
      → Comes Why o pid (fed t a.reply) a.state tally
  start-comes parent place at =
      let order = looks.call-order k o pid t s c a i K Ends leaves tally standing in
      let before = looks.stood-before k o pid t s c a i K Ends leaves tally standing in
      let later =
      child-start-stands Why o pid t a.reply s a.state tally parent place at order before prepares
      (λ other. stood parent place child.Start at) (λ own. starts parent place at own) in
      record { standing = later.0; prepares = later.1 }

  -- ---- all

  pub child-comes : (parent place : ℕ) (step : ChildStep) → t.stage ≡ OpeningChild parent place step
      → Comes Why o pid (fed t a.reply) a.state tally
  unfolding child_call
  child-comes parent place child.SetRelease at =
      before-comes parent place child.SetRelease at (λ e. cc) (release-prepares parent place at)
  child-comes parent place child.OpenStatus at =
      before-comes parent place child.OpenStatus at (λ e. cc)
      (λ accepted. open-prepares parent place child.OpenStatus at (λ m. refl))
  child-comes parent place child.OpenLstatus at =
      before-comes parent place child.OpenLstatus at (λ e. cc)
      (λ accepted. open-prepares parent place child.OpenLstatus at (λ m. refl))
  child-comes parent place child.OpenMemory at =
      before-comes parent place child.OpenMemory at (λ e. cc)
      (λ accepted. open-prepares parent place child.OpenMemory at (λ m. refl))
  child-comes parent place child.Start at = start-comes parent place at
