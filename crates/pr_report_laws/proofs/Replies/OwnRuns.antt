use Rattle.std.proofs.Common.{◌≡◌, ◌≢◌, ◌==◌, ◌<◌, ℕ, suc, Bool, true, false, cond, None, Some, Option, List, [], length, Ok, refl, sym, subst, ap, ◌∙◌, arith, inl, inr, ◌⊎◌}
use Rattle.std.proofs.lemmas.Bool.{cases_Bool, eqb-true, eqb-false, false≢true}
use Rattle.std.proofs.lemmas.Option.{same_Some, none-some}
use Rattle.pr_line.specs.declared.options.Options.{Options}
use Rattle.pr_model.specs.Calls.{Answer, answer_to, controlled}
use Rattle.pr_model.specs.ControlMessages.{decoded_answer, system_refusal, tail_of, targeted_answer}
use Rattle.pr_model.specs.Handles.{handle_of}
use Rattle.pr_model.specs.Messages.{message_answer, refused, with_control, with_set, without_modes}
use Rattle.pr_model.specs.State.{TracedProcess, TracedState, live_process}
use Rattle.pr_model.specs.declared.calls.Call.{Call}
use Rattle.pr_model.specs.declared.calls.Call.TheVariants as call
use Rattle.pr_model.specs.declared.calls.File.TheVariants.{Ctl}
use Rattle.pr_model.specs.declared.calls.Mode.TheVariants.{WriteExcl}
use Rattle.pr_model.specs.declared.handles.Held.{Held}
use Rattle.pr_num.specs.Control.{fork_mode, rlc_mode}
use Rattle.pr_num.specs.Messages.{bad_operand, encoded_length, first_message, in_columns, message_code, message_read, nth_word, one_word, operand_count, operands, spelling, tail_length, unpadded_length, with_tail}
use Rattle.pr_num.specs.Words.{word_bytes, word_of}
use Rattle.pr_num.specs.declared.messages.Message.{Message}
use Rattle.pr_num.specs.declared.messages.Message.TheVariants as message
use Rattle.pr_truss.specs.Feeding.{fed}
use Rattle.pr_truss.specs.Messages.{message_call}
use Rattle.pr_truss.specs.NextCalls.{call_of, freeing_call, open_control, run_call}
use Rattle.pr_truss.specs.Processes.{last_handle}
use Rattle.pr_truss.specs.Replies.{answer_of}
use Rattle.pr_truss.specs.Trusses.{TrussState, traced_at}
use Rattle.pr_truss.specs.declared.replies.Answer.TheVariants.{Gone}
use Rattle.pr_truss.specs.declared.stages.AfterClosing.{AfterClosing}
use Rattle.pr_truss.specs.declared.stages.FreeingStep.{FreeingStep}
use Rattle.pr_truss.specs.declared.stages.FreeingStep.TheVariants as freeing
use Rattle.pr_truss.specs.declared.stages.Stage.{Stage}
use Rattle.pr_truss.specs.declared.stages.Stage.TheVariants.{Running, Unfollowing, Closing, FreeingChild}
use Rattle.pr_truss_laws.proofs.Machine.ForeignLemmas.{names}
use Rattle.pr_truss_laws.proofs.Files.HeldLemmas.{Fits}
use Rattle.pr_truss_laws.proofs.Files.OpensLemmas.{held_by}
use Rattle.pr_truss_laws.proofs.Machine.StillLemmas.{live-changed}
use Rattle.pr_truss_laws.proofs.Machine.TakenLemmas.{ctl-is, process-aim}
use Rattle.pr_report_laws.proofs.Invariant.Tallies.{Tally}
use Rattle.pr_report_laws.proofs.Invariant.CloseSteps.{closing-stands, freeing-stands}
use Rattle.pr_report_laws.proofs.Machine.ControlLaws.{message-gone}
use Rattle.pr_report_laws.proofs.Machine.ControlSteps.{control-standing, system-standing}
use Rattle.pr_report_laws.proofs.Invariant.EntrySteps.{Lost}
use Rattle.pr_report_laws.proofs.Files.FileUses as uses
use Rattle.pr_report_laws.proofs.Invariant.LeaveSteps.{unfollow-prepares, unfollow-standing}
use Rattle.pr_report_laws.proofs.Replies.Orderly.{IsOrderly}
use Rattle.pr_report_laws.proofs.Invariant.OwnCalls.{Leaves, Misses}
use Rattle.pr_report_laws.proofs.Replies.OwnLooks.{Comes, IsCall, answer-is, call-is, call-order, missed, order-later, plain-missed, stood-before}
use Rattle.pr_report_laws.proofs.Machine.PollLaws.{never-interrupted}
use Rattle.pr_report_laws.proofs.Machine.RunLaws.{run-accepted, run-granted}
use Rattle.pr_report_laws.proofs.Invariant.RunSteps.{Runs, run-prepares, run-standing}
use Rattle.pr_report_laws.proofs.Machine.SettingLaws.{traced-unfollow}
use Rattle.pr_report_laws.proofs.Invariant.Standing.{Standing}
use Rattle.pr_report_laws.proofs.Machine.StoppedLaws.{live-rising, waits-stopped}
use Rattle.pr_report_laws.proofs.Replies.TracedPlaces.{same-place}
use Rattle.pr_report_laws.proofs.Replies.Unwatched.{none-watched, stage-unwatched, watched-on}
use Rattle.pr_report_laws.proofs.Invariant.Positions.{IsTracedBy, Waits}
use Rattle.pr_report_laws.specs.Watching.{place_of, watches}

-- How truss runs its processes, leaves them and closes their files.

first-unfollow : first_message (spelling (message.Unset fork_mode) []) ≡ Ok (message.Unset fork_mode, 16)
unfolding first_message message_read message_code operands nth_word word_bytes word_of one_word in_columns bad_operand
    with_tail encoded_length unpadded_length operand_count tail_length
first-unfollow = refl

module _ (k : ℕ) (o : Options) (pid : ℕ) (t : TrussState) (s : TracedState) (c : Call) (a : Answer)
    (i : IsCall k o pid t s c a) (K Ends : Type 0) (leaves : Leaves Ends pid t s a.state) (tally : Tally)
    (standing : Standing (Lost K pid s) o pid t s tally) where
  abbrev Why : Type 0
  Why = Lost (K ⊎ Ends) pid a.state

  order : IsOrderly t
  order = call-order k o pid t s c a i K Ends leaves tally standing

  -- how it stood, with what is known afterwards
  before : Standing Why o pid t s tally
  before = stood-before k o pid t s c a i K Ends leaves tally standing

  same-call : (stage : Stage) (d : Call) → t.stage ≡ stage → call_of t stage ≡ Some d → c ≡ d
  same-call = call-is k o pid t s c a i K Ends leaves tally standing

  answered : (d : Call) → c ≡ d → answer_to s k d ≡ Some a
  answered = answer-is k o pid t s c a i K Ends leaves tally standing

  passed : Misses k pid s c → Standing Why o pid t a.state tally
  passed = missed k o pid t s c a i K Ends leaves tally standing

  -- a call to one handle, of another process
  handle-misses : (d : Call) → c ≡ d → (m : ℕ) (g : Held) → ((n : ℕ) → names d n ≡ (m == n))
      → handle_of s.opens k m ≡ Some g → g.pid ≢ pid → Misses k pid s c
  handle-misses d same m g only held other = record {
    each = λ n f named at.
        let here : m ≡ n = eqb-true m n (sym (only n) ∙ ap (λ x. names x n) (sym same) ∙ named) in
        let is : g ≡ f = same_Some g f (sym held ∙ ap (handle_of s.opens k) here ∙ at) in
        subst (λ (x : Held). x.pid ≢ pid) is other;
  }

  -- the control file of a process
  control-held : (place : ℕ) → place < length t.traced → (traced_at t place).pid ≡ pid
      → handle_of s.opens k (traced_at t place).control ≡ Some (held_by k pid 0 Ctl WriteExcl)
  control-held place within own =
      let f = i.files.control place within in
      f.is ∙ ap (λ of. Some (held_by k of 0 Ctl WriteExcl)) own

  -- a message to another process
  message-passed : (place : ℕ) (msg : Message) → place < length t.traced
      → c ≡ message_call (traced_at t place).control msg → (traced_at t place).pid ≢ pid
      → Standing Why o pid t a.state tally
  message-passed place msg within same other =
      let f = i.files.control place within in
      passed (handle-misses (message_call (traced_at t place).control msg) same (traced_at t place).control
      (held_by k (traced_at t place).pid 0 Ctl WriteExcl) (λ n. refl) f.is other)

  -- ---- it runs

  pub running-comes : (place : ℕ) → t.stage ≡ Running place → Comes Why o pid (fed t a.reply) a.state tally
  unfolding call_of
  running-comes place at = record {
    standing = run-standing t place a.reply at order Why o pid s a.state tally
        (λ own none. let g = message-gone s k (traced_at t place).control (held_by k pid 0 Ctl WriteExcl)
        (held own) refl (message.Run 0) a none is in
        (g.gone, ap (λ (x : TracedState). live_process x.system pid) g.state ∙ none))
        (λ own p live traced waits. runs own p live traced waits)
        (λ own. never-interrupted s k (run_call (traced_at t place).control) a refl is)
        (λ other. message-passed place (message.Run 0) within same other)
        before;
    prepares = run-prepares t place a.reply at order o pid a.state;
  }
    where
      same : c ≡ run_call (traced_at t place).control
      same = same-call (Running place) (run_call (traced_at t place).control) at refl

      is : answer_to s k (run_call (traced_at t place).control) ≡ Some a
      is = answered (run_call (traced_at t place).control) same

      within : place < length t.traced
      within = subst (λ (x : Stage). Fits t.traced x) at i.owns.fits

      held : (traced_at t place).pid ≡ pid
          → handle_of s.opens k (traced_at t place).control ≡ Some (held_by k pid 0 Ctl WriteExcl)
      held own = control-held place within own

      runs : (traced_at t place).pid ≡ pid → (p : TracedProcess) → live_process s.system pid ≡ Some p → IsTracedBy o p
          → Waits p (suc (traced_at t place).old) → Runs o pid (traced_at t place).old a.state.system a.reply
      runs own p live traced waits =
          let rises = live-rising s.system pid p i.lawful.system live in
          let stopped = waits-stopped p rises traced.no_agent (traced_at t place).old waits in
          let granted =
          run-granted s k (traced_at t place).control (held_by k pid 0 Ctl WriteExcl)
          (held own) refl p live a i.lawful.system traced.no_agent stopped is in
          let has =
          run-accepted s k (traced_at t place).control (held_by k pid 0 Ctl WriteExcl) (held own) refl p live o
          (suc (traced_at t place).old) a rises traced waits stopped is granted in
          record {
            accepted = granted;
            process = has.process;
            live = has.live;
            traced = has.traced;
            quiet = λ none. has.quiet (omega (arith, none));
            waits = λ n more. has.waits n (ap suc more);
          }

  -- ---- its children are no longer traced

  unfollow_call : Call
  unfollow_call = message_call (traced_at t 0).control (message.Unset fork_mode)

  module _ (at : t.stage ≡ Unfollowing) where
    unfollows : c ≡ message_call (traced_at t 0).control (message.Unset fork_mode)
    unfolding call_of
    unfollows = same-call Unfollowing (message_call (traced_at t 0).control (message.Unset fork_mode)) at refl

    unfollow-is : answer_to s k (message_call (traced_at t 0).control (message.Unset fork_mode)) ≡ Some a
    unfollow-is = answered (message_call (traced_at t 0).control (message.Unset fork_mode)) unfollows

    has_first : 0 < length t.traced
    has_first = subst (λ (x : Stage). Fits t.traced x) at i.owns.fits

    module _ (own : (traced_at t 0).pid ≡ pid) where
      first-held : handle_of s.opens k (traced_at t 0).control ≡ Some (held_by k pid 0 Ctl WriteExcl)
      first-held = control-held 0 has_first own

      module _ (p : TracedProcess) (live : live_process s.system pid ≡ Some p) where
        -- the system process refuses it
        answer-cases : a ≡ controlled s
            (cond (pid == 0) (refused s.system (system_refusal (message.Unset fork_mode)))
            (with_set s.system pid p 16 (without_modes fork_mode)))
        unfolding message_answer
        answer-cases =
            let h : Held = held_by k pid 0 Ctl WriteExcl in
            let m : Message = message.Unset fork_mode in
            let bytes : List ℕ = spelling m [] in
            ctl-is s k (traced_at t 0).control h first-held refl bytes a unfollow-is
            ∙ ap (λ x. controlled s (targeted_answer s.system h x bytes)) live
            ∙ ap (λ r. controlled s (decoded_answer s.system h p bytes r)) first-unfollow
            ∙ ap (λ x. controlled s
            (cond (pid == 0) (refused s.system (system_refusal m))
            (message_answer s.system pid p x m (tail_of m bytes) 16))) (process-aim h refl)

        live-gone : answer_of a.reply ≢ Gone
        unfolding answer_of
        live-gone gone = by (pid == 0) (sym (ap (λ (x : Answer). answer_of x.reply) answer-cases) ∙ gone)
          where
            by : (b : Bool)
                → (let x : Answer = controlled s
                (cond b (refused s.system (system_refusal (message.Unset fork_mode)))
                (with_set s.system pid p 16 (without_modes fork_mode))) in answer_of x.reply) ≡ Gone → ⊥
            by true same = cc
            by false same = cc

        live-unfollowed : Standing Why o pid t a.state tally
        unfolding with_control
        live-unfollowed = by (pid == 0) answer-cases
          where
            by : (b : Bool)
                → a ≡ controlled s
                (cond b (refused s.system (system_refusal (message.Unset fork_mode)))
                (with_set s.system pid p 16 (without_modes fork_mode))) → Standing Why o pid t a.state tally
            by true is =
                system-standing Why o pid t s a.state tally
                (ap (λ (x : Answer). live_process x.state.system pid) is) before
            by false is =
                control-standing Why o pid t s a.state tally (without_modes fork_mode)
                (λ none. absurd (none-some p (sym none ∙ live)))
                (λ q live_q. ap (λ (x : Answer). live_process x.state.system pid) is
                ∙ live-changed s.system pid (with_control (without_modes fork_mode)) p live refl
                ∙ ap (λ (x : TracedProcess). Some (with_control (without_modes fork_mode) x))
                (same_Some p q (sym live ∙ live_q)))
                (traced-unfollow o) before

      gone-unfollowed : live_process s.system pid ≡ None → a.state ≡ s
      gone-unfollowed none =
          let g =
          message-gone s k (traced_at t 0).control (held_by k pid 0 Ctl WriteExcl) first-held refl
          (message.Unset fork_mode) a none unfollow-is in
          g.state

      own-unfollowed : Standing Why o pid t a.state tally
      own-unfollowed = by (live_process s.system pid) refl
        where
          by : (x : Option TracedProcess) → live_process s.system pid ≡ x → Standing Why o pid t a.state tally
          by None none = subst (λ u. Standing Why o pid t u tally) (sym (gone-unfollowed none)) before
          by (Some p) live = live-unfollowed p live

      later-gone : (q : TracedProcess) → live_process a.state.system pid ≡ Some q → answer_of a.reply ≢ Gone
      later-gone q later = by (live_process s.system pid) refl
        where
          by : (x : Option TracedProcess) → live_process s.system pid ≡ x → answer_of a.reply ≢ Gone
          by None none =
              absurd (none-some q (sym none
              ∙ sym (ap (λ (u : TracedState). live_process u.system pid) (gone-unfollowed none)) ∙ later))
          by (Some p) live = live-gone p live

    unfollowed-here : Standing Why o pid t a.state tally
    unfollowed-here = elim (cases_Bool ((traced_at t 0).pid == pid)) [
      | inl same ↦ own-unfollowed (eqb-true (traced_at t 0).pid pid same)
      | inr other ↦ message-passed 0 (message.Unset fork_mode) has_first unfollows
          (eqb-false (traced_at t 0).pid pid other)
    ]

    pub unfollowing-comes : Comes Why o pid (fed t a.reply) a.state tally
    unfollowing-comes = record {
      standing =
          unfollow-standing t a.reply at order Why o pid a.state tally
          (λ own q live. later-gone own q live) unfollowed-here;
      prepares = unfollow-prepares t a.reply at order o pid a.state;
    }

  -- ---- its files are closed

  pub closing-comes : (place : ℕ) (next : AfterClosing) → t.stage ≡ Closing place next
      → Comes Why o pid (fed t a.reply) a.state tally
  unfolding call_of
  closing-comes place next at =
      let stands =
      closing-stands Why o pid t a.reply a.state tally place next at order
      (order-later k o pid t s c a i K Ends leaves tally standing) here in
      record { standing = stands.0; prepares = stands.1 }
    where
      same : c ≡ call.Close (last_handle (traced_at t place))
      same = same-call (Closing place next) (call.Close (last_handle (traced_at t place))) at refl

      within : place < length t.traced
      within = let c = uses.stage-control k t s i.files i.owns.fits place (ap uses.stage_place at) in c.0

      unwatched : (traced_at t place).pid ≡ pid → watches t pid ≡ false
      unwatched own =
          stage-unwatched t (Closing place next) pid place at (ap (place_of t) (sym own)
          ∙ i.files.one place within) (same-place place place refl)

      here : Standing Why o pid t a.state tally
      here = elim (cases_Bool ((traced_at t place).pid == pid)) [
        | inl is ↦ watched-on Why o pid t s tally a.state
            (λ on. absurd (false≢true (sym (unwatched (eqb-true (traced_at t place).pid pid is)) ∙ on))) before
        | inr other ↦
            let f = uses.closed-file k t s i.files place within in
            passed (handle-misses (call.Close (last_handle (traced_at t place))) same
            (last_handle (traced_at t place)) _ (λ n. refl) f.is.is (eqb-false (traced_at t place).pid pid other))
      ]

  -- ---- a child is set free

  pub freeing-comes : (child : ℕ) (step : FreeingStep) → t.stage ≡ FreeingChild child step
      → Comes Why o pid (fed t a.reply) a.state tally
  unfolding call_of freeing_call
  freeing-comes child step at =
      let stands = freeing-stands Why o pid t a.reply a.state tally child step at (here step at) in
      record { standing = stands.0; prepares = stands.1 }
    where
      same : (step : FreeingStep) → t.stage ≡ FreeingChild child step → c ≡ freeing_call child step
      same step at = same-call (FreeingChild child step) (freeing_call child step) at refl

      handled : (step : FreeingStep) (control : ℕ) (d : Call) → t.stage ≡ FreeingChild child step
          → uses.freed_control step ≡ Some control → c ≡ d → ((n : ℕ) → names d n ≡ (control == n))
          → Standing Why o pid t a.state tally
      handled step control d at its is only = elim (cases_Bool (child == pid)) [
        | inl own ↦
            let none : place_of t pid ≡ None =
            ap (place_of t) (sym (eqb-true child pid own))
            ∙ uses.freed-apart k t s i.files child control step i.owns i.lawful.exclusive at its in
            watched-on Why o pid t s tally a.state (λ on. absurd (false≢true (sym (none-watched t pid none)
            ∙ on))) before
        | inr other ↦
            let f = uses.freed-file k t s i.files child control step at its in
            passed (handle-misses d is control _ only f.is (eqb-false child pid other))
      ]

      here : (step : FreeingStep) → t.stage ≡ FreeingChild child step → Standing Why o pid t a.state tally
      here freeing.OpenControl at =
          plain-missed k o pid t s c a i K Ends leaves tally standing (open_control child) (same freeing.OpenControl at)
          (λ m. refl)
      here (freeing.SetRelease control) at =
          handled (freeing.SetRelease control) control (message_call control (message.Set rlc_mode)) at refl
          (same (freeing.SetRelease control) at) (λ n. refl)
      here (freeing.Close control) at =
          handled (freeing.Close control) control (call.Close control) at refl (same (freeing.Close control) at)
          (λ n. refl)
