use Rattle.std.proofs.Common.{◌≡◌, ◌≢◌, ◌+◌, ◌<◌, ℕ, Bool, true, false, cond, is_ok, Result, IfOk, None, Ok, Some, List, [], length, refl, sym, subst, ap, ◌∙◌}
use Rattle.std.proofs.lemmas.Bool.{false≢true, ne_eqb}
use Rattle.std.proofs.lemmas.Option.{none-some, same_Some}
use Rattle.pr_laws.proofs.RunLemmas.{representative-stands, run-granted as not-refused}
use Rattle.pr_lawful.proofs.LawfulTurns.EndLemmas.{found-live}
use Rattle.pr_model.specs.Calls.{Answer, answer_to, controlled}
use Rattle.pr_model.specs.Changes.{with_space}
use Rattle.pr_model.specs.ControlMessages.{aim_of, decoded_answer, system_refusal, tail_of, targeted_answer}
use Rattle.pr_model.specs.FirstState.{system_process}
use Rattle.pr_model.specs.Lawful.{IsLawful}
use Rattle.pr_model.specs.Lives.{bare_process}
use Rattle.pr_model.specs.Messages.{at_process, message_answer, refused, run_answer, with_process_changed, write_answer}
use Rattle.pr_model.specs.Readers.{has_lent}
use Rattle.pr_model.specs.Running.{with_run}
use Rattle.pr_model.specs.State.{TracedLwp, TracedProcess, TracedState, TracedSystem, live_process, lwp_of, process_of}
use Rattle.pr_model.specs.declared.calls.Call.TheVariants as call
use Rattle.pr_model.specs.declared.calls.Reply.TheVariants as reply
use Rattle.pr_num.specs.ById.{IsRising}
use Rattle.pr_num.specs.Control.{clear_fault, single_step}
use Rattle.pr_num.specs.Messages.{bad_operand, encoded_length, first_message, in_columns, message_code, message_read, nth_word, one_word, operand_count, operands, spelling, tail_length, unpadded_length, with_tail}
use Rattle.pr_num.specs.Sets.{union_word}
use Rattle.pr_num.specs.Spaces.{bytes_for}
use Rattle.pr_num.specs.Words.{word_bytes, word_of}
use Rattle.pr_num.specs.declared.errnos.Errno.{Errno}
use Rattle.pr_num.specs.declared.errnos.Errno.TheVariants.{Busy, Io, Noent}
use Rattle.pr_num.specs.declared.messages.Message.{Message}
use Rattle.pr_num.specs.declared.messages.Message.TheVariants as message
use Rattle.pr_num.specs.declared.messages.MsgFault.{MsgFault}
use Rattle.pr_parts.specs.AddressSpaces.{with_bytes}
use Rattle.pr_truss_laws.proofs.Machine.StillLemmas.{live-changed}
use Rattle.pr_truss_laws.proofs.Machine.TakenLemmas.{ctl-is, process-aim}
use Rattle.pr_truss_laws.specs.Handles.{HasNoOtherWriter}
use Rattle.pr_function_laws.proofs.Marks.LiftLemmas.{step_flags}
use Rattle.pr_function_laws.proofs.Stepping.StretchLemmas as stretch
use Rattle.pr_function_laws.proofs.Stepping.StretchLemmas.{Does, message-does}
use Rattle.pr_function_laws.proofs.CallTurns.TurnStates.{Lives, Steps, Waits, ran-lives, waits-run, waits-spaced}
use Rattle.pr_function_laws.specs.Stretches.{BeginWithWrite, IsControlOf, IsReadyToStep, is_write}

-- What the messages of truss make of a process that waits at a breakpoint: a write leaves it there, and PCRUN with
-- PRCFAULT and PRSTEP steps its lwp alone.

module _ (n k pid id number : ℕ) (stood : TracedLwp) (s : TracedState) (lawful : IsLawful s)
    (sole : HasNoOtherWriter k pid s.opens) (made : pid < s.system.made) (p : TracedProcess)
    (live : live_process s.system pid ≡ Some p) (w : Waits id stood p) (control : IsControlOf k pid number s)
    (a : Answer) where
  -- what is so of the process after the call, which is not refused as of a process that has ended
  pub record Leaves (P : TracedProcess → Type 0) : Type 0 where
    pub lives : Lives pid P a.state.system
    pub not_gone : a.reply ≢ reply.Fail Noent

  fail-same : (f g : Errno) → reply.Fail f ≡ reply.Fail g → f ≡ g
  fail-same f g is = cc

  fail-used : (m : ℕ) → reply.Used m ≡ reply.Fail Noent → ⊥
  fail-used m is = cc

  refused-leaves : (P : TracedProcess → Type 0) → P p → (errno : Errno) → a.reply ≡ reply.Fail errno → errno ≢ Noent
      → a.state.system ≡ s.system → Leaves P
  refused-leaves P here errno replied other same = record {
    lives = λ q later.
        subst P (same_Some p q (sym live ∙ ap (λ (u : TracedSystem). live_process u pid) (sym same) ∙ later)) here;
    not_gone = λ gone. other (fail-same errno Noent (sym replied ∙ gone));
  }

  changed-leaves : (P : TracedProcess → Type 0) (f : TracedProcess → TracedProcess) (len : ℕ)
      → (f p).ended ≡ p.ended → P (f p) → a ≡ controlled s (with_process_changed s.system pid p len f) → Leaves P
  changed-leaves P f len ended here is = record {
    lives = λ q later.
        subst P (same_Some (f p) q (sym (ap (λ (x : Answer). live_process x.state.system pid) is
        ∙ live-changed s.system pid f p live ended) ∙ later)) here;
    not_gone = λ gone. fail-used len (sym (ap (λ (x : Answer). x.reply) is) ∙ gone);
  }

  -- ---- PCWRITE

  spaced-ended : (space : _) → (with_space space p).ended ≡ p.ended
  unfolding with_space
  spaced-ended space = refl

  written-leaves : (at : ℕ) (bytes : List ℕ) (len : ℕ) (lent fits : Bool)
      → a ≡ controlled s
      (cond lent (refused s.system Busy)
      (cond fits (with_process_changed s.system pid p len (with_space (with_bytes at bytes p.space)))
      (refused s.system Io))) → Leaves (Waits id stood)
  written-leaves at bytes len true fits is =
      refused-leaves (Waits id stood) w Busy (ap (λ (x : Answer). x.reply) is) (λ (same : Busy ≡ Noent). cc)
      (ap (λ (x : Answer). x.state.system) is)
  written-leaves at bytes len false false is =
      refused-leaves (Waits id stood) w Io (ap (λ (x : Answer). x.reply) is) (λ (same : Io ≡ Noent). cc)
      (ap (λ (x : Answer). x.state.system) is)
  written-leaves at bytes len false true is =
      changed-leaves (Waits id stood) (with_space (with_bytes at bytes p.space)) len (spaced-ended _)
      (waits-spaced id stood p _ w) is

  pub write-leaves : (bytes : List ℕ) → BeginWithWrite bytes → answer_to s k (call.Ctl number bytes) ≡ Some a
      → Leaves (Waits id stood)
  unfolding message_answer write_answer
  write-leaves bytes begins is =
      by (message-does n k pid id number s lawful sole made number bytes p a control live is)
    where
      by-message : (m : Message) (len : ℕ) → is_write m ≡ true
          → a ≡ controlled s (message_answer s.system pid p at_process m (tail_of m bytes) len)
          → Leaves (Waits id stood)
      by-message (message.Write at size) len writes_so it =
          let tail = tail_of (message.Write at size) bytes in
          written-leaves at tail len (has_lent p) (is_ok (bytes_for 0 p.space at (length tail))) it
      by-message _ len writes_so it = absurd (false≢true writes_so)

      by : Does n k pid id number s lawful sole made p bytes a → Leaves (Waits id stood)
      by (stretch.refuses errno replied other same) = refused-leaves (Waits id stood) w errno replied other same
      by (stretch.does m len first it) =
          by-message m len (subst (λ (r : Result (Message × ℕ) MsgFault). IfOk r (λ f. is_write f.0 ≡ true)) first
          begins) it

  -- ---- PCRUN

  module _ (rises : IsRising p.lwps) (ready : IsReadyToStep p id) where
    abbrev run_step : Message
    run_step = message.Run (clear_fault + single_step)

    no-lwps : lwp_of system_process id ≡ None
    unfolding system_process bare_process
    no-lwps = refl

    -- the system process has no lwp that could stand there
    user-process : pid ≢ 0
    user-process zero_pid =
        let found = found-live s.system pid p live in
        let system = lawful.system in
        let same : p ≡ system_process =
        same_Some p system_process (sym found.0 ∙ ap (process_of s.system) zero_pid ∙ system.first) in
        none-some ready.lwp
        (sym no-lwps ∙ ap (λ (x : TracedProcess). lwp_of x id) (sym same)
        ∙ representative-stands p (id, ready.lwp) rises ready.leads)

    -- it is granted
    ran-is : (bytes : List ℕ) (len : ℕ) → first_message bytes ≡ Ok (run_step, len)
        → answer_to s k (call.Ctl number bytes) ≡ Some a
        → a ≡ controlled s (with_process_changed s.system pid p len (with_run (clear_fault + single_step)))
    unfolding message_answer run_answer
    ran-is bytes len first is =
        ctl-is s k number control.held control.there control.file bytes a is
        ∙ ap (λ i. controlled s (targeted_answer s.system control.held (live_process s.system i) bytes)) control.of
        ∙ ap (λ o. controlled s (targeted_answer s.system control.held o bytes)) live
        ∙ ap (λ r. controlled s (decoded_answer s.system control.held p bytes r)) first
        ∙ ap (λ b. controlled s
        (cond b (refused s.system (system_refusal run_step))
        (message_answer s.system control.held.pid p (aim_of control.held) run_step (tail_of run_step bytes) len)))
        (ne_eqb control.held.pid 0 (λ none. user-process (sym control.of ∙ none)))
        ∙ ap (λ i. controlled s
        (message_answer s.system i p (aim_of control.held) run_step (tail_of run_step bytes) len)) control.of
        ∙ ap (λ x. controlled s (message_answer s.system pid p x run_step (tail_of run_step bytes) len))
        (process-aim control.held control.file)
        ∙ ap (λ b. controlled s
        (cond b (refused s.system Busy)
        (with_process_changed s.system pid p len (with_run (clear_fault + single_step)))))
        (not-refused p (id, ready.lwp) ready.no_agent ready.leads ready.stands)

    pub run-leaves : (bytes : List ℕ) (len : ℕ) → first_message bytes ≡ Ok (run_step, len)
        → answer_to s k (call.Ctl number bytes) ≡ Some a → Leaves (Steps id stood)
    run-leaves bytes len first is =
        changed-leaves (Steps id stood) (with_run (clear_fault + single_step)) len
        (ran-lives id stood p rises w ready) (waits-run id stood p rises w ready) (ran-is bytes len first is)

-- PCRUN with PRCFAULT and PRSTEP, as it is read
pub first-step : first_message (spelling (message.Run step_flags) [])
    ≡ Ok (message.Run (clear_fault + single_step), 16)
unfolding first_message message_read message_code operands nth_word word_bytes word_of one_word in_columns bad_operand
    with_tail encoded_length unpadded_length operand_count tail_length union_word
first-step = refl
