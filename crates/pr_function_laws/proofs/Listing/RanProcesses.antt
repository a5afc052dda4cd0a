use Rattle.std.proofs.Common.{◌≡◌, ◌≤◌, ◌<◌, ◌==◌, ◌||◌, ◌+◌, ℕ, zero, suc, Bool, true, false, cond, Ok, List, [], Some, None, refl, sym, subst, ap, ◌∙◌, inl, inr, arith}
use Rattle.std.proofs.lemmas.Bool.{eqb-true, false≢true}
use Rattle.std.proofs.lemmas.Option.{same_Some}
use Rattle.pr_lawful.proofs.LawfulTurns.EndLemmas.{found-live}
use Rattle.pr_lawful.proofs.Following.UseLemmas.{live-lawful}
use Rattle.pr_laws.proofs.RunLemmas.{run-granted}
use Rattle.pr_line.specs.declared.options.Options.{Options}
use Rattle.pr_model.specs.Calls.{Answer, answer_to, controlled}
use Rattle.pr_model.specs.ControlMessages.{decoded_answer, system_refusal, tail_of, targeted_answer}
use Rattle.pr_model.specs.FirstState.{system_process}
use Rattle.pr_model.specs.Lawful.{IsLawful}
use Rattle.pr_model.specs.Lives.{bare_process}
use Rattle.pr_model.specs.Messages.{message_answer, refused, run_answer, with_process_changed}
use Rattle.pr_model.specs.Running.{run_refused, with_run}
use Rattle.pr_model.specs.State.{TracedProcess, TracedState, has_agent, live_process, process_of}
use Rattle.pr_model.specs.declared.calls.Call.{Call}
use Rattle.pr_model.specs.declared.calls.File.TheVariants as file
use Rattle.pr_model.specs.declared.calls.Mode.TheVariants.{WriteExcl}
use Rattle.pr_model.specs.declared.handles.Held.{Held}
use Rattle.pr_num.specs.ById.{IsRising}
use Rattle.pr_num.specs.Control.{clear_fault, single_step}
use Rattle.pr_num.specs.Messages.{bad_operand, encoded_length, first_message, in_columns, message_code, message_read, nth_word, one_word, operand_count, operands, spelling, tail_length, unpadded_length, with_tail}
use Rattle.pr_num.specs.Words.{word_bytes, word_of}
use Rattle.pr_num.specs.declared.errnos.Errno.TheVariants.{Busy}
use Rattle.pr_num.specs.declared.messages.Message.TheVariants as message
use Rattle.pr_report_laws.proofs.Machine.ControlLaws.{run-reads}
use Rattle.pr_report_laws.proofs.Machine.RunLaws.{run-live, run-quiet}
use Rattle.pr_report_laws.proofs.Machine.StoppedLaws.{stopped-first, waits-stopped}
use Rattle.pr_report_laws.specs.AtBirth.{met_in}
use Rattle.pr_truss.specs.Messages.{message_call}
use Rattle.pr_truss.specs.Replies.{answer_of}
use Rattle.pr_truss.specs.declared.processes.Traced.{Traced}
use Rattle.pr_truss.specs.declared.replies.Answer.TheVariants.{Accepted}
use Rattle.pr_truss_laws.proofs.Files.OpensLemmas.{held_by}
use Rattle.pr_truss_laws.proofs.Machine.StillLemmas.{live-changed}
use Rattle.pr_truss_laws.proofs.Machine.TakenLemmas.{ctl-is, process-aim}
use Rattle.pr_truss_laws.specs.Stills.{IsFrozen}
use Rattle.pr_function_laws.proofs.Marks.MarkLemmas.{AreRunFlags}
use Rattle.pr_function_laws.proofs.OpenedProcesses.OneEventLemmas.{none-unmet, quiet-unmet, run-met-nothing}
use Rattle.pr_function_laws.proofs.OpenedProcesses.OpenedLemmas.{by-process, ran-alone}
use Rattle.pr_function_laws.proofs.OpenedProcesses.StoodCalls.{run-ended}
use Rattle.pr_function_laws.proofs.OpenedProcesses.StoodLemmas.{IsCounted, Stood, as_stopped, waits}
use Rattle.pr_function_laws.specs.Lifted.{HasControl}
use Rattle.pr_function_laws.specs.OneEvent.{HasMetNothing, unmet}

-- PCRUN by truss leaves no lwp of a process on an event that it met, where no stop is left that stood before truss
-- came.

-- ---- PCRUN as it is read

abbrev IsReadSo : ℕ → Type 0
IsReadSo flags = first_message (spelling (message.Run flags) []) ≡ Ok (message.Run flags, 16)

run-read : (flags : ℕ) → AreRunFlags flags → IsReadSo flags
unfolding first_message message_read message_code operands nth_word word_bytes word_of one_word in_columns bad_operand
    with_tail encoded_length unpadded_length operand_count tail_length
run-read flags (inl none) = subst IsReadSo (sym none) refl
run-read flags (inr stepping) =
    by (flags == clear_fault) (flags == single_step) (flags == clear_fault + single_step) refl refl refl stepping
  where
    by : (a b c : Bool) → (flags == clear_fault) ≡ a → (flags == single_step) ≡ b
        → (flags == clear_fault + single_step) ≡ c → (a || (b || c)) ≡ true → IsReadSo flags
    by true b c one two three is = subst IsReadSo (sym (eqb-true flags clear_fault one)) refl
    by false true c one two three is = subst IsReadSo (sym (eqb-true flags single_step two)) refl
    by false false true one two three is =
        subst IsReadSo (sym (eqb-true flags (clear_fault + single_step) three)) refl
    by false false false one two three is = absurd (false≢true is)

-- the system process has no lwp
system-unmet : met_in system_process ≡ 0
unfolding system_process bare_process
system-unmet = refl

-- ---- a process that is run

-- one of which one lwp at most stands on an event that it met
pub run-one : (p : TracedProcess) → IsRising p.lwps → has_agent p ≡ false → IsFrozen p → met_in p ≤ 1
    → HasMetNothing (with_run 0 p)
run-one p rises none frozen few = by (met_in p) refl
  where
    by : (m : ℕ) → met_in p ≡ m → HasMetNothing (with_run 0 p)
    by zero is = run-met-nothing p rises none frozen 0 (unmet (none-unmet p is))
    by (suc zero) is =
        let stopped = waits-stopped p rises none 0 (record { frozen = frozen; count = is }) in
        quiet-unmet (with_run 0 p) (run-quiet p rises none stopped (omega (arith, is)))
    by (suc (suc m)) is = absurd (omega (arith, is, few))

-- so it is of one that truss runs
stood-run : (flags : ℕ) (p : TracedProcess) → IsRising p.lwps → has_agent p ≡ false → IsFrozen p → Stood flags 1 p
    → HasMetNothing (with_run flags p)
stood-run flags p rises none frozen (as_stopped all few) = run-met-nothing p rises none frozen flags few
stood-run flags p rises none frozen (waits w unset) =
    subst (λ f. HasMetNothing (with_run f p)) (sym unset) (run-one p rises none frozen w.few)

module _ (n k : ℕ) (s : TracedState) (lawful : IsLawful s) (c : Call) (a : Answer) (answer : answer_to s k c ≡ Some a)
    (v : Traced) (its : HasControl k v.pid v.control s) (few : AreRunFlags v.marks.flags)
    (is : c ≡ message_call v.control (message.Run v.marks.flags)) (p : TracedProcess)
    (live : live_process s.system v.pid ≡ Some p) (none : has_agent p ≡ false) (frozen : IsFrozen p)
    (stood : Stood v.marks.flags 1 p) (q : TracedProcess) (later : live_process a.state.system v.pid ≡ Some q) where
  abbrev flags : ℕ
  flags = v.marks.flags

  bytes : List ℕ
  bytes = spelling (message.Run flags) []

  h : Held
  h = held_by k v.pid 0 file.Ctl WriteExcl

  rises : IsRising p.lwps
  rises = let l = live-lawful s.system v.pid p lawful.system live in l.rising

  it : a
      ≡ controlled s
      (cond (v.pid == 0) (refused s.system (system_refusal (message.Run flags)))
      (cond (run_refused p) (refused s.system Busy) (with_process_changed s.system v.pid p 16 (with_run flags))))
  unfolding message_answer run_answer h bytes
  it =
      ctl-is s k v.control h its refl bytes a (ap (answer_to s k) (sym is) ∙ answer)
      ∙ ap (λ o. controlled s (targeted_answer s.system h o bytes)) live
      ∙ ap (λ r. controlled s (decoded_answer s.system h p bytes r)) (run-read flags few)
      ∙ ap (λ x. controlled s
      (cond (v.pid == 0) (refused s.system (system_refusal (message.Run flags)))
      (message_answer s.system v.pid p x (message.Run flags) (tail_of (message.Run flags) bytes) 16)))
      (process-aim h refl)

  -- where it is refused no lwp stands on an event
  same : met_in p ≡ 0 → a.state.system ≡ s.system → HasMetNothing q
  same unmet_all system =
      subst HasMetNothing
      (same_Some p q (sym live ∙ ap (λ x. live_process x v.pid) (sym system) ∙ later)) (none-unmet p unmet_all)

  refused-unmet : run_refused p ≡ true → met_in p ≡ 0
  refused-unmet refuses = by (met_in p) refl
    where
      by : (m : ℕ) → met_in p ≡ m → met_in p ≡ 0
      by zero zeroth = zeroth
      by (suc m) some =
          let stopped = waits-stopped p rises none m (record { frozen = frozen; count = some }) in
          let first = stopped-first p stopped in
          absurd (false≢true (sym (run-granted p first.lwp none first.is first.stands) ∙ refuses))

  pub ran-unmet : HasMetNothing q
  ran-unmet = by (v.pid == 0) (run_refused p) refl refl it
    where
      by : (zeroth refuses : Bool) → (v.pid == 0) ≡ zeroth → run_refused p ≡ refuses
          → a
          ≡ controlled s
          (cond zeroth (refused s.system (system_refusal (message.Run flags)))
          (cond refuses (refused s.system Busy) (with_process_changed s.system v.pid p 16 (with_run flags))))
          → HasMetNothing q
      by true refuses zero_pid other same_answer =
          let there = (found-live s.system v.pid p live).0 in
          let system : p ≡ system_process =
          same_Some p system_process
          (sym there ∙ ap (process_of s.system) (eqb-true v.pid 0 zero_pid)
          ∙ (let w = lawful.system in w.first)) in
          same (ap (λ (x : TracedProcess). met_in x) system ∙ system-unmet)
          (ap (λ (x : Answer). x.state.system) same_answer)
      by false true other refuses same_answer =
          same (refused-unmet refuses) (ap (λ (x : Answer). x.state.system) same_answer)
      by false false other granted same_answer =
          let now : live_process a.state.system v.pid ≡ Some (with_run flags p) =
          ap (λ (x : Answer). live_process x.state.system v.pid) same_answer
          ∙ live-changed s.system v.pid (with_run flags) p live (run-ended flags p) in
          subst HasMetNothing (same_Some (with_run flags p) q (sym now ∙ later))
          (stood-run flags p rises none frozen stood)

-- PCRUN that ends an opening, where one lwp at most stands on an event that it met
module _ (n k : ℕ) (o : Options) (s : TracedState) (lawful : IsLawful s) (c : Call) (a : Answer)
    (answer : answer_to s k c ≡ Some a)
    (over : (pid : ℕ) → pid < s.system.made → live_process s.system pid ≡ None
    → live_process a.state.system pid ≡ None) (v : Traced) (its : HasControl k v.pid v.control s)
    (accepted : answer_of a.reply ≡ Accepted) (is : c ≡ message_call v.control (message.Run 0))
    (counted : (p : TracedProcess) → live_process s.system v.pid ≡ Some p → IsCounted 1 p) (q : TracedProcess)
    (later : live_process a.state.system v.pid ≡ Some q) where
  pub start-unmet : HasMetNothing q
  start-unmet =
      let was =
      by-process n k o s lawful c a answer over v.pid v.control (spelling (message.Run 0) []) is its
      (λ p x. Unit {0}) (λ p x live now. tt) q later in
      let none =
      ran-alone n k o s lawful c a answer over v.pid v.control (spelling (message.Run 0) []) is its 0 run-reads
      accepted was.0 was.1.0 in
      let few = counted was.0 was.1.0 in
      let stopped = few.stopped in
      let own = live-lawful s.system v.pid was.0 lawful.system was.1.0 in
      let now =
      run-live s k v.control (held_by k v.pid 0 file.Ctl WriteExcl) its refl was.0 was.1.0 a
      (ap (answer_to s k) (sym is) ∙ answer) accepted in
      subst HasMetNothing (same_Some (with_run 0 was.0) q (sym now ∙ later))
      (run-one was.0 own.rising none (stopped.frozen none) (few.few none))
