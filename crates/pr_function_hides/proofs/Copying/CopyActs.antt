use Rattle.std.proofs.Common.{◌≡◌, ◌≢◌, ◌<◌, ◌==◌, ◌&&◌, ◌⊎◌, ℕ, Bool, true, false, cond, not, Ok, Option, Some, None}
use Rattle.std.proofs.Common.{List, [], length, refl, sym, subst, ap, ◌∙◌, inl, inr}
use Rattle.std.proofs.lemmas.Bool.{eqb-true}
use Rattle.std.proofs.lemmas.Option.{none-some, same_Some}
use Rattle.std.specs.List.{slice_set}
use Rattle.pr_lawful.proofs.LawfulTurns.EndLemmas.{found-live}
use Rattle.pr_lawful.proofs.ProcessParts.FileLemmas.{choice}
use Rattle.pr_lawful.proofs.Following.UseLemmas.{live-lawful}
use Rattle.pr_laws.proofs.RefusalLemmas.{refused-leaves}
use Rattle.pr_laws.specs.Refusals.{LeavesIfRefused}
use Rattle.pr_line.specs.declared.options.Options.{Options}
use Rattle.pr_model.specs.Calls.{Answer, answer_to, close_answer, close_held, controlled}
use Rattle.pr_model.specs.ControlMessages.{decoded_answer, system_refusal, tail_of, targeted_answer}
use Rattle.pr_model.specs.Handles.{after_last_close, handle_of, has_writer, is_writable, with_closed}
use Rattle.pr_model.specs.Lawful.{IsLawful}
use Rattle.pr_model.specs.Messages.{message_answer, refused, run_answer, with_process_changed}
use Rattle.pr_model.specs.Running.{run_refused, runs_one, with_all_run, with_one_run, with_run}
use Rattle.pr_model.specs.State.{TracedProcess, TracedState, live_process, with_lwp}
use Rattle.pr_model.specs.Stops.{representative}
use Rattle.pr_model.specs.declared.calls.Call.{Call}
use Rattle.pr_model.specs.declared.calls.Call.TheVariants as call
use Rattle.pr_model.specs.declared.calls.File.TheVariants as file
use Rattle.pr_model.specs.declared.calls.Mode.TheVariants.{Read, WriteExcl}
use Rattle.pr_model.specs.declared.calls.Reply.{Reply}
use Rattle.pr_model.specs.declared.calls.Reply.TheVariants as reply
use Rattle.pr_model.specs.declared.handles.Held.{Held}
use Rattle.pr_num.proofs.ByIdLaws.{All-under}
use Rattle.pr_num.specs.Messages.{bad_operand, encoded_length, first_message, in_columns, message_code, message_read}
use Rattle.pr_num.specs.Messages.{nth_word, one_word, operand_count, operands, spelling, tail_length, unpadded_length}
use Rattle.pr_num.specs.Messages.{with_tail}
use Rattle.pr_num.specs.Words.{word_bytes, word_of}
use Rattle.pr_num.specs.declared.errnos.Errno.TheVariants.{Busy}
use Rattle.pr_num.specs.declared.messages.Message.TheVariants as message
use Rattle.pr_reached.proofs.RecordsInRange.EntryRanges.{records-range}
use Rattle.pr_reached.specs.Fits.{IsFitProcess}
use Rattle.pr_reached.specs.Reached.{IsReached}
use Rattle.pr_report_laws.proofs.Invariant.OtherSteps.{lives-later}
use Rattle.pr_report_laws.proofs.Machine.EventStopLemmas.{stops-met}
use Rattle.pr_report_laws.proofs.Machine.RecordLaws.{lstatus-read}
use Rattle.pr_report_laws.specs.AtBirth.{met_in}
use Rattle.pr_truss.specs.NextCalls.{read_record}
use Rattle.pr_truss.specs.Messages.{message_call}
use Rattle.pr_truss.specs.Records.{event_stops}
use Rattle.pr_truss.specs.Replies.{answer_of, refusal_of}
use Rattle.pr_truss.specs.Trusses.{first_truss}
use Rattle.pr_truss.specs.declared.processes.Traced.{Traced}
use Rattle.pr_truss.specs.declared.replies.Answer.TheVariants.{Accepted, Interrupted}
use Rattle.pr_model.specs.Replies.{bytes_in}
use Rattle.pr_truss_laws.proofs.Files.OpensLemmas.{held_by, looking-stays}
use Rattle.pr_truss_laws.proofs.Machine.OutlastLemmas.{own-call-elsewhere}
use Rattle.pr_truss_laws.proofs.Machine.StillLemmas.{live-changed}
use Rattle.pr_truss_laws.proofs.Machine.TakenLemmas.{ctl-is, process-aim}
use Rattle.pr_truss_laws.specs.Stills.{IsUndisturbed}
use Rattle.pr_function_laws.proofs.OpenedProcesses.OpenedLemmas.{by-process, control-made, control-sole}
use Rattle.pr_function_laws.proofs.OpenedProcesses.StoodCalls.{BeginLeavingLwps, KeepsLwps, message-lwps}
use Rattle.pr_function_laws.proofs.Stepping.StretchLemmas as stretch
use Rattle.pr_function_laws.specs.Lifted.{HasControl}
use Rattle.pr_function_laws.specs.Stretches.{acts_by}
use Rattle.pr_function_hides.proofs.Copying.CopyPlaces.{IsRunFlags, both, clears, no_flags, steps}

-- What a call of truss makes of a process: it leaves it alone, or its lwps, or runs it.

-- ---- PCRUN as it is read

abbrev IsReadSo : ℕ → Type 0
IsReadSo flags = first_message (spelling (message.Run flags) []) ≡ Ok (message.Run flags, 16)

pub run-read : (flags : ℕ) → IsRunFlags flags → IsReadSo flags
unfolding first_message message_read message_code operands nth_word word_bytes word_of one_word in_columns bad_operand
    with_tail encoded_length unpadded_length operand_count tail_length
run-read flags (no_flags is) = subst IsReadSo (sym is) refl
run-read flags (clears is) = subst IsReadSo (sym is) refl
run-read flags (steps is) = subst IsReadSo (sym is) refl
run-read flags (both is) = subst IsReadSo (sym is) refl

-- a file is closed that is open for reading
closed-system : (s : TracedState) (m : ℕ) (h : Held) → is_writable h.mode ≡ false
    → (with_closed h m s).system ≡ s.system
unfolding with_closed
closed-system s m h reads =
    ap (λ b. cond (b && not (has_writer h.pid (slice_set s.opens m None)))
    (after_last_close h.pid (live_process s.system h.pid) s.system) s.system) reads

module _ (n k : ℕ) (s : TracedState) (lawful : IsLawful s) (c : Call) (a : Answer) (answer : answer_to s k c ≡ Some a)
    (over : (pid : ℕ) → pid < s.system.made → live_process s.system pid ≡ None
    → live_process a.state.system pid ≡ None) where
  -- ---- a call that is refused

  -- but for an interrupt, it leaves the state
  pub refused-same : answer_of a.reply ≢ Accepted → answer_of a.reply ≢ Interrupted → a.state ≡ s
  unfolding answer_of
  refused-same other calm = by a.reply refl (refused-leaves s k c a answer)
    where
      by : (r : Reply) → a.reply ≡ r → LeavesIfRefused s k (record { state = a.state; reply = r }) → a.state ≡ s
      by (reply.Fail e) is (inl same) = same
      by (reply.Fail e) is (inr w) = absurd (calm (ap answer_of is ∙ ap refusal_of w.0))
      by _ is w = absurd (other (ap answer_of is))

  -- ---- a process that lives later

  module _ (pid control : ℕ) (its : HasControl k pid control s) where
    pub lived : (q : TracedProcess) → live_process a.state.system pid ≡ Some q
        → (p : TracedProcess) × (live_process s.system pid ≡ Some p)
    lived q later = by (live_process s.system pid) refl
      where
        by : (x : Option TracedProcess) → live_process s.system pid ≡ x
            → (p : TracedProcess) × (live_process s.system pid ≡ Some p)
        by None none = absurd (none-some q (sym (over pid (control-made k pid control s lawful its) none) ∙ later))
        by (Some p) live = (p, live)

    -- where the call acts on another process, or on none
    pub elsewhere-alone : (o : Options)
        → ((m : ℕ) (held : Held) → acts_by c ≡ Some m → handle_of s.opens k m ≡ Some held → held.pid ≢ pid)
        → (q : TracedProcess) → live_process a.state.system pid ≡ Some q
        → (p : TracedProcess) × ((live_process s.system pid ≡ Some p) × IsUndisturbed p q)
    elsewhere-alone o away q later =
        let made = control-made k pid control s lawful its in
        let sole = control-sole k pid control s lawful its in
        lives-later o pid (first_truss o) s a.state
        (λ p live. own-call-elsewhere s k pid c a p lawful (λ m g named there.
        away m g (stretch.named-acts n k pid 0 control s lawful sole made c m named) there) answer live)
        (over pid made) q later

  -- a message to the process that leaves its lwps
  module _ (o : Options) (v : Traced) (its : HasControl k v.pid v.control s) (bytes : List ℕ)
      (is : c ≡ call.Ctl v.control bytes) where
    pub sent-lwps : BeginLeavingLwps bytes → (q : TracedProcess) → live_process a.state.system v.pid ≡ Some q
        → (p : TracedProcess) × ((live_process s.system v.pid ≡ Some p) × KeepsLwps p q)
    sent-lwps begins q later =
        by-process n k o s lawful c a answer over v.pid v.control bytes is its KeepsLwps
        (λ p x live now. message-lwps n k o s lawful c a answer over v bytes is its p x live now begins) q later

  -- a file is closed that is open for reading
  pub read-closed : (m : ℕ) (held : Held) → handle_of s.opens k m ≡ Some held → is_writable held.mode ≡ false
      → c ≡ call.Close m → a.state.system ≡ s.system
  unfolding answer_to close_answer
  read-closed m held there reads is =
      let it : a ≡ close_held s m (Some held) =
      sym (same_Some _ a (ap (answer_to s k) (sym is) ∙ answer)) ∙ ap (close_held s m) there in
      ap (λ (x : Answer). x.state.system) it ∙ closed-system s m held reads

  -- ---- PCRUN

  run-ended : (flags : ℕ) (p : TracedProcess) → (with_run flags p).ended ≡ p.ended
  unfolding with_run with_all_run with_lwp
  run-ended flags p =
      choice (λ (x : TracedProcess). x.ended ≡ p.ended) (runs_one flags) _ _ (λ one. by (representative p))
      (λ many. refl)
    where
      by : (r : Option _) → (with_one_run flags r p).ended ≡ p.ended
      by None = refl
      by (Some e) = refl

  -- it runs the process, or is refused and leaves the system
  pub data HasRunSo (v : Traced) (flags : ℕ) (p : TracedProcess) : Type 0 where
    ran : run_refused p ≡ false → live_process a.state.system v.pid ≡ Some (with_run flags p) → HasRunSo v flags p
    left : (v.pid ≡ 0) ⊎ (run_refused p ≡ true) → a.state.system ≡ s.system → HasRunSo v flags p

  -- with whatever run flags
  pub run-does : (v : Traced) (flags : ℕ) → IsRunFlags flags → HasControl k v.pid v.control s
      → c ≡ message_call v.control (message.Run flags) → (p : TracedProcess) → live_process s.system v.pid ≡ Some p
      → HasRunSo v flags p
  unfolding message_answer run_answer
  run-does v flags few its is p live = by (v.pid == 0) (run_refused p) refl refl it
    where
      bytes : List ℕ
      bytes = spelling (message.Run flags) []

      h : Held
      h = held_by k v.pid 0 file.Ctl WriteExcl

      it : a
          ≡ controlled s
          (cond (v.pid == 0) (refused s.system (system_refusal (message.Run flags)))
          (cond (run_refused p) (refused s.system Busy) (with_process_changed s.system v.pid p 16 (with_run flags))))
      it =
          ctl-is s k v.control h its refl bytes a (ap (answer_to s k) (sym is) ∙ answer)
          ∙ ap (λ o. controlled s (targeted_answer s.system h o bytes)) live
          ∙ ap (λ r. controlled s (decoded_answer s.system h p bytes r)) (run-read flags few)
          ∙ ap (λ x. controlled s
          (cond (v.pid == 0) (refused s.system (system_refusal (message.Run flags)))
          (message_answer s.system v.pid p x (message.Run flags) (tail_of (message.Run flags) bytes) 16)))
          (process-aim h refl)

      by : (zeroth refuses : Bool) → (v.pid == 0) ≡ zeroth → run_refused p ≡ refuses
          → a
          ≡ controlled s
          (cond zeroth (refused s.system (system_refusal (message.Run flags)))
          (cond refuses (refused s.system Busy) (with_process_changed s.system v.pid p 16 (with_run flags))))
          → HasRunSo v flags p
      by true refuses zero not same =
          left (inl (eqb-true v.pid 0 zero)) (ap (λ (x : Answer). x.state.system) same)
      by false true other refused_so same = left (inr refused_so) (ap (λ (x : Answer). x.state.system) same)
      by false false other granted same =
          ran granted
          (ap (λ (x : Answer). live_process x.state.system v.pid) same
          ∙ live-changed s.system v.pid (with_run flags) p live (run-ended flags p))

  -- ---- the look at the lwps

  -- truss counts the lwps that stand on events that they met
  pub lwps-counted-now : IsReached s → (v : Traced) (m : ℕ) → v.lstatus ≡ Some m
      → handle_of s.opens k m ≡ Some (held_by k v.pid 0 file.Lstatus Read) → c ≡ read_record v.lstatus
      → (q : TracedProcess) → live_process a.state.system v.pid ≡ Some q
      → (live_process s.system v.pid ≡ Some q) × (length (event_stops (bytes_in a.reply)) ≡ met_in q)
  lwps-counted-now reached v m known opened is q later =
      let answers : answer_to s k (read_record (Some m)) ≡ Some a =
      ap (answer_to s k) (ap read_record (sym known) ∙ sym is) ∙ answer in
      let state = looking-stays s k (read_record (Some m)) a refl answers in
      let live : live_process s.system v.pid ≡ Some q =
      ap (λ (x : TracedState). live_process x.system v.pid) (sym state) ∙ later in
      let found = found-live s.system v.pid q live in
      let own = live-lawful s.system v.pid q lawful.system live in
      let records = records-range s.system lawful.system reached.in_range in
      let its_records = records.processes v.pid q found.0 in
      let fits = All-under (λ (e : ℕ × TracedProcess). IsFitProcess e.1) v.pid q s.system.processes
      reached.fit.processes found.0 in
      let sees =
      lstatus-read s k m (held_by k v.pid 0 file.Lstatus Read) opened a q live refl its_records.lstatus own.few_lwps
      answers in
      (live, ap (λ stops. length stops) sees.stops ∙ stops-met q fits)
