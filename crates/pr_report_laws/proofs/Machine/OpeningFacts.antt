use Rattle.std.proofs.Common.{◌≡◌, ◌%◌, ◌^◌, ◌-◌, ℕ, suc, Bool, true, false, cond, None, Some, Option, [], All, length, refl, sym, subst, ap, ◌∙◌, arith, inl, inr}
use Rattle.std.proofs.lemmas.Bool.{cases_Bool}
use Rattle.std.proofs.lemmas.Option.{none-some, same_Some}
use Rattle.pr_laws.proofs.RunLemmas.{representative-stands}
use Rattle.pr_lawful.proofs.LawfulTurns.EndLemmas.{found-live}
use Rattle.pr_lawful.proofs.Following.UseLemmas.{live-lawful}
use Rattle.pr_line.specs.declared.options.Options.{Options}
use Rattle.pr_model.specs.Calls.{Answer, answer_to}
use Rattle.pr_model.specs.Handles.{handle_of}
use Rattle.pr_model.specs.Lawful.{IsLawful}
use Rattle.pr_model.specs.Messages.{tracing_entries, tracing_exits, tracing_faults, tracing_signals, with_control, with_modes, without_modes}
use Rattle.pr_model.specs.Records.{lstatus_of}
use Rattle.pr_model.specs.Replies.{bytes_in, number_of, until_in}
use Rattle.pr_model.specs.State.{TracedControl, TracedProcess, TracedState, TracedSystem, has_agent, live_process}
use Rattle.pr_model.specs.Stops.{is_stopped}
use Rattle.pr_model.specs.declared.calls.Call.TheVariants as call
use Rattle.pr_model.specs.declared.calls.File.TheVariants.{Ctl, Lstatus}
use Rattle.pr_model.specs.declared.handles.Held.{Held}
use Rattle.pr_num.proofs.ByIdLaws.{All-under}
use Rattle.pr_num.specs.ById.{IsRising}
use Rattle.pr_num.specs.Control.{fork_mode, rlc_mode}
use Rattle.pr_num.specs.Messages.{spelling}
use Rattle.pr_num.specs.declared.messages.Message.{Message}
use Rattle.pr_num.specs.declared.messages.Message.TheVariants as message
use Rattle.pr_rec.specs.InRange.{IsLwpStatus}
use Rattle.pr_truss.specs.Messages.{all_modes, message_call, traced_entries, traced_exits, traced_faults, traced_signals}
use Rattle.pr_truss.specs.NextCalls.{opening_call, read_record, run_call}
use Rattle.pr_truss.specs.Openings.{learnt, step_after}
use Rattle.pr_truss.specs.Records.{event_stops}
use Rattle.pr_truss.specs.Replies.{answer_of}
use Rattle.pr_truss.specs.declared.processes.Traced.{Traced}
use Rattle.pr_truss.specs.declared.replies.Answer.TheVariants.{Accepted, Gone}
use Rattle.pr_truss.specs.declared.stages.OpeningStep.{OpeningStep}
use Rattle.pr_truss.specs.declared.stages.OpeningStep.TheVariants as opening
use Rattle.pr_truss_laws.specs.Stills.{IsHalting, IsQuiet}
use Rattle.pr_report_laws.proofs.Machine.ControlLaws.{entries-set, exits-set, faults-set, follow-set, message-gone, modes-cleared, release-set, signals-set, stop-asked, wait-gone, wait-stays, wait-stopped}
use Rattle.pr_report_laws.proofs.Machine.EventStopLemmas.{stops-met}
use Rattle.pr_report_laws.proofs.Replies.OpeningParts.{HasStarted, IsStepDone}
use Rattle.pr_report_laws.proofs.Machine.OpeningSets.{exits-traced, plain-of, plain-spared, stop-stopped, with-entries, with-exits, with-faults, with-follow, with-signals}
use Rattle.pr_report_laws.proofs.Machine.RecordLaws.{lstatus-ended, lstatus-read}
use Rattle.pr_report_laws.proofs.Machine.RunLaws.{HasRun, run-accepted, run-agent-refused}
use Rattle.pr_report_laws.proofs.Machine.SettingLaws.{cleared-plain, release-plain}
use Rattle.pr_report_laws.proofs.Invariant.Standing.{HasEntries, HasExits, HasFaults, HasSignals, IsAttached, IsCounted, IsSpared, Opened}
use Rattle.pr_report_laws.proofs.Machine.StoppedLaws.{stopped-first, stopped-waits}
use Rattle.pr_reached.specs.Fits.{IsFitProcess, IsFitSystem}
use Rattle.pr_report_laws.proofs.Invariant.Positions.{IsTracedBy, Waits, met_in}

-- What the machine does at each step of an opening to the process that truss opens.

-- ---- the calls

-- The file of the lwps of a process that truss opens, as truss remembers it.
pub record HasLstatus (k : ℕ) (s : TracedState) (pid : ℕ) (x : Traced) : Type 0 where
  pub handle : Held
  pub opened : handle_of s.opens k (number_of x.lstatus) ≡ Some handle
  pub file : handle.file ≡ Lstatus
  pub own : handle.pid ≡ pid

module _ (s : TracedState) (k : ℕ) (h : Held) (o : Options) (x : Traced)
    (held : handle_of s.opens k x.control ≡ Some h) (control : h.file ≡ Ctl) (a : Answer)
    (accepted : answer_of a.reply ≡ Accepted) where
  abbrev Live : TracedProcess → Type 0
  Live p = live_process s.system h.pid ≡ Some p

  abbrev Later : TracedProcess → Type 0
  Later q = live_process a.state.system h.pid ≡ Some q

  -- what was asked of the process before a step
  abbrev Asked : OpeningStep → Type 0
  Asked step = (p : TracedProcess) → Live p → Opened o step p x.old

  not-gone : answer_of a.reply ≡ Gone → ⊥
  not-gone gone = let e = sym gone ∙ accepted in cc

  -- a call that was accepted found the process alive
  message-lived : (msg : Message) → answer_to s k (message_call x.control msg) ≡ Some a → (p : TracedProcess) × Live p
  message-lived msg is = by (live_process s.system h.pid) refl
    where
      by : (y : Option TracedProcess) → live_process s.system h.pid ≡ y → (p : TracedProcess) × Live p
      by None ended = absurd (not-gone (let g = message-gone s k x.control h held control msg a ended is in g.gone))
      by (Some p) live = (p, live)

  -- what holds of the process that a call left holds of the one that lives later
  later-is : (P : TracedProcess → Type 0) (y q : TracedProcess) → Later y → Later q → P y → P q
  later-is P y q now later holds = subst P (same_Some y q (sym now ∙ later)) holds

  -- the step that comes next
  abbrev Done : OpeningStep → Type 0
  Done step =
      (next : OpeningStep) (q : TracedProcess) → step_after o a.reply step ≡ Some next → Later q → Asked step
      → Opened o next q (learnt x a.reply step).old

  then-comes : (step now : OpeningStep) → step_after o a.reply step ≡ Some now
      → ((q : TracedProcess) → Later q → Asked step → Opened o now q (learnt x a.reply step).old) → Done step
  then-comes step now is done next q after later asked =
      subst (λ n. Opened o n q (learnt x a.reply step).old) (same_Some now next (sym is ∙ after)) (done q later asked)

  -- ---- the modes, and the stop

  clear-done : answer_to s k (message_call x.control (message.Unset all_modes)) ≡ Some a → Done opening.ClearModes
  unfolding Opened step_after
  clear-done is = then-comes opening.ClearModes opening.SetRelease refl (λ q later asked.
      let l = message-lived (message.Unset all_modes) is in
      let now = modes-cleared s k x.control h held control l.0 l.1 a is accepted in
      later-is IsSpared (with_control (without_modes all_modes) l.0) q now later
      (plain-spared (without_modes all_modes) l.0 (cleared-plain l.0.control)))

  release-done : answer_to s k (message_call x.control (message.Set rlc_mode)) ≡ Some a → Done opening.SetRelease
  unfolding Opened step_after
  release-done is = then-comes opening.SetRelease opening.Stop refl (λ q later asked.
      let l = message-lived (message.Set rlc_mode) is in
      let now = release-set s k x.control h held control l.0 l.1 a is accepted in
      later-is IsSpared (with_control (with_modes rlc_mode) l.0) q now later
      (plain-spared (with_modes rlc_mode) l.0 (release-plain l.0.control (plain-of l.0 (asked l.0 l.1)))))

  stop-until : answer_to s k (message_call x.control message.Stop) ≡ Some a → until_in a.reply ≡ 0
  stop-until is =
      let l = message-lived message.Stop is in
      let st = stop-asked s k x.control h held control l.0 l.1 a is accepted in
      st.until

  stop-done : answer_to s k (message_call x.control message.Stop) ≡ Some a → Done opening.Stop
  unfolding Opened step_after
  stop-done is = then-comes opening.Stop (opening.AwaitStop (until_in a.reply)) refl (λ q later asked.
      let l = message-lived message.Stop is in
      let st = stop-asked s k x.control h held control l.0 l.1 a is accepted in
      let spared = asked l.0 l.1 in
      let same : st.process ≡ q = same_Some st.process q (sym st.live ∙ later) in
      let kept : IsSpared st.process =
      subst (λ (c : TracedControl). IsSpared (record (st.process) { control = c })) (sym st.control) (record {
        directs = spared.directs;
        spares = spared.spares;
      }) in
      (subst IsSpared same kept, subst IsHalting same st.halting))

  -- ---- the wait for it

  wait-lived : answer_to s k (call.CtlWait x.control 0 (spelling message.Stop [])) ≡ Some a
      → (p : TracedProcess) × Live p
  wait-lived is = by (live_process s.system h.pid) refl
    where
      by : (y : Option TracedProcess) → live_process s.system h.pid ≡ y → (p : TracedProcess) × Live p
      by None ended = absurd (not-gone (let g = wait-gone s k x.control h held control a ended is in g.gone))
      by (Some p) live = (p, live)

  module _ (lawful : IsLawful s) where
    rising-of : (p : TracedProcess) → Live p → IsRising p.lwps
    rising-of p live = let l = live-lawful s.system h.pid p lawful.system live in l.rising

    stopped-attached : (p : TracedProcess) → Live p → is_stopped p ≡ true → IsSpared p → IsHalting p → IsAttached p
    stopped-attached p live stopped spared halting = record {
      spared = spared;
      halting = halting;
      stops =
          λ none. let f =
          stopped-first p stopped in record {
            id = f.lwp.0;
            lwp = f.lwp.1;
            there = representative-stands p f.lwp (rising-of p live) f.is;
            stops = f.stands;
          };
      waits = λ none. stopped-waits p (rising-of p live) none stopped;
    }

    wait-done : (until : ℕ) → until ≡ 0
        → answer_to s k (call.CtlWait x.control until (spelling message.Stop [])) ≡ Some a
        → Done (opening.AwaitStop until)
    unfolding Opened step_after
    wait-done until none is = then-comes (opening.AwaitStop until) opening.ReadLwps refl (λ q later asked.
        let now =
        subst (λ (n : ℕ). answer_to s k (call.CtlWait x.control n (spelling message.Stop [])) ≡ Some a) none is in
        let l = wait-lived now in
        let stays : Later l.0 =
        ap (λ (y : TracedSystem). live_process y h.pid)
        (wait-stays s k x.control h held control until (spelling message.Stop []) a is) ∙ l.1 in
        let stopped = wait-stopped s k x.control h held control l.0 l.1 a now accepted in
        let was = asked l.0 l.1 in
        later-is IsAttached l.0 q stays later (stopped-attached l.0 l.1 stopped was.0 was.1))

    -- ---- the look at the old stops

    module _ (fit : IsFitSystem s.system) (records : (p : TracedProcess) → Live p → All IsLwpStatus (lstatus_of p))
        (file : HasLstatus k s h.pid x) where
      there : (y : Option TracedProcess) → live_process s.system h.pid ≡ y → live_process s.system file.handle.pid ≡ y
      there y is = ap (live_process s.system) file.own ∙ is

      look-lived : answer_to s k (read_record x.lstatus) ≡ Some a → (p : TracedProcess) × Live p
      look-lived is = by (live_process s.system h.pid) refl
        where
          by : (y : Option TracedProcess) → live_process s.system h.pid ≡ y → (p : TracedProcess) × Live p
          by None ended =
              absurd (not-gone
              (let g = lstatus-ended s k (number_of x.lstatus) file.handle file.opened a file.file
              (there None ended) is in g.gone))
          by (Some p) live = (p, live)

      fits : (p : TracedProcess) → Live p → IsFitProcess p
      fits p live =
          All-under (λ (e : ℕ × TracedProcess). IsFitProcess e.1) h.pid p s.system.processes fit.processes
          (found-live s.system h.pid p live).0

      look-done : answer_to s k (read_record x.lstatus) ≡ Some a → Done opening.ReadLwps
      unfolding Opened step_after learnt
      look-done is = then-comes opening.ReadLwps opening.TraceSignals refl (λ q later asked.
          let l = look-lived is in
          let own = live-lawful s.system h.pid l.0 lawful.system l.1 in
          let sees =
          lstatus-read s k (number_of x.lstatus) file.handle file.opened a l.0 (there (Some l.0) l.1) file.file
          (records l.0 l.1) own.few_lwps is in
          let stays : Later l.0 = ap (λ (y : TracedState). live_process y.system h.pid) sees.state ∙ l.1 in
          let old : ℕ = length (event_stops (bytes_in a.reply)) - 1 in
          let counts : old ≡ met_in l.0 - 1 =
          ap (λ stops. length stops - 1) sees.stops ∙ ap (λ (n : ℕ). n - 1) (stops-met l.0 (fits l.0 l.1)) in
          later-is (λ (y : TracedProcess). IsCounted y old) l.0 q stays later (record {
            attached = asked l.0 l.1;
            counts = λ none. counts;
          }))

  -- ---- what is traced

  signals-done : answer_to s k (message_call x.control (message.Strace (traced_signals o))) ≡ Some a
      → Done opening.TraceSignals
  unfolding Opened step_after learnt
  signals-done is = then-comes opening.TraceSignals opening.TraceFaults refl (λ q later asked.
      let l = message-lived (message.Strace (traced_signals o)) is in
      let now = signals-set s k x.control h held control l.0 l.1 o a is accepted in
      later-is (λ (y : TracedProcess). HasSignals o y x.old) (with_control (tracing_signals (traced_signals o)) l.0) q
      now later (with-signals o l.0 x.old (asked l.0 l.1)))

  faults-done : answer_to s k (message_call x.control (message.Sfault (traced_faults o))) ≡ Some a
      → Done opening.TraceFaults
  unfolding Opened step_after learnt
  faults-done is = then-comes opening.TraceFaults opening.TraceEntries refl (λ q later asked.
      let l = message-lived (message.Sfault (traced_faults o)) is in
      let now = faults-set s k x.control h held control l.0 l.1 o a is accepted in
      later-is (λ (y : TracedProcess). HasFaults o y x.old)
      (with_control (tracing_faults (traced_faults o % 2 ^ 64)) l.0) q now later
      (with-faults o l.0 x.old (asked l.0 l.1)))

  entries-done : answer_to s k (message_call x.control (message.Sentry (traced_entries o))) ≡ Some a
      → Done opening.TraceEntries
  unfolding Opened step_after learnt
  entries-done is = then-comes opening.TraceEntries opening.TraceExits refl (λ q later asked.
      let l = message-lived (message.Sentry (traced_entries o)) is in
      let now = entries-set s k x.control h held control l.0 l.1 o a is accepted in
      later-is (λ (y : TracedProcess). HasEntries o y x.old)
      (with_control (tracing_entries (traced_entries o)) l.0) q now later
      (with-entries o l.0 x.old (asked l.0 l.1)))

  -- before the children are followed, and before the process is run, the same is asked of it
  exits-asked : (b : Bool) (q : TracedProcess) → HasExits o q x.old
      → Opened o (cond b opening.Follow opening.Start) q x.old
  unfolding Opened
  exits-asked true q e = e
  exits-asked false q e = e

  exits-done : answer_to s k (message_call x.control (message.Sexit (traced_exits o))) ≡ Some a
      → Done opening.TraceExits
  unfolding Opened step_after learnt
  exits-done is = then-comes opening.TraceExits (cond o.follow opening.Follow opening.Start) refl (λ q later asked.
      let l = message-lived (message.Sexit (traced_exits o)) is in
      let now = exits-set s k x.control h held control l.0 l.1 o a is accepted in
      later-is (λ (y : TracedProcess). Opened o (cond o.follow opening.Follow opening.Start) y x.old)
      (with_control (tracing_exits (traced_exits o)) l.0) q now later
      (exits-asked o.follow (with_control (tracing_exits (traced_exits o)) l.0)
      (with-exits o l.0 x.old (asked l.0 l.1))))

  follow-done : answer_to s k (message_call x.control (message.Set fork_mode)) ≡ Some a → Done opening.Follow
  unfolding Opened step_after learnt
  follow-done is = then-comes opening.Follow opening.Start refl (λ q later asked.
      let l = message-lived (message.Set fork_mode) is in
      let now = follow-set s k x.control h held control l.0 l.1 a is accepted in
      later-is (λ (y : TracedProcess). HasExits o y x.old) (with_control (with_modes fork_mode) l.0) q now later
      (with-follow o l.0 x.old (asked l.0 l.1)))

  -- ---- the process runs

  module _ (rises : (p : TracedProcess) → Live p → IsRising p.lwps)
      (is : answer_to s k (run_call x.control) ≡ Some a) where
    no-agent : (p : TracedProcess) → Live p → has_agent p ≡ false
    no-agent p live =
        elim (cases_Bool (has_agent p)) [
          | inl agent ↦ absurd
              (run-agent-refused s k x.control h held control p live a agent is accepted)
          | inr none ↦ none
        ]

    has-run : (p : TracedProcess) → Live p → HasExits o p x.old → HasRun o p (met_in p) h.pid a.state.system
    has-run p live e =
        let none = no-agent p live in
        let attached : IsAttached p = e.before.before.before.counted.attached in
        let waits : Waits p (met_in p) = attached.waits none in
        let stopped = stop-stopped p (rises p live) none waits.frozen (attached.stops none) in
        run-accepted s k x.control h held control p live o (met_in p) a (rises p live)
        (exits-traced o p x.old e none) waits stopped is accepted

    run-started : (p q : TracedProcess) → Live p → Later q → HasExits o p x.old → HasStarted o x.old q
    run-started p q live later e =
        let run = has-run p live e in
        let same : run.process ≡ q = same_Some run.process q (sym run.live ∙ later) in
        let counts : x.old ≡ met_in p - 1 = e.before.before.before.counted.counts (no-agent p live) in
        record {
          traced = subst (IsTracedBy o) same run.traced;
          quiet = λ none. subst IsQuiet same (run.quiet (omega arith));
          waits = λ n some. subst (λ (y : TracedProcess). Waits y (suc n)) same (run.waits n (omega arith));
        }

    start-done : Done opening.Start
    unfolding step_after
    start-done next q after later asked = absurd (none-some next after)

    start-lived : (p : TracedProcess) × Live p
    start-lived = message-lived (message.Run 0) is

    started : (q : TracedProcess) → Later q → Asked opening.Start → HasStarted o x.old q
    unfolding Opened
    started q later asked = let l = start-lived in run-started l.0 q l.1 later (asked l.0 l.1)

  -- ---- the opens of its other files

  opens-done : (step now : OpeningStep) → step_after o a.reply step ≡ Some now
      → ((q : TracedProcess) → Opened o now q (learnt x a.reply step).old) → Done step
  opens-done step now after nothing = then-comes step now after (λ q later asked. nothing q)

  status-done : Done opening.OpenStatus
  unfolding Opened step_after
  status-done = opens-done opening.OpenStatus opening.OpenLstatus refl (λ q. tt)

  lstatus-done : Done opening.OpenLstatus
  unfolding Opened step_after
  lstatus-done = opens-done opening.OpenLstatus opening.OpenMemory refl (λ q. tt)

  memory-done : Done opening.OpenMemory
  unfolding Opened step_after
  memory-done = opens-done opening.OpenMemory opening.ClearModes refl (λ q. tt)

  -- The wait for a stop that was asked for has no end.
  pub stop-has-no-end : (step : OpeningStep) → step ≡ opening.Stop → answer_to s k (opening_call o x step) ≡ Some a
      → until_in a.reply ≡ 0
  unfolding opening_call
  stop-has-no-end now last is =
      stop-until (subst (λ (st : OpeningStep). answer_to s k (opening_call o x st) ≡ Some a) last is)

  -- ---- a step

  module _ (lawful : IsLawful s) (fit : IsFitSystem s.system)
      (records : (p : TracedProcess) → Live p → All IsLwpStatus (lstatus_of p)) where
    not-last : (step : OpeningStep) → Done step → (step ≡ opening.Start → ⊥)
        → IsStepDone o h.pid x a.reply step s a.state
    not-last now done other = record {
      done = done;
      lived = λ q last later. absurd (other last);
      started = λ q last later asked. absurd (other last);
    }

    pub opening-done : (step : OpeningStep) → ((n : ℕ) → step ≡ opening.AwaitStop n → n ≡ 0)
        → (step ≡ opening.ReadLwps → HasLstatus k s h.pid x)
        → answer_to s k (opening_call o x step) ≡ Some a → IsStepDone o h.pid x a.reply step s a.state
    unfolding opening_call
    opening-done opening.OpenStatus until file is = not-last opening.OpenStatus status-done (λ e. cc)
    opening-done opening.OpenLstatus until file is = not-last opening.OpenLstatus lstatus-done (λ e. cc)
    opening-done opening.OpenMemory until file is = not-last opening.OpenMemory memory-done (λ e. cc)
    opening-done opening.ClearModes until file is = not-last opening.ClearModes (clear-done is) (λ e. cc)
    opening-done opening.SetRelease until file is = not-last opening.SetRelease (release-done is) (λ e. cc)
    opening-done opening.Stop until file is = not-last opening.Stop (stop-done is) (λ e. cc)
    opening-done (opening.AwaitStop n) until file is =
        not-last (opening.AwaitStop n) (wait-done lawful n (until n refl) is) (λ e. cc)
    opening-done opening.ReadLwps until file is =
        not-last opening.ReadLwps (look-done lawful fit records (file refl) is) (λ e. cc)
    opening-done opening.TraceSignals until file is = not-last opening.TraceSignals (signals-done is) (λ e. cc)
    opening-done opening.TraceFaults until file is = not-last opening.TraceFaults (faults-done is) (λ e. cc)
    opening-done opening.TraceEntries until file is = not-last opening.TraceEntries (entries-done is) (λ e. cc)
    opening-done opening.TraceExits until file is = not-last opening.TraceExits (exits-done is) (λ e. cc)
    opening-done opening.Follow until file is = not-last opening.Follow (follow-done is) (λ e. cc)
    opening-done opening.Start until file is = record {
      done = start-done (rising-of lawful) is;
      lived = λ q last later. start-lived (rising-of lawful) is;
      started = λ q last later asked. started (rising-of lawful) is q later asked;
    }
