use Rattle.std.proofs.Common.{◌≡◌, ◌≢◌, ◌<◌, ◌-◌, ◌+◌, ◌%◌, ◌^◌, ℕ, zero, suc, true, false, not, cond, nat_lt, Option, Some, None, List, [], length, refl, sym, subst, ap, ◌∙◌, arith, inl, inr}
use Rattle.std.proofs.lemmas.Bool.{cases_eq, lt-ltb, ne_eqb}
use Rattle.std.proofs.lemmas.List.{length-set}
use Rattle.std.proofs.lemmas.Option.{none-some, same_Some}
use Rattle.std.specs.List.{slice_set}
use Rattle.std.specs.Option.{option_and_then}
use Rattle.pr_laws.proofs.RunLemmas.{representative-stands}
use Rattle.pr_lawful.proofs.LawfulTurns.EndLemmas.{found-live}
use Rattle.pr_lawful.proofs.Following.UseLemmas.{live-lawful}
use Rattle.pr_line.specs.Events.{event_of}
use Rattle.pr_line.specs.declared.options.Options.{Options}
use Rattle.pr_model.specs.Calls.{Answer, answer_to}
use Rattle.pr_model.specs.Handles.{handle_of}
use Rattle.pr_model.specs.Lawful.{IsLawful}
use Rattle.pr_model.specs.Replies.{bytes_in}
use Rattle.pr_model.specs.Running.{with_run}
use Rattle.pr_model.specs.State.{TracedLwp, TracedProcess, TracedState, TracedSystem, has_agent, live_process}
use Rattle.pr_model.specs.Statuses.{status_of, status_of_found}
use Rattle.pr_model.specs.Stops.{representative}
use Rattle.pr_model.specs.declared.calls.Call.{Call}
use Rattle.pr_model.specs.declared.calls.Call.TheVariants as call
use Rattle.pr_model.specs.declared.calls.File.{File}
use Rattle.pr_model.specs.declared.calls.File.TheVariants as file
use Rattle.pr_model.specs.declared.calls.Mode.{Mode}
use Rattle.pr_model.specs.declared.calls.Mode.TheVariants.{Read, WriteExcl}
use Rattle.pr_model.specs.declared.calls.Reply.{Reply}
use Rattle.pr_model.specs.declared.handles.Held.{Held}
use Rattle.pr_num.proofs.ByIdLaws.{All-under}
use Rattle.pr_num.specs.ById.{IsRising}
use Rattle.pr_num.specs.Control.{fork_mode}
use Rattle.pr_num.specs.Limits.{all_faults, all_signals, instruction_size}
use Rattle.pr_num.specs.Messages.{spelling}
use Rattle.pr_num.specs.declared.messages.Message.{Message}
use Rattle.pr_num.specs.declared.messages.Message.TheVariants as message
use Rattle.pr_reached.proofs.RecordsInRange.EntryRanges.{records-range}
use Rattle.pr_reached.specs.Fits.{IsFitLwp, IsFitProcess}
use Rattle.pr_reached.specs.Reached.{IsReached}
use Rattle.pr_rec.specs.declared.lwps.LwpStatus.{LwpStatus}
use Rattle.pr_report_laws.proofs.Invariant.OtherSteps.{lives-later}
use Rattle.pr_report_laws.proofs.Invariant.StandLemmas.{Each, EachBut, but-set}
use Rattle.pr_report_laws.proofs.Machine.ControlLaws.{entries-read, exits-read, faults-read, follow-reads, run-reads, signals-read}
use Rattle.pr_report_laws.proofs.Machine.EventStopLemmas.{on-where-met, stops-met}
use Rattle.pr_report_laws.proofs.Machine.RecordLaws.{lstatus-read, status-read}
use Rattle.pr_report_laws.proofs.Machine.RunLaws.{run-granted, run-live, run-waits}
use Rattle.pr_report_laws.proofs.Machine.StoppedLaws.{waits-first, waits-stopped}
use Rattle.pr_report_laws.specs.AtBirth.{Waits, met_in}
use Rattle.pr_truss.specs.FunctionCalls.{call_beside, function_call_of, next_function_call_of, with_copying}
use Rattle.pr_truss.specs.Closings.{with_closing}
use Rattle.pr_truss.specs.FunctionEvents.{fresh_event}
use Rattle.pr_truss.specs.FunctionFeeding.{fed_functions, with_aside_answered, with_function_reply}
use Rattle.pr_truss.specs.FunctionStops.{with_fresh_event, with_function_status_answered, with_function_stop, with_function_stop_read, with_last_stop}
use Rattle.pr_truss.specs.Feeding.{fed}
use Rattle.pr_truss.specs.Marks.{address_of, breakpoint, first_function, has_functions}
use Rattle.pr_truss.specs.Messages.{message_call, traced_entries, traced_exits}
use Rattle.pr_truss.specs.NextCalls.{call_of, next_call_of, opening_call, read_record}
use Rattle.pr_truss.specs.Openings.{learnt, step_after}
use Rattle.pr_truss.specs.Processes.{last_handle, newly_traced, without_last}
use Rattle.pr_truss.specs.Records.{event_stops, is_on_event, status_lwp}
use Rattle.pr_truss.specs.Replies.{answer_of}
use Rattle.pr_truss.specs.Stops.{with_event, with_old_stop_over, with_stop, with_stop_over}
use Rattle.pr_truss.specs.Trusses.{TrussState, traced_at, with_stage, with_traced}
use Rattle.pr_truss.specs.declared.asides.Aside.{Aside}
use Rattle.pr_truss.specs.declared.asides.Aside.TheVariants.{Nothing, Reading, Planting, Patching}
use Rattle.pr_truss.specs.declared.processes.Traced.{Traced}
use Rattle.pr_truss.specs.declared.replies.Answer.TheVariants.{Accepted, Interrupted}
use Rattle.pr_truss.specs.declared.stages.AfterClosing.TheVariants.{OpenNext, GoOn}
use Rattle.pr_truss.specs.declared.stages.OpeningStep.{OpeningStep}
use Rattle.pr_truss.specs.declared.stages.OpeningStep.TheVariants as opening
use Rattle.pr_truss.specs.declared.stages.Stage.{Stage}
use Rattle.pr_truss.specs.declared.stages.Stage.TheVariants.{Spawning, OpeningControl, Opening, Polling, ReadingStatus, ReadingText, Running, Closing, Finished}
use Rattle.pr_truss_laws.proofs.Files.HeldLemmas.{at_place, set-at}
use Rattle.pr_truss_laws.proofs.Files.OpensLemmas.{held_by, looking-stays}
use Rattle.pr_truss_laws.proofs.Machine.OutlastLemmas.{own-call-elsewhere}
use Rattle.pr_truss_laws.proofs.Replies.ReplySteps.{lost-same}
use Rattle.pr_function_laws.proofs.Marks.KeptLemmas.{fed-kept-where}
use Rattle.pr_function_laws.proofs.Marks.KeptPlaces.{AfterBeside, AfterStage, AtAside, AtPlace, AtStage, Kept, LeftHas, Position, Whole, apart-at, apart-set, closes, looks, opens, position_after, rests, runs, unflagged}
use Rattle.pr_function_laws.proofs.Listing.OldCounts.{AreCounted, AreLeft, CountsSo, HasNoneOld, alone-counted-at, counted-lwps, counts-lasting, lwps-counted-at, none_left, some_left}
use Rattle.pr_function_laws.proofs.OpenedProcesses.OpenedCalls.{IsMild, IsSo, acts_if, call-is, control-fresh, lowest, opened-acts, patch-mild, read-mild, write-mild}
use Rattle.pr_function_laws.proofs.OpenedProcesses.OpenedLemmas.{IsFile, by-process, control-made, control-sole, last-own, opened_call, ran-alone}
use Rattle.pr_function_laws.proofs.OpenedProcesses.StoodCalls.{BeginLeavingLwps, KeepsLwps, leaves-as, message-lwps}
use Rattle.pr_function_laws.proofs.OpenedProcesses.StoodLemmas.{StandsSo}
use Rattle.pr_function_laws.proofs.Stepping.StretchLemmas as stretch
use Rattle.pr_function_laws.specs.Lifted.{HasControl}
use Rattle.pr_function_laws.specs.Stretches.{acts_by}

-- A call of truss keeps the count of the stops that are left of each process and stood there before truss came.

-- ---- the reply to the read of a status

-- where it tells of a stop that truss counts, the process is run, and one stop less is left
module _ (t : TrussState) (r : Reply) (q : ℕ) (has : has_functions t.options ≡ true) (off : t.leaving ≡ false)
    (idle : t.aside ≡ Nothing) (reads : t.stage ≡ ReadingStatus q) (accepted : answer_of r ≡ Accepted) (l : LwpStatus)
    (told : option_and_then status_lwp (bytes_in r) ≡ Some l) where
  abbrev less : Traced
  less = record (traced_at t q) { old = (traced_at t q).old - 1 }

  old-fed : is_on_event l ≡ true → 0 < (traced_at t q).old
      → fed_functions t r ≡ with_stage (with_traced t q less) (Running q)
  unfolding fed_functions with_aside_answered with_function_reply with_function_status_answered with_function_stop
      fresh_event with_stop with_old_stop_over with_stop_over
  old-fed on some =
      ap (λ b. cond b (with_aside_answered t r t.aside) (fed t r)) has ∙ ap (with_aside_answered t r) idle
      ∙ ap (with_function_reply t r) reads ∙ ap (with_function_status_answered t q r) accepted
      ∙ ap (with_function_stop_read t q) told
      ∙ ap (λ b. with_fresh_event t q l (cond b (cond (traced_at t q).seen None (event_of l)) None))
      (ne_eqb (traced_at t q).old 0 (λ none. absurd (omega (arith, some, none))))
      ∙ ap (λ b. cond b (with_last_stop t q l) (with_stop t q l)) off
      ∙ ap (λ b. cond (not b) (with_stop_over t q) (cond (nat_lt 0 (traced_at t q).old) (with_old_stop_over t q)
      (cond (traced_at t q).seen (with_stop_over t q) (with_event t q l (event_of l))))) on
      ∙ ap (λ b. cond b (with_old_stop_over t q)
      (cond (traced_at t q).seen (with_stop_over t q) (with_event t q l (event_of l))))
      (lt-ltb 0 (traced_at t q).old some)
      ∙ ap (λ b. cond b (with_closing (with_traced t q less) q) (with_stage (with_traced t q less) (Running q))) off

-- ---- a call

module _ (n k : ℕ) (s : TracedState) (lawful : IsLawful s) (c : Call) (a : Answer)
    (answer : answer_to s k c ≡ Some a)
    (over : (pid : ℕ) → pid < s.system.made → live_process s.system pid ≡ None
    → live_process a.state.system pid ≡ None) (t : TrussState) (kept : Kept (IsSo (Unit {0}) k t.options s) t)
    (reached : IsReached s) (was : Kept (CountsSo s) t) where
  abbrev ts : List Traced
  ts = t.traced

  abbrev o : Options
  o = t.options

  abbrev So : Position → Traced → Type 0
  So at v = IsSo (Unit {0}) k t.options s at v

  abbrev Before : Position → Traced → Type 0
  Before at v = CountsSo s at v

  abbrev Later : Position → Traced → Type 0
  Later at v = CountsSo a.state at v

  abbrev Lasts : Traced → Type 0
  Lasts v = (at : Position) → CountsSo s at v → CountsSo a.state at v

  lowest-at : (q : ℕ) → q < length ts → So closes (at_place ts q)
  lowest-at q within = let w = kept in lowest (Unit {0}) k t.options s ts t.stage w.stage q within

  control-at : (q : ℕ) → q < length ts → HasControl k (at_place ts q).pid (at_place ts q).control s
  control-at q within = let low = lowest-at q within in let h = low.holds in h.its

  rises : (pid : ℕ) (p : TracedProcess) → live_process s.system pid ≡ Some p → IsRising p.lwps
  rises pid p live = let l = live-lawful s.system pid p lawful.system live in l.rising

  -- ---- on which process it acts

  -- on another one, or on none
  elsewhere : (q : ℕ) → q < length ts
      → ((m : ℕ) (held : Held) → acts_by c ≡ Some m → handle_of s.opens k m ≡ Some held
      → held.pid ≢ (at_place ts q).pid) → Lasts (at_place ts q)
  elsewhere q within away at h =
      let v : Traced = at_place ts q in
      let its = control-at q within in
      let made = control-made k v.pid v.control s lawful its in
      let sole = control-sole k v.pid v.control s lawful its in
      record {
        each = λ x later.
            (let p =
            lives-later o v.pid t s a.state
            (λ p live. own-call-elsewhere s k v.pid c a p lawful (λ m g named there.
            away m g (stretch.named-acts n k v.pid 0 v.control s lawful sole made c m named) there) answer live)
            (over v.pid made) x later in
            alone-counted-at p.0 x p.1.1 at v (h.each p.0 p.1.0));
      }

  quiet : acts_by c ≡ None → Each Lasts ts
  quiet none q within = elsewhere q within (λ m held acts there. absurd (none-some m (sym none ∙ acts)))

  -- by a handle of one process alone
  apart-goes : (q : ℕ) → q < length ts → (m : ℕ) (f : File) (mode : Mode) → acts_by c ≡ Some m
      → handle_of s.opens k m ≡ Some (held_by k (at_place ts q).pid 0 f mode) → EachBut Lasts ts q
  apart-goes q within m f mode acts there i inside other =
      elsewhere i inside (λ j held its at same.
      let one : m ≡ j = same_Some m j (sym acts ∙ its) in
      let own : (at_place ts q).pid ≡ held.pid =
      ap (λ (x : Held). x.pid)
      (same_Some (held_by k (at_place ts q).pid 0 f mode) held (sym there ∙ ap (handle_of s.opens k) one ∙ at)) in
      apart-at ts i q inside within other (let w = kept in w.apart) (sym same ∙ sym own))

  message-apart : (q : ℕ) → q < length ts → (bytes : List ℕ) → c ≡ call.Ctl (at_place ts q).control bytes
      → EachBut Lasts ts q
  message-apart q within bytes is =
      apart-goes q within (at_place ts q).control file.Ctl WriteExcl (ap acts_by is) (control-at q within)

  -- a message to one process that leaves its lwps
  module _ (v : Traced) (its : HasControl k v.pid v.control s) (bytes : List ℕ) (is : c ≡ call.Ctl v.control bytes)
      (begins : BeginLeavingLwps bytes) where
    same-lwps : (x : TracedProcess) → live_process a.state.system v.pid ≡ Some x
        → (p : TracedProcess) × ((live_process s.system v.pid ≡ Some p) × KeepsLwps p x)
    same-lwps =
        by-process n k o s lawful c a answer over v.pid v.control bytes is its KeepsLwps
        (λ p x live now. message-lwps n k o s lawful c a answer over v bytes is its p x live now begins)

    own-lwps : Lasts v
    own-lwps at h = record {
      each = λ x later.
          (let p = same-lwps x later in
          let keeps : KeepsLwps p.0 x = p.1.1 in
          lwps-counted-at p.0 x keeps.lwps at v (h.each p.0 p.1.0));
    }

  mild-each : (q : ℕ) → q < length ts → (bytes : List ℕ) → c ≡ call.Ctl (at_place ts q).control bytes
      → IsMild bytes → Each Lasts ts
  mild-each q within bytes is begins i inside at h = elim (cases_eq i q) [
    | inl same ↦ subst (λ j. Later at (at_place ts j)) (sym same)
        (own-lwps (at_place ts q) (control-at q within) bytes is begins.1 at
        (subst (λ j. Before at (at_place ts j)) same h))
    | inr other ↦ message-apart q within bytes is i inside other at h
  ]

  -- ---- a step of an opening

  module _ (v : Traced) (its : HasControl k v.pid v.control s) (accepted : answer_of a.reply ≡ Accepted) where
    abbrev held : Held
    held = record { controller = k; pid = v.pid; lwp = 0; file = file.Ctl; mode = WriteExcl }

    -- the sets: the lwps stay
    set-next : (m : Message) → c ≡ message_call v.control m → BeginLeavingLwps (spelling m [])
        → ((p : TracedProcess) → live_process s.system v.pid ≡ Some p → AreCounted v.old p) → (x : TracedProcess)
        → live_process a.state.system v.pid ≡ Some x → AreCounted v.old x
    set-next m is begins h x later =
        let p = same-lwps v its (spelling m []) is begins x later in
        let keeps : KeepsLwps p.0 x = p.1.1 in
        counted-lwps p.0 x keeps.lwps v.old (h p.0 p.1.0)

    -- the stops are counted
    look-next : (m : ℕ) → v.lstatus ≡ Some m → IsFile k v.pid file.Lstatus m s → c ≡ read_record v.lstatus
        → StandsSo s (opens opening.ReadLwps) v → (x : TracedProcess)
        → live_process a.state.system v.pid ≡ Some x → AreCounted (length (event_stops (bytes_in a.reply)) - 1) x
    look-next m known opened is h x later =
        let answers : answer_to s k (read_record (Some m)) ≡ Some a =
        ap (answer_to s k) (ap read_record (sym known) ∙ sym is) ∙ answer in
        let state = looking-stays s k (read_record (Some m)) a refl answers in
        let live : live_process s.system v.pid ≡ Some x =
        ap (λ (y : TracedState). live_process y.system v.pid) (sym state) ∙ later in
        let found = found-live s.system v.pid x live in
        let own = live-lawful s.system v.pid x lawful.system live in
        let records = records-range s.system lawful.system reached.in_range in
        let its_records = records.processes v.pid x found.0 in
        let fits = All-under (λ (e : ℕ × TracedProcess). IsFitProcess e.1) v.pid x s.system.processes
        reached.fit.processes found.0 in
        let sees =
        lstatus-read s k m (record { controller = k; pid = v.pid; lwp = 0; file = file.Lstatus; mode = Read }) opened
        a x live refl its_records.lstatus own.few_lwps answers in
        record {
          stopped = h.stood x live;
          count = λ none. ap (λ stops. length stops - 1) sees.stops ∙ ap (λ i. i - 1) (stops-met x fits);
        }

    -- it is run: the first stop is over
    start-next : c ≡ message_call v.control (message.Run 0) → v.marks.flags ≡ 0
        → ((p : TracedProcess) → live_process s.system v.pid ≡ Some p → AreCounted v.old p) → (x : TracedProcess)
        → live_process a.state.system v.pid ≡ Some x → AreLeft v.marks.flags v.old v.old x
    start-next is unset h x later =
        let p =
        by-process n k o s lawful c a answer over v.pid v.control (spelling (message.Run 0) []) is its
        (λ p x. Unit {0}) (λ p x live now. tt) x later in by p.0 p.1.0 (v.old) refl
      where
        by : (p : TracedProcess) → live_process s.system v.pid ≡ Some p → (i : ℕ) → v.old ≡ i
            → AreLeft v.marks.flags v.old v.old x
        by p live zero old = none_left old
        by p live (suc i) old =
            let none =
            ran-alone n k o s lawful c a answer over v.pid v.control (spelling (message.Run 0) []) is its 0 run-reads
            accepted p live in
            let counted = h p live in
            let stopped = counted.stopped in
            let counts : met_in p ≡ suc (suc i) = omega (arith, counted.count none, old) in
            let halts =
            waits-stopped p (rises v.pid p live) none (suc i)
            (record { frozen = stopped.frozen none; count = counts }) in
            let waits = run-waits p (rises v.pid p live) none halts i counts in
            let now =
            run-live s k v.control held its refl p live a (ap (answer_to s k) (sym is) ∙ answer) accepted in
            some_left (record {
              unset = unset;
              waits = subst (λ (y : TracedProcess). Waits y v.old) (same_Some (with_run 0 p) x (sym now ∙ later))
                  (subst (Waits (with_run 0 p)) (sym old) waits);
            })

  counts-opening : (v : Traced) (step : OpeningStep) → HasControl k v.pid v.control s
      → ((m : ℕ) → v.lstatus ≡ Some m → IsFile k v.pid file.Lstatus m s) → c ≡ opened_call o v step
      → o.follow ≡ false → answer_of a.reply ≡ Accepted → StandsSo s (opens step) v → CountsSo s (opens step) v
      → CountsSo a.state (position_after (step_after o a.reply step)) (learnt v a.reply step)
  unfolding opening_call step_after learnt
  counts-opening v opening.OpenStatus its lwps is follow accepted g h = record { each = λ x later. tt }
  counts-opening v opening.OpenLstatus its lwps is follow accepted g h = record { each = λ x later. tt }
  counts-opening v opening.OpenMemory its lwps is follow accepted g h = record { each = λ x later. tt }
  counts-opening v opening.ClearModes its lwps is follow accepted g h = record { each = λ x later. tt }
  counts-opening v opening.SetRelease its lwps is follow accepted g h = record { each = λ x later. tt }
  counts-opening v opening.Stop its lwps is follow accepted g h = record { each = λ x later. tt }
  counts-opening v (opening.AwaitStop until) its lwps is follow accepted g h = record { each = λ x later. tt }
  counts-opening v opening.ReadLwps its lwps is follow accepted g h =
      let ready = g.prepared in
      let known = ready.1 in
      record {
        each = look-next v its accepted known.number known.is (lwps known.number known.is) is g;
      }
  counts-opening v opening.TraceSignals its lwps is follow accepted g h = record {
    each = set-next v its accepted (message.Strace all_signals) is
        (leaves-as (message.Strace (all_signals % 2 ^ 64)) _ refl (signals-read all_signals)) h.each;
  }
  counts-opening v opening.TraceFaults its lwps is follow accepted g h = record {
    each = set-next v its accepted (message.Sfault all_faults) is
        (leaves-as (message.Sfault (all_faults % 2 ^ 64)) _ refl (faults-read all_faults)) h.each;
  }
  counts-opening v opening.TraceEntries its lwps is follow accepted g h =
      let word : ℕ = with_copying (traced_entries o) in
      record {
        each = set-next v its accepted (message.Sentry word) is
            (leaves-as (message.Sentry (word % 2 ^ 64)) _ refl (entries-read word)) h.each;
      }
  counts-opening v opening.TraceExits its lwps is follow accepted g h =
      let word : ℕ = with_copying (traced_exits o) in
      subst (λ b. CountsSo a.state (opens (cond b opening.Follow opening.Start)) v) (sym follow)
      (record {
        each = set-next v its accepted (message.Sexit word) is
            (leaves-as (message.Sexit (word % 2 ^ 64)) _ refl (exits-read word)) h.each;
      })
  counts-opening v opening.Follow its lwps is follow accepted g h = record {
    each = set-next v its accepted (message.Set fork_mode) is
        (leaves-as (message.Set fork_mode) _ refl follow-reads) h.each;
  }
  counts-opening v opening.Start its lwps is follow accepted g h =
      let ready = g.prepared in record { each = start-next v its accepted is ready.0 h.each }

  -- ---- PCRUN in the loop

  -- one stop less is left
  run-next : (v : Traced) → HasControl k v.pid v.control s
      → c ≡ message_call v.control (message.Run v.marks.flags)
      → ((p : TracedProcess) → live_process s.system v.pid ≡ Some p → has_agent p ≡ false) → CountsSo s runs v
      → CountsSo a.state rests (unflagged v)
  run-next v its is alone h = record {
    each = λ x later.
        (let p =
        by-process n k o s lawful c a answer over v.pid v.control (spelling (message.Run v.marks.flags) []) is its
        (λ p x. Unit {0}) (λ p x live now. tt) x later in
        by x later p.0 p.1.0 v.old refl (h.each p.0 p.1.0));
  }
    where
      held : Held
      held = record { controller = k; pid = v.pid; lwp = 0; file = file.Ctl; mode = WriteExcl }

      sent : v.marks.flags ≡ 0 → answer_to s k (message_call v.control (message.Run 0)) ≡ Some a
      sent unset =
          ap (answer_to s k) (sym (is ∙ ap (λ f. message_call v.control (message.Run f)) unset)) ∙ answer

      by : (x : TracedProcess) → live_process a.state.system v.pid ≡ Some x → (p : TracedProcess)
          → live_process s.system v.pid ≡ Some p → (i : ℕ) → v.old ≡ i → AreLeft v.marks.flags v.old (suc v.old) p
          → AreLeft 0 v.old v.old x
      by x later p live zero old left = none_left old
      by x later p live (suc i) old (none_left none) = absurd (omega (arith, old, none))
      by x later p live (suc i) old (some_left w) =
          let none = alone p live in
          let was_waits = w.waits in
          let counts : met_in p ≡ suc (suc i) = omega (arith, was_waits.count, old) in
          let halts =
          waits-stopped p (rises v.pid p live) none (suc i)
          (record { frozen = was_waits.frozen; count = counts }) in
          let granted = run-granted s k v.control held its refl p live a lawful.system none halts (sent w.unset) in
          let ran = run-live s k v.control held its refl p live a (sent w.unset) granted in
          let waits = run-waits p (rises v.pid p live) none halts i counts in
          some_left (record {
            unset = refl;
            waits = subst (λ (y : TracedProcess). Waits y v.old) (same_Some (with_run 0 p) x (sym ran ∙ later))
                (subst (Waits (with_run 0 p)) (sym old) waits);
          })

  -- ---- the call of a stage

  abbrev After : Stage → Type 0
  After stage = AfterStage (CountsSo a.state) t a.reply stage

  whole-lasts : Each Lasts ts → Whole (CountsSo s) ts → Whole (CountsSo a.state) ts
  whole-lasts lasts all q within = lasts q within rests (all q within)

  but-lasts : (b : ℕ) → EachBut Lasts ts b → EachBut (CountsSo s rests) ts b → EachBut (CountsSo a.state rests) ts b
  but-lasts b lasts all q within other = lasts q within other rests (all q within other)

  any-closes : (v : Traced) → Later closes v
  any-closes v = record { each = λ x later. tt }

  left-has : (x : Option Traced) (u : Traced) → without_last u ≡ x → LeftHas (CountsSo a.state) x u.pid
  left-has None u is = tt
  left-has (Some v) u is = (any-closes v, let same = lost-same u v is in same.pid)

  opening-after : (q : ℕ) (step : OpeningStep) → c ≡ opened_call o (at_place ts q) step
      → AtStage (IsSo (Unit {0}) k t.options s) ts (Opening q step) → AtStage (CountsSo s) ts (Opening q step)
      → After (Opening q step)
  opening-after q step is g w =
      let v : Traced = at_place ts q in
      let here : So (opens step) v = g.1.1 in
      let holds = here.holds in
      let others : EachBut Lasts ts q =
      elim (opened-acts o v step) [
        | inl none ↦ (λ i inside other. quiet (ap acts_by is ∙ none) i inside)
        | inr acts ↦ apart-goes q w.0 v.control file.Ctl WriteExcl (ap acts_by is ∙ acts) holds.its
      ] in (
        w.0,
        (
          but-lasts q others w.1.0,
          (
            any-closes v,
            λ accepted.
                counts-opening v step holds.its holds.its_lstatus is (let e = kept in e.follow) accepted
                (here.stands tt) w.1.1,
          ),
        ),
      )

  closing-after : (q : ℕ) → c ≡ call.Close (last_handle (at_place ts q)) → AtPlace (CountsSo s) ts q
      → (q < length ts)
      × (EachBut (Later rests) ts q
      × LeftHas (CountsSo a.state) (without_last (at_place ts q)) (at_place ts q).pid)
  closing-after q is w =
      let low = lowest-at q w.0 in
      let last = last-own n k o s lawful c a answer over (at_place ts q) low.holds in (
        w.0,
        (
          but-lasts q
              (apart-goes q w.0 (last_handle (at_place ts q)) last.its_file last.its_mode (ap acts_by is) last.there)
              w.1.0,
          left-has (without_last (at_place ts q)) (at_place ts q) refl,
        ),
      )

  running-after : (q : ℕ) → c ≡ message_call (at_place ts q).control (message.Run (at_place ts q).marks.flags)
      → AtStage (IsSo (Unit {0}) k t.options s) ts (Running q) → AtStage (CountsSo s) ts (Running q)
      → After (Running q)
  running-after q is g w =
      let v : Traced = at_place ts q in
      let here : So runs v = g.1.1 in
      let holds = here.holds in (
        w.0,
        (
          but-lasts q (message-apart q w.0 _ is) w.1.0,
          (any-closes v, λ lives. run-next v holds.its is (λ p live. (holds.set p live).1) w.1.1),
        ),
      )

  -- a row a stage
  stage-after : (stage : Stage) → t.stage ≡ stage → t.aside ≡ Nothing
      → has_functions t.options ≡ true → next_function_call_of t ≡ Some c
      → AtStage (IsSo (Unit {0}) k t.options s) ts stage → AtStage (CountsSo s) ts stage
      → function_call_of t stage ≡ Some c → After stage
  unfolding function_call_of call_of newly_traced
  stage-after (Spawning program) at idle has next g w is = whole-lasts (quiet (ap acts_if (sym is))) w
  stage-after (OpeningControl pid) at idle has next g w is = (
    whole-lasts (quiet (ap acts_if (sym is))) w,
    λ accepted. (
      record { each = λ x later. tt },
      control-fresh (Unit {0}) n k s lawful c a answer over t kept (λ r. reached) pid at idle has next accepted,
    ),
  )
  stage-after (Opening q step) at idle has next g w is =
      opening-after q step (same_Some c _ (sym is ∙ call-is t q step)) g w
  stage-after Polling at idle has next g w is = (
    whole-lasts (quiet (ap acts_if (sym is))) w,
    λ accepted handle q ready found. record { each = λ x later. tt },
  )
  stage-after (ReadingStatus q) at idle has next g w is =
      (w.0, (whole-lasts (quiet (ap acts_if (sym is))) w.1.0, record { each = λ x later. tt }))
  stage-after (ReadingText q l from len) at idle has next g w is =
      let lasts : Each Lasts ts = quiet (ap acts_if (sym is)) in
      (w.0, (whole-lasts lasts w.1.0, lasts q w.0 looks w.1.1))
  stage-after (Running q) at idle has next g w is = running-after q (sym (same_Some _ c is)) g w
  stage-after (Closing q OpenNext) at idle has next g w is = closing-after q (sym (same_Some _ c is)) w
  stage-after (Closing q GoOn) at idle has next g w is = closing-after q (sym (same_Some _ c is)) w
  stage-after Finished at idle has next g w is = absurd (none-some c is)
  stage-after _ at idle has next g w is = absurd w

  -- ---- what comes before it

  place-lasts : (q : ℕ) → Each Lasts ts → AtPlace (CountsSo s) ts q → AtPlace (CountsSo a.state) ts q
  place-lasts q lasts w =
      (w.0, (but-lasts q (λ i inside other. lasts i inside) w.1.0, any-closes (at_place ts q)))

  stage-lasts : (stage : Stage) → Each Lasts ts → AtStage (CountsSo s) ts stage → AtStage (CountsSo a.state) ts stage
  stage-lasts (Spawning program) lasts w = whole-lasts lasts w
  stage-lasts (OpeningControl pid) lasts w = whole-lasts lasts w
  stage-lasts (Opening q step) lasts w =
      (w.0, (but-lasts q (λ i inside other. lasts i inside) w.1.0, lasts q w.0 (opens step) w.1.1))
  stage-lasts Polling lasts w = whole-lasts lasts w
  stage-lasts (ReadingStatus q) lasts w = (w.0, (whole-lasts lasts w.1.0, record { each = λ x later. tt }))
  stage-lasts (ReadingText q l from len) lasts w = (w.0, (whole-lasts lasts w.1.0, lasts q w.0 looks w.1.1))
  stage-lasts (Running q) lasts w =
      (w.0, (but-lasts q (λ i inside other. lasts i inside) w.1.0, lasts q w.0 runs w.1.1))
  stage-lasts (Closing q OpenNext) lasts w = place-lasts q lasts w
  stage-lasts (Closing q GoOn) lasts w = place-lasts q lasts w
  stage-lasts Finished lasts w = whole-lasts lasts w
  stage-lasts _ lasts w = absurd w

  aside-after : has_functions t.options ≡ true → next_function_call_of t ≡ Some c → (aside : Aside)
      → t.aside ≡ aside → AtAside (CountsSo s) ts aside → call_beside t t.stage aside ≡ Some c
      → AfterBeside (CountsSo a.state) t a.reply aside
  unfolding call_beside
  aside-after has next Nothing idle beside is =
      let w = was in let g = kept in stage-after t.stage refl idle has next g.stage w.stage is
  aside-after has next (Reading q function) at beside is =
      let w = was in
      let lasts : Each Lasts ts =
      mild-each q beside.0 _ (sym (same_Some _ c is)) (read-mild (address_of o function) instruction_size) in
      (stage-lasts t.stage lasts w.stage, place-lasts q lasts beside)
  aside-after has next (Planting q function) at beside is =
      let w = was in
      let lasts : Each Lasts ts =
      mild-each q beside.0 _ (sym (same_Some _ c is))
      (write-mild (address_of o function) instruction_size breakpoint) in
      (stage-lasts t.stage lasts w.stage, place-lasts q lasts beside)
  aside-after has next (Patching q plants lifts clear) at beside is =
      let w = was in
      let its =
      patch-mild (Unit {0}) n k s lawful c a answer over t kept (λ r. reached) (at_place ts q).control
      (first_function plants) (first_function lifts) beside.1.0 c (same_Some _ c is) in
      let lasts : Each Lasts ts = mild-each q beside.0.0 its.0 its.1.0 its.1.1 in
      (stage-lasts t.stage lasts w.stage, (place-lasts q lasts beside.0, beside.1))
  aside-after has next _ at beside is = absurd beside

  -- ---- every reply

  module _ (has : has_functions t.options ≡ true) (next : next_function_call_of t ≡ Some c)
      (calm : answer_of a.reply ≢ Interrupted) where
    its-call : call_beside t t.stage t.aside ≡ Some c
    unfolding next_function_call_of
    its-call = sym (ap (λ b. cond b (call_beside t t.stage t.aside) (next_call_of t)) has) ∙ next

    -- where it reads no status of a process that lives and of which it counts stops
    new-read : ((q : ℕ) → t.aside ≡ Nothing → t.stage ≡ ReadingStatus q → HasNoneOld a.state (traced_at t q))
        → Kept (CountsSo a.state) (fed_functions t a.reply)
    new-read seen =
        let w = was in
        fed-kept-where (CountsSo a.state) (HasNoneOld a.state) (λ (pid : ℕ). Unit {0}) (counts-lasting a.state) t
        a.reply w.follow w.off w.apart calm seen (λ q is. tt) has
        (aside-after has next t.aside refl w.beside its-call)

    reading-same : (q r : ℕ) → ReadingStatus q ≡ ReadingStatus r → q ≡ r
    reading-same q r same = cc

    module _ (q : ℕ) (idle : t.aside ≡ Nothing) (at : t.stage ≡ ReadingStatus q) where
      abbrev v : Traced
      v = traced_at t q

      here-so : AtStage (IsSo (Unit {0}) k t.options s) ts (ReadingStatus q)
      here-so = let g = kept in subst (AtStage (IsSo (Unit {0}) k t.options s) ts) at g.stage

      here-counts : AtStage (CountsSo s) ts (ReadingStatus q)
      here-counts = let w = was in subst (AtStage (CountsSo s) ts) at w.stage

      reads-it : c ≡ read_record v.status
      unfolding call_beside function_call_of call_of
      reads-it =
          same_Some c _
          (sym its-call ∙ ap (call_beside t t.stage) idle ∙ ap (function_call_of t) at)

      -- no other one is read
      alone-read : HasNoneOld a.state v → Kept (CountsSo a.state) (fed_functions t a.reply)
      alone-read none =
          new-read (λ r beside reading.
          subst (λ i. HasNoneOld a.state (traced_at t i)) (reading-same q r (sym at ∙ reading)) none)

      number : ℕ
      number =
          let h : So rests v = here-so.1.0 q here-so.0 in
          let holds = h.holds in
          let known = holds.known in known.number

      number-is : v.status ≡ Some number
      unfolding number
      number-is =
          let h : So rests v = here-so.1.0 q here-so.0 in
          let holds = h.holds in
          let known = holds.known in known.is

      file-there : IsFile k v.pid file.Status number s
      file-there =
          let h : So rests v = here-so.1.0 q here-so.0 in
          let holds = h.holds in holds.its_status number number-is

      answers : answer_to s k (read_record (Some number)) ≡ Some a
      answers = ap (answer_to s k) (sym (ap read_record number-is) ∙ sym reads-it) ∙ answer

      same-system : a.state.system ≡ s.system
      same-system =
          ap (λ (u : TracedState). u.system) (looking-stays s k (read_record (Some number)) a refl answers)

      -- the process has ended
      over-read : live_process s.system v.pid ≡ None → Kept (CountsSo a.state) (fed_functions t a.reply)
      over-read ended =
          alone-read (record {
            none = λ p later.
                absurd
                (none-some p (sym (ap (λ (u : TracedSystem). live_process u v.pid) same-system ∙ ended) ∙ later));
          })

      -- some stops are left: the status tells of one of them
      module _ (some : 0 < v.old) (p : TracedProcess) (live : live_process s.system v.pid ≡ Some p) where
        left : Waits p v.old
        left = by (let h : Before rests v = here-counts.1.0 q here-counts.0 in h.each p live)
          where
            by : AreLeft v.marks.flags v.old v.old p → Waits p v.old
            by (none_left none) = absurd (omega (arith, some, none))
            by (some_left w) = w.waits

        unset : v.marks.flags ≡ 0
        unset = by (let h : Before rests v = here-counts.1.0 q here-counts.0 in h.each p live)
          where
            by : AreLeft v.marks.flags v.old v.old p → v.marks.flags ≡ 0
            by (none_left none) = absurd (omega (arith, some, none))
            by (some_left w) = w.unset

        alone : has_agent p ≡ false
        alone =
            let h : So rests v = here-so.1.0 q here-so.0 in
            let holds = h.holds in (holds.set p live).1

        one-less : (v.old - 1) + 1 ≡ v.old
        one-less = omega (arith, some)

        on : is_on_event (status_of_found p (representative p)) ≡ true
        on =
            let w = left in
            let found = (found-live s.system v.pid p live).0 in
            let fits = All-under (λ (e : ℕ × TracedProcess). IsFitProcess e.1) v.pid p s.system.processes
            reached.fit.processes found in
            let f =
            waits-first p (rises v.pid p live) alone (v.old - 1)
            (record { frozen = w.frozen; count = omega (arith, w.count, some) }) in
            let e = f.lwp in
            ap (λ e. is_on_event (status_of_found p e)) f.is
            ∙ on-where-met p e.0 e.1
            (All-under (λ (e : ℕ × TracedLwp). IsFitLwp e.1) e.0 e.1 p.lwps fits.lwps
            (representative-stands p e (rises v.pid p live) f.is))
            ∙ f.met

        abbrev u : Traced
        u = record v { old = v.old - 1 }

        abbrev z : TrussState
        z = with_stage (with_traced t q u) (Running q)

        fed-is : fed_functions t a.reply ≡ z
        unfolding status_of
        fed-is =
            let w = was in
            let found = (found-live s.system v.pid p live).0 in
            let records = records-range s.system lawful.system reached.in_range in
            let ranged = (records.processes v.pid p found).status in
            let sees =
            status-read s k number (held_by k v.pid 0 file.Status Read) file-there a p live refl ranged answers in
            old-fed t a.reply q has w.off idle at sees.accepted (status_of_found p (representative p)) sees.lwp on
            some

        runs-now : Later runs u
        runs-now = record {
          each = λ x later.
              (let same : p ≡ x =
              same_Some p x
              (sym live ∙ sym (ap (λ (y : TracedSystem). live_process y v.pid) same-system) ∙ later) in
              let w = left in
              some_left (record {
                unset = unset;
                waits = subst (λ (y : TracedProcess). Waits y (suc (v.old - 1))) same
                    (record { frozen = w.frozen; count = omega (arith, w.count, some) });
              }));
        }

        old-read : Kept (CountsSo a.state) (fed_functions t a.reply)
        old-read =
            let w = was in
            let within : q < length ts = here-counts.0 in
            let lasts : Each Lasts ts = quiet (ap acts_by reads-it) in
            let there : at_place (slice_set ts q u) q ≡ u = set-at ts q u within in
            subst (Kept (CountsSo a.state)) (sym fed-is)
            (record {
              follow = w.follow;
              off = w.off;
              stage = (
                omega (arith, within, length-set ts q u),
                (
                  but-set (Later rests) ts q u
                      (λ i inside other. lasts i inside rests (here-counts.1.0 i inside)),
                  subst (Later runs) (sym there) runs-now,
                ),
              );
              beside = subst (AtAside (CountsSo a.state) (slice_set ts q u)) (sym idle) tt;
              apart = apart-set ts q u within refl w.apart;
            })

      status-read-now : Kept (CountsSo a.state) (fed_functions t a.reply)
      status-read-now = by v.old refl
        where
          by-live : 0 < v.old → (x : Option TracedProcess) → live_process s.system v.pid ≡ x
              → Kept (CountsSo a.state) (fed_functions t a.reply)
          by-live some None ended = over-read ended
          by-live some (Some p) live = old-read some p live

          by : (i : ℕ) → v.old ≡ i → Kept (CountsSo a.state) (fed_functions t a.reply)
          by zero old = alone-read (record { none = λ p later. old })
          by (suc i) old = by-live (omega (arith, old)) (live_process s.system v.pid) refl

    pub call-counts : Kept (CountsSo a.state) (fed_functions t a.reply)
    call-counts = by t.aside t.stage refl refl
      where
        by : (aside : Aside) (stage : Stage) → t.aside ≡ aside → t.stage ≡ stage
            → Kept (CountsSo a.state) (fed_functions t a.reply)
        by Nothing (ReadingStatus q) idle at = status-read-now q idle at
        by Nothing _ idle at = new-read (λ q same reading. let both = sym at ∙ reading in cc)
        by _ stage idle at = new-read (λ q same reading. let both = sym idle ∙ same in cc)
