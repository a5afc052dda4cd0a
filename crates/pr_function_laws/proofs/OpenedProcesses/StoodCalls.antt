use Rattle.std.proofs.Common.{◌≡◌, ◌≤◌, ◌<◌, ◌-◌, ◌%◌, ◌^◌, ℕ, zero, suc, Bool, true, false, cond, is_ok, IfOk, Ok, Err, None, Some, Option, List, [], length, Result, refl, sym, subst, ap, ◌∙◌, arith}
use Rattle.std.proofs.lemmas.Bool.{false≢true}
use Rattle.pr_lawful.proofs.ProcessParts.FileLemmas.{choice}
use Rattle.std.proofs.lemmas.Option.{same_Some}
use Rattle.pr_lawful.proofs.LawfulTurns.EndLemmas.{found-live}
use Rattle.pr_lawful.proofs.Following.UseLemmas.{live-lawful}
use Rattle.pr_line.specs.declared.options.Options.{Options}
use Rattle.pr_num.specs.Spaces.{bytes_for}
use Rattle.pr_num.specs.declared.mappings.BadByte.{BadByte}
use Rattle.pr_parts.specs.AddressSpaces.{with_bytes}
use Rattle.pr_model.specs.Calls.{Answer, answer_to, controlled}
use Rattle.pr_model.specs.Changes.{with_space}
use Rattle.pr_model.specs.ControlMessages.{tail_of}
use Rattle.pr_model.specs.Lawful.{IsLawful}
use Rattle.pr_model.specs.Messages.{at_process, message_answer, read_of, refused, run_answer, with_control, with_process_changed, with_set, write_answer, read_answer}
use Rattle.pr_model.specs.Replies.{bytes_in, handle_in, until_in}
use Rattle.pr_model.specs.Running.{run_refused, runs_one, with_all_run, with_one_run, with_run}
use Rattle.pr_model.specs.State.{TracedControl, TracedLwp, TracedProcess, TracedState, TracedSystem, has_agent, live_process, with_lwp}
use Rattle.pr_model.specs.Statuses.{lwpstatus_of}
use Rattle.pr_model.specs.Readers.{has_lent}
use Rattle.pr_model.specs.Stops.{representative}
use Rattle.pr_model.specs.Handles.{handle_of}
use Rattle.pr_model.specs.declared.calls.Call.{Call}
use Rattle.pr_model.specs.declared.calls.Call.TheVariants as call
use Rattle.pr_model.specs.declared.calls.File.TheVariants as file
use Rattle.pr_model.specs.declared.calls.Mode.TheVariants.{Read, WriteExcl}
use Rattle.pr_model.specs.declared.handles.Held.{Held}
use Rattle.pr_num.proofs.ByIdLaws.{All-under}
use Rattle.pr_num.specs.ById.{IsRising}
use Rattle.pr_num.specs.Control.{fork_mode}
use Rattle.pr_num.specs.Limits.{all_faults, all_signals}
use Rattle.pr_num.specs.Messages.{first_message, message_code, message_read, nth_word, one_word, operands, spelling}
use Rattle.pr_num.specs.Words.{word_bytes, word_of}
use Rattle.pr_num.specs.declared.errnos.Errno.TheVariants.{Busy, Io}
use Rattle.pr_num.specs.declared.messages.Message.{Message}
use Rattle.pr_num.specs.declared.messages.Message.TheVariants as message
use Rattle.pr_num.specs.declared.messages.MsgFault.{MsgFault}
use Rattle.pr_reached.proofs.RecordsInRange.EntryRanges.{records-range}
use Rattle.pr_reached.specs.Fits.{IsFitProcess}
use Rattle.pr_reached.specs.Reached.{IsReached}
use Rattle.pr_report_laws.proofs.Machine.ControlLaws.{entries-read, exits-read, faults-read, follow-reads, run-reads, signals-read, stop-asked, wait-stays, wait-stopped}
use Rattle.pr_report_laws.proofs.Machine.EventStopLemmas.{stops-met}
use Rattle.pr_report_laws.proofs.Machine.RecordLaws.{lstatus-read}
use Rattle.pr_report_laws.proofs.Machine.RunLaws.{run-granted, run-live, run-quiet, run-waits}
use Rattle.pr_report_laws.proofs.Machine.StoppedLaws.{stopped-frozen, waits-stopped}
use Rattle.pr_report_laws.specs.AtBirth.{met_in}
use Rattle.pr_truss.specs.FunctionCalls.{with_copying}
use Rattle.pr_truss.specs.Messages.{message_call, traced_entries, traced_exits}
use Rattle.pr_truss.specs.NextCalls.{opening_call, read_record}
use Rattle.pr_truss.specs.Openings.{learnt, step_after}
use Rattle.pr_truss.specs.Records.{event_stops}
use Rattle.pr_truss.specs.Replies.{answer_of}
use Rattle.pr_truss.specs.declared.processes.Traced.{Traced}
use Rattle.pr_truss.specs.declared.replies.Answer.TheVariants.{Accepted}
use Rattle.pr_truss.specs.declared.stages.OpeningStep.{OpeningStep}
use Rattle.pr_truss.specs.declared.stages.OpeningStep.TheVariants as opening
use Rattle.pr_truss_laws.proofs.Machine.StillLemmas.{live-changed}
use Rattle.pr_truss_laws.proofs.Machine.TakenLemmas.{ReadsAs, read-as}
use Rattle.pr_truss_laws.specs.Stills.{IsFrozen, IsHalting, IsQuiet}
use Rattle.pr_function_laws.proofs.Marks.KeptPlaces.{Position, opens, position_after, rests, runs, unflagged}
use Rattle.pr_function_laws.proofs.OpenedProcesses.OneEventLemmas.{none-unmet, quiet-unmet, run-met-nothing}
use Rattle.pr_function_laws.proofs.OpenedProcesses.OpenedLemmas.{by-process, does, made, opened_call, ran-alone, sole}
use Rattle.pr_function_laws.proofs.OpenedProcesses.StoodLemmas.{IsCounted, KnowsLwps, StandsSo, Stood, StoodAt, as_stopped, lwps-at, lwps-counted, unmet-stopped, waits}
use Rattle.pr_function_laws.proofs.OpenedProcesses.StopRuns.{run-stopped}
use Rattle.pr_function_laws.proofs.OpenedProcesses.StopTurns.{AreAsStopped, stopless}
use Rattle.pr_function_laws.proofs.Stepping.StretchLemmas as stretch
use Rattle.pr_function_laws.proofs.Stepping.StretchLemmas.{Does}
use Rattle.pr_function_laws.specs.Lifted.{HasControl}
use Rattle.pr_function_laws.specs.OneEvent.{HasOneEventAtMost, unmet}
use Rattle.pr_truss_laws.proofs.Files.OpensLemmas.{looking-stays}

-- How a process stands after a call of truss that opens it, runs it, or reads and writes its memory.

abbrev Parsed : Type 0
Parsed = Result (Message × ℕ) MsgFault

-- ---- a process that is run

run-stood : (flags old : ℕ) (p : TracedProcess) → IsRising p.lwps → has_agent p ≡ false → IsFrozen p
    → met_in p ≤ suc old → flags ≡ 0 → Stood flags old (with_run 0 p)
run-stood flags old p rises none frozen few unset = by (met_in p) refl
  where
    quiet-stopped : (q : TracedProcess) → IsQuiet q → AreAsStopped q
    quiet-stopped q quiet n l there = let no = quiet.each n l there in stopless l no.no_stop

    by : (m : ℕ) → met_in p ≡ m → Stood flags old (with_run 0 p)
    by zero is =
        as_stopped (run-stopped 0 p (unmet-stopped p is))
        (unmet (run-met-nothing p rises none frozen 0 (unmet (none-unmet p is))))
    by (suc zero) is =
        let stopped = waits-stopped p rises none 0 (record { frozen = frozen; count = is }) in
        let quiet = run-quiet p rises none stopped (omega (arith, is)) in
        as_stopped (quiet-stopped (with_run 0 p) quiet) (unmet (quiet-unmet (with_run 0 p) quiet))
    by (suc (suc m)) is =
        let stopped = waits-stopped p rises none (suc m) (record { frozen = frozen; count = is }) in
        let later = run-waits p rises none stopped m is in
        waits (record { frozen = later.frozen; few = omega (arith, later.count, few, is) }) unset

pub run-ended : (flags : ℕ) (p : TracedProcess) → (with_run flags p).ended ≡ p.ended
unfolding with_run with_all_run with_lwp
run-ended flags p =
    choice (λ (x : TracedProcess). x.ended ≡ p.ended) (runs_one flags) _ _ (λ one. by (representative p)) (λ many. refl)
  where
    by : (r : Option (ℕ × TracedLwp)) → (with_one_run flags r p).ended ≡ p.ended
    by None = refl
    by (Some e) = refl

-- PCRUN, as it is read
pub run-as : (flags : ℕ) → (word : ℕ) × ReadsAs (message.Run word) (first_message (spelling (message.Run flags) []))
unfolding message_code operands nth_word word_bytes word_of message_read one_word
run-as flags =
    let bytes : List ℕ = spelling (message.Run flags) [] in
    (nth_word bytes 1, read-as bytes (message.Run (nth_word bytes 1)) refl refl)

-- ---- messages that leave the lwps

abbrev pub leaves_lwps : Message → Bool
leaves_lwps (message.Read at size) = true
leaves_lwps (message.Write at size) = true
leaves_lwps (message.Strace signals) = true
leaves_lwps (message.Sfault faults) = true
leaves_lwps (message.Sentry calls) = true
leaves_lwps (message.Sexit calls) = true
leaves_lwps (message.Set modes) = true
leaves_lwps (message.Unset modes) = true
leaves_lwps _ = false

abbrev pub BeginLeavingLwps : List ℕ → Type 0
BeginLeavingLwps bytes = IfOk (first_message bytes) (λ first. leaves_lwps first.0 ≡ true)

pub leaves-as : (m : Message) (r : Parsed) → leaves_lwps m ≡ true → ReadsAs m r
    → IfOk r (λ f. leaves_lwps f.0 ≡ true)
leaves-as m (Ok first) leaves same = ap leaves_lwps same ∙ leaves
leaves-as m (Err fault) leaves same = tt

-- a process whose lwps stay, with what their statuses tell, and what it has lent
pub record KeepsLwps (p q : TracedProcess) : Type 0 where
  pub lwps : q.lwps ≡ p.lwps
  pub loan : q.borrower ≡ p.borrower
  pub told : (id : ℕ) (l : TracedLwp) → lwpstatus_of q id l ≡ lwpstatus_of p id l

module _ (n k : ℕ) (o : Options) (s : TracedState) (lawful : IsLawful s) (c : Call) (a : Answer)
    (answer : answer_to s k c ≡ Some a)
    (over : (pid : ℕ) → pid < s.system.made → live_process s.system pid ≡ None
    → live_process a.state.system pid ≡ None) where
  rises : (pid : ℕ) (p : TracedProcess) → live_process s.system pid ≡ Some p → IsRising p.lwps
  rises pid p live = let l = live-lawful s.system pid p lawful.system live in l.rising

  module _ (u : Traced) (bytes : List ℕ) (is : c ≡ call.Ctl u.control bytes) (its : HasControl k u.pid u.control s)
    where
      abbrev DoesTo : TracedProcess → Type 0
      DoesTo p =
          Does n k u.pid 0 u.control s lawful (sole n k o s lawful c a answer over u.pid u.control bytes is its)
          (made n k o s lawful c a answer over u.pid u.control bytes is its) p bytes a

      module _ (p q : TracedProcess) (live : live_process s.system u.pid ≡ Some p)
          (later : live_process a.state.system u.pid ≡ Some q) where
        same-system : a.state.system ≡ s.system → p ≡ q
        same-system same =
            same_Some p q (sym live ∙ ap (λ (x : TracedSystem). live_process x u.pid) (sym same) ∙ later)

        same-lwps : a.state.system ≡ s.system → KeepsLwps p q
        same-lwps same = record {
          lwps = ap (λ (x : TracedProcess). x.lwps) (sym (same-system same));
          loan = ap (λ (x : TracedProcess). x.borrower) (sym (same-system same));
          told = λ id l. ap (λ (x : TracedProcess). lwpstatus_of x id l) (sym (same-system same));
        }

        changed-lwps : (f : TracedProcess → TracedProcess) (len : ℕ)
            → a ≡ controlled s (with_process_changed s.system u.pid p len f) → (f p).ended ≡ p.ended
            → KeepsLwps p (f p) → KeepsLwps p q
        changed-lwps f len it ended keeps =
            let now : live_process a.state.system u.pid ≡ Some (f p) =
            ap (λ (x : Answer). live_process x.state.system u.pid) it ∙ live-changed s.system u.pid f p live ended in
            subst (KeepsLwps p) (same_Some (f p) q (sym now ∙ later)) keeps

        set-lwps : (change : TracedControl → TracedControl) (len : ℕ)
            → a ≡ controlled s (with_set s.system u.pid p len change) → KeepsLwps p q
        unfolding with_control lwpstatus_of
        set-lwps change len it =
            changed-lwps (with_control change) len it refl
            (record { lwps = refl; loan = refl; told = λ id l. refl })

        read-lwps : (r : Result (List ℕ) BadByte) → a ≡ controlled s (read_of s.system u.pid p r) → KeepsLwps p q
        read-lwps (Ok read) it = same-lwps (ap (λ (x : Answer). x.state.system) it)
        read-lwps (Err bad) it = same-lwps (ap (λ (x : Answer). x.state.system) it)

        written-lwps : (at : ℕ) (code : List ℕ) (len : ℕ) (lent fits : Bool)
            → a ≡ controlled s
            (cond lent (refused s.system Busy)
            (cond fits (with_process_changed s.system u.pid p len (with_space (with_bytes at code p.space)))
            (refused s.system Io))) → KeepsLwps p q
        unfolding with_space lwpstatus_of
        written-lwps at code len true fits it = same-lwps (ap (λ (x : Answer). x.state.system) it)
        written-lwps at code len false false it = same-lwps (ap (λ (x : Answer). x.state.system) it)
        written-lwps at code len false true it =
            changed-lwps (with_space (with_bytes at code p.space)) len it refl
            (record { lwps = refl; loan = refl; told = λ id l. refl })

        by-message : (m : Message) (len : ℕ) → leaves_lwps m ≡ true
            → a ≡ controlled s (message_answer s.system u.pid p at_process m (tail_of m bytes) len) → KeepsLwps p q
        unfolding message_answer read_answer write_answer
        by-message (message.Read at size) len leaves it = read-lwps _ it
        by-message (message.Write at size) len leaves it =
            let tail = tail_of (message.Write at size) bytes in
            written-lwps at tail len (has_lent p) (is_ok (bytes_for 0 p.space at (length tail))) it
        by-message (message.Strace signals) len leaves it = set-lwps _ len it
        by-message (message.Sfault faults) len leaves it = set-lwps _ len it
        by-message (message.Sentry calls) len leaves it = set-lwps _ len it
        by-message (message.Sexit calls) len leaves it = set-lwps _ len it
        by-message (message.Set modes) len leaves it = set-lwps _ len it
        by-message (message.Unset modes) len leaves it = set-lwps _ len it
        by-message _ len leaves it = absurd (false≢true leaves)

        pub message-lwps : BeginLeavingLwps bytes → KeepsLwps p q
        message-lwps begins = by (does n k o s lawful c a answer over u.pid u.control bytes is its p live)
          where
            by : DoesTo p → KeepsLwps p q
            by (stretch.refuses errno replied other same) = same-lwps same
            by (stretch.does m len first it) =
                by-message m len (subst (λ (r : Parsed). IfOk r (λ f. leaves_lwps f.0 ≡ true)) first begins) it

        -- PCRUN with whatever flags, or its refusal
        ran : (E : TracedProcess → Type 0) (len flags : ℕ) (refuses : Bool)
            → a ≡ controlled s
            (cond refuses (refused s.system Busy) (with_process_changed s.system u.pid p len (with_run flags)))
            → E p → E (with_run flags p) → E q
        ran E len flags true it stays runs_so =
            subst E (same-system (ap (λ (x : Answer). x.state.system) it)) stays
        ran E len flags false it stays runs_so =
            let now : live_process a.state.system u.pid ≡ Some (with_run flags p) =
            ap (λ (x : Answer). live_process x.state.system u.pid) it
            ∙ live-changed s.system u.pid (with_run flags) p live (run-ended flags p) in
            subst E (same_Some (with_run flags p) q (sym now ∙ later)) runs_so

        pub run-all : (E : TracedProcess → Type 0) (flags : ℕ) → ReadsAs (message.Run flags) (first_message bytes) → E p
            → E (with_run flags p) → E q
        unfolding message_answer run_answer
        run-all E flags reads stays runs_so =
            by (does n k o s lawful c a answer over u.pid u.control bytes is its p live)
          where
            by : DoesTo p → E q
            by (stretch.refuses errno replied other same) = subst E (same-system same) stays
            by (stretch.does m len first it) =
                let same : m ≡ message.Run flags =
                subst (λ (r : Parsed). IfOk r (λ f. f.0 ≡ message.Run flags)) first reads in
                ran E len flags (run_refused p)
                (it ∙ ap (λ x. controlled s (message_answer s.system u.pid p at_process x (tail_of x bytes) len)) same)
                stays runs_so

      pub leaves-stands : BeginLeavingLwps bytes → (at : Position) → StandsSo s at u → StandsSo a.state at u
      leaves-stands begins at h = record {
        prepared = h.prepared;
        stood = λ q later.
            let was =
            by-process n k o s lawful c a answer over u.pid u.control bytes is its KeepsLwps
            (λ p x live now. message-lwps p x live now begins) q later in
            let keeps : KeepsLwps was.0 q = was.1.1 in
            lwps-at was.0 q keeps.lwps keeps.loan at u (h.stood was.0 was.1.0);
      }

  -- ---- a step of an opening

  -- what is known of a process that has no more to stand by
  opens-next : (v : Traced) (next : OpeningStep) → v.marks.flags ≡ 0 → KnowsLwps next v
      → ((p : TracedProcess) → live_process a.state.system v.pid ≡ Some p → StoodAt (opens next) v p)
      → StandsSo a.state (opens next) v
  opens-next v next flags knows stood = record { prepared = (flags, knows); stood = stood }

  module _ (v : Traced) (its : HasControl k v.pid v.control s) (accepted : answer_of a.reply ≡ Accepted) where
    abbrev held : Held
    held = record { controller = k; pid = v.pid; lwp = 0; file = file.Ctl; mode = WriteExcl }

    -- the sets: the lwps stay
    set-next : (m : Message) → c ≡ message_call v.control m → BeginLeavingLwps (spelling m [])
        → (step next : OpeningStep)
        → KnowsLwps next v
        → ((p q : TracedProcess) → q.lwps ≡ p.lwps → StoodAt (opens step) v p → StoodAt (opens next) v q)
        → StandsSo s (opens step) v → StandsSo a.state (opens next) v
    set-next m is begins step next knows on h =
        let h_prepared = h.prepared in
        opens-next v next h_prepared.0 knows (λ q later.
        let was =
        by-process n k o s lawful c a answer over v.pid v.control (spelling m []) is its KeepsLwps
        (λ p x live now. message-lwps v (spelling m []) is its p x live now begins) q later in
        let keeps : KeepsLwps was.0 q = was.1.1 in
        on was.0 q keeps.lwps (h.stood was.0 was.1.0))

    -- the stop is asked for
    stop-next : c ≡ message_call v.control message.Stop → StandsSo s (opens opening.Stop) v
        → StandsSo a.state (opens (opening.AwaitStop (until_in a.reply))) v
    stop-next is h =
        let known = h.prepared in
        opens-next v (opening.AwaitStop (until_in a.reply)) known.0 known.1 (λ q later.
        let was =
        by-process n k o s lawful c a answer over v.pid v.control (spelling message.Stop []) is its
        (λ p x. Unit {0}) (λ p x live now. tt) q later in
        let st = stop-asked s k v.control held its refl was.0 was.1.0 a (ap (answer_to s k) (sym is) ∙ answer)
        accepted in
        (st.until, subst IsHalting (same_Some st.process q (sym st.live ∙ later)) st.halting))

    -- it has stopped
    wait-next : (until : ℕ) → c ≡ call.CtlWait v.control until (spelling message.Stop [])
        → StandsSo s (opens (opening.AwaitStop until)) v → StandsSo a.state (opens opening.ReadLwps) v
    wait-next until is h =
        let known = h.prepared in
        opens-next v opening.ReadLwps known.0 known.1 (λ q later.
        let answers : answer_to s k (call.CtlWait v.control until (spelling message.Stop [])) ≡ Some a =
        ap (answer_to s k) (sym is) ∙ answer in
        let same = wait-stays s k v.control held its refl until (spelling message.Stop []) a answers in
        let live : live_process s.system v.pid ≡ Some q =
        ap (λ (x : TracedSystem). live_process x v.pid) (sym same) ∙ later in
        let stood = h.stood q live in
        let now : answer_to s k (call.CtlWait v.control 0 (spelling message.Stop [])) ≡ Some a =
        subst (λ (m : ℕ). answer_to s k (call.CtlWait v.control m (spelling message.Stop [])) ≡ Some a) stood.0
        answers in
        let stopped = wait-stopped s k v.control held its refl q live a now accepted in
        record {
          halting = stood.1;
          frozen = λ none. stopped-frozen q (rises v.pid q live) none stopped;
        })

    -- the old stops are counted
    look-next : IsReached s → (m : ℕ) → v.lstatus ≡ Some m
        → handle_of s.opens k m
        ≡ Some (record { controller = k; pid = v.pid; lwp = 0; file = file.Lstatus; mode = Read })
        → c ≡ read_record v.lstatus → StandsSo s (opens opening.ReadLwps) v
        → StandsSo a.state (opens opening.TraceSignals)
        (record v { old = length (event_stops (bytes_in a.reply)) - 1 })
    look-next reached m known opened is h =
        let ready = h.prepared in
        record {
          prepared = (ready.0, record { number = m; is = known });
          stood = λ q later.
              look m opened (ap (answer_to s k) (ap read_record (sym known) ∙ sym is) ∙ answer) q later;
        }
      where
        look : (m : ℕ)
            → handle_of s.opens k m
            ≡ Some (record { controller = k; pid = v.pid; lwp = 0; file = file.Lstatus; mode = Read })
            → answer_to s k (read_record (Some m)) ≡ Some a → (q : TracedProcess)
            → live_process a.state.system v.pid ≡ Some q
            → IsCounted (suc (length (event_stops (bytes_in a.reply)) - 1)) q
        look m opened answers q later =
            let state =
            looking-stays s k (read_record (Some m)) a refl answers in
            let live : live_process s.system v.pid ≡ Some q =
            ap (λ (x : TracedState). live_process x.system v.pid) (sym state) ∙ later in
            let found = found-live s.system v.pid q live in
            let own = live-lawful s.system v.pid q lawful.system live in
            let records = records-range s.system lawful.system reached.in_range in
            let its_records = records.processes v.pid q found.0 in
            let fits = All-under (λ (e : ℕ × TracedProcess). IsFitProcess e.1) v.pid q s.system.processes
            reached.fit.processes found.0 in
            let sees =
            lstatus-read s k m (record { controller = k; pid = v.pid; lwp = 0; file = file.Lstatus; mode = Read })
            opened a q live refl its_records.lstatus own.few_lwps answers in
            let counts : length (event_stops (bytes_in a.reply)) ≡ met_in q =
            ap (λ stops. length stops) sees.stops ∙ stops-met q fits in
            record { stopped = h.stood q live; few = λ none. omega (arith, counts) }

    -- it is run
    start-next : c ≡ message_call v.control (message.Run 0) → StandsSo s (opens opening.Start) v
        → StandsSo a.state rests v
    start-next is h = record {
      prepared = tt;
      stood = λ q later.
          let was =
          by-process n k o s lawful c a answer over v.pid v.control (spelling (message.Run 0) []) is its
          (λ p x. Unit {0}) (λ p x live now. tt) q later in
          let none =
          ran-alone n k o s lawful c a answer over v.pid v.control (spelling (message.Run 0) []) is its 0 run-reads
          accepted was.0 was.1.0 in
          let counted = h.stood was.0 was.1.0 in
          let stopped = counted.stopped in
          let now = run-live s k v.control held its refl was.0 was.1.0 a (ap (answer_to s k) (sym is) ∙ answer)
          accepted in
          let ready = h.prepared in
          subst (Stood v.marks.flags v.old) (same_Some (with_run 0 was.0) q (sym now ∙ later))
          (run-stood v.marks.flags v.old was.0 (rises v.pid was.0 was.1.0) none (stopped.frozen none)
          (counted.few none) ready.0);
    }

  pub opening-stands : IsReached s → (v : Traced) (step : OpeningStep) → HasControl k v.pid v.control s
      → ((m : ℕ) → v.lstatus ≡ Some m
      → handle_of s.opens k m
      ≡ Some (record { controller = k; pid = v.pid; lwp = 0; file = file.Lstatus; mode = Read }))
      → c ≡ opened_call o v step → o.follow ≡ false → answer_of a.reply ≡ Accepted → StandsSo s (opens step) v
      → StandsSo a.state (position_after (step_after o a.reply step)) (learnt v a.reply step)
  unfolding opening_call step_after learnt
  opening-stands reached v opening.OpenStatus its lwps is follow accepted h =
      let ready = h.prepared in
      record { prepared = (ready.0, tt); stood = λ p live. tt }
  opening-stands reached v opening.OpenLstatus its lwps is follow accepted h =
      let ready = h.prepared in
      record {
        prepared = (ready.0, record { number = handle_in a.reply; is = refl });
        stood = λ p live. tt;
      }
  opening-stands reached v opening.OpenMemory its lwps is follow accepted h =
      let ready = h.prepared in
      record { prepared = (ready.0, ready.1); stood = λ p live. tt }
  opening-stands reached v opening.ClearModes its lwps is follow accepted h =
      let ready = h.prepared in
      record { prepared = (ready.0, ready.1); stood = λ p live. tt }
  opening-stands reached v opening.SetRelease its lwps is follow accepted h =
      let ready = h.prepared in
      record { prepared = (ready.0, ready.1); stood = λ p live. tt }
  opening-stands reached v opening.Stop its lwps is follow accepted h = stop-next v its accepted is h
  opening-stands reached v (opening.AwaitStop until) its lwps is follow accepted h =
      let next = wait-next v its accepted until is h in
      record { prepared = next.prepared; stood = next.stood }
  opening-stands reached v opening.ReadLwps its lwps is follow accepted h =
      let ready = h.prepared in
      let known = ready.1 in
      look-next v its accepted reached known.number known.is (lwps known.number known.is) is h
  opening-stands reached v opening.TraceSignals its lwps is follow accepted h =
      let ready = h.prepared in
      set-next v its accepted (message.Strace all_signals) is
      (leaves-as (message.Strace (all_signals % 2 ^ 64)) _ refl (signals-read all_signals)) opening.TraceSignals
      opening.TraceFaults ready.1 (λ p q same. lwps-counted p q same (suc v.old)) h
  opening-stands reached v opening.TraceFaults its lwps is follow accepted h =
      let ready = h.prepared in
      set-next v its accepted (message.Sfault all_faults) is
      (leaves-as (message.Sfault (all_faults % 2 ^ 64)) _ refl (faults-read all_faults)) opening.TraceFaults
      opening.TraceEntries ready.1 (λ p q same. lwps-counted p q same (suc v.old)) h
  opening-stands reached v opening.TraceEntries its lwps is follow accepted h =
      let ready = h.prepared in
      let word : ℕ = with_copying (traced_entries o) in
      set-next v its accepted (message.Sentry word) is
      (leaves-as (message.Sentry (word % 2 ^ 64)) _ refl (entries-read word)) opening.TraceEntries
      opening.TraceExits ready.1 (λ p q same. lwps-counted p q same (suc v.old)) h
  opening-stands reached v opening.TraceExits its lwps is follow accepted h =
      let ready = h.prepared in
      let word : ℕ = with_copying (traced_exits o) in
      subst (λ b. StandsSo a.state (opens (cond b opening.Follow opening.Start)) v) (sym follow)
      (set-next v its accepted (message.Sexit word) is
      (leaves-as (message.Sexit (word % 2 ^ 64)) _ refl (exits-read word)) opening.TraceExits opening.Start ready.1
      (λ p q same. lwps-counted p q same (suc v.old)) h)
  opening-stands reached v opening.Follow its lwps is follow accepted h =
      let ready = h.prepared in
      set-next v its accepted (message.Set fork_mode) is
      (leaves-as (message.Set fork_mode) _ refl follow-reads) opening.Follow opening.Start ready.1
      (λ p q same. lwps-counted p q same (suc v.old)) h
  opening-stands reached v opening.Start its lwps is follow accepted h = start-next v its accepted is h

  -- ---- PCRUN in the loop

  pub run-stands : (u : Traced) → HasControl k u.pid u.control s
      → c ≡ message_call u.control (message.Run u.marks.flags)
      → ((p : TracedProcess) → live_process s.system u.pid ≡ Some p → has_agent p ≡ false) → StandsSo s runs u
      → StandsSo a.state rests (unflagged u)
  run-stands u its is alone h = record {
    prepared = tt;
    stood = λ q later.
        let was =
        by-process n k o s lawful c a answer over u.pid u.control (spelling (message.Run u.marks.flags) []) is its
        (λ p x. Stood 0 u.old x)
        (λ p x live now. let stood = h.stood p live in on p x live now stood.0 stood.1) q later in
        was.1.1;
  }
    where
      -- each lwp of it is as it stopped, and one at most has met an event
      run-loose : (p q : TracedProcess) → live_process s.system u.pid ≡ Some p
          → live_process a.state.system u.pid ≡ Some q → IsFrozen p → (flags : ℕ)
          → c ≡ message_call u.control (message.Run flags) → AreAsStopped p → HasOneEventAtMost p → Stood 0 u.old q
      run-loose p q live later frozen flags sent all few =
          let reads = run-as flags in
          run-all u (spelling (message.Run flags) []) sent its p q live later (Stood 0 u.old) reads.0 reads.1
          (as_stopped all few)
          (as_stopped (run-stopped reads.0 p all)
          (unmet (run-met-nothing p (rises u.pid p live) (alone p live) frozen reads.0 few)))

      run-waiting : (p q : TracedProcess) → live_process s.system u.pid ≡ Some p
          → live_process a.state.system u.pid ≡ Some q → IsFrozen p → met_in p ≤ suc u.old
          → c ≡ message_call u.control (message.Run 0) → Stood 0 u.old q
      run-waiting p q live later frozen few now = by (met_in p) refl
        where
          sent : answer_to s k (message_call u.control (message.Run 0)) ≡ Some a
          sent = ap (answer_to s k) (sym now) ∙ answer

          held : Held
          held = record { controller = k; pid = u.pid; lwp = 0; file = file.Ctl; mode = WriteExcl }

          by : (m : ℕ) → met_in p ≡ m → Stood 0 u.old q
          by zero counts =
              run-loose p q live later frozen 0 now (unmet-stopped p counts) (unmet (none-unmet p counts))
          by (suc m) counts =
              let none = alone p live in
              let stopped = waits-stopped p (rises u.pid p live) none m (record { frozen = frozen; count = counts }) in
              let granted = run-granted s k u.control held its refl p live a lawful.system none stopped sent in
              let ran = run-live s k u.control held its refl p live a sent granted in
              subst (Stood 0 u.old) (same_Some (with_run 0 p) q (sym ran ∙ later))
              (run-stood 0 u.old p (rises u.pid p live) none frozen few refl)

      on : (p q : TracedProcess) → live_process s.system u.pid ≡ Some p → live_process a.state.system u.pid ≡ Some q
          → Stood u.marks.flags (suc u.old) p → IsFrozen p → Stood 0 u.old q
      on p q live later (as_stopped all few) frozen = run-loose p q live later frozen u.marks.flags is all few
      on p q live later (waits w none) frozen =
          run-waiting p q live later w.frozen w.few
          (is ∙ ap (λ f. message_call u.control (message.Run f)) none)
