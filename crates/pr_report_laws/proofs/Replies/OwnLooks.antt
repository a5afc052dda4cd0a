use Rattle.std.proofs.Common.{◌≡◌, ◌<◌, ℕ, suc, Bool, true, false, None, Some, cond, List, [], ◌∷◌, length, map, refl, sym, subst, ap, ◌∙◌, inl, inr, ◌⊎◌}
use Rattle.std.proofs.lemmas.Bool.{false≢true}
use Rattle.std.proofs.lemmas.Option.{same_Some, none-some}
use Rattle.std.specs.List.{All, filter, slice_get}
use Rattle.pr_lawful.proofs.LawfulTurns.EndLemmas.{found-live}
use Rattle.pr_line.specs.Events.{event_of}
use Rattle.pr_line.specs.declared.events.Event.{Event}
use Rattle.pr_line.specs.declared.options.Options.{Options}
use Rattle.pr_model.specs.Calls.{Answer, answer_to}
use Rattle.pr_model.specs.Handles.{handle_of}
use Rattle.pr_model.specs.Lawful.{IsLawful, IsLawfulProcess}
use Rattle.pr_model.specs.Records.{lstatus_of}
use Rattle.pr_model.specs.State.{TracedProcess, TracedState, TracedSystem, live_process}
use Rattle.pr_model.specs.Statuses.{lwpstatus_of, status_of}
use Rattle.pr_laws.proofs.RunLemmas.{representative-stands}
use Rattle.pr_model.specs.Replies.{bytes_in, number_of}
use Rattle.pr_model.specs.Stops.{is_stopped, representative}
use Rattle.pr_model.specs.declared.calls.Call.{Call}
use Rattle.pr_model.specs.declared.calls.Call.TheVariants as call
use Rattle.pr_model.specs.declared.calls.File.TheVariants as file
use Rattle.pr_model.specs.declared.calls.Mode.TheVariants.{Read, WriteExcl}
use Rattle.pr_model.specs.declared.calls.Reply.{Reply}
use Rattle.pr_model.specs.declared.calls.Reply.TheVariants as reply
use Rattle.pr_num.proofs.ByIdLaws.{All-under}
use Rattle.pr_num.specs.ById.{IsRising}
use Rattle.pr_rec.specs.InRange.{IsLwpStatus, IsStatus}
use Rattle.pr_rec.specs.declared.lwps.LwpStatus.{LwpStatus}
use Rattle.pr_truss.specs.Feeding.{fed}
use Rattle.pr_truss.specs.NextCalls.{call_of, next_call_of, read_record}
use Rattle.pr_truss.specs.Records.{event_stops, is_on_event}
use Rattle.pr_truss.specs.Replies.{answer_of, ready_in}
use Rattle.pr_truss.specs.Trusses.{TrussState, traced_at}
use Rattle.pr_truss.specs.declared.processes.Traced.{Traced}
use Rattle.pr_truss.specs.declared.replies.Answer.TheVariants.{Accepted}
use Rattle.pr_truss.specs.declared.stages.Stage.{Stage}
use Rattle.pr_truss.specs.declared.stages.Stage.TheVariants.{Polling, ReadingStatus, ReadingText, ReadingLwps}
use Rattle.pr_truss_laws.proofs.Replies.FitLemmas.{fed-fits}
use Rattle.pr_truss_laws.proofs.Machine.ForeignLemmas.{names}
use Rattle.pr_truss_laws.proofs.Files.HeldLemmas.{Fits}
use Rattle.pr_truss_laws.proofs.Files.OpensLemmas.{held_by, looking-stays, only_looks}
use Rattle.pr_truss_laws.proofs.Files.OwnLemmas.{Owns}
use Rattle.pr_report_laws.proofs.Invariant.Tallies.{Tally, with_told}
use Rattle.pr_report_laws.proofs.Invariant.EntrySteps.{Lost, standing-why}
use Rattle.pr_report_laws.proofs.Machine.EventStopLemmas as stops
use Rattle.pr_report_laws.proofs.Files.FileLaws.{HasFiles}
use Rattle.pr_report_laws.proofs.Files.FileUses as uses
use Rattle.pr_report_laws.proofs.Invariant.LeaveSteps.{TellsLwps, lwps-prepares, lwps-standing}
use Rattle.pr_report_laws.proofs.Replies.NewStops.{read_now}
use Rattle.pr_report_laws.proofs.Replies.OpeningCalls.{files-order}
use Rattle.pr_report_laws.proofs.Replies.Orderly.{IsOrderly}
use Rattle.pr_report_laws.proofs.Invariant.OwnCalls.{Leaves, Misses, missed-standing}
use Rattle.pr_report_laws.proofs.Machine.PollLaws.{IsStoppedAt, never-interrupted, poll-ready, poll-stays}
use Rattle.pr_report_laws.proofs.Invariant.PollSteps.{HasStopped, named-control, named-within, poll-names, poll-prepares, poll-standing}
use Rattle.pr_report_laws.proofs.Machine.RecordLaws as reads
use Rattle.pr_report_laws.proofs.Invariant.StandLemmas.{busy}
use Rattle.pr_report_laws.proofs.Invariant.Standing.{Prepares, Standing}
use Rattle.pr_report_laws.proofs.Invariant.StatusSteps.{TellsStatus, status-prepares, status-standing}
use Rattle.pr_report_laws.proofs.Machine.StoppedLaws.{HasMetFirst, event-first, event-waits, live-rising, quiet-runs, waits-first, waits-stopped}
use Rattle.pr_report_laws.proofs.Invariant.TextSteps.{text-prepares, text-standing}
use Rattle.pr_report_laws.proofs.Machine.TracedPoints.{fit-lwp, fit-process}
use Rattle.pr_reached.specs.Fits.{IsFitProcess, IsFitSystem}
use Rattle.pr_report_laws.proofs.Invariant.Positions.{HasEvent}

-- What truss makes of what it reads and polls: the stages in which it looks at its processes.

-- the records of a process that truss reads have their fields in their ranges
pub record ReadsBack (pid : ℕ) (s : TracedState) : Type 0 where
  pub status : (p : TracedProcess) → live_process s.system pid ≡ Some p → IsStatus (status_of s.system pid p)
  pub lwps : (p : TracedProcess) → live_process s.system pid ≡ Some p → All IsLwpStatus (lstatus_of p)

-- a call of truss in a state, and what is known of both
pub record IsCall (k : ℕ) (o : Options) (pid : ℕ) (t : TrussState) (s : TracedState) (c : Call)
    (a : Answer) : Type 0 where
  pub next : next_call_of t ≡ Some c
  pub answer : answer_to s k c ≡ Some a
  pub lawful : IsLawful s
  pub later : IsLawful a.state
  pub fit : IsFitSystem s.system
  pub owns : Owns k t s
  pub files : HasFiles k t s
  pub files_later : HasFiles k (fed t a.reply) a.state
  pub options : t.options ≡ o
  pub reads : ReadsBack pid s

-- how the process stands afterwards
pub record Comes (Why : Type 0) (o : Options) (pid : ℕ) (u : TrussState) (s : TracedState)
    (tally : Tally) : Type 0 where
  pub standing : Standing Why o pid u s tally
  pub prepares : Prepares o pid u s

-- a reply that a handle is ready
pub ready-reply : (r : Reply) (handle : ℕ) → ready_in r ≡ Some handle → r ≡ reply.Ready handle
unfolding ready_in
ready-reply (reply.Ready m) handle is = ap (λ n. reply.Ready n) (same_Some m handle is)
ready-reply _ handle is = cc

-- the first of those that pass a test
first-passes : {X : Type 0} (f : X → Bool) (xs : List X) (n : ℕ) → length (filter f xs) ≡ suc n
    → (x : X) × ((slice_get (filter f xs) 0 ≡ Some x) × (f x ≡ true))
first-passes f [] n some = cc
first-passes {X} f (x ∷ xs) n some = by (f x) refl (first-passes f xs n) some
  where
    by : (b : Bool) → f x ≡ b
        → (length (filter f xs) ≡ suc n → (y : X) × ((slice_get (filter f xs) 0 ≡ Some y) × (f y ≡ true)))
        → length (cond b (x ∷ filter f xs) (filter f xs)) ≡ suc n
        → (y : X) × ((slice_get (cond b (x ∷ filter f xs) (filter f xs)) 0 ≡ Some y) × (f y ≡ true))
    by true is later some = (x, (refl, is))
    by false is later some = later some

-- what the record of its lwps tells of a process
lwps-tell : (p : TracedProcess) (r : Reply) → IsRising p.lwps → IsFitProcess p → answer_of r ≡ Accepted
    → event_stops (bytes_in r) ≡ filter is_on_event (lstatus_of p) → TellsLwps p r
lwps-tell p r rises fit accepted is = record {
  accepted = accepted;
  none = λ quiet. ap (λ (ls : List LwpStatus). slice_get ls 0) is ∙ stops.first-none p rises quiet;
  tells = λ id event has.
      let first = stops.first-stop p rises id event has in (
        lwpstatus_of p id first.lwp,
        (
          ap (λ (ls : List LwpStatus). slice_get ls 0) is
              ∙ first.is,
          (first.tells, first.own),
        ),
      );
  waits = λ n waits.
      let found = first-passes is_on_event (lstatus_of p) n (stops.stops-met p fit ∙ waits.count) in
      (found.0, (ap (λ (ls : List LwpStatus). slice_get ls 0) is ∙ found.1.0, found.1.1));
}

-- where the representative stands on the event that is not read yet, the status of the process tells that event
representative-tells : (s : TracedSystem) (pid : ℕ) (p : TracedProcess) (id : ℕ) (event : Event)
    (has : HasEvent p id event) → representative p ≡ Some (id, has.lwp)
    → (event_of (status_of s pid p).lwp ≡ Some event) × ((status_of s pid p).lwp.id ≡ id)
unfolding lwpstatus_of
representative-tells s pid p id event has first =
    let is = reads.representative-told s pid p (id, has.lwp) first in
    (ap event_of is ∙ has.tells, ap (λ (l : LwpStatus). l.id) is)

module _ (k : ℕ) (o : Options) (pid : ℕ) (t : TrussState) (s : TracedState) (c : Call) (a : Answer)
    (i : IsCall k o pid t s c a) (K Ends : Type 0) (leaves : Leaves Ends pid t s a.state) (tally : Tally)
    (standing : Standing (Lost K pid s) o pid t s tally) where
  abbrev Why : Type 0
  Why = Lost (K ⊎ Ends) pid a.state

  -- truss keeps its processes in order
  pub call-order : IsOrderly t
  call-order = files-order k t s i.files i.owns.fits

  pub order-later : IsOrderly (fed t a.reply)
  order-later = files-order k (fed t a.reply) a.state i.files_later (fed-fits t a.reply i.owns.fits)

  -- why an event was missing before the call, it is missing afterwards
  pub lost-later : Lost K pid s → Why
  lost-later lost = record {
    cause = inl lost.cause;
    over = leaves.over lost.made lost.over;
    made = leaves.made lost.made;
  }

  -- how the process stood before the call
  pub stood-before : Standing Why o pid t s tally
  stood-before = standing-why (Lost K pid s) Why o pid t s tally lost-later standing

  -- the call that a stage makes
  pub call-is : (stage : Stage) (d : Call) → t.stage ≡ stage → call_of t stage ≡ Some d → c ≡ d
  unfolding next_call_of
  call-is stage d at makes = same_Some c d (sym i.next ∙ ap (call_of t) at ∙ makes)

  pub answer-is : (d : Call) → c ≡ d → answer_to s k d ≡ Some a
  answer-is d same = subst (λ x. answer_to s k x ≡ Some a) same i.answer

  -- a call that names no handle of a control file
  pub plain-misses : (d : Call) → c ≡ d → ((m : ℕ) → names d m ≡ false) → Misses k pid s c
  plain-misses d same plain =
      record { each = λ m g named held. absurd (false≢true (sym (plain m) ∙ ap (λ x. names x m) (sym same) ∙ named)) }

  pub missed : Misses k pid s c → Standing Why o pid t a.state tally
  missed misses = missed-standing k o pid t s c a i.answer i.lawful i.owns i.files K Ends leaves misses tally standing

  pub plain-missed : (d : Call) → c ≡ d → ((m : ℕ) → names d m ≡ false) → Standing Why o pid t a.state tally
  plain-missed d same plain = missed (plain-misses d same plain)

  -- ---- a poll

  pub polling-comes : t.stage ≡ Polling → Comes Why o pid (fed t a.reply) a.state tally
  unfolding call_of
  polling-comes at =
      let handles : List ℕ = map (λ (x : Traced). x.control) t.traced in
      let same = call-is Polling (call.Poll handles) at refl in
      let answer = answer-is (call.Poll handles) same in
      let system : a.state.system ≡ s.system = poll-stays s k handles a answer in
      record {
        standing =
            poll-standing Why o pid t a.state tally at a.reply
            (λ place p named own live. polled handles answer system place p named own live)
            (plain-missed (call.Poll handles) same (λ m. refl));
        prepares = poll-prepares Why o pid t a.state tally at a.reply;
      }
    where
      polled : (handles : List ℕ) → answer_to s k (call.Poll handles) ≡ Some a → a.state.system ≡ s.system
          → (place : ℕ) (p : TracedProcess) → (fed t a.reply).stage ≡ ReadingStatus place
          → (traced_at t place).pid ≡ pid → live_process a.state.system pid ≡ Some p → HasStopped p
      polled handles answer system place p named own live =
          let n = poll-names t a.reply place at named in
          let within = named-within t a.reply place n in
          let f = i.files.control place within in
          let held : handle_of s.opens k n.handle ≡ Some (held_by k pid 0 file.Ctl WriteExcl) =
          subst (λ m. handle_of s.opens k m ≡ Some (held_by k pid 0 file.Ctl WriteExcl))
          (named-control t a.reply place n) (f.is ∙ ap (λ of. Some (held_by k of 0 file.Ctl WriteExcl)) own) in
          let here : live_process s.system pid ≡ Some p =
          ap (λ (x : TracedSystem). live_process x pid) (sym system) ∙ live in
          elim (poll-ready s k handles a n.handle (held_by k pid 0 file.Ctl WriteExcl) answer
          (ready-reply a.reply n.handle n.ready) held refl) [
            | inl none ↦ absurd (none-some p (sym none ∙ here))
            | inr st ↦ stopped p here st
          ]
        where
          stopped : (p : TracedProcess) → live_process s.system pid ≡ Some p → IsStoppedAt s.system pid → HasStopped p
          stopped p here st =
              let is : is_stopped p ≡ true =
              subst (λ (x : TracedProcess). is_stopped x ≡ true) (same_Some st.process p (sym st.live
              ∙ here)) st.stopped in
              let rises = live-rising s.system pid p i.lawful.system here in
              record {
                stops = λ quiet. false≢true (sym (quiet-runs p rises quiet) ∙ is);
                still = λ no_agent id event has. event-waits p rises no_agent id event has is;
              }

  -- ---- a status

  same-system : (d : Call) → c ≡ d → only_looks d ≡ true → a.state.system ≡ s.system
  same-system d same looks = ap (λ (x : TracedState). x.system) (looking-stays s k d a looks (answer-is d same))

  pub status-comes : (place : ℕ) → t.stage ≡ ReadingStatus place
      → Comes Why o pid (fed t a.reply) a.state (with_told tally (read_now pid t a.reply))
  unfolding call_of
  status-comes place at =
      let same = call-is (ReadingStatus place) (read_record (traced_at t place).status) at refl in
      let system = same-system (read_record (traced_at t place).status) same refl in
      let stands = uses.standing k t s (ReadingStatus place) i.files at in
      let within : place < length t.traced = subst (λ (x : Stage). Fits t.traced x) at i.owns.fits in
      let on = uses.attached-all k t s i.files stands.leaves (ap busy at) place within in
      record {
        standing =
            status-standing t place a.reply at call-order stands.leaves Why o pid a.state tally on.attached
            (λ own none. let e = ended own (ap (λ (x : TracedSystem). live_process x pid) (sym system)
            ∙ none) in e.gone)
            (λ own p live. told own p (ap (λ (x : TracedSystem). live_process x pid) (sym system) ∙ live))
            (plain-missed (read_record (traced_at t place).status) same (λ m. refl));
        prepares = status-prepares t place a.reply at call-order stands.leaves o pid a.state;
      }
    where
      answer : answer_to s k (read_record (traced_at t place).status) ≡ Some a
      answer =
          answer-is (read_record (traced_at t place).status)
          (call-is (ReadingStatus place) (read_record (traced_at t place).status) at refl)

      held : (traced_at t place).pid ≡ pid
          → handle_of s.opens k (number_of (traced_at t place).status) ≡ Some (held_by k pid 0 file.Status Read)
      held own =
          let f = uses.status-read k t s i.files i.owns.fits place at in
          f.is ∙ ap (λ of. Some (held_by k of 0 file.Status Read)) own

      ended : (traced_at t place).pid ≡ pid → live_process s.system pid ≡ None → reads.SeesEnd s a
      ended own none =
          reads.status-ended s k (number_of (traced_at t place).status) (held_by k pid 0 file.Status Read)
          (held own) a refl none answer

      told : (traced_at t place).pid ≡ pid → (p : TracedProcess) → live_process s.system pid ≡ Some p
          → TellsStatus p a.reply
      told own p live =
          let sees =
          reads.status-read s k (number_of (traced_at t place).status) (held_by k pid 0 file.Status Read)
          (held own) a p live refl (i.reads.status p live) answer in
          let rises = live-rising s.system pid p i.lawful.system live in
          record {
            accepted = sees.accepted;
            lwp = (status_of s.system pid p).lwp;
            read = sees.lwp;
            waits = λ no_agent n waits. met p live (waits-first p rises no_agent n waits);
            tells = λ no_agent id event has waits.
                representative-tells s.system pid p id event has
                (event-first p rises no_agent id event has (waits-stopped p rises no_agent 0 waits));
          }
        where
          met : (p : TracedProcess) → live_process s.system pid ≡ Some p → HasMetFirst p
              → is_on_event (status_of s.system pid p).lwp ≡ true
          met p live first =
              let rises = live-rising s.system pid p i.lawful.system live in
              let fit =
              fit-lwp p first.lwp.0 first.lwp.1 (fit-process s.system pid p i.fit live)
              (representative-stands p first.lwp rises first.is) in
              ap is_on_event (reads.representative-told s.system pid p first.lwp first.is)
              ∙ stops.on-where-met p first.lwp.0 first.lwp.1 fit ∙ first.met

  -- ---- the memory of an event

  pub text-comes : (place : ℕ) (l : LwpStatus) (from len : ℕ) → t.stage ≡ ReadingText place l from len
      → Comes Why o pid (fed t a.reply) a.state tally
  unfolding call_of
  text-comes place l from len at =
      let same =
      call-is (ReadingText place l from len) (call.Read (number_of (traced_at t place).memory) from len) at refl in
      let stands = uses.standing k t s (ReadingText place l from len) i.files at in
      record {
        standing = text-standing t place l from len a.reply at call-order stands.leaves Why o pid a.state tally
            (λ own. never-interrupted s k (call.Read (number_of (traced_at t place).memory) from len) a refl
            (answer-is (call.Read (number_of (traced_at t place).memory) from len) same))
            (plain-missed (call.Read (number_of (traced_at t place).memory) from len) same (λ m. refl));
        prepares = text-prepares t place l from len a.reply at call-order stands.leaves o pid a.state;
      }

  -- ---- the lwps of a process that truss leaves

  pub lwps-comes : t.stage ≡ ReadingLwps
      → Comes Why o pid (fed t a.reply) a.state (with_told tally (read_now pid t a.reply))
  unfolding call_of
  lwps-comes at =
      let same = call-is ReadingLwps (read_record (traced_at t 0).lstatus) at refl in
      let system = same-system (read_record (traced_at t 0).lstatus) same refl in
      let stands = uses.standing k t s ReadingLwps i.files at in
      record {
        standing =
            lwps-standing t a.reply at call-order stands.leaves Why o pid a.state tally stands.at.attached
            (λ own none. let e = ended own (ap (λ (x : TracedSystem). live_process x pid) (sym system)
            ∙ none) in e.gone)
            (λ own p live. told own p (ap (λ (x : TracedSystem). live_process x pid) (sym system) ∙ live))
            (plain-missed (read_record (traced_at t 0).lstatus) same (λ m. refl));
        prepares = lwps-prepares t a.reply at call-order stands.leaves o pid a.state;
      }
    where
      answer : answer_to s k (read_record (traced_at t 0).lstatus) ≡ Some a
      answer =
          answer-is (read_record (traced_at t 0).lstatus)
          (call-is ReadingLwps (read_record (traced_at t 0).lstatus) at refl)

      held : (traced_at t 0).pid ≡ pid
          → handle_of s.opens k (number_of (traced_at t 0).lstatus) ≡ Some (held_by k pid 0 file.Lstatus Read)
      held own =
          let f = uses.lwps-read k t s i.files i.owns.fits at in
          f.is ∙ ap (λ of. Some (held_by k of 0 file.Lstatus Read)) own

      ended : (traced_at t 0).pid ≡ pid → live_process s.system pid ≡ None → reads.SeesEnd s a
      ended own none =
          reads.lstatus-ended s k (number_of (traced_at t 0).lstatus) (held_by k pid 0 file.Lstatus Read)
          (held own) a refl none answer

      told : (traced_at t 0).pid ≡ pid → (p : TracedProcess) → live_process s.system pid ≡ Some p → TellsLwps p a.reply
      told own p live =
          let lawful =
          All-under IsLawfulProcess pid p s.system.processes i.lawful.system.processes
          (found-live s.system pid p live).0 in
          let sees =
          reads.lstatus-read s k (number_of (traced_at t 0).lstatus) (held_by k pid 0 file.Lstatus Read)
          (held own) a p live refl (i.reads.lwps p live) lawful.few_lwps answer in
          lwps-tell p a.reply lawful.rising (fit-process s.system pid p i.fit live) sees.accepted sees.stops
