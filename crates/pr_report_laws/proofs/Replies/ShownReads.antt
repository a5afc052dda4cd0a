use Rattle.std.proofs.Common.{◌≡◌, ◌≢◌, ◌==◌, ◌++◌, nat_lt, ℕ, Bool, true, false, cond, is_some, Option, Some, None, List, [], ◌∷◌, slice_get, refl, sym, ap, ◌∙◌}
use Rattle.std.proofs.lemmas.List.{append-nil}
use Rattle.std.proofs.lemmas.List.Elements.{filter_map-append}
use Rattle.std.specs.List.{cons_option}
use Rattle.std.specs.Option.{option_and_then, option_map}
use Rattle.pr_line.specs.ArgumentTexts.{Came}
use Rattle.pr_line.specs.Events.{event_of}
use Rattle.pr_line.specs.Selections.{is_selected}
use Rattle.pr_line.specs.declared.events.Event.{Event}
use Rattle.pr_model.specs.Replies.{bytes_in}
use Rattle.pr_model.specs.declared.calls.Reply.{Reply}
use Rattle.pr_num.specs.declared.errnos.Errno.{Errno}
use Rattle.pr_rec.specs.declared.lwps.LwpStatus.{LwpStatus}
use Rattle.pr_truss.specs.Feeding.{fed}
use Rattle.pr_truss.specs.Records.{event_stops, is_on_event, status_lwp}
use Rattle.pr_truss.specs.Replies.{answer_of}
use Rattle.pr_truss.specs.Reports.{pending_at}
use Rattle.pr_truss.specs.Stops.{text_of}
use Rattle.pr_truss.specs.Trusses.{TrussState, traced_at, with_stage}
use Rattle.pr_truss.specs.declared.replies.Answer.TheVariants.{Accepted, Interrupted, Gone}
use Rattle.pr_truss.specs.declared.reports.Report.{Report}
use Rattle.pr_truss.specs.declared.reports.Report.TheVariants.{CannotStart, CannotTrace, Event as Reported}
use Rattle.pr_truss.specs.declared.stages.AfterClosing.{AfterClosing}
use Rattle.pr_truss.specs.declared.stages.Stage.{Stage}
use Rattle.pr_truss.specs.declared.stages.Stage.TheVariants.{ReadingStatus, ReadingText, ReadingLwps}
use Rattle.pr_truss_laws.proofs.Replies.FedSteps.{fed-step}
use Rattle.pr_truss_laws.proofs.Replies.ReplySteps as step
use Rattle.pr_truss_laws.proofs.Replies.ReplySteps.{Closes, GoesOn, IsNew, Looks, Reads, ReplyStep, Returns, Settles, StopOver, Turns, on-staged, over-staged}
use Rattle.pr_report_laws.proofs.Invariant.Tallies.{told_in}
use Rattle.pr_report_laws.proofs.Replies.NewStops.{new_at, new_of, read_at, read_now, refused-bytes}
use Rattle.pr_report_laws.proofs.Replies.NextStages.{reported}
use Rattle.pr_report_laws.proofs.Replies.StopsOver.{reported-text, shown-none, shown-text}
use Rattle.pr_report_laws.specs.Shown.{LwpEvent, event_reported, event_told, shown}

-- What a reply adds to what truss has shown of a process: the event that it reads then, if the options select it. This
-- is so whatever the replies are.

-- ---- stages at which no event waits for its memory

on-pending : (u v : TrussState) (given : Bool) → GoesOn u given v → pending_at v v.stage ≡ []
on-pending u v given (step.polls _ _) = refl
on-pending u v given _ = refl

over-pending : (u v : TrussState) (place : ℕ) (child : Option ℕ) → StopOver u place child v → pending_at v v.stage ≡ []
over-pending u v place child (step.runs _) = refl
over-pending u v place child _ = refl

turn-pending : (t : TrussState) (r : Reply) (stage next : Stage) → Turns t r stage next
    → pending_at (with_stage t next) next ≡ []
turn-pending t r stage next (step.starts _) = refl
turn-pending t r stage next _ = refl

-- ---- what reports show

-- a report more
reported-more : (pid : ℕ) (rs : List Report) (x : Report)
    → reported pid (rs ++ x ∷ []) ≡ reported pid rs ++ cons_option (event_reported pid x) []
unfolding reported
reported-more pid rs x = filter_map-append (event_reported pid) rs (x ∷ [])

start-silent : (pid : ℕ) (rs : List Report) (program : List ℕ) (errno : Errno)
    → reported pid (rs ++ CannotStart program errno ∷ []) ≡ reported pid rs
unfolding event_reported
start-silent pid rs program errno = reported-more pid rs (CannotStart program errno) ∙ append-nil (reported pid rs)

trace-silent : (pid : ℕ) (rs : List Report) (of : ℕ) (errno : Errno)
    → reported pid (rs ++ CannotTrace of errno ∷ []) ≡ reported pid rs
unfolding event_reported
trace-silent pid rs of errno = reported-more pid rs (CannotTrace of errno) ∙ append-nil (reported pid rs)

module _ (pid : ℕ) (t : TrussState) (r : Reply) where
  -- where no event waits for its memory
  now-shows : (v : TrussState) (rs : List Report) → v.reports ≡ rs → pending_at v v.stage ≡ []
      → shown pid v ≡ reported pid rs
  now-shows v rs same none = shown-none pid v none ∙ ap (reported pid) same

  -- ---- what is read

  abbrev sel : Event → Bool
  sel = is_selected t.options

  -- truss has shown this much more of the process then
  abbrev Adds : List LwpEvent → Option LwpEvent → Type 0
  Adds es e = es ≡ shown pid t ++ told_in sel e

  adds-none : (es : List LwpEvent) (e : Option LwpEvent) → e ≡ None → es ≡ shown pid t → Adds es e
  adds-none es e none same =
      same ∙ sym (ap (λ (x : Option LwpEvent). shown pid t ++ told_in sel x) none ∙ append-nil (shown pid t))

  -- no event of it is new
  none-new : (at : ℕ) (l : Option LwpStatus) → new_of (traced_at t at) l ≡ None → new_at pid (traced_at t at) l ≡ None
  none-new at l none =
      ap (λ (e : Option LwpEvent). cond ((traced_at t at).pid == pid) e None) none ∙ by ((traced_at t at).pid == pid)
    where
      by : (b : Bool) → cond {A = Option LwpEvent} b None None ≡ None
      by true = refl
      by false = refl

  refused-none : (stage : Stage) → answer_of r ≢ Accepted → read_at pid t r stage ≡ None
  unfolding event_stops
  refused-none (ReadingStatus at) refused =
      ap (λ bytes. new_at pid (traced_at t at) (option_and_then status_lwp bytes)) (refused-bytes r refused)
      ∙ none-new at None refl
  refused-none ReadingLwps refused =
      ap (λ bytes. new_at pid (traced_at t 0) (slice_get (event_stops bytes) 0)) (refused-bytes r refused)
      ∙ none-new 0 None refl
  refused-none _ refused = refl

  -- a call that reads stops tells of the lwp that it reads
  reads-none : (stage : Stage) (place : ℕ) (l : Option LwpStatus) → Reads t r stage place l → pending_at t stage ≡ []
  reads-none stage place l (step.reads_lwps _) = refl
  reads-none stage place l _ = refl

  reads-at : (stage : Stage) (place : ℕ) (l : Option LwpStatus) → Reads t r stage place l
      → read_at pid t r stage ≡ new_at pid (traced_at t place) l
  reads-at stage place l (step.reads_status _) = refl
  reads-at stage place l (step.reads_lwps _) = refl
  reads-at stage place l (step.reads_none refused) =
      refused-none (ReadingStatus place) refused ∙ sym (none-new place None refl)

  module _ (stage : Stage) (place : ℕ) (l : Option LwpStatus) where
    read-shows : t.stage ≡ stage → Reads t r stage place l → (es : List LwpEvent) (e : Option LwpEvent)
        → new_at pid (traced_at t place) l ≡ e → es ≡ reported pid t.reports ++ told_in sel e
        → Adds es (read_at pid t r stage)
    read-shows at reads es e is tells =
        tells
        ∙ ap (λ (xs : List LwpEvent). xs ++ told_in sel e)
        (sym (shown-none pid t (ap (pending_at t) at ∙ reads-none stage place l reads)))
        ∙ ap (λ (x : Option LwpEvent). shown pid t ++ told_in sel x) (sym (reads-at stage place l reads ∙ is))

    silent-shows : t.stage ≡ stage → Reads t r stage place l → new_of (traced_at t place) l ≡ None
        → Adds (reported pid t.reports) (read_at pid t r stage)
    silent-shows at reads none =
        read-shows at reads (reported pid t.reports) None (none-new place l none)
        (sym (append-nil (reported pid t.reports)))

    none-of : ((m : LwpStatus) (e : Event) → l ≡ Some m → IsNew t r place m e → ⊥) → new_of (traced_at t place) l ≡ None
    unfolding is_on_event
    none-of none = by l refl
      where
        new : (m : LwpStatus) → l ≡ Some m → (e : Option Event) → event_of m ≡ e → (a b : Bool)
            → nat_lt 0 (traced_at t place).old ≡ a → (traced_at t place).seen ≡ b
            → cond a None (cond b None (option_map (λ (x : Event). let it : LwpEvent = record {
              id = m.id;
              event = x;
            } in it) e)) ≡ None
        new m is e tells true b old seen = refl
        new m is e tells false true old seen = refl
        new m is None tells false false old seen = refl
        new m is (Some e) tells false false old seen =
            absurd (none m e is (record {
              stands = ap is_some tells;
              none_old = old;
              unseen = seen;
              is = tells;
            }))

        by : (m : Option LwpStatus) → l ≡ m → new_of (traced_at t place) m ≡ None
        by None is = refl
        by (Some m) is =
            new m is (event_of m) refl (nat_lt 0 (traced_at t place).old) (traced_at t place).seen refl refl

  -- a new event, which is reported at once or once its memory was read, if it is selected
  module _ (stage : Stage) (at : ℕ) (l : LwpStatus) (e : Event) (here : t.stage ≡ stage)
      (reads : Reads t r stage at (Some l)) (is_new : IsNew t r at l e) where
    abbrev event : LwpEvent
    event = record { id = l.id; event = e }

    abbrev own : Bool
    own = (traced_at t at).pid == pid

    told : event_told l ≡ Some event
    told = ap (option_map (λ (x : Event). record { id = l.id; event = x })) is_new.is

    new-told : new_at pid (traced_at t at) (Some l) ≡ cond own (Some event) None
    new-told =
        ap (λ (x : Option LwpEvent). cond own x None)
        (ap (λ b. cond b None (cond (traced_at t at).seen None (event_told l))) is_new.none_old
        ∙ ap (λ b. cond b None (event_told l)) is_new.unseen ∙ told)

    event-shows : (es : List LwpEvent) → es ≡ reported pid t.reports ++ told_in sel (cond own (Some event) None)
        → Adds es (read_at pid t r stage)
    event-shows es tells = read-shows stage at (Some l) here reads es (cond own (Some event) None) new-told tells

    reported-event : is_selected t.options e ≡ true
        → reported pid (t.reports ++ Reported (traced_at t at).pid l None ∷ []) ≡
        reported pid t.reports ++ told_in sel (cond own (Some event) None)
    unfolding event_reported
    reported-event on =
        reported-more pid t.reports (Reported (traced_at t at).pid l None)
        ∙ ap (λ (x : Option LwpEvent). reported pid t.reports ++ cons_option (cond own x None) []) told
        ∙ ap (λ (xs : List LwpEvent). reported pid t.reports ++ xs) (by own)
      where
        by : (b : Bool) → cons_option (cond b (Some event) None) [] ≡ told_in sel (cond b (Some event) None)
        by true = sym (ap (λ b. cond {A = List LwpEvent} b (event ∷ []) []) on)
        by false = refl

    selected-shows : is_selected t.options e ≡ true
        → Adds (reported pid (t.reports ++ Reported (traced_at t at).pid l None ∷ [])) (read_at pid t r stage)
    selected-shows on = event-shows _ (reported-event on)

    passed-shows : is_selected t.options e ≡ false → Adds (reported pid t.reports) (read_at pid t r stage)
    passed-shows off =
        event-shows (reported pid t.reports)
        (sym (ap (λ (xs : List LwpEvent). reported pid t.reports ++ xs) (by own)
        ∙ append-nil (reported pid t.reports)))
      where
        by : (b : Bool) → told_in sel (cond b (Some event) None) ≡ []
        by true = ap (λ b. cond {A = List LwpEvent} b (event ∷ []) []) off
        by false = refl

  -- ---- the steps

  module _ (stage : Stage) (at : t.stage ≡ stage) (none : pending_at t stage ≡ []) where
    same-adds : Adds (reported pid t.reports) None
    same-adds = adds-none _ None refl (sym (shown-none pid t (ap (pending_at t) at ∙ none)))

    trace-adds : (of : ℕ) (errno : Errno) → Adds (reported pid (t.reports ++ CannotTrace of errno ∷ [])) None
    trace-adds of errno = trace-silent pid t.reports of errno ∙ same-adds

  text-adds : (at : ℕ) (l : LwpStatus) (from len : ℕ) → t.stage ≡ ReadingText at l from len → (text : Came)
      → Adds (reported pid (t.reports ++ Reported (traced_at t at).pid l text ∷ [])) None
  text-adds at l from len is text =
      adds-none _ None refl
      (reported-text pid (traced_at t at).pid l text None t.reports ∙ sym (shown-text pid t at from len l is))

  settles-shows : (stage : Stage) (given : Bool) (u : TrussState) → t.stage ≡ stage → Settles t r stage given u
      → Adds (reported pid u.reports) (read_at pid t r stage)
  settles-shows stage given u at (step.refuses_start {program = program} errno _) =
      start-silent pid t.reports program errno ∙ same-adds stage at refl
  settles-shows stage given u at (step.refuses_control {pid = of} errno _) =
      trace-adds stage at refl of errno
  settles-shows stage given u at (step.interrupts_text {place = place} {l = l} {from = from} {len = len} _ _) =
      text-adds place l from len at (text_of len (bytes_in r))
  settles-shows stage given u at (step.interrupts_status broken) =
      adds-none _ _ (refused-none stage (λ accepted. let e : Interrupted ≡ Accepted = sym broken ∙ accepted in cc))
      (sym (shown-none pid t (ap (pending_at t) at)))
  settles-shows stage given u at _ = same-adds stage at refl

  looks-shows : (stage : Stage) (place : ℕ) (child : Option ℕ) (u : TrussState) → t.stage ≡ stage
      → Looks t r stage place child u → Adds (reported pid u.reports) (read_at pid t r stage)
  looks-shows stage place child u at (step.passes {l = l} w) =
      silent-shows stage place l at w.reads (none-of stage place l w.none)
  looks-shows stage place child u at (step.passes_old {l = l} reads _ old) =
      silent-shows stage place (Some l) at reads
      (ap (λ b. cond b None (cond (traced_at t place).seen None (event_told l))) old)
  looks-shows stage place child u at (step.passes_event {l = l} {e = e} reads new off) =
      passed-shows stage place l e at reads new off
  looks-shows stage place child u at (step.shows {l = l} {e = e} reads new on _) =
      selected-shows stage place l e at reads new on
  looks-shows stage place child u at (step.shows_text {l = l} {from = from} {len = len}) =
      text-adds place l from len at (text_of len (bytes_in r))

  closes-shows : (stage : Stage) (place : ℕ) (next : AfterClosing) (u : TrussState) → t.stage ≡ stage
      → Closes t r stage place next u → Adds (reported pid u.reports) (read_at pid t r stage)
  closes-shows stage place next u at (step.status_ended gone) =
      adds-none _ _ (refused-none stage (λ accepted. let e : Gone ≡ Accepted = sym gone ∙ accepted in cc))
      (sym (shown-none pid t (ap (pending_at t) at)))
  closes-shows stage place next u at (step.looked_last refused) =
      adds-none _ _ (refused-none stage refused) (sym (shown-none pid t (ap (pending_at t) at)))
  closes-shows stage place next u at (step.text_ended {l = l} {from = from} {len = len} _) =
      text-adds place l from len at (text_of len (bytes_in r))
  closes-shows stage place next u at (step.refuses_free {pid = of} errno _) =
      trace-adds stage at refl of errno
  closes-shows stage place next u at (step.refuses_opening {place = of} errno _) =
      trace-adds stage at refl (traced_at t of).pid errno
  closes-shows stage place next u at (step.refuses_child {place = of} errno _) =
      trace-adds stage at refl (traced_at t of).pid errno
  closes-shows stage place next u at _ = same-adds stage at refl

  returns-shows : (stage : Stage) (parent : ℕ) (u : TrussState) → t.stage ≡ stage → Returns t r stage parent u
      → Adds (reported pid u.reports) (read_at pid t r stage)
  returns-shows stage parent u at (step.refuses_child_control {pid = of} errno _) =
      trace-adds stage at refl of errno
  returns-shows stage parent u at _ = same-adds stage at refl

  turns-shows : (stage next : Stage) → t.stage ≡ stage → Turns t r stage next
      → Adds (reported pid t.reports) (read_at pid t r stage)
  turns-shows stage next at (step.starts _) = same-adds stage at refl
  turns-shows stage next at _ = same-adds stage at refl

  step-shows : (stage : Stage) (v : TrussState) → t.stage ≡ stage → ReplyStep t r stage v
      → Adds (shown pid v) (read_at pid t r stage)
  step-shows stage v at (step.settles {given = given} {u = u} w on) =
      let same = on-staged on in
      now-shows v u.reports same.reports (on-pending u v given on) ∙ settles-shows stage given u at w
  step-shows stage v at (step.looks {place = place} {pid = child} {u = u} w over) =
      let same = over-staged over in
      now-shows v u.reports same.reports (over-pending u v place child over)
      ∙ looks-shows stage place child u at w
  step-shows stage v at (step.asks {place = place} {l = l} {e = e} {range = range} reads new on _) =
      shown-text pid v place range.0 range.1 l refl ∙ selected-shows stage place l e at reads new on
  step-shows stage v at (step.closes {place = place} {next = next} {u = u} w) =
      now-shows v u.reports refl refl ∙ closes-shows stage place next u at w
  step-shows stage v at (step.loses _) =
      now-shows v t.reports refl refl ∙ same-adds stage at refl
  step-shows stage v at (step.opens _ step.new_given) =
      now-shows v t.reports refl refl ∙ same-adds stage at refl
  step-shows stage v at (step.opens _ step.new_child) =
      now-shows v t.reports refl refl ∙ same-adds stage at refl
  step-shows stage v at (step.learns _ (step.opening_goes _)) =
      now-shows v t.reports refl refl ∙ same-adds stage at refl
  step-shows stage v at (step.learns _ (step.child_goes _)) =
      now-shows v t.reports refl refl ∙ same-adds stage at refl
  step-shows stage v at (step.returns {parent = parent} {u = u} w) =
      now-shows v u.reports refl refl ∙ returns-shows stage parent u at w
  step-shows stage v at (step.turns {next = next} w) =
      now-shows v t.reports refl (turn-pending t r stage next w) ∙ turns-shows stage next at w

  -- What truss has shown of a process after a reply is what it had shown, and the event that it read now, if the
  -- options select it.
  pub shown-fed : shown pid (fed t r) ≡ shown pid t ++ told_in sel (read_now pid t r)
  unfolding read_now
  shown-fed = step-shows t.stage (fed t r) refl (fed-step t r)
