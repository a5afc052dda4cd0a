use Rattle.std.proofs.Common.{◌≡◌, ◌≢◌, ◌<◌, ◌++◌, ℕ, zero, suc, true, false, cond, Option, Some}
use Rattle.std.proofs.Common.{None, List, [], ◌∷◌, length, append-nil, refl, sym, subst, ap, ◌∙◌, inl, inr}
use Rattle.std.proofs.lemmas.Bool.{cases_eq, false≢true}
use Rattle.std.proofs.lemmas.List.{length-map}
use Rattle.std.proofs.lemmas.List.Elements.{All-head, All-tail}
use Rattle.std.proofs.lemmas.Option.{none-some, same_Some}
use Rattle.std.specs.List.{All, filter, slice_get}
use Rattle.pr_lawful.proofs.LawfulTurns.EndLemmas.{found-live}
use Rattle.pr_lawful.proofs.Following.UseLemmas.{live-lawful}
use Rattle.pr_line.specs.declared.options.Options.{Options}
use Rattle.pr_model.specs.Calls.{answer_to}
use Rattle.pr_model.specs.Handles.{handle_of}
use Rattle.pr_model.specs.Lawful.{IsLawful}
use Rattle.pr_model.specs.Legal.{IsLegalEntry, state_after}
use Rattle.pr_model.specs.Records.{lstatus_of, statuses_of_lwps}
use Rattle.pr_model.specs.Replies.{bytes_in}
use Rattle.pr_model.specs.State.{TracedLwp, TracedProcess, TracedState, live_process}
use Rattle.pr_model.specs.Statuses.{lwpstatus_of}
use Rattle.pr_model.specs.declared.calls.Call.{Call}
use Rattle.pr_model.specs.declared.calls.File.TheVariants.{Lstatus}
use Rattle.pr_model.specs.declared.calls.Mode.TheVariants.{Read}
use Rattle.pr_model.specs.declared.calls.Reply.{Reply}
use Rattle.pr_model.specs.declared.events.Entry.{Entry}
use Rattle.pr_num.specs.ById.{IsRising}
use Rattle.pr_reached.proofs.RecordsInRange.EntryRanges.{records-range}
use Rattle.pr_reached.specs.ByteHistories.{IsEntryOfBytes}
use Rattle.pr_rec.specs.declared.lwps.LwpStatus.{LwpStatus}
use Rattle.pr_report_laws.proofs.Files.FileLaws.{HasFiles}
use Rattle.pr_report_laws.proofs.Files.FileUses.{standing as standing-at}
use Rattle.pr_report_laws.proofs.Invariant.StandLemmas.{IsAttached}
use Rattle.pr_report_laws.proofs.Machine.EventStopLemmas.{each-under, one-stop, unmet-off}
use Rattle.pr_report_laws.proofs.Machine.RecordLaws.{lstatus-read}
use Rattle.pr_report_laws.proofs.Replies.NewStops.{new-own, new_of, read-is, read_now}
use Rattle.pr_report_laws.specs.Memories.{WasKilled}
use Rattle.pr_report_laws.specs.Positions.{if_in}
use Rattle.pr_report_laws.specs.Shown.{LwpEvent, shown}
use Rattle.pr_truss.specs.Asides.{marks_at}
use Rattle.pr_truss.specs.FunctionCalls.{function_call_of, next_function_call_of}
use Rattle.pr_truss.specs.FunctionFeeding.{fed_functions}
use Rattle.pr_truss.specs.Marks.{has_functions}
use Rattle.pr_truss.specs.NextCalls.{call_of, read_record}
use Rattle.pr_truss.specs.Records.{event_stops, is_on_event}
use Rattle.pr_truss.specs.Trusses.{TrussState, first_truss, traced_at}
use Rattle.pr_truss.specs.declared.asides.Aside.{Aside}
use Rattle.pr_truss.specs.declared.asides.Aside.TheVariants.{Asking, AwaitingAgain, AwaitingStop, Nothing}
use Rattle.pr_truss.specs.declared.processes.Traced.{Traced}
use Rattle.pr_truss.specs.declared.stages.AfterClosing.TheVariants.{GoOn}
use Rattle.pr_truss.specs.declared.stages.Stage.{Stage}
use Rattle.pr_truss.specs.declared.stages.Stage.TheVariants.{Closing, Finished, ReadingLwps, ReadingText, Unfollowing}
use Rattle.pr_truss_laws.proofs.Files.HeldLemmas.{Fits}
use Rattle.pr_truss_laws.proofs.Files.OpensLemmas.{held_by}
use Rattle.pr_truss_laws.specs.Exchanges.{Exchange, exchange_of}
use Rattle.pr_truss_laws.specs.Sent.{sends}
use Rattle.pr_function_laws.proofs.Stepping.BreakpointLemmas.{IsOwnEntry}
use Rattle.pr_function_laws.proofs.LeavingProcesses.LeftProcesses.{IsLeaving, its-apart, many}
use Rattle.pr_function_laws.proofs.LeavingProcesses.LeavingKept.{behind-it}
use Rattle.pr_function_laws.proofs.LeavingProcesses.LeavingStages.{IsLeft, IsUnlooked, asks, awaits, closes_files, halts, has_ended}
use Rattle.pr_function_laws.proofs.LeavingProcesses.LeavingStages.{is_looked, lifts_all, looks, reads_text, waits_again}
use Rattle.pr_function_laws.proofs.LeavingProcesses.LeavingSteps.{IsAt, Shares, Went, ended, halted, has_read, looked, loses, patched}
use Rattle.pr_function_laws.proofs.Listing.ListedReads as reads-of
use Rattle.pr_function_laws.proofs.Listing.ListedStates as states
use Rattle.pr_function_laws.proofs.Listing.ListedStates.{clear, due, hidden, lost, standing}
use Rattle.pr_function_laws.proofs.OrdinaryTruss.OrdinaryReplies.{at-ordinary}
use Rattle.pr_function_laws.proofs.OrdinaryTruss.OrdinaryRows.{no-lwps}
use Rattle.pr_function_laws.proofs.Pending.PendingWalk.{On}
use Rattle.pr_function_laws.specs.Leaving.{AsksAgain, Directs, Waits, WaitsAgain}
use Rattle.pr_function_laws.specs.ListedEvents.{events_to_show, is_to_show, to_show_in}
use Rattle.pr_function_laws.specs.OneEvent.{HasMetNothing}
use Rattle.pr_function_laws.specs.ReachedRuns.{IsReachedFunctionRun}
use Rattle.pr_function_laws.specs.Opened.{IsFunctionRun, functions_at}
use Rattle.pr_function_laws.specs.Ordinary.{AwaitsStop, OwnFaultRead, SeesTo, asks_again, awaits, awaits_again, ordinary}
use Rattle.pr_function_laws.specs.Ordinary.{unmarked}
use Rattle.pr_function_laws.proofs.Listing.AwaitedLooks as awaited
use Rattle.pr_function_laws.proofs.Listing.AwaitedLooks.{AwaitsLook, StillOld}
use Rattle.pr_function_laws.proofs.Listing.AwaitedTurns as awaited-turns
use Rattle.pr_function_laws.proofs.Listing.AwaitedCalls as awaited-calls

-- The events of a process that truss has shown are those that it is to show, also where it leaves its processes: until
-- its last look at the process the last one may be unread, and that look tells of it.

-- a process of which no lwp stands on an event
none-on : (p : TracedProcess) (es : List (ℕ × TracedLwp))
    → All (λ (e : ℕ × TracedLwp). is_on_event (lwpstatus_of p e.0 e.1) ≡ false) es
    → filter is_on_event (statuses_of_lwps p es) ≡ []
none-on p [] off = refl
none-on p (e ∷ es) off =
    ap (λ b. cond b (lwpstatus_of p e.0 e.1 ∷ filter is_on_event (statuses_of_lwps p es))
    (filter is_on_event (statuses_of_lwps p es)))
    (All-head (λ (y : ℕ × TracedLwp). is_on_event (lwpstatus_of p y.0 y.1) ≡ false) e es off)
    ∙ none-on p es (All-tail (λ (y : ℕ × TracedLwp). is_on_event (lwpstatus_of p y.0 y.1) ≡ false) e es off)

no-stops : (p : TracedProcess) → IsRising p.lwps → HasMetNothing p → filter is_on_event (lstatus_of p) ≡ []
unfolding lstatus_of
no-stops p rises none =
    none-on p p.lwps
    (each-under (λ (e : ℕ × TracedLwp). is_on_event (lwpstatus_of p e.0 e.1) ≡ false) 0 p.lwps rises
    (λ id l at. unmet-off p id l (none id l at)))

awaits-sends : {control : ℕ} {c : Call} → AwaitsStop control c → sends c ≡ true
awaits-sends awaits = refl
awaits-sends asks_again = refl
awaits-sends awaits_again = refl

module _ (n k : ℕ) (o : Options) (s : TracedState) (h : List Entry) (run : IsReachedFunctionRun n k o s h)
    (pid : ℕ) where
  abbrev T : List Entry → TrussState
  T front = functions_at k o front

  abbrev S : List Entry → TracedState
  S front = state_after s front

  abbrev Leaves : List Entry → Type 0
  Leaves f = IsLeaving (Unit {0}) k o (T f) (S f)

  abbrev AwaitsAt : List Entry → ℕ → Type 0
  AwaitsAt f place = AwaitsLook (T f) pid place

  abbrev Stands : List Entry → List LwpEvent → Type 0
  Stands = states.Stands k o s pid AwaitsAt

  abbrev Listed : List Entry → Type 0
  Listed = states.Listed k o s pid AwaitsAt

  abbrev Since : List Entry → LwpEvent → Type 0
  Since = states.Since k o s pid

  abbrev Missing : List Entry → ℕ → LwpEvent → TracedProcess → List LwpEvent → Type 0
  Missing = states.Missing k o s pid

  module _ (f : List Entry) (e : Entry) (later : List Entry) (is : h ≡ f ++ e ∷ later) (g : Leaves f) where
    abbrev next : List Entry
    next = f ++ e ∷ []

    abbrev t : TrussState
    t = T f

    abbrev now : TracedState
    now = S f

    abbrev legal : IsLegalEntry n now e
    legal = awaited.legal n k o s h run pid f e later is g

    abbrev lawful : IsLawful now
    lawful = awaited.lawful n k o s h run pid f e later is g

    abbrev files : HasFiles k (ordinary t) now
    files = awaited.files n k o s h run pid f e later is g

    abbrev run-here : IsFunctionRun n k o s (f ++ e ∷ later)
    run-here = awaited.run-here n k o s h run pid f e later is g

    abbrev its_events : List LwpEvent
    its_events = to_show_in t now pid e

    abbrev Before : List LwpEvent → Type 0
    Before missing = events_to_show k pid (first_truss o) s f ≡ shown pid t ++ missing

    same-listed : (missing : List LwpEvent) → Before missing → its_events ≡ [] → shown pid (T next) ≡ shown pid t
        → Stands next missing → Listed next
    same-listed = states.same-listed k o s pid n h run.of f e later is lawful legal AwaitsAt

    lost-next : (event : LwpEvent) (w : Since f event) → pid < now.system.made → live_process now.system pid ≡ None
        → WasKilled pid (S (w.front ++ w.entry ∷ [])) w.mid → Stands next (event ∷ [])
    lost-next = states.lost-next k o s pid n h run.of f e later is lawful legal AwaitsAt

    module _ (x : Exchange) (own : exchange_of k e ≡ Some x) where
      abbrev it : IsOwnEntry k now e x
      it = awaited-calls.it n k o s h run pid f e later is g x own

      abbrev sent : next_function_call_of t ≡ Some x.call
      sent = awaited-calls.sent n k o s h run pid f e later is g x own

      abbrev has : has_functions t.options ≡ true
      has = awaited-calls.has n k o s h run pid f e later is g x own

      abbrev follow : t.options.follow ≡ false
      follow = awaited-calls.follow n k o s h run pid f e later is g x own

      abbrev bytes-here : Unit {0} → IsEntryOfBytes e
      bytes-here = awaited-calls.bytes-here n k o s h run pid f e later is g x own

      abbrev v : TrussState
      v = fed_functions t x.reply

      abbrev v-is : T next ≡ v
      v-is = awaited-calls.v-is n k o s h run pid f e later is g x own

      abbrev exchange-empty : its_events ≡ []
      exchange-empty = awaited-calls.exchange-empty n k o s h run pid f e later is g x own

      abbrev LooksAtIt : Type 0
      LooksAtIt = IsAt (functions_at k o f) ReadingLwps Nothing × ((traced_at (functions_at k o f) 0).pid ≡ pid)

      abbrev staged : (stage : Stage) → t.stage ≡ stage → t.aside ≡ Nothing → Some x.call ≡ function_call_of t stage
      staged = awaited-calls.staged n k o s h run pid f e later is g x own

      abbrev fits : Fits (ordinary t).traced t.stage
      fits = awaited-calls.fits n k o s h run pid f e later is g x own

      module _ (not_it : LooksAtIt → ⊥) where
        abbrev other-next : {missing : List LwpEvent} → Stands f missing → Before missing → Listed next
        other-next = awaited-calls.other-next n k o s h run pid f e later is g x own not_it

      -- ---- where it does

      module _ (at : IsAt t ReadingLwps Nothing) (its : (traced_at t 0).pid ≡ pid) where
        some : 0 < length t.traced
        some =
            subst (λ m. 0 < m) (length-map t.traced unmarked)
            (let fit : Fits (ordinary t).traced ReadingLwps = subst (Fits (ordinary t).traced) at.0 fits in fit)

        on-it : IsAttached (unmarked (traced_at t 0))
        on-it =
            let stands = standing-at k (ordinary t) now ReadingLwps files at.0 in
            subst IsAttached (at-ordinary t 0) stands.at

        -- it awaits no look any more
        pub no-more : (i : ℕ) → i < length (functions_at k o (f ++ e ∷ [])).traced
            → (traced_at (functions_at k o (f ++ e ∷ [])) i).pid ≡ pid
            → IsUnlooked (functions_at k o (f ++ e ∷ [])).stage i → ⊥
        no-more i within_next its_next unlooked_next =
            by (let l = behind-it (Unit {0}) n k o t now g files e legal bytes-here x it sent has follow in l.went)
          where
            apart : Shares t v → is_looked v.stage ≡ true → ⊥
            apart shares looked_so =
                let other : i ≢ 0 = subst (λ (u : TrussState). IsUnlooked u.stage i) v-is unlooked_next looked_so in
                its-apart k t now files i 0
                (subst (λ m. i < m) shares.many (subst (λ (u : TrussState). i < length u.traced) v-is within_next)) some
                other
                (sym (shares.pids i) ∙ subst (λ (u : TrussState). (traced_at u i).pid ≡ pid) v-is its_next ∙ sym its)

            by : {w : IsLeft t} → Went t x.reply v w → ⊥
            by (halted Directs at_step some_t same to) =
                let both : ReadingLwps ≡ Unfollowing = sym at.0 ∙ at_step.0 in cc
            by (halted (Waits until) at_step some_t same to) =
                let both : Nothing ≡ AwaitingStop until = sym at.1 ∙ at_step.1 in cc
            by (halted AsksAgain at_step some_t same to) =
                let both : Nothing ≡ Asking = sym at.1 ∙ at_step.1 in cc
            by (halted (WaitsAgain until) at_step some_t same to) =
                let both : Nothing ≡ AwaitingAgain until = sym at.1 ∙ at_step.1 in cc
            by (looked at_look some_t look first _) = apart first.shares first.looked_at
            by (has_read l from len at_text some_t first _) =
                let both : ReadingLwps ≡ ReadingText 0 l from len = sym at.0 ∙ at_text.0 in cc
            by (patched clears at_patch some_t first _) =
                let both : ReadingLwps ≡ Closing 0 GoOn = sym at.0 ∙ at_patch.0 in cc
            by (loses u at_close some_t is_lost first _) =
                let both : ReadingLwps ≡ Closing 0 GoOn = sym at.0 ∙ at_close.0 in cc
            by (ended at_close some_t none same to) =
                let both : ReadingLwps ≡ Closing 0 GoOn = sym at.0 ∙ at_close.0 in cc

        read-clear : Stands next []
        read-clear = clear (λ i rest q live_q. absurd (no-more i rest.within rest.its rest.unlooked))

        same-place : (other : ℕ) → AwaitsLook t pid other → 0 ≡ other
        same-place other w = elim (cases_eq 0 other) [
          | inl one_place ↦ one_place
          | inr differs ↦ absurd (its-apart k t now files 0 other some w.within differs (its ∙ sym w.its))
        ]

        reads : x.call ≡ read_record (traced_at t 0).lstatus
        unfolding function_call_of call_of
        reads = same_Some _ _ (staged ReadingLwps at.0 at.1)

        abbrev first_of : Reply → Option LwpStatus
        first_of r = slice_get (event_stops (bytes_in r)) 0

        value-is : (r : Reply) → read_now pid (ordinary t) r ≡ new_of (traced_at (ordinary t) 0) (first_of r)
        value-is r =
            read-is pid (ordinary t) r ReadingLwps at.0
            ∙ new-own pid (traced_at (ordinary t) 0) (first_of r) (ap (λ (u : Traced). u.pid) (at-ordinary t 0) ∙ its)

        unsent-call : sends x.call ≡ false
        unsent-call = ap sends reads

        its-read : (traced_at t 0).old ≡ 0
            → reads-of.IsRead n k o s f later e pid run-here 0 x first_of
        its-read new = record {
          new = new;
          unseen = let a = on-it in a.unseen;
          own = own;
          unsent = unsent-call;
          value = value-is;
          tells = λ tells. subst (OwnFaultRead t x.reply) at.0 tells;
          is_told = λ stop. subst (OwnFaultRead t x.reply) (sym at.0) stop;
          nothing = no-lwps;
          never = λ sees.
              false≢true (sym unsent-call ∙ awaits-sends (subst (λ stage. SeesTo t stage x.call) at.0 sees));
        }

        gone-next : live_process now.system pid ≡ None → {missing : List LwpEvent} → Stands f missing → Before missing
            → Listed next
        gone-next gone st are = by st are
          where
            unshown-gone : shown pid (T next) ≡ shown pid t
            unshown-gone = states.over-shown k o s pid n h run.of f e later is lawful legal gone

            by : {missing : List LwpEvent} → Stands f missing → Before missing → Listed next
            by (clear unmet) are = same-listed [] are exchange-empty unshown-gone read-clear
            by (standing other w p live event on missing m) are = absurd (none-some p (sym gone ∙ live))
            by (lost event w made_it over_it was_killed) are =
                same-listed (event ∷ []) are exchange-empty unshown-gone (lost-next event w made_it over_it was_killed)

        module _ (p : TracedProcess) (live : live_process now.system pid ≡ Some p) where
          rises : IsRising p.lwps
          rises =
              let l = lawful in
              let own_lawful = live-lawful now.system pid p l.system live in own_lawful.rising

          -- what the look tells
          pub stops-are : event_stops (bytes_in x.reply) ≡ filter is_on_event (lstatus_of p)
          stops-are =
              let r = g.reached tt in
              let l = lawful in
              let own_lawful = live-lawful now.system pid p l.system live in
              let records = records-range now.system l.system r.in_range in
              let its_records = records.processes pid p (found-live now.system pid p live).0 in
              let a = on-it in
              let files_open = a.opened in
              let lwps = files_open.lstatus in
              let file =
              files.lstatus 0 lwps.number (many k t now files 0 some)
              (ap (λ (u : Traced). u.lstatus) (at-ordinary t 0) ∙ lwps.is) in
              let there : handle_of now.opens k lwps.number ≡ Some (held_by k pid 0 Lstatus Read) =
              subst (λ i. handle_of now.opens k lwps.number ≡ Some (held_by k i 0 Lstatus Read))
              (ap (λ (u : Traced). u.pid) (at-ordinary t 0) ∙ its) file.is in
              let sees =
              lstatus-read now k lwps.number (held_by k pid 0 Lstatus Read) there it.answer p live refl
              its_records.lstatus
              own_lawful.few_lwps
              (ap (answer_to now k) (sym (reads ∙ ap read_record lwps.is)) ∙ it.is) in
              ap (λ (y : Reply). event_stops (bytes_in y)) (sym it.replied) ∙ sees.stops

          old-next : (traced_at t 0).old ≢ 0 → {missing : List LwpEvent} → Stands f missing → Before missing
              → Listed next
          old-next old st are = by st are
            where
              some-old : (m : ℕ) → m ≢ 0 → (i : ℕ) × (m ≡ suc i)
              some-old zero none = absurd (none refl)
              some-old (suc i) none = (i, refl)

              unshown-old : shown pid (T next) ≡ shown pid t
              unshown-old =
                  reads-of.shown-old n k o s f later e pid run-here 0 x first_of (some-old (traced_at t 0).old old) own
                  value-is

              by : {missing : List LwpEvent} → Stands f missing → Before missing → Listed next
              by (clear unmet) are = same-listed [] are exchange-empty unshown-old read-clear
              by (standing other w q live_q event on missing m) are =
                  absurd (old (ap (λ i. (traced_at t i).old) (same-place other w) ∙ w.new))
              by (lost event w made_it gone was_killed) are = absurd (none-some p (sym gone ∙ live))

          module _ (new : (traced_at t 0).old ≡ 0) where
            awaits-it : AwaitsLook t pid 0
            awaits-it = record {
              within = some;
              its = its;
              attached = let a = on-it in a.attached;
              unlooked = λ looked_so. absurd (false≢true (sym (ap is_looked at.0) ∙ looked_so));
              new = new;
            }

            quiet-look : HasMetNothing p → Before [] → Listed next
            quiet-look unmet are =
                same-listed [] are exchange-empty
                (reads-of.shown-empty n k o s f later e pid run-here 0 x first_of (its-read new)
                (ap (λ (ls : List LwpStatus). slice_get ls 0) (stops-are ∙ no-stops p rises unmet))) read-clear

            module _ (event : LwpEvent) (on : On event p) (are_missing : List LwpEvent) (are : Before are_missing)
                (due_is : are_missing ≡ if_in (is_to_show o (marks_at t 0)) event) where
              abbrev its_told : LwpStatus
              its_told = lwpstatus_of p event.id on.lwp

              its-id : its_told.id ≡ event.id
              unfolding lwpstatus_of
              its-id = refl

              shown-it : shown pid (T next) ≡ shown pid t ++ if_in (is_to_show o (marks_at t 0)) event
              shown-it =
                  reads-of.shown-event n k o s f later e pid run-here 0 x first_of (its-read new) its_told
                  (ap (λ (ls : List LwpStatus). slice_get ls 0)
                  (stops-are ∙ one-stop p rises event.id event.event on)) event on.tells its-id

              event-look : Listed next
              event-look = record {
                missing = [];
                are = states.came-next k o s pid n h run.of f e later is lawful legal
                    ∙ ap (λ xs. events_to_show k pid (first_truss o) s f ++ xs) exchange-empty
                    ∙ append-nil (events_to_show k pid (first_truss o) s f) ∙ are
                    ∙ ap (λ xs. shown pid t ++ xs) due_is ∙ sym shown-it ∙ sym (append-nil (shown pid (T next)));
                stands = read-clear;
              }

            due-of : (other : ℕ) → 0 ≡ other → (event : LwpEvent) (y : TracedProcess) (missing : List LwpEvent)
                → Missing f other event y missing → missing ≡ if_in (is_to_show o (marks_at t 0)) event
            due-of other one_place event y missing (hidden off) =
                ap (λ b. cond {A = List LwpEvent} b (event ∷ []) [])
                (sym (ap (λ i. is_to_show o (marks_at t i) event.event) one_place ∙ off))
            due-of other one_place event y missing (due chosen since kept_so) =
                ap (λ b. cond {A = List LwpEvent} b (event ∷ []) [])
                (sym (ap (λ i. is_to_show o (marks_at t i) event.event) one_place ∙ chosen))

            live-look : {missing : List LwpEvent} → Stands f missing → Before missing → Listed next
            live-look (clear unmet) are = quiet-look (unmet 0 awaits-it p live) are
            live-look (standing other w y live_y event on missing m) are =
                event-look event (subst (On event) (same_Some y p (sym live_y ∙ live)) on) missing are
                (due-of other (same-place other w) event y missing m)
            live-look (lost event w made_it gone was_killed) are = absurd (none-some p (sym gone ∙ live))

        look-next : {missing : List LwpEvent} → Stands f missing → Before missing → Listed next
        look-next st are = by (live_process now.system pid) refl
          where
            by : (y : Option TracedProcess) → live_process now.system pid ≡ y → Listed next
            by None gone = gone-next gone st are
            by (Some p) live = elim (cases_eq (traced_at t 0).old 0) [
              | inl new ↦ live-look p live new st are
              | inr old ↦ old-next p live old st are
            ]

      exchange-next : Listed f → Listed next
      exchange-next it_was = by g.at
        where
          other-stage : (stage : Stage) → t.stage ≡ stage → stage ≢ ReadingLwps → Listed next
          other-stage stage at other =
              other-next (λ looks_so. other (sym at ∙ (looks_so.0).0)) it_was.stands it_was.are

          other-aside : (aside : Aside) → t.aside ≡ aside → aside ≢ Nothing → Listed next
          other-aside aside at other =
              other-next (λ looks_so. other (sym at ∙ (looks_so.0).1)) it_was.stands it_was.are

          by : IsLeft t → Listed next
          by (halts at idle within) = other-stage Unfollowing at (λ (same : Unfollowing ≡ ReadingLwps). cc)
          by (awaits until at at_aside within) =
              other-aside (AwaitingStop until) at_aside (λ (same : AwaitingStop until ≡ Nothing). cc)
          by (asks at at_aside within) = other-aside Asking at_aside (λ (same : Asking ≡ Nothing). cc)
          by (waits_again until at at_aside within) =
              other-aside (AwaitingAgain until) at_aside (λ (same : AwaitingAgain until ≡ Nothing). cc)
          by (looks at idle within) = elim (cases_eq (traced_at t 0).pid pid) [
            | inl its ↦ look-next (at, idle) its it_was.stands it_was.are
            | inr differs ↦ other-next (λ looks_so. differs looks_so.1) it_was.stands it_was.are
          ]
          by (reads_text l from len at idle within) =
              other-stage (ReadingText 0 l from len) at (λ (same : ReadingText 0 l from len ≡ ReadingLwps). cc)
          by (lifts_all clears at at_aside within) =
              other-stage (Closing 0 GoOn) at (λ (same : Closing 0 GoOn ≡ ReadingLwps). cc)
          by (closes_files at idle within) =
              other-stage (Closing 0 GoOn) at (λ (same : Closing 0 GoOn ≡ ReadingLwps). cc)
          by (has_ended at idle) = other-stage Finished at (λ (same : Finished ≡ ReadingLwps). cc)

    pub entry-listed : StillOld pid t now → Listed f → Listed next
    entry-listed old_still it_was = by (exchange_of k e) refl
      where
        by : (x : Option Exchange) → exchange_of k e ≡ x → Listed next
        by None foreign = awaited-turns.foreign-next n k o s h run pid f e later is g foreign old_still
            it_was
        by (Some x) own = exchange-next x own it_was

    pub still-next : StillOld pid t now → StillOld pid (T next) (S next)
    still-next old_still = by (exchange_of k e) refl
      where
        by : (x : Option Exchange) → exchange_of k e ≡ x → StillOld pid (T next) (S next)
        by None foreign = awaited-turns.still-foreign n k o s h run pid f e later is g foreign old_still
        by (Some x) own = awaited-calls.still-own n k o s h run pid f e later is g x own old_still
