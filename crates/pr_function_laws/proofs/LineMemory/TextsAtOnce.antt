use Rattle.std.proofs.Common.{◌≡◌, ◌++◌, ℕ, Bool, true, false, cond, nat_lt, Option, Some, None, List, [], ◌∷◌, append-nil, append_assoc, refl, sym, subst, ap, ◌∙◌}
use Rattle.std.proofs.lemmas.Bool.{eq-eqb, false≢true}
use Rattle.std.proofs.lemmas.Option.{none-some, same_Some}
use Rattle.std.specs.List.{All, cons_option}
use Rattle.std.specs.Option.{option_and_then}
use Rattle.std.specs.Result.{result_ok}
use Rattle.pr_line.specs.TextRanges.{text_range}
use Rattle.pr_line.specs.declared.events.Event.{Event}
use Rattle.pr_line.specs.declared.events.Event.TheVariants as event
use Rattle.pr_line.specs.declared.options.Options.{Options}
use Rattle.pr_model.specs.Legal.{state_after}
use Rattle.pr_model.specs.Replies.{bytes_in, number_of}
use Rattle.pr_model.specs.ShownBytes.{range_from, shown_range}
use Rattle.pr_model.specs.State.{TracedState}
use Rattle.pr_model.specs.declared.calls.Call.TheVariants as call
use Rattle.pr_model.specs.declared.events.Entry.{Entry}
use Rattle.pr_num.specs.Syscalls.{is_fork_call, syscall_args}
use Rattle.pr_num.specs.declared.syscalls.Sysno.{Sysno}
use Rattle.pr_num.specs.declared.syscalls.Sysno.TheVariants.{Exec, Fork, Vfork}
use Rattle.pr_rec.specs.declared.lwps.LwpStatus.{LwpStatus}
use Rattle.pr_report_laws.proofs.Files.WatchHistories.{cons-exchanges, exchanges-both, no-exchanges}
use Rattle.pr_report_laws.proofs.ToldForks.OldStops.{ReadsAt, at_lwps, at_status}
use Rattle.pr_report_laws.proofs.Watching.HistoryParts.{all-front}
use Rattle.pr_truss.specs.Asides.{marks_at, patching, with_patches}
use Rattle.pr_truss.specs.Feeding.{fed}
use Rattle.pr_truss.specs.FunctionCalls.{call_beside, function_call_of, next_function_call_of}
use Rattle.pr_truss.specs.FunctionEvents.{copies_memory, fresh_event, function_event, left_event}
use Rattle.pr_truss.specs.FunctionFeeding.{fed_functions, with_aside_answered, with_function_reply}
use Rattle.pr_truss.specs.FunctionStops.{with_fresh_event, with_function_event, with_function_status_answered, with_function_stop, with_function_stop_read, with_last_event, with_other_event}
use Rattle.pr_truss.specs.Marks.{has_functions, no_functions, put_back, with_step}
use Rattle.pr_truss.specs.NextCalls.{call_of, next_call_of}
use Rattle.pr_truss.specs.Records.{status_lwp}
use Rattle.pr_truss.specs.Replies.{answer_of}
use Rattle.pr_truss.specs.Stops.{asked_range}
use Rattle.pr_truss.specs.Trusses.{TrussState, first_truss, traced_at}
use Rattle.pr_truss.specs.declared.asides.Aside.{Aside}
use Rattle.pr_truss.specs.declared.asides.Aside.TheVariants.{Nothing, Reading, Planting, Patching}
use Rattle.pr_truss.specs.declared.function_events.FunctionEvent.{FunctionEvent}
use Rattle.pr_truss.specs.declared.function_events.FunctionEvent.TheVariants.{Other}
use Rattle.pr_truss.specs.declared.marks.Marks.{Marks}
use Rattle.pr_truss.specs.declared.marks.Stepped.{Stepped}
use Rattle.pr_truss.specs.declared.processes.Traced.{Traced}
use Rattle.pr_truss.specs.declared.replies.Answer.TheVariants.{Accepted}
use Rattle.pr_truss.specs.declared.stages.Stage.TheVariants.{ReadingLwps, ReadingStatus, ReadingText}
use Rattle.pr_truss_laws.specs.Exchanges.{Exchange, exchange_of, exchanges}
use Rattle.pr_truss_laws.specs.Sent.{sends}
use Rattle.pr_function_laws.proofs.CallTurns.BegunSteps.{StepsAt}
use Rattle.pr_function_laws.proofs.CallTurns.ToldLaws.{kept-front, new-event, none-under-way}
use Rattle.pr_function_laws.proofs.LeavingProcesses.LeavingCourse.{calm-at, leaving-at}
use Rattle.pr_function_laws.proofs.LeavingProcesses.LeftProcesses.{IsLeaving}
use Rattle.pr_function_laws.proofs.LeavingProcesses.LeavingStages.{IsLeft, asks, awaits, closes_files, halts, has_ended, lifts_all, looks, reads_text, waits_again}
use Rattle.pr_function_laws.proofs.LineMemory.LineReads.{HasRead, is-to-read, no-message, read-before, same-read}
use Rattle.pr_function_laws.proofs.Marks.KeptPlaces.{AtStage, Kept}
use Rattle.pr_function_laws.proofs.OrdinaryTruss.OrdinaryCalls.{later-sends, sees-sends}
use Rattle.pr_function_laws.proofs.OrdinaryTruss.OrdinaryEntries as entries
use Rattle.pr_function_laws.proofs.OrdinaryTruss.OrdinaryEntries.{along}
use Rattle.pr_function_laws.proofs.OrdinaryTruss.OrdinaryExchanges.{IsFit, Turn, goes_on, goes_out}
use Rattle.pr_function_laws.proofs.OrdinaryTruss.OrdinaryFiles.{Follows}
use Rattle.pr_function_laws.proofs.OrdinaryTruss.OrdinaryReplies.{at-ordinary, first-ordinary}
use Rattle.pr_function_laws.proofs.OrdinaryTruss.OrdinaryStops.{FitsAside, none-before}
use Rattle.pr_function_laws.proofs.Pending.FrontLemmas.{all-entry}
use Rattle.pr_function_laws.specs.LineTexts.{IsPatch, ReadsAtOnceOf}
use Rattle.pr_function_laws.specs.ReachedRuns.{IsReachedFunctionRun}
use Rattle.pr_function_laws.specs.Opened.{IsFunctionRun, WasNotInterrupted, functions_at}
use Rattle.pr_function_laws.specs.Ordinary.{ordinary, unmarked}
use Rattle.pr_function_laws.specs.Runs.{functions_after}
use Rattle.pr_function_laws.specs.ToldTurns.{AreSteppable}
use Rattle.pr_function_laws.specs.Turns.{ends_step}

-- Truss with calls of functions reads the memory for the line of an event right behind the event: only the end of a
-- call asks for memory, no step is under way then, and the calls at which breakpoints are lifted ask for none.

-- ---- an event whose line asks for memory

copies-ask-none : (call : Sysno) (arguments : List ℕ) (value : Option ℕ) → copies_memory call ≡ true
    → shown_range call arguments value ≡ None
unfolding copies_memory is_fork_call syscall_args range_from
copies-ask-none Fork arguments value copies = refl
copies-ask-none Vfork arguments value copies = refl
copies-ask-none Exec arguments value copies = refl
copies-ask-none _ arguments value copies = absurd (false≢true copies)

pub asked-text : (o : Options) (e : Event) (range : ℕ × ℕ) → asked_range o e ≡ Some range
    → text_range e ≡ Some range
unfolding asked_range
asked-text o e range is = by o.count is
  where
    by : (b : Bool) → cond b None (text_range e) ≡ Some range → text_range e ≡ Some range
    by true found = absurd (none-some range found)
    by false found = found

-- it is no breakpoint, no step and no copy to truss
asks-other : (o : Options) (m : Marks) (id : ℕ) (e : Event) (range : ℕ × ℕ) → text_range e ≡ Some range
    → (function_event o m id e ≡ Other) × (ends_step e ≡ false)
unfolding text_range function_event
asks-other o m id (event.Left call arguments result) range is = (by (copies_memory call) refl, refl)
  where
    by : (b : Bool) → copies_memory call ≡ b → cond b (left_event call result) Other ≡ Other
    by true copies = absurd (none-some range (sym (copies-ask-none call arguments (result_ok result) copies) ∙ is))
    by false plain = refl
asks-other o m id _ range is = absurd (none-some range is)

-- ---- what truss makes of it

module _ (t : TrussState) (q : ℕ) (l : LwpStatus) (e : Event) (range : ℕ × ℕ) (asked : text_range e ≡ Some range)
    (fresh : fresh_event (traced_at t q) l ≡ Some e) (off : t.leaving ≡ false)
    (none : (marks_at t q).stepped ≡ None) where
  abbrev what : FunctionEvent
  what = function_event t.options (marks_at t q) l.id e

  stop-is : with_function_stop t q l ≡ with_other_event t q l
  unfolding with_function_stop with_function_event
  stop-is =
      ap (with_fresh_event t q l) fresh
      ∙ ap (λ b. cond b (with_last_event t q l what) (with_function_event t q l what)) off
      ∙ ap (with_function_event t q l) (asks-other t.options (marks_at t q) l.id e range asked).0

  other-idle : (with_other_event t q l).aside ≡ Nothing
  unfolding with_other_event with_patches patching put_back
  other-idle = ap (λ (so : Option Stepped). patching q (with_step so no_functions) no_functions false) none

  fed-idle : (x : Exchange) → has_functions t.options ≡ true → t.aside ≡ Nothing → t.stage ≡ ReadingStatus q
      → answer_of x.reply ≡ Accepted → option_and_then status_lwp (bytes_in x.reply) ≡ Some l
      → (fed_functions t x.reply).aside ≡ Nothing
  unfolding fed_functions with_aside_answered with_function_reply with_function_status_answered
  fed-idle x has idle at accepted told =
      ap (λ (u : TrussState). u.aside)
      (ap (λ b. cond b (with_aside_answered t x.reply t.aside) (fed t x.reply)) has
      ∙ ap (with_aside_answered t x.reply) idle
      ∙ ap (with_function_reply t x.reply) at
      ∙ ap (with_function_status_answered t q x.reply) accepted
      ∙ ap (with_function_stop_read t q) told
      ∙ stop-is)
      ∙ other-idle

-- ---- what it calls then

text-next : (t : TrussState) (place : ℕ) (l : LwpStatus) (from len : ℕ) → has_functions t.options ≡ true
    → t.aside ≡ Nothing → t.stage ≡ ReadingText place l from len
    → next_function_call_of t ≡ Some (call.Read (number_of (traced_at t place).memory) from len)
unfolding next_function_call_of call_beside function_call_of call_of
text-next t place l from len has idle at =
    ap (λ b. cond b (call_beside t t.stage t.aside) (next_call_of t)) has
    ∙ ap (call_beside t t.stage) idle ∙ ap (function_call_of t) at

-- ---- where nothing else comes before the call of the stage

status-free : (aside : Aside) (q : ℕ) → FitsAside aside (ReadingStatus q) → aside ≡ Nothing
status-free Nothing q fits = refl
status-free (Reading place function) q fits = absurd fits
status-free (Planting place function) q fits = absurd fits
status-free (Patching place plants lifts clear) q fits = absurd fits.0
status-free _ q fits = absurd (other fits)
  where
    other : ReadingStatus q ≡ ReadingLwps → ⊥
    other is = cc

left-free : (t : TrussState) → IsLeft t → (place : ℕ) (l : LwpStatus) (from len : ℕ)
    → t.stage ≡ ReadingText place l from len → t.aside ≡ Nothing
left-free t (halts at idle within) place l from len is = idle
left-free t (awaits until at beside within) place l from len is = absurd (cc)
left-free t (asks at beside within) place l from len is = absurd (cc)
left-free t (waits_again until at beside within) place l from len is = absurd (cc)
left-free t (looks at idle within) place l from len is = idle
left-free t (reads_text l2 from2 len2 at idle within) place l from len is = idle
left-free t (lifts_all clear at beside within) place l from len is = absurd (cc)
left-free t (closes_files at idle within) place l from len is = idle
left-free t (has_ended at idle) place l from len is = idle

-- ---- the last call of a truss among entries

-- it makes none in them, or a last one
data LastOwn (k : ℕ) (es : List Entry) : Type 0 where
  silent : exchanges k es ≡ [] → LastOwn k es
  ends_with : (before later : List Entry) (e : Entry) (x : Exchange) → es ≡ before ++ e ∷ later
      → exchanges k later ≡ [] → exchange_of k e ≡ Some x → LastOwn k es

last-own : (k : ℕ) (es : List Entry) → LastOwn k es
last-own k [] = silent (no-exchanges k)
last-own k (e ∷ es) = by (last-own k es)
  where
    first : exchanges k es ≡ [] → (so : Option Exchange) → exchange_of k e ≡ so → LastOwn k (e ∷ es)
    first none None foreign =
        silent (cons-exchanges k e es ∙ ap (λ so. cons_option so (exchanges k es)) foreign ∙ none)
    first none (Some x) own = ends_with [] es e x refl none own

    by : LastOwn k es → LastOwn k (e ∷ es)
    by (silent none) = first none (exchange_of k e) refl
    by (ends_with before later d x parts none own) =
        ends_with (e ∷ before) later d x (ap (λ (ds : List Entry). e ∷ ds) parts) none own

-- entries in which it makes none change nothing of it
pub quiet-same : (k : ℕ) (o : Options) (before later : List Entry) → exchanges k later ≡ []
    → functions_at k o (before ++ later) ≡ functions_at k o before
quiet-same k o before later none =
    ap (functions_after (first_truss o))
    (exchanges-both k before later ∙ ap (λ xs. exchanges k before ++ xs) none ∙ append-nil (exchanges k before))

-- ---- along a history

module _ (n k : ℕ) (o : Options) (s : TracedState) (h : List Entry) (run : IsReachedFunctionRun n k o s h)
    (steps : AreSteppable o) where
  abbrev T : List Entry → TrussState
  T f = functions_at k o f

  -- nothing comes before the read of a text
  abbrev IsFree : TrussState → Type 0
  IsFree t =
      (place : ℕ) (l : LwpStatus) (from len : ℕ) → t.stage ≡ ReadingText place l from len → t.aside ≡ Nothing

  module _ (before later : List Entry) (e : Entry) (is : h ≡ before ++ e ∷ later) where
    abbrev t : TrussState
    t = T before

    abbrev then : List Entry
    then = before ++ e ∷ []

    then-is : h ≡ then ++ later
    then-is = is ∙ sym (append_assoc before (e ∷ []) later)

    run-here : IsFunctionRun n k o s (before ++ e ∷ later)
    run-here = subst (IsFunctionRun n k o s) is run.of

    fit : IsFit o t
    fit = let w : Follows k o t (state_after s before) = entries.follows n k o s before later e run-here in w.fit

    has : has_functions t.options ≡ true
    has = ap has_functions (let f = fit in f.options) ∙ run.of.has

    -- a call where it is free, and is to read a text
    text-call : (x : Exchange) → exchange_of k e ≡ Some x → IsFree t → (place : ℕ) (l : LwpStatus) (from len : ℕ)
        → t.stage ≡ ReadingText place l from len → sends x.call ≡ false
    text-call x own free place l from len at =
        ap sends
        (same_Some x.call (call.Read (number_of (traced_at t place).memory) from len)
        (sym (entries.made n k o s before later e run-here x own)
        ∙ text-next t place l from len has (free place l from len at) at))

    -- ---- while it does not leave its processes

    module _ (off : (T then).leaving ≡ false) where
      calm : All WasNotInterrupted (exchanges k before)
      calm =
          all-front WasNotInterrupted (exchanges k before) (exchanges k (e ∷ []))
          (subst (All WasNotInterrupted) (exchanges-both k before (e ∷ []))
          (calm-at (Unit {0}) n k o s h run.of (λ r. run.reached) (λ r. run.bytes) then later then-is off))

      w : Kept (StepsAt k o s before) t
      w = kept-front n k o s h run steps before (e ∷ later) is calm

      -- it was told of an event whose line asks for memory
      asked-free : (x : Exchange) → exchange_of k e ≡ Some x → (r : HasRead (ordinary t) x.reply)
          → ReadsAt (ordinary t) x.reply r.place r.lwp → (fed_functions t x.reply).aside ≡ Nothing
      asked-free x own r (at_lwps at first told) =
          let kept = w in absurd (subst (AtStage (StepsAt k o s before) t.traced) at kept.stage)
      asked-free x own r (at_status at told) =
          let kept = w in
          let f = fit in
          let new = r.new in
          let idle : t.aside ≡ Nothing =
          status-free t.aside r.place (subst (FitsAside t.aside) at f.fits) in
          let asks : text_range r.event ≡ Some r.range = asked-text t.options r.event r.range r.asked in
          let same : traced_at (ordinary t) r.place ≡ unmarked (traced_at t r.place) =
          at-ordinary t r.place in
          fed-idle t r.place r.lwp r.event r.range asks
          (new-event (traced_at t r.place) r.lwp r.event
          (eq-eqb (traced_at t r.place).old 0
          (none-before (traced_at t r.place).old (ap (λ (u : Traced). nat_lt 0 u.old) (sym same) ∙ new.none_old)))
          (ap (λ (u : Traced). u.seen) (sym same) ∙ new.unseen) new.is) kept.off
          (none-under-way n k o s h run steps before later e x is own calm r.place idle at r.lwp told
          r.event new.is (asks-other t.options (marks_at t r.place) r.lwp.id r.event r.range asks).1)
          x has idle at r.accepted told

      turn-free : (x : Exchange) → exchange_of k e ≡ Some x → IsFree t → Turn t x → IsFree (fed_functions t x.reply)
      turn-free x own free (goes_out sees passes stay) place l from len at =
          let reads : t.stage ≡ ReadingText place l from len = sym (ap (λ (u : TrussState). u.stage) stay) ∙ at in
          absurd
          (false≢true (sym (text-call x own free place l from len reads) ∙ sees-sends t t.stage x.call sees))
      turn-free x own free (goes_on y like called is_fed) place l from len at =
          let r =
          read-before (ordinary t) y.reply place l from len
          (sym (ap (λ (u : TrussState). u.stage) is_fed) ∙ at) in
          let same : x ≡ y = same-read (ordinary t) r.place r.lwp x y like called r.looked in
          like-free r same
        where
          like-free : (r : HasRead (ordinary t) y.reply) → x ≡ y → (fed_functions t x.reply).aside ≡ Nothing
          like-free r same =
              let mine : HasRead (ordinary t) x.reply =
              subst (λ (z : Exchange). HasRead (ordinary t) z.reply) (sym same) r in
              asked-free x own mine mine.looked

    entry-free : IsFree t → IsFree (T then)
    entry-free free = by-leaving (T then).leaving refl
      where
        by : (off : (T then).leaving ≡ false) → (so : Option Exchange) → exchange_of k e ≡ so → IsFree (T then)
        by off None foreign =
            subst IsFree (sym (entries.unmoved n k o s before later e run-here foreign)) free
        by off (Some x) own =
            subst IsFree (sym (entries.pushed n k o s before later e run-here x own))
            (turn-free off x own free (entries.turned n k o s before later e run-here x own))

        by-leaving : (b : Bool) → (T then).leaving ≡ b → IsFree (T then)
        by-leaving true on =
            let g : IsLeaving (Unit {0}) k o (T then) (state_after s then) =
            leaving-at (Unit {0}) n k o s h run.of (λ r. run.reached) (λ r. run.bytes) then later then-is on in
            left-free (T then) g.at
        by-leaving false off = by off (exchange_of k e) refl

  first-free : IsFree (T [])
  first-free place l from len at =
      ap (λ xs. (functions_after (first_truss o) xs).aside) (no-exchanges k)
      ∙ sym (ap (λ (u : TrussState). u.aside) (first-ordinary o))

  free-at : (f rest : List Entry) → h ≡ f ++ rest → IsFree (T f)
  free-at f rest is =
      along (λ es. IsFree (T es)) first-free f
      (λ before later e parts free.
      entry-free before (later ++ rest) e
      (is ∙ ap (λ (es : List Entry). es ++ rest) parts ∙ append_assoc before (e ∷ later) rest) free)

  -- ---- where it comes to a text

  module _ (f rest : List Entry) (is : h ≡ f ++ rest) (place : ℕ) (l : LwpStatus) (from len : ℕ)
      (at : (T f).stage ≡ ReadingText place l from len) where
    -- its next call is the read
    pub next-no-message : (e : Entry) (later : List Entry) → rest ≡ e ∷ later → (x : Exchange)
        → exchange_of k e ≡ Some x → sends x.call ≡ false
    next-no-message e later parts x own =
        let split : h ≡ f ++ e ∷ later = is ∙ ap (λ (es : List Entry). f ++ es) parts in
        text-call f later e split x own (free-at f rest is) place l from len at

    -- and its last one the read of the event
    last-no-message : (before later : List Entry) (e : Entry) (x : Exchange) → f ≡ before ++ e ∷ later
        → exchanges k later ≡ [] → exchange_of k e ≡ Some x → sends x.call ≡ false
    last-no-message before later e x split none own =
        by (entries.turned n k o s before (later ++ rest) e (run-here before (later ++ rest) e here) x own)
      where
        here : h ≡ before ++ e ∷ (later ++ rest)
        here = is ∙ ap (λ (es : List Entry). es ++ rest) split ∙ append_assoc before (e ∷ later) rest

        now-is : T f ≡ fed_functions (T before) x.reply
        now-is =
            ap (functions_at k o) (split ∙ sym (append_assoc before (e ∷ []) later))
            ∙ quiet-same k o (before ++ e ∷ []) later none
            ∙ entries.pushed n k o s before (later ++ rest) e (run-here before (later ++ rest) e here) x own

        by : Turn (T before) x → sends x.call ≡ false
        by (goes_out sees passes stay) =
            text-call before (later ++ rest) e here x own (free-at before (e ∷ (later ++ rest)) here) place l from len
            (sym (ap (λ (u : TrussState). u.stage) stay) ∙ ap (λ (u : TrussState). u.stage) (sym now-is) ∙ at)
        by (goes_on y like called is_fed) =
            let u : TrussState = ordinary (T before) in
            let r =
            read-before u y.reply place l from len
            (sym (ap (λ (u : TrussState). u.stage) is_fed) ∙ ap (λ (u : TrussState). u.stage) (sym now-is) ∙ at) in
            let same : x ≡ y = same-read u r.place r.lwp x y like called r.looked in
            ap (λ (z : Exchange). sends z.call) same
            ∙ no-message u r.place r.lwp y.reply y.call r.looked called

    -- so it makes none among entries in which it would only plant and lift
    pub none-since : (before since : List Entry) → f ≡ before ++ since → (control : ℕ)
        → All (IsPatch o control) (exchanges k since) → exchanges k since ≡ []
    none-since before since split control patches = by (last-own k since)
      where
        not-last : (first : List Entry) (e : Entry) (later : List Entry) (x : Exchange) → since ≡ first ++ e ∷ later
            → exchanges k later ≡ [] → exchange_of k e ≡ Some x → ⊥
        not-last first e later x parts none own =
            let patch : IsPatch o control x =
            all-entry (IsPatch o control) k first later e x
            (subst (λ es. All (IsPatch o control) (exchanges k es)) parts patches) own in
            false≢true
            (sym (last-no-message (before ++ first) later e x
            (split ∙ ap (λ (es : List Entry). before ++ es) parts ∙ sym (append_assoc before first (e ∷ later))) none
            own)
            ∙ later-sends (T f) o control patch.patches)

        by : LastOwn k since → exchanges k since ≡ []
        by (silent none) = none
        by (ends_with first later e x parts none own) = absurd (not-last first e later x parts none own)

  pub reads-at-once : ReadsAtOnceOf k o s h
  reads-at-once = record {
    each = λ before later e pid handle from len reply is own mine w.
        let all : IsFunctionRun n k o s (before ++ e ∷ later) = subst (IsFunctionRun n k o s) is run.of in
        let x : Exchange = record { call = call.Read handle from len; reply = reply } in
        let r = is-to-read n k o s before later e all pid handle from len mine x own refl in
        let read = w.read in
        none-since before (e ∷ later) is r.place r.lwp from len r.at (read.before ++ read.entry ∷ []) read.since
        (read.is ∙ sym (append_assoc read.before (read.entry ∷ []) read.since)) read.control read.patches;
  }

pub ruleset at_once = (reads-at-once)
