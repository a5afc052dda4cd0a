use Rattle.std.proofs.Common.{◌≡◌, ◌<◌, ◌++◌, ℕ, Bool, false, cond, Option, Some, None, List, [], ◌∷◌, append-nil, append_assoc, length, refl, sym, subst, ap, ◌∙◌}
use Rattle.std.proofs.lemmas.Bool.{eq-eqb, false≢true}
use Rattle.std.proofs.lemmas.List.Elements.{All-append, All-cons, All-nil, filter_map-append}
use Rattle.std.proofs.lemmas.Option.{none-some, same_Some}
use Rattle.std.specs.List.{All, cons_option, filter_map, slice_get}
use Rattle.std.specs.Option.{option_and_then, option_map}
use Rattle.pr_line.specs.declared.events.Event.{Event}
use Rattle.pr_line.specs.declared.options.Options.{Options}
use Rattle.pr_model.specs.Legal.{state_after}
use Rattle.pr_model.specs.Replies.{bytes_in, number_of}
use Rattle.pr_model.specs.State.{TracedState}
use Rattle.pr_model.specs.declared.calls.Call.{Call}
use Rattle.pr_model.specs.declared.calls.Call.TheVariants as call
use Rattle.pr_model.specs.declared.calls.File.{File}
use Rattle.pr_model.specs.declared.calls.File.TheVariants as file
use Rattle.pr_model.specs.declared.calls.Mode.{Mode}
use Rattle.pr_model.specs.declared.calls.Mode.TheVariants.{WriteExcl}
use Rattle.pr_model.specs.declared.calls.Reply.{Reply}
use Rattle.pr_model.specs.declared.calls.Reply.TheVariants as reply
use Rattle.pr_model.specs.declared.events.Entry.{Entry}
use Rattle.pr_num.specs.declared.errnos.Errno.{Errno}
use Rattle.pr_rec.specs.declared.lwps.LwpStatus.{LwpStatus}
use Rattle.pr_report_laws.proofs.Files.FileLaws.{HasFiles, IsFileOf}
use Rattle.pr_report_laws.proofs.Files.FileUses as uses
use Rattle.pr_report_laws.proofs.Files.WatchHistories.{Reaches, cons-exchanges, exchanges-both, no-exchanges}
use Rattle.pr_report_laws.proofs.OwnFiles.KeptOpen.{file-one}
use Rattle.pr_report_laws.proofs.ToldForks.OldHolds.{StandsOn, reads-event}
use Rattle.pr_report_laws.proofs.ToldForks.OldStops.{ReadsAt, at_lwps, at_status}
use Rattle.pr_report_laws.proofs.Watching.LeftReads.{child-reads, freeing-reads}
use Rattle.pr_report_laws.specs.Attachments.{HasFile}
use Rattle.pr_report_laws.specs.Memories.{range_asked}
use Rattle.pr_report_laws.specs.Reads.{ReadsEvent}
use Rattle.pr_report_laws.specs.Shown.{LwpEvent, event_reported, event_told, shown}
use Rattle.pr_truss.specs.Feeding.{fed}
use Rattle.pr_truss.specs.FunctionFeeding.{fed_functions}
use Rattle.pr_truss.specs.NextCalls.{call_of, next_call_of, opening_call}
use Rattle.pr_truss.specs.Records.{event_stops}
use Rattle.pr_truss.specs.Reports.{all_reports, pending_at}
use Rattle.pr_truss.specs.Stops.{asked_range}
use Rattle.pr_truss.specs.Trusses.{TrussState, first_of_program, first_truss, idle, opening_or, traced_at, with_stage}
use Rattle.pr_truss.specs.declared.processes.Traced.{Traced}
use Rattle.pr_truss.specs.Replies.{answer_of}
use Rattle.pr_truss.specs.declared.replies.Answer.TheVariants.{Accepted}
use Rattle.pr_truss.specs.declared.reports.Report.{Report}
use Rattle.pr_truss.specs.declared.reports.Report.TheVariants.{Event as Reported}
use Rattle.pr_truss.specs.declared.stages.OpeningStep.{OpeningStep}
use Rattle.pr_truss.specs.declared.stages.OpeningStep.TheVariants as opening
use Rattle.pr_truss.specs.declared.stages.Stage.{Stage}
use Rattle.pr_truss.specs.declared.stages.Stage.TheVariants.{Opening, ReadingStatus, ReadingText, OpeningChild, ReadingLwps, FreeingChild, Finished}
use Rattle.pr_truss_laws.proofs.Replies.FedSteps.{fed-step}
use Rattle.pr_truss_laws.proofs.Files.HeldLemmas.{Fits}
use Rattle.pr_truss_laws.proofs.Files.OwnLemmas.{Owns}
use Rattle.pr_truss_laws.proofs.Replies.ReplySteps as step
use Rattle.pr_truss_laws.proofs.Replies.ReplySteps.{GoesOn, IsNew, Learns, Opens, Reads, ReplyStep, StopOver, Turns}
use Rattle.pr_truss_laws.specs.Exchanges.{Exchange, exchange_of, exchanges}
use Rattle.pr_truss_laws.specs.Sent.{sends}
use Rattle.pr_function_laws.proofs.OrdinaryTruss.OrdinaryCalls.{sees-sends, stands-sends}
use Rattle.pr_function_laws.proofs.OrdinaryTruss.OrdinaryEntries as entries
use Rattle.pr_function_laws.proofs.OrdinaryTruss.OrdinaryEntries.{along, front-run}
use Rattle.pr_function_laws.proofs.OrdinaryTruss.OrdinaryExchanges.{IsFit, Turn, goes_on, goes_out}
use Rattle.pr_function_laws.proofs.OrdinaryTruss.OrdinaryFiles.{Follows}
use Rattle.pr_function_laws.proofs.OrdinaryTruss.OrdinaryReplies.{at-ordinary, first-ordinary}
use Rattle.pr_function_laws.proofs.OrdinaryTruss.OrdinaryRows.{no-lwps, no-status}
use Rattle.pr_function_laws.proofs.OrdinaryTruss.OrdinaryShown.{shown-ordinary}
use Rattle.pr_function_laws.specs.LineTexts.{AwaitsText, IsPatch, ReadsForItsLinesOf}
use Rattle.pr_function_laws.specs.Opened.{IsFunctionRun, functions_at}
use Rattle.pr_function_laws.specs.Ordinary.{IsLike, PlantsLater, SeesTo, in_place, ordinary, own_fault, refused, same}
use Rattle.pr_function_laws.specs.Runs.{functions_after}

-- Truss with calls of functions reads memory for the line of an event that it has just read.

-- ---- the read of an event

looked-at : (u : TrussState) (r : Reply) (stage : Stage) (place : ℕ) (lwp : Option LwpStatus) (l : LwpStatus)
    → u.stage ≡ stage → Reads u r stage place lwp → lwp ≡ Some l → ReadsAt u r place l
looked-at u r stage place lwp l at (step.reads_status _) tells = at_status at tells
looked-at u r stage place lwp l at (step.reads_none _) tells = absurd (none-some l tells)
looked-at u r stage place lwp l at (step.reads_lwps _) tells = at_lwps at refl tells

granted : (u : TrussState) (r : Reply) (stage : Stage) (place : ℕ) (lwp : Option LwpStatus) (l : LwpStatus)
    → Reads u r stage place lwp → lwp ≡ Some l → answer_of r ≡ Accepted
granted u r stage place lwp l (step.reads_status accepted) tells = accepted
granted u r stage place lwp l (step.reads_none _) tells = absurd (none-some l tells)
granted u r stage place lwp l (step.reads_lwps accepted) tells = accepted

module _ (u : TrussState) (place : ℕ) (l : LwpStatus) where
  pub no-message : (r : Reply) (d : Call) → ReadsAt u r place l → next_call_of u ≡ Some d → sends d ≡ false
  unfolding next_call_of call_of
  no-message r d (at_status at told) next = sym (ap sends (same_Some _ d (ap (call_of u) (sym at) ∙ next)))
  no-message r d (at_lwps at first told) next = sym (ap sends (same_Some _ d (ap (call_of u) (sym at) ∙ next)))

  not-failed : (errno : Errno) → ReadsAt u (reply.Fail errno) place l → ⊥
  unfolding bytes_in event_stops
  not-failed errno (at_status at told) = none-some l told
  not-failed errno (at_lwps at first told) = none-some l told

  not-empty : ReadsAt u (reply.Bytes []) place l → ⊥
  not-empty (at_status at told) = none-some l (sym no-status ∙ told)
  not-empty (at_lwps at first told) = none-some l (sym no-lwps ∙ told)

  -- it is an exchange of truss as it stands
  pub same-read : {t : TrussState} (x y : Exchange) → IsLike t x y → next_call_of u ≡ Some y.call
      → ReadsAt u y.reply place l → x ≡ y
  same-read x y (same unsent none_own) next reads = refl
  same-read x y (in_place {d = d} {r = r} stands) next reads =
      let sent = stands-sends stands in absurd (false≢true (sym (no-message r d reads next) ∙ sent.1))
  same-read x y (refused {errno = errno} sees may is) next reads = absurd (not-failed errno reads)
  same-read x y (own_fault own) next reads = absurd (not-empty reads)

-- Truss is told of an event that it has not looked at before, and whose line asks for memory.
pub record HasRead (u : TrussState) (r : Reply) : Type 0 where
  pub place : ℕ
  pub lwp : LwpStatus
  pub event : Event
  pub looked : ReadsAt u r place lwp
  pub accepted : answer_of r ≡ Accepted
  pub new : IsNew u r place lwp event
  pub range : ℕ × ℕ
  pub asked : asked_range u.options event ≡ Some range

-- it reads memory only behind such a read
module _ (u : TrussState) (r : Reply) (place : ℕ) (l : LwpStatus) (from len : ℕ) where
  abbrev Behind : TrussState → Type 0
  Behind v = v.stage ≡ ReadingText place l from len

  goes-elsewhere : (z v : TrussState) (given : Bool) → GoesOn z given v → Behind v → HasRead u r
  goes-elsewhere z v given (step.polls _ _) is = cc
  goes-elsewhere z v given (step.finishes _) is = cc
  goes-elsewhere z v given (step.unfollows _ _ _) is = cc
  goes-elsewhere z v given (step.closes_first _ _ _) is = cc
  goes-elsewhere z v given (step.opens_next _) is = cc

  over-elsewhere : (z v : TrussState) (at : ℕ) (pid : Option ℕ) → StopOver z at pid v → Behind v → HasRead u r
  over-elsewhere z v at pid (step.runs _) is = cc
  over-elsewhere z v at pid (step.leaves _) is = cc
  over-elsewhere z v at pid (step.opens_child _) is = cc
  over-elsewhere z v at pid (step.frees_child _) is = cc

  opens-elsewhere : (stage to : Stage) (at pid : ℕ) → Opens at stage pid to → to ≡ ReadingText place l from len
      → HasRead u r
  opens-elsewhere stage to at pid step.new_given is = cc
  opens-elsewhere stage to at pid step.new_child is = cc

  learns-elsewhere : (stage to : Stage) (at : ℕ) (z : Traced) → Learns u r stage at z to
      → to ≡ ReadingText place l from len → HasRead u r
  learns-elsewhere stage to at z (step.opening_goes _) is = cc
  learns-elsewhere stage to at z (step.child_goes _) is = cc

  turns-elsewhere : (stage to : Stage) → Turns u r stage to → to ≡ ReadingText place l from len → HasRead u r
  turns-elsewhere stage to (step.starts _) is = cc
  turns-elsewhere stage to step.polls_again is = cc
  turns-elsewhere stage to (step.is_named _) is = cc
  turns-elsewhere stage to step.unfollowed is = cc
  turns-elsewhere stage to (step.frees _) is = cc
  turns-elsewhere stage to step.frees_on is = cc
  turns-elsewhere stage to step.has_finished is = cc

  step-behind : (stage : Stage) (v : TrussState) → u.stage ≡ stage → ReplyStep u r stage v → Behind v → HasRead u r
  step-behind stage v at (step.settles {given = given} {u = z} settled on) is = goes-elsewhere z v given on is
  step-behind stage v at (step.looks {place = q} {pid = pid} {u = z} looked over) is = over-elsewhere z v q pid over is
  step-behind stage v at (step.asks {place = q} {l = lwp} {e = event} {range = range} reads new chosen asked) is =
      record {
        place = q;
        lwp = lwp;
        event = event;
        looked = looked-at u r stage q (Some lwp) lwp at reads refl;
        accepted = granted u r stage q (Some lwp) lwp reads refl;
        new = new;
        range = range;
        asked = asked;
      }
  step-behind stage v at (step.closes closed) is = cc
  step-behind stage v at (step.loses _) is = cc
  step-behind stage v at (step.opens {next = to} {pid = pid} accepted opened) is =
      opens-elsewhere stage to _ pid opened is
  step-behind stage v at (step.learns {next = to} {place = q} {t = z} accepted learns) is =
      learns-elsewhere stage to q z learns is
  step-behind stage v at (step.returns _) is = cc
  step-behind stage v at (step.turns {next = to} turned) is = turns-elsewhere stage to turned is

  pub read-before : Behind (fed u r) → HasRead u r
  read-before is = step-behind u.stage (fed u r) refl (fed-step u r) is

-- ---- what was read lately

-- An event of this process that this lwp tells, whose line asks for this memory. Before that truss had shown of the
-- process what is among these reports, and then it showed the event.
pub record ReadsLately (k : ℕ) (o : Options) (s : TracedState) (h : List Entry) (reports : List Report)
    (pid control : ℕ) (l : LwpStatus) (from len : ℕ) : Type 0 where
  pub front : List Entry
  pub entry : Entry
  pub since : List Entry
  pub is : h ≡ front ++ entry ∷ since
  pub event : LwpEvent
  pub tells : event_told l ≡ Some event
  pub reads : ReadsEvent k pid (state_after s front) entry event
  pub patches : All (IsPatch o control) (exchanges k since)
  pub asks : range_asked o l ≡ Some (from, len)
  pub had_shown : shown pid (functions_at k o front) ≡ filter_map (event_reported pid) reports
  pub shows : shown pid (functions_at k o (front ++ entry ∷ []))
      ≡ filter_map (event_reported pid) reports ++ event ∷ []

abbrev pub Lately : ℕ → Options → TracedState → List Entry → TrussState → Stage → Type 0
Lately k o s h u (ReadingText place l from len) =
    ReadsLately k o s h u.reports (traced_at u place).pid (traced_at u place).control l from len
Lately k o s h u _ = Unit {0}

pub one-exchange : (k : ℕ) (e : Entry) (x : Option Exchange) → exchange_of k e ≡ x
    → exchanges k (e ∷ []) ≡ cons_option x []
one-exchange k e x own =
    cons-exchanges k e [] ∙ ap (λ y. cons_option y (exchanges k [])) own
    ∙ ap (λ ys. cons_option x ys) (no-exchanges k)

module _ (n k : ℕ) (o : Options) (s : TracedState) (before later : List Entry) (e : Entry)
    (run : IsFunctionRun n k o s (before ++ e ∷ later)) where
  abbrev t : TrussState
  t = functions_at k o before

  abbrev u : TrussState
  u = ordinary t

  abbrev now : TracedState
  now = state_after s before

  abbrev then : List Entry
  then = before ++ e ∷ []

  follows : Follows k o t now
  follows = entries.follows n k o s before later e run

  reached : Reaches k u now
  reached = let w = follows in w.reaches

  options : t.options ≡ o
  options = let w = follows in let f : IsFit o t = w.fit in f.options

  -- ---- a call that reads no event

  patched : (pid control : ℕ) (l : LwpStatus) (from len : ℕ)
      → ReadsLately k o s before u.reports pid control l from len
      → All (IsPatch o control) (exchanges k (e ∷ [])) → ReadsLately k o s then u.reports pid control l from len
  patched pid control l from len w more = record {
    front = w.front;
    entry = w.entry;
    since = w.since ++ e ∷ [];
    is =
        ap (λ (es : List Entry). es ++ e ∷ []) w.is ∙ append_assoc w.front (w.entry ∷ w.since) (e ∷ []);
    event = w.event;
    tells = w.tells;
    reads = w.reads;
    patches =
        subst (All (IsPatch o control)) (sym (exchanges-both k w.since (e ∷ [])))
        (All-append (IsPatch o control) (exchanges k w.since) (exchanges k (e ∷ [])) w.patches more);
    asks = w.asks;
    had_shown = w.had_shown;
    shows = w.shows;
  }

  idle-lately : exchange_of k e ≡ None → (stage : Stage) → Lately k o s before u stage → Lately k o s then u stage
  idle-lately own (ReadingText place l from len) w =
      let control = (traced_at u place).control in
      patched (traced_at u place).pid control l from len w
      (subst (All (IsPatch o control)) (sym (one-exchange k e None own)) (All-nil (IsPatch o control)))
  idle-lately own _ w = tt

  out-lately : (x : Exchange) → exchange_of k e ≡ Some x → (stage : Stage) → SeesTo t stage x.call
      → Lately k o s before u stage → Lately k o s then u stage
  out-lately x own (ReadingText place l from len) sees w =
      let control = (traced_at u place).control in
      let its : PlantsLater o control x.call =
      subst (λ m. PlantsLater o m x.call) (sym (ap (λ (z : Traced). z.control) (at-ordinary t place)))
      (subst (λ p. PlantsLater p (traced_at t place).control x.call) options sees) in
      patched (traced_at u place).pid control l from len w
      (subst (All (IsPatch o control)) (sym (one-exchange k e (Some x) own))
      (All-cons (IsPatch o control) x [] (record { patches = its }) (All-nil (IsPatch o control))))
  out-lately x own _ sees w = tt

  -- ---- a call of truss

  module _ (x : Exchange) (own : exchange_of k e ≡ Some x) (y : Exchange) (like : IsLike t x y)
      (called : next_call_of u ≡ Some y.call) where
    -- what it shows before and after
    bare : {r : Reply} {place : ℕ} {l : LwpStatus} → ReadsAt u r place l → pending_at u u.stage ≡ []
    bare (at_status at told) = ap (pending_at u) at
    bare (at_lwps at first told) = ap (pending_at u) at

    shown-bare : (pid : ℕ) → pending_at u u.stage ≡ [] → shown pid t ≡ filter_map (event_reported pid) u.reports
    unfolding shown all_reports
    shown-bare pid none =
        sym (shown-ordinary pid t)
        ∙ ap (λ ps. filter_map (event_reported pid) (u.reports ++ ps)) none
        ∙ ap (filter_map (event_reported pid)) (append-nil u.reports)

    told-own : (pid : ℕ) (l : LwpStatus) (event : LwpEvent) → event_told l ≡ Some event
        → filter_map (event_reported pid) (Reported pid l None ∷ []) ≡ event ∷ []
    unfolding event_reported
    told-own pid l event tells =
        ap (λ b. cons_option (cond b (event_told l) None) []) (eq-eqb pid pid refl)
        ∙ ap (λ m. cons_option m []) tells

    shown-asked : (place : ℕ) (l : LwpStatus) (from len : ℕ) (event : LwpEvent) → event_told l ≡ Some event
        → ordinary (functions_at k o then) ≡ with_stage u (ReadingText place l from len)
        → shown (traced_at u place).pid (functions_at k o then)
        ≡ filter_map (event_reported (traced_at u place).pid) u.reports ++ event ∷ []
    unfolding shown all_reports
    shown-asked place l from len event tells now_is =
        let pid : ℕ = (traced_at u place).pid in
        sym (shown-ordinary pid (functions_at k o then))
        ∙ ap (λ (v : TrussState). filter_map (event_reported pid) (v.reports ++ pending_at v v.stage)) now_is
        ∙ filter_map-append (event_reported pid) u.reports (Reported pid l None ∷ [])
        ∙ ap (λ es. filter_map (event_reported pid) u.reports ++ es) (told-own pid l event tells)

    asks-lately : (stage : Stage) (place : ℕ) (l : LwpStatus) (ev : Event) (range : ℕ × ℕ) → u.stage ≡ stage
        → ordinary (functions_at k o then) ≡ with_stage u (ReadingText place l range.0 range.1)
        → Reads u y.reply stage place (Some l) → IsNew u y.reply place l ev → asked_range u.options ev ≡ Some range
        → ReadsLately k o s then u.reports (traced_at u place).pid (traced_at u place).control l range.0 range.1
    asks-lately stage place l ev range at now_is reads new asked =
        let looked : ReadsAt u y.reply place l = looked-at u y.reply stage place (Some l) l at reads refl in
        let is : x ≡ y = same-read u place l x y like called looked in
        let on : StandsOn l = record { event = ev; is = new.is } in
        let tells : event_told l ≡ Some (record { id = l.id; event = ev }) =
        ap (option_map (λ (z : Event). record { id = l.id; event = z })) new.is in
        record {
          front = before;
          entry = e;
          since = [];
          is = refl;
          event = record { id = l.id; event = ev };
          tells = tells;
          reads =
              reads-event k (traced_at u place).pid u now reached e x own
              (subst (λ (z : Exchange). next_call_of u ≡ Some z.call) (sym is) called) place l
              (subst (λ (z : Exchange). ReadsAt u z.reply place l) (sym is) looked) refl on;
          patches = subst (All (IsPatch o (traced_at u place).control)) (sym (no-exchanges k))
              (All-nil (IsPatch o (traced_at u place).control));
          asks =
              ap (option_and_then (asked_range o)) new.is ∙ ap (λ (p : Options). asked_range p ev) (sym options)
              ∙ asked;
          had_shown = shown-bare (traced_at u place).pid (bare looked);
          shows = shown-asked place l range.0 range.1 (record { id = l.id; event = ev }) tells now_is;
        }

    goes-lately : (z v : TrussState) (given : Bool) → GoesOn z given v → Lately k o s then v v.stage
    goes-lately z v given (step.polls _ _) = tt
    goes-lately z v given (step.finishes _) = tt
    goes-lately z v given (step.unfollows _ _ _) = tt
    goes-lately z v given (step.closes_first _ _ _) = tt
    goes-lately z v given (step.opens_next _) = tt

    over-lately : (z v : TrussState) (place : ℕ) (pid : Option ℕ) → StopOver z place pid v
        → Lately k o s then v v.stage
    over-lately z v place pid (step.runs _) = tt
    over-lately z v place pid (step.leaves _) = tt
    over-lately z v place pid (step.opens_child _) = tt
    over-lately z v place pid (step.frees_child _) = tt

    opens-lately : (stage to : Stage) (place pid : ℕ) (v : TrussState) → Opens place stage pid to
        → Lately k o s then v to
    opens-lately stage to place pid v step.new_given = tt
    opens-lately stage to place pid v step.new_child = tt

    learns-lately : (stage to : Stage) (place : ℕ) (z : Traced) (v : TrussState) → Learns u y.reply stage place z to
        → Lately k o s then v to
    learns-lately stage to place z v (step.opening_goes _) = tt
    learns-lately stage to place z v (step.child_goes _) = tt

    turns-lately : (stage to : Stage) (v : TrussState) → Turns u y.reply stage to → Lately k o s then v to
    turns-lately stage to v (step.starts _) = tt
    turns-lately stage to v step.polls_again = tt
    turns-lately stage to v (step.is_named _) = tt
    turns-lately stage to v step.unfollowed = tt
    turns-lately stage to v (step.frees _) = tt
    turns-lately stage to v step.frees_on = tt
    turns-lately stage to v step.has_finished = tt

    step-lately : (stage : Stage) (v : TrussState) → u.stage ≡ stage → ordinary (functions_at k o then) ≡ v
        → ReplyStep u y.reply stage v → Lately k o s then v v.stage
    step-lately stage v at now_is (step.settles {given = given} {u = z} settled on) = goes-lately z v given on
    step-lately stage v at now_is (step.looks {place = place} {pid = pid} {u = z} looked over) =
        over-lately z v place pid over
    step-lately stage v at now_is (step.asks {place = place} {l = l} {e = ev} {range = range} reads new chosen asked) =
        asks-lately stage place l ev range at now_is reads new asked
    step-lately stage v at now_is (step.closes closed) = tt
    step-lately stage v at now_is (step.loses _) = tt
    step-lately stage v at now_is (step.opens {next = to} {pid = pid} accepted opened) =
        opens-lately stage to _ pid v opened
    step-lately stage v at now_is (step.learns {next = to} {place = place} {t = z} accepted learns) =
        learns-lately stage to place z v learns
    step-lately stage v at now_is (step.returns _) = tt
    step-lately stage v at now_is (step.turns {next = to} turned) = turns-lately stage to v turned

  turn-lately : (x : Exchange) → exchange_of k e ≡ Some x → Turn t x → Lately k o s before u t.stage
      → let v = ordinary (fed_functions t x.reply) in Lately k o s then v v.stage
  turn-lately x own (goes_out sees passes stay) w =
      subst (λ (v : TrussState). Lately k o s then v v.stage) (sym stay) (out-lately x own t.stage sees w)
  turn-lately x own (goes_on y like called is) w =
      subst (λ (v : TrussState). Lately k o s then v v.stage) (sym is)
      (step-lately x own y like called u.stage (fed u y.reply) refl
      (ap ordinary (entries.pushed n k o s before later e run x own) ∙ is) (fed-step u y.reply))

  entry-lately : Lately k o s before u t.stage
      → let v = ordinary (functions_at k o then) in Lately k o s then v v.stage
  entry-lately w = by (exchange_of k e) refl
    where
      by : (x : Option Exchange) → exchange_of k e ≡ x
          → let v = ordinary (functions_at k o then) in Lately k o s then v v.stage
      by None own =
          subst (λ (z : TrussState). Lately k o s then (ordinary z) z.stage)
          (sym (entries.unmoved n k o s before later e run own)) (idle-lately own t.stage w)
      by (Some x) own =
          subst (λ (z : TrussState). Lately k o s then (ordinary z) z.stage)
          (sym (entries.pushed n k o s before later e run x own))
          (turn-lately x own (entries.turned n k o s before later e run x own) w)

  -- ---- the call that reads memory

  module _ (pid handle from len : ℕ) (mine : HasFile k pid file.Mem handle now) where
    files : HasFiles k u now
    files = let g = reached in g.files

    fits : Fits u.traced u.stage
    fits = let g = reached in let owns : Owns k u now = g.owns in owns.fits

    -- Truss is about to read this memory.
    pub record IsToRead : Type 0 where
      pub place : ℕ
      pub lwp : LwpStatus
      pub at : u.stage ≡ ReadingText place lwp from len
      pub of : (traced_at u place).pid ≡ pid

    same-file : (of : ℕ) (f : File) (mode : Mode) (number : ℕ) → IsFileOf k now of number f mode → number ≡ handle
        → (f ≡ file.Mem) × (of ≡ pid)
    same-file of f mode number its is = file-one k now pid handle file.Mem mine of number f mode its is

    no-status-file : file.Status ≡ file.Mem → ⊥
    no-status-file is = cc

    no-lstatus-file : file.Lstatus ≡ file.Mem → ⊥
    no-lstatus-file is = cc

    same-call : {a b c : ℕ} → call.Read a b c ≡ call.Read handle from len → (a ≡ handle) × ((b ≡ from) × (c ≡ len))
    same-call is = (cc, (cc, cc))

    opening-reads : (place : ℕ) (now_at : OpeningStep) → u.stage ≡ Opening place now_at
        → opening_call u.options (traced_at u place) now_at ≡ call.Read handle from len → IsToRead
    unfolding opening_call
    opening-reads place opening.ReadLwps at is =
        absurd
        (no-lstatus-file
        ((same-file _ file.Lstatus _ _ (uses.opening-read k u now files fits place at) ((same-call is).0)).0))
    opening-reads place opening.OpenStatus at is = cc
    opening-reads place opening.OpenLstatus at is = cc
    opening-reads place opening.OpenMemory at is = cc
    opening-reads place _ at is = cc

    stage-reads : (stage : Stage) → u.stage ≡ stage → call_of u stage ≡ Some (call.Read handle from len) → IsToRead
    unfolding call_of
    stage-reads (Opening place now_at) at is = opening-reads place now_at at (same_Some _ _ is)
    stage-reads (ReadingStatus place) at is =
        absurd
        (no-status-file
        ((same-file _ file.Status _ _ (uses.status-read k u now files fits place at)
        ((same-call (same_Some _ _ is)).0)).0))
    stage-reads (ReadingText place l a b) at is =
        let c : call.Read (number_of (traced_at u place).memory) a b ≡ call.Read handle from len = same_Some _ _ is in
        let both = same-call c in
        let own = same-file _ file.Mem _ _ (uses.memory-read k u now files fits place l a b at) both.0 in
        record {
          place = place;
          lwp = l;
          at = at ∙ ap (λ m. ReadingText place l m b) both.1.0 ∙ ap (λ m. ReadingText place l from m) both.1.1;
          of = own.1;
        }
    stage-reads (OpeningChild parent place now_at) at is =
        absurd (child-reads _ now_at handle from len (same_Some _ _ is))
    stage-reads ReadingLwps at is =
        absurd
        (no-lstatus-file
        ((same-file _ file.Lstatus _ _ (uses.lwps-read k u now files fits at) ((same-call (same_Some _ _ is)).0)).0))
    stage-reads (FreeingChild of now_at) at is = absurd (freeing-reads of now_at handle from len (same_Some _ _ is))
    stage-reads Finished at is = absurd (none-some _ is)
    stage-reads _ at is = cc

    next-reads : next_call_of u ≡ Some (call.Read handle from len) → IsToRead
    unfolding next_call_of
    next-reads is = stage-reads u.stage refl is

    -- it is a call of truss without calls of functions too
    plain-read : (x : Exchange) → x.call ≡ call.Read handle from len → Turn t x
        → next_call_of u ≡ Some (call.Read handle from len)
    plain-read x is (goes_out sees passes stay) =
        absurd (false≢true (sym (ap sends is) ∙ sees-sends t t.stage x.call sees))
    plain-read x is (goes_on y like called fed_is) = by like called is
      where
        by : {a b : Exchange} → IsLike t a b → next_call_of u ≡ Some b.call → a.call ≡ call.Read handle from len
            → next_call_of u ≡ Some (call.Read handle from len)
        by (same unsent none_own) next made = next ∙ ap (λ c. Some c) made
        by (in_place stands) next made =
            let sent = stands-sends stands in absurd (false≢true (sym (ap sends made) ∙ sent.0))
        by (refused {c = c} sees may due) next made =
            absurd (false≢true (sym (ap sends made) ∙ sees-sends t t.stage c sees))
        by (own_fault own) next made = next ∙ ap (λ c. Some c) made

    pub is-to-read : (x : Exchange) → exchange_of k e ≡ Some x → x.call ≡ call.Read handle from len → IsToRead
    is-to-read x own is = next-reads (plain-read x is (entries.turned n k o s before later e run x own))

    last-report : (place : ℕ) (l : LwpStatus) → t.stage ≡ ReadingText place l from len
        → (traced_at u place).pid ≡ pid → all_reports t ≡ t.reports ++ Reported pid l None ∷ []
    unfolding all_reports
    last-report place l at of =
        ap (λ stage. t.reports ++ pending_at t stage) at
        ∙ ap (λ m. t.reports ++ Reported m l None ∷ [])
        (sym (ap (λ (z : Traced). z.pid) (at-ordinary t place)) ∙ of)

    awaits : IsToRead → Lately k o s before u t.stage → AwaitsText k o pid from len s before
    awaits r w =
        let at : t.stage ≡ ReadingText r.place r.lwp from len = r.at in
        let read
        : ReadsLately k o s before u.reports (traced_at u r.place).pid (traced_at u r.place).control r.lwp from len =
        subst (Lately k o s before u) at w in
        let within : r.place < length u.traced = subst (Fits u.traced) r.at fits in
        let f : IsFileOf k now (traced_at u r.place).pid (traced_at u r.place).control file.Ctl WriteExcl =
        files.control r.place within in
        record {
          earlier = t.reports;
          lwp = r.lwp;
          last = last-report r.place r.lwp at r.of;
          asks = read.asks;
          event = read.event;
          tells = read.tells;
          read = record {
            before = read.front;
            entry = read.entry;
            since = read.since;
            is = read.is;
            reads = subst (λ m. ReadsEvent k m (state_after s read.front) read.entry read.event) r.of read.reads;
            control = (traced_at u r.place).control;
            has = record { held = _; there = f.is; of = r.of; file = refl };
            patches = read.patches;
          };
        }

-- ---- along a history

named-first : (k : ℕ) (o : Options) (s : TracedState) (pid : Option ℕ)
    → let u = opening_or (idle o) (idle o) pid in Lately k o s [] u u.stage
named-first k o s None = tt
named-first k o s (Some pid) = tt

program-first : (k : ℕ) (o : Options) (s : TracedState) (program : Option (List ℕ))
    → let u = first_of_program o program in Lately k o s [] u u.stage
program-first k o s None = named-first k o s (slice_get o.pids 0)
program-first k o s (Some program) = tt

first-lately : (k : ℕ) (o : Options) (s : TracedState)
    → let v = ordinary (functions_at k o []) in Lately k o s [] v v.stage
unfolding first_truss
first-lately k o s =
    subst (λ (v : TrussState). Lately k o s [] v v.stage)
    (sym (ap (λ xs. ordinary (functions_after (first_truss o) xs)) (no-exchanges k) ∙ first-ordinary o))
    (program-first k o s o.program)

pub lately-at : (n k : ℕ) (o : Options) (s : TracedState) (h : List Entry) → IsFunctionRun n k o s h
    → let v = ordinary (functions_at k o h) in Lately k o s h v v.stage
lately-at n k o s h run =
    along (λ front. Lately k o s front (ordinary (functions_at k o front)) (functions_at k o front).stage)
    (first-lately k o s) h
    (λ front rest d split kept. entry-lately n k o s front rest d (subst (IsFunctionRun n k o s) split run) kept)

pub reads-for-lines : (n k : ℕ) (o : Options) (s : TracedState) (h : List Entry) → IsFunctionRun n k o s h
    → ReadsForItsLinesOf k o s h
reads-for-lines n k o s h run = record {
  each = λ before later e pid handle from len reply is own mine.
      let all : IsFunctionRun n k o s (before ++ e ∷ later) = subst (IsFunctionRun n k o s) is run in
      let x : Exchange = record { call = call.Read handle from len; reply = reply } in
      let w = lately-at n k o s before (front-run n k o s before (e ∷ later) all) in
      awaits n k o s before later e all pid handle from len mine
      (is-to-read n k o s before later e all pid handle from len mine x own refl) w;
}

pub ruleset line_reads = (reads-for-lines)
