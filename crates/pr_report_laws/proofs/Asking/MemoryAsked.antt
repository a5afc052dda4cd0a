use Rattle.std.proofs.Common.{◌≡◌, ◌++◌, ℕ, Option, Some, None, List, [], ◌∷◌, refl, sym, subst, ap, ◌∙◌}
use Rattle.std.proofs.lemmas.Option.{none-some, same_Some}
use Rattle.std.specs.Option.{option_map}
use Rattle.pr_line.specs.declared.events.Event.{Event}
use Rattle.pr_line.specs.declared.options.Options.{Options}
use Rattle.pr_model.specs.Handles.{handle_of}
use Rattle.pr_model.specs.Legal.{state_after}
use Rattle.pr_model.specs.Replies.{number_of}
use Rattle.pr_model.specs.State.{TracedState}
use Rattle.pr_model.specs.declared.calls.Call.TheVariants as call
use Rattle.pr_model.specs.declared.calls.File.TheVariants as file
use Rattle.pr_model.specs.declared.calls.File.{File}
use Rattle.pr_model.specs.declared.calls.Mode.{Mode}
use Rattle.pr_model.specs.declared.calls.Reply.{Reply}
use Rattle.pr_model.specs.declared.events.Entry.{Entry}
use Rattle.pr_model.specs.declared.handles.Held.{Held}
use Rattle.pr_rec.specs.declared.lwps.LwpStatus.{LwpStatus}
use Rattle.pr_truss.specs.NextCalls.{call_of, next_call_of, opening_call}
use Rattle.pr_truss.specs.Reports.{all_reports, pending_at}
use Rattle.pr_truss.specs.Trusses.{TrussState, first_truss, traced_at}
use Rattle.pr_truss.specs.declared.processes.Traced.{Traced}
use Rattle.pr_truss.specs.declared.reports.Report.TheVariants.{Event as Reported}
use Rattle.pr_truss.specs.declared.stages.OpeningStep.TheVariants as opening
use Rattle.pr_truss.specs.declared.stages.OpeningStep.{OpeningStep}
use Rattle.pr_truss.specs.declared.stages.Stage.TheVariants.{Opening, ReadingStatus, ReadingText, OpeningChild, ReadingLwps, FreeingChild, Finished}
use Rattle.pr_truss.specs.declared.stages.Stage.{Stage}
use Rattle.pr_truss_laws.proofs.Files.HeldLemmas.{Fits}
use Rattle.pr_truss_laws.proofs.Replies.OptionLemmas.{fed-options}
use Rattle.pr_truss_laws.proofs.Files.OwnLemmas.{Owns}
use Rattle.pr_truss_laws.proofs.Replies.ReplySteps as step
use Rattle.pr_truss_laws.proofs.Replies.ReplySteps.{IsNew, Reads}
use Rattle.pr_truss_laws.specs.Exchanges.{Exchange, exchanges, truss_after, truss_at}
use Rattle.pr_truss_laws.specs.Runs.{IsTrussRun}
use Rattle.pr_report_laws.proofs.Asking.LookStages.{Minds, WasLookedAt, minds}
use Rattle.pr_report_laws.proofs.Files.FileLaws.{HasFiles, IsFileOf}
use Rattle.pr_report_laws.proofs.Files.FileSteps.{MakesNext, makes-next}
use Rattle.pr_report_laws.proofs.Files.FileUses as uses
use Rattle.pr_report_laws.proofs.Files.WatchHistories.{Reaches, run-reaches}
use Rattle.pr_report_laws.proofs.Replies.TextReports.{AsksItsRange, asks-range, fed-goes, first-silent}
use Rattle.pr_report_laws.proofs.ToldForks.OldHolds.{StandsOn, reads-event}
use Rattle.pr_report_laws.proofs.ToldForks.OldStops.{ReadsAt, at_lwps, at_status}
use Rattle.pr_report_laws.proofs.Watching.ExchangeEntries.{HasEntryOf, entry-of}
use Rattle.pr_report_laws.proofs.Watching.HistoryParts.{front-run, rest-makes}
use Rattle.pr_report_laws.proofs.Watching.LeftReads.{child-reads, freeing-reads}
use Rattle.pr_report_laws.specs.Attachments.{HasFile}
use Rattle.pr_report_laws.specs.LineReads.{ReadsForItsLines, WasReadLast}
use Rattle.pr_report_laws.specs.Memories.{range_asked}
use Rattle.pr_report_laws.specs.Shown.{LwpEvent, event_told}

-- Where truss reads memory it does so for the line of an event.

-- ---- what it asks for

asks-after : (o : Options) (xs : List Exchange) (t : TrussState) → t.options ≡ o → AsksItsRange o t.stage
    → AsksItsRange o (truss_after t xs).stage
asks-after o [] t same asks = asks
asks-after o (x ∷ xs) t same asks =
    let goes = fed-goes o t x.reply same in
    asks-after o xs _ (fed-options t x.reply ∙ same) (asks-range o t _ _ goes.asks)

asks-at : (k : ℕ) (o : Options) (h : List Entry) → AsksItsRange o (truss_at k o h).stage
asks-at k o h =
    let first = first-silent o in
    asks-after o (exchanges k h) (first_truss o) first.options first.asks

-- ---- the read of the event

module _ (n k : ℕ) (o : Options) (first : TracedState) (h : List Entry) (run : IsTrussRun n k o first h) (pid : ℕ) where
  -- an event of the process was read by the last call, and is told by this lwp
  record WasTold (l : LwpStatus) : Type 0 where
    event : LwpEvent
    tells : event_told l ≡ Some event
    read : WasReadLast k pid first h event

  looked-at : (t : TrussState) (r : Reply) (stage : Stage) (place : ℕ) (lwp : Option LwpStatus) (l : LwpStatus)
      → t.stage ≡ stage → Reads t r stage place lwp → lwp ≡ Some l → ReadsAt t r place l
  looked-at t r stage place lwp l at (step.reads_status _) tells = at_status at tells
  looked-at t r stage place lwp l at (step.reads_none _) tells = absurd (none-some l tells)
  looked-at t r stage place lwp l at (step.reads_lwps _) tells = at_lwps at refl tells

  was-told : (place : ℕ) (l : LwpStatus) → (traced_at (truss_at k o h) place).pid ≡ pid
      → WasLookedAt o (truss_at k o h).traced place l (exchanges k h) → WasTold l
  was-told place l of w =
      let y : Exchange = w.read in
      let e : HasEntryOf k h w.past y [] = entry-of k h w.past y [] w.is in
      let same : truss_after (first_truss o) w.past ≡ truss_at k o e.before =
      ap (truss_after (first_truss o)) (sym e.earlier) in
      let t : TrussState = truss_at k o e.before in
      let all : IsTrussRun n k o first (e.before ++ e.entry ∷ e.later) = subst (IsTrussRun n k o first) e.is run in
      let front = front-run n k o first e.before (e.entry ∷ e.later) all in
      let m = makes-next k t e.entry e.later (rest-makes n k o first e.before (e.entry ∷ e.later) all) in
      let next : next_call_of t ≡ Some y.call = subst (MakesNext t) e.own m.0 in
      let new : IsNew t y.reply place l w.event =
      subst (λ (u : TrussState). IsNew u y.reply place l w.event) same w.new in
      let its : (traced_at t place).pid ≡ pid =
      ap (λ (u : TrussState). (traced_at u place).pid) (sym same) ∙ ap (λ (u : Traced). u.pid) w.same ∙ of in
      let on : StandsOn l = record { event = w.event; is = new.is } in
      let reads =
      looked-at t y.reply w.stage place (Some l) l (ap (λ (u : TrussState). u.stage) (sym same) ∙ w.at)
      (subst (λ (u : TrussState). Reads u y.reply w.stage place (Some l)) same w.reads) refl in
      record {
        event = record { id = l.id; event = w.event };
        tells = ap (option_map (λ (x : Event). record { id = l.id; event = x })) new.is;
        read = record {
          before = e.before;
          entry = e.entry;
          since = e.later;
          is = e.is;
          reads =
              reads-event k pid t (state_after first e.before) (run-reaches n k o first e.before front) e.entry y
              e.own next place l reads its on;
          last = e.rest;
        };
      }

-- ---- the call

-- Truss is about to read this memory, for the line of an event.
pub record IsToRead (o : Options) (pid from len : ℕ) (t : TrussState) : Type 0 where
  pub place : ℕ
  pub lwp : LwpStatus
  pub at : t.stage ≡ ReadingText place lwp from len
  pub of : (traced_at t place).pid ≡ pid
  pub last : all_reports t ≡ t.reports ++ Reported pid lwp None ∷ []
  pub asks : range_asked o lwp ≡ Some (from, len)

module _ (k : ℕ) (o : Options) (before : List Entry) (s : TracedState) (g : Reaches k (truss_at k o before) s)
    (pid handle from len : ℕ) (mine : HasFile k pid file.Mem handle s) where
  abbrev t : TrussState
  t = truss_at k o before

  files : HasFiles k t s
  files = g.files

  fits : Fits t.traced t.stage
  fits = let owns : Owns k t s = g.owns in owns.fits

  -- the file of the handle
  same-file : (of : ℕ) (f : File) (mode : Mode) (number : ℕ) → IsFileOf k s of number f mode → number ≡ handle
      → (f ≡ file.Mem) × (of ≡ pid)
  same-file of f mode number its same =
      let held : Held = record { controller = k; pid = of; lwp = 0; file = f; mode = mode } in
      let is : held ≡ mine.held =
      same_Some held mine.held (sym its.is ∙ ap (λ m. handle_of s.opens k m) same ∙ mine.there) in
      (sym (ap (λ (h : Held). h.file) (sym is)) ∙ mine.file, ap (λ (h : Held). h.pid) is ∙ mine.of)

  no-status : file.Status ≡ file.Mem → ⊥
  no-status is = cc

  no-lstatus : file.Lstatus ≡ file.Mem → ⊥
  no-lstatus is = cc

  same-call : {a b c : ℕ} → call.Read a b c ≡ call.Read handle from len → a ≡ handle
  same-call is = cc

  same-from : {a b c : ℕ} → call.Read a b c ≡ call.Read handle from len → b ≡ from
  same-from is = cc

  same-len : {a b c : ℕ} → call.Read a b c ≡ call.Read handle from len → c ≡ len
  same-len is = cc

  opening-awaits : (place : ℕ) (now : OpeningStep) → t.stage ≡ Opening place now
      → opening_call t.options (traced_at t place) now ≡ call.Read handle from len
      → IsToRead o pid from len t
  unfolding opening_call
  opening-awaits place opening.ReadLwps at is =
      absurd
      (no-lstatus ((same-file _ file.Lstatus _ _ (uses.opening-read k t s files fits place at) (same-call is)).0))
  opening-awaits place opening.OpenStatus at is = cc
  opening-awaits place opening.OpenLstatus at is = cc
  opening-awaits place opening.OpenMemory at is = cc
  opening-awaits place _ at is = cc

  last-report : (place : ℕ) (l : _) (a b : ℕ) → t.stage ≡ ReadingText place l a b
      → all_reports t ≡ t.reports ++ pending_at t (ReadingText place l a b)
  unfolding all_reports
  last-report place l a b at = ap (λ x. t.reports ++ pending_at t x) at

  stage-awaits : (stage : Stage) → t.stage ≡ stage → call_of t stage ≡ Some (call.Read handle from len)
      → IsToRead o pid from len t
  unfolding call_of
  stage-awaits (Opening place now) at is = opening-awaits place now at (same_Some _ _ is)
  stage-awaits (ReadingStatus place) at is =
      absurd
      (no-status
      ((same-file _ file.Status _ _ (uses.status-read k t s files fits place at) (same-call (same_Some _ _ is))).0))
  stage-awaits (ReadingText place l a b) at is =
      let c : call.Read (number_of (traced_at t place).memory) a b ≡ call.Read handle from len = same_Some _ _ is in
      let own = same-file _ file.Mem _ _ (uses.memory-read k t s files fits place l a b at) (same-call c) in
      let asks : AsksItsRange o (ReadingText place l a b) = subst (AsksItsRange o) at (asks-at k o before) in
      record {
        place = place;
        lwp = l;
        at = at ∙ ap (λ n. ReadingText place l n b) (same-from c) ∙ ap (λ n. ReadingText place l from n) (same-len c);
        of = own.1;
        last =
            last-report place l a b at
            ∙ ap (λ n. t.reports ++ Reported n l None ∷ []) own.1;
        asks = asks ∙ ap (λ n. Some (n, b)) (same-from c) ∙ ap (λ n. Some (from, n)) (same-len c);
      }
  stage-awaits (OpeningChild parent place now) at is = absurd (child-reads _ now handle from len (same_Some _ _ is))
  stage-awaits ReadingLwps at is =
      absurd
      (no-lstatus
      ((same-file _ file.Lstatus _ _ (uses.lwps-read k t s files fits at) (same-call (same_Some _ _ is))).0))
  stage-awaits (FreeingChild of now) at is = absurd (freeing-reads of now handle from len (same_Some _ _ is))
  stage-awaits Finished at is = absurd (none-some _ is)
  stage-awaits _ at is = cc

  pub next-awaits : next_call_of t ≡ Some (call.Read handle from len) → IsToRead o pid from len t
  unfolding next_call_of
  next-awaits is = stage-awaits t.stage refl is

pub reads-lines : (n k : ℕ) (o : Options) (first : TracedState) (h : List Entry) → IsTrussRun n k o first h
    → ReadsForItsLines k o first h
reads-lines n k o first h run = record {
  each = λ before later e pid handle from len reply is own mine.
      let all : IsTrussRun n k o first (before ++ e ∷ later) = subst (IsTrussRun n k o first) is run in
      let front : IsTrussRun n k o first before = front-run n k o first before (e ∷ later) all in
      let t : TrussState = truss_at k o before in
      let m = makes-next k t e later (rest-makes n k o first before (e ∷ later) all) in
      let w : IsToRead o pid from len t =
      next-awaits k o before (state_after first before) (run-reaches n k o first before front) pid handle from len mine
      (subst (MakesNext t) own m.0) in
      let told : WasTold n k o first before front pid w.lwp =
      was-told n k o first before front pid w.place w.lwp w.of
      (subst (Minds o (exchanges k before) t.traced) w.at (minds o (exchanges k before) front.makes)) in
      record {
        earlier = t.reports;
        lwp = w.lwp;
        last = w.last;
        asks = w.asks;
        event = told.event;
        tells = told.tells;
        read = told.read;
      };
}

pub ruleset line_reads = (reads-lines)
