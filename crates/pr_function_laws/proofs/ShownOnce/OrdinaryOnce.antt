use Rattle.std.proofs.Common.{◌≡◌, ◌<◌, ◌++◌, ℕ, true, false, Option, Some, None, List, [], ◌∷◌, length, append-nil, append_assoc, refl, sym, subst, ap, ◌∙◌, inr}
use Rattle.std.proofs.lemmas.Bool.{false≢true}
use Rattle.std.proofs.lemmas.List.{append_cancel_left, length-map}
use Rattle.std.proofs.lemmas.List.Elements.{All-cons}
use Rattle.std.proofs.lemmas.Option.{none-some, same_Some}
use Rattle.std.specs.List.{All, cons_option, slice_get}
use Rattle.std.specs.Option.{option_and_then}
use Rattle.pr_line.specs.Selections.{is_selected}
use Rattle.pr_line.specs.declared.options.Options.{Options}
use Rattle.pr_model.specs.Handles.{handle_of}
use Rattle.pr_model.specs.Legal.{IsLegal, after, state_after}
use Rattle.pr_model.specs.Replies.{bytes_in}
use Rattle.pr_model.specs.State.{TracedState}
use Rattle.pr_model.specs.declared.calls.Call.TheVariants as call
use Rattle.pr_model.specs.declared.calls.File.TheVariants as file
use Rattle.pr_model.specs.declared.calls.Reply.{Reply}
use Rattle.pr_model.specs.declared.calls.Reply.TheVariants as reply
use Rattle.pr_model.specs.declared.events.Entry.{Entry}
use Rattle.pr_model.specs.declared.handles.Held.{Held}
use Rattle.pr_num.specs.declared.messages.Message.TheVariants as message
use Rattle.pr_rec.specs.declared.lwps.LwpStatus.{LwpStatus}
use Rattle.pr_report_laws.proofs.Asking.OnceShown.{lwps-watched, status-watched}
use Rattle.pr_report_laws.proofs.Files.FileLaws.{HasFiles}
use Rattle.pr_report_laws.proofs.Files.FileUses.{standing}
use Rattle.pr_report_laws.proofs.Files.WatchHistories.{Reaches, cons-exchanges, exchanges-both}
use Rattle.pr_report_laws.proofs.Invariant.StandLemmas.{Stands}
use Rattle.pr_report_laws.proofs.Invariant.Tallies.{told_in}
use Rattle.pr_report_laws.proofs.OwnFiles.KeptOpen.{closes-unwatched}
use Rattle.pr_report_laws.proofs.Reading.NewReads.{bytes-reply, new-stop}
use Rattle.pr_report_laws.proofs.Replies.NewStops.{read_at, read_now}
use Rattle.pr_report_laws.proofs.Replies.Places.{unwatched-away}
use Rattle.pr_report_laws.proofs.SeenChildren.Splits.{state_after-both}
use Rattle.pr_report_laws.proofs.Watching.HistoryParts.{legal-rest}
use Rattle.pr_report_laws.proofs.Watching.LeftReads.{IsAway, lwps-away}
use Rattle.pr_report_laws.specs.OwnOpens.{IsGoingOn}
use Rattle.pr_report_laws.specs.Shown.{LwpEvent, shown}
use Rattle.pr_report_laws.specs.Watching.{place_of, watches}
use Rattle.pr_truss.specs.Feeding.{fed}
use Rattle.pr_truss.specs.FunctionCalls.{function_call_of}
use Rattle.pr_truss.specs.FunctionFeeding.{fed_functions}
use Rattle.pr_truss.specs.Messages.{message_call}
use Rattle.pr_truss.specs.NextCalls.{call_of, read_record}
use Rattle.pr_truss.specs.Records.{event_stops, status_lwp}
use Rattle.pr_truss.specs.Trusses.{TrussState, first_truss, traced_at}
use Rattle.pr_truss.specs.declared.asides.Aside.{Aside}
use Rattle.pr_truss.specs.declared.asides.Aside.TheVariants.{Nothing, Reading, Planting, Patching}
use Rattle.pr_truss.specs.declared.processes.Traced.{Traced}
use Rattle.pr_truss.specs.declared.stages.Stage.{Stage}
use Rattle.pr_truss.specs.declared.stages.Stage.TheVariants.{ReadingStatus, ReadingLwps}
use Rattle.pr_truss_laws.proofs.Files.HeldLemmas.{Fits}
use Rattle.pr_truss_laws.proofs.Soon.LookLemmas.{same-files}
use Rattle.pr_truss_laws.proofs.Files.OwnLemmas.{Owns}
use Rattle.pr_truss_laws.specs.Exchanges.{Exchange, exchange_of, exchanges}
use Rattle.pr_function_laws.proofs.CallTurns.CalledLaws.{functions-both}
use Rattle.pr_function_laws.proofs.ShownOnce.GoingOn.{Going}
use Rattle.pr_function_laws.proofs.LeavingProcesses.LeavingLaws.{calm-exchanges}
use Rattle.pr_function_laws.proofs.LeavingProcesses.LeavingStays.{fed-leaves}
use Rattle.pr_function_laws.proofs.ShownOnce.OpenFiles.{AreOpen, EndsNowhere, control, files-open, no-ends, stay-open}
use Rattle.pr_function_laws.proofs.OpenedProcesses.OpenedLaws.{calls-rest}
use Rattle.pr_function_laws.proofs.OrdinaryTruss.OrdinaryEntries as entries
use Rattle.pr_function_laws.proofs.OrdinaryTruss.OrdinaryEntries.{front-run, watches-ordinary}
use Rattle.pr_function_laws.proofs.OrdinaryTruss.OrdinaryExchanges.{IsFit, Turn, goes_on, goes_out}
use Rattle.pr_function_laws.proofs.OrdinaryTruss.OrdinaryFiles.{Follows, run-halfway}
use Rattle.pr_function_laws.proofs.OrdinaryTruss.OrdinaryLaws.{plain-next}
use Rattle.pr_function_laws.proofs.OrdinaryTruss.OrdinaryShown.{shown-ordinary, shown-told}
use Rattle.pr_function_laws.proofs.OrdinaryTruss.OrdinaryStops.{FitsAside}
use Rattle.pr_function_laws.proofs.NextCalls.PatchCalls.{next-staged}
use Rattle.pr_function_laws.proofs.NextCalls.SoonLemmas.{IsLooking, looks-elsewhere}
use Rattle.pr_function_laws.proofs.ShownOnce.WatchedOnce.{off-after, polled-over}
use Rattle.pr_function_laws.specs.Named.{RunsOrClosesIn, closes, runs}
use Rattle.pr_function_laws.specs.Opened.{IsFunctionRun, functions_at}
use Rattle.pr_function_laws.specs.Ordinary.{ordinary, unmarked}
use Rattle.pr_function_laws.specs.OrdinaryRuns.{ShowsOneMore}
use Rattle.pr_function_laws.specs.Runs.{MakesFunctionCalls, functions_after}
use Rattle.pr_function_laws.specs.ShownOnce.{IsNotRun, ShowsStopsOnceOf}
use Rattle.pr_function_laws.specs.Soon.{IsCalm, IsNoEndOf}

-- Truss with calls of functions shows a stop once.

-- ---- where it shows an event it reads how the process stands

data ReadsAt (pid : ℕ) (t : TrussState) (r : Reply) : Type 0 where
  status : (place : ℕ) → t.stage ≡ ReadingStatus place → (traced_at t place).pid ≡ pid → ReadsAt pid t r
  lwps : (bytes : List ℕ) → t.stage ≡ ReadingLwps → (traced_at t 0).pid ≡ pid → r ≡ reply.Bytes bytes
      → ReadsAt pid t r

no-stop : slice_get (event_stops None) 0 ≡ None
unfolding event_stops
no-stop = refl

stage-reads : (pid : ℕ) (t : TrussState) (r : Reply) (event : LwpEvent) (stage : Stage) → t.stage ≡ stage
    → read_at pid t r stage ≡ Some event → ReadsAt pid t r
stage-reads pid t r event (ReadingStatus place) at is =
    let n = new-stop pid (traced_at t place) (option_and_then status_lwp (bytes_in r)) event is in
    status place at n.own
stage-reads pid t r event ReadingLwps at is =
    let n = new-stop pid (traced_at t 0) (slice_get (event_stops (bytes_in r)) 0) event is in
    by (bytes_in r) refl n.lwp n.is n.own
  where
    by : (y : Option (List ℕ)) → bytes_in r ≡ y → (l : LwpStatus) → slice_get (event_stops (bytes_in r)) 0 ≡ Some l
        → (traced_at t 0).pid ≡ pid → ReadsAt pid t r
    by (Some bytes) got l first own = lwps bytes at own (bytes-reply r bytes got)
    by None got l first own =
        absurd (none-some l (sym (ap (λ y. slice_get (event_stops y) 0) got ∙ no-stop) ∙ first))
stage-reads pid t r event _ at is = absurd (none-some event is)

reads-now : (pid : ℕ) (t : TrussState) (r : Reply) (event : LwpEvent) → read_now pid t r ≡ Some event
    → ReadsAt pid t r
unfolding read_now
reads-now pid t r event is = stage-reads pid t r event t.stage refl is

told-one : (o : Options) (y : Option LwpEvent) (event : LwpEvent) → told_in (is_selected o) y ≡ event ∷ []
    → (v : LwpEvent) × (y ≡ Some v)
told-one o None event is = cc
told-one o (Some v) event is = (v, refl)

-- an entry in which it shows one, by a truss without calls
record Looks (k pid : ℕ) (t : TrussState) (e : Entry) : Type 0 where
  x : Exchange
  own : exchange_of k e ≡ Some x
  y : Exchange
  now : ordinary (fed_functions t x.reply) ≡ fed (ordinary t) y.reply
  reads : ReadsAt pid (ordinary t) y.reply

module _ (n k : ℕ) (o : Options) (pid : ℕ) (s : TracedState) (before later : List Entry) (e : Entry)
    (run : IsFunctionRun n k o s (before ++ e ∷ later)) (w : ShowsOneMore k o pid before e) where
  abbrev was : TrussState
  was = functions_at k o before

  abbrev is_then : TrussState
  is_then = functions_at k o (before ++ e ∷ [])

  unshown : {A : Type 0} → shown pid is_then ≡ shown pid was → A
  unshown is = absurd (by (append_cancel_left (shown pid was) [] (w.event ∷ []) (append-nil (shown pid was)
      ∙ sym is ∙ w.is)))
    where
      by : [] ≡ w.event ∷ [] → ⊥
      by none = cc

  turn-looks : (x : Exchange) → exchange_of k e ≡ Some x → Turn was x → Looks k pid was e
  turn-looks x own (goes_out sees passes stay) =
      unshown
      (ap (shown pid) (entries.pushed n k o s before later e run x own)
      ∙ sym (shown-ordinary pid (fed_functions was x.reply)) ∙ ap (shown pid) stay ∙ shown-ordinary pid was)
  turn-looks x own (goes_on y like called now) =
      let f : Follows k o was (state_after s before) = entries.follows n k o s before later e run in
      let fit : IsFit o was = f.fit in
      let told : List LwpEvent = told_in (is_selected o) (read_now pid (ordinary was) y.reply) in
      let one : told ≡ w.event ∷ [] =
      append_cancel_left (shown pid was) told (w.event ∷ [])
      (sym (shown-told k o before e pid x own y now fit.options) ∙ w.is) in
      let it = told-one o (read_now pid (ordinary was) y.reply) w.event one in
      record { x = x; own = own; y = y; now = now; reads = reads-now pid (ordinary was) y.reply it.0 it.1 }

  looks : Looks k pid was e
  looks = by (exchange_of k e) refl
    where
      by : (x : Option Exchange) → exchange_of k e ≡ x → Looks k pid was e
      by None own = unshown (ap (shown pid) (entries.unmoved n k o s before later e run own))
      by (Some x) own = turn-looks x own (entries.turned n k o s before later e run x own)

reads-watched : (k pid : ℕ) (t : TrussState) (s : TracedState) → Reaches k (ordinary t) s → (r : Reply)
    → ReadsAt pid (ordinary t) r → watches t pid ≡ true
reads-watched k pid t s g r (status place at own) =
    sym (watches-ordinary t pid) ∙ status-watched k pid (ordinary t) s g place at own
reads-watched k pid t s g r (lwps bytes at own is) =
    sym (watches-ordinary t pid) ∙ lwps-watched k pid (ordinary t) s g at own

-- nothing comes beside a read of a status
status-idle : (aside : Aside) (place : ℕ) → FitsAside aside (ReadingStatus place) → aside ≡ Nothing
status-idle Nothing place fits = refl
status-idle (Reading at function) place fits = absurd fits
status-idle (Planting at function) place fits = absurd fits
status-idle (Patching at plants lifts clear) place fits = absurd fits.0
status-idle _ place fits = cc

-- ---- between two such entries

module _ (n k : ℕ) (o : Options) (pid : ℕ) (s : TracedState) (before between : List Entry) (e f : Entry)
    (run : IsFunctionRun n k o s (before ++ e ∷ (between ++ f ∷ [])))
    (again : watches (functions_at k o (before ++ e ∷ between)) pid ≡ true) where
  abbrev t : TrussState
  t = functions_at k o before

  abbrev u : TrussState
  u = functions_at k o (before ++ e ∷ between)

  abbrev now : TracedState
  now = state_after s before

  run-between : IsFunctionRun n k o s (before ++ e ∷ between)
  run-between =
      front-run n k o s (before ++ e ∷ between) (f ∷ [])
      (subst (IsFunctionRun n k o s) (sym (append_assoc before (e ∷ between) (f ∷ []))) run)

  follows : Follows k o t now
  follows = entries.follows n k o s before between e run-between

  reached : Reaches k (ordinary t) now
  reached = let w = follows in w.reaches

  files : HasFiles k (ordinary t) now
  files = let g = reached in g.files

  fits : Fits (ordinary t).traced t.stage
  fits = let g = reached in let owns : Owns k (ordinary t) now = g.owns in owns.fits

  -- the first one shown was the last that truss read of the process as it left it
  not-left : (w : Looks k pid t e) (bytes : List ℕ) → t.stage ≡ ReadingLwps → (traced_at (ordinary t) 0).pid ≡ pid
      → (let y : Exchange = w.y in y.reply) ≡ reply.Bytes bytes → ⊥
  not-left w bytes at of is =
      let y : Exchange = w.y in
      let v : TrussState = functions_at k o (before ++ e ∷ []) in
      let stands : Stands (ordinary t).traced t.leaving ReadingLwps =
      standing k (ordinary t) now ReadingLwps files at in
      let within : 0 < length (ordinary t).traced = subst (Fits (ordinary t).traced) at fits in
      let pushed : v ≡ fed_functions t w.x.reply = entries.pushed n k o s before between e run-between w.x w.own in
      let to : ordinary v ≡ fed (ordinary t) (reply.Bytes bytes) =
      ap ordinary pushed ∙ w.now ∙ ap (fed (ordinary t)) is in
      let away : IsAway (ordinary t) (ordinary v) =
      subst (IsAway (ordinary t)) (sym to) (lwps-away (ordinary t) stands.leaves within bytes at) in
      let split : IsFunctionRun n k o s ((before ++ e ∷ []) ++ between) =
      subst (IsFunctionRun n k o s) (sym (append_assoc before (e ∷ []) between)) run-between in
      let half = run-halfway n k o s (before ++ e ∷ []) between split in
      let then : Follows k o v (state_after s (before ++ e ∷ [])) = half.follows in
      let g : Reaches k (ordinary v) (state_after s (before ++ e ∷ [])) = then.reaches in
      let its : HasFiles k (ordinary v) (state_after s (before ++ e ∷ [])) = g.files in
      let off : watches v pid ≡ false =
      sym (watches-ordinary v pid)
      ∙ unwatched-away (ordinary v) pid 0
      (subst (λ p. place_of (ordinary v) p ≡ Some 0) (away.pid ∙ of) (its.one 0 away.within)) away.away in
      let leaving : v.leaving ≡ true =
      ap (λ (z : TrussState). z.leaving) to ∙ fed-leaves (ordinary t) (reply.Bytes bytes) stands.leaves in
      false≢true
      (sym (off-after n k o pid s between (before ++ e ∷ []) split (inr leaving) off)
      ∙ ap (λ h. watches (functions_at k o h) pid) (append_assoc before (e ∷ []) between) ∙ again)

  -- ---- it was read after a poll

  module _ (place : ℕ) (at : t.stage ≡ ReadingStatus place) (of : (traced_at (ordinary t) place).pid ≡ pid)
      (unrun : IsNotRun k pid (after now e) between) where
    abbrev p : Traced
    p = traced_at t place

    polled : All IsGoingOn (exchanges k before) → ⊥
    polled = subst (Going (exchanges k before)) at (entries.going n k o s before between e run-between)

    -- no file of the process is closed
    module _ (first rest : List Entry) (g : Entry) (is : between ≡ first ++ g ∷ rest) where
      abbrev front : List Entry
      front = before ++ e ∷ first

      parts : front ++ g ∷ rest ≡ before ++ e ∷ between
      parts = append_assoc before (e ∷ first) (g ∷ rest) ∙ ap (λ (es : List Entry). before ++ e ∷ es) (sym is)

      run-parts : IsFunctionRun n k o s (front ++ g ∷ rest)
      run-parts = subst (IsFunctionRun n k o s) (sym parts) run-between

      unclosed : (number : ℕ) (r : Reply) (held : Held)
          → exchange_of k g ≡ Some (record { call = call.Close number; reply = r })
          → handle_of (state_after (after now e) first).opens k number ≡ Some held → held.pid ≡ pid → ⊥
      unclosed number r held own there mine =
          let x : Exchange = record { call = call.Close number; reply = r } in
          let z : TrussState = functions_at k o front in
          let w : Follows k o z (state_after s front) = entries.follows n k o s front rest g run-parts in
          let same : state_after s front ≡ state_after (after now e) first = state_after-both s before (e ∷ first) in
          let off : watches z pid ≡ false =
          sym (watches-ordinary z pid)
          ∙ closes-unwatched k pid (ordinary z) (state_after s front) w.reaches number held.file (record {
            held = held;
            there = ap (λ (st : TracedState). handle_of st.opens k number) same ∙ there;
            of = mine;
            file = refl;
          }) (plain-next n k o s front rest g x run-parts own refl) in
          false≢true
          (sym
          (off-after n k o pid s (g ∷ rest) front run-parts (polled-over n k o pid s before (e ∷ first) polled) off)
          ∙ ap (λ h. watches (functions_at k o h) pid) parts ∙ again)

    ends-nowhere : EndsNowhere n k pid p (after now e) between
    ends-nowhere = record { none = λ first rest g is opens ends. by first rest g is opens ends }
      where
        by : (first rest : List Entry) (g : Entry) → between ≡ first ++ g ∷ rest
            → AreOpen k pid p (state_after (after now e) first)
            → RunsOrClosesIn k pid p.control (state_after (after now e) first) g → ⊥
        by first rest g is opens (runs flags r own) =
            unrun.none first rest g is (record {
              handle = p.control;
              flags = flags;
              reply = r;
              is = own;
              has = opens file.Ctl p.control (control refl);
            })
        by first rest g is opens (closes number r held own there mine) =
            unclosed first rest g is number r held own there mine

    fit : IsFit o t
    fit = let w = follows in w.fit

    idle : t.aside ≡ Nothing
    idle = status-idle t.aside place (subst (FitsAside t.aside) at (let w = fit in w.fits))

    -- the read of the status
    module _ (x : Exchange) (own : exchange_of k e ≡ Some x) where
      called : x.call ≡ read_record p.status
      unfolding function_call_of call_of
      called =
          let w = fit in
          same_Some x.call (read_record p.status)
          (sym (entries.made n k o s before between e run-between x own)
          ∙ next-staged o run.has t (ReadingStatus place) w.options idle at)

      no-end : IsNoEndOf p x
      no-end = record {
        not_run = λ flags is. by_run flags (sym called ∙ is);
        not_closed = λ handle is. absurd (by_close handle (sym called ∙ is));
      }
        where
          by_run : (flags : ℕ) → read_record p.status ≡ message_call p.control (message.Run flags) → ⊥
          by_run flags is = cc

          by_close : (handle : ℕ) → read_record p.status ≡ call.Close handle → ⊥
          by_close handle is = cc

      not-polled-since : IsLooking u.stage → ⊥
      not-polled-since looking =
          let w = fit in
          let within : place < length (ordinary t).traced = subst (Fits (ordinary t).traced) at fits in
          let stands : Stands (ordinary t).traced t.leaving (ReadingStatus place) =
          standing k (ordinary t) now (ReadingStatus place) files at in
          let legal : IsLegal n now (e ∷ between) =
          legal-rest n s before (e ∷ between) (let r = run-between in r.legal) in
          let opens : AreOpen k pid p (after now e) =
          stay-open n k pid p now e legal.0 (files-open k pid t now files place within of)
          (λ y f m its mine is. not-close m
          (sym called ∙ ap (λ (z : Exchange). z.call) (same_Some x y (sym own ∙ its)) ∙ is)) in
          let xs : exchanges k (e ∷ between) ≡ x ∷ exchanges k between =
          cons-exchanges k e between ∙ ap (λ y. cons_option y (exchanges k between)) own in
          let makes : MakesFunctionCalls t (x ∷ exchanges k between) =
          subst (MakesFunctionCalls t) xs
          (calls-rest (first_truss o) (exchanges k before) (exchanges k (e ∷ between))
          (subst (MakesFunctionCalls (first_truss o)) (exchanges-both k before (e ∷ between))
          (let r = run-between in r.makes))) in
          let comes : functions_after t (x ∷ exchanges k between) ≡ u =
          ap (functions_after t) (sym xs)
          ∙ sym (functions-both (first_truss o) (exchanges k before) (exchanges k (e ∷ between)))
          ∙ ap (functions_after (first_truss o)) (sym (exchanges-both k before (e ∷ between))) in
          looks-elsewhere o run.has p place t x (exchanges k between)
          (record {
            within = subst (λ i. place < i) (length-map t.traced unmarked) within;
            same = same-files (traced_at t place);
          }) stands.leaves idle at w.sound makes
          (All-cons (IsNoEndOf p) x (exchanges k between) no-end
          (no-ends n k pid p between (after now e) legal.1 opens ends-nowhere))
          (subst (All IsCalm) xs (calm-exchanges (e ∷ between) n k now legal))
          (subst (λ (z : TrussState). IsLooking z.stage) (sym comes) looking)
        where
          not-close : (m : ℕ) → read_record p.status ≡ call.Close m → ⊥
          not-close m is = cc

module _ (n k : ℕ) (o : Options) (pid : ℕ) (s : TracedState) (before between : List Entry) (e f : Entry)
    (run : IsFunctionRun n k o s (before ++ e ∷ (between ++ f ∷ []))) where
  abbrev last : TrussState
  last = functions_at k o (before ++ e ∷ between)

  run-last : IsFunctionRun n k o s ((before ++ e ∷ between) ++ f ∷ [])
  run-last = subst (IsFunctionRun n k o s) (sym (append_assoc before (e ∷ between) (f ∷ []))) run

  looking : (r : Reply) → ReadsAt pid (ordinary last) r → IsLooking last.stage
  looking r (status place at of) = subst IsLooking (sym at) tt
  looking r (lwps bytes at of is) = subst IsLooking (sym at) tt

  shows-once : ShowsOneMore k o pid before e → IsNotRun k pid (after (state_after s before) e) between
      → ShowsOneMore k o pid (before ++ e ∷ between) f → ⊥
  shows-once one unrun two =
      let a = looks n k o pid s before (between ++ f ∷ []) e run one in
      let b = looks n k o pid s (before ++ e ∷ between) [] f run-last two in
      let z : Exchange = b.y in
      let w : Follows k o last (state_after s (before ++ e ∷ between)) =
      entries.follows n k o s (before ++ e ∷ between) [] f run-last in
      let again : watches last pid ≡ true =
      reads-watched k pid last (state_after s (before ++ e ∷ between)) w.reaches z.reply b.reads in
      by a again (looking z.reply b.reads) a.reads
    where
      by : (a : Looks k pid (functions_at k o before) e) → watches last pid ≡ true → IsLooking last.stage
          → ReadsAt pid (ordinary (functions_at k o before)) (let y : Exchange = a.y in y.reply) → ⊥
      by a again looks_on (status place at of) =
          not-polled-since n k o pid s before between e f run again place at of unrun a.x a.own looks_on
      by a again looks_on (lwps bytes at of is) =
          not-left n k o pid s before between e f run again a bytes at of is

pub shows-stops-once : (n k : ℕ) (o : Options) (s : TracedState) (h : List Entry) → IsFunctionRun n k o s h
    → ShowsStopsOnceOf k o s h
shows-stops-once n k o s h run = record {
  each = λ before between later e f pid is one unrun two.
      shows-once n k o pid s before between e f
      (front-run n k o s (before ++ e ∷ (between ++ f ∷ [])) later
      (subst (IsFunctionRun n k o s)
      (is ∙ ap (λ (es : List Entry). before ++ e ∷ es) (sym (append_assoc between (f ∷ []) later))
      ∙ sym (append_assoc before (e ∷ (between ++ f ∷ [])) later)) run)) one unrun two;
}

pub ruleset shown_once = (shows-stops-once)
