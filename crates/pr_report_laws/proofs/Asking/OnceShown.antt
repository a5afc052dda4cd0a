use Rattle.std.proofs.Common.{◌≡◌, ◌<◌, ◌++◌, ℕ, Bool, true, false, Option, Some, None, List, [], ◌∷◌, length, slice_get, refl, sym, subst, ap, ◌∙◌, append_assoc, arith}
use Rattle.std.proofs.lemmas.Bool.{false≢true}
use Rattle.std.proofs.lemmas.List.{append_cancel_left}
use Rattle.std.proofs.lemmas.Option.{none-some}
use Rattle.pr_line.specs.Selections.{is_selected}
use Rattle.pr_line.specs.declared.options.Options.{Options}
use Rattle.pr_model.specs.Legal.{IsLegal, after, state_after}
use Rattle.pr_model.specs.Replies.{bytes_in}
use Rattle.pr_model.specs.State.{TracedState}
use Rattle.pr_model.specs.declared.calls.Call.{Call}
use Rattle.pr_model.specs.declared.calls.Call.TheVariants as call
use Rattle.pr_model.specs.declared.calls.File.{File}
use Rattle.pr_model.specs.declared.calls.File.TheVariants.{Ctl, Lstatus, Mem, Status}
use Rattle.pr_model.specs.declared.calls.Mode.{Mode}
use Rattle.pr_model.specs.declared.calls.Mode.TheVariants.{Read, WriteExcl}
use Rattle.pr_model.specs.declared.calls.Reply.{Reply}
use Rattle.pr_model.specs.declared.calls.Reply.TheVariants as reply
use Rattle.pr_model.specs.declared.events.Entry.{Entry}
use Rattle.pr_rec.specs.declared.lwps.LwpStatus.{LwpStatus}
use Rattle.pr_truss.specs.NextCalls.{call_of, next_call_of, read_record, run_call}
use Rattle.pr_truss.specs.Records.{event_stops}
use Rattle.pr_truss.specs.Trusses.{TrussState, first_truss, traced_at}
use Rattle.pr_truss.specs.declared.processes.Traced.{Traced}
use Rattle.pr_truss.specs.declared.stages.Stage.{Stage}
use Rattle.pr_truss.specs.declared.stages.Stage.TheVariants.{ReadingStatus, ReadingLwps}
use Rattle.pr_truss_laws.proofs.Files.HeldLemmas.{Fits}
use Rattle.pr_truss_laws.proofs.OwnBusiness.KnownLemmas.{Knows, after-knows, first-knows}
use Rattle.pr_truss_laws.proofs.Soon.LeavingLemmas as leaving
use Rattle.pr_truss_laws.proofs.Files.OwnLemmas.{Owns}
use Rattle.pr_truss_laws.proofs.Soon.PolledLemmas.{Near, Nears}
use Rattle.pr_truss_laws.specs.Exchanges.{Exchange, Makes, exchange_of, exchanges, truss_after, truss_at}
use Rattle.pr_truss_laws.specs.Polled.{IsNoEndOf}
use Rattle.pr_truss_laws.specs.Runs.{IsTrussRun}
use Rattle.pr_report_laws.proofs.Files.FileLaws.{HasFiles, IsFileOf}
use Rattle.pr_report_laws.proofs.Files.FileSteps.{MakesNext, makes-next}
use Rattle.pr_report_laws.proofs.Files.FileUses.{standing}
use Rattle.pr_report_laws.proofs.Files.WatchHistories.{Reaches, entry-reaches, run-reaches, truss_at-push}
use Rattle.pr_report_laws.proofs.Invariant.HistoryLaw.{after-next}
use Rattle.pr_report_laws.proofs.Invariant.HistorySteps.{read_of}
use Rattle.pr_report_laws.proofs.Invariant.OtherSteps.{is-watched}
use Rattle.pr_report_laws.proofs.Invariant.ShownTallies.{exchange-shows}
use Rattle.pr_report_laws.proofs.Invariant.StandLemmas.{IsAttached, Stands, rest-stays}
use Rattle.pr_report_laws.proofs.Invariant.Tallies.{told_in}
use Rattle.pr_report_laws.proofs.OwnFiles.KeptOpen.{closes-unwatched}
use Rattle.pr_report_laws.proofs.Reading.NewReads.{bytes-reply, new-stop}
use Rattle.pr_report_laws.proofs.Replies.NewStops.{read_at, read_now}
use Rattle.pr_report_laws.proofs.Replies.Places.{unwatched-away}
use Rattle.pr_report_laws.proofs.Watching.EndLaws.{stage-called}
use Rattle.pr_report_laws.proofs.Watching.HistoryParts.{front-run, rest-legal, rest-makes, truss_at-both}
use Rattle.pr_report_laws.proofs.Watching.LeftReads.{IsAway, lwps-away}
use Rattle.pr_report_laws.proofs.Watching.NamedSoon.{near-on, nearer-by}
use Rattle.pr_report_laws.proofs.Watching.OnceLaws.{watched-once}
use Rattle.pr_report_laws.specs.Shown.{LwpEvent, shown}
use Rattle.pr_report_laws.specs.ShownOnce.{IsLeftStanding, ShowsIn, ShowsStopsOnce}
use Rattle.pr_report_laws.specs.Watching.{fed_by_entry, is_away, place_of, watches, with_exchange}

-- Truss shows what a process stands on once.

-- ---- where truss shows an event it reads how the process stands

data ReadsAt (pid : ℕ) (t : TrussState) (r : Reply) : Type 0 where
  status : (place : ℕ) → t.stage ≡ ReadingStatus place → (traced_at t place).pid ≡ pid → ReadsAt pid t r
  lwps : (bytes : List ℕ) → t.stage ≡ ReadingLwps → (traced_at t 0).pid ≡ pid → r ≡ reply.Bytes bytes
      → ReadsAt pid t r

no-stop : slice_get (event_stops None) 0 ≡ None
unfolding event_stops
no-stop = refl

stage-reads : (pid : ℕ) (t : TrussState) (r : Reply) (event : LwpEvent) (stage : Stage) → t.stage ≡ stage
    → read_at pid t r stage ≡ Some event → ReadsAt pid t r
stage-reads pid t r event (ReadingStatus place) at is =
    let n = new-stop pid (traced_at t place) _ event is in
    status place at n.own
stage-reads pid t r event ReadingLwps at is =
    let n = new-stop pid (traced_at t 0) (slice_get (event_stops (bytes_in r)) 0) event is in
    by (bytes_in r) refl n.lwp n.is n.own
  where
    by : (y : Option (List ℕ)) → bytes_in r ≡ y → (l : LwpStatus) → slice_get (event_stops (bytes_in r)) 0 ≡ Some l
        → (traced_at t 0).pid ≡ pid → ReadsAt pid t r
    by (Some bytes) got l first own = lwps bytes at own (bytes-reply r bytes got)
    by None got l first own =
        absurd (none-some l (sym (ap (λ y. slice_get (event_stops y) 0) got ∙ no-stop) ∙ first))
stage-reads pid t r event _ at is = absurd (none-some event is)

reads-now : (pid : ℕ) (t : TrussState) (r : Reply) (event : LwpEvent) → read_now pid t r ≡ Some event
    → ReadsAt pid t r
unfolding read_now
reads-now pid t r event is = stage-reads pid t r event t.stage refl is

-- an entry in which it shows one
record Looks (k pid : ℕ) (t : TrussState) (e : Entry) : Type 0 where
  x : Exchange
  own : exchange_of k e ≡ Some x
  reads : ReadsAt pid t x.reply

told-one : (o : Options) (y : Option LwpEvent) (event : LwpEvent) → told_in (is_selected o) y ≡ event ∷ []
    → (v : LwpEvent) × (y ≡ Some v)
told-one o None event is = cc
told-one o (Some v) event is = (v, refl)

looks : (k : ℕ) (o : Options) (pid : ℕ) (before : List Entry) (e : Entry) → (truss_at k o before).options ≡ o
    → ShowsIn k o pid before e → Looks k pid (truss_at k o before) e
looks k o pid before e options w =
    let t : TrussState = truss_at k o before in
    let told : List LwpEvent = told_in (is_selected o) (read_of pid t (exchange_of k e)) in
    let one : told ≡ w.event ∷ [] =
    append_cancel_left (shown pid t) told (w.event ∷ [])
    (sym (exchange-shows o pid t (exchange_of k e) options) ∙ ap (shown pid) (sym (truss_at-push k o before e))
    ∙ w.is) in
    let it = told-one o (read_of pid t (exchange_of k e)) w.event one in
    by t (exchange_of k e) refl it.0 it.1
  where
    by : (t : TrussState) (x : Option Exchange) → exchange_of k e ≡ x → (v : LwpEvent) → read_of pid t x ≡ Some v
        → Looks k pid t e
    by t None own v is = absurd (none-some v is)
    by t (Some x) own v is = record { x = x; own = own; reads = reads-now pid t x.reply v is }

-- ---- it watches the process then

module _ (k pid : ℕ) (t : TrussState) (s : TracedState) (g : Reaches k t s) where
  files : HasFiles k t s
  files = g.files

  fits : Fits t.traced t.stage
  fits = let owns : Owns k t s = g.owns in owns.fits

  found : (place : ℕ) → place < length t.traced → (traced_at t place).pid ≡ pid → place_of t pid ≡ Some place
  found place within own = subst (λ p. place_of t p ≡ Some place) own (files.one place within)

  pub status-watched : (place : ℕ) → t.stage ≡ ReadingStatus place → (traced_at t place).pid ≡ pid
      → watches t pid ≡ true
  status-watched place at own =
      let within : place < length t.traced = subst (Fits t.traced) at fits in
      let w : Stands t.traced t.leaving (ReadingStatus place) = standing k t s (ReadingStatus place) files at in
      let on : IsAttached (traced_at t place) =
      rest-stays t.leaving (traced_at t place) (w.rests place within) w.leaves in
      is-watched t pid place (found place within own) on.attached (ap (λ x. is_away t.leaving x place) at)

  pub lwps-watched : t.stage ≡ ReadingLwps → (traced_at t 0).pid ≡ pid → watches t pid ≡ true
  lwps-watched at own =
      let within : 0 < length t.traced = subst (Fits t.traced) at fits in
      let w : Stands t.traced t.leaving ReadingLwps = standing k t s ReadingLwps files at in
      let on : IsAttached (traced_at t 0) = w.at in
      is-watched t pid 0 (found 0 within own) on.attached (ap (λ x. is_away t.leaving x 0) at)

  reads-watched : (r : Reply) → ReadsAt pid t r → watches t pid ≡ true
  reads-watched r (status place at own) = status-watched place at own
  reads-watched r (lwps bytes at own is) = lwps-watched at own

-- ---- between two such entries

no-run : (o : Option ℕ) (control : ℕ) → read_record o ≡ run_call control → ⊥
no-run o control is = cc

no-close : (o : Option ℕ) (handle : ℕ) → read_record o ≡ call.Close handle → ⊥
no-close o handle is = cc

module _ (n k : ℕ) (o : Options) (pid : ℕ) (s : TracedState) (before between : List Entry) (e f : Entry)
    (run : IsTrussRun n k o s (before ++ e ∷ (between ++ f ∷ []))) where
  abbrev t : TrussState
  t = truss_at k o before

  abbrev u : TrussState
  u = truss_at k o (before ++ e ∷ between)

  abbrev now : TracedState
  now = state_after s before

  run-before : IsTrussRun n k o s before
  run-before = front-run n k o s before (e ∷ (between ++ f ∷ [])) run

  run-between : IsTrussRun n k o s (before ++ e ∷ between)
  run-between =
      front-run n k o s (before ++ e ∷ between) (f ∷ [])
      (subst (IsTrussRun n k o s) (sym (append_assoc before (e ∷ between) (f ∷ []))) run)

  reached : Reaches k t now
  reached = run-reaches n k o s before run-before

  later : Reaches k u (state_after s (before ++ e ∷ between))
  later = run-reaches n k o s (before ++ e ∷ between) run-between

  makes : MakesNext t (exchange_of k e) × Makes (fed_by_entry k t e) (exchanges k between)
  makes = makes-next k t e between (rest-makes n k o s before (e ∷ between) run-between)

  legal : IsLegal n now (e ∷ between)
  legal = rest-legal n k o s before (e ∷ between) run-between

  ends-at : truss_after (fed_by_entry k t e) (exchanges k between) ≡ u
  ends-at = sym (truss_at-both k o before (e ∷ between) ∙ after-next k t e between)

  options-of : (h : List Entry) → IsTrussRun n k o s h → (truss_at k o h).options ≡ o
  options-of h of =
      let knows : Knows o (exchanges k h) (truss_at k o h) =
      after-knows o (exchanges k h) [] (first_truss o) (first-knows o) of.makes in
      knows.options

  -- the first one shown was the last that truss read of the process as it left it
  not-left : (x : Exchange) (bytes : List ℕ) → exchange_of k e ≡ Some x → t.stage ≡ ReadingLwps
      → (traced_at t 0).pid ≡ pid → x.reply ≡ reply.Bytes bytes → watches t pid ≡ true → watches u pid ≡ true → ⊥
  not-left x bytes own at of is on again =
      let g = reached in
      let stands : Stands t.traced t.leaving ReadingLwps = standing k t now ReadingLwps g.files at in
      let within : 0 < length t.traced = subst (Fits t.traced) at (fits k pid t now g) in
      let v : TrussState = truss_at k o (before ++ e ∷ []) in
      let to : v ≡ fed_by_entry k t e = truss_at-push k o before e in
      let it : fed_by_entry k t e ≡ with_exchange t (Some (record { call = x.call; reply = reply.Bytes bytes })) =
      ap (with_exchange t) own
      ∙ ap (λ (r : Reply). with_exchange t (Some (record { call = x.call; reply = r }))) is in
      let away : IsAway t v = subst (IsAway t) (sym (to ∙ it)) (lwps-away t stands.leaves within bytes at) in
      let one : IsTrussRun n k o s (before ++ e ∷ []) =
      front-run n k o s (before ++ e ∷ []) between
      (subst (IsTrussRun n k o s) (sym (append_assoc before (e ∷ []) between)) run-between) in
      let here : Reaches k v (state_after s (before ++ e ∷ [])) = run-reaches n k o s (before ++ e ∷ []) one in
      let its : HasFiles k v (state_after s (before ++ e ∷ [])) = here.files in
      let off : watches v pid ≡ false =
      unwatched-away v pid 0 (subst (λ p. place_of v p ≡ Some 0) (away.pid ∙ of) (its.one 0 away.within)) away.away in
      false≢true (sym (watched-once n k o pid s before (e ∷ []) between run-between on off) ∙ again)

  -- truss watches the process in between, if it does before and afterwards
  stays-watched : watches t pid ≡ true → watches u pid ≡ true → (first rest : List Entry) → between ≡ first ++ rest
      → watches (truss_at k o (before ++ e ∷ first)) pid ≡ true
  stays-watched on again first rest is = by (watches (truss_at k o (before ++ e ∷ first)) pid) refl
    where
      by : (b : Bool) → watches (truss_at k o (before ++ e ∷ first)) pid ≡ b → b ≡ true
      by true stays = refl
      by false off =
          let same : before ++ e ∷ between ≡ before ++ ((e ∷ first) ++ rest) =
          ap (λ (es : List Entry). before ++ e ∷ es) is in
          let over =
          watched-once n k o pid s before (e ∷ first) rest (subst (IsTrussRun n k o s) same run-between) on off in
          absurd (false≢true (sym over ∙ ap (λ h. watches (truss_at k o h) pid) (sym same) ∙ again))

  -- no call between runs the process or closes a file of it
  module _ (place : ℕ) (of : (traced_at t place).pid ≡ pid) (waits : IsLeftStanding k pid (after now e) between)
      (on : watches t pid ≡ true) (again : watches u pid ≡ true) where
    abbrev p : Traced
    p = traced_at t place

    at-both : (first : List Entry)
        → truss_after (fed_by_entry k t e) (exchanges k first) ≡ truss_at k o (before ++ e ∷ first)
    at-both first = sym (truss_at-both k o before (e ∷ first) ∙ after-next k t e first)

    no-end-at : (first rest : List Entry) (g : Entry) (x : Exchange) (m : ℕ) → between ≡ first ++ g ∷ rest
        → exchange_of k g ≡ Some x → (v : TrussState) → truss_after (fed_by_entry k t e) (exchanges k first) ≡ v
        → Near p place m v → Reaches k v (state_after (after now e) first) → next_call_of v ≡ Some x.call
        → IsNoEndOf p x
    no-end-at first rest g x m is own v same near reaches next =
        let its : HasFiles k v (state_after (after now e) first) = reaches.files in
        let here : leaving.Stands p v place = near.here in
        let stays : watches v pid ≡ true =
        subst (λ (y : TrussState). watches y pid ≡ true) (sym (at-both first) ∙ same)
        (stays-watched on again first (g ∷ rest) is) in
        let file : IsFileOf k (state_after (after now e) first) pid p.control Ctl WriteExcl =
        subst (λ c. IsFileOf k (state_after (after now e) first) pid c Ctl WriteExcl) here.same.control
        (subst (λ q. IsFileOf k (state_after (after now e) first) q (traced_at v place).control Ctl WriteExcl)
        (here.same.pid ∙ of) (its.control place here.within)) in
        let closes : (f : File) (mode : Mode) (handle : ℕ) → x.call ≡ call.Close handle
        → IsFileOf k (state_after (after now e) first) (traced_at v place).pid handle f mode → ⊥ =
        λ f mode handle called of_it.
        false≢true
        (sym (closes-unwatched k pid v (state_after (after now e) first) reaches handle _
        (record { held = _; there = of_it.is; of = here.same.pid ∙ of; file = refl }) (next ∙ ap Some called))
        ∙ stays) in
        record {
          not_run = λ called. waits.none first rest g is (record {
            handle = p.control;
            reply = x.reply;
            is = own ∙ ap (λ (c : Call). Some (record { call = c; reply = x.reply })) called;
            has = record { held = _; there = file.is; of = refl; file = refl };
          });
          not_closed = λ handle called. record {
            control = λ one. closes Ctl WriteExcl handle called
                (subst (λ c. IsFileOf k (state_after (after now e) first) (traced_at v place).pid c Ctl WriteExcl)
                (here.same.control ∙ one) (its.control place here.within));
            status = λ one. closes Status Read handle called
                (its.status place handle here.within (here.same.status ∙ one));
            lstatus = λ one. closes Lstatus Read handle called
                (its.lstatus place handle here.within (here.same.lstatus ∙ one));
            memory = λ one. closes Mem Read handle called
                (its.memory place handle here.within (here.same.memory ∙ one));
          };
        }

  -- it was read after a poll
  not-near : (x : Exchange) (place : ℕ) → exchange_of k e ≡ Some x → t.stage ≡ ReadingStatus place
      → (traced_at t place).pid ≡ pid → IsLeftStanding k pid (after now e) between → watches t pid ≡ true
      → watches u pid ≡ true → (r : Reply) → ReadsAt pid u r → ⊥
  unfolding call_of
  not-near x place own at of waits stays_on watched r again =
      let g = reached in
      let p : Traced = traced_at t place in
      let within : place < length t.traced = subst (Fits t.traced) at (fits k pid t now g) in
      let stands : Stands t.traced t.leaving (ReadingStatus place) =
      standing k t now (ReadingStatus place) g.files at in
      let near : Near p place 12 t = record {
        here = record {
          within = within;
          same = record { pid = refl; control = refl; status = refl; lstatus = refl; memory = refl };
        };
        stays = stands.leaves;
        soon = subst (Nears t.traced place 12) (sym at) (refl, omega arith);
      } in
      let next : next_call_of t ≡ Some x.call = subst (MakesNext t) own makes.0 in
      let called : x.call ≡ read_record p.status = stage-called t x (ReadingStatus place) (read_record p.status) next at
      refl in
      let none : IsNoEndOf p x = record {
        not_run = λ is. no-run p.status p.control (sym called ∙ is);
        not_closed = λ handle is. absurd (no-close p.status handle (sym called ∙ is));
      } in
      let one = nearer-by n k pid p of place t now e x 12 g near legal.0 own next none in
      let left = one.0 in
      let then : fed_by_entry k t e ≡ with_exchange t (Some x) = ap (with_exchange t) own in
      let on =
      near-on n k pid p of place between (fed_by_entry k t e) (after now e) left
      (entry-reaches n k t now e g legal.0 makes.0) (subst (Near p place left) (sym then) one.1.1) legal.1 makes.1
      (record {
        none = λ first rest g y m is its near reaches called.
            no-end-at place of waits stays_on watched first rest g y m is its _ refl near reaches called;
      }) in
      by on.0 (omega (arith, on.1.0, one.1.0)) (subst (Near p place on.0) ends-at on.1.1) again
    where
      by : (m : ℕ) → m < 12 → Near (traced_at t place) place m u → ReadsAt pid u r → ⊥
      by m less near (status q is its) =
          let soon = subst (Nears u.traced place m) is near.soon in
          omega (arith, less, soon.1)
      by m less near (lwps bytes is its same) = subst (Nears u.traced place m) is near.soon

  pub shows-once : ShowsIn k o pid before e → IsLeftStanding k pid (after now e) between
      → ShowsIn k o pid (before ++ e ∷ between) f → ⊥
  shows-once one waits two =
      let a = looks k o pid before e (options-of before run-before) one in
      let b = looks k o pid (before ++ e ∷ between) f (options-of (before ++ e ∷ between) run-between) two in
      by a.x a.own a.reads b.x.reply b.reads
    where
      by : (x : Exchange) → exchange_of k e ≡ Some x → ReadsAt pid t x.reply → (r : Reply) → ReadsAt pid u r → ⊥
      by x own (status place at of) r again =
          not-near x place own at of waits
          (reads-watched k pid t now reached x.reply (status place at of))
          (reads-watched k pid u (state_after s (before ++ e ∷ between)) later r again) r again
      by x own (lwps bytes at of is) r again =
          not-left x bytes own at of is
          (reads-watched k pid t now reached x.reply (lwps bytes at of is))
          (reads-watched k pid u (state_after s (before ++ e ∷ between)) later r again)

pub shows-stops-once : (n k : ℕ) (o : Options) (first : TracedState) (h : List Entry) → IsTrussRun n k o first h
    → ShowsStopsOnce k o first h
shows-stops-once n k o first h run = record {
  each = λ before between later e f pid is one waits two.
      let all : IsTrussRun n k o first ((before ++ e ∷ (between ++ f ∷ [])) ++ later) =
      subst (IsTrussRun n k o first)
      (is ∙ ap (λ (es : List Entry). before ++ e ∷ es) (sym (append_assoc between (f ∷ []) later))
      ∙ sym (append_assoc before (e ∷ (between ++ f ∷ [])) later)) run in
      shows-once n k o pid first before between e f
      (front-run n k o first (before ++ e ∷ (between ++ f ∷ [])) later all) one waits two;
}
