use Rattle.std.proofs.Common.{◌≡◌, ◌⊎◌, ◌++◌, ℕ, true, Option, Some, None, List, [], ◌∷◌, append_assoc, length, refl, sym, subst, ap, ◌∙◌, arith, inl, inr}
use Rattle.std.proofs.lemmas.Bool.{false≢true}
use Rattle.std.proofs.lemmas.List.{length-append}
use Rattle.std.proofs.lemmas.Option.{same_Some}
use Rattle.pr_line.specs.ArgumentTexts.{Came}
use Rattle.pr_line.specs.declared.options.Options.{Options}
use Rattle.pr_model.specs.Calls.{Answer, answer_to}
use Rattle.pr_model.specs.Legal.{IsLegal, IsLegalEntry, state_after}
use Rattle.pr_model.specs.Reads.{file_read}
use Rattle.pr_model.specs.Replies.{bytes_in, number_of}
use Rattle.pr_model.specs.State.{TracedState}
use Rattle.pr_model.specs.declared.calls.Call.{Call}
use Rattle.pr_model.specs.declared.calls.Call.TheVariants as call
use Rattle.pr_model.specs.declared.calls.File.TheVariants.{Ctl, Mem}
use Rattle.pr_model.specs.declared.calls.Mode.TheVariants.{Read, WriteExcl}
use Rattle.pr_model.specs.declared.calls.Reply.TheVariants as reply
use Rattle.pr_model.specs.declared.events.Entry.{Entry}
use Rattle.pr_num.specs.declared.errnos.Errno.{Errno}
use Rattle.pr_num.specs.declared.errnos.Errno.TheVariants.{Noent}
use Rattle.pr_rec.specs.declared.lwps.LwpStatus.{LwpStatus}
use Rattle.pr_report_laws.proofs.Files.FileLaws.{HasFiles, IsFileOf}
use Rattle.pr_report_laws.proofs.Files.FileUses.{memory-read}
use Rattle.pr_report_laws.proofs.Files.WatchHistories.{IsAnswered, Reaches, exchange-answered, no-exchanges}
use Rattle.pr_report_laws.proofs.Machine.RecordLaws.{held-is, read-is}
use Rattle.pr_report_laws.proofs.Replies.TextReports.{AsksItsRange, Goes, Grows, IsTold, IsToldEvent, as_before, asks-range, fed-goes, first-silent, one_more, silent, told}
use Rattle.pr_report_laws.proofs.Watching.HistoryParts.{legal-rest}
use Rattle.pr_report_laws.specs.Memories.{range_asked}
use Rattle.pr_truss.specs.Feeding.{fed}
use Rattle.pr_truss.specs.FunctionFeeding.{fed_functions}
use Rattle.pr_truss.specs.NextCalls.{call_of, next_call_of}
use Rattle.pr_truss.specs.Stops.{text_of}
use Rattle.pr_truss.specs.Trusses.{TrussState, first_truss, traced_at}
use Rattle.pr_truss.specs.declared.processes.Traced.{Traced}
use Rattle.pr_truss.specs.declared.reports.Report.{Report}
use Rattle.pr_truss.specs.declared.reports.Report.TheVariants as report
use Rattle.pr_truss.specs.declared.stages.Stage.TheVariants.{ReadingText}
use Rattle.pr_truss_laws.proofs.Files.HeldLemmas.{Fits}
use Rattle.pr_truss_laws.proofs.Files.OpensLemmas.{held_by}
use Rattle.pr_truss_laws.proofs.Files.OwnLemmas.{Owns}
use Rattle.pr_truss_laws.specs.Business.{goes_to}
use Rattle.pr_truss_laws.specs.Exchanges.{Exchange, exchange_of}
use Rattle.pr_truss_laws.specs.Sent.{sends}
use Rattle.pr_function_laws.proofs.OrdinaryTruss.OrdinaryCalls.{stands-sends}
use Rattle.pr_function_laws.proofs.OrdinaryTruss.OrdinaryEntries as entries
use Rattle.pr_function_laws.proofs.OrdinaryTruss.OrdinaryEntries.{along}
use Rattle.pr_function_laws.proofs.OrdinaryTruss.OrdinaryExchanges.{IsFit, Turn, goes_on, goes_out}
use Rattle.pr_function_laws.proofs.OrdinaryTruss.OrdinaryFiles.{Follows}
use Rattle.pr_function_laws.proofs.OrdinaryTruss.OrdinaryReplies.{at-ordinary, first-ordinary}
use Rattle.pr_function_laws.specs.LineTexts.{HasItsTextIn, HaveTheirTextsIn, IsTextLost, IsTextRead, lost, read, unasked}
use Rattle.pr_function_laws.specs.Opened.{IsFunctionRun, functions_at}
use Rattle.pr_function_laws.specs.Ordinary.{IsLike, IsTakenUp, OwnFaultRead, PlantsLater, SeesTo, in_place, lifts_again, ordinary, ordinary_among, own_fault, plants_again, refused, same}
use Rattle.pr_function_laws.specs.Runs.{functions_after}

-- The text that truss with calls of functions reports with an event is what stood in the memory of its process when it
-- read it.

-- ---- where truss came to the text of a report

-- Behind these entries truss, without calls, is to read this memory for the line of an event of a process.
pub record IsAtText (k : ℕ) (o : Options) (pid : ℕ) (l : LwpStatus) (from len : ℕ) (before : List Entry)
    : Type 0 where
  pub place : ℕ
  pub at : (ordinary (functions_at k o before)).stage ≡ ReadingText place l from len
  pub of : pid ≡ (traced_at (ordinary (functions_at k o before)) place).pid

-- In this entry a patch of it is refused, since the process has ended.
pub record IsLostPatch (k : ℕ) (o : Options) (entry : Entry) : Type 0 where
  pub call : Call
  pub control : ℕ
  pub patch : PlantsLater o control call
  pub is : exchange_of k entry ≡ Some (record { call = call; reply = reply.Fail Noent })

-- the text of a report of an event, with that
pub data IsTextThere (k : ℕ) (o : Options) (s : TracedState) (h : List Entry) (earlier : List Report) (pid : ℕ)
    (l : LwpStatus) (text : Came) : Type 0 where
  none_asked : range_asked o l ≡ None → text ≡ None → IsTextThere k o s h earlier pid l text
  read_there : (from len : ℕ) → range_asked o l ≡ Some (from, len)
      → (m : IsTextRead k o pid from len s h earlier text) → IsAtText k o pid l from len m.before
      → IsTextThere k o s h earlier pid l text
  lost_there : (from len : ℕ) → range_asked o l ≡ Some (from, len)
      → (m : IsTextLost k o pid s h earlier text) → IsAtText k o pid l from len m.before
      → IsLostPatch k o m.entry → IsTextThere k o s h earlier pid l text

abbrev pub HasTextThere : ℕ → Options → TracedState → List Entry → List Report → Report → Type 0
HasTextThere k o s h earlier (report.CannotStart program errno) = Unit {0}
HasTextThere k o s h earlier (report.CannotTrace pid errno) = Unit {0}
HasTextThere k o s h earlier (report.Event pid l text) = IsTextThere k o s h earlier pid l text
HasTextThere k o s h earlier (report.Called pid lwp function arguments) = Unit {0}

pub record HaveTextsThere (k : ℕ) (o : Options) (s : TracedState) (h : List Entry)
    (reports : List Report) : Type 0 where
  pub each : (earlier later : List Report) (x : Report) → reports ≡ earlier ++ x ∷ later
      → HasTextThere k o s h earlier x

-- ---- one report more

push-cases : (base earlier later : List Report) (x y : Report) → base ++ x ∷ [] ≡ earlier ++ y ∷ later
    → ((earlier ≡ base) × (y ≡ x)) ⊎ ((rest : List Report) × (base ≡ earlier ++ y ∷ rest))
push-cases [] [] later x y is = inl (refl, cc)
push-cases [] (z ∷ earlier) later x y is =
    absurd (omega (arith, ap (λ (rs : List Report). length rs) is, length-append earlier (y ∷ later)))
push-cases (b ∷ base) [] later x y is = let first : b ≡ y = cc in inr (base, ap (λ (r : Report). r ∷ base) first)
push-cases (b ∷ base) (z ∷ earlier) later x y is =
    let first : b ≡ z = cc in
    let rest : base ++ x ∷ [] ≡ earlier ++ y ∷ later = cc in
    elim (push-cases base earlier later x y rest) [
      | inl new ↦ inl (ap (λ (r : Report). r ∷ earlier) (sym first) ∙ ap (λ (rs : List Report). b ∷ rs) new.0, new.1)
      | inr old ↦ inr (old.0, ap (λ (r : Report). r ∷ base) first ∙ ap (λ (rs : List Report). z ∷ rs) old.1)
    ]

module _ (k : ℕ) (o : Options) (s : TracedState) (h : List Entry) where
  none-reported : HaveTextsThere k o s h []
  none-reported = record {
    each = λ earlier later x is. absurd
        (omega (arith, ap (λ (rs : List Report). length rs) is, length-append earlier (x ∷ later)));
  }

  more-reported : (base : List Report) (x : Report) → HaveTextsThere k o s h base → HasTextThere k o s h base x
      → HaveTextsThere k o s h (base ++ x ∷ [])
  more-reported base x w has = record {
    each = λ earlier later y is. elim (push-cases base earlier later x y is) [
      | inl new ↦ subst (λ rs. HasTextThere k o s h rs y) (sym new.0)
          (subst (HasTextThere k o s h base) (sym new.1) has)
      | inr old ↦ w.each earlier old.0 y old.1
    ];
  }

-- ---- a longer history

module _ (k : ℕ) (o : Options) (s : TracedState) (h : List Entry) (e : Entry) where
  still-read : (pid from len : ℕ) (earlier : List Report) (text : Came)
      → IsTextRead k o pid from len s h earlier text → IsTextRead k o pid from len s (h ++ e ∷ []) earlier text
  still-read pid from len earlier text m = record {
    before = m.before;
    entry = m.entry;
    later = m.later ++ e ∷ [];
    is =
        ap (λ (es : List Entry). es ++ e ∷ []) m.is ∙ append_assoc m.before (m.entry ∷ m.later) (e ∷ []);
    handle = m.handle;
    reply = m.reply;
    reads = m.reads;
    reported = m.reported;
    has = m.has;
    stood = m.stood;
  }

  still-lost : (pid : ℕ) (earlier : List Report) (text : Came) → IsTextLost k o pid s h earlier text
      → IsTextLost k o pid s (h ++ e ∷ []) earlier text
  still-lost pid earlier text m = record {
    before = m.before;
    entry = m.entry;
    later = m.later ++ e ∷ [];
    is =
        ap (λ (es : List Entry). es ++ e ∷ []) m.is ∙ append_assoc m.before (m.entry ∷ m.later) (e ∷ []);
    reported = m.reported;
    told = m.told;
    none = m.none;
  }

  still-text : (earlier : List Report) (x : Report) → HasTextThere k o s h earlier x
      → HasTextThere k o s (h ++ e ∷ []) earlier x
  unfolding still-read still-lost
  still-text earlier (report.CannotStart program errno) has = tt
  still-text earlier (report.CannotTrace pid errno) has = tt
  still-text earlier (report.Event pid l text) (none_asked none empty) = none_asked none empty
  still-text earlier (report.Event pid l text) (read_there from len asked m at) =
      read_there from len asked (still-read pid from len earlier text m) at
  still-text earlier (report.Event pid l text) (lost_there from len asked m at patch) =
      lost_there from len asked (still-lost pid earlier text m) at patch
  still-text earlier (report.Called pid lwp function arguments) has = tt

  still-texts : (reports : List Report) → HaveTextsThere k o s h reports
      → HaveTextsThere k o s (h ++ e ∷ []) reports
  still-texts reports w = record { each = λ earlier later x is. still-text earlier x (w.each earlier later x is) }

-- ---- how an exchange stands to one of a truss without calls of functions

data HowLike (t : TrussState) (x y : Exchange) : Type 0 where
  as_same : x ≡ y → HowLike t x y
  as_message : sends y.call ≡ true → HowLike t x y
  as_refused : (c : Call) (errno : Errno) → x ≡ record { call = c; reply = reply.Fail errno }
      → y.reply ≡ reply.Fail errno → SeesTo t t.stage c → IsTakenUp t.stage errno → HowLike t x y
  as_own : OwnFaultRead t x.reply t.stage → HowLike t x y

how-like : (t : TrussState) (x y : Exchange) → IsLike t x y → HowLike t x y
how-like t x y (same unsent none_own) = as_same refl
how-like t x y (in_place stands) = let sent = stands-sends stands in as_message sent.1
how-like t x y (refused {c = c} {errno = errno} sees may is) = as_refused c errno refl refl sees may
how-like t x y (own_fault own) = as_own own

-- ---- one entry

-- what truss without calls has reported has its texts, and it reads what it is to read
record KeepsTexts (k : ℕ) (o : Options) (s : TracedState) (h : List Entry) (u : TrussState) : Type 0 where
  texts : HaveTextsThere k o s h u.reports
  asks : AsksItsRange o u.stage

later-goes : {o : Options} {control : ℕ} {c : Call} → PlantsLater o control c → goes_to c ≡ Some control
later-goes (plants_again below) = refl
later-goes (lifts_again below) = refl

no-text : (len : ℕ) (errno : Errno) → text_of len (bytes_in (reply.Fail errno)) ≡ None
unfolding bytes_in
no-text len errno = refl

module _ (n k : ℕ) (o : Options) (s : TracedState) (before later : List Entry) (e : Entry)
    (run : IsFunctionRun n k o s (before ++ e ∷ later)) where
  abbrev t : TrussState
  t = functions_at k o before

  abbrev u : TrussState
  u = ordinary t

  abbrev now : TracedState
  now = state_after s before

  abbrev then : List Entry
  then = before ++ e ∷ []

  follows : Follows k o t now
  follows = entries.follows n k o s before later e run

  reached : Reaches k u now
  reached = let w = follows in w.reaches

  fit : IsFit o t
  fit = let w = follows in w.fit

  files : HasFiles k u now
  files = let g = reached in g.files

  fits : Fits u.traced u.stage
  fits = let g = reached in let owns : Owns k u now = g.owns in owns.fits

  legal : IsLegalEntry n now e
  legal = let l : IsLegal n now (e ∷ later) = legal-rest n s before (e ∷ later) run.legal in l.0

  module _ (w : KeepsTexts k o s before u) where
    kept : HaveTextsThere k o s then u.reports
    kept = still-texts k o s before e u.reports w.texts

    module _ (x : Exchange) (own : exchange_of k e ≡ Some x) (y : Exchange) (like : IsLike t x y)
        (called : next_call_of u ≡ Some y.call) where
      -- ---- memory is read

      module _ (pid : ℕ) (l : LwpStatus) (text : Came) (place from len : ℕ)
          (at : u.stage ≡ ReadingText place l from len) (of : pid ≡ (traced_at u place).pid)
          (came : text ≡ text_of len (bytes_in y.reply)) where
        abbrev handle : ℕ
        handle = number_of (traced_at u place).memory

        there : IsAtText k o pid l from len before
        there = record { place = place; at = at; of = of }

        asked : range_asked o l ≡ Some (from, len)
        asked = subst (AsksItsRange o) at w.asks

        memory-call : y.call ≡ call.Read handle from len
        unfolding next_call_of call_of
        memory-call = same_Some y.call (call.Read handle from len) (sym called ∙ ap (call_of u) at)

        memory-file : IsFileOf k now (traced_at u place).pid handle Mem Read
        memory-file = memory-read k u now files fits place l from len at

        -- the read itself
        as-read : x ≡ y → IsTextRead k o pid from len s then u.reports text
        as-read is =
            let a : IsAnswered k now x = exchange-answered n k now e x legal own in
            let x_call : x.call ≡ call.Read handle from len = ap (λ (z : Exchange). z.call) is ∙ memory-call in
            let f = memory-file in
            let answer : answer_to now k (call.Read handle from len) ≡ Some a.answer =
            subst (λ c. answer_to now k c ≡ Some a.answer) x_call a.is in
            let gave : x.reply ≡ file_read now.system (traced_at u place).pid 0 from len Mem =
            sym a.reply ∙ ap (λ (z : Answer). z.reply) (read-is now k handle from len a.answer answer)
            ∙ held-is now k handle from len (held_by k (traced_at u place).pid 0 Mem Read) Mem f.is refl refl in
            record {
              before = before;
              entry = e;
              later = [];
              is = refl;
              handle = handle;
              reply = x.reply;
              reads = own ∙ ap (λ (c : Call). Some (record { call = c; reply = x.reply })) x_call;
              reported = refl;
              has = record { held = _; there = f.is; of = sym of; file = refl };
              stood =
                  came ∙ ap (λ (z : Exchange). text_of len (bytes_in z.reply)) (sym is)
                  ∙ ap (λ r. text_of len (bytes_in r))
                  (gave ∙ ap (λ p. file_read now.system p 0 from len Mem) (sym of));
            }

        -- or the process had ended before it
        as-lost : (c : Call) (errno : Errno) → x ≡ record { call = c; reply = reply.Fail errno }
            → y.reply ≡ reply.Fail errno → SeesTo t (ReadingText place l from len) c → errno ≡ Noent
            → IsTextLost k o pid s then u.reports text
        as-lost c errno is failed sees gone =
            let f : IsFileOf k now (traced_at u place).pid (traced_at u place).control Ctl WriteExcl =
            files.control place (subst (Fits u.traced) at fits) in
            let same_control : (traced_at u place).control ≡ (traced_at t place).control =
            ap (λ (z : Traced). z.control) (at-ordinary t place) in
            record {
              before = before;
              entry = e;
              later = [];
              is = refl;
              reported = refl;
              told = record {
                call = c;
                handle = (traced_at u place).control;
                held = _;
                is =
                    own ∙ ap (λ (z : Exchange). Some z) is
                    ∙ ap (λ n. Some (record { call = c; reply = reply.Fail n })) gone;
                goes = later-goes sees ∙ ap (λ m. Some m) (sym same_control);
                there = f.is;
                of = sym of;
              };
              none = came ∙ ap (λ r. text_of len (bytes_in r)) failed ∙ no-text len errno;
            }

        lost-patch : (c : Call) (errno : Errno) → x ≡ record { call = c; reply = reply.Fail errno }
            → SeesTo t (ReadingText place l from len) c → errno ≡ Noent → IsLostPatch k o e
        lost-patch c errno is sees gone =
            let w = fit in
            record {
              call = c;
              control = (traced_at t place).control;
              patch = subst (λ opts. PlantsLater opts (traced_at t place).control c) w.options sees;
              is =
                  own ∙ ap (λ (z : Exchange). Some z) is
                  ∙ ap (λ n. Some (record { call = c; reply = reply.Fail n })) gone;
            }

        stage-has : HowLike t x y → IsTextThere k o s then u.reports pid l text
        unfolding as-read as-lost
        stage-has (as_same is) = read_there from len asked (as-read is) there
        stage-has (as_message sent) = absurd (false≢true (ap sends (sym memory-call) ∙ sent))
        stage-has (as_refused c errno is failed sees may) =
            lost_there from len asked
            (as-lost c errno is failed (subst (λ stage. SeesTo t stage c) at sees)
            (subst (λ stage. IsTakenUp stage errno) at may)) there
            (lost-patch c errno is (subst (λ stage. SeesTo t stage c) at sees)
            (subst (λ stage. IsTakenUp stage errno) at may))
        stage-has (as_own own_told) = absurd (subst (OwnFaultRead t x.reply) at own_told)

      event-has : (pid : ℕ) (l : LwpStatus) (text : Came) → IsToldEvent o u y.reply pid l text
          → IsTextThere k o s then u.reports pid l text
      event-has pid l text (silent none empty) = none_asked none empty
      event-has pid l text (told place from len at of came) = stage-has pid l text place from len at of came
          (how-like t x y like)

      told-has : (r : Report) → IsTold o u y.reply r → HasTextThere k o s then u.reports r
      told-has (report.CannotStart program errno) is = tt
      told-has (report.CannotTrace pid errno) is = tt
      told-has (report.Event pid l text) is = event-has pid l text is
      told-has (report.Called pid lwp function arguments) is = tt

      grown-has : (reports : List Report) → Grows o u y.reply reports → HaveTextsThere k o s then reports
      grown-has reports (as_before still) = subst (HaveTextsThere k o s then) (sym still) kept
      grown-has reports (one_more r is new) =
          subst (HaveTextsThere k o s then) (sym is) (more-reported k o s then u.reports r kept (told-has r new))

      fed-keeps : KeepsTexts k o s then (fed u y.reply)
      fed-keeps =
          let f = fit in
          let c : Goes o u y.reply (fed u y.reply) = fed-goes o u y.reply f.options in
          record {
            texts = grown-has (fed u y.reply).reports c.reports;
            asks = asks-range o u (fed u y.reply).reports (fed u y.reply).stage c.asks;
          }

    turn-keeps : (x : Exchange) → exchange_of k e ≡ Some x → Turn t x
        → KeepsTexts k o s then (ordinary (fed_functions t x.reply))
    turn-keeps x own (goes_out sees passes stay) =
        subst (KeepsTexts k o s then) (sym stay) (record { texts = kept; asks = w.asks })
    turn-keeps x own (goes_on y like called is) =
        subst (KeepsTexts k o s then) (sym is) (fed-keeps x own y like called)

    entry-keeps : KeepsTexts k o s then (ordinary (functions_at k o then))
    entry-keeps = by (exchange_of k e) refl
      where
        by : (x : Option Exchange) → exchange_of k e ≡ x → KeepsTexts k o s then (ordinary (functions_at k o then))
        by None own =
            subst (λ z. KeepsTexts k o s then (ordinary z)) (sym (entries.unmoved n k o s before later e run own))
            (record { texts = kept; asks = w.asks })
        by (Some x) own =
            subst (λ z. KeepsTexts k o s then (ordinary z)) (sym (entries.pushed n k o s before later e run x own))
            (turn-keeps x own (entries.turned n k o s before later e run x own))

-- ---- along a history

first-keeps : (k : ℕ) (o : Options) (s : TracedState) → KeepsTexts k o s [] (ordinary (functions_at k o []))
first-keeps k o s =
    let first = first-silent o in
    let at : first_truss o ≡ ordinary (functions_at k o []) =
    sym (ap (λ xs. ordinary (functions_after (first_truss o) xs)) (no-exchanges k) ∙ first-ordinary o) in
    subst (KeepsTexts k o s []) at (record {
      texts = subst (HaveTextsThere k o s []) (sym first.reports) (none-reported k o s []);
      asks = first.asks;
    })

pub have-texts-there : (n k : ℕ) (o : Options) (s : TracedState) (h : List Entry) → IsFunctionRun n k o s h
    → HaveTextsThere k o s h (ordinary_among (functions_at k o h).reports)
have-texts-there n k o s h run =
    let w =
    along (λ front. KeepsTexts k o s front (ordinary (functions_at k o front))) (first-keeps k o s) h
    (λ before later e is w. entry-keeps n k o s before later e (subst (IsFunctionRun n k o s) is run) w) in
    w.texts

its-text : (k : ℕ) (o : Options) (s : TracedState) (h : List Entry) (earlier : List Report) (x : Report)
    → HasTextThere k o s h earlier x → HasItsTextIn k o s h earlier x
its-text k o s h earlier (report.CannotStart program errno) has = tt
its-text k o s h earlier (report.CannotTrace pid errno) has = tt
its-text k o s h earlier (report.Event pid l text) (none_asked none empty) = unasked none empty
its-text k o s h earlier (report.Event pid l text) (read_there from len asked m at) = read from len asked m
its-text k o s h earlier (report.Event pid l text) (lost_there from len asked m at patch) = lost from len asked m
its-text k o s h earlier (report.Called pid lwp function arguments) has = tt

pub have-their-texts : (n k : ℕ) (o : Options) (s : TracedState) (h : List Entry) → IsFunctionRun n k o s h
    → HaveTheirTextsIn k o s h (ordinary_among (functions_at k o h).reports)
have-their-texts n k o s h run =
    let w = have-texts-there n k o s h run in
    record { each = λ earlier later x is. its-text k o s h earlier x (w.each earlier later x is) }

pub ruleset texts = (have-their-texts)
