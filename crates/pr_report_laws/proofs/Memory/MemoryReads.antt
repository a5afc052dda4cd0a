use Rattle.std.proofs.Common.{◌≡◌, ◌⊎◌, ◌==◌, ◌++◌, ℕ, Bool, true, false, cond, Option, Some, None, List, [], ◌∷◌, length, refl, sym, subst, ap, ◌∙◌, append_assoc, arith, inl, inr}
use Rattle.std.proofs.lemmas.Bool.{eqb-true}
use Rattle.std.proofs.lemmas.List.{append-nil, length-append}
use Rattle.std.proofs.lemmas.Option.{none-some, same_Some}
use Rattle.pr_api.specs.Entries.{call_entry}
use Rattle.pr_line.specs.ArgumentTexts.{Came}
use Rattle.pr_line.specs.declared.options.Options.{Options}
use Rattle.pr_model.proofs.HistoryLemmas.{state_after-push}
use Rattle.pr_model.specs.Calls.{Answer, answer_to}
use Rattle.pr_model.specs.Handles.{handle_of}
use Rattle.pr_model.specs.Legal.{IsLegal, IsLegalEntry, after, state_after}
use Rattle.pr_model.specs.Reads.{file_read}
use Rattle.pr_model.specs.Replies.{bytes_in, number_of}
use Rattle.pr_model.specs.State.{TracedState}
use Rattle.pr_model.specs.declared.calls.Call.{Call}
use Rattle.pr_model.specs.declared.calls.Call.TheVariants as call
use Rattle.pr_model.specs.declared.calls.File.TheVariants.{Mem}
use Rattle.pr_model.specs.declared.calls.Mode.TheVariants.{Read}
use Rattle.pr_model.specs.declared.calls.Reply.{Reply}
use Rattle.pr_model.specs.declared.events.Act.{Act}
use Rattle.pr_model.specs.declared.events.Act.TheVariants as act
use Rattle.pr_model.specs.declared.events.Actor.{Actor}
use Rattle.pr_model.specs.declared.events.Actor.TheVariants.{Controller, Lwp, Clock}
use Rattle.pr_model.specs.declared.events.Entry.{Entry}
use Rattle.pr_model.specs.declared.handles.Held.{Held}
use Rattle.pr_rec.specs.declared.lwps.LwpStatus.{LwpStatus}
use Rattle.pr_truss.specs.Feeding.{fed}
use Rattle.pr_truss.specs.NextCalls.{call_of, next_call_of}
use Rattle.pr_truss.specs.Stops.{text_of}
use Rattle.pr_truss.specs.Trusses.{TrussState, first_truss, traced_at}
use Rattle.pr_truss.specs.declared.reports.Report.{Report}
use Rattle.pr_truss.specs.declared.reports.Report.TheVariants as report
use Rattle.pr_truss.specs.declared.stages.Stage.TheVariants.{ReadingText}
use Rattle.pr_truss_laws.proofs.Files.OpensLemmas.{held_by}
use Rattle.pr_truss_laws.proofs.Files.OwnLemmas.{Owns}
use Rattle.pr_truss_laws.specs.Exchanges.{Exchange, Makes, exchange_in, exchange_of, exchanges, truss_after, truss_at}
use Rattle.pr_truss_laws.specs.Runs.{IsTrussRun}
use Rattle.pr_report_laws.proofs.Files.FileSteps.{MakesNext, makes-next}
use Rattle.pr_report_laws.proofs.Files.FileUses.{memory-read}
use Rattle.pr_truss_laws.proofs.Replies.OptionLemmas.{fed-options}
use Rattle.pr_report_laws.proofs.Machine.RecordLaws.{held-is, read-is}
use Rattle.pr_report_laws.proofs.Replies.TextReports.{AsksItsRange, Grows, IsTold, IsToldEvent, as_before, asks-range, fed-goes, first-silent, one_more, silent, told}
use Rattle.pr_report_laws.proofs.Files.WatchHistories.{IsAnswered, Reaches, after-cons, cons-exchanges, entry-reaches, exchange-answered, first-reaches, no-exchanges, truss_at-push}
use Rattle.pr_report_laws.specs.Memories.{HasItsText, HaveTheirTexts, IsMemoryRead, IsTextOf, read, unasked}
use Rattle.pr_report_laws.specs.Watching.{fed_by_entry, with_exchange}

-- The text that is reported with an event is what stood in the memory of its process when truss read it.

-- ---- the entry of a call

-- the entry of an exchange is that of its call
called-by : (k by : ℕ) (c : Call) (r : Reply) (x : Exchange) (mine : Bool) → (by == k) ≡ mine
    → cond {A = Option Exchange} mine (Some (record { call = c; reply = r })) None ≡ Some x
    → record { actor = Controller by; act = act.Call c r } ≡ call_entry k x.call x.reply
called-by k by c r x true own is =
    ap (λ m. call_entry m c r) (eqb-true by k own)
    ∙ ap (λ (y : Exchange). call_entry k y.call y.reply) (same_Some _ x is)
called-by k by c r x false own is = absurd (none-some x is)

acted-by : (k : ℕ) (actor : Actor) (did : Act) (x : Exchange) → exchange_in k actor did ≡ Some x
    → record { actor = actor; act = did } ≡ call_entry k x.call x.reply
acted-by k (Controller by) (act.Call c r) x is = called-by k by c r x (by == k) refl is
acted-by k (Controller by) (act.Turn did) x is = absurd (none-some x is)
acted-by k (Controller by) (act.Tick moment) x is = absurd (none-some x is)
acted-by k (Lwp p l) did x is = absurd (none-some x is)
acted-by k Clock did x is = absurd (none-some x is)

pub entry-is : (k : ℕ) (e : Entry) (x : Exchange) → exchange_of k e ≡ Some x → e ≡ call_entry k x.call x.reply
entry-is k e x is = acted-by k e.actor e.act x is

-- ---- the read of memory

module _ (k : ℕ) (t : TrussState) (s : TracedState) (x : Exchange) (g : Reaches k t s)
    (next : next_call_of t ≡ Some x.call) (y : IsAnswered k s x) (place : ℕ) (l : LwpStatus) (from len : ℕ)
    (is : t.stage ≡ ReadingText place l from len) where
  abbrev handle : ℕ
  handle = number_of (traced_at t place).memory

  -- the file that truss reads
  abbrev mine : Held
  mine = held_by k (traced_at t place).pid 0 Mem Read

  memory-call : x.call ≡ call.Read handle from len
  unfolding next_call_of call_of
  memory-call = same_Some x.call (call.Read handle from len) (sym next ∙ ap (call_of t) is)

  memory-held : handle_of s.opens k handle ≡ Some mine
  memory-held =
      let owns : Owns k t s = g.owns in
      let f = memory-read k t s g.files owns.fits place l from len is in
      f.is

  memory-reply : x.reply ≡ file_read s.system (traced_at t place).pid 0 from len Mem
  memory-reply =
      let answer : answer_to s k (call.Read handle from len) ≡ Some y.answer =
      subst (λ c. answer_to s k c ≡ Some y.answer) memory-call y.is in
      sym y.reply ∙ ap (λ (a : Answer). a.reply) (read-is s k handle from len y.answer answer)
      ∙ held-is s k handle from len mine Mem memory-held refl refl

-- ---- one report more

push-cases : (base earlier later : List Report) (x y : Report) → base ++ x ∷ [] ≡ earlier ++ y ∷ later
    → ((earlier ≡ base) × (y ≡ x)) ⊎ ((rest : List Report) × (base ≡ earlier ++ y ∷ rest))
push-cases [] [] later x y is = inl (refl, cc)
push-cases [] (z ∷ earlier) later x y is =
    absurd (omega (arith, ap (λ (rs : List Report). length rs) is, length-append earlier (y ∷ later)))
push-cases (b ∷ base) [] later x y is = let first : b ≡ y = cc in inr (base, ap (λ (r : Report). r ∷ base) first)
push-cases (b ∷ base) (z ∷ earlier) later x y is =
    let first : b ≡ z = cc in
    let rest : base ++ x ∷ [] ≡ earlier ++ y ∷ later = cc in
    elim (push-cases base earlier later x y rest) [
      | inl new ↦ inl (ap (λ (r : Report). r ∷ earlier) (sym first) ∙ ap (λ (rs : List Report). b ∷ rs) new.0, new.1)
      | inr old ↦ inr (old.0, ap (λ (r : Report). r ∷ base) first ∙ ap (λ (rs : List Report). z ∷ rs) old.1)
    ]

module _ (k : ℕ) (o : Options) (s : TracedState) (h : List Entry) where
  none-reported : HaveTheirTexts k o s h []
  none-reported =
      record {
        each = λ earlier later x is. absurd
            (omega (arith, ap (λ (rs : List Report). length rs) is, length-append earlier (x ∷ later)));
      }

  more-reported : (base : List Report) (x : Report) → HaveTheirTexts k o s h base → HasItsText k o s h base x
      → HaveTheirTexts k o s h (base ++ x ∷ [])
  more-reported base x w has = record {
    each = λ earlier later y is. elim (push-cases base earlier later x y is) [
      | inl new ↦ subst (λ rs. HasItsText k o s h rs y) (sym new.0) (subst (HasItsText k o s h base) (sym new.1) has)
      | inr old ↦ w.each earlier old.0 y old.1
    ];
  }

-- ---- a longer history

module _ (k : ℕ) (o : Options) (s : TracedState) (h : List Entry) (e : Entry) where
  still-read : (pid from len : ℕ) (earlier : List Report) (text : Came)
      → IsMemoryRead k o pid from len s h earlier text → IsMemoryRead k o pid from len s (h ++ e ∷ []) earlier text
  still-read pid from len earlier text m = record {
    before = m.before;
    handle = m.handle;
    reply = m.reply;
    later = m.later ++ e ∷ [];
    is =
        ap (λ (es : List Entry). es ++ e ∷ []) m.is
        ∙ append_assoc m.before (call_entry k (call.Read m.handle from len) m.reply ∷ m.later) (e ∷ []);
    reported = m.reported;
    held = m.held;
    there = m.there;
    of = m.of;
    file = m.file;
    stood = m.stood;
  }

  still-text : (earlier : List Report) (x : Report) → HasItsText k o s h earlier x
      → HasItsText k o s (h ++ e ∷ []) earlier x
  still-text earlier (report.CannotStart program errno) has = tt
  still-text earlier (report.CannotTrace pid errno) has = tt
  still-text earlier (report.Event pid l text) (unasked none empty) = unasked none empty
  still-text earlier (report.Event pid l text) (read from len asked m) =
      read from len asked (still-read pid from len earlier text m)
  still-text earlier (report.Called pid lwp function arguments) has = tt

  still-texts : (reports : List Report) → HaveTheirTexts k o s h reports → HaveTheirTexts k o s (h ++ e ∷ []) reports
  still-texts reports w = record { each = λ earlier later x is. still-text earlier x (w.each earlier later x is) }

-- ---- along a history

-- This is truss after the history; what it has reported has its texts, and it reads what it is to read.
record KeepsTexts (k : ℕ) (o : Options) (s : TracedState) (h : List Entry) (t : TrussState) : Type 0 where
  pub at : truss_at k o h ≡ t
  pub options : t.options ≡ o
  pub texts : HaveTheirTexts k o s h t.reports
  pub asks : AsksItsRange o t.stage

same-keeps : (k : ℕ) (o : Options) (s : TracedState) (h j : List Entry) (t u : TrussState) → h ≡ j → t ≡ u
    → KeepsTexts k o s h t → KeepsTexts k o s j u
same-keeps k o s h j t u history truss w =
    subst (KeepsTexts k o s j) truss (subst (λ x. KeepsTexts k o s x t) history w)

module _ (n k : ℕ) (o : Options) (s : TracedState) (h : List Entry) (e : Entry) (t : TrussState)
    (g : Reaches k t (state_after s h)) (legal : IsLegalEntry n (state_after s h) e) (w : KeepsTexts k o s h t) where
  kept : HaveTheirTexts k o s (h ++ e ∷ []) t.reports
  kept = still-texts k o s h e t.reports w.texts

  -- a call of truss
  module _ (x : Exchange) (its : exchange_of k e ≡ Some x) (next : next_call_of t ≡ Some x.call) where
    event-has : (pid : ℕ) (l : LwpStatus) (text : Came) → IsToldEvent o t x.reply pid l text
        → IsTextOf k o s (h ++ e ∷ []) t.reports pid l text
    event-has pid l text (silent none empty) = unasked none empty
    event-has pid l text (told place from len is of came) =
        let y = exchange-answered n k (state_after s h) e x legal its in
        let asked : AsksItsRange o (ReadingText place l from len) = subst (AsksItsRange o) is w.asks in
        let answered = memory-reply k t (state_after s h) x g next y place l from len is in
        read from len asked
        (record {
          before = h;
          handle = number_of (traced_at t place).memory;
          reply = x.reply;
          later = [];
          is =
              ap (λ (d : Entry). h ++ d ∷ []) (entry-is k e x its
              ∙ ap (λ (c : Call). call_entry k c x.reply)
              (memory-call k t (state_after s h) x g next y place l from len is));
          reported = ap (λ (u : TrussState). u.reports) w.at;
          held = held_by k (traced_at t place).pid 0 Mem Read;
          there = memory-held k t (state_after s h) x g next y place l from len is;
          of = sym of;
          file = refl;
          stood =
              came ∙ ap (λ r. text_of len (bytes_in r)) (answered
              ∙ ap (λ p. file_read (state_after s h).system p 0 from len Mem) (sym of));
        })

    told-has : (r : Report) → IsTold o t x.reply r → HasItsText k o s (h ++ e ∷ []) t.reports r
    told-has (report.CannotStart program errno) is = tt
    told-has (report.CannotTrace pid errno) is = tt
    told-has (report.Event pid l text) is = event-has pid l text is
    told-has (report.Called pid lwp function arguments) is = tt

    grown-has : (reports : List Report) → Grows o t x.reply reports → HaveTheirTexts k o s (h ++ e ∷ []) reports
    grown-has reports (as_before same) = subst (HaveTheirTexts k o s (h ++ e ∷ [])) (sym same) kept
    grown-has reports (one_more r is new) =
        subst (HaveTheirTexts k o s (h ++ e ∷ [])) (sym is)
        (more-reported k o s (h ++ e ∷ []) t.reports r kept (told-has r new))

  still-at : truss_at k o (h ++ e ∷ []) ≡ fed_by_entry k t e
  still-at = truss_at-push k o h e ∙ ap (λ (u : TrussState). fed_by_entry k u e) w.at

  signalled-keeps : (x : Option Exchange) → exchange_of k e ≡ x → MakesNext t x
      → truss_at k o (h ++ e ∷ []) ≡ with_exchange t x → KeepsTexts k o s (h ++ e ∷ []) (with_exchange t x)
  signalled-keeps None its next at = record { at = at; options = w.options; texts = kept; asks = w.asks }
  signalled-keeps (Some x) its next at =
      let c = fed-goes o t x.reply w.options in
      record {
        at = at;
        options = fed-options t x.reply ∙ w.options;
        texts = grown-has x its next (fed t x.reply).reports c.reports;
        asks = asks-range o t (fed t x.reply).reports (fed t x.reply).stage c.asks;
      }

  entry-keeps : MakesNext t (exchange_of k e) → KeepsTexts k o s (h ++ e ∷ []) (fed_by_entry k t e)
  entry-keeps next = signalled-keeps (exchange_of k e) refl next still-at

later-keeps : (h : List Entry) (n k : ℕ) (o : Options) (s : TracedState) (past : List Entry) (t : TrussState)
    → Reaches k t (state_after s past) → IsLegal n (state_after s past) h → Makes t (exchanges k h)
    → KeepsTexts k o s past t → KeepsTexts k o s (past ++ h) (truss_after t (exchanges k h))
later-keeps [] n k o s past t g legal makes w =
    same-keeps k o s past _ t _ (sym (append-nil past)) (sym (ap (truss_after t) (no-exchanges k))) w
later-keeps (e ∷ h) n k o s past t g legal makes w =
    let first = makes-next k t e h makes in
    let now : after (state_after s past) e ≡ state_after s (past ++ e ∷ []) = sym (state_after-push s past e) in
    let reached : Reaches k (fed_by_entry k t e) (state_after s (past ++ e ∷ [])) =
    subst (Reaches k (fed_by_entry k t e)) now (entry-reaches n k t (state_after s past) e g legal.0 first.0) in
    let rest =
    later-keeps h n k o s (past ++ e ∷ []) (fed_by_entry k t e) reached
    (subst (λ (x : TracedState). IsLegal n x h) now legal.1) first.1
    (entry-keeps n k o s past e t g legal.0 w first.0) in
    same-keeps k o s _ _ _ _ (append_assoc past (e ∷ []) h) (sym (ap (truss_after t) (cons-exchanges k e h)
    ∙ after-cons t (exchange_of k e) (exchanges k h))) rest

first-keeps : (k : ℕ) (o : Options) (s : TracedState) → KeepsTexts k o s [] (first_truss o)
first-keeps k o s =
    let first = first-silent o in
    record {
      at = ap (truss_after (first_truss o)) (no-exchanges k);
      options = first.options;
      texts = subst (HaveTheirTexts k o s []) (sym first.reports) (none-reported k o s []);
      asks = first.asks;
    }

pub read-texts : (n k : ℕ) (o : Options) (s : TracedState) (h : List Entry) → IsTrussRun n k o s h
    → HaveTheirTexts k o s h (truss_at k o h).reports
read-texts n k o s h run =
    let w =
    later-keeps h n k o s [] (first_truss o) (first-reaches k o s run.lawful run.nothing_open) run.legal run.makes
    (first-keeps k o s) in
    w.texts

pub ruleset memories = (read-texts)
