use Rattle.std.proofs.Common.{◌≡◌, ◌≢◌, ◌==◌, ℕ, Bool, cond, true, false, Option, Some, None, List, [], ◌∷◌, ◌++◌, refl, sym, subst, ap, ◌∙◌}
use Rattle.std.proofs.lemmas.Bool.{eqb-true}
use Rattle.std.proofs.lemmas.List.Elements.{filter_map-append}
use Rattle.std.proofs.lemmas.Option.{none-some, same_Some}
use Rattle.std.specs.List.{cons_option}
use Rattle.pr_line.specs.declared.options.Options.{Options}
use Rattle.pr_model.proofs.HistoryLemmas.{IsLegal-front, IsLegal-last}
use Rattle.pr_model.specs.Calls.{Answer, answer_to}
use Rattle.pr_model.specs.Lawful.{IsLawful}
use Rattle.pr_model.specs.Legal.{IsLegal, IsLegalEntry, after, state_after}
use Rattle.pr_model.specs.State.{TracedState}
use Rattle.pr_model.specs.declared.calls.Call.{Call}
use Rattle.pr_model.specs.declared.calls.Reply.{Reply}
use Rattle.pr_model.specs.declared.events.Act.{Act}
use Rattle.pr_model.specs.declared.events.Act.TheVariants as act
use Rattle.pr_model.specs.declared.events.Actor.{Actor}
use Rattle.pr_model.specs.declared.events.Actor.TheVariants.{Controller, Lwp, Clock}
use Rattle.pr_model.specs.declared.events.Entry.{Entry}
use Rattle.pr_truss.specs.Replies.{answer_of}
use Rattle.pr_truss.specs.Trusses.{TrussState, first_truss}
use Rattle.pr_truss.specs.declared.replies.Answer.TheVariants.{Interrupted}
use Rattle.pr_truss_laws.proofs.Files.OwnLemmas.{Owns, first-owns}
use Rattle.pr_truss_laws.specs.Exchanges.{Exchange, Makes, exchange_in, exchange_of, exchanges, truss_after, truss_at}
use Rattle.pr_truss_laws.specs.Handles.{HasNothingOpen}
use Rattle.pr_truss_laws.specs.Runs.{IsTrussRun}
use Rattle.pr_report_laws.proofs.Files.FileLaws.{HasFiles}
use Rattle.pr_report_laws.proofs.Files.FileSteps.{IsUninterrupted, MakesNext, entry-files, entry-lawful, entry-owns, first-files, makes-next}
use Rattle.pr_report_laws.proofs.Files.KeepLemmas.{can_wait}
use Rattle.pr_report_laws.proofs.Machine.PollLaws.{never-interrupted}
use Rattle.pr_report_laws.specs.Watching.{fed_by_entry, with_exchange}
pub use Rattle.pr_truss_laws.proofs.Replies.ExchangeLemmas.{after-append, makes-front, makes-rest}

-- Truss along a history: what it was asked and told so far, and that the files that it remembers are its own.

-- ---- exchanges, one after another

-- the exchanges of two histories, one after another
pub exchanges-both : (k : ℕ) (xs ys : List Entry) → exchanges k (xs ++ ys) ≡ exchanges k xs ++ exchanges k ys
unfolding exchanges
exchanges-both k xs ys = filter_map-append (exchange_of k) xs ys

-- the exchanges of a history with one entry more
pub exchanges-push : (k : ℕ) (h : List Entry) (e : Entry)
    → exchanges k (h ++ e ∷ []) ≡ exchanges k h ++ cons_option (exchange_of k e) []
unfolding exchanges
exchanges-push k h e = filter_map-append (exchange_of k) h (e ∷ [])

pub after-one : (t : TrussState) (x : Option Exchange) → truss_after t (cons_option x []) ≡ with_exchange t x
after-one t None = refl
after-one t (Some x) = refl

pub truss_at-push : (k : ℕ) (o : Options) (h : List Entry) (e : Entry)
    → truss_at k o (h ++ e ∷ []) ≡ fed_by_entry k (truss_at k o h) e
truss_at-push k o h e =
    ap (truss_after (first_truss o)) (exchanges-push k h e)
    ∙ after-append (first_truss o) (exchanges k h) (cons_option (exchange_of k e) [])
    ∙ after-one (truss_at k o h) (exchange_of k e)

pub makes-one : (t : TrussState) (x : Option Exchange) → Makes t (cons_option x []) → MakesNext t x
makes-one t None makes = tt
makes-one t (Some x) makes = makes.0

-- ---- the machine along with it

pub uninterrupted : (k : ℕ) (s : TracedState) → IsUninterrupted k s
uninterrupted k s = record { calm = λ c a not is. never-interrupted s k c a not is }

-- truss and its state, which is lawful: it has just the files open that it remembers
pub record Reaches (k : ℕ) (t : TrussState) (s : TracedState) : Type 0 where
  pub lawful : IsLawful s
  pub owns : Owns k t s
  pub files : HasFiles k t s

pub first-reaches : (k : ℕ) (o : Options) (s : TracedState) → IsLawful s → HasNothingOpen k s
    → Reaches k (first_truss o) s
first-reaches k o s lawful none = record { lawful = lawful; owns = first-owns k o s none; files = first-files k o s }

pub entry-reaches : (n k : ℕ) (t : TrussState) (s : TracedState) (e : Entry) → Reaches k t s → IsLegalEntry n s e
    → MakesNext t (exchange_of k e) → Reaches k (fed_by_entry k t e) (after s e)
entry-reaches n k t s e r legal next = record {
  lawful = entry-lawful n s e r.lawful legal;
  owns = entry-owns n k t s e r.owns legal next;
  files = entry-files n k t s r.lawful (uninterrupted k s) r.owns r.files e legal next;
}

pub no-exchanges : (k : ℕ) → exchanges k [] ≡ []
unfolding exchanges
no-exchanges k = refl

pub cons-exchanges : (k : ℕ) (e : Entry) (h : List Entry)
    → exchanges k (e ∷ h) ≡ cons_option (exchange_of k e) (exchanges k h)
unfolding exchanges
cons-exchanges k e h = refl

pub after-cons : (t : TrussState) (x : Option Exchange) (xs : List Exchange)
    → truss_after t (cons_option x xs) ≡ truss_after (with_exchange t x) xs
after-cons t None xs = refl
after-cons t (Some x) xs = refl

pub later-reaches : (h : List Entry) (n k : ℕ) (t : TrussState) (s : TracedState) → Reaches k t s → IsLegal n s h
    → Makes t (exchanges k h) → Reaches k (truss_after t (exchanges k h)) (state_after s h)
later-reaches [] n k t s r legal makes = subst (λ xs. Reaches k (truss_after t xs) s) (sym (no-exchanges k)) r
later-reaches (e ∷ h) n k t s r legal makes =
    let m = makes-next k t e h makes in
    subst (λ (u : TrussState). Reaches k u (state_after (after s e) h)) (sym (ap (truss_after t) (cons-exchanges k e h)
    ∙ after-cons t (exchange_of k e) (exchanges k h)))
    (later-reaches h n k (fed_by_entry k t e) (after s e) (entry-reaches n k t s e r legal.0 m.0) legal.1 m.1)

pub run-reaches : (n k : ℕ) (o : Options) (s : TracedState) (h : List Entry) → IsTrussRun n k o s h
    → Reaches k (truss_at k o h) (state_after s h)
run-reaches n k o s h r =
    later-reaches h n k (first_truss o) s (first-reaches k o s r.lawful r.nothing_open) r.legal r.makes

module _ (n k : ℕ) (o : Options) (s : TracedState) (before : List Entry) (e : Entry)
    (r : IsTrussRun n k o s (before ++ e ∷ [])) where
  run-makes : Makes (first_truss o) (exchanges k before ++ cons_option (exchange_of k e) [])
  run-makes = subst (Makes (first_truss o)) (exchanges-push k before e) r.makes

  -- a history without its last entry
  pub run-front : IsTrussRun n k o s before
  run-front = record {
    lawful = r.lawful;
    nothing_open = r.nothing_open;
    legal = IsLegal-front n s before e r.legal;
    makes = makes-front (first_truss o) (exchanges k before) _ run-makes;
  }

  pub run-last : IsLegalEntry n (state_after s before) e
  run-last = IsLegal-last n s before e r.legal

  pub run-next : MakesNext (truss_at k o before) (exchange_of k e)
  run-next =
      makes-one (truss_at k o before) (exchange_of k e) (makes-rest (first_truss o) (exchanges k before) _ run-makes)

  -- the exchange of the last entry stands last
  pub run-pushed : (x : Exchange) → exchange_of k e ≡ Some x
      → exchanges k (before ++ e ∷ []) ≡ exchanges k before ++ x ∷ []
  run-pushed x is = exchanges-push k before e ∙ ap (λ (y : Option Exchange). exchanges k before ++ cons_option y []) is

-- ---- the exchange of an entry

-- it is a call that the machine answered
pub record IsAnswered (k : ℕ) (s : TracedState) (x : Exchange) : Type 0 where
  pub answer : Answer
  pub is : answer_to s k x.call ≡ Some answer
  pub reply : answer.reply ≡ x.reply

answered-by : (n k by : ℕ) (s : TracedState) (c : Call) (r : Reply) (x : Exchange)
    → IsLegalEntry n s (record { actor = Controller by; act = act.Call c r }) → (mine : Bool) → (by == k) ≡ mine
    → cond {A = Option Exchange} mine (Some (record { call = c; reply = r })) None ≡ Some x → IsAnswered k s x
unfolding IsLegalEntry
answered-by n k by s c r x legal true own is =
    let here : IsAnswered k s (record { call = c; reply = r }) = record {
      answer = record { state = legal.1.0; reply = r };
      is = subst (λ m. answer_to s m c ≡ Some (record { state = legal.1.0; reply = r })) (eqb-true by k own) legal.1.1;
      reply = refl;
    } in
    subst (IsAnswered k s) (same_Some _ x is) here
answered-by n k by s c r x legal false own is = absurd (none-some x is)

acted-answered : (n k : ℕ) (s : TracedState) (actor : Actor) (did : Act) (x : Exchange)
    → IsLegalEntry n s (record { actor = actor; act = did }) → exchange_in k actor did ≡ Some x → IsAnswered k s x
acted-answered n k s (Controller by) (act.Call c r) x legal is = answered-by n k by s c r x legal (by == k) refl is
acted-answered n k s (Controller by) (act.Turn did) x legal is = absurd (none-some x is)
acted-answered n k s (Controller by) (act.Tick moment) x legal is = absurd (none-some x is)
acted-answered n k s (Lwp p l) did x legal is = absurd (none-some x is)
acted-answered n k s Clock did x legal is = absurd (none-some x is)

pub exchange-answered : (n k : ℕ) (s : TracedState) (e : Entry) (x : Exchange) → IsLegalEntry n s e
    → exchange_of k e ≡ Some x → IsAnswered k s x
exchange-answered n k s e x legal is = acted-answered n k s e.actor e.act x legal is

-- what does not wait is not interrupted
pub answered-calm : (k : ℕ) (s : TracedState) (x : Exchange) → IsAnswered k s x → can_wait x.call ≡ false
    → answer_of x.reply ≢ Interrupted
answered-calm k s x a waits interrupted =
    never-interrupted s k x.call a.answer waits a.is (ap answer_of a.reply ∙ interrupted)
