use Rattle.std.proofs.Common.{◌≡◌, ◌≢◌, ◌⊎◌, ℕ, Bool, true, false, cond, Option, Some, None, List, [], ◌∷◌, ◌++◌, length, refl, sym, subst, ap, ◌∙◌, arith, append_assoc, inl, inr}
use Rattle.std.proofs.lemmas.List.{append-nil, append_cancel_left, length-append}
use Rattle.std.proofs.lemmas.Option.{none-some}
use Rattle.pr_line.specs.declared.events.Event.{Event}
use Rattle.pr_line.specs.declared.options.Options.{Options}
use Rattle.pr_model.specs.Events.{events_of}
use Rattle.pr_model.specs.Legal.{IsLegalEntry, after, state_after}
use Rattle.pr_model.specs.State.{TracedState}
use Rattle.pr_model.specs.declared.calls.File.{File}
use Rattle.pr_model.specs.declared.calls.File.TheVariants.{Lstatus, Status}
use Rattle.pr_model.specs.declared.events.Actor.{Actor}
use Rattle.pr_model.specs.declared.events.Actor.TheVariants.{Lwp}
use Rattle.pr_model.specs.declared.events.Entry.{Entry}
use Rattle.pr_truss.specs.Trusses.{TrussState, first_truss, traced_at}
use Rattle.pr_truss_laws.proofs.Files.OwnLemmas.{Owns}
use Rattle.pr_truss_laws.specs.Exchanges.{Exchange, exchange_in, exchange_of, exchanges, truss_after}
use Rattle.pr_report_laws.specs.ReachedRuns.{IsReachedTrussRun}
use Rattle.pr_report_laws.proofs.Invariant.Tallies.{Tally, told_in}
use Rattle.pr_report_laws.proofs.Invariant.AnsweredReads.{read-whole, tells_event}
use Rattle.pr_report_laws.proofs.Invariant.EntrySteps.{EndsByKill, Lost}
use Rattle.pr_report_laws.proofs.Files.FileSteps.{MakesNext, makes-next}
use Rattle.pr_report_laws.proofs.Machine.FrameLaws.{no-events}
use Rattle.pr_report_laws.proofs.Invariant.HistoryLaw.{Along, OpensAtBirth, after-next, along-next, first-along, first_tally, history-told, no-exchanges, told_along, watched-next}
use Rattle.pr_report_laws.proofs.Invariant.HistorySteps.{Holds, picked_of, read_of, tally_after}
use Rattle.pr_report_laws.proofs.Invariant.OtherSteps.{accounted-why, position-ends}
use Rattle.pr_report_laws.proofs.Invariant.Standing.{Accounted, Standing, apart, lives, over}
use Rattle.pr_report_laws.proofs.Machine.TracedPoints.{PicksTraced}
use Rattle.pr_report_laws.proofs.Files.WatchHistories.{Reaches}
use Rattle.pr_report_laws.specs.Attachments.{ReadsFile}
use Rattle.pr_report_laws.specs.Reported.{IsMissed, IsUnread}
use Rattle.pr_report_laws.specs.Shown.{LwpEvent, picked}
use Rattle.pr_report_laws.specs.Watching.{events_watched, fed_by_entry, watches}

-- An event that is missing came in an entry of the history, and since then truss had no answer that told it. With that
-- the law of what truss has shown is whole.

-- ---- lists of events

-- one of them and another one more are not one alone
too-many : (x y event : LwpEvent) (xs : List LwpEvent) → x ∷ [] ≡ y ∷ (xs ++ event ∷ []) → ⊥
too-many x y event xs is = omega (arith, ap (λ (zs : List LwpEvent). length zs) is, length-append xs (event ∷ []))

-- a list is not itself and one more
pub one-more : (xs : List LwpEvent) (event : LwpEvent) → xs ≡ xs ++ event ∷ [] → ⊥
one-more xs event is = omega (arith, ap (λ (zs : List LwpEvent). length zs) is, length-append xs (event ∷ []))

module _ (tally : Tally) (a : Accounted (Unit {0}) tally) (event : LwpEvent) where
  -- the event that is missing after more was told was missing before
  pub missing-before : (now more : List LwpEvent) → now ≡ tally.told ++ more → tally.came ≡ now ++ event ∷ []
      → tally.came ≡ tally.told ++ event ∷ []
  missing-before now more grown is = a.is ∙ ap (λ (xs : List LwpEvent). tally.told ++ xs) (alone more rest)
    where
      rest : a.missing ≡ more ++ event ∷ []
      rest =
          append_cancel_left tally.told a.missing (more ++ event ∷ []) (sym a.is ∙ is
          ∙ ap (λ (xs : List LwpEvent). xs ++ event ∷ []) grown ∙ append_assoc tally.told more (event ∷ []))

      alone : (xs : List LwpEvent) → a.missing ≡ xs ++ event ∷ [] → a.missing ≡ event ∷ []
      alone [] its = its
      alone (x ∷ xs) its =
          absurd (elim a.few [
            | inl none ↦ (let e : [] ≡ x ∷ (xs ++ event ∷ []) = sym none
                ∙ its in cc)
            | inr one ↦ too-many one.0 x event xs (sym one.1.0 ∙ its)
          ])

  -- the event that is missing after more came was missing before, or is what came
  pub missing-now : (chosen : List LwpEvent) → tally.came ++ chosen ≡ tally.told ++ event ∷ []
      → (chosen ≡ event ∷ []) ⊎ (tally.came ≡ tally.told ++ event ∷ [])
  missing-now chosen is = elim a.few [
    | inl none ↦ inl (ap (λ (xs : List LwpEvent). xs ++ chosen) (sym none) ∙ rest)
    | inr one ↦ inr (a.is
        ∙ ap (λ (xs : List LwpEvent). tally.told ++ xs) (one.1.0
        ∙ first one.0 (ap (λ (xs : List LwpEvent). xs ++ chosen) (sym one.1.0) ∙ rest)))
  ]
    where
      rest : a.missing ++ chosen ≡ event ∷ []
      rest =
          append_cancel_left tally.told (a.missing ++ chosen) (event ∷ [])
          (sym (append_assoc tally.told a.missing chosen)
          ∙ ap (λ (xs : List LwpEvent). xs ++ chosen) (sym a.is) ∙ is)

      first : (e : LwpEvent) → e ∷ chosen ≡ event ∷ [] → e ∷ [] ≡ event ∷ []
      first e its = cc

-- of no process more than one event is missing
pub standing-accounted : (Why : Type 0) (o : Options) (pid : ℕ) (t : TrussState) (s : TracedState) (tally : Tally)
    → Standing Why o pid t s tally → Accounted (Unit {0}) tally
standing-accounted Why o pid t s tally (apart unwatched a) = accounted-why Why (Unit {0}) tally (λ why. tt) a
standing-accounted Why o pid t s tally (over watched none a) = accounted-why Why (Unit {0}) tally (λ why. tt) a
standing-accounted Why o pid t s tally (lives place p at attached here live traced position) =
    position-ends (Unit {0}) o t.stage place (traced_at t place).old p tally tt position

-- ---- no answer

-- in these entries no read of its status, or of the statuses of its lwps, gave truss bytes of a process
record IsUnanswered (k pid : ℕ) (s : TracedState) (h : List Entry) : Type 0 where
  none : (f : File) → tells_event f ≡ true → (between behind : List Entry) (e : Entry) → h ≡ between ++ e ∷ behind
      → ReadsFile k pid f (state_after s between) e → ⊥

-- with one entry more, which is no such read
unanswered-next : (k pid : ℕ) (s : TracedState) (e : Entry) (h : List Entry)
    → ((f : File) → tells_event f ≡ true → ReadsFile k pid f s e → ⊥) → IsUnanswered k pid (after s e) h
    → IsUnanswered k pid s (e ∷ h)
unanswered-next k pid s e h here later = record { none = by }
  where
    by : (f : File) → tells_event f ≡ true → (between behind : List Entry) (x : Entry) → e ∷ h ≡ between ++ x ∷ behind
        → ReadsFile k pid f (state_after s between) x → ⊥
    by f tells [] behind x is w = let same : x ≡ e = cc in here f tells (subst (ReadsFile k pid f s) same w)
    by f tells (y ∷ between) behind x is w =
        let same : y ≡ e = cc in
        let rest : h ≡ between ++ x ∷ behind = cc in
        later.none f tells between behind x rest
        (subst (λ (z : Entry). ReadsFile k pid f (state_after (after s z) between) x) same w)

-- ---- where the event came

-- It came in one of these entries, while truss watched the process, and there was no answer since.
record Came (picks : Event → Bool) (k : ℕ) (o : Options) (pid : ℕ) (t : TrussState) (s : TracedState) (h : List Entry)
    (event : LwpEvent) : Type 0 where
  before : List Entry
  entry : Entry
  later : List Entry
  is : h ≡ before ++ entry ∷ later
  watched : watches (truss_after t (exchanges k before)) pid ≡ true
  came : picked picks pid (events_of (state_after s before) entry) ≡ event ∷ []
  since : IsUnanswered k pid (after (state_after s before) entry) later

-- It is missing before these entries, and there is no answer in them.
record IsLeft (k pid : ℕ) (s : TracedState) (tally : Tally) (h : List Entry) (event : LwpEvent) : Type 0 where
  is : tally.came ≡ tally.told ++ event ∷ []
  since : IsUnanswered k pid s h

came-later : (picks : Event → Bool) (k : ℕ) (o : Options) (pid : ℕ) (t : TrussState) (s : TracedState) (e : Entry)
    (h : List Entry)
    (event : LwpEvent) → Came picks k o pid (fed_by_entry k t e) (after s e) h event
    → Came picks k o pid t s (e ∷ h) event
came-later picks k o pid t s e h event c = record {
  before = e ∷ c.before;
  entry = c.entry;
  later = c.later;
  is = ap (λ (es : List Entry). e ∷ es) c.is;
  watched = ap (λ (u : TrussState). watches u pid) (after-next k t e c.before) ∙ c.watched;
  came = c.came;
  since = c.since;
}

-- what was picked of an entry while truss watched, where it is one event
came-now : (picks : Event → Bool) (k : ℕ) (o : Options) (pid : ℕ) (t : TrussState) (s : TracedState) (e : Entry)
    (h : List Entry)
    (event : LwpEvent) → picked_of picks pid t s e ≡ event ∷ [] → IsUnanswered k pid (after s e) h
    → Came picks k o pid t s (e ∷ h) event
unfolding picked
came-now picks k o pid t s e h event is since = by (watches t pid) refl is
  where
    by : (on : Bool) → watches t pid ≡ on → picked picks pid (cond on (events_of s e) []) ≡ event ∷ []
        → Came picks k o pid t s (e ∷ h) event
    by true on its = record {
      before = [];
      entry = e;
      later = h;
      is = refl;
      watched = ap (λ (u : TrussState). watches u pid) (no-exchanges k t) ∙ on;
      came = its;
      since = since;
    }
    by false off its = cc

-- ---- one entry

-- of what truss does nothing is picked
pub own-picks : (picks : Event → Bool) (k pid : ℕ) (t : TrussState) (s : TracedState) (e : Entry) (x : Exchange)
    → exchange_of k e ≡ Some x → picked_of picks pid t s e ≡ []
unfolding picked
own-picks picks k pid t s e x own = by (watches t pid)
  where
    elsewhere : (id : ℕ) → e.actor ≢ Lwp pid id
    elsewhere id same = none-some x (sym (ap (λ (a : Actor). exchange_in k a e.act) same) ∙ own)

    by : (b : Bool) → picked picks pid (cond b (events_of s e) []) ≡ []
    by true = no-events picks pid s e elsewhere
    by false = refl

module _ (K : Type 0) (n k : ℕ) (o : Options) (pid : ℕ) (t : TrussState) (s : TracedState) (tally : Tally)
    (e : Entry) (g : Holds K k o pid t s tally) (legal : IsLegalEntry n s e) (next : MakesNext t (exchange_of k e))
    (later : Standing (Lost (K ⊎ EndsByKill pid t s e) pid (after s e)) o pid (fed_by_entry k t e) (after s e)
    (tally_after k pid t s tally e)) (h : List Entry) (event : LwpEvent) where
  abbrev Before : Type 0
  Before = IsLeft k pid s tally (e ∷ h) event ⊎ Came tally.picks k o pid t s (e ∷ h) event

  abbrev After : Type 0
  After = IsLeft k pid (after s e) (tally_after k pid t s tally e) h event

  few : Accounted (Unit {0}) tally
  few = standing-accounted (Lost K pid s) o pid t s tally g.standing

  -- where nothing is missing after the entry
  answered : (f : File) → tells_event f ≡ true → After → ReadsFile k pid f s e → ⊥
  answered f tells l w =
      let reaches : Reaches k t s = record { lawful = g.lawful; owns = g.owns; files = g.files } in
      let whole =
      read-whole n k pid t s e reaches legal next f tells w (K ⊎ EndsByKill pid t s e) o
      (tally_after k pid t s tally e) later in
      one-more (tally_after k pid t s tally e).told event (sym whole ∙ l.is)

  own-before : (x : Exchange) → exchange_of k e ≡ Some x → After → Before
  own-before x own l =
      let owns : Owns k t s = g.owns in
      let same : tally.came ≡ tally.came ++ picked_of tally.picks pid t s e =
      sym (ap (λ (xs : List LwpEvent). tally.came ++ xs) (own-picks tally.picks k pid t s e x own)
      ∙ append-nil tally.came) in
      inl (record {
        is =
            missing-before tally few event (tally_after k pid t s tally e).told
            (told_in tally.picks (read_of pid t (exchange_of k e))) refl (same ∙ l.is);
        since = unanswered-next k pid s e h (λ f tells w. answered f tells l w) l.since;
      })

  other-before : exchange_of k e ≡ None → After → Before
  other-before none l =
      elim (missing-now tally few event (picked_of tally.picks pid t s e) (l.is
      ∙ ap (λ (xs : List LwpEvent). xs ++ event ∷ [])
      (ap (λ x. tally.told ++ told_in tally.picks (read_of pid t x)) none ∙ append-nil tally.told))) [
        | inl chosen ↦ inr (came-now tally.picks k o pid t s e h event chosen l.since)
        | inr is ↦ inl (record {
          is = is;
          since = unanswered-next k pid s e h (λ f tells w. none-some _ (sym none ∙ w.is)) l.since;
        })
      ]

  entry-before : IsLeft k pid (after s e) (tally_after k pid t s tally e) h event
      ⊎ Came tally.picks k o pid (fed_by_entry k t e) (after s e) h event → Before
  entry-before (inl l) = by (exchange_of k e) refl
    where
      by : (x : Option Exchange) → exchange_of k e ≡ x → Before
      by None none = other-before none l
      by (Some x) own = own-before x own l
  entry-before (inr c) = inr (came-later tally.picks k o pid t s e h event c)

-- ---- histories

module _ (n k : ℕ) (o : Options) (pid : ℕ) (event : LwpEvent) where
  history-before : (h : List Entry) (K : Type 0) (t : TrussState) (s : TracedState) (tally : Tally)
      → Along K n k o pid t s tally h
      → tally.came ++ picked tally.picks pid (events_watched k pid t s h) ≡
      (tally.told ++ told_along tally.picks k pid t h) ++ event ∷ []
      → IsLeft k pid s tally h event ⊎ Came tally.picks k o pid t s h event
  unfolding picked
  history-before [] K t s tally g is = inl (record {
    is =
        sym (append-nil tally.came) ∙ is
        ∙ ap (λ (xs : List LwpEvent). xs ++ event ∷ []) (append-nil tally.told);
    since = record { none = λ f tells between behind e split w. nowhere between behind e split };
  })
    where
      nowhere : (between behind : List Entry) (e : Entry) → [] ≡ between ++ e ∷ behind → ⊥
      nowhere [] behind e split = cc
      nowhere (x ∷ between) behind e split = cc
  history-before (e ∷ h) K t s tally g is =
      let later = along-next K n k o pid t s tally e h g in
      let holds : Holds (K ⊎ EndsByKill pid t s e) k o pid (fed_by_entry k t e) (after s e)
      (tally_after k pid t s tally e) =
      later.holds in
      let next = makes-next k t e h g.makes in
      entry-before K n k o pid t s tally e g.holds g.legal.0 next.0 holds.standing h event
      (history-before h (K ⊎ EndsByKill pid t s e) (fed_by_entry k t e) (after s e)
      (tally_after k pid t s tally e) later
      (sym (watched-next k o pid tally.picks t s tally.came e h) ∙ is
      ∙ ap (λ (xs : List LwpEvent). xs ++ event ∷ [])
      (sym (append_assoc tally.told (told_in tally.picks (read_of pid t (exchange_of k e)))
      (told_along tally.picks k pid (fed_by_entry k t e) h)))))

-- ---- the law

pub state_after-append : (s : TracedState) (xs ys : List Entry)
    → state_after s (xs ++ ys) ≡ state_after (state_after s xs) ys
state_after-append s [] ys = refl
state_after-append s (x ∷ xs) ys = state_after-append (after s x) xs ys

came-unread : (picks : Event → Bool) (k : ℕ) (o : Options) (pid : ℕ) (s : TracedState) (h : List Entry)
    (event : LwpEvent)
    → Came picks k o pid (first_truss o) s h event → IsUnread picks k o pid s h event
came-unread picks k o pid s h event c = record {
  before = c.before;
  entry = c.entry;
  later = c.later;
  is = c.is;
  watched = c.watched;
  came = c.came;
  status = λ between behind e split w. silent Status refl between behind e split w;
  lwps = λ between behind e split w. silent Lstatus refl between behind e split w;
}
  where
    silent : (f : File) → tells_event f ≡ true → (between behind : List Entry) (e : Entry)
        → c.later ≡ between ++ e ∷ behind → ReadsFile k pid f (state_after s (c.before ++ c.entry ∷ between)) e → ⊥
    silent f tells between behind e split w =
        let since : IsUnanswered k pid (after (state_after s c.before) c.entry) c.later = c.since in
        since.none f tells between behind e split
        (subst (λ (u : TracedState). ReadsFile k pid f u e) (state_after-append s c.before (c.entry ∷ between)) w)

-- What was picked of the events that came while truss watched the process, and what truss was told of them.
pub record TellsAll (picks : Event → Bool) (k : ℕ) (o : Options) (pid : ℕ) (s : TracedState)
    (h : List Entry) : Type 0 where
  pub missing : List LwpEvent
  pub is : picked picks pid (events_watched k pid (first_truss o) s h) ≡
      told_along picks k pid (first_truss o) h ++ missing
  pub few : (missing ≡ []) ⊎ IsMissed picks k o pid s h missing

-- truss was told nothing before its first call
history-unread : (picks : Event → Bool) (n k : ℕ) (o : Options) (pid : ℕ) (s : TracedState) (h : List Entry)
    (event : LwpEvent) → Along ⊥ n k o pid (first_truss o) s (first_tally picks) h
    → picked picks pid (events_watched k pid (first_truss o) s h) ≡
    told_along picks k pid (first_truss o) h ++ event ∷ [] → IsUnread picks k o pid s h event
history-unread picks n k o pid s h event g is =
    elim (history-before n k o pid event h ⊥ (first_truss o) s (first_tally picks) g is) [
      | inl l ↦ absurd (nothing l.is)
      | inr c ↦ came-unread picks k o pid s h event c
    ]
  where
    nothing : [] ≡ event ∷ [] → ⊥
    nothing e = cc

pub truss-told : (picks : Event → Bool) (n k : ℕ) (o : Options) (pid : ℕ) (s : TracedState) (h : List Entry)
    → PicksTraced o picks → IsReachedTrussRun n k o s h → OpensAtBirth k o pid s h → TellsAll picks k o pid s h
truss-told picks n k o pid s h within run births =
    let g = first-along picks n k o pid s h within run births in
    let r = history-told k o pid h ⊥ n (first_truss o) s (first_tally picks) g in
    record {
      missing = r.missing;
      is = r.is;
      few = elim r.few [
        | inl nothing ↦ inl nothing
        | inr one ↦ inr (record {
          event = one.0;
          one = one.1.0;
          cause =
              elim one.1.1 [
                | inl on ↦ inl on
                | inr cause ↦ elim cause
                    [ inl never ↦ absurd never | inr killed ↦ inr killed ]
              ];
          unread =
              history-unread picks n k o pid s h one.0 g (r.is
              ∙ ap (λ (xs : List LwpEvent). told_along picks k pid (first_truss o) h ++ xs) one.1.0);
        })
      ];
    }
