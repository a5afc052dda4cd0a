use Rattle.std.proofs.Common.{◌≡◌, ℕ, Bool, true, false, cond, None, Some, Option, List, [], ◌∷◌, ◌++◌, refl, sym, subst, ap, ◌∙◌, inl, inr, ◌⊎◌, append_assoc}
use Rattle.std.proofs.lemmas.List.{append-nil}
use Rattle.std.proofs.lemmas.List.Elements.{filter_map-append}
use Rattle.std.specs.List.{cons_option, slice_get}
use Rattle.pr_line.specs.declared.events.Event.{Event}
use Rattle.pr_line.specs.declared.options.Options.{Options}
use Rattle.pr_model.specs.Events.{Logged, events_of}
use Rattle.pr_model.specs.Lawful.{IsLawful}
use Rattle.pr_model.specs.Legal.{IsLegal, after, state_after}
use Rattle.pr_model.specs.State.{TracedProcess, TracedState, live_process}
use Rattle.pr_model.specs.declared.calls.Reply.TheVariants.{Handle}
use Rattle.pr_model.specs.declared.events.Entry.{Entry}
use Rattle.pr_truss.specs.Reports.{all_reports}
use Rattle.pr_truss.specs.Trusses.{TrussState, first_of_program, first_truss, idle, opening_or, traced_at}
use Rattle.pr_truss.specs.declared.stages.ChildStep.{ChildStep}
use Rattle.pr_truss.specs.declared.stages.OpeningStep.{OpeningStep}
use Rattle.pr_truss.specs.declared.stages.OpeningStep.TheVariants.{AwaitStop}
use Rattle.pr_truss.specs.declared.stages.Stage.TheVariants.{Opening, OpeningChild, OpeningChildControl}
use Rattle.pr_truss_laws.proofs.Files.OwnLemmas.{first-owns}
use Rattle.pr_truss_laws.specs.Exchanges.{Exchange, Makes, exchange_of, exchanges, truss_after}
use Rattle.pr_report_laws.specs.ReachedRuns.{IsReachedTrussRun}
use Rattle.pr_truss_laws.specs.Runs.{IsTrussRun}
use Rattle.pr_reached.proofs.StatesInRange.HistoryRanges.{history-range}
use Rattle.pr_reached.proofs.RecordsInRange.RecordRanges.{lstatus-of-range, status-range}
use Rattle.pr_reached.specs.ByteHistories.{HasBytes, IsEntryOfBytes}
use Rattle.pr_reached.specs.InRange.{IsInRange}
use Rattle.pr_reached.specs.Reached.{IsReached}
use Rattle.pr_lawful.proofs.LawfulTurns.EndLemmas.{found-live}
use Rattle.std.proofs.lemmas.List.Elements.{All-cons, All-head, All-nil, All-tail}
use Rattle.pr_report_laws.proofs.Invariant.Tallies.{IsWhole, Tally, told_in, unread}
use Rattle.pr_report_laws.proofs.Invariant.EntrySteps.{EndsByKill, Lost}
use Rattle.pr_report_laws.proofs.Files.FileSteps.{first-files, makes-next}
use Rattle.pr_report_laws.proofs.Invariant.HistorySteps.{Holds, IsBorn, entry-holds, picked_of, read_of, tally_after}
use Rattle.pr_report_laws.proofs.Invariant.OtherSteps.{is-watched}
use Rattle.pr_report_laws.proofs.Machine.TracedPoints.{PicksTraced}
use Rattle.pr_report_laws.proofs.Replies.OwnLooks.{ReadsBack}
use Rattle.pr_report_laws.proofs.Invariant.Standing.{Accounted, Position, Prepares, Standing, apart, goes, has_event, lives, old_stops, over, stop_read}
use Rattle.pr_report_laws.proofs.Files.WatchHistories.{uninterrupted}
use Rattle.pr_report_laws.proofs.Invariant.Positions.{IsAtBirth}
use Rattle.pr_report_laws.specs.Reported.{IsKilled}
use Rattle.pr_report_laws.specs.Shown.{LwpEvent, event_picked, picked, shown}
use Rattle.pr_report_laws.specs.Watching.{events_watched, fed_by_entry, watches, with_exchange}

-- What truss was told of a process after a history.

-- ---- what is asked of a history

-- Where truss opens the process as the child of a fork, from a place of the history on, it stands then as at its birth.
pub record BirthsFrom (k : ℕ) (o : Options) (pid : ℕ) (t : TrussState) (s : TracedState) (h : List Entry) : Type 0 where
  pub child : (before later : List Entry) (e : Entry) (x : Exchange) (handle parent : ℕ) (p : TracedProcess)
      → h ≡ before ++ e ∷ later → exchange_of k e ≡ Some x
      → (truss_after t (exchanges k before)).stage ≡ OpeningChildControl parent pid
      → x.reply ≡ Handle handle → live_process (state_after s before).system pid ≡ Some p → IsAtBirth o p

abbrev pub OpensAtBirth : ℕ → Options → ℕ → TracedState → List Entry → Type 0
OpensAtBirth k o pid s h = BirthsFrom k o pid (first_truss o) s h

after-first : (t : TrussState) (x : Option Exchange) (xs : List Exchange)
    → truss_after t (cons_option x xs) ≡ truss_after (with_exchange t x) xs
after-first t None xs = refl
after-first t (Some x) xs = refl

pub after-next : (k : ℕ) (t : TrussState) (e : Entry) (h : List Entry)
    → truss_after t (exchanges k (e ∷ h)) ≡ truss_after (fed_by_entry k t e) (exchanges k h)
unfolding exchanges
after-next k t e h = after-first t (exchange_of k e) (exchanges k h)

pub no-exchanges : (k : ℕ) (t : TrussState) → truss_after t (exchanges k []) ≡ t
unfolding exchanges
no-exchanges k t = refl

module _ (k : ℕ) (o : Options) (pid : ℕ) (t : TrussState) (s : TracedState) (e : Entry) (h : List Entry) where
  births-now : BirthsFrom k o pid t s (e ∷ h) → IsBorn k o pid t s e
  births-now b =
      record {
        child = λ x handle parent p own stage reply live. b.child [] h e x handle parent p refl own
            (ap (λ (u : TrussState). u.stage) (no-exchanges k t) ∙ stage) reply live;
      }

  births-later : BirthsFrom k o pid t s (e ∷ h) → BirthsFrom k o pid (fed_by_entry k t e) (after s e) h
  births-later b = record {
    child = λ before later f x handle parent p is own stage reply live.
        b.child (e ∷ before) later f x handle parent p (ap (λ (es : List Entry). e ∷ es) is) own
        (ap (λ (u : TrussState). u.stage) (after-next k t e before) ∙ stage) reply live;
  }

-- the records that truss reads are in their ranges
pub reads-back : (pid : ℕ) (s : TracedState) → IsLawful s → IsInRange s.system → ReadsBack pid s
reads-back pid s lawful range = record {
  status = λ p live. status-range s.system pid p lawful.system range (found-live s.system pid p live).0;
  lwps = λ p live. lstatus-of-range s.system pid p lawful.system range (found-live s.system pid p live).0;
}

-- ---- what came and was told in a history

pub picked-both : (picks : Event → Bool) (pid : ℕ) (xs ys : List Logged)
    → picked picks pid (xs ++ ys) ≡ picked picks pid xs ++ picked picks pid ys
unfolding picked
picked-both picks pid xs ys = filter_map-append (event_picked picks pid) xs ys

-- the events that truss was told of a process, one after another
abbrev pub told_along : (Event → Bool) → ℕ → ℕ → TrussState → List Entry → List LwpEvent
told_along picks k pid t [] = []
told_along picks k pid t (e ∷ h) =
    told_in picks (read_of pid t (exchange_of k e)) ++ told_along picks k pid (fed_by_entry k t e) h

-- ---- SIGKILL in a history

killed-first : (k pid : ℕ) (t : TrussState) (s : TracedState) (e : Entry) (h : List Entry) → EndsByKill pid t s e
    → IsKilled k pid t s (e ∷ h)
killed-first k pid t s e h w = record {
  before = [];
  entry = e;
  later = h;
  is = refl;
  watched = ap (λ (u : TrussState). watches u pid) (no-exchanges k t) ∙ w.watched;
  process = w.process;
  lived = w.lived;
  zombie = w.zombie;
  left = w.left;
  status = w.status;
}

killed-later : (k pid : ℕ) (t : TrussState) (s : TracedState) (e : Entry) (h : List Entry)
    → IsKilled k pid (fed_by_entry k t e) (after s e) h → IsKilled k pid t s (e ∷ h)
killed-later k pid t s e h w = record {
  before = e ∷ w.before;
  entry = w.entry;
  later = w.later;
  is = ap (λ (es : List Entry). e ∷ es) w.is;
  watched = ap (λ (u : TrussState). watches u pid) (after-next k t e w.before) ∙ w.watched;
  process = w.process;
  lived = w.lived;
  zombie = w.zombie;
  left = w.left;
  status = w.status;
}

-- ---- what holds along a history

-- what holds before these entries, where so much came and was told, and what is asked of them
pub record Along (K : Type 0) (n k : ℕ) (o : Options) (pid : ℕ) (t : TrussState) (s : TracedState)
    (tally : Tally) (h : List Entry) : Type 0 where
  pub holds : Holds K k o pid t s tally
  pub legal : IsLegal n s h
  pub makes : Makes t (exchanges k h)
  pub range : IsInRange s.system
  pub bytes : HasBytes h
  pub births : BirthsFrom k o pid t s h

pub along-next : (K : Type 0) (n k : ℕ) (o : Options) (pid : ℕ) (t : TrussState) (s : TracedState)
    (tally : Tally) (e : Entry) (h : List Entry) → Along K n k o pid t s tally (e ∷ h)
    → Along (K ⊎ EndsByKill pid t s e) n k o pid (fed_by_entry k t e) (after s e) (tally_after k pid t s tally e) h
along-next K n k o pid t s tally e h g =
    let holds : Holds K k o pid t s tally = g.holds in
    let first = makes-next k t e h g.makes in
    record {
      holds =
          entry-holds K n k o pid t s tally holds (uninterrupted k s) (reads-back pid s holds.lawful g.range) e
          (births-now k o pid t s e h g.births) g.legal.0 first.0;
      legal = g.legal.1;
      makes = first.1;
      range =
          history-range n s (e ∷ []) holds.lawful g.range
          (All-cons IsEntryOfBytes e [] (All-head IsEntryOfBytes e h g.bytes) (All-nil IsEntryOfBytes))
          (g.legal.0, tt);
      bytes = All-tail IsEntryOfBytes e h g.bytes;
      births = births-later k o pid t s e h g.births;
    }

-- ---- histories

-- what truss was told after these entries, where so much came and was told before, and why an event may be missing
pub record IsTold (Cause : Type 0) (k : ℕ) (o : Options) (pid : ℕ) (t : TrussState) (s : TracedState)
    (tally : Tally) (h : List Entry) : Type 0 where
  pub missing : List LwpEvent
  pub is : tally.came ++ picked tally.picks pid (events_watched k pid t s h)
      ≡ (tally.told ++ told_along tally.picks k pid t h) ++ missing
  pub few : (missing ≡ []) ⊎
      ((event : LwpEvent) × ((missing ≡ event ∷ []) × ((watches (truss_after t (exchanges k h)) pid ≡ true) ⊎ Cause)))

module _ (k : ℕ) (o : Options) (pid : ℕ) where
  -- nothing comes any more
  here-told : (K : Type 0) (t : TrussState) (s : TracedState) (tally : Tally) (missing : List LwpEvent)
      → tally.came ≡ tally.told ++ missing
      → (missing ≡ []) ⊎ ((event : LwpEvent) × ((missing ≡ event ∷ []) × ((watches t pid ≡ true) ⊎ K)))
      → IsTold K k o pid t s tally []
  unfolding picked
  here-told K t s tally missing is few = record {
    missing = missing;
    is = append-nil tally.came ∙ is ∙ ap (λ (xs : List LwpEvent). xs ++ missing) (sym (append-nil tally.told));
    few =
        subst (λ (u : TrussState). (missing ≡ []) ⊎
        ((event : LwpEvent) × ((missing ≡ event ∷ []) × ((watches u pid ≡ true) ⊎ K)))) (sym (no-exchanges k t)) few;
  }

  whole-told : (K : Type 0) (t : TrussState) (s : TracedState) (tally : Tally) → IsWhole tally
      → IsTold K k o pid t s tally []
  whole-told K t s tally is = here-told K t s tally [] (is ∙ sym (append-nil tally.told)) (inl refl)

  accounted-told : (K : Type 0) (t : TrussState) (s : TracedState) (tally : Tally) → Accounted (Lost K pid s) tally
      → IsTold K k o pid t s tally []
  accounted-told K t s tally a =
      here-told K t s tally a.missing a.is
      (elim a.few [
        | inl none ↦ inl none
        | inr one ↦ inr
            (one.0, (one.1.0, inr (let lost : Lost K pid s = one.1.1 in lost.cause)))
      ])

  unread-few : (K : Type 0) (t : TrussState) (tally : Tally) (id : ℕ) (event : Event) → watches t pid ≡ true
      → (unread tally id event ≡ []) ⊎
      ((e : LwpEvent) × ((unread tally id event ≡ e ∷ []) × ((watches t pid ≡ true) ⊎ K)))
  unread-few K t tally id event on = by (tally.picks event)
    where
      by : (b : Bool)
          → (cond {A = List LwpEvent} b (record { id = id; event = event } ∷ []) [] ≡ []) ⊎
          ((e : LwpEvent) ×
          ((cond {A = List LwpEvent} b (record { id = id; event = event } ∷ []) [] ≡ e ∷ []) ×
          ((watches t pid ≡ true) ⊎ K)))
      by true = inr (record { id = id; event = event }, (refl, inl on))
      by false = inl refl

  last-told : (K : Type 0) (t : TrussState) (s : TracedState) (tally : Tally)
      → Standing (Lost K pid s) o pid t s tally → IsTold K k o pid t s tally []
  last-told K t s tally (apart not_watched a) = accounted-told K t s tally a
  last-told K t s tally (over watched none a) = accounted-told K t s tally a
  last-told K t s tally (lives place p at attached here live traced position) = by position
    where
      by : Position o t.stage place (traced_at t place).old p tally → IsTold K k o pid t s tally []
      by (stop_read read waits is) = whole-told K t s tally is
      by (old_stops n read counts waits is) = whole-told K t s tally is
      by (goes read named none quiet is) = whole-told K t s tally is
      by (has_event id event read none one named is) =
          here-told K t s tally (unread tally id event) is
          (unread-few K t tally id event (is-watched t pid place at attached here))

  -- the causes of the first entry are those of the history
  causes-on : (K : Type 0) (t : TrussState) (s : TracedState) (e : Entry) (h : List Entry)
      → ((K ⊎ EndsByKill pid t s e) ⊎ IsKilled k pid (fed_by_entry k t e) (after s e) h)
      → K ⊎ IsKilled k pid t s (e ∷ h)
  causes-on K t s e h (inl (inl cause)) = inl cause
  causes-on K t s e h (inl (inr now)) = inr (killed-first k pid t s e h now)
  causes-on K t s e h (inr later) = inr (killed-later k pid t s e h later)

  -- what is picked of these entries is what is picked of the first one and of the others
  pub watched-next : (picks : Event → Bool) (t : TrussState) (s : TracedState) (came : List LwpEvent) (e : Entry)
      (h : List Entry)
      → came ++ picked picks pid (events_watched k pid t s (e ∷ h)) ≡
      (came ++ picked_of picks pid t s e) ++ picked picks pid (events_watched k pid (fed_by_entry k t e) (after s e) h)
  watched-next picks t s came e h =
      ap (λ (xs : List LwpEvent). came ++ xs)
      (picked-both picks pid (cond (watches t pid) (events_of s e) [])
      (events_watched k pid (fed_by_entry k t e) (after s e) h))
      ∙ sym (append_assoc came (picked_of picks pid t s e)
      (picked picks pid (events_watched k pid (fed_by_entry k t e) (after s e) h)))

  next-told : (K : Type 0) (t : TrussState) (s : TracedState) (tally : Tally) (e : Entry) (h : List Entry)
      → IsTold ((K ⊎ EndsByKill pid t s e) ⊎ IsKilled k pid (fed_by_entry k t e) (after s e) h) k o pid
      (fed_by_entry k t e)
      (after s e) (tally_after k pid t s tally e) h
      → IsTold (K ⊎ IsKilled k pid t s (e ∷ h)) k o pid t s tally (e ∷ h)
  next-told K t s tally e h r =
      let same = after-next k t e h in
      record {
        missing = r.missing;
        is =
            watched-next tally.picks t s tally.came e h ∙ r.is
            ∙ ap (λ (xs : List LwpEvent). xs ++ r.missing)
            (append_assoc tally.told (told_in tally.picks (read_of pid t (exchange_of k e)))
            (told_along tally.picks k pid (fed_by_entry k t e) h));
        few =
            subst (λ (u : TrussState). (r.missing ≡ []) ⊎
            ((event : LwpEvent) ×
            ((r.missing ≡ event ∷ []) × ((watches u pid ≡ true) ⊎ (K ⊎ IsKilled k pid t s (e ∷ h))))))
            (sym same)
            (elim r.few [
              | inl none ↦ inl none
              | inr one ↦ inr
                  (one.0, (one.1.0, elim one.1.1 [ inl on ↦ inl on | inr cause ↦ inr (causes-on K t s e h cause) ]))
            ]);
      }

  weaker : (K L : Type 0) (t : TrussState) (s : TracedState) (tally : Tally) → (K → L)
      → IsTold K k o pid t s tally [] → IsTold L k o pid t s tally []
  weaker K L t s tally more r = record {
    missing = r.missing;
    is = r.is;
    few =
        elim r.few [
          | inl none ↦ inl none
          | inr one ↦ inr
              (one.0, (one.1.0, elim one.1.1 [ inl on ↦ inl on | inr cause ↦ inr (more cause) ]))
        ];
  }

  pub history-told : (h : List Entry) (K : Type 0) (n : ℕ) (t : TrussState) (s : TracedState) (tally : Tally)
      → Along K n k o pid t s tally h → IsTold (K ⊎ IsKilled k pid t s h) k o pid t s tally h
  history-told [] K n t s tally g =
      let holds : Holds K k o pid t s tally = g.holds in
      weaker K (K ⊎ IsKilled k pid t s []) t s tally (λ cause. inl cause) (last-told K t s tally holds.standing)
  history-told (e ∷ h) K n t s tally g =
      next-told K t s tally e h
      (history-told h (K ⊎ EndsByKill pid t s e) n (fed_by_entry k t e) (after s e) (tally_after k pid t s tally e)
      (along-next K n k o pid t s tally e h g))

-- ---- the first state

-- truss before its first call
pub record IsFirst (o : Options) (pid : ℕ) (t : TrussState) : Type 0 where
  pub options : t.options ≡ o
  pub nobody : watches t pid ≡ false
  pub nothing : shown pid t ≡ []
  pub opens : (place : ℕ) (step : OpeningStep) → t.stage ≡ Opening place step → ⊥
  pub follows : (parent place : ℕ) (step : ChildStep) → t.stage ≡ OpeningChild parent place step → ⊥

pid-first : (o : Options) (pid : ℕ) (x : Option ℕ) → IsFirst o pid (opening_or (idle o) (idle o) x)
unfolding watches shown all_reports
pid-first o pid None = record {
  options = refl;
  nobody = refl;
  nothing = refl;
  opens = λ place step is. cc;
  follows = λ parent place step is. cc;
}
pid-first o pid (Some of) = record {
  options = refl;
  nobody = refl;
  nothing = refl;
  opens = λ place step is. cc;
  follows = λ parent place step is. cc;
}

program-first : (o : Options) (pid : ℕ) (x : Option (List ℕ)) → IsFirst o pid (first_of_program o x)
unfolding watches shown all_reports
program-first o pid None = pid-first o pid (slice_get o.pids 0)
program-first o pid (Some program) = record {
  options = refl;
  nobody = refl;
  nothing = refl;
  opens = λ place step is. cc;
  follows = λ parent place step is. cc;
}

pub first-is : (o : Options) (pid : ℕ) → IsFirst o pid (first_truss o)
unfolding first_truss
first-is o pid = program-first o pid o.program

pub first-prepares : (o : Options) (pid : ℕ) (s : TracedState) (t : TrussState) → IsFirst o pid t → Prepares o pid t s
first-prepares o pid s t first = record {
  opened = λ place step p stage own live. absurd (first.opens place step stage);
  until = λ place until stage. absurd (first.opens place (AwaitStop until) stage);
  child = λ parent place step p stage own live. absurd (first.follows parent place step stage);
  new = λ parent place step stage. absurd (first.follows parent place step stage);
}

-- nothing has come, and nothing was told
abbrev pub first_tally : (Event → Bool) → Tally
first_tally picks = record { picks = picks; came = []; told = [] }

pub first-holds : (picks : Event → Bool) (n k : ℕ) (o : Options) (pid : ℕ) (s : TracedState) (h : List Entry)
    → PicksTraced o picks → IsReached s → IsTrussRun n k o s h
    → Holds ⊥ k o pid (first_truss o) s (first_tally picks)
first-holds picks n k o pid s h within reached run =
    let first = first-is o pid in
    record {
      lawful = run.lawful;
      fit = reached.fit;
      owns = first-owns k o s run.nothing_open;
      files = first-files k o s;
      options = first.options;
      picks = within;
      prepares = first-prepares o pid s (first_truss o) first;
      standing = apart first.nobody (record { missing = []; is = refl; few = inl refl });
    }

-- so it is along a whole history
pub first-along : (picks : Event → Bool) (n k : ℕ) (o : Options) (pid : ℕ) (s : TracedState) (h : List Entry)
    → PicksTraced o picks → IsReachedTrussRun n k o s h → OpensAtBirth k o pid s h
    → Along ⊥ n k o pid (first_truss o) s (first_tally picks) h
first-along picks n k o pid s h within run births = record {
  holds = first-holds picks n k o pid s h within run.reached run.of;
  legal = run.of.legal;
  makes = run.of.makes;
  range = run.reached.in_range;
  bytes = run.bytes;
  births =
      record {
        child = λ before later e x handle parent p is own stage reply live. births.child before later e x
            handle parent p is own stage reply live;
      };
}
