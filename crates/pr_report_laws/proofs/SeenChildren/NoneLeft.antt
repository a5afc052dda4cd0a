use Rattle.std.proofs.Common.{◌≡◌, ◌++◌, ◌⊎◌, ℕ, true, cond, Option, Some, None, List, [], ◌∷◌, length, refl, sym, subst, ap, ◌∙◌, append_assoc, arith, inl, inr}
use Rattle.std.proofs.lemmas.Bool.{false≢true}
use Rattle.std.proofs.lemmas.List.{append_cancel_left, length-append}
use Rattle.std.proofs.lemmas.Option.{none-some}
use Rattle.std.specs.List.{cons_option}
use Rattle.pr_api.specs.Entries.{turn_entry}
use Rattle.pr_line.specs.declared.options.Options.{Options}
use Rattle.pr_model.specs.Events.{events_of}
use Rattle.pr_model.specs.Legal.{after, state_after}
use Rattle.pr_model.specs.State.{TracedState}
use Rattle.pr_model.specs.declared.calls.File.{File}
use Rattle.pr_model.specs.declared.calls.File.TheVariants.{Lstatus, Status}
use Rattle.pr_model.specs.declared.events.Entry.{Entry}
use Rattle.pr_model.specs.declared.events.Turned.{Turned}
use Rattle.pr_truss.specs.Feeding.{fed}
use Rattle.pr_truss.specs.NextCalls.{next_call_of}
use Rattle.pr_truss.specs.Trusses.{TrussState, first_truss}
use Rattle.pr_truss.specs.declared.reports.Report.{Report}
use Rattle.pr_truss.specs.declared.reports.Report.TheVariants.{CannotTrace}
use Rattle.pr_truss_laws.proofs.Files.ClosesLemmas.{after-grown}
use Rattle.pr_truss_laws.proofs.Files.HeldLemmas.{Grown}
use Rattle.pr_truss_laws.specs.Exchanges.{Exchange, exchange_of, exchanges, truss_after, truss_at}
use Rattle.pr_report_laws.specs.ReachedRuns.{IsReachedTrussRun}
use Rattle.pr_report_laws.proofs.Files.WatchHistories.{Reaches, after-append, cons-exchanges, exchanges-both, run-reaches}
use Rattle.pr_report_laws.proofs.Invariant.HistoryLaw.{OpensAtBirth, told_along, watched-next}
use Rattle.pr_report_laws.proofs.Invariant.HistorySteps.{picked_of, read_of}
use Rattle.pr_report_laws.proofs.Invariant.UnreadLaws.{TellsAll, truss-told}
use Rattle.pr_report_laws.proofs.SeenChildren.ForkEvents.{ForksTraced, forks-traced}
use Rattle.pr_report_laws.proofs.SeenChildren.ReadChildren.{IsDone, freed, opened, read-done, told}
use Rattle.pr_report_laws.proofs.SeenChildren.ReadForks.{ReadsIt, fork-reads}
use Rattle.pr_report_laws.proofs.SeenChildren.Splits.{Compares, WasTold, ahead, behind, compare, legal-rest, run-before, same, state_after-both, told-both, told-or-missing, was-told, watched-both}
use Rattle.pr_report_laws.proofs.Machine.TracedPoints.{picks-traced}
use Rattle.pr_report_laws.proofs.UnopenedChildren.Births.{births, unfollowed-births}
use Rattle.pr_report_laws.proofs.Watching.BeginLaws.{finished-watches-none}
use Rattle.pr_report_laws.proofs.Watching.HistoryParts.{front-reached}
use Rattle.pr_report_laws.specs.Attachments.{ReadsFile}
use Rattle.pr_report_laws.specs.Births.{IsNeverFollowed, child_made}
use Rattle.pr_report_laws.specs.Lineages.{IsLeftToTruss}
use Rattle.pr_report_laws.specs.Reads.{traces}
use Rattle.pr_report_laws.specs.Reported.{IsMissed, IsUnread}
use Rattle.pr_report_laws.specs.SeenTo as seen
use Rattle.pr_report_laws.specs.SeenTo.{IsSeenTo, LeavesNoChild, WasLost}
use Rattle.pr_report_laws.specs.Shown.{LwpEvent, picked}
use Rattle.pr_report_laws.specs.Watching.{events_watched, fed_by_entry, watches}

-- No child is left of a fork that came while truss watched its parent, once truss has finished.

-- ---- the history up to a place

born-before : (k : ℕ) (o : Options) (pid : ℕ) (s : TracedState) (xs ys : List Entry) → OpensAtBirth k o pid s (xs ++ ys)
    → OpensAtBirth k o pid s xs
born-before k o pid s xs ys born = record {
  child = λ before later e x handle parent p is own stage reply live.
      born.child before (later ++ ys) e x handle parent p
      (ap (λ (es : List Entry). es ++ ys) is ∙ append_assoc before (e ∷ later) ys) own stage reply live;
}

-- at most one event is missing
few-missing : (k : ℕ) (o : Options) (pid : ℕ) (s : TracedState) (h : List Entry) (missing : List LwpEvent)
    → (missing ≡ []) ⊎ IsMissed (traces o) k o pid s h missing → length missing ≡ 0 ⊎ length missing ≡ 1
few-missing k o pid s h missing (inl none) = inl (ap (λ (xs : List LwpEvent). length xs) none)
few-missing k o pid s h missing (inr m) = inr (ap (λ (xs : List LwpEvent). length xs) m.one)

module _ (n k : ℕ) (o : Options) (parent id child : ℕ) (turned : Turned) (s : TracedState) (before later : List Entry)
    (follow : o.follow ≡ true) (run : IsReachedTrussRun n k o s (before ++ turn_entry parent id turned ∷ later))
    (born : OpensAtBirth k o parent s (before ++ turn_entry parent id turned ∷ later))
    (on : watches (truss_at k o before) parent ≡ true) (made : child_made turned.did ≡ Some child)
    (finished : next_call_of (truss_at k o (before ++ turn_entry parent id turned ∷ later)) ≡ None) where
  abbrev fork : Entry
  fork = turn_entry parent id turned

  abbrev h : List Entry
  h = before ++ fork ∷ later

  abbrev then : TrussState
  then = truss_at k o before

  abbrev found : TracedState
  found = state_after s before

  abbrev left_then : TracedState
  left_then = after (state_after s before) (turn_entry parent id turned)

  reaches : Reaches k then found
  reaches = run-reaches n k o s before (run-before n k o s before (fork ∷ later) run.of)

  logs : ForksTraced o parent child then found fork
  logs =
      let r = reaches in
      forks-traced n o parent id child turned then found follow r.lawful
      (legal-rest n s before (fork ∷ later) run.of.legal).0 on made

  event : LwpEvent
  event = logs.event

  whole : TellsAll (traces o) k o parent s h
  whole = truss-told (traces o) n k o parent s h (picks-traced o) run born

  front : TellsAll (traces o) k o parent s before
  front =
      truss-told (traces o) n k o parent s before (picks-traced o) (front-reached n k o s before (fork ∷ later) run)
      (born-before k o parent s before (fork ∷ later) born)

  -- ---- what came and was told from the fork on

  rest : List LwpEvent
  rest = picked (traces o) parent (events_watched k parent then left_then later)

  told_before : List LwpEvent
  told_before = told_along (traces o) k parent (first_truss o) before

  told_later : List LwpEvent
  told_later = told_along (traces o) k parent then later

  came-later : picked (traces o) parent (events_watched k parent then found (fork ∷ later)) ≡ event ∷ rest
  unfolding event rest
  came-later =
      watched-next k o parent (traces o) then found [] fork later
      ∙ ap (λ (xs : List LwpEvent). xs ++ picked (traces o) parent (events_watched k parent then left_then later))
      logs.picked_so

  both : (told_before ++ front.missing) ++ event ∷ rest ≡ (told_before ++ told_later) ++ whole.missing
  unfolding told_before told_later
  both =
      ap (λ (xs : List LwpEvent). xs ++ event ∷ rest) (sym front.is)
      ∙ ap (λ (xs : List LwpEvent). picked (traces o) parent
      (events_watched k parent (first_truss o) s before) ++ xs) (sym came-later)
      ∙ sym (watched-both (traces o) k parent o before (fork ∷ later) (first_truss o) s)
      ∙ whole.is
      ∙ ap (λ (xs : List LwpEvent). xs ++ whole.missing)
      (told-both (traces o) k parent before (fork ∷ later) (first_truss o))

  since : front.missing ++ event ∷ rest ≡ told_later ++ whole.missing
  since =
      append_cancel_left told_before (front.missing ++ event ∷ rest) (told_later ++ whole.missing)
      (sym (append_assoc told_before front.missing (event ∷ rest)) ∙ both
      ∙ append_assoc told_before told_later whole.missing)

  -- ---- truss has read the fork

  fork-exchanges : (xs : List Entry) → exchanges k (fork ∷ xs) ≡ exchanges k xs
  fork-exchanges xs = cons-exchanges k fork xs

  module _ (w : WasTold k parent then later event) (x : Exchange) (own : exchange_of k w.entry ≡ Some x) where
    past : List Exchange
    past = exchanges k before ++ exchanges k w.before

    at-read : truss_after (first_truss o) past ≡ truss_after then (exchanges k w.before)
    unfolding past
    at-read = after-append (first_truss o) (exchanges k before) (exchanges k w.before)

    later-split : exchanges k later ≡ exchanges k w.before ++ x ∷ exchanges k w.later
    later-split =
        ap (exchanges k) w.is ∙ exchanges-both k w.before (w.entry ∷ w.later)
        ∙ ap (λ (ys : List Exchange). exchanges k w.before ++ ys) (cons-exchanges k w.entry w.later
        ∙ ap (λ (y : Option Exchange). cons_option y (exchanges k w.later)) own)

    all-split : exchanges k h ≡ past ++ x ∷ exchanges k w.later
    unfolding past
    all-split =
        exchanges-both k before (fork ∷ later)
        ∙ ap (λ (ys : List Exchange). exchanges k before ++ ys) (fork-exchanges later ∙ later-split)
        ∙ sym (append_assoc (exchanges k before) (exchanges k w.before) (x ∷ exchanges k w.later))

    reads : ReadsIt (truss_after (first_truss o) past) x.reply child
    unfolding event
    reads =
        subst (λ (u : TrussState). ReadsIt u x.reply child) (sym at-read)
        (fork-reads (truss_after then (exchanges k w.before)) x.reply parent child event logs.exits
        (ap (read_of parent (truss_after then (exchanges k w.before))) (sym own) ∙ w.reads))

    abbrev base : List Report
    base = (fed (truss_after (first_truss o) past) x.reply).reports

    done : IsDone child base (truss_at k o h).reports (exchanges k w.later)
    done =
        read-done n k o s h past (exchanges k w.later) x child follow run.of.legal run.of.makes all-split finished reads

    grown : Grown then.reports base
    grown =
        subst (λ (u : TrussState). Grown then.reports u.reports)
        (after-append then (exchanges k w.before) (x ∷ [])
        ∙ ap (λ (u : TrussState). fed u x.reply) (sym at-read))
        (after-grown (exchanges k w.before ++ x ∷ []) then)

    behind-read : (ys : List Exchange) → exchanges k w.later ≡ ys
        → exchanges k later ≡ (exchanges k w.before ++ x ∷ []) ++ ys
    behind-read ys is =
        later-split ∙ ap (λ (zs : List Exchange). exchanges k w.before ++ x ∷ zs) is
        ∙ sym (append_assoc (exchanges k w.before) (x ∷ []) ys)

    read-seen : IsDone child base (truss_at k o h).reports (exchanges k w.later)
        → IsSeenTo k o parent child s before fork later
    read-seen (opened d) = seen.opened (record {
      before = (exchanges k w.before ++ x ∷ []) ++ d.before;
      opening = d.opening;
      last = d.last;
      after = d.after;
      is =
          behind-read (d.before ++ (d.opening ++ d.last ∷ d.after)) d.is
          ∙ sym (append_assoc (exchanges k w.before ++ x ∷ []) d.before (d.opening ++ d.last ∷ d.after));
      calls = d.calls;
      granted = d.granted;
    })
    read-seen (freed d) = seen.freed (record {
      before = (exchanges k w.before ++ x ∷ []) ++ d.before;
      opening = d.opening;
      setting = d.setting;
      closing = d.closing;
      after = d.after;
      is =
          behind-read (d.before ++ d.opening ∷ d.setting ∷ d.closing ∷ d.after) d.is
          ∙ sym (append_assoc (exchanges k w.before ++ x ∷ []) d.before
          (d.opening ∷ d.setting ∷ d.closing ∷ d.after));
      opens = d.opens;
      granted = d.granted;
      sets = d.sets;
      closes = d.closes;
    })
    read-seen (told errno more is) = let g = grown in seen.refused (record {
      errno = errno;
      some = g.more;
      more = more;
      is =
          is ∙ ap (λ (rs : List Report). rs ++ CannotTrace child errno ∷ more) g.is
          ∙ append_assoc then.reports g.more (CannotTrace child errno ∷ more);
    })

  was-read : WasTold k parent then later event → IsSeenTo k o parent child s before fork later
  was-read w = by (exchange_of k w.entry) refl
    where
      by : (y : Option Exchange) → exchange_of k w.entry ≡ y → IsSeenTo k o parent child s before fork later
      by None none =
          absurd (none-some event
          (ap (read_of parent (truss_after (truss_at k o before) (exchanges k w.before))) (sym none)
          ∙ w.reads))
      by (Some x) own = read-seen w x own (done w x own)

  -- ---- truss has not read it

  module _ (m : IsMissed (traces o) k o parent s h whole.missing) (none_after : rest ≡ []) where
    abbrev u : IsUnread (traces o) k o parent s h m.event
    u = m.unread

    no-list : (xs ys : List LwpEvent) (x : LwpEvent) → [] ≡ xs ++ (x ∷ [] ++ ys) → ⊥
    no-list xs ys x is =
        omega (arith, ap (λ (zs : List LwpEvent). length zs) is, length-append xs (x ∷ [] ++ ys))

    -- the missing event did not come behind the fork, since none came there
    not-behind : (between : List Entry) → u.before ≡ before ++ fork ∷ between → later ≡ between ++ u.entry ∷ u.later → ⊥
    unfolding rest picked
    not-behind between one two =
        let at : TrussState = truss_after then (exchanges k between) in
        let now : TracedState = state_after left_then between in
        let same_truss : truss_at k o u.before ≡ at =
        ap (truss_at k o) one
        ∙ ap (truss_after (first_truss o)) (exchanges-both k before (fork ∷ between)
        ∙ ap (λ (ys : List Exchange). exchanges k before ++ ys) (fork-exchanges between))
        ∙ after-append (first_truss o) (exchanges k before) (exchanges k between) in
        let same_state : state_after s u.before ≡ now =
        ap (state_after s) one ∙ state_after-both s before (fork ∷ between) in
        let here : watches at parent ≡ true = ap (λ (v : TrussState). watches v parent) (sym same_truss) ∙ u.watched in
        let came : picked_of (traces o) parent at now u.entry ≡ m.event ∷ [] =
        ap (λ b. picked (traces o) parent (cond b (events_of now u.entry) [])) here
        ∙ ap (λ (v : TracedState). picked (traces o) parent (events_of v u.entry)) (sym same_state) ∙ u.came in
        let front_part : List LwpEvent = picked (traces o) parent (events_watched k parent then left_then between) in
        let end_part : List LwpEvent =
        picked (traces o) parent (events_watched k parent (fed_by_entry k at u.entry) (after now u.entry) u.later) in
        no-list front_part end_part m.event
        (sym none_after
        ∙ ap (λ (es : List Entry). picked (traces o) parent (events_watched k parent then left_then es)) two
        ∙ watched-both (traces o) k parent o between (u.entry ∷ u.later) then left_then
        ∙ ap (λ (xs : List LwpEvent). front_part ++ xs)
        (watched-next k o parent (traces o) at now [] u.entry u.later
        ∙ ap (λ (xs : List LwpEvent). xs ++ end_part) came))

    -- no read of the process told anything behind the fork
    abbrev Reads : File → List Entry → Entry → Type 0
    Reads f between x = ReadsFile k parent f (state_after s (before ++ fork ∷ between)) x

    abbrev Unanswered : File → Type 0
    Unanswered f =
        (between behind : List Entry) (x : Entry) → u.later ≡ between ++ x ∷ behind
        → ReadsFile k parent f (state_after s (u.before ++ u.entry ∷ between)) x → ⊥

    silent : (f : File) → Unanswered f → (between behind : List Entry) (x : Entry) → later ≡ between ++ x ∷ behind
        → Reads f between x → ⊥
    silent f none between rear x is reads = by (compare u.before before u.entry fork u.later later (sym u.is))
      where
        by : Compares u.before u.entry u.later before fork later → ⊥
        by (behind middle one two) = not-behind middle one two
        by (same one two three) =
            none between rear x (three ∙ is)
            (subst (λ (es : List Entry). ReadsFile k parent f (state_after s es) x)
            (ap (λ (es : List Entry). es ++ turn_entry parent id turned ∷ between) (sym one)
            ∙ ap (λ (e : Entry). u.before ++ e ∷ between) (sym two)) reads)
        by (ahead middle one two) =
            none (middle ++ turn_entry parent id turned ∷ between) rear x
            (two ∙ ap (λ (es : List Entry). middle ++ turn_entry parent id turned ∷ es) is
            ∙ sym (append_assoc middle (turn_entry parent id turned ∷ between) (x ∷ rear)))
            (subst (λ (es : List Entry). ReadsFile k parent f (state_after s es) x)
            (ap (λ (es : List Entry). es ++ turn_entry parent id turned ∷ between) one
            ∙ append_assoc u.before (u.entry ∷ middle) (turn_entry parent id turned ∷ between)) reads)

    was-lost : WasLost k o parent s before fork later
    was-lost = record {
      killed = elim m.cause [
        | inl here ↦ absurd (false≢true (sym (finished-watches-none k o parent h finished) ∙ here))
        | inr killed ↦ killed
      ];
      status = silent Status u.status;
      lwps = silent Lstatus u.lwps;
    }

  missed-seen : whole.missing ≡ event ∷ [] → rest ≡ [] → IsSeenTo k o parent child s before fork later
  missed-seen one none_after = by whole.few
    where
      no-event : [] ≡ event ∷ [] → ⊥
      no-event is = cc

      by : (whole.missing ≡ []) ⊎ IsMissed (traces o) k o parent s h whole.missing
          → IsSeenTo k o parent child s before fork later
      by (inl none) = absurd (no-event (sym none ∙ one))
      by (inr m) = seen.lost (was-lost m none_after)

  -- ---- the law

  pub seen-to : IsSeenTo k o parent child s before fork later
  unfolding told_later
  seen-to =
      elim (told-or-missing front.missing rest told_later whole.missing event
      (few-missing k o parent s h whole.missing whole.few) since) [
        | inl was ↦ was-read (was-told (traces o) k parent event later then front.missing was.0 was.1)
        | inr missed ↦ missed-seen missed.0 missed.1
      ]

born : (n k : ℕ) (o : Options) (pid : ℕ) (s : TracedState) (h : List Entry) → IsReachedTrussRun n k o s h
    → IsLeftToTruss k o pid s h ⊎ IsNeverFollowed k o pid h → OpensAtBirth k o pid s h
born n k o pid s h run (inl left) = births n k o pid s h run left
born n k o pid s h run (inr unfollowed) = unfollowed-births k o pid s h unfollowed

pub none-left : (n k : ℕ) (o : Options) (s : TracedState) (h : List Entry) → o.follow ≡ true
    → IsReachedTrussRun n k o s h → next_call_of (truss_at k o h) ≡ None → LeavesNoChild k o s h
none-left n k o s h follow run finished = record {
  each = λ before later parent id child turned is of on made.
      seen-to n k o parent id child turned s before later follow (subst (IsReachedTrussRun n k o s) is run)
      (subst (OpensAtBirth k o parent s) is (born n k o parent s h run of)) on made
      (ap (λ (es : List Entry). next_call_of (truss_at k o es)) (sym is) ∙ finished);
}

pub ruleset children = (none-left)
