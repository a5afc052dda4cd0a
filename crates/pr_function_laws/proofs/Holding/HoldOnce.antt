use Rattle.std.proofs.Common.{◌≡◌, ◌⊎◌, ◌<◌, ◌++◌, ℕ, Bool, true, false, Option, Some, None, List, [], ◌∷◌, length, append-nil, append_assoc, refl, sym, subst, ap, ◌∙◌, arith, inl, inr}
use Rattle.std.proofs.lemmas.Bool.{cases_Bool, false≢true}
use Rattle.std.specs.List.{All, cons_option, slice_get}
use Rattle.pr_line.specs.declared.options.Options.{Options}
use Rattle.pr_model.specs.Legal.{state_after}
use Rattle.pr_model.specs.State.{TracedState}
use Rattle.pr_model.specs.declared.calls.Call.TheVariants as call
use Rattle.pr_model.specs.declared.calls.File.{File}
use Rattle.pr_model.specs.declared.calls.Reply.{Reply}
use Rattle.pr_model.specs.declared.events.Entry.{Entry}
use Rattle.pr_rec.specs.declared.lwps.LwpStatus.{LwpStatus}
use Rattle.pr_report_laws.proofs.Files.FileLaws.{HasFiles}
use Rattle.pr_report_laws.proofs.Files.WatchHistories.{Reaches, exchanges-push, no-exchanges}
use Rattle.pr_report_laws.proofs.Invariant.StandLemmas.{Leaves, Stands}
use Rattle.pr_report_laws.proofs.OwnFiles.KeptOpen.{closes-unwatched}
use Rattle.pr_report_laws.proofs.Replies.StageChanges.{Asks, Ends, away_before, gone, is_new, looked, runs, status, text, unfollows}
use Rattle.pr_report_laws.proofs.Replies.WatchedPlaces.{IsWatched}
use Rattle.pr_report_laws.proofs.Watching.HistoryParts.{all-front}
use Rattle.pr_report_laws.specs.Attachments.{HasFile, WasInterrupted}
use Rattle.pr_report_laws.specs.Holds.{LetsGoIn}
use Rattle.pr_report_laws.specs.OwnOpens.{IsGoingOn}
use Rattle.pr_report_laws.specs.Watching.{watches}
use Rattle.pr_truss.specs.Feeding.{fed}
use Rattle.pr_truss.specs.FunctionFeeding.{fed_functions}
use Rattle.pr_truss.specs.Trusses.{TrussState, first_of_program, first_truss, idle, opening_or}
use Rattle.pr_truss.specs.declared.stages.AfterClosing.{AfterClosing}
use Rattle.pr_truss.specs.declared.stages.AfterClosing.TheVariants.{RunParent}
use Rattle.pr_truss.specs.declared.stages.Stage.{Stage}
use Rattle.pr_truss.specs.declared.stages.Stage.TheVariants.{ReadingText, OpeningChild, Running, Closing}
use Rattle.pr_truss_laws.proofs.Replies.FedSteps.{fed-step}
use Rattle.pr_truss_laws.proofs.Replies.ReplySteps as step
use Rattle.pr_truss_laws.proofs.Replies.ReplySteps.{Closes, GoesOn, Learns, Looks, Opens, Reads, ReplyStep, Returns, StopOver, Turns}
use Rattle.pr_truss_laws.specs.Exchanges.{Exchange, exchange_of, exchanges}
use Rattle.pr_function_laws.proofs.ShownOnce.GoingOn.{Going}
use Rattle.pr_function_laws.proofs.Holding.HoldEnds.{EndsWatch, goes-off, leaves-interrupted, watch-ends}
use Rattle.pr_function_laws.proofs.Holding.HoldLaws.{hold-watched}
use Rattle.pr_function_laws.proofs.Holding.HoldOpens.{gets-off, gets-watches}
use Rattle.pr_function_laws.proofs.Holding.HoldReasons.{goes-for-reason}
use Rattle.pr_function_laws.proofs.OrdinaryTruss.OrdinaryEntries as entries
use Rattle.pr_function_laws.proofs.OrdinaryTruss.OrdinaryEntries.{along, front-run, watches-ordinary}
use Rattle.pr_function_laws.proofs.OrdinaryTruss.OrdinaryExchanges.{Turn, goes_on, goes_out}
use Rattle.pr_function_laws.proofs.OrdinaryTruss.OrdinaryFiles.{Follows}
use Rattle.pr_function_laws.proofs.OrdinaryTruss.OrdinaryLaws.{plain-next}
use Rattle.pr_function_laws.proofs.ShownOnce.WatchedOnce.{IsOver, off-after, over-on}
use Rattle.pr_function_laws.specs.Holds.{GetsHoldWithFunctions, HasHoldWithFunctions, KeepsItsHolds}
use Rattle.pr_function_laws.specs.Opened.{IsFunctionRun, functions_at}
use Rattle.pr_function_laws.specs.Ordinary.{ordinary}
use Rattle.pr_function_laws.specs.Runs.{functions_after}

-- Truss with calls of functions gets hold of a process once: where it lets one go it has polled, or was interrupted,
-- and then it opens none any more.

-- ---- it runs a process, and reads memory, once it has polled

-- Truss leaves its processes, or has polled.
abbrev HasPolled : Bool → List Exchange → Type 0
HasPolled leaving done = (leaving ≡ true) ⊎ (All IsGoingOn done → ⊥)

-- what is so at a stage; none runs the parent of a child
abbrev Polled : Bool → List Exchange → Stage → Type 0
Polled leaving done (ReadingText place l from len) = HasPolled leaving done
Polled leaving done (Running place) = HasPolled leaving done
Polled leaving done (Closing place (RunParent parent)) = ⊥
Polled leaving done _ = Unit {0}

polled-more : (leaving : Bool) (done then : List Exchange) (stage : Stage) → (All IsGoingOn then → All IsGoingOn done)
    → Polled leaving done stage → Polled leaving then stage
polled-more leaving done then (ReadingText place l from len) less (inl on) = inl on
polled-more leaving done then (ReadingText place l from len) less (inr polled) = inr (λ all. polled (less all))
polled-more leaving done then (Running place) less (inl on) = inl on
polled-more leaving done then (Running place) less (inr polled) = inr (λ all. polled (less all))
polled-more leaving done then (Closing place (RunParent parent)) less w = w
polled-more leaving done then _ less w = tt

module _ (u : TrussState) (r : Reply) (done then : List Exchange) (less : All IsGoingOn then → All IsGoingOn done)
    (going : Going done u.stage) (stands : Leaves u.leaving u.stage) (polled : Polled u.leaving done u.stage) where
  abbrev Now : TrussState → Type 0
  Now v = Polled v.leaving then v.stage

  childless : {A : Type 0} (stage : Stage) → u.stage ≡ stage → (Going done stage → ⊥) → A
  childless stage here none = absurd (none (subst (Going done) here going))

  reads-polled : (stage : Stage) (place : ℕ) (l : Option LwpStatus) → u.stage ≡ stage → Reads u r stage place l
      → HasPolled u.leaving then
  reads-polled stage place l here (step.reads_status {place = at} _) =
      inr (λ all. (subst (Going done) here going) (less all))
  reads-polled stage place l here (step.reads_none {place = at} _) =
      inr (λ all. (subst (Going done) here going) (less all))
  reads-polled stage place l here (step.reads_lwps _) = inl (subst (Leaves u.leaving) here stands)

  looks-polled : (stage : Stage) (place : ℕ) (pid : Option ℕ) (z : TrussState) → u.stage ≡ stage
      → Looks u r stage place pid z → HasPolled u.leaving then
  looks-polled stage place pid z here (step.passes w) = reads-polled stage place _ here w.reads
  looks-polled stage place pid z here (step.passes_old reads _ _) = reads-polled stage place _ here reads
  looks-polled stage place pid z here (step.passes_event reads _ _) = reads-polled stage place _ here reads
  looks-polled stage place pid z here (step.shows reads _ _ _) = reads-polled stage place _ here reads
  looks-polled stage place pid z here (step.shows_text {l = l} {from = from} {len = len}) =
      elim (subst (Polled u.leaving done) here polled) [
        | inl on ↦ inl on
        | inr before ↦ inr (λ all. before (less all))
      ]

  looks-leaving : (stage : Stage) (place : ℕ) (pid : Option ℕ) (z : TrussState) → Looks u r stage place pid z
      → z.leaving ≡ u.leaving
  looks-leaving stage place pid z (step.passes _) = refl
  looks-leaving stage place pid z _ = refl

  over-now : (z v : TrussState) (place : ℕ) (pid : Option ℕ) → HasPolled z.leaving then → StopOver z place pid v → Now v
  over-now z v place pid has (step.runs _) = has
  over-now z v place pid has (step.leaves _) = tt
  over-now z v place pid has (step.opens_child _) = tt
  over-now z v place pid has (step.frees_child _) = tt

  on-now : (z v : TrussState) (given : Bool) → GoesOn z given v → Now v
  on-now z v given (step.polls _ _) = tt
  on-now z v given (step.unfollows _ _ _) = tt
  on-now z v given (step.finishes _) = tt
  on-now z v given (step.closes_first _ _ _) = tt
  on-now z v given (step.opens_next _) = tt

  closes-now : (stage : Stage) (place : ℕ) (next : AfterClosing) (z : TrussState) → u.stage ≡ stage
      → Closes u r stage place next z → Polled z.leaving then (Closing place next)
  closes-now stage place next z here (step.refuses_child {parent = parent} {now = now} _ _) =
      childless (OpeningChild parent place now) here (λ none. none)
  closes-now stage place next z here (step.child_ended {parent = parent} _) = childless stage here (λ none. none)
  closes-now stage place next z here (step.status_ended _) = tt
  closes-now stage place next z here (step.text_ended _) = tt
  closes-now stage place next z here (step.run_ended _) = tt
  closes-now stage place next z here (step.left_ended _) = tt
  closes-now stage place next z here (step.looked_last _) = tt
  closes-now stage place next z here step.freed_last = tt
  closes-now stage place next z here (step.freed_none _) = tt
  closes-now stage place next z here (step.refuses_free _ _) = tt
  closes-now stage place next z here (step.refuses_opening _ _) = tt

  opens-now : (place : ℕ) (stage next : Stage) (pid : ℕ) (leaving : Bool) → Opens place stage pid next
      → Polled leaving then next
  opens-now place stage next pid leaving step.new_given = tt
  opens-now place stage next pid leaving step.new_child = tt

  learns-now : (stage next : Stage) (place : ℕ) (t : _) (leaving : Bool) → Learns u r stage place t next
      → Polled leaving then next
  learns-now stage next place t leaving (step.opening_goes _) = tt
  learns-now stage next place t leaving (step.child_goes _) = tt

  turns-now : (stage next : Stage) (leaving : Bool) → Turns u r stage next → Polled leaving then next
  turns-now stage next leaving (step.starts _) = tt
  turns-now stage next leaving step.polls_again = tt
  turns-now stage next leaving (step.is_named _) = tt
  turns-now stage next leaving step.unfollowed = tt
  turns-now stage next leaving (step.frees _) = tt
  turns-now stage next leaving step.frees_on = tt
  turns-now stage next leaving step.has_finished = tt

  returns-now : {A : Type 0} (stage : Stage) (parent : ℕ) (z : TrussState) → u.stage ≡ stage
      → Returns u r stage parent z → A
  returns-now stage parent z here (step.refuses_child_control _ _) = childless stage here (λ none. none)
  returns-now stage parent z here (step.child_runs _) = childless stage here (λ none. none)
  returns-now stage parent z here (step.child_closed {place = place} _) =
      absurd (subst (Polled u.leaving done) here polled)

  step-now : (stage : Stage) (v : TrussState) → u.stage ≡ stage → ReplyStep u r stage v → Now v
  step-now stage v here (step.settles {given = given} {u = z} w on) = on-now z v given on
  step-now stage v here (step.looks {place = place} {pid = pid} {u = z} w over) =
      over-now z v place pid
      (subst (λ b. HasPolled b then) (sym (looks-leaving stage place pid z w)) (looks-polled stage place pid z here w))
      over
  step-now stage v here (step.asks {place = place} reads _ _ _) = reads-polled stage place _ here reads
  step-now stage v here (step.closes {place = place} {next = next} {u = z} w) =
      closes-now stage place next z here w
  step-now stage v here (step.loses {place = place} {next = next} _) =
      polled-more u.leaving done then (Closing place next) less (subst (Polled u.leaving done) here polled)
  step-now stage v here (step.opens {next = next} {pid = pid} _ w) = opens-now _ stage next pid u.leaving w
  step-now stage v here (step.learns {next = next} {place = place} {t = t} _ w) =
      learns-now stage next place t u.leaving w
  step-now stage v here (step.returns {parent = parent} {u = z} w) = returns-now stage parent z here w
  step-now stage v here (step.turns {next = next} w) = turns-now stage next u.leaving w

  fed-polled : Polled (fed u r).leaving then (fed u r).stage
  fed-polled = step-now u.stage (fed u r) refl (fed-step u r)

first-polled : (o : Options) (done : List Exchange) → Polled (first_truss o).leaving done (first_truss o).stage
unfolding first_truss
first-polled o done = by o.program
  where
    pids : (p : Option ℕ)
        → Polled (opening_or (idle o) (idle o) p).leaving done (opening_or (idle o) (idle o) p).stage
    pids None = tt
    pids (Some pid) = tt

    by : (p : Option (List ℕ)) → Polled (first_of_program o p).leaving done (first_of_program o p).stage
    by None = pids (slice_get o.pids 0)
    by (Some program) = tt

module _ (n k : ℕ) (o : Options) (s : TracedState) where
  abbrev Run : List Entry → Type 0
  Run h = IsFunctionRun n k o s h

  abbrev PolledOf : TrussState → List Exchange → Type 0
  PolledOf t xs = Polled t.leaving xs t.stage

  abbrev PolledAt : List Entry → Type 0
  PolledAt h = Polled (functions_at k o h).leaving (exchanges k h) (functions_at k o h).stage

  module _ (before later : List Entry) (e : Entry) (run : Run (before ++ e ∷ later)) where
    abbrev t : TrussState
    t = functions_at k o before

    there : Follows k o t (state_after s before)
    there = entries.follows n k o s before later e run

    stands-so : Stands (ordinary t).traced t.leaving t.stage
    stands-so =
        let g : Reaches k (ordinary t) (state_after s before) = there.reaches in
        let files : HasFiles k (ordinary t) (state_after s before) = g.files in files.stands

    going-so : Going (exchanges k before) t.stage
    going-so = entries.going n k o s before later e run

    pushed-own : (x : Option Exchange) → exchange_of k e ≡ x
        → exchanges k (before ++ e ∷ []) ≡ exchanges k before ++ cons_option x []
    pushed-own x own = exchanges-push k before e ∙ ap (λ y. exchanges k before ++ cons_option y []) own

    -- the later exchanges are more
    fewer : (x : Exchange) → All IsGoingOn (exchanges k before ++ x ∷ []) → All IsGoingOn (exchanges k before)
    fewer x all = all-front IsGoingOn (exchanges k before) (x ∷ []) all

    turn-polled : (x : Exchange) → Turn t x → PolledAt before
        → Polled (fed_functions t x.reply).leaving (exchanges k before ++ x ∷ []) (fed_functions t x.reply).stage
    turn-polled x (goes_out sees passes stay) w =
        subst (λ (z : TrussState). Polled z.leaving (exchanges k before ++ x ∷ []) z.stage) (sym stay)
        (polled-more t.leaving (exchanges k before) (exchanges k before ++ x ∷ []) t.stage (fewer x) w)
    turn-polled x (goes_on y like called comes) w =
        let stands = stands-so in
        subst (λ (z : TrussState). Polled z.leaving (exchanges k before ++ x ∷ []) z.stage) (sym comes)
        (fed-polled (ordinary t) y.reply (exchanges k before) (exchanges k before ++ x ∷ []) (fewer x) going-so
        stands.leaves w)

    entry-polled : PolledAt before → PolledAt (before ++ e ∷ [])
    entry-polled w = by (exchange_of k e) refl
      where
        by : (x : Option Exchange) → exchange_of k e ≡ x → PolledAt (before ++ e ∷ [])
        by None own =
            subst (λ xs. PolledOf (functions_at k o (before ++ e ∷ [])) xs)
            (sym (pushed-own None own ∙ append-nil (exchanges k before)))
            (subst (λ (z : TrussState). Polled z.leaving (exchanges k before) z.stage)
            (sym (entries.unmoved n k o s before later e run own)) w)
        by (Some x) own =
            subst (λ xs. PolledOf (functions_at k o (before ++ e ∷ [])) xs)
            (sym (pushed-own (Some x) own))
            (subst (λ (z : TrussState). Polled z.leaving (exchanges k before ++ x ∷ []) z.stage)
            (sym (entries.pushed n k o s before later e run x own))
            (turn-polled x (entries.turned n k o s before later e run x own) w))

  polled-at : (h : List Entry) → Run h → PolledAt h
  polled-at h run =
      along PolledAt
      (subst (λ xs. Polled (functions_after (first_truss o) xs).leaving xs (functions_after (first_truss o) xs).stage)
      (sym (no-exchanges k)) (first-polled o []))
      h (λ before later e is w. entry-polled before later e (subst Run is run) w)

  -- ---- where it lets a process go

  module _ (pid : ℕ) where
    abbrev On : List Entry → Type 0
    On h = watches (functions_at k o h) pid ≡ true

    abbrev Over : List Entry → Type 0
    Over h = IsOver n k o pid s h

    module _ (before later : List Entry) (e : Entry) (run : Run (before ++ e ∷ later)) (on : On before) where
      abbrev was : TrussState
      was = functions_at k o before

      polled-over : HasPolled was.leaving (exchanges k before) → Over before
      polled-over (inl leaving) = inr leaving
      polled-over (inr polled) = inl polled

      asks-over : (place : ℕ) → Asks was.stage place → Over before
      asks-over place (status is) = inl (subst (Going (exchanges k before)) is (going-so before later e run))
      asks-over place (text l from len is) =
          polled-over
          (subst (Polled was.leaving (exchanges k before)) is
          (polled-at before (front-run n k o s before (e ∷ later) run)))
      asks-over place (runs is) =
          polled-over
          (subst (Polled was.leaving (exchanges k before)) is
          (polled-at before (front-run n k o s before (e ∷ later) run)))
      asks-over place (unfollows is first) =
          let stands = stands-so before later e run in inr (subst (Leaves was.leaving) is stands.leaves)

      ends-over : (r : Reply) (place : ℕ) → IsWatched (ordinary was) pid place → Ends (ordinary was) r place
          → Over before
      ends-over r place w (away_before away) = absurd (false≢true (sym w.here ∙ away))
      ends-over r place w (is_new last) = absurd (nowhere w.within last)
        where
          nowhere : place < length (ordinary was).traced → place ≡ length (ordinary was).traced → ⊥
          nowhere within is = omega arith
      ends-over r place w (gone told asks) = asks-over place asks
      ends-over r place w (looked is first) =
          let stands = stands-so before later e run in inr (subst (Leaves was.leaving) is stands.leaves)

      pub lost-over : watches (functions_at k o (before ++ e ∷ [])) pid ≡ false → Over before
      lost-over off =
          let w : EndsWatch n k o pid s before later e run = watch-ends n k o pid s before later e run on off in
          ends-over w.y.reply w.place w.watched w.ends

    -- ---- it is not watched again

    pub lost : (between later front : List Entry) → Run (front ++ (between ++ later)) → On front
        → watches (functions_at k o (front ++ between)) pid ≡ false
        → watches (functions_at k o (front ++ (between ++ later))) pid ≡ false
    lost [] later front run on off =
        absurd (false≢true (sym off ∙ ap (λ h. watches (functions_at k o h) pid) (append-nil front) ∙ on))
    lost (e ∷ between) later front run on off =
        let split : Run ((front ++ e ∷ []) ++ (between ++ later)) =
        subst Run (sym (append_assoc front (e ∷ []) (between ++ later))) run in
        let whole : (front ++ e ∷ []) ++ (between ++ later) ≡ front ++ e ∷ (between ++ later) =
        append_assoc front (e ∷ []) (between ++ later) in
        elim (cases_Bool (watches (functions_at k o (front ++ e ∷ [])) pid)) [
          | inl still ↦
              ap (λ h. watches (functions_at k o h) pid) (sym whole)
              ∙ lost between later (front ++ e ∷ []) split still
              (ap (λ h. watches (functions_at k o h) pid) (append_assoc front (e ∷ []) between) ∙ off)
          | inr gone_now ↦
              ap (λ h. watches (functions_at k o h) pid) (sym whole)
              ∙ off-after n k o pid s (between ++ later) (front ++ e ∷ []) split
              (over-on n k o pid s front (between ++ later) e run
              (lost-over front (between ++ later) e run on gone_now)) gone_now
        ]

-- ---- the laws

module _ (n k : ℕ) (o : Options) (s : TracedState) (h : List Entry) (run : IsFunctionRun n k o s h) where
  once-only : (before between later : List Entry) (e f : Entry) (pid : ℕ) → h ≡ before ++ e ∷ (between ++ f ∷ later)
      → GetsHoldWithFunctions k o pid before e → GetsHoldWithFunctions k o pid (before ++ e ∷ between) f → ⊥
  once-only before between later e f pid is one two =
      let all : IsFunctionRun n k o s (before ++ e ∷ (between ++ f ∷ later)) = subst (IsFunctionRun n k o s) is run in
      let first : IsFunctionRun n k o s (before ++ e ∷ []) =
      front-run n k o s (before ++ e ∷ []) (between ++ f ∷ later)
      (subst (IsFunctionRun n k o s) (sym (append_assoc before (e ∷ []) (between ++ f ∷ later))) all) in
      let joined : before ++ e ∷ (between ++ f ∷ []) ≡ (before ++ e ∷ between) ++ f ∷ [] =
      sym (append_assoc before (e ∷ between) (f ∷ [])) in
      let second : IsFunctionRun n k o s ((before ++ e ∷ between) ++ f ∷ []) =
      front-run n k o s ((before ++ e ∷ between) ++ f ∷ []) later
      (subst (IsFunctionRun n k o s)
      (sym (append_assoc (before ++ e ∷ between) (f ∷ []) later ∙ append_assoc before (e ∷ between) (f ∷ later)))
      all) in
      let split : before ++ e ∷ (between ++ f ∷ []) ≡ (before ++ e ∷ []) ++ (between ++ f ∷ []) =
      sym (append_assoc before (e ∷ []) (between ++ f ∷ [])) in
      let off =
      lost n k o s pid between (f ∷ []) (before ++ e ∷ [])
      (subst (IsFunctionRun n k o s) (sym joined ∙ split) second)
      (gets-watches n k o pid s before e first one)
      (ap (λ es. watches (functions_at k o es) pid) (append_assoc before (e ∷ []) between)
      ∙ gets-off n k o pid s (before ++ e ∷ between) f second two) in
      false≢true
      (sym off ∙ ap (λ es. watches (functions_at k o es) pid) (sym split ∙ joined)
      ∙ gets-watches n k o pid s (before ++ e ∷ between) f second two)

  closes-none : (before later : List Entry) (e : Entry) (pid handle : ℕ) (f : File) (r : Reply)
      → h ≡ before ++ e ∷ later → exchange_of k e ≡ Some (record { call = call.Close handle; reply = r })
      → HasFile k pid f handle (state_after s before) → HasHoldWithFunctions k o pid s before → ⊥
  closes-none before later e pid handle f r is own mine held =
      let all : IsFunctionRun n k o s (before ++ e ∷ later) = subst (IsFunctionRun n k o s) is run in
      let x : Exchange = record { call = call.Close handle; reply = r } in
      let t : TrussState = functions_at k o before in
      let w : Follows k o t (state_after s before) = entries.follows n k o s before later e all in
      let off =
      closes-unwatched k pid (ordinary t) (state_after s before) w.reaches handle f mine
      (plain-next n k o s before later e x all own refl) in
      false≢true
      (sym off ∙ watches-ordinary t pid
      ∙ hold-watched n k o pid s before (front-run n k o s before (e ∷ later) all) held)

  goes-late : (before later : List Entry) (e : Entry) (pid : ℕ) → h ≡ before ++ e ∷ later
      → HasHoldWithFunctions k o pid s before → LetsGoIn k pid s before e
      → (All IsGoingOn (exchanges k before) → ⊥) ⊎ WasInterrupted k before
  goes-late before later e pid is held goes =
      let all : IsFunctionRun n k o s (before ++ e ∷ later) = subst (IsFunctionRun n k o s) is run in
      let on = hold-watched n k o pid s before (front-run n k o s before (e ∷ later) all) held in
      elim (lost-over n k o s pid before later e all on (goes-off n k o pid s before later e all on goes)) [
        | inl polled ↦ inl polled
        | inr leaving ↦ inr (leaves-interrupted n k o pid s before later e all leaving)
      ]

pub keeps-its-holds : (n k : ℕ) (o : Options) (s : TracedState) (h : List Entry) → IsFunctionRun n k o s h
    → KeepsItsHolds k o s h
keeps-its-holds n k o s h run = record {
  once = λ before between later e f pid is one two.
      once-only n k o s h run before between later e f pid is one two;
  closes_none = λ before later e pid handle f r is own mine held.
      closes-none n k o s h run before later e pid handle f r is own mine held;
  lets_go = λ before later e pid is held goes. goes-late n k o s h run before later e pid is held goes;
  reasons = λ before later e pid is goes. goes-for-reason n k o s h run before later e pid is goes;
}

pub ruleset holds_once = (keeps-its-holds)
