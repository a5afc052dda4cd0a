use Rattle.std.proofs.Common.{◌≡◌, ◌<◌, ◌&&◌, ◌++◌, not, ℕ, Bool, true, false, Option, Some, None, List, [], ◌∷◌, length}
use Rattle.std.proofs.Common.{append-nil, append_assoc, refl, sym, subst, ap, ◌∙◌, inl, inr, ◌⊎◌}
use Rattle.std.proofs.lemmas.Bool.{cases_eq, eq-eqb, eqb-true, false≢true, ne_eqb}
use Rattle.std.proofs.lemmas.List.Elements.{All-nil}
use Rattle.std.proofs.lemmas.Option.{none-some, same_Some}
use Rattle.std.specs.List.{All}
use Rattle.pr_line.specs.declared.options.Options.{Options}
use Rattle.pr_model.specs.Legal.{IsLegalEntry, after, state_after}
use Rattle.pr_model.specs.State.{TracedProcess, TracedState, TracedSystem, live_process}
use Rattle.pr_model.specs.declared.calls.Reply.TheVariants as reply
use Rattle.pr_model.specs.declared.events.Entry.{Entry}
use Rattle.pr_num.specs.declared.errnos.Errno.TheVariants.{Intr}
use Rattle.pr_report_laws.proofs.Files.FileLaws.{HasFiles, only-position}
use Rattle.pr_report_laws.proofs.Files.WatchHistories.{no-exchanges}
use Rattle.pr_report_laws.proofs.Invariant.StandLemmas.{IsAttached}
use Rattle.pr_report_laws.specs.Reads.{by_lwps, by_status}
use Rattle.pr_report_laws.specs.Shown.{LwpEvent, shown}
use Rattle.pr_report_laws.specs.Watching.{is_away, is_of, place_of, watches, watches_at}
use Rattle.pr_truss.specs.Asides.{marks_at}
use Rattle.pr_truss.specs.FunctionCalls.{next_function_call_of}
use Rattle.pr_truss.specs.FunctionFeeding.{fed_functions}
use Rattle.pr_truss.specs.Marks.{has_functions}
use Rattle.pr_truss.specs.Trusses.{TrussState, nobody, traced_at}
use Rattle.pr_truss.specs.declared.processes.Traced.{Traced}
use Rattle.pr_truss_laws.specs.Exchanges.{Exchange, exchange_of, exchanges}
use Rattle.pr_function_laws.proofs.Stepping.BreakpointLemmas.{IsOwnEntry, own-entry}
use Rattle.pr_function_laws.proofs.Listing.FinishedLaws.{missing-at-last}
use Rattle.pr_function_laws.proofs.LeavingProcesses.LeavingCourse.{awaited-free, begins-next, broken-answer, calm-next, entry-bytes}
use Rattle.pr_function_laws.proofs.LeavingProcesses.LeavingCourse.{files-at, goes-there, has-there, is-broken, leaving-next, makes-there}
use Rattle.pr_function_laws.proofs.LeavingProcesses.LeavingCourse.{entry-legal, same-system, state-next, truss-next}
use Rattle.pr_function_laws.proofs.LeavingProcesses.LeavingHolds.{away-looked}
use Rattle.pr_function_laws.proofs.LeavingProcesses.LeftProcesses.{IsLeaving, its-apart, next-left-unlooked}
use Rattle.pr_function_laws.proofs.Listing.AwaitedLooks.{AwaitsLook, StillOld}
use Rattle.pr_function_laws.proofs.Listing.LeavingListed.{entry-listed, still-next}
use Rattle.pr_function_laws.proofs.LeavingProcesses.LeavingStages.{IsLeft}
use Rattle.pr_function_laws.proofs.LeavingProcesses.LeavingSteps.{BeginsToLeave, WaitsAt, awaits_opening, begins-to-leave, polls}
use Rattle.pr_function_laws.proofs.Listing.ListedStates as states
use Rattle.pr_function_laws.proofs.Listing.ListedStates.{clear, comes-unread, due, hidden, lost, since-on, standing}
use Rattle.pr_function_laws.proofs.Listing.ListedSteps as steps
use Rattle.pr_function_laws.proofs.Listing.ListedWalk.{listed, shows-its-events}
use Rattle.pr_function_laws.proofs.Listing.OldStops.{still-while-old}
use Rattle.pr_function_laws.proofs.OpenedProcesses.OpenedCalls.{IsSo}
use Rattle.pr_function_laws.proofs.OpenedProcesses.OpenedLaws.{Goes}
use Rattle.pr_function_laws.proofs.OrdinaryTruss.OrdinaryEntries.{front-reached}
use Rattle.pr_function_laws.proofs.OrdinaryTruss.OrdinaryFiles.{entry-calm}
use Rattle.pr_function_laws.proofs.OrdinaryTruss.OrdinaryReplies.{at-ordinary}
use Rattle.pr_function_laws.proofs.OrdinaryTruss.OrdinaryShown.{shows-what-it-reads}
use Rattle.pr_function_laws.proofs.Pending.PendingWalk.{is_to_run}
use Rattle.pr_function_laws.proofs.Listing.RestPlaces.{RestsAt}
use Rattle.pr_function_laws.proofs.CallTurns.TurnWalks.{own-in}
use Rattle.pr_function_laws.specs.ListedEvents.{ListsItsEvents, MayMiss, ended, is_to_show, none, unread}
use Rattle.pr_function_laws.specs.ReachedRuns.{IsReachedFunctionRun}
use Rattle.pr_function_laws.specs.Opened.{IsFunctionRun, WasNotInterrupted, functions_at, is_opened}
use Rattle.pr_function_laws.specs.Ordinary.{ordinary}
use Rattle.pr_function_laws.specs.OrdinaryRuns.{ShowsInEntry, nothing_new, one_more}
use Rattle.pr_function_laws.specs.Runs.{functions_on}
use Rattle.pr_function_laws.specs.Soon.{may_wait}

-- The events of a process that truss has shown are those that it is to show, in each history, also where it is
-- interrupted and leaves its processes.

-- a process that awaits its last look is watched
pub awaits-watched : (k : ℕ) (t : TrussState) (s : TracedState) → HasFiles k (ordinary t) s → IsLeft t
    → t.leaving ≡ true → (pid place : ℕ) → AwaitsLook t pid place → watches t pid ≡ true
unfolding watches
awaits-watched k t s files at on pid place w =
    ap (watches_at t) there
    ∙ ap (λ l. (traced_at t place).attached && not (is_away l t.stage place)) on
    ∙ ap (λ b. b && not (is_away true t.stage place)) w.attached
    ∙ ap not (here (is_away true t.stage place) refl)
  where
    there : place_of t pid ≡ Some place
    there =
        only-position (is_of pid) t.traced nobody place w.within (eq-eqb (traced_at t place).pid pid w.its)
        (λ q inside passes. elim (cases_eq q place) [
          | inl one_place ↦ one_place
          | inr differs ↦ absurd
              (its-apart k t s files q place inside w.within differs
              (eqb-true (traced_at t q).pid pid passes ∙ sym w.its))
        ])

    here : (b : Bool) → is_away true t.stage place ≡ b → is_away true t.stage place ≡ false
    here false is = is
    here true is = let both = away-looked t place at is in absurd (w.unlooked both.1 both.0)

module _ (n k : ℕ) (o : Options) (s : TracedState) (h : List Entry) (run : IsReachedFunctionRun n k o s h)
    (pid : ℕ) where
  abbrev T : List Entry → TrussState
  T front = functions_at k o front

  abbrev S : List Entry → TracedState
  S front = state_after s front

  abbrev AwaitsAt : List Entry → ℕ → Type 0
  AwaitsAt f place = AwaitsLook (functions_at k o f) pid place

  abbrev Left : List Entry → Type 0
  Left f =
      IsLeaving (Unit {0}) k o (functions_at k o f) (state_after s f)
      × (states.Listed k o s pid AwaitsAt f × StillOld pid (functions_at k o f) (state_after s f))

  -- ---- the first interrupt

  module _ (f : List Entry) (e : Entry) (later : List Entry) (is : h ≡ f ++ e ∷ later)
      (calm : All WasNotInterrupted (exchanges k f)) (x : Exchange) (own : exchange_of k e ≡ Some x)
      (broken : x.reply ≡ reply.Fail Intr) where
    abbrev next : List Entry
    next = f ++ e ∷ []

    abbrev t : TrussState
    t = T f

    abbrev now : TracedState
    now = S f

    abbrev v : TrussState
    v = fed_functions t x.reply

    pub run-here : IsFunctionRun n k o s (f ++ e ∷ later)
    run-here = subst (λ (es : List Entry). IsFunctionRun n k o s es) is run.of

    pub run-front : IsReachedFunctionRun n k o s f
    run-front = front-reached n k o s f (e ∷ later) (subst (IsReachedFunctionRun n k o s) is run)

    -- what was so up to it
    abbrev RestsSo : List Entry → ℕ → Type 0
    RestsSo g place = RestsAt (functions_at k o g) pid place

    so-far : states.Listed k o s pid RestsSo f
    so-far = listed n k o s f run-front calm pid

    pub goes : Goes (Unit {0}) k o t now
    goes = goes-there (Unit {0}) n k o s h run.of (λ r. run.reached) (λ r. run.bytes) f e later is calm

    pub files : HasFiles k (ordinary t) now
    files = files-at (Unit {0}) n k o s h run.of (λ r. run.reached) (λ r. run.bytes) f (e ∷ later) is

    pub legal : IsLegalEntry n now e
    legal = entry-legal (Unit {0}) n k o s h run.of (λ r. run.reached) (λ r. run.bytes) f e later is

    it : IsOwnEntry k now e x
    it = own-entry n k now e x legal own

    pub sent : next_function_call_of t ≡ Some x.call
    sent = makes-there (Unit {0}) n k o s h run.of (λ r. run.reached) (λ r. run.bytes) f e later is x own

    pub has : has_functions t.options ≡ true
    has = has-there (Unit {0}) n k o s h run.of (λ r. run.reached) (λ r. run.bytes) f e later is

    may : may_wait x.call ≡ true
    may = let calm_x = entry-calm n k now e x legal own in calm_x.waits broken

    pub b : BeginsToLeave t v
    b =
        let g = goes in
        let w = g.kept in
        begins-to-leave (IsSo (Unit {0}) k t.options now) t x.reply has (broken-answer x broken) x.call may w.stage
        w.beside sent

    pub v-is : T next ≡ v
    v-is =
        truss-next (Unit {0}) n k o s h run.of (λ r. run.reached) (λ r. run.bytes) f e later is
        ∙ ap (functions_on t) own

    pub state-is : S next ≡ after now e
    state-is = state-next (Unit {0}) n k o s h run.of (λ r. run.reached) (λ r. run.bytes) f e later is

    -- the wait changes nothing of the machine
    pub system-is : (S next).system ≡ now.system
    system-is =
        ap (λ (u : TracedState). u.system) (state-is ∙ sym it.later)
        ∙ same-system (Unit {0}) n k o t now goes files e legal
        (λ r. entry-bytes (Unit {0}) n k o s h run.of (λ r. run.reached) (λ r. run.bytes) f e later is tt) x it sent has
        broken may

    pub was-live : (q : TracedProcess) → live_process (S next).system pid ≡ Some q
        → live_process now.system pid ≡ Some q
    was-live q live = ap (λ (u : TracedSystem). live_process u pid) (sym system-is) ∙ live

    pub lives-next : (q : TracedProcess) → live_process now.system pid ≡ Some q → live_process (S next).system pid ≡
        Some q
    lives-next q live = ap (λ (u : TracedSystem). live_process u pid) system-is ∙ live

    -- and reads nothing
    pub quiet : states.ReadsIts k o s pid f e → ⊥
    quiet (inl r) = false≢true (ap (λ (y : Exchange). may_wait y.call) (same_Some _ x (sym r.is ∙ own)) ∙ may)
    quiet (inr r) = false≢true (ap (λ (y : Exchange). may_wait y.call) (same_Some _ x (sym r.is ∙ own)) ∙ may)

    unshown : shown pid (T next) ≡ shown pid t
    unshown = by (let w = shows-what-it-reads n k o s h run.of in w.each f later e pid is)
      where
        by : ShowsInEntry k o pid s f e → shown pid (T next) ≡ shown pid t
        by (nothing_new same) = same
        by (one_more w (by_status r) chosen not_own) = absurd (quiet (inl r.read))
        by (one_more w (by_lwps r) chosen not_own) = absurd (quiet (inr r.read))

    pub old-same : (i : ℕ) → (traced_at v i).old ≡ (traced_at t i).old
    old-same i =
        let w = b in
        let shares = w.shares in
        elim (cases_eq i 0) [
          | inl zero_i ↦
              ap (λ j. (traced_at v j).old) zero_i ∙ w.old ∙ ap (λ j. (traced_at t j).old) (sym zero_i)
          | inr other ↦ shares.olds i other
        ]

    pub marks-same : (i : ℕ) → marks_at v i ≡ marks_at t i
    marks-same i =
        let w = b in
        let shares = w.shares in
        elim (cases_eq i 0) [
          | inl zero_i ↦ ap (marks_at v) zero_i ∙ w.marks ∙ ap (marks_at t) (sym zero_i)
          | inr other ↦ shares.marks i other
        ]

    -- where a process stands by which truss waits
    pub open-there : WaitsAt t → (i : ℕ) → (traced_at t i).attached ≡ true
        → (is_opened t.stage i ≡ true) × (is_to_run t.stage i ≡ false)
    open-there (polls at) i attached = (ap (λ st. is_opened st i) at, ap (λ st. is_to_run st i) at)
    open-there (awaits_opening q until at) i attached = (
      ap (λ st. is_opened st i) at
          ∙ ap not (ne_eqb q i (λ same.
          false≢true (sym (awaited-free k t now files q until at) ∙ ap (λ j. (traced_at t j).attached) same
          ∙ attached))),
      ap (λ st. is_to_run st i) at,
    )

    still-begun : StillOld pid (T next) (S next)
    still-begun =
        subst (λ (u : TrussState). StillOld pid u (S next)) (sym v-is) (λ place within its attached unlooked old q live.
        let begun = b in
        let shares = begun.shares in
        let there = open-there begun.waits place (sym (shares.attached place) ∙ attached) in
        let still = still-while-old n k o s h run pid in
        still.each f (e ∷ later) place q is calm (subst (λ m. place < m) shares.many within)
        (sym (shares.pids place) ∙ its) there.0 (λ none. old (old-same place ∙ none)) (was-live q live))

    rested : (i : ℕ) → AwaitsLook (T next) pid i → RestsAt t pid i
    rested i rest =
        let w : AwaitsLook v pid i = subst (λ (u : TrussState). AwaitsLook u pid i) v-is rest in
        let begun = b in
        let shares = begun.shares in
        let there = open-there begun.waits i (sym (shares.attached i) ∙ w.attached) in
        record {
          within = subst (λ m. i < m) shares.many w.within;
          its = sym (shares.pids i) ∙ w.its;
          opened = there.0;
          away = there.1;
          new = sym (old-same i) ∙ w.new;
        }

    awaits-now : (place : ℕ) → RestsAt t pid place → AwaitsLook (T next) pid place
    awaits-now place w =
        let begun = b in
        let shares = begun.shares in
        let g = goes in
        let its : IsAttached (traced_at (ordinary t) place) =
        steps.attached n k o s f (e ∷ later) pid run-here (IsSo (Unit {0}) k t.options now) g.kept place w in
        let on_v : (traced_at v place).attached ≡ true =
        shares.attached place ∙ ap (λ (u : Traced). u.attached) (sym (at-ordinary t place)) ∙ its.attached in
        let inside : place < length v.traced = subst (λ m. place < m) (sym shares.many) w.within in
        subst (λ (u : TrussState). AwaitsLook u pid place) (sym v-is)
        (record {
          within = inside;
          its = shares.pids place ∙ w.its;
          attached = on_v;
          unlooked = next-left-unlooked v begun.next place inside on_v;
          new = old-same place ∙ w.new;
        })

    stands-begun : {missing : List LwpEvent} → states.Stands k o s pid RestsSo f missing
        → states.Stands k o s pid AwaitsAt next missing
    unfolding since-on
    stands-begun (clear unmet) =
        clear (λ i rest q live. unmet i (rested i rest) q (was-live q live))
    stands-begun (standing place w p live event on missing m) =
        standing place (awaits-now place w) p (lives-next p live) event on missing (by m)
      where
        by : {missing : List LwpEvent} → states.Missing k o s pid f place event p missing
            → states.Missing k o s pid next place event p missing
        by (hidden off) =
            hidden (ap (λ m. is_to_show o m event.event) (ap (λ (u : TrussState). marks_at u place) v-is
            ∙ marks-same place) ∙ off)
        by (due chosen since kept_so) =
            due (ap (λ m. is_to_show o m event.event) (ap (λ (u : TrussState). marks_at u place) v-is
            ∙ marks-same place) ∙ chosen) (since-on k o s pid f e event since quiet) kept_so
    stands-begun (lost event w made gone was_killed) =
        states.lost-next k o s pid n h run.of f e later is (let g = goes in g.lawful) legal AwaitsAt event w made gone
        was_killed

    listed-begun : states.Listed k o s pid AwaitsAt next
    listed-begun =
        let so = so-far in
        states.same-listed k o s pid n h run.of f e later is (let g = goes in g.lawful) legal AwaitsAt so.missing so.are
        (states.elsewhere-empty k o s pid n h run.of f e later is (let g = goes in g.lawful) legal
        (λ i. own-in k pid i e.actor e.act x own)) unshown (stands-begun so.stands)

  -- ---- all entries

  data Along (f : List Entry) : Type 0 where
    calm_yet : All WasNotInterrupted (exchanges k f) → Along f
    left_now : Left f → Along f

  entry-along : (f : List Entry) (e : Entry) (later : List Entry) → h ≡ f ++ e ∷ later → Along f
      → Along (f ++ e ∷ [])
  entry-along f e later is (calm_yet calm) = by (exchange_of k e) refl
    where
      by-broken : (x : Exchange) → exchange_of k e ≡ Some x → (x.reply ≡ reply.Fail Intr) ⊎ WasNotInterrupted x
          → Along (f ++ e ∷ [])
      by-broken x own (inr quiet_x) =
          calm_yet (calm-next (Unit {0}) n k o s h run.of (λ r. run.reached) (λ r. run.bytes) f e later is calm
          (λ y same. subst WasNotInterrupted (same_Some x y (sym own ∙ same)) quiet_x))
      by-broken x own (inl broken) =
          left_now (
            begins-next (Unit {0}) n k o s h run.of (λ r. run.reached) (λ r. run.bytes) f e later is calm x own broken,
            (listed-begun f e later is calm x own broken, still-begun f e later is calm x own broken),
          )

      by : (x : Option Exchange) → exchange_of k e ≡ x → Along (f ++ e ∷ [])
      by None none_own =
          calm_yet (calm-next (Unit {0}) n k o s h run.of (λ r. run.reached) (λ r. run.bytes) f e later is calm
          (λ y same. absurd (none-some y (sym none_own ∙ same))))
      by (Some x) own = by-broken x own (is-broken x)
  entry-along f e later is (left_now w) =
      left_now (
        leaving-next (Unit {0}) n k o s h run.of (λ r. run.reached) (λ r. run.bytes) f e later is w.0,
        (
          entry-listed n k o s h run pid f e later is w.0 w.1.1 w.1.0,
          still-next n k o s h run pid f e later is w.0 w.1.1,
        ),
      )

  walk : (mid f later : List Entry) → h ≡ f ++ (mid ++ later) → Along f → Along (f ++ mid)
  walk [] f later is a = subst Along (sym (append-nil f)) a
  walk (e ∷ mid) f later is a =
      subst Along (append_assoc f (e ∷ []) mid)
      (walk mid (f ++ e ∷ []) later (is ∙ sym (append_assoc f (e ∷ []) (mid ++ later)))
      (entry-along f e (mid ++ later) is a))

  whole : h ≡ h ++ []
  whole = sym (append-nil h)

  along-at : (f later : List Entry) → h ≡ f ++ later → Along f
  along-at f later is =
      walk f [] later is (calm_yet (subst (All WasNotInterrupted) (sym (no-exchanges k)) (All-nil WasNotInterrupted)))

  -- after each front of the history
  pub listed-at : (f later : List Entry) → h ≡ f ++ later → states.ListedSo k o s pid f
  listed-at f later is = by (along-at f later is)
    where
      by : Along f → states.ListedSo k o s pid f
      by (calm_yet calm) =
          states.listed-so k o s pid (λ g place. RestsAt (functions_at k o g) pid place) f
          (listed n k o s f (front-reached n k o s f later (subst (IsReachedFunctionRun n k o s) is run)) calm pid)
      by (left_now w) = states.listed-so k o s pid AwaitsAt f w.1.0

  pub lists-its-events : ListsItsEvents k o s h pid
  unfolding comes-unread
  lists-its-events = by (along-at h [] whole)
    where
      files-end : HasFiles k (ordinary (T h)) (S h)
      files-end = files-at (Unit {0}) n k o s h run.of (λ r. run.reached) (λ r. run.bytes) h [] whole

      by-missing : IsLeaving (Unit {0}) k o (T h) (S h) → (place : ℕ) (w : AwaitsLook (T h) pid place)
          (p : TracedProcess) → live_process (S h).system pid ≡ Some p
          → (event : LwpEvent) (missing : List LwpEvent) → states.Missing k o s pid h place event p missing
          → MayMiss k o s h pid missing
      by-missing g place w p live event missing (hidden off) = none
      by-missing g place w p live event missing (due chosen since kept_so) =
          unread event (comes-unread k o s pid h event since)
          (awaits-watched k (T h) (S h) files-end g.at g.on pid place w) p live

      by-stands : IsLeaving (Unit {0}) k o (T h) (S h) → {missing : List LwpEvent}
          → states.Stands k o s pid AwaitsAt h missing → MayMiss k o s h pid missing
      by-stands g (clear unmet) = none
      by-stands g (standing place w p live event on missing m) = by-missing g place w p live event missing m
      by-stands g (lost event w made gone was_killed) =
          ended event (comes-unread k o s pid h event w) gone was_killed

      by : Along h → ListsItsEvents k o s h pid
      by (calm_yet calm) = shows-its-events n k o s h run calm pid
      by (left_now w) =
          let so = w.1.0 in
          let few : MayMiss k o s h pid so.missing = by-stands w.0 so.stands in
          record {
            missing = so.missing;
            are = so.are;
            few = few;
            at_last = λ finished some. missing-at-last n k o s h run.of finished pid few some;
          }
