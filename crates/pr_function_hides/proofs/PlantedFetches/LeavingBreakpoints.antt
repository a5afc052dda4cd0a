use Rattle.std.proofs.Common.{◌≡◌, ◌⊎◌, ◌<◌, ◌++◌, ℕ, true, false, not, Option, Some, None, List, [], ◌∷◌, length, append-nil, append_assoc, refl, sym, subst, ap, ◌∙◌, inl, inr}
use Rattle.std.proofs.lemmas.Bool.{cases_eq, false≢true, ne_eqb}
use Rattle.std.proofs.lemmas.Option.{none-some, same_Some}
use Rattle.std.proofs.lemmas.List.Elements.{All-nil}
use Rattle.std.specs.List.{All}
use Rattle.pr_function_hides.proofs.PlantedFetches.CalmEntries as Calm
use Rattle.pr_function_hides.proofs.LeavingCopies.CopyStill.{may-can}
use Rattle.pr_function_hides.proofs.Replacing.ReplacedTurns.{taking-halts}
use Rattle.pr_function_hides.proofs.PlantedFetches.ForeignEntries.{AllHold, Takes, foreign-leaves}
use Rattle.pr_function_hides.proofs.PlantedFetches.ShutHalts.{opening-unplanted}
use Rattle.pr_function_hides.proofs.PlantedFetches.StandingBreakpoints as Standing
use Rattle.pr_function_hides.proofs.CodeThere.TurnCode.{HoldsCode, holds-same}
use Rattle.pr_function_hides.proofs.PlantedFetches.UnattachedBare.{HasNoneUnattached, LeavesNone, none-begun, none-fed}
use Rattle.pr_function_hides.specs.Copying.{IsEmpty}
use Rattle.pr_function_hides.specs.FunctionHiders.{ArePatchable}
use Rattle.pr_function_hides.specs.PlantedBreakpoints.{LeavesPlanted, breakpoint_of}
use Rattle.pr_function_laws.proofs.Stepping.BreakpointLemmas.{IsForeign, IsOwnEntry, foreign-entry, own-entry}
use Rattle.pr_function_laws.proofs.Marks.KeptPlaces.{Kept}
use Rattle.pr_function_laws.proofs.LeavingProcesses.LeavingCourse.{broken-answer, calm-next, entry-bytes, entry-legal, files-at, follow-there, has-there, is-broken, leaving-at, makes-there, options-at, same-system, state-next, truss-next}
use Rattle.pr_function_laws.proofs.LeavingProcesses.LeavingFacts.{Moved, alone, directs, moved-halting, stays}
use Rattle.pr_function_laws.proofs.LeavingProcesses.LeftProcesses.{IsLeaving, Lasts, foreign-lasts, its-control}
use Rattle.pr_function_laws.proofs.LeavingProcesses.UnlookedProcesses.{behind}
use Rattle.pr_function_laws.proofs.LeavingProcesses.LeavingStages.{IsUnlooked}
use Rattle.pr_function_laws.proofs.LeavingProcesses.LeavingSteps.{BeginsToLeave, WaitsAt, awaits_opening, begins-to-leave, polls}
use Rattle.pr_function_laws.proofs.Listing.ListedSteps.{opened-attached}
use Rattle.pr_function_laws.proofs.OpenedProcesses.OpenedCalls.{IsSo}
use Rattle.pr_function_laws.proofs.OrdinaryTruss.OrdinaryFiles.{entry-calm}
use Rattle.pr_function_laws.proofs.OrdinaryTruss.OrdinaryReplies.{at-ordinary}
use Rattle.pr_function_laws.proofs.OpenedProcesses.StoodLemmas.{Stood, as_stopped, waits}
use Rattle.pr_function_laws.proofs.OpenedProcesses.TracedSets.{IsSetBy}
use Rattle.pr_function_laws.specs.Lifted.{HasControl}
use Rattle.pr_function_laws.specs.ReachedRuns.{IsReachedFunctionRun}
use Rattle.pr_function_laws.specs.Opened.{IsFunctionRun, TracesAll, WasNotInterrupted, functions_at, is_opened}
use Rattle.pr_function_laws.specs.Ordinary.{ordinary}
use Rattle.pr_function_laws.specs.Runs.{functions_on}
use Rattle.pr_function_laws.specs.Soon.{may_wait}
use Rattle.pr_line.specs.declared.options.Options.{Options}
use Rattle.pr_model.specs.Legal.{IsLegalEntry, after, state_after}
use Rattle.pr_model.specs.LwpTurns.{LwpTurn}
use Rattle.pr_model.specs.State.{TracedProcess, TracedState, TracedSystem, live_process}
use Rattle.pr_model.specs.Stops.{with_all_directed}
use Rattle.pr_model.specs.declared.calls.Reply.TheVariants as reply
use Rattle.pr_model.specs.declared.events.Act.{Act}
use Rattle.pr_model.specs.declared.events.Actor.{Actor}
use Rattle.pr_model.specs.declared.events.Entry.{Entry}
use Rattle.pr_num.specs.declared.errnos.Errno.TheVariants.{Intr}
use Rattle.pr_report_laws.proofs.Files.FileLaws.{HasFiles}
use Rattle.pr_report_laws.proofs.Files.WatchHistories.{no-exchanges}
use Rattle.pr_report_laws.proofs.Invariant.StandLemmas.{Each}
use Rattle.pr_report_laws.proofs.Machine.OwnTurnLaws.{event-halts}
use Rattle.pr_truss.specs.Asides.{marks_at}
use Rattle.pr_truss.specs.FunctionCalls.{next_function_call_of}
use Rattle.pr_truss.specs.FunctionFeeding.{fed_functions}
use Rattle.pr_truss.specs.Marks.{has_functions}
use Rattle.pr_truss.specs.Trusses.{TrussState, traced_at}
use Rattle.pr_truss.specs.declared.marks.Marks.{Marks}
use Rattle.pr_truss.specs.declared.processes.Traced.{Traced}
use Rattle.pr_truss.specs.declared.stages.OpeningStep.TheVariants as opening
use Rattle.pr_truss.specs.declared.stages.Stage.{Stage}
use Rattle.pr_truss_laws.proofs.Machine.StillLemmas.{frozen-turns}
use Rattle.pr_truss_laws.specs.Exchanges.{Exchange, exchange_of, exchanges}
use Rattle.pr_truss_laws.specs.Stills.{IsHalting}

-- Where truss leaves its processes: until it has looked at a process for the last time, the breakpoint of each function
-- that it has marked there stands, or each lwp of the process stands still or will stop. So it is also where a vfork or
-- an exec takes the memory then: the lwp that made it stops at its exit, and truss runs no process any more.

-- ---- a process that truss has moved, or that others left alone

moved-holds : (f : _) (p q : TracedProcess) → Moved p q → HoldsCode f p → HoldsCode f q
unfolding with_all_directed
moved-holds f p q (stays is) holds = subst (HoldsCode f) is holds
moved-holds f p q (directs is) holds = subst (HoldsCode f) is (holds-same f p (with_all_directed p) refl refl holds)
moved-holds f p q (alone w) holds =
    let memory = w.memory in
    let kept = memory.own holds.own in
    holds-same f p q (kept.0 ∙ sym holds.own) kept.1 holds

module _ (n k : ℕ) (o : Options) (s : TracedState) (h : List Entry) (run : IsReachedFunctionRun n k o s h)
    (fit : ArePatchable o) (spared : LeavesPlanted k o s h) where
  abbrev pub truss : List Entry → TrussState
  truss front = functions_at k o front

  abbrev pub here : List Entry → TracedState
  here front = state_after s front

  -- how a process stands at which truss has not looked
  abbrev pub Fine : List Entry → ℕ → Type 0
  Fine front q =
      (traced_at (truss front) q).attached ≡ true → IsUnlooked (truss front).stage q → (p : TracedProcess)
      → live_process (here front).system (traced_at (truss front) q).pid ≡ Some p
      → IsHalting p ⊎ AllHold o (marks_at (truss front) q) p

  pub record Left (front : List Entry) : Type 0 where
    pub none : LeavesNone (truss front)
    pub fine : (q : ℕ) → q < length (truss front).traced → Fine front q

  -- ---- the first interrupt

  module _ (front : List Entry) (e : Entry) (later : List Entry) (is : h ≡ front ++ e ∷ later)
      (calm : All WasNotInterrupted (exchanges k front)) (x : Exchange) (mine : exchange_of k e ≡ Some x)
      (broken : x.reply ≡ reply.Fail Intr) where
    abbrev t : TrussState
    t = truss front

    abbrev now : TracedState
    now = here front

    abbrev next_front : List Entry
    next_front = front ++ e ∷ []

    abbrev v : TrussState
    v = fed_functions t x.reply

    legal : IsLegalEntry n now e
    legal = Calm.legal n k o s h run front e later is calm

    own : IsOwnEntry k now e x
    own = Calm.own n k o s h run front e later is calm x mine

    sent : next_function_call_of t ≡ Some x.call
    sent = Calm.next n k o s h run front e later is calm x mine

    has : has_functions t.options ≡ true
    has = Calm.has n k o s h run front e later is calm

    kept : Kept (IsSo (Unit {0}) k t.options now) t
    kept = Calm.kept n k o s h run front e later is calm

    may : may_wait x.call ≡ true
    may = let calm_x = entry-calm n k now e x legal mine in calm_x.waits broken

    b : BeginsToLeave t v
    b =
        let w = kept in
        begins-to-leave (IsSo (Unit {0}) k t.options now) t x.reply has (broken-answer x broken) x.call may w.stage
        w.beside sent

    v-is : truss next_front ≡ v
    v-is = Calm.fed-truss n k o s h run front e later is calm x mine

    system-is : (here next_front).system ≡ now.system
    unfolding own
    system-is =
        ap (λ (u : TracedState). u.system)
        (sym (Calm.left-state n k o s h run front e later is calm x mine))
        ∙ same-system (Unit {0}) n k o t now (Calm.goes n k o s h run front e later is calm)
        (files-at (Unit {0}) n k o s h run.of (λ r. run.reached) (λ r. run.bytes) front (e ∷ later) is) e legal
        (λ r. entry-bytes (Unit {0}) n k o s h run.of (λ r. run.reached) (λ r. run.bytes) front e later is tt) x own
        sent has broken
        may

    marks-same : (i : ℕ) → marks_at v i ≡ marks_at t i
    marks-same i =
        let w = b in
        let shares = w.shares in
        elim (cases_eq i 0) [
          | inl zero_i ↦ ap (marks_at v) zero_i ∙ w.marks ∙ ap (marks_at t) (sym zero_i)
          | inr other ↦ shares.marks i other
        ]

    -- of those that it has opened it has attached each; in the others nothing is planted
    opened-so : (q : ℕ) → q < length t.traced → is_opened t.stage q ≡ true → (traced_at t q).attached ≡ true
    opened-so q within opened =
        let a =
        opened-attached n k o s front (e ∷ later) (traced_at t q).pid
        (subst (λ (es : List Entry). IsFunctionRun n k o s es) is run.of) (IsSo (Unit {0}) k t.options now) kept q
        within opened in
        ap (λ (u : Traced). u.attached) (sym (at-ordinary t q)) ∙ a.attached

    waiting-none : WaitsAt t → Each HasNoneUnattached t.traced
    waiting-none (polls at) q within free =
        absurd (false≢true (sym free ∙ opened-so q within (ap (λ (st : Stage). is_opened st q) at)))
    waiting-none (awaits_opening a until at) q within free = elim (cases_eq a q) [
      | inl same ↦
          subst (λ i. IsEmpty (marks_at t i).planted) same
          (opening-unplanted n k o s h run front (e ∷ later) is calm a
          (subst (λ i. i < length t.traced) (sym same) within) (opening.AwaitStop until) at refl)
      | inr other ↦
          absurd (false≢true
          (sym free
          ∙ opened-so q within (ap (λ (st : Stage). is_opened st q) at ∙ ap not (ne_eqb a q other))))
    ]

    began : Left next_front
    began = record {
      none =
          subst LeavesNone (sym v-is)
          (none-begun t x.reply (Calm.follow n k o s h run front e later is calm) has
          (Calm.apart n k o s h run front e later is calm)
          (let w = b in waiting-none w.waits) (broken-answer x broken) x.call (may-can x.call may)
          (Calm.at-stage n k o s h run front e later is calm)
          (Calm.at-aside n k o s h run front e later is calm) sent);
      fine = λ q within attached unlooked p live.
          let w = b in
          let shares = w.shares in
          let inside : q < length t.traced =
          subst (λ m. q < m) (ap (λ (u : TrussState). length u.traced) v-is ∙ shares.many) within in
          let pid_is : (traced_at (truss next_front) q).pid ≡ (traced_at t q).pid =
          ap (λ (u : TrussState). (traced_at u q).pid) v-is ∙ shares.pids q in
          let was_live : live_process now.system (traced_at t q).pid ≡ Some p =
          ap (live_process now.system) (sym pid_is)
          ∙ ap (λ (u : TracedSystem). live_process u (traced_at (truss next_front) q).pid) (sym system-is) ∙ live in
          let its_marks : marks_at (truss next_front) q ≡ marks_at t q =
          ap (λ (u : TrussState). marks_at u q) v-is ∙ marks-same q in
          by q p was_live its_marks
          (Standing.stand-at n k o s h run fit spared front (e ∷ later) is calm q inside p
          was_live);
    }
      where
        by : (q : ℕ) (p : TracedProcess) → live_process now.system (traced_at t q).pid ≡ Some p
            → marks_at (truss next_front) q ≡ marks_at t q
            → Standing.Waits n k o s h run fit spared front (traced_at t q).pid
            ⊎ AllHold o (marks_at t q) p → IsHalting p ⊎ AllHold o (marks_at (truss next_front) q) p
        by q p live marks (inl w) =
            let pending = w.pending in
            let it = pending.is in
            inl (event-halts p w.id w.event (it.has p (ap (live_process now.system) w.own ∙ live)))
        by q p live marks (inr hold) = inr (subst (λ (m : Marks). AllHold o m p) (sym marks) hold)

  -- ---- an entry where it leaves them

  module _ (front : List Entry) (actor : Actor) (did : Act) (later : List Entry)
      (is : h ≡ front ++ record { actor = actor; act = did } ∷ later) (was : Left front) where
    abbrev entry : Entry
    entry = record { actor = actor; act = did }

    abbrev leaver : TrussState
    leaver = truss front

    abbrev state : TracedState
    state = here front

    abbrev longer : List Entry
    longer = front ++ entry ∷ []

    leaving : IsLeaving (Unit {0}) k o leaver state
    leaving =
        let w = was.none in
        leaving-at (Unit {0}) n k o s h run.of (λ r. run.reached) (λ r. run.bytes) front (entry ∷ later) is w.on

    files : HasFiles k (ordinary leaver) state
    files = files-at (Unit {0}) n k o s h run.of (λ r. run.reached) (λ r. run.bytes) front (entry ∷ later) is

    is-legal : IsLegalEntry n state entry
    is-legal = entry-legal (Unit {0}) n k o s h run.of (λ r. run.reached) (λ r. run.bytes) front entry later is

    next-truss : truss longer ≡ functions_on leaver (exchange_of k entry)
    next-truss = truss-next (Unit {0}) n k o s h run.of (λ r. run.reached) (λ r. run.bytes) front entry later is

    next-state : here longer ≡ after state entry
    next-state = state-next (Unit {0}) n k o s h run.of (λ r. run.reached) (λ r. run.bytes) front entry later is

    options-are : leaver.options ≡ o
    options-are = options-at (Unit {0}) n k o s h run.of (λ r. run.reached) (λ r. run.bytes) front (entry ∷ later) is

    has-it : has_functions leaver.options ≡ true
    has-it = has-there (Unit {0}) n k o s h run.of (λ r. run.reached) (λ r. run.bytes) front entry later is

    follow-it : leaver.options.follow ≡ false
    follow-it = follow-there (Unit {0}) n k o s h run.of (λ r. run.reached) (λ r. run.bytes) front entry later is

    -- ---- of others

    module _ (none : exchange_of k entry ≡ None) (q : ℕ) (within : q < length leaver.traced)
        (attached : (traced_at leaver q).attached ≡ true) (unlooked : IsUnlooked leaver.stage q) (y : TracedProcess)
        (behind_live : live_process (after state entry).system (traced_at leaver q).pid ≡ Some y) where
      abbrev pid : ℕ
      pid = (traced_at leaver q).pid

      abbrev m : Marks
      m = marks_at leaver q

      foreign : IsForeign k state entry
      foreign = foreign-entry n k state entry is-legal none

      control : HasControl k pid (traced_at leaver q).control state
      control = its-control k leaver state files q within

      lasting : (p : TracedProcess) × ((live_process state.system pid ≡ Some p) × Lasts p y)
      lasting =
          let g = leaving in
          foreign-lasts n k o leaver state g.lawful actor did is-legal foreign pid (traced_at leaver q).control control
          y behind_live

      abbrev p : TracedProcess
      p = lasting.0

      p-live : live_process state.system pid ≡ Some p
      p-live = lasting.1.0

      -- one of its lwps takes the memory
      takes-halts : Takes state pid entry y → IsHalting y
      takes-halts w =
          let g = leaving in by (g.stood tt q within attached unlooked p p-live)
        where
          all : TracesAll o p.control
          all = let g = leaving in let set : IsSetBy o None p = g.sets q within attached p p-live in set.0

          by : Stood 0 (traced_at leaver q).old p → IsHalting y
          by (as_stopped stopped few) =
              let g = leaving in
              let at = g.reached tt in
              taking-halts o state (let l = g.lawful in l.system) at.fit pid w.id
              (record { system = w.next; turned = w.turned }) w.taken w.takes p y p-live all few w.later
          by (waits still flags) =
              absurd (none-some (let turn : LwpTurn = record { system = w.next; turned = w.turned } in turn)
              (sym (frozen-turns state.system pid p p-live still.frozen w.id) ∙ w.taken))

      foreign-fine : IsHalting y ⊎ AllHold o m y
      foreign-fine = by (was.fine q within attached unlooked p p-live)
        where
          of : Takes state pid entry y ⊎ AllHold o m y → IsHalting y ⊎ AllHold o m y
          of (inl w) = inl (takes-halts w)
          of (inr stands) = inr stands

          by : IsHalting p ⊎ AllHold o m p → IsHalting y ⊎ AllHold o m y
          by (inl halts) = inl (let lasts = lasting.1.1 in lasts.halting halts)
          by (inr hold) =
              of (let g = leaving in
              foreign-leaves n k o s h fit spared front actor did later is options-are g.lawful is-legal none q within
              control p y p-live behind_live hold)

    foreign-left : exchange_of k entry ≡ None → Left longer
    foreign-left none = record {
      none = subst LeavesNone (sym same) was.none;
      fine = λ q.
          subst (λ (u : TrussState). q < length u.traced → (traced_at u q).attached ≡ true → IsUnlooked u.stage q
          → (y : TracedProcess) → live_process (here longer).system (traced_at u q).pid ≡ Some y
          → IsHalting y ⊎ AllHold o (marks_at u q) y) (sym same)
          (λ within attached unlooked y live.
          foreign-fine none q within attached unlooked y
          (ap (λ (u : TracedState). live_process u.system (traced_at leaver q).pid) (sym next-state) ∙ live));
    }
      where
        same : truss longer ≡ leaver
        same = next-truss ∙ ap (functions_on leaver) none

    -- ---- of truss

    module _ (x : Exchange) (mine : exchange_of k entry ≡ Some x) where
      abbrev leaver_next : TrussState
      leaver_next = fed_functions leaver x.reply

      own-it : IsOwnEntry k state entry x
      own-it = own-entry n k state entry x is-legal mine

      asked-next : next_function_call_of leaver ≡ Some x.call
      asked-next =
          makes-there (Unit {0}) n k o s h run.of (λ r. run.reached) (λ r. run.bytes) front entry later is x mine

      leaver-next-is : truss longer ≡ leaver_next
      leaver-next-is = next-truss ∙ ap (functions_on leaver) mine

      own-fine : (i : ℕ) → i < length leaver_next.traced → (traced_at leaver_next i).attached ≡ true
          → IsUnlooked leaver_next.stage i
          → (y : TracedProcess) → live_process (here longer).system (traced_at leaver_next i).pid ≡ Some y
          → IsHalting y ⊎ AllHold o (marks_at leaver_next i) y
      own-fine i within attached unlooked y live =
          let w =
          behind (Unit {0}) n k o leaver state leaving files entry is-legal
          (λ r. entry-bytes (Unit {0}) n k o s h run.of (λ r. run.reached) (λ r. run.bytes) front entry later is tt) x
          own-it asked-next has-it
          follow-it i within attached unlooked in
          let it = own-it in
          let y_live : live_process it.answer.state.system (traced_at leaver w.q).pid ≡ Some y =
          ap (live_process it.answer.state.system) (sym w.pid)
          ∙ ap (λ (u : TracedState). live_process u.system (traced_at leaver_next i).pid) (it.later ∙ sym next-state)
          ∙ live in
          let before = w.was y y_live in
          by (marks_at leaver w.q) w.marks before.0 before.1.1
          (was.fine w.q w.within w.attached w.unlooked before.0 before.1.0)
        where
          by : (m : Marks) → marks_at leaver_next i ≡ m → (p : TracedProcess) → Moved p y → IsHalting p ⊎ AllHold o m p
              → IsHalting y ⊎ AllHold o (marks_at leaver_next i) y
          by m marks p moved (inl halts) = inl (moved-halting p y moved halts)
          by m marks p moved (inr hold) =
              inr (subst (λ (a : Marks). AllHold o a y) (sym marks)
              (λ j f named planted. moved-holds (breakpoint_of f) p y moved (hold j f named planted)))

      own-left : Left longer
      own-left = record {
        none = subst LeavesNone (sym leaver-next-is) (none-fed leaver x.reply follow-it has-it was.none);
        fine = λ q.
            subst (λ (u : TrussState). q < length u.traced → (traced_at u q).attached ≡ true → IsUnlooked u.stage q
            → (y : TracedProcess) → live_process (here longer).system (traced_at u q).pid ≡ Some y
            → IsHalting y ⊎ AllHold o (marks_at u q) y) (sym leaver-next-is) (own-fine q);
      }

    left-next : Left longer
    left-next = by (exchange_of k entry) refl
      where
        by : (x : Option Exchange) → exchange_of k entry ≡ x → Left longer
        by None none = foreign-left none
        by (Some x) mine = own-left x mine

  -- ---- a history

  -- truss was not interrupted so far, or it leaves its processes
  pub data CourseOf (front : List Entry) : Type 0 where
    goes_calm : All WasNotInterrupted (exchanges k front) → CourseOf front
    has_left : Left front → CourseOf front

  entry-course : (front : List Entry) (e : Entry) (later : List Entry) → h ≡ front ++ e ∷ later → CourseOf front
      → CourseOf (front ++ e ∷ [])
  entry-course front e later is (has_left w) = has_left (left-next front e.actor e.act later is w)
  entry-course front e later is (goes_calm calm) = by (exchange_of k e) refl
    where
      on : ((x : Exchange) → exchange_of k e ≡ Some x → WasNotInterrupted x) → CourseOf (front ++ e ∷ [])
      on quiet =
          goes_calm
          (calm-next (Unit {0}) n k o s h run.of (λ r. run.reached) (λ r. run.bytes) front e later is calm quiet)

      of : (x : Exchange) → exchange_of k e ≡ Some x → (x.reply ≡ reply.Fail Intr) ⊎ WasNotInterrupted x
          → CourseOf (front ++ e ∷ [])
      of x mine (inl broken) = has_left (began front e later is calm x mine broken)
      of x mine (inr quiet) = on (λ y its. subst WasNotInterrupted (same_Some x y (sym mine ∙ its)) quiet)

      by : (x : Option Exchange) → exchange_of k e ≡ x → CourseOf (front ++ e ∷ [])
      by None none = on (λ y its. absurd (none-some y (sym none ∙ its)))
      by (Some x) mine = of x mine (is-broken x)

  walk : (mid front later : List Entry) → h ≡ front ++ (mid ++ later) → CourseOf front → CourseOf (front ++ mid)
  walk [] front later is c = subst CourseOf (sym (append-nil front)) c
  walk (e ∷ mid) front later is c =
      subst CourseOf (append_assoc front (e ∷ []) mid)
      (walk mid (front ++ e ∷ []) later (is ∙ sym (append_assoc front (e ∷ []) (mid ++ later)))
      (entry-course front e (mid ++ later) is c))

  pub course-of : (front later : List Entry) → h ≡ front ++ later → CourseOf front
  course-of front later is =
      walk front [] later is
      (goes_calm (subst (All WasNotInterrupted) (sym (no-exchanges k)) (All-nil WasNotInterrupted)))
