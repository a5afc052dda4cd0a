use Rattle.std.proofs.Common.{◌≡◌, ◌≢◌, ◌⊎◌, ◌<◌, ◌==◌, ◌++◌, ℕ, Bool, true, cond, Option, Some, None, List, [], ◌∷◌, length, append-nil, append_assoc, refl, sym, subst, ap, ◌∙◌, inl, inr}
use Rattle.std.proofs.lemmas.Bool.{cases_Bool, cases_eq, false≢true}
use Rattle.std.proofs.lemmas.List.{get_or-set_other, length-set}
use Rattle.std.proofs.lemmas.Option.{none-some, same_Some}
use Rattle.std.specs.List.{All, slice_get}
use Rattle.std.specs.Option.{option_and_then}
use Rattle.pr_function_hides.proofs.PlantedFetches.BreakpointCalls.{SparesIt, own-hold, planted-holds, quiet-spares, write-spares}
use Rattle.pr_function_hides.proofs.PlantedFetches.CalmEntries as Calm
use Rattle.pr_function_hides.proofs.Copying.CopyFeeds.{event-fed}
use Rattle.pr_function_hides.proofs.Replies.CountedWalk.{AsideIn, TrussIn}
use Rattle.pr_function_hides.proofs.FirstPlanted.FirstFunctions.{IsFirstOf, one-first}
use Rattle.pr_function_hides.proofs.Replies.FunctionSets.{first-has, has-none, has-with, has-without}
use Rattle.pr_function_hides.proofs.Replies.OwnFiles.{IsBeside, IsWithin}
use Rattle.pr_function_hides.proofs.Tidy.OwnTidy.{Quiet, is-sent, stage-kind}
use Rattle.pr_function_hides.proofs.Tidy.OwnWrites.{breakpoint-size, code-is, named-at, write-is}
use Rattle.pr_function_hides.proofs.Replies.PlantedReplies.{AfterAside, AfterStage, LeftSo, So, fed-so, first-so-truss, planted_after}
use Rattle.pr_function_hides.proofs.Replies.PlantedWalk.{IsAlike, event-kept, marks_then}
use Rattle.pr_function_hides.proofs.Replacing.ReplacedTurns as Turns
use Rattle.pr_function_hides.proofs.Replacing.ReplacedTurns.{TellsReplacement, tells-replaced}
use Rattle.pr_function_hides.proofs.PlantedFetches.ForeignEntries.{AllHold, Takes, foreign-leaves, patchable-at}
use Rattle.pr_function_hides.proofs.PlantedFetches.ShutHalts.{unopened-halts}
use Rattle.pr_function_hides.proofs.Tidy.StillMessages.{cfault-still, read-still}
use Rattle.pr_function_hides.proofs.CodeThere.TurnCode.{HoldsCode}
use Rattle.pr_function_hides.proofs.Replies.UnplantedReplies.{then-planted}
use Rattle.pr_function_hides.specs.Copying.{IsEmpty}
use Rattle.pr_function_hides.specs.CountedFunctions.{takes_memory}
use Rattle.pr_function_hides.specs.FunctionHiders.{ArePatchable, IsPatchable}
use Rattle.pr_function_hides.specs.PlantedBreakpoints.{LeavesPlanted, breakpoint_of}
use Rattle.pr_function_laws.proofs.Stepping.BreakpointLemmas.{IsOwnEntry}
use Rattle.pr_function_laws.proofs.Pending.FrontLemmas.{all-entry, calm-answer}
use Rattle.pr_function_laws.proofs.Marks.KeptPlaces.{AtStage}
use Rattle.pr_function_laws.proofs.Listing.ListedSteps.{opened-attached}
use Rattle.pr_function_laws.proofs.Marks.MarkLemmas.{first-below}
use Rattle.pr_function_laws.proofs.OpenedProcesses.OpenedCalls.{IsSo}
use Rattle.pr_function_laws.proofs.OrdinaryTruss.OrdinaryReplies.{at-ordinary}
use Rattle.pr_function_laws.proofs.OrdinaryTruss.OrdinaryStops.{FitsAside}
use Rattle.pr_function_laws.proofs.Pending.PendingPlaces.{IsSame, Pends}
use Rattle.pr_function_laws.proofs.Pending.PendingReads as Reads
use Rattle.pr_function_laws.proofs.Pending.PendingWalk.{IsStill, On, Pending, entry-next, on-stays, on-turns}
use Rattle.pr_function_laws.proofs.Listing.OldStops.{still-while-old}
use Rattle.pr_function_laws.proofs.Marks.SoundLemmas.{AsideIsBelow}
use Rattle.pr_function_laws.specs.ReachedRuns.{IsReachedFunctionRun}
use Rattle.pr_function_laws.specs.Opened.{IsFunctionRun, WasNotInterrupted, functions_at, is_opened}
use Rattle.pr_function_laws.specs.Runs.{functions_after}
use Rattle.pr_line.specs.Events.{event_of}
use Rattle.pr_line.specs.declared.events.Event.{Event}
use Rattle.pr_line.specs.declared.functions.Function.{Function}
use Rattle.pr_line.specs.declared.options.Options.{Options}
use Rattle.pr_model.proofs.TurnLemmas.{turn-taken}
use Rattle.pr_model.specs.Calls.{answer_to}
use Rattle.pr_model.specs.Legal.{after, state_after}
use Rattle.pr_model.specs.LwpTurns.{LwpTurn, turn_of}
use Rattle.pr_model.specs.Replies.{bytes_in}
use Rattle.pr_model.specs.State.{TracedProcess, TracedState, live_process}
use Rattle.pr_model.specs.Statuses.{lwpstatus_of}
use Rattle.pr_model.specs.declared.calls.Call.TheVariants as call
use Rattle.pr_model.specs.declared.calls.Reply.{Reply}
use Rattle.pr_model.specs.declared.calls.Reply.TheVariants as reply
use Rattle.pr_model.specs.declared.events.Act.{Act}
use Rattle.pr_model.specs.declared.events.Act.TheVariants as act
use Rattle.pr_model.specs.declared.events.Actor.{Actor}
use Rattle.pr_model.specs.declared.events.Actor.TheVariants.{Lwp}
use Rattle.pr_model.specs.declared.events.Entry.{Entry}
use Rattle.pr_model.specs.declared.events.Turned.{Turned}
use Rattle.pr_num.specs.Messages.{spelling}
use Rattle.pr_num.specs.Words.{IsByte}
use Rattle.pr_num.specs.declared.instructions.Instruction.TheVariants.{Bpt}
use Rattle.pr_num.specs.declared.messages.Message.TheVariants as message
use Rattle.pr_reached.proofs.StatesInRange.MemoryRanges.{instruction-bytes}
use Rattle.pr_rec.specs.declared.lwps.LwpStatus.{LwpStatus}
use Rattle.pr_report_laws.proofs.Files.WatchHistories.{exchanges-both, no-exchanges}
use Rattle.pr_report_laws.proofs.Invariant.StandLemmas.{Each, EachBut, each-but}
use Rattle.pr_report_laws.proofs.Watching.HistoryParts.{all-front}
use Rattle.pr_report_laws.specs.Positions.{HasEvent}
use Rattle.pr_report_laws.specs.Shown.{LwpEvent}
use Rattle.pr_truss.specs.Asides.{marks_at, with_marks}
use Rattle.pr_truss.specs.FunctionCalls.{call_beside, function_call_of, next_function_call_of, patch_call, plant_call}
use Rattle.pr_truss.specs.FunctionEvents.{fresh_event, function_event}
use Rattle.pr_truss.specs.FunctionFeeding.{fed_functions}
use Rattle.pr_truss.specs.FunctionStops.{with_function_event}
use Rattle.pr_truss.specs.Marks.{breakpoint, code_of, first_function, has_function, has_functions, no_marks, with_function, without_function}
use Rattle.pr_truss.specs.NextCalls.{call_of, next_call_of, read_record}
use Rattle.pr_truss.specs.Processes.{without_last}
use Rattle.pr_truss.specs.Records.{status_lwp}
use Rattle.pr_truss.specs.Replies.{answer_of}
use Rattle.pr_truss.specs.Trusses.{TrussState, first_truss, nobody, traced_at}
use Rattle.pr_truss.specs.declared.asides.Aside.{Aside}
use Rattle.pr_truss.specs.declared.asides.Aside.TheVariants.{Nothing, Reading, Planting, Patching}
use Rattle.pr_truss.specs.declared.function_events.FunctionEvent.TheVariants.{Replaced}
use Rattle.pr_truss.specs.declared.marks.Marks.{Marks}
use Rattle.pr_truss.specs.declared.processes.Traced.{Traced}
use Rattle.pr_truss.specs.declared.replies.Answer.{Answer}
use Rattle.pr_truss.specs.declared.replies.Answer.TheVariants.{Accepted, Gone, Interrupted, Refused}
use Rattle.pr_truss.specs.declared.stages.AfterClosing.TheVariants.{GoOn, OpenNext}
use Rattle.pr_truss.specs.declared.stages.Stage.{Stage}
use Rattle.pr_truss.specs.declared.stages.Stage.TheVariants.{Spawning, OpeningControl, Opening, Polling, ReadingStatus, ReadingText, Running, Closing, Finished}
use Rattle.pr_truss_laws.proofs.Files.HeldLemmas.{set-at}
use Rattle.pr_truss_laws.proofs.Machine.StillLemmas.{frozen-turns, halting-did}
use Rattle.pr_truss_laws.specs.Exchanges.{Exchange, exchange_of, exchanges}
use Rattle.pr_truss_laws.specs.Stills.{IsHalting}

-- Until truss is interrupted: wherever it has marked a function of a process that lives as planted, the breakpoint of
-- that function stands in the memory, which the process has to itself; or the memory of the process was replaced by an
-- exec, or lent by a vfork, and truss has not read that yet. Then the lwp that made the call stands at its exit, and
-- truss does not run the process before it has read it; and with that read no function is marked there any more.
--
-- It does not matter what an lwp was doing when truss came. A fork leaves the memory of its process, whether or not
-- truss has put back what it wrote there. A vfork and an exec stop at their exit, which truss traces before it plants
-- anything: no other lwp is there then but ones that will stop, so that nothing is fetched until the exit is read. Who
-- is at the exit of such a call when truss comes makes it no more, and its stop is an old one.

module _ (n k : ℕ) (o : Options) (s : TracedState) (h : List Entry) (run : IsReachedFunctionRun n k o s h)
    (fit : ArePatchable o) (spared : LeavesPlanted k o s h) where
  abbrev pub truss : List Entry → TrussState
  truss front = functions_at k o front

  abbrev pub here : List Entry → TracedState
  here front = state_after s front

  abbrev Quiet_front : List Entry → Type 0
  Quiet_front front = All WasNotInterrupted (exchanges k front)

  -- each breakpoint that is marked stands
  -- a vfork or an exec of the process of this id was granted that truss has not read
  pub record Waits (front : List Entry) (pid : ℕ) : Type 0 where
    pub was : Traced
    pub own : was.pid ≡ pid
    pub id : ℕ
    pub event : Event
    pub tells : TellsReplacement event
    pub pending : Pending k o s was (On (record { id = id; event = event })) front

  abbrev pub Fine : List Entry → ℕ → Marks → Type 0
  Fine front pid m =
      (p : TracedProcess) → live_process (here front).system pid ≡ Some p → Waits front pid ⊎ AllHold o m p

  abbrev pub Stand : List Entry → Type 0
  Stand front = Each (So (Fine front)) (truss front).traced

  none-hold : (m : Marks) (p : TracedProcess) → IsEmpty m.planted → AllHold o m p
  none-hold m p none i f named has = absurd (false≢true (sym (none i) ∙ has))

  -- ---- one entry

  module _ (front : List Entry) (actor : Actor) (did : Act) (later : List Entry)
      (is : h ≡ front ++ record { actor = actor; act = did } ∷ later) (calm : Quiet_front front)
      (was : Stand front) where
    abbrev e : Entry
    e = record { actor = actor; act = did }

    abbrev t : TrussState
    t = truss front

    abbrev now : TracedState
    now = here front

    abbrev next_front : List Entry
    next_front = front ++ e ∷ []

    abbrev pid_at : ℕ → ℕ
    pid_at q = (traced_at t q).pid

    -- an lwp that stands on its event stands there after each turn of the process
    turns-on : (w_was : Traced) (event : LwpEvent) → Pending k o s w_was (On event) front → (own : ℕ) (turn : LwpTurn)
        → e ≡ record { actor = Lwp w_was.pid own; act = act.Turn turn.turned }
        → turn_of now.system w_was.pid own ≡ Some turn → (after now e).system ≡ turn.system
        → (q : TracedProcess) → live_process turn.system w_was.pid ≡ Some q → On event q
    turns-on w_was event pending own turn entry_is took after_is q later_live =
        let it = turn-taken now.system w_was.pid own turn took in
        on-turns event now.system w_was.pid own turn it.process q it.live took later_live
        (let p = pending.is in p.has it.process it.live)

    waits-on : (pid : ℕ) (w : Waits front pid)
        → ((x : Exchange) → exchange_of k e ≡ Some x → IsStill w.was x) → Waits next_front pid
    waits-on pid w still = record {
      was = w.was;
      own = w.own;
      id = w.id;
      event = w.event;
      tells = w.tells;
      pending =
          entry-next n k o s h run.of w.was (On (record { id = w.id; event = w.event }))
          (on-stays (record { id = w.id; event = w.event })) front e later is calm w.pending
          (turns-on w.was (record { id = w.id; event = w.event }) w.pending) still;
    }

    before : (q : ℕ) → q < length t.traced → (y : TracedProcess)
        → live_process (here next_front).system (pid_at q) ≡ Some y
        → (x : TracedProcess) × (live_process now.system (pid_at q) ≡ Some x)
    before q within y live = Calm.lived-before n k o s h run front e later is calm q within y live

    now-live : (pid : ℕ) (y : TracedProcess) → live_process (here next_front).system pid ≡ Some y
        → live_process (after now e).system pid ≡ Some y
    now-live pid y live = sym (Calm.next-live n k o s h run front e later is calm pid) ∙ live

    -- ---- of others

    module _ (none : exchange_of k e ≡ None) (j : ℕ) (inside : j < length t.traced) where
      abbrev pid : ℕ
      pid = pid_at j

      abbrev m : Marks
      m = marks_at t j

      same : truss next_front ≡ t
      same = Calm.same-truss n k o s h run front e later is calm none

      waits-still : Waits front pid → Waits next_front pid
      waits-still w = waits-on pid w (λ x mine. absurd (none-some x (sym none ∙ mine)))

      -- one that takes the memory
      module _ (id : ℕ) (turned : Turned) (one : e ≡ record { actor = Lwp pid id; act = act.Turn turned })
          (turn : LwpTurn)
          (took : turn_of now.system pid id ≡ Some turn) (x : TracedProcess)
          (live : live_process now.system pid ≡ Some x) (takes : takes_memory turned.did ≡ true) where
        abbrev its_entry : Entry
        its_entry = record { actor = Lwp pid id; act = act.Turn turned }

        its-place : h ≡ front ++ its_entry ∷ later
        its-place = is ∙ ap (λ (y : Entry). front ++ y ∷ later) one

        took-waits : is_opened t.stage j ≡ true → Waits next_front pid
        took-waits opened =
            subst (λ (es : List Entry). Waits es pid) (ap (λ (y : Entry). front ++ y ∷ []) (sym one)) (record {
              was = traced_at t j;
              own = refl;
              id = id;
              event =
                  Turns.event n k o s h run front later j id turned its-place calm inside opened takes
                  new;
              tells =
                  Turns.event-tells n k o s h run front later j id turned its-place calm inside opened
                  takes new;
              pending =
                  Turns.first-pending n k o s h run front later j id turned its-place calm inside opened
                  takes new;
            })
          where
            new : (traced_at t j).old ≡ 0
            new = elim (cases_eq (traced_at t j).old 0) [
              | inl none_old ↦ none_old
              | inr old ↦
                  (let st = still-while-old n k o s h run pid in
                  absurd (none-some turn
                  (sym (frozen-turns now.system pid x live
                  (st.each front (its_entry ∷ later) j x its-place calm inside refl opened old live) id) ∙ took)))
            ]

        took-fine : turn.turned ≡ turned → (y : TracedProcess) → Waits next_front pid ⊎ AllHold o m y
        took-fine same_turned y = elim (cases_Bool (is_opened t.stage j)) [
          | inl opened ↦ inl (took-waits opened)
          | inr closed ↦
              shut (unopened-halts n k o s h run front (e ∷ later) is calm j inside closed x live)
        ]
          where
            shut : IsHalting x ⊎ IsEmpty m.planted → Waits next_front pid ⊎ AllHold o m y
            shut (inr empty) = inr (none-hold m y empty)
            shut (inl halts) =
                absurd (false≢true
                (ap (λ (w : Turned). takes_memory w.did)
                (sym (halting-did now.system pid x live halts id turn took) ∙ same_turned) ∙ takes))

      foreign-fine : Fine next_front pid m
      foreign-fine y later_live =
          let x = before j inside y later_live in
          by x.0 x.1 (was j inside x.0 x.1)
        where
          by : (x : TracedProcess) → live_process now.system pid ≡ Some x → Waits front pid ⊎ AllHold o m x
              → Waits next_front pid ⊎ AllHold o m y
          by x x_live (inl w) = inl (waits-still w)
          by x x_live (inr hold) =
              of (foreign-leaves n k o s h fit spared front actor did later is
              (Calm.options n k o s h run front e later is calm)
              (Calm.lawful n k o s h run front e later is calm)
              (Calm.legal n k o s h run front e later is calm) none j inside
              (Calm.control n k o s h run front e later is calm j inside) x y x_live
              (now-live pid y later_live) hold)
            where
              of : Takes now pid e y ⊎ AllHold o m y → Waits next_front pid ⊎ AllHold o m y
              of (inr stands) = inr stands
              of (inl w) =
                  took-fine w.id w.turned w.one (record { system = w.next; turned = w.turned }) w.taken x x_live w.takes
                  refl y

    foreign-stand : exchange_of k e ≡ None → Stand next_front
    foreign-stand none =
        subst (λ (u : TrussState). Each (So (Fine next_front)) u.traced)
        (sym (Calm.same-truss n k o s h run front e later is calm none))
        (λ j inside. foreign-fine none j inside)

    -- ---- a call of truss

    module _ (x : Exchange) (mine : exchange_of k e ≡ Some x) (unbroken : WasNotInterrupted x) where
      abbrev r : Reply
      r = x.reply

      its-options : t.options ≡ o
      its-options = Calm.options n k o s h run front e later is calm

      has-it : has_functions t.options ≡ true
      has-it = Calm.has n k o s h run front e later is calm

      next : next_function_call_of t ≡ Some x.call
      next = Calm.next n k o s h run front e later is calm x mine

      beside-is : (aside : Aside) → t.aside ≡ aside → call_beside t t.stage aside ≡ Some x.call
      unfolding next_function_call_of
      beside-is aside at =
          sym (ap (call_beside t t.stage) at)
          ∙ sym (ap (λ b. cond b (call_beside t t.stage t.aside) (next_call_of t)) has-it) ∙ next

      at-stage : IsWithin (length t.traced) t.stage
      at-stage = Calm.at-stage n k o s h run front e later is calm

      at-aside : IsBeside (length t.traced) t.aside
      at-aside = Calm.at-aside n k o s h run front e later is calm

      -- ---- one process

      -- truss does not read its status
      abbrev NotRead : ℕ → Type 0
      NotRead pid = (q : ℕ) → t.stage ≡ ReadingStatus q → pid_at q ≢ pid

      waits-own : (pid : ℕ) → NotRead pid → Waits front pid → Waits next_front pid
      waits-own pid unread w =
          waits-on pid w (λ y its. subst (IsStill w.was) (same_Some x y (sym mine ∙ its)) (record {
            calm = unbroken;
            no_read = λ number known same.
                let rd =
                Reads.stage n k o s h run front later e is calm w.was
                (On (record { id = w.id; event = w.event })) w.pending x mine
                (same ∙ ap read_record (sym known)) in
                unread rd.place rd.at (rd.its ∙ w.own);
          }))

      -- the breakpoint of a function stands on
      holds-own : (j : ℕ) (y z : TracedProcess) → live_process now.system (pid_at j) ≡ Some y
          → live_process (here next_front).system (pid_at j) ≡ Some z → (i : ℕ) (f : Function)
          → (named : slice_get o.functions i ≡ Some f) → SparesIt k now f (patchable-at o fit i f named) (pid_at j)
          x.call
          → HoldsCode (breakpoint_of f) y → HoldsCode (breakpoint_of f) z
      holds-own j y z live behind i f named spares =
          own-hold k now f (patchable-at o fit i f named) n
          (Calm.lawful n k o s h run front e later is calm)
          (pid_at j) actor did x mine spares (Calm.legal n k o s h run front e later is calm) y z live
          (now-live (pid_at j) z behind)

      -- so it is of those that are marked then
      abbrev Spared : ℕ → Marks → Type 0
      Spared j m =
          (i : ℕ) (f : Function) (named : slice_get o.functions i ≡ Some f) → has_function m.planted i ≡ true
          → SparesIt k now f (patchable-at o fit i f named) (pid_at j) x.call

      abbrev Fewer : ℕ → Marks → Type 0
      Fewer j m =
          (i : ℕ) → has_function m.planted i ≡ true → has_function (marks_at t j).planted i ≡ true

      holds-fine : (j : ℕ) (m : Marks) → Spared j m → Fewer j m → (y z : TracedProcess)
          → live_process now.system (pid_at j) ≡ Some y → live_process (here next_front).system (pid_at j) ≡ Some z
          → AllHold o (marks_at t j) y → AllHold o m z
      holds-fine j m spares fewer y z live behind hold i f named has =
          holds-own j y z live behind i f named (spares i f named has) (hold i f named (fewer i has))

      own-fine : (j : ℕ) → j < length t.traced → NotRead (pid_at j) → (m : Marks) → Spared j m → Fewer j m
          → Fine next_front (pid_at j) m
      own-fine j inside unread m spares fewer z behind =
          let y = before j inside z behind in by y.0 y.1 (was j inside y.0 y.1)
        where
          by : (y : TracedProcess) → live_process now.system (pid_at j) ≡ Some y
              → Waits front (pid_at j) ⊎ AllHold o (marks_at t j) y → Waits next_front (pid_at j) ⊎ AllHold o m z
          by y live (inl w) = inl (waits-own (pid_at j) unread w)
          by y live (inr hold) = inr (holds-fine j m spares fewer y z live behind hold)

      -- a call that writes nothing
      quiet-spared : Quiet x.call t → (j : ℕ) (m : Marks) → Spared j m
      quiet-spared quiet j m i f named has =
          quiet-spares k now f (patchable-at o fit i f named) t (pid_at j) x.call quiet

      quiet-all : Quiet x.call t → ((q : ℕ) → t.stage ≢ ReadingStatus q) → Each (So (Fine next_front)) t.traced
      quiet-all quiet none j inside =
          own-fine j inside (λ q at same. none q at) (marks_at t j) (quiet-spared quiet j (marks_at t j))
          (λ i has. has)

      -- ---- by its stage

      -- where nothing comes before the call of its stage
      module _ (idle : t.aside ≡ Nothing) where
        quiet : Quiet x.call t
        unfolding call_beside
        quiet = stage-kind x.call t t.stage at-stage (beside-is Nothing idle)

        left : (q : ℕ) → q < length t.traced → ((b : ℕ) → t.stage ≢ ReadingStatus b)
            → LeftSo (Fine next_front) (without_last (traced_at t q)) (traced_at t q)
        left q within none = by (without_last (traced_at t q))
          where
            by : (v : Option Traced) → LeftSo (Fine next_front) v (traced_at t q)
            by None = tt
            by (Some v) = quiet-all quiet none q within

        others-read : (q : ℕ) → t.stage ≡ ReadingStatus q → (j : ℕ) → j < length t.traced → j ≢ q
            → Fine next_front (pid_at j) (marks_at t j)
        others-read q at j inside other =
            own-fine j inside
            (λ b reads same.
            Calm.apart n k o s h run front e later is calm b j
            (subst (IsWithin (length t.traced)) reads at-stage) inside
            (λ one. other (sym one ∙ read-same (sym reads ∙ at))) same)
            (marks_at t j) (quiet-spared quiet j (marks_at t j)) (λ i has. has)
          where
            read-same : {a b : ℕ} → ReadingStatus a ≡ ReadingStatus b → a ≡ b
            read-same both = cc

        stage-after : (stage : Stage) → t.stage ≡ stage → ((q : ℕ) → stage ≢ ReadingStatus q)
            → IsWithin (length t.traced) stage → AfterStage (Fine next_front) t r stage
        stage-after (Spawning program) at none within = quiet-all quiet (λ q reads. none q (sym at ∙ reads))
        stage-after (OpeningControl number) at none within = (
          quiet-all quiet (λ q reads. none q (sym at ∙ reads)),
          λ accepted z behind. inr (none-hold no_marks z has-none),
        )
        stage-after (Opening q step) at none within = quiet-all quiet (λ b reads. none b (sym at ∙ reads))
        stage-after Polling at none within = quiet-all quiet (λ q reads. none q (sym at ∙ reads))
        stage-after (ReadingStatus q) at none within = absurd (none q refl)
        stage-after (ReadingText q l from len) at none within = quiet-all quiet (λ b reads. none b (sym at ∙ reads))
        stage-after (Running q) at none within =
            let all = quiet-all quiet (λ b reads. none b (sym at ∙ reads)) in
            (each-but (So (Fine next_front)) t.traced q all, all q within)
        stage-after (Closing q OpenNext) at none within = (
          each-but (So (Fine next_front)) t.traced q (quiet-all quiet (λ b reads. none b (sym at ∙ reads))),
          left q within (λ b reads. none b (sym at ∙ reads)),
        )
        stage-after (Closing q GoOn) at none within = (
          each-but (So (Fine next_front)) t.traced q (quiet-all quiet (λ b reads. none b (sym at ∙ reads))),
          left q within (λ b reads. none b (sym at ∙ reads)),
        )
        stage-after Finished at none within = quiet-all quiet (λ q reads. none q (sym at ∙ reads))
        stage-after _ at none within = absurd within

        -- ---- it reads a status

        module _ (q : ℕ) (at : t.stage ≡ ReadingStatus q) where
          within-read : q < length t.traced
          within-read = subst (IsWithin (length t.traced)) at at-stage

          -- the process does not wait to be read
          module _ (holds : (y z : TracedProcess) → live_process now.system (pid_at q) ≡ Some y
              → live_process (here next_front).system (pid_at q) ≡ Some z → AllHold o (marks_at t q) y) where
            own-read : (m : Marks) → Fewer q m → Fine next_front (pid_at q) m
            own-read m fewer z behind =
                let y = before q within-read z behind in
                inr (holds-fine q m (quiet-spared quiet q m) fewer y.0 z y.1 behind (holds y.0 z y.1 behind))

            all-read : Each (So (Fine next_front)) t.traced
            all-read j inside = elim (cases_eq j q) [
              | inl one ↦
                  subst (λ b. Fine next_front (pid_at b) (marks_at t b)) (sym one)
                  (own-read (marks_at t q) (λ i has. has))
              | inr other ↦ others-read q at j inside other
            ]

            read-after : AfterStage (Fine next_front) t r (ReadingStatus q)
            read-after = (
              all-read,
              λ l ev accepted told fresh.
                  own-read (marks_then (marks_at t q) l (function_event t.options (marks_at t q) l.id ev))
                  (then-planted (marks_at t q) l (function_event t.options (marks_at t q) l.id ev)),
            )

          -- it does: then the reply tells so
          module _ (w : Waits front (pid_at q)) (y : TracedProcess)
              (live : live_process now.system (pid_at q) ≡ Some y) where
            abbrev its_event : LwpEvent
            its_event = record { id = w.id; event = w.event }

            its-live : live_process now.system w.was.pid ≡ Some y
            its-live = ap (live_process now.system) w.own ∙ live

            standing : HasEvent y w.id w.event
            standing = let p = w.pending in let it = p.is in it.has y its-live

            placed : AtStage (Pends w.was.pid w.was) t.traced (ReadingStatus q)
            placed =
                let p = w.pending in
                let kept = p.pends in subst (AtStage (Pends w.was.pid w.was) t.traced) at kept.stage

            seen : IsSame w.was.pid w.was (traced_at t q)
            seen = placed.1.1 (sym w.own)

            reads : x.call ≡ read_record w.was.status
            unfolding call_beside function_call_of call_of
            reads =
                let same_file = seen in
                same_Some x.call (read_record w.was.status)
                (sym (beside-is Nothing idle) ∙ ap (function_call_of t) at
                ∙ ap (λ (f : Option ℕ). Some (read_record f)) same_file.status)

            abbrev l : LwpStatus
            l = let has = standing in lwpstatus_of y w.id has.lwp

            told : option_and_then status_lwp (bytes_in r) ≡ Some l
            told =
                Reads.answered n k o s h run front later e is calm w.was (On its_event) w.pending x mine
                reads y its-live its_event standing

            accepted : answer_of r ≡ Accepted
            unfolding answer_of bytes_in
            accepted = by r told
              where
                by : (a : Reply) → option_and_then status_lwp (bytes_in a) ≡ Some l → answer_of a ≡ Accepted
                by (reply.Bytes bs) told_so = refl
                by _ told_so = absurd (none-some l told_so)

            fresh : fresh_event (traced_at t q) l ≡ Some w.event
            unfolding fresh_event
            fresh =
                let same_file = seen in
                let kept = Calm.kept n k o s h run front e later is calm in
                let attached =
                opened-attached n k o s front (e ∷ later) (pid_at q)
                (subst (λ (es : List Entry). IsFunctionRun n k o s es) is run.of)
                (IsSo (Unit {0}) k t.options now) kept q within-read (ap (λ (st : Stage). is_opened st q) at) in
                let has = standing in
                ap (λ m. cond (m == 0) (cond (traced_at t q).seen None (event_of l)) None) same_file.new
                ∙ ap (λ b. cond b None (event_of l))
                (ap (λ (u : Traced). u.seen) (sym (at-ordinary t q)) ∙ attached.unseen) ∙ has.tells

            fed-is : fed_functions t r ≡ with_function_event t q l Replaced
            fed-is =
                event-fed t r q has-it (Calm.off n k o s h run front e later is calm) idle at accepted l
                told w.event fresh
                ∙ ap (with_function_event t q l)
                (tells-replaced t.options (marks_at t q) l.id w.event w.tells)

            alike : IsAlike (with_marks t q no_marks) (with_function_event t q l Replaced)
            alike =
                event-kept t (Calm.off n k o s h run front e later is calm)
                (Calm.follow n k o s h run front e later is calm) q l within-read Replaced

            abbrev bare : Traced
            bare = record (traced_at t q) { marks = no_marks }

            fed-fine : Each (So (Fine next_front)) (fed_functions t r).traced
            fed-fine =
                subst (λ (u : TrussState). Each (So (Fine next_front)) u.traced) (sym fed-is)
                (λ j inside. each-fine j inside)
              where
                inside-t : (j : ℕ) → j < length (with_function_event t q l Replaced).traced → j < length t.traced
                inside-t j inside =
                    let a = alike in subst (λ m. j < m) (a.many ∙ length-set t.traced q bare) inside

                each-fine : (j : ℕ) → j < length (with_function_event t q l Replaced).traced
                    → So (Fine next_front) (traced_at (with_function_event t q l Replaced) j)
                each-fine j inside = elim (cases_eq j q) [
                  | inl one ↦
                      (let a = alike in
                      λ z behind.
                      inr (none-hold (marks_at (with_function_event t q l Replaced) j) z
                      (subst (λ (m : Marks). IsEmpty m.planted)
                      (sym (a.marks j ∙ ap (marks_at (with_marks t q no_marks)) one
                      ∙ ap (λ (u : Traced). u.marks) (set-at t.traced q bare within-read))) has-none)))
                  | inr other ↦
                      (let a = alike in
                      subst (λ (m : Marks). Fine next_front (traced_at (with_function_event t q l Replaced) j).pid m)
                      (sym (a.marks j
                      ∙ ap (λ (u : Traced). u.marks) (get_or-set_other t.traced q j bare nobody other)))
                      (subst (λ p. Fine next_front p (marks_at t j))
                      (sym (a.pids j ∙ ap (λ (u : Traced). u.pid) (get_or-set_other t.traced q j bare nobody other)))
                      (others-read q at j (inside-t j inside) other)))
                ]

      -- ---- before the call of its stage

      -- no function of a process is planted twice
      one-place : (i j : ℕ) (f g : Function) → slice_get o.functions i ≡ Some f → slice_get o.functions j ≡ Some g
          → IsFirstOf o 0 i → IsFirstOf o 0 j → f.at ≡ g.at → i ≡ j
      one-place i j f g named its_name first second same =
          one-first o i j f g (first f named) (second g its_name) same

      firsts : TrussIn (IsFirstOf o) t
      firsts = Calm.firsts n k o s h run front e later is calm

      below : AsideIsBelow (length o.functions) t.aside
      below = Calm.below n k o s h run front e later is calm

      marked-first : (q : ℕ) → q < length t.traced → (i : ℕ) → has_function (marks_at t q).planted i ≡ true
          → IsFirstOf o 0 i
      marked-first q within i has = let m = firsts in let all = m.marks q within in all.planted i has

      -- the bytes of an instruction are written over a function of the process at a place
      module _ (q : ℕ) (within : q < length t.traced) (i : ℕ) (code : List ℕ) (size : length code ≡ 16)
          (are_bytes : All IsByte code) (g : Function) (named : slice_get o.functions i ≡ Some g)
          (sent : x.call ≡ call.Ctl (traced_at t q).control (spelling (message.Write g.at 16) code)) where
        -- it spares each other function, and each other process
        write-spared : (j : ℕ) → j < length t.traced → (a : ℕ) (f : Function)
            (its_name : slice_get o.functions a ≡ Some f)
            → (j ≡ q → g.at ≡ f.at → code ≡ breakpoint) → SparesIt k now f (patchable-at o fit a f its_name) (pid_at j)
            x.call
        write-spared j inside a f its_name only =
            subst (SparesIt k now f (patchable-at o fit a f its_name) (pid_at j)) (sym sent)
            (write-spares k now f (patchable-at o fit a f its_name) (traced_at t q).control (pid_at q) (pid_at j)
            (Calm.control n k o s h run front e later is calm q within) g (patchable-at o fit i g named)
            code size
            are_bytes
            (λ same at. only (same-place same) at))
          where
            same-place : pid_at q ≡ pid_at j → j ≡ q
            same-place same = elim (cases_eq j q) [
              | inl one ↦ one
              | inr other ↦
                  absurd (Calm.apart n k o s h run front e later is calm j q inside within other
                  (sym same))
            ]

        others-written : ((b : ℕ) → t.stage ≢ ReadingStatus b) → EachBut (So (Fine next_front)) t.traced q
        others-written none j inside other =
            own-fine j inside (λ b reads same. none b reads) (marks_at t j)
            (λ a f its_name has. write-spared j inside a f its_name (λ one. absurd (other one))) (λ a has. has)

      -- a breakpoint is planted
      module _ (q : ℕ) (within : q < length t.traced) (i : ℕ) (g : Function) (named : slice_get o.functions i ≡ Some g)
          (sent : x.call ≡ call.Ctl (traced_at t q).control (spelling (message.Write g.at 16) breakpoint))
          (none : (b : ℕ) → t.stage ≢ ReadingStatus b) where
        plant-spared : (m : Marks) → Spared q m
        plant-spared m a f its_name has =
            write-spared q within i breakpoint breakpoint-size (instruction-bytes Bpt) g named sent q within a f
            its_name
            (λ one same. refl)

        granted : answer_of r ≡ Accepted → (m : Marks) → ((a : ℕ) → has_function m.planted a ≡ true
            → (a ≡ i) ⊎ (has_function (marks_at t q).planted a ≡ true)) → Fine next_front (pid_at q) m
        granted accepted m more z behind =
            let y = before q within z behind in by y.0 y.1 (was q within y.0 y.1)
          where
            by : (y : TracedProcess) → live_process now.system (pid_at q) ≡ Some y
                → Waits front (pid_at q) ⊎ AllHold o (marks_at t q) y → Waits next_front (pid_at q) ⊎ AllHold o m z
            by y live (inl w) = inl (waits-own (pid_at q) (λ b reads same. none b reads) w)
            by y live (inr hold) = inr (λ a f its_name has. of a f its_name (more a has) has)
              where
                it : IsOwnEntry k now e x
                it = Calm.own n k o s h run front e later is calm x mine

                of : (a : ℕ) (f : Function) → slice_get o.functions a ≡ Some f
                    → (a ≡ i) ⊎ (has_function (marks_at t q).planted a ≡ true) → has_function m.planted a ≡ true
                    → HoldsCode (breakpoint_of f) z
                of a f its_name (inr had) has =
                    holds-own q y z live behind a f its_name (plant-spared m a f its_name has) (hold a f its_name had)
                of a f its_name (inl one) has =
                    let same_function : g ≡ f =
                    same_Some g f (sym named ∙ ap (slice_get o.functions) (sym one) ∙ its_name) in
                    subst (λ (d : Function). HoldsCode (breakpoint_of d) z) same_function
                    (let own_call = it in
                    planted-holds k now g (patchable-at o fit i g named) (traced_at t q).control (pid_at q)
                    (Calm.control n k o s h run front e later is calm q within) own_call.answer
                    (ap (answer_to now k) (sym sent) ∙ own_call.is) (ap answer_of own_call.replied ∙ accepted) y z live
                    (ap (λ (u : TracedState). live_process u.system (pid_at q))
                    (Calm.left-state n k o s h run front e later is calm x mine) ∙ behind))

        plant-after : (lift : Option ℕ)
            → Fine next_front (pid_at q)
            (record (marks_at t q) { planted = planted_after (marks_at t q).planted (answer_of r) (Some i) lift })
        plant-after lift = by (answer_of r) refl
          where
            kept : Fine next_front (pid_at q) (record (marks_at t q) { planted = (marks_at t q).planted })
            kept =
                own-fine q within (λ b reads same. none b reads)
                (record (marks_at t q) { planted = (marks_at t q).planted })
                (plant-spared (record (marks_at t q) { planted = (marks_at t q).planted })) (λ a has. has)

            by : (a : Answer) → answer_of r ≡ a
                → Fine next_front (pid_at q)
                (record (marks_at t q) { planted = planted_after (marks_at t q).planted a (Some i) lift })
            by Accepted accepted =
                granted accepted (record (marks_at t q) { planted = with_function (marks_at t q).planted i })
                (λ a has. has-with (marks_at t q).planted i a has)
            by Interrupted other = kept
            by Gone other = kept
            by (Refused errno) other = kept

      -- one is lifted
      module _ (q : ℕ) (within : q < length t.traced) (i : ℕ) (g : Function) (named : slice_get o.functions i ≡ Some g)
          (first : IsFirstOf o 0 i)
          (sent : x.call ≡ call.Ctl (traced_at t q).control (spelling (message.Write g.at 16) g.code))
          (none : (b : ℕ) → t.stage ≢ ReadingStatus b) where
        its-fit : IsPatchable g
        its-fit = patchable-at o fit i g named

        lift-fine : Fine next_front (pid_at q)
            (record (marks_at t q) { planted = without_function (marks_at t q).planted i })
        lift-fine =
            own-fine q within (λ b reads same. none b reads)
            (record (marks_at t q) { planted = without_function (marks_at t q).planted i })
            (λ a f its_name has.
            let other = has-without (marks_at t q).planted i a has in
            write-spared q within i g.code its-fit.size its-fit.bytes g named sent q within a f its_name
            (λ one same.
            absurd (other.apart (one-place a i f g its_name named (marked-first q within a other.has) first
            (sym same)))))
            (λ a has. let other = has-without (marks_at t q).planted i a has in other.has)

        lift-after : Fine next_front (pid_at q)
            (record (marks_at t q) { planted = planted_after (marks_at t q).planted (answer_of r) None (Some i) })
        lift-after = by (answer_of r)
          where
            by : (a : Answer)
                → Fine next_front (pid_at q)
                (record (marks_at t q) { planted = planted_after (marks_at t q).planted a None (Some i) })
            by Accepted = lift-fine
            by Interrupted = lift-fine
            by Gone = lift-fine
            by (Refused errno) = lift-fine

      -- breakpoints are patched
      module _ (q : ℕ) (within : q < length t.traced) (plants lifts : List Bool) (clear : Bool)
          (at : t.aside ≡ Patching q plants lifts clear) (none : (b : ℕ) → t.stage ≢ ReadingStatus b) where
        both-below : AsideIsBelow (length o.functions) (Patching q plants lifts clear)
        both-below = subst (AsideIsBelow (length o.functions)) at below

        both-first : AsideIn (IsFirstOf o) t.traced (Patching q plants lifts clear)
        both-first = let m = firsts in subst (AsideIn (IsFirstOf o) t.traced) at m.aside

        abbrev AfterPatch : Option ℕ → Option ℕ → Type 0
        AfterPatch plant lift =
            EachBut (So (Fine next_front)) t.traced q
            × Fine next_front (pid_at q)
            (record (marks_at t q) { planted = planted_after (marks_at t q).planted (answer_of r) plant lift })

        sent-as : (plant lift : Option ℕ) → first_function plants ≡ plant → first_function lifts ≡ lift
            → Some (patch_call o (traced_at t q).control plant lift) ≡ Some x.call
        unfolding call_beside
        sent-as plant lift one two =
            ap (λ p. Some (patch_call o (traced_at t q).control p lift)) (sym one)
            ∙ ap (λ p. Some (patch_call o (traced_at t q).control (first_function plants) p)) (sym two)
            ∙ ap (λ (d : Options). Some (patch_call d (traced_at t q).control (first_function plants)
            (first_function lifts))) (sym its-options)
            ∙ beside-is (Patching q plants lifts clear) at

        patch-after : (plant lift : Option ℕ) → first_function plants ≡ plant → first_function lifts ≡ lift
            → AfterPatch plant lift
        patch-after (Some i) lift one two =
            let g = named-at o i (first-below (length o.functions) plants i both-below.0 one) in
            let sent =
            write-is o x.call (traced_at t q).control i g.0 breakpoint breakpoint g.1 refl
            (sent-as (Some i) lift one two)
            in (
              others-written q within i breakpoint breakpoint-size (instruction-bytes Bpt) g.0 g.1 sent none,
              plant-after q within i g.0 g.1 sent none lift,
            )
        patch-after None (Some i) one two =
            let g = named-at o i (first-below (length o.functions) lifts i both-below.1 two) in
            let its : IsPatchable g.0 = patchable-at o fit i g.0 g.1 in
            let sent =
            write-is o x.call (traced_at t q).control i g.0 (let f : Function = g.0 in f.code) (code_of o i) g.1
            (code-is o i g.0 g.1) (sent-as None (Some i) one two) in (
              others-written q within i (let f : Function = g.0 in f.code) its.size its.bytes g.0 g.1 sent none,
              lift-after q within i g.0 g.1 (both-first.1 i (first-has lifts i two)) sent none,
            )
        patch-after None None one two =
            let hush : Quiet x.call t =
            is-sent x.call t q within (spelling message.Cfault []) (sent-as None None one two) cfault-still in (
              each-but (So (Fine next_front)) t.traced q (quiet-all hush none),
              bare-after hush (answer_of r),
            )
          where
            bare-after : Quiet x.call t → (a : Answer)
                → Fine next_front (pid_at q)
                (record (marks_at t q) { planted = planted_after (marks_at t q).planted a None None })
            bare-after hush Accepted = quiet-all hush none q within
            bare-after hush Interrupted = quiet-all hush none q within
            bare-after hush Gone = quiet-all hush none q within
            bare-after hush (Refused errno) = quiet-all hush none q within

      -- ---- all of it

      fits-there : (aside : Aside) → t.aside ≡ aside → (b : ℕ) → t.stage ≡ ReadingStatus b
          → FitsAside aside (ReadingStatus b)
      fits-there aside at b reads =
          subst (λ (a : Aside). FitsAside a (ReadingStatus b)) at
          (subst (FitsAside t.aside) reads (Calm.fits n k o s h run front e later is calm))

      busy-after : (aside : Aside) → t.aside ≡ aside → IsBeside (length t.traced) aside
          → ((b : ℕ) → t.stage ≢ ReadingStatus b) → AfterAside (Fine next_front) t r aside
      unfolding call_beside
      busy-after Nothing at within none = stage-after at t.stage refl none at-stage
      busy-after (Reading q i) at within none =
          quiet-all (is-sent x.call t q within _ (beside-is (Reading q i) at) (read-still _ _)) none
      busy-after (Planting q i) at within none =
          let inside : i < length o.functions = subst (AsideIsBelow (length o.functions)) at below in
          let g = named-at o i inside in
          let sent =
          write-is o x.call (traced_at t q).control i g.0 breakpoint breakpoint g.1 refl
          (ap (λ (d : Options). Some (plant_call d (traced_at t q).control i)) (sym its-options)
          ∙ beside-is (Planting q i) at) in (
            others-written q within i breakpoint breakpoint-size (instruction-bytes Bpt) g.0 g.1 sent none,
            plant-after q within i g.0 g.1 sent none None,
          )
      busy-after (Patching q plants lifts clear) at within none =
          patch-after q within plants lifts clear at none (first_function plants) (first_function lifts) refl refl
      busy-after _ at within none = absurd within

      fed-fine-by : AfterAside (Fine next_front) t r t.aside → Each (So (Fine next_front)) (fed_functions t r).traced
      fed-fine-by after_it =
          fed-so (Fine next_front) t r (Calm.off n k o s h run front e later is calm)
          (Calm.follow n k o s h run front e later is calm) at-stage at-aside (calm-answer x unbroken)
          has-it after_it

      -- it reads the status of a process
      reading-fine : (q : ℕ) → t.stage ≡ ReadingStatus q → t.aside ≡ Nothing
          → Each (So (Fine next_front)) (fed_functions t r).traced
      reading-fine q at idle = by (live_process (here next_front).system (pid_at q)) refl
        where
          as-held : ((y z : TracedProcess) → live_process now.system (pid_at q) ≡ Some y
              → live_process (here next_front).system (pid_at q) ≡ Some z → AllHold o (marks_at t q) y)
              → Each (So (Fine next_front)) (fed_functions t r).traced
          as-held holds =
              fed-fine-by (subst (AfterAside (Fine next_front) t r) (sym idle)
              (subst (AfterStage (Fine next_front) t r) (sym at) (read-after idle q at holds)))

          of : (y : TracedProcess) → live_process now.system (pid_at q) ≡ Some y
              → Waits front (pid_at q) ⊎ AllHold o (marks_at t q) y
              → Each (So (Fine next_front)) (fed_functions t r).traced
          of y live (inl w) = fed-fine idle q at w y live
          of y live (inr hold) =
              as-held (λ a z a_live behind.
              subst (AllHold o (marks_at t q)) (same_Some y a (sym live ∙ a_live)) hold)

          by : (z : Option TracedProcess) → live_process (here next_front).system (pid_at q) ≡ z
              → Each (So (Fine next_front)) (fed_functions t r).traced
          by None gone = as-held (λ y z live behind. absurd (none-some z (sym gone ∙ behind)))
          by (Some z) behind =
              let inside = subst (IsWithin (length t.traced)) at at-stage in
              let y = before q inside z behind in of y.0 y.1 (was q inside y.0 y.1)

      own-stand : Stand next_front
      own-stand =
          subst (λ (u : TrussState). Each (So (Fine next_front)) u.traced)
          (sym (Calm.fed-truss n k o s h run front e later is calm x mine))
          (by t.aside refl at-aside)
        where
          other-stage : t.aside ≡ Nothing → (st : Stage) → t.stage ≡ st → ((q : ℕ) → st ≢ ReadingStatus q)
              → Each (So (Fine next_front)) (fed_functions t r).traced
          other-stage idle st at none =
              fed-fine-by (busy-after t.aside refl at-aside (λ b reads. none b (sym at ∙ reads)))

          idle-by : t.aside ≡ Nothing → (st : Stage) → t.stage ≡ st
              → Each (So (Fine next_front)) (fed_functions t r).traced
          idle-by idle (ReadingStatus q) at = reading-fine q at idle
          idle-by idle st at = other-stage idle st at (λ q same. cc)

          by : (aside : Aside) → t.aside ≡ aside → IsBeside (length t.traced) aside
              → Each (So (Fine next_front)) (fed_functions t r).traced
          by Nothing idle within = idle-by idle t.stage refl
          by (Reading q i) at within =
              fed-fine-by (busy-after t.aside refl at-aside (λ b reads. fits-there (Reading q i) at b reads))
          by (Planting q i) at within =
              fed-fine-by (busy-after t.aside refl at-aside (λ b reads. fits-there (Planting q i) at b reads))
          by (Patching q plants lifts clear) at within =
              fed-fine-by (busy-after t.aside refl at-aside
              (λ b reads. let fits = fits-there (Patching q plants lifts clear) at b reads in fits.0))
          by _ at within = absurd within

    entry-stand : ((x : Exchange) → exchange_of k e ≡ Some x → WasNotInterrupted x) → Stand next_front
    entry-stand unbroken = by (exchange_of k e) refl
      where
        by : (x : Option Exchange) → exchange_of k e ≡ x → Stand next_front
        by None none = foreign-stand none
        by (Some x) mine = own-stand x mine (unbroken x mine)

  -- ---- all of them

  walk : (rest done later : List Entry) → h ≡ done ++ (rest ++ later) → Quiet_front (done ++ rest) → Stand done
      → Stand (done ++ rest)
  walk [] done later is calm w = subst Stand (sym (append-nil done)) w
  walk (e ∷ rest) done later is calm w =
      let so_far : Quiet_front done =
      all-front WasNotInterrupted (exchanges k done) (exchanges k (e ∷ rest))
      (subst (All WasNotInterrupted) (exchanges-both k done (e ∷ rest)) calm) in
      let next : Stand (done ++ e ∷ []) =
      entry-stand done e.actor e.act (rest ++ later) is so_far w
      (λ x mine. all-entry WasNotInterrupted k done rest e x calm mine) in
      let parts : done ++ e ∷ rest ≡ (done ++ e ∷ []) ++ rest = sym (append_assoc done (e ∷ []) rest) in
      subst Stand (sym parts)
      (walk rest (done ++ e ∷ []) later (is ∙ sym (append_assoc done (e ∷ []) (rest ++ later)))
      (subst (λ (es : List Entry). Quiet_front es) parts calm) next)

  pub stand-at : (front later : List Entry) → h ≡ front ++ later → Quiet_front front → Stand front
  stand-at front later is calm =
      walk front [] later is calm
      (subst (λ xs. Each (So (Fine [])) (functions_after (first_truss o) xs).traced) (sym (no-exchanges k))
      (first-so-truss (So (Fine [])) o))
