-- Truss with calls of functions among the controllers of a run.
use Rattle.std.specs.Prelude.{◌≡◌, ℕ, true, false, List, None, Some, map, slice_get}
use Rattle.pr_function_hides.specs.ClearedFaults.{ClearByRunning}
use Rattle.pr_function_hides.specs.FunctionHiders.{patch_of}
use Rattle.pr_function_hides.specs.LiftedCopies.{CopiesFindNone, OpensOutOfCopies}
use Rattle.pr_function_hides.specs.ListedCalls.{FetchesBreakpoints, ListsItsTurns}
use Rattle.pr_function_hides.specs.OwnSteps.{AreStepsOwn}
use Rattle.pr_function_hides.specs.PassiveOthers.{AreOthersPassive}
use Rattle.pr_function_hides.specs.PlantedBreakpoints.{LeavesPlanted}
use Rattle.pr_function_hides.specs.Replacing.{WritesNoneOnceReplaced}
use Rattle.pr_function_hides.specs.SteppedByCalls.{StepsWhatItLifted}
use Rattle.pr_function_hides.specs.TidyCloses.{LeavesNoBreakpoint, LeavesNoFault}
use Rattle.pr_function_hides.specs.TidyFaults.{ClearsOwnFaultsAlone, PostsNoOwnFault}
use Rattle.pr_function_hides.specs.TidyWrites.{AreUndisturbed, WritesTidily}
use Rattle.pr_function_hides.specs.ToldCalls.{TellsItsCallsByCalls}
use Rattle.pr_function_hides.specs.Waiting.{KeepsWhatWaits}
use Rattle.pr_function_laws.specs.BreakpointCalls.{AreBreakpointCalls}
use Rattle.pr_function_laws.specs.CalledTurns.{CallsAreTurns}
use Rattle.pr_function_laws.specs.EndedProcesses.{ClosesAllThatEndedOf}
use Rattle.pr_function_laws.specs.EventKinds.{AreEventKinds, LooksAtEachEvent}
use Rattle.pr_function_laws.specs.EventsRead.{EventsAreRead}
use Rattle.pr_function_laws.specs.Handled.{HandlesItsGiven, HoldsOrRefusesItsGiven}
use Rattle.pr_function_laws.specs.Holds.{KeepsItsHolds, OpensQuietly, WatchesWhatItHolds}
use Rattle.pr_function_laws.specs.Leaving.{LeavesItsProcesses}
use Rattle.pr_function_laws.specs.LeftAlone.{IsLeftAlone}
use Rattle.pr_function_laws.specs.Lifted.{MeetsBreakpoint, ReadsOnlyLast}
use Rattle.pr_function_laws.specs.LineEvents.{AreOfTheirEventsIn}
use Rattle.pr_function_laws.specs.LineMoments.{MemoriesStand}
use Rattle.pr_function_laws.specs.LineTexts.{HaveTheirTextsIn, ReadsAtOnceOf, ReadsForItsLinesOf}
use Rattle.pr_function_laws.specs.ListedEvents.{ListsItsEvents}
use Rattle.pr_function_laws.specs.Looks.{LooksInPlaceOf}
use Rattle.pr_function_laws.specs.Met.{TellsItsCalls}
use Rattle.pr_function_laws.specs.OneEvent.{HasOneEventEach}
use Rattle.pr_function_laws.specs.Named.{IsSoonRunOrClosed, RunsBeforeItPollsOf}
use Rattle.pr_function_laws.specs.Opened.{HoldsWhatItOpened, LiftsForOneAlone, ReadsBreakpoint, functions_at}
use Rattle.pr_function_laws.specs.Ordinary.{IsTrussBeside, ordinary_among}
use Rattle.pr_function_laws.specs.OrdinaryRuns.{ClosesFreelyThroughout, ShowsWhatIsNewOf, ShowsWhatItReadsOf}
use Rattle.pr_function_laws.specs.Planted.{PlantsWhatItRead}
use Rattle.pr_function_laws.specs.PlantedByCalls.{MarksWhatItPlanted}
use Rattle.pr_function_laws.specs.Refusals.{TellsNoRefusalOfHeld, TellsRefusalsAtFirst}
use Rattle.pr_function_laws.specs.Runs.{MakesFunctionCalls, functions_after, replies_in}
use Rattle.pr_function_laws.specs.SentSets.{TracesItsWords}
use Rattle.pr_function_laws.specs.ShownOnce.{ShowsStopsOnceOf}
use Rattle.pr_function_laws.specs.Soon.{IsSoonDone}
use Rattle.pr_function_laws.specs.SoonPolls.{PollsByItsFilesOf}
use Rattle.pr_function_laws.specs.ToldTurns.{StepsAreRead, TellsTurnsAlone}
use Rattle.pr_function_laws.specs.Treated.{TreatsItsEvents}
use Rattle.pr_hidden.specs.HiddenSteps.{IsHidden}
use Rattle.pr_hidden.specs.Hiders.{Hiders, hides}
use Rattle.pr_hidden.specs.Tidiness.{IsSparing, IsTidy}
use Rattle.pr_line.specs.declared.functions.Function.{Function}
use Rattle.pr_line.specs.declared.options.Options.{Options}
use Rattle.pr_model.specs.Legal.{state_after}
use Rattle.pr_model.specs.State.{TracedState}
use Rattle.pr_model.specs.declared.events.Entry.{Entry}
use Rattle.pr_run_laws.specs.NamedFunctions.{AreShowable}
use Rattle.pr_report_laws.specs.Asked.{ReadsItsReplies, SelectsWhatIsNamed}
use Rattle.pr_report_laws.specs.Named.{LooksAtWhatIsNamed}
use Rattle.pr_report_laws.specs.OwnFiles.{CallsItsFiles, ClosesControlsLast, PollsEachOnce}
use Rattle.pr_report_laws.specs.PollOrder.{PollsInOrder}
use Rattle.pr_truss.specs.FunctionCalls.{next_function_call_of}
use Rattle.pr_truss.specs.Trusses.{first_truss, traced_at}
use Rattle.pr_truss.specs.declared.marks.Marks.{Marks}
use Rattle.pr_truss.specs.declared.processes.Traced.{Traced}
use Rattle.pr_truss_laws.specs.Exchanges.{Exchange, exchange_of, exchanges}
use Rattle.pr_truss_laws.specs.Handles.{HasNothingOpen}
use Rattle.pr_world.specs.ControllerStates.{ControllerState, FnTruss}
use Rattle.pr_world.specs.Protocol.{controllers_at}

-- Wherever truss reads that an lwp stands at a breakpoint, the breakpoint is that of one of its first 16 functions,
-- which begins with an instruction that is no system call. So where truss is not interrupted until it reads the status
-- of the process again, that is a read of which what it lifts and tells is said.
pub record MeetsWhatWasNamed (k : ℕ) (o : Options) (first : TracedState) : Type 0 where
  pub each : (before between : List Entry) (e : Entry) (x : Exchange) (place id : ℕ) → exchange_of k e ≡ Some x
      → (meets : MeetsBreakpoint (functions_at k o before) x place) → meets.l.id ≡ id
      → ((status : ℕ) → (traced_at (functions_at k o before) place).status ≡ Some status
      → ReadsOnlyLast status (exchanges k between))
      → ReadsBreakpoint k (functions_at k o before) place id (state_after first before) e between

-- The controller of a number is a truss with these options, which name functions as they are asked for, and follow no
-- children. Each field has its law in pr_function_laws or pr_function_hides, where its definition says more.
pub record IsFunctionTrussKept (controllers : List ControllerState) (first : TracedState) (h : List Entry) (k : ℕ)
    (o : Options) : Type 0 where
  -- its calls are those that it makes after the replies that it got, and what it has learnt is a function of them
  pub makes : MakesFunctionCalls (first_truss o) (exchanges k h)
  pub truss : slice_get (controllers_at controllers h) k
      ≡ Some (FnTruss (functions_after (first_truss o) (exchanges k h)))
  -- the calls of functions that it reports are those of which its replies told, each of an lwp that a reply before had
  -- told of at the breakpoint of the function
  pub calls : TellsItsCalls o (replies_in (exchanges k h))
  -- after a poll that named a process at most twelve of its calls, and two more for each function, come before it runs
  -- that process or closes a file of it
  pub soon : IsSoonDone o (exchanges k h)
  -- the same of the process whose control file the poll named, by the handles that the kernel has open for truss; and
  -- that comes before it polls again
  pub named_soon : IsSoonRunOrClosed k o first h
  pub before_polls : RunsBeforeItPollsOf k first h
  -- Right after a poll has named a process it reads the status of that process, and it reads a status nowhere else; the
  -- statuses of the lwps of a process it reads right behind the wait of its opening, where it has no hold of it, and
  -- where truss was interrupted, has hold of the process, and its last call is the wait for PCSTOP or for PCWSTOP to
  -- it, that was granted, or one of these messages or waits that was refused, neither with EINTR nor because the
  -- process has ended. How many calls come at most before it polls is told by its functions, the control files that it
  -- has open, and the interrupts.
  pub named_looks : LooksAtWhatIsNamed k first h
  pub looks : LooksInPlaceOf k o first h
  pub polls_soon : PollsByItsFilesOf k o first h
  -- its functions are as a scenario names them, and each breakpoint that it meets is that of one of them
  pub names : AreShowable o
  pub meets : MeetsWhatWasNamed k o first
  -- Of each process that it has opened: it has its own files, alone, and traces all signals and faults; at most one
  -- event is unread, also while it leaves the process. Until it is interrupted, each event that the options select is
  -- told by the next read, if the process lives then and no stop is left that stood before truss came.
  pub opens : HoldsWhatItOpened k o first h
  pub events : HasOneEventEach k o first h
  pub reads : EventsAreRead k o first h
  -- The events of a process that it has shown are those that came while it watched the process, that its options
  -- select, and that are no faults of its own, each once and in their order, but for the last one at most. If programs
  -- leave the functions alone that it has marked as planted, an lwp that comes to one can fetch nothing there but the
  -- instruction of a breakpoint. And if that is so, the calls of functions that it has shown are the turns that are
  -- such calls, each once and in their order, but for the last one at most. Wherever an lwp of a process that it traces
  -- has a turn, and until it is interrupted, the function that it has as the one that is being stepped there its calls
  -- and their replies tell: it is the one whose code it wrote back there right before it ran the process with PRCFAULT
  -- and PRSTEP, and where it has written nothing since. And so its calls tell which turns are calls of functions,
  -- unless it was told of an lwp of the process at the exit of a vfork or an exec that was granted.
  pub lists_events : (pid : ℕ) → ListsItsEvents k o first h pid
  pub fetches : LeavesPlanted k o first h → FetchesBreakpoints k o first h
  pub lists_calls : FetchesBreakpoints k o first h → (pid : ℕ) → ListsItsTurns k o first h pid
  pub under_way : StepsWhatItLifted k o first h
  pub calls_told : TellsItsCallsByCalls k o first h
  -- A breakpoint is lifted for one lwp alone, also behind an interrupt, which comes in a poll alone; the read after
  -- that of a breakpoint tells of the one turn that its lwp had since; each call that it tells in its loop is such a
  -- turn; and the trap of a step is told by the next read, if one comes.
  pub lifts : LiftsForOneAlone k o first h
  pub left_alone : IsLeftAlone k o first h
  pub turns : CallsAreTurns k o first h
  pub told : TellsTurnsAlone k o first h
  pub steps : StepsAreRead k o first h
  -- The messages by which it reads the code of a function, plants its breakpoint and lifts it, byte for byte; and each
  -- wait has the bytes of the message that it is for.
  pub messages : (control function : ℕ) (f : Function) → slice_get o.functions function ≡ Some f
      → AreBreakpointCalls o control function f
  -- The calls that it has traced are words of its options, with fork, vfork and exec besides; and the events that these
  -- select are those of the signals, faults and calls that they name. Of each status of a process it reads the
  -- representative lwp as it stands there, and of each record of lwps all of them.
  pub words : TracesItsWords o
  pub selects : SelectsWhatIsNamed o
  pub replies : ReadsItsReplies
  -- In a process that it opens it plants just the functions whose code it reads there. Those that it has marked as
  -- planted in a process its calls and their replies tell: each PCWRITE that plants one was granted, since it opened
  -- the control file of the process, and it has not lifted it since; and it has marked each such one, unless it was
  -- told of an lwp of the process at the exit of a vfork or an exec that was granted. What each event is to the
  -- breakpoints, and that it looks at each that is new; and what it asks truss to plant and to lift, which comes before
  -- it runs the process. What waits to be planted again in a process, as all that stand do from the entry of a fork on,
  -- waits until truss reads an event that is before or behind such a call. Where no lwp was at a fork, a vfork or an
  -- exec when the wait of the opening was granted, such a call that is granted finds none that it has marked as
  -- planted, also once truss was interrupted; and behind a vfork or an exec that was granted it sends no PCWRITE to the
  -- process, until it is interrupted.
  pub plants : PlantsWhatItRead o (exchanges k h)
  pub marks : MarksWhatItPlanted k o first h
  pub kinds : (m : Marks) (id : ℕ) → AreEventKinds o m id
  pub looks_new : (t : Traced) → LooksAtEachEvent t
  pub treats : TreatsItsEvents o (exchanges k h)
  pub waits : KeepsWhatWaits o (exchanges k h)
  pub copies : OpensOutOfCopies k o first h → CopiesFindNone k o first h
  pub replaced : OpensOutOfCopies k o first h → WritesNoneOnceReplaced k o first h
  -- once it is interrupted it leaves its processes one after another, and lifts all that it has marked as planted
  pub leaves : LeavesItsProcesses k o h
  -- Beside its breakpoints it is a truss: without the messages and waits by which it sees to them, with those of its
  -- own in place of some, which the definition lists, and with its reads of faults of its own counted as reads that
  -- gave no bytes, its exchanges are like those of a truss, which does its own business in them. In these it opens
  -- each process that it was given, or tells the refusal of it, in their order. All that it has reported, calls of
  -- functions too, it prints. By its own calls: of the processes that it was given, and of no others, it gets hold in
  -- an entry, or says in one that it cannot trace them, one after another. Once it has polled or has finished it has
  -- done so with each, unless a call of it was interrupted before; and of one that it was given once it does not do
  -- both.
  pub ordinary : IsTrussBeside o (exchanges k h)
  pub handled : HandlesItsGiven o (exchanges k h) ordinary
  pub given : HoldsOrRefusesItsGiven k o h
  -- Where it is told that a process has ended, by whatever call to a handle of it, it closes each file of the process
  -- that it has open before it calls anything else; but for an entry in which truss, not interrupted before, lifts a
  -- breakpoint of a process of which it has no hold. Of such a lift this says nothing: where the opening was refused,
  -- truss goes on with its lifts.
  pub ended : ClosesAllThatEndedOf k o first h
  -- It watches a process just while it has hold of it, which its calls and their replies alone tell: from the PCRUN of
  -- a whole opening of the process, to the call to a handle of the process that is refused with ENOENT, or to its read
  -- of the statuses of the lwps once it was interrupted. It gets hold of a process at most once, and closes no file of
  -- it in the hold; it lets none go before it has polled, or a call of it was interrupted, and only for these reasons:
  -- the process has ended, or truss was interrupted and has read those statuses. Once it has finished it has hold of
  -- none. Each opening with which it gets hold of a process has its wait, and from the answered wait on no event of the
  -- process comes until then.
  pub holds : WatchesWhatItHolds k o first h
  pub keeps : KeepsItsHolds k o first h
  pub quiet : OpensQuietly k o first h
  -- That it cannot trace a process it says only while it is to open what it was given: before it has polled, and before
  -- a wait of it was interrupted. It does not say so of what it has hold of, nor with the reply by which it gets hold
  -- of it, but where it is refused an open of that process.
  pub tells : TellsRefusalsAtFirst k o h
  pub refusals : TellsNoRefusalOfHeld k o first h
  -- What it shows of a process it reads right then, and it is no fault of its own. And what it reads in the status of a
  -- process, the options select and is no fault of its own it shows, once no stop is left that stood before truss came;
  -- so too at its last look at the process, if it has not looked at the event before.
  pub shows : ShowsWhatItReadsOf k o first h
  pub new : ShowsWhatIsNewOf k o first h
  -- It sends PCRUN to a process before it shows more of it; so it shows no stop twice, unless that is refused.
  pub once : ShowsStopsOnceOf k o first h
  -- It reads the memory file of a process for the line of the event that it has just reported, and it has made no
  -- call since it read that event; so it has planted and lifted nothing. What stands in a line is what stood in the
  -- memory of the state in which it read, breakpoints too; nothing, where the line asks for none, or the process had
  -- ended.
  pub asks : ReadsForItsLinesOf k o first h
  pub at_once : ReadsAtOnceOf k o first h
  pub texts : HaveTheirTextsIn k o first h (ordinary_among (functions_at k o h).reports)
  -- Until it is interrupted, and where no stop of the process is left from before it came, that memory is the one right
  -- after the event, as long as the process lives, up to the read of the event, and up to that of the memory behind it.
  pub moments : MemoriesStand k o first h
  -- So it is report by report, also where it is interrupted and leaves its processes: what stands in the line of an
  -- event is the memory right after the event, which came while truss watched the process; or SIGKILL ended the process
  -- before truss read.
  pub of_their_events : (pid : ℕ)
      → AreOfTheirEventsIn k o pid first h (ordinary_among (functions_at k o h).reports)
  -- It calls no file but those that it has open; each poll lists the control files that it has open, in the order in
  -- which it opened them, and none twice. Of the files of a process it closes the control file last, and nobody has the
  -- process open for writing then; and where PR_RLC is set without PR_KLC, nothing is traced in it any more, and none
  -- of its lwps stands. Once it has finished it has nothing open.
  pub files : CallsItsFiles k first h
  pub order : PollsInOrder (exchanges k h)
  pub polls : PollsEachOnce k h
  pub controls_last : ClosesControlsLast k first h
  pub releases : ClosesFreelyThroughout k first h
  pub done : next_function_call_of (functions_at k o h) ≡ None → HasNothingOpen k (state_after first h)

-- ---- what programs see of it

-- The controller of a number is a truss at first, which shows calls of functions, and what it hides is its breakpoints.
pub record HidesAt (who : Hiders) (controllers : List ControllerState) (k : ℕ) : Type 0 where
  pub options : Options
  pub starts : slice_get controllers k ≡ Some (FnTruss (first_truss options))
  pub hides_these : who.functions k ≡ map patch_of options.functions

-- The controllers that hide what they do are each such a truss, and none asks by an agent.
pub record HideBreakpoints (who : Hiders) (controllers : List ControllerState) : Type 0 where
  pub no_probes : (k : ℕ) → who.probes k ≡ false
  pub trusses : (k : ℕ) → hides who k ≡ true → HidesAt who controllers k

-- Where those who hide what they do in a history are each a truss that shows calls of functions, on the conditions of
-- AreUndisturbed. So it is also where one of them is interrupted, and leaves its processes.
pub record WriteUnseen (controllers : List ControllerState) (first : TracedState) (h : List Entry) : Type 0 where
  -- Each PCWRITE of such a truss is tidy, so that programs have the memory after it that they had before; what each
  -- turn changes is tidy, and whom controllers kill; and the breakpoints that stand in a process that it traces are
  -- those that it has marked; and none stands where it closes a file of a process that lives. So it is also while it
  -- leaves its processes, once it was interrupted. It sends no PCCFAULT before it was interrupted; and PCCFAULT, and
  -- the PCRUN by which it clears a fault or steps an lwp, find no fault but one of those who hide.
  pub tidily : (who : Hiders) → HideBreakpoints who controllers → AreUndisturbed who controllers first h
      → WritesTidily who controllers first h
  pub leaves_none : (who : Hiders) → HideBreakpoints who controllers → AreUndisturbed who controllers first h
      → LeavesNoBreakpoint who first h
  pub clears : (who : Hiders) → HideBreakpoints who controllers → AreUndisturbed who controllers first h
      → ClearByRunning who h
  pub clears_own : (who : Hiders) → HideBreakpoints who controllers → AreUndisturbed who controllers first h
      → ClearsOwnFaultsAlone who first h
  -- If programs leave its breakpoints alone, then the calls of functions that it has shown are the turns that are such
  -- calls, each once and in their order, and it lacks the last one at most.
  pub lists : (who : Hiders) → HideBreakpoints who controllers → AreUndisturbed who controllers first h
      → IsSparing who first h → (k pid : ℕ) (o : Options) → hides who k ≡ true
      → slice_get controllers k ≡ Some (FnTruss (first_truss o)) → ListsItsTurns k o first h pid
  -- Where each call of all others is passive, FLTTRACE comes only where such a truss has the control file open; no lwp
  -- stands at a fault of its own where it closes a file of a process that lives; and no such fault is posted.
  pub own_steps : (who : Hiders) → HideBreakpoints who controllers → AreUndisturbed who controllers first h
      → AreOthersPassive who h → AreStepsOwn who first h
  pub leaves_no_fault : (who : Hiders) → HideBreakpoints who controllers → AreUndisturbed who controllers first h
      → AreOthersPassive who h → LeavesNoFault who first h
  pub posts_none : (who : Hiders) → HideBreakpoints who controllers → AreUndisturbed who controllers first h
      → AreOthersPassive who h → PostsNoOwnFault who first h
  -- So it is tidy. If programs leave its breakpoints alone then, they see nothing of it: the steps that are not hidden
  -- are a run of the machine without controllers, and its trace is that of the history without what is hidden.
  pub tidy : (who : Hiders) → HideBreakpoints who controllers → AreUndisturbed who controllers first h
      → AreOthersPassive who h → IsTidy who first h
  pub hidden : (who : Hiders) → HideBreakpoints who controllers → AreUndisturbed who controllers first h
      → AreOthersPassive who h → IsSparing who first h → IsHidden who first h
