use Rattle.std.specs.Prelude.{◌≡◌, ◌≢◌, ◌⊎◌, ◌++◌, ℕ, true, List, [], ◌∷◌, Option, Some, None}
use Rattle.std.specs.Prelude.{slice_get}
use Rattle.std.specs.List.{All}
use Rattle.pr_report_laws.specs.Unfollowed.{HasUnfollowed}
use Rattle.pr_line.specs.Selections.{is_selected}
use Rattle.pr_line.specs.declared.options.Options.{Options}
use Rattle.pr_model.specs.Events.{Logged, events_from}
use Rattle.pr_model.specs.Handles.{handle_of}
use Rattle.pr_model.specs.Legal.{state_after}
use Rattle.pr_model.specs.Calls.{Answer, answer_to}
use Rattle.pr_model.specs.State.{TracedProcess, TracedState, live_process}
use Rattle.pr_model.specs.declared.calls.Call.{Call}
use Rattle.pr_model.specs.declared.calls.Call.TheVariants.{Close}
use Rattle.pr_model.specs.declared.calls.File.TheVariants.{Ctl}
use Rattle.pr_model.specs.declared.calls.Reply.{Reply}
use Rattle.pr_model.specs.declared.events.Entry.{Entry}
use Rattle.pr_model.specs.declared.handles.Held.{Held}
use Rattle.pr_num.specs.Control.{rlc_mode}
use Rattle.pr_num.specs.declared.messages.Message.TheVariants.{Set}
use Rattle.pr_truss.specs.Messages.{message_call}
use Rattle.pr_truss.specs.NextCalls.{next_call_of}
use Rattle.pr_truss.specs.Trusses.{first_truss}
use Rattle.pr_truss.specs.declared.reports.Report.{Report}
use Rattle.pr_report_laws.specs.AsChildren.{IsNeverOpenedAsChild}
use Rattle.pr_report_laws.specs.Asked.{AsksForItsLines, ReadsItsReplies, SelectsWhatIsNamed, TracesWhatIsAsked, WritesOneMessage}
use Rattle.pr_report_laws.specs.Counted.{PrintsItsCounts}
use Rattle.pr_report_laws.specs.LineReads.{ReadsForItsLines}
use Rattle.pr_report_laws.specs.Looks.{LooksAtWhatItLeaves, LooksInPlace}
use Rattle.pr_report_laws.specs.OwnFiles.{CallsItsFiles, ClosesAllThatEnded, ClosesControlsLast, ClosesNothingHeld, ClosesWhatItLeaves, PollsEachOnce}
use Rattle.pr_report_laws.specs.LaterSends.{SendsLittleLater}
use Rattle.pr_report_laws.specs.OwnOpens.{OpensInPlace}
use Rattle.pr_report_laws.specs.PollOrder.{PollsInOrder}
use Rattle.pr_report_laws.specs.ShownOnce.{ShowsStopsOnce, ShowsWhatIsNew, ShowsWhatItReads}
use Rattle.pr_report_laws.specs.Lineages.{IsLeftToTruss}
use Rattle.pr_report_laws.specs.Follows.{IsLeftChild}
use Rattle.pr_report_laws.specs.Freed.{IsInterruptedFreeing}
use Rattle.pr_report_laws.specs.Attachments.{HasFile, HasFollowed, IsLetGo}
use Rattle.pr_laws.specs.LastCloses.{IsReleased}
use Rattle.pr_report_laws.specs.HeldEvents.{DiedHeld, IsUnanswered, ReadsHeld, ShowsHeld}
use Rattle.pr_report_laws.specs.HeldForks.{CaresForChildren}
use Rattle.pr_report_laws.specs.HeldGrips.{HasOneGrip}
use Rattle.pr_report_laws.specs.HeldMemories.{StandAtTheirEvents}
use Rattle.pr_report_laws.specs.HeldRefusals.{TellsNoRefusalOfWhatItHolds, TellsRefusalsOfOpens}
use Rattle.pr_report_laws.specs.Holds.{CameHeld, HasHold, LetsGoIn}
use Rattle.pr_report_laws.specs.Memories.{HaveTheirTexts}
use Rattle.pr_report_laws.specs.Newborn.{IsNoTurnOf, WasForked, WasSpawned}
use Rattle.pr_report_laws.specs.RunsNamed.{RunsWhatWasNamed}
use Rattle.pr_report_laws.specs.SetModes.{HasSetRelease}
use Rattle.pr_report_laws.specs.Shown.{selected, LwpEvent, shown}
use Rattle.pr_report_laws.specs.SoonOpen.{PollsByItsFiles}
use Rattle.pr_report_laws.specs.ToldForks.{FollowsChild, FreesChild, ReadsChild, ReadsLastChild}
use Rattle.pr_truss_laws.specs.Exchanges.{Exchange, Makes, errno_in, exchange_of, exchanges, truss_at}
use Rattle.pr_truss_laws.specs.Given.{IsHandled, IsHandledSoFar}
use Rattle.pr_truss_laws.specs.Handles.{HasNothingOpen}
use Rattle.pr_truss_laws.specs.Business.{DoesItsBusiness}
use Rattle.pr_report_laws.specs.Grips.{GetsHold, IsLeftIn}
use Rattle.pr_report_laws.specs.Named.{IsSoonDone, LooksAtWhatIsNamed, RunsBeforeItPolls}
use Rattle.pr_world.specs.ControllerStates.{ControllerState, Truss}
use Rattle.pr_world.specs.Protocol.{controllers_at}

-- What a run keeps of each truss.

-- ---- the end

-- A process was let go, for a reason, in an entry of those that came after these ones.
pub record WasLetGo (k pid : ℕ) (first : TracedState) (before later : List Entry) : Type 0 where
  pub between : List Entry
  pub entry : Entry
  pub behind : List Entry
  pub is : later ≡ between ++ entry ∷ behind
  pub reason : IsLetGo k pid first (before ++ between) entry

-- Of the selected events that came while truss had hold of a process just this last one is missing: SIGKILL ended the
-- process while truss had hold of it, before a read of it gave truss an answer.
pub record IsLostByKill (k : ℕ) (o : Options) (pid : ℕ) (first : TracedState) (h : List Entry)
    (missing : List LwpEvent) : Type 0 where
  pub event : LwpEvent
  pub one : missing ≡ event ∷ []
  pub killed : DiedHeld k o pid first h
  pub unread : IsUnanswered (is_selected o) k o pid first h event

-- What a truss that has finished has shown of a process: all that was selected of its events while truss had hold of
-- it, each once and in order, or all but the last one of a process that SIGKILL ended.
pub record HasShownAll (k : ℕ) (o : Options) (pid : ℕ) (first : TracedState) (h : List Entry) : Type 0 where
  pub logged : List Logged
  pub held : CameHeld k o pid first h logged
  pub missing : List LwpEvent
  pub is : selected o pid logged ≡ shown pid (truss_at k o h) ++ missing
  pub few : (missing ≡ []) ⊎ IsLostByKill k o pid first h missing

-- A truss that has finished: each process that it was given was attached or its refusal is reported, unless it was
-- interrupted before; it has nothing open, and it has hold of no process any more. Each process that it had hold of was
-- let go: it had ended, or truss had been interrupted. Where the events of a process are shown at all, all are, but
-- perhaps the last one of a process that SIGKILL ended.
pub record HasDone (k : ℕ) (o : Options) (first : TracedState) (h : List Entry) : Type 0 where
  pub handled : IsHandled o o.program (truss_at k o h).reports (exchanges k h)
  pub nothing_open : HasNothingOpen k (state_after first h)
  pub holds_none : (pid : ℕ) → HasHold k o pid first h → ⊥
  pub lets_go : (before later : List Entry) (pid : ℕ) → h ≡ before ++ later → HasHold k o pid first before
      → WasLetGo k pid first before later
  pub shows : (pid : ℕ) → ShowsHeld k o pid first h → HasShownAll k o pid first h

-- ---- the children of forks

-- A child that truss has hold of from the end of this history on: a fork made it and no controller did, no lwp of it
-- has had a turn, and so no event of it that the options select has come.
pub record IsNewborn (o : Options) (pid : ℕ) (first : TracedState) (h : List Entry) : Type 0 where
  pub forked : WasForked pid h
  pub unstarted : (by : ℕ) → WasSpawned by pid h → ⊥
  pub still : All (IsNoTurnOf pid) h
  pub silent : selected o pid (events_from first h) ≡ []

-- What a truss that follows children does with those of the forks that it reads: each is opened, or its refusal is the
-- next report; and one that it reads while it leaves a process is set free, or its refusal is the next report. Of what
-- it has not done of that yet the first call is due: when it has finished it has done all of it. No such opening is
-- interrupted.
pub record HandlesChildren (k : ℕ) (o : Options) (first : TracedState) (h : List Entry) : Type 0 where
  pub follows : (before later : List Entry) (e : Entry) (parent child : ℕ) → h ≡ before ++ e ∷ later
      → ReadsChild k o parent child first before e → FollowsChild k o parent child first before e later
  pub frees : (before later : List Entry) (e : Entry) (parent child : ℕ) → h ≡ before ++ e ∷ later
      → ReadsLastChild k o parent child first before e → FreesChild k o parent child first before e later
  pub leaves_none : (before later : List Exchange) (child : ℕ) → exchanges k h ≡ before ++ later
      → IsLeftChild child later → ⊥
  pub keeps_none : (before later : List Exchange) (child : ℕ) (handles : List ℕ) (base reports : List Report)
      → (due : Option Call) → exchanges k h ≡ before ++ later
      → IsInterruptedFreeing child handles base reports due later → ⊥

-- ---- what truss releases

-- What this truss leaves when it closes a control file after this history: a process of which it has set PR_RLC by that
-- file is released, if it lives. Nothing of it is traced or watched then, and no lwp of it stands on an event, is
-- directed to stop, or has a mark. It has the control file open of each process of which it has hold.
pub record Releases (k : ℕ) (o : Options) (first : TracedState) (h : List Entry) : Type 0 where
  pub set : (number : ℕ) (held : Held) (p : TracedProcess) (a : Answer) → HasSetRelease k number held first h
      → live_process (state_after first h).system held.pid ≡ Some p
      → answer_to (state_after first h) k (Close number) ≡ Some a
      → (q : TracedProcess) × ((live_process a.state.system held.pid ≡ Some q) × IsReleased q)
  pub controls : (pid : ℕ) → HasHold k o pid first h → (number : ℕ) × HasFile k pid Ctl number (state_after first h)

-- ---- what it opens

-- Truss opens, in their order, the processes that it was given, as far as it has come: each is attached, or its refusal
-- is reported. It gets hold of a process by the whole opening of it, at most once, and from the wait of the opening on
-- the process does nothing until truss has hold of it. It opens each file in its place: those of what it was given
-- before it polls, those of a child right after the read that told of it, and each behind the one before it. Once it
-- has polled, or was interrupted, it sends nothing but PCRUN, PR_RLC of a child just opened, and that it follows no
-- more children of what it leaves. It calls no file but those that it has open; each poll lists the control files that
-- it has open, in the order in which it opened them, and none twice. That it cannot trace a process it says while it is
-- to open what it was given, or where it opens a file of the process or a child: not of what it has hold of, or has let
-- go.
pub record OpensItsOwn (k : ℕ) (o : Options) (first : TracedState) (h : List Entry) : Type 0 where
  pub handled : IsHandledSoFar o (next_call_of (truss_at k o h)) o.program (truss_at k o h).reports (exchanges k h)
  pub grips : (pid : ℕ) → HasOneGrip k o pid first h
  pub places : OpensInPlace k o first h
  pub later : SendsLittleLater k o first h
  pub calls : CallsItsFiles k first h
  pub polls : PollsEachOnce k h
  pub order : PollsInOrder (exchanges k h)
  pub refusals : TellsNoRefusalOfWhatItHolds k o first h
  pub tells : TellsRefusalsOfOpens k o h

-- ---- what it shows

-- Of each process truss has read the events that it traces and that came while it had hold of the process, each by a
-- read of its own, and has shown those of them that the options select. Where it follows children, this is said only of
-- a process that it never opened as the child of a fork, or that is left to truss: of this process, and of those that
-- it descends from, as far as truss opened them as children, no other controller was granted a handle for writing
-- between the fork that made it and that open, nor had truss opened all its files by its id. What it shows of a
-- process, whichever it is, it reads right then, and it runs the process before it shows more of it; and what it reads
-- and the options select it shows, once no stop is left that stood before truss came. It looks at a process where a
-- poll has just named it, in the opening of it, and once as it leaves it. It reads memory for its lines alone, right
-- behind the read of the event. What stands in the line of an event is that of the state in which truss read it, and on
-- the same condition that of the state right after the event, unless SIGKILL ended the process before truss read.
pub record ShowsItsEvents (k : ℕ) (o : Options) (first : TracedState) (h : List Entry) : Type 0 where
  pub reads : (pid : ℕ) → IsLeftToTruss k o pid first h ⊎ IsNeverOpenedAsChild k o pid first h
      → ReadsHeld k o pid first h
  pub shows : (pid : ℕ) → IsLeftToTruss k o pid first h ⊎ IsNeverOpenedAsChild k o pid first h
      → ShowsHeld k o pid first h
  pub answers : ShowsWhatItReads k o first h
  pub once : ShowsStopsOnce k o first h
  pub new : ShowsWhatIsNew k o first h
  pub looks : LooksInPlace k o first h
  pub last_looks : LooksAtWhatItLeaves k first h
  pub asks : ReadsForItsLines k o first h
  pub texts : HaveTheirTexts k o first h (truss_at k o h).reports
  pub moments : (pid : ℕ) → IsLeftToTruss k o pid first h ⊎ IsNeverOpenedAsChild k o pid first h
      → StandAtTheirEvents k o pid first h (truss_at k o h).reports

-- ---- what it follows

-- With -f each child of a fork that truss reads is opened or set free, or its refusal is reported; a child that is left
-- to truss does nothing before truss has hold of it; and when truss has finished no child is left that a fork of a
-- process made while truss had hold of that process.
pub record FollowsItsChildren (k : ℕ) (o : Options) (first : TracedState) (h : List Entry) : Type 0 where
  pub children : o.follow ≡ true → HandlesChildren k o first h
  pub newborn : (before later : List Entry) (e : Entry) (pid : ℕ) → IsLeftToTruss k o pid first h
      → h ≡ before ++ e ∷ later → GetsHold k o pid before e → HasFollowed k pid (before ++ e ∷ [])
      → IsNewborn o pid first (before ++ e ∷ [])
  pub leaves_none : o.follow ≡ true → next_call_of (truss_at k o h) ≡ None → CaresForChildren k o first h

-- ---- what it runs and lets go

-- Right after a poll has named a process truss reads its status, and at most twelve calls after the poll, and before it
-- polls again, it runs the process, or closes a file of it. Where it does not end an opening it runs just what the last
-- poll has named, and once for each poll. Where it lets a process go, the process has ended, or truss was interrupted.
-- Before its last look at a process that it leaves it has the children of that process followed no more. It closes no
-- file of a process of which it has hold. Of what has ended it closes all its files before it calls anything else; so
-- it does behind that last look, but that it may read memory for a line before, or set a child free. The control file
-- of a process it closes last. How many calls come at most before it polls is told by the control files that it has
-- open.
pub record LetsItsProcessesGo (k : ℕ) (o : Options) (first : TracedState) (h : List Entry) : Type 0 where
  pub soon : IsSoonDone k first h
  pub looks : LooksAtWhatIsNamed k first h
  pub before_polls : RunsBeforeItPolls k first h
  pub runs : RunsWhatWasNamed o (exchanges k h)
  pub unfollows : (before later : List Entry) (e : Entry) (pid : ℕ) → h ≡ before ++ e ∷ later
      → IsLeftIn k pid first before e → HasUnfollowed k pid (state_after first before) before
  pub lets_go : (before later : List Entry) (e : Entry) (pid : ℕ) → h ≡ before ++ e ∷ later
      → HasHold k o pid first before → LetsGoIn k pid first before e → IsLetGo k pid first before e
  pub keeps : ClosesNothingHeld k o first h
  pub ended : ClosesAllThatEnded k first h
  pub closes : ClosesWhatItLeaves k first h
  pub controls_last : ClosesControlsLast k first h
  pub polls : PollsByItsFiles k o first h

-- ---- what it releases

-- Wherever it has come to, truss releases each process of which it has set PR_RLC, as each whole opening does, when it
-- closes the control file, also where an opening is broken off behind that message, which is refused for no live
-- process but process 0.
pub record ReleasesItsProcesses (k : ℕ) (o : Options) (first : TracedState) (h : List Entry) : Type 0 where
  pub releases : (before later : List Entry) → h ≡ before ++ later → Releases k o first before
  pub granted : (before later : List Entry) (e : Entry) (number : ℕ) (reply : Reply) (held : Held) (p : TracedProcess)
      → h ≡ before ++ e ∷ later
      → exchange_of k e ≡ Some (record { call = message_call number (Set rlc_mode); reply = reply })
      → handle_of (state_after first before).opens k number ≡ Some held → held.file ≡ Ctl
      → live_process (state_after first before).system held.pid ≡ Some p → held.pid ≢ 0 → errno_in reply ≡ None

-- ---- what its options say

-- Truss has traced what its options choose, and with -f the calls that make a child. What it shows is what they name,
-- exit and lwp_exit as they are entered and the other calls as they end, but for the stop of a child at its birth. Each
-- write of truss to a control file is one message. It asks for the memory of its lines alone; and with -c it prints
-- what was refused, and its counts.
pub record KeepsToItsOptions (o : Options) (xs : List Exchange) : Type 0 where
  pub traces : TracesWhatIsAsked o
  pub selects : SelectsWhatIsNamed o
  pub writes : WritesOneMessage
  pub asks : AsksForItsLines o
  pub replies : ReadsItsReplies
  pub counts : PrintsItsCounts o xs

-- ---- all of it

-- The controller of a number is a truss with these options, whose calls are those that it makes after the replies that
-- it got: its own business alone, as its options say. It opens, shows, follows, lets go and releases its processes as
-- these say; and once it has finished nothing is left to do.
pub record IsTrussKept (controllers : List ControllerState) (first : TracedState) (h : List Entry)
    (k : ℕ) (o : Options) : Type 0 where
  pub makes : Makes (first_truss o) (exchanges k h)
  pub truss : slice_get (controllers_at controllers h) k ≡ Some (Truss (truss_at k o h))
  pub business : DoesItsBusiness o (exchanges k h)
  pub keeps : KeepsToItsOptions o (exchanges k h)
  pub opens : OpensItsOwn k o first h
  pub shows : ShowsItsEvents k o first h
  pub follows : FollowsItsChildren k o first h
  pub lets_go : LetsItsProcessesGo k o first h
  pub releases : ReleasesItsProcesses k o first h
  pub done : next_call_of (truss_at k o h) ≡ None → HasDone k o first h
