use mathlib.Core.Logic.{inl, inr}
use Rattle.std.specs.Prelude.{◌≡◌, ◌≤◌, ◌⊎◌, ◌-◌, ℕ, true, List, [], ◌∷◌, ◌++◌, Some, length, slice_get}
use Rattle.pr_line.specs.declared.options.Options.{Options}
use Rattle.pr_model.specs.Legal.{state_after}
use Rattle.pr_model.specs.Replies.{bytes_in}
use Rattle.pr_model.specs.State.{TracedState}
use Rattle.pr_model.specs.declared.calls.File.TheVariants.{Ctl, Status, Lstatus, Mem}
use Rattle.pr_model.specs.declared.events.Entry.{Entry}
use Rattle.pr_rec.specs.declared.lwps.LwpStatus.{LwpStatus}
use Rattle.pr_truss.specs.NextCalls.{next_call_of}
use Rattle.pr_truss.specs.Records.{child_of, event_stops, is_on_event, status_lwp}
use Rattle.pr_truss_laws.specs.Exchanges.{Exchange, exchange_of, exchanges, truss_at}
use Rattle.pr_truss_laws.specs.Given.{reply_at}
use Rattle.pr_report_laws.specs.Attachments.{HasFile, HasFollowed, HasOpened, ReadsFile}
use Rattle.pr_report_laws.specs.Follows.{IsHandledNext, ReadsFork}
use Rattle.pr_report_laws.specs.Freed.{IsSetFree, ReadsLastFork}
use Rattle.pr_report_laws.specs.Holds.{HasHold}
use Rattle.pr_report_laws.specs.Reads.{AreRead}
use Rattle.pr_report_laws.specs.Shown.{LwpEvent}

-- Which read tells truss of a child that it has to see to, and what truss does then: by calls and replies, by what it
-- printed, and by the call that is due.

-- ---- the stops that stood before truss came

-- How many of the next stops of a process are old where truss gets hold of it. The look of an opening, its ninth call,
-- shows the lwps that stand on events: the first of them is run with the opening, and each other one stops truss later.
-- The child of a fork has none: it stands on its birth alone.
abbrev pub old_stops : (k : ℕ) (o : Options) (pid : ℕ) (h : List Entry) → HasOpened k o pid h ⊎ HasFollowed k pid h → ℕ
old_stops k o pid h (inl w) = length (event_stops (bytes_in (reply_at w.opening 8))) - 1
old_stops k o pid h (inr w) = 0

-- At the end of this history truss has hold of the process, and no old stop of it is left: since truss got hold of it,
-- so many reads found an lwp of it on an event as stops were old, or more. So the next such read tells of a new stop.
pub record HasNoOldStop (k : ℕ) (o : Options) (pid : ℕ) (s : TracedState) (h : List Entry) : Type 0 where
  pub held : HasHold k o pid s h
  pub events : List LwpEvent
  pub read : AreRead k pid (state_after s (held.front ++ held.opening ∷ [])) held.hold events
  pub enough : old_stops k o pid (held.front ++ held.opening ∷ []) held.begins.complete ≤ length events

-- ---- the read

-- In an entry truss reads a status of a process, and it tells that an lwp of the process has made this child.
pub record TellsChild (k parent child : ℕ) (s : TracedState) (e : Entry) : Type 0 where
  pub read : ReadsFile k parent Status s e
  pub lwp : LwpStatus
  pub told : status_lwp read.bytes ≡ Some lwp
  pub made : child_of lwp ≡ Some child

-- After the entries before, in this one truss reads the status of a process, and it tells of a new stop on the return
-- of a fork or vfork, which made this child.
pub record ReadsChild (k : ℕ) (o : Options) (parent child : ℕ) (s : TracedState) (before : List Entry) (e : Entry)
    : Type 0 where
  pub new : HasNoOldStop k o parent s before
  pub tells : TellsChild k parent child (state_after s before) e
  pub event : is_on_event tells.lwp ≡ true

-- The same of the statuses of its lwps, which truss reads while it leaves the process: the first lwp on an event.
pub record ReadsLastChild (k : ℕ) (o : Options) (parent child : ℕ) (s : TracedState) (before : List Entry) (e : Entry)
    : Type 0 where
  pub new : HasNoOldStop k o parent s before
  pub read : ReadsFile k parent Lstatus (state_after s before) e
  pub lwp : LwpStatus
  pub first : slice_get (event_stops (Some read.bytes)) 0 ≡ Some lwp
  pub made : child_of lwp ≡ Some child

-- ---- what comes then

-- After that read truss follows the child: it has the control file of the parent open, and its next calls are those by
-- which it opens the child and runs the parent, as far as it has come at the end of this history.
pub record FollowsChild (k : ℕ) (o : Options) (parent child : ℕ) (s : TracedState) (before : List Entry) (e : Entry)
    (later : List Entry) : Type 0 where
  pub control : ℕ
  pub has : HasFile k parent Ctl control (state_after s before)
  pub comes : IsHandledNext child control (truss_at k o (before ++ e ∷ [])).reports
      (truss_at k o (before ++ e ∷ later)).reports (next_call_of (truss_at k o (before ++ e ∷ later)))
      (exchanges k later)

-- After that read truss sets the child free: it has all four files of the parent open, and its next calls are those by
-- which it sets the child free and closes these files, as far as it has come.
pub record FreesChild (k : ℕ) (o : Options) (parent child : ℕ) (s : TracedState) (before : List Entry) (e : Entry)
    (later : List Entry) : Type 0 where
  pub memory : ℕ
  pub lstatus : ℕ
  pub status : ℕ
  pub control : ℕ
  pub has_memory : HasFile k parent Mem memory (state_after s before)
  pub has_lstatus : HasFile k parent Lstatus lstatus (state_after s before)
  pub has_status : HasFile k parent Status status (state_after s before)
  pub has_control : HasFile k parent Ctl control (state_after s before)
  pub comes : IsSetFree child (memory ∷ lstatus ∷ status ∷ control ∷ []) (truss_at k o (before ++ e ∷ [])).reports
      (truss_at k o (before ++ e ∷ later)).reports (next_call_of (truss_at k o (before ++ e ∷ later)))
      (exchanges k later)

-- ---- the same by the state of truss

-- The reply to the call of this entry tells truss of the child by its own state, at a stop of a process.
pub record TellsFork (k : ℕ) (o : Options) (child : ℕ) (before : List Entry) (e : Entry) : Type 0 where
  pub exchange : Exchange
  pub own : exchange_of k e ≡ Some exchange
  pub place : ℕ
  pub reads : ReadsFork (truss_at k o before) exchange.reply place child

-- The same while it leaves one.
pub record TellsLastFork (k : ℕ) (o : Options) (child : ℕ) (before : List Entry) (e : Entry) : Type 0 where
  pub exchange : Exchange
  pub own : exchange_of k e ≡ Some exchange
  pub reads : ReadsLastFork (truss_at k o before) exchange.reply child

-- In a history the entry of this exchange, which comes after these, reads of the child, at a stop of the parent.
pub record IsReadAt (k : ℕ) (o : Options) (parent child : ℕ) (s : TracedState) (h : List Entry) (past : List Exchange)
    (x : Exchange) : Type 0 where
  pub before : List Entry
  pub entry : Entry
  pub later : List Entry
  pub is : h ≡ before ++ entry ∷ later
  pub earlier : exchanges k before ≡ past
  pub own : exchange_of k entry ≡ Some x
  pub reads : ReadsChild k o parent child s before entry

-- The same while truss leaves the parent.
pub record IsLastReadAt (k : ℕ) (o : Options) (parent child : ℕ) (s : TracedState) (h : List Entry)
    (past : List Exchange) (x : Exchange) : Type 0 where
  pub before : List Entry
  pub entry : Entry
  pub later : List Entry
  pub is : h ≡ before ++ entry ∷ later
  pub earlier : exchanges k before ≡ past
  pub own : exchange_of k entry ≡ Some x
  pub reads : ReadsLastChild k o parent child s before entry
