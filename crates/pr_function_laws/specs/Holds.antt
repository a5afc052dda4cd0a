-- When truss with calls of functions has hold of a process, by the entries of a history alone: from the PCRUN that
-- completes the opening of it, behind the breakpoints that it has planted there, to the entry in which truss is told
-- that it has ended, or in which truss, which was interrupted before, reads the statuses of its lwps.
use Rattle.std.specs.Prelude.{◌≡◌, ◌⊎◌, ◌+◌, ◌++◌, ℕ, true, All, List, [], ◌∷◌, Option, None, Some, length, if◌then◌else◌}
use Rattle.pr_line.specs.declared.options.Options.{Options}
use Rattle.pr_model.specs.Events.{events_from}
use Rattle.pr_model.specs.Legal.{state_after}
use Rattle.pr_model.specs.Replies.{bytes_in, handle_in, until_in}
use Rattle.pr_model.specs.State.{TracedState}
use Rattle.pr_model.specs.declared.calls.Call.{Call}
use Rattle.pr_model.specs.declared.calls.Call.TheVariants as call
use Rattle.pr_model.specs.declared.calls.File.{File}
use Rattle.pr_model.specs.declared.calls.File.TheVariants as file
use Rattle.pr_model.specs.declared.calls.Mode.TheVariants.{Read, WriteExcl}
use Rattle.pr_model.specs.declared.calls.Reply.{Reply}
use Rattle.pr_model.specs.declared.events.Entry.{Entry}
use Rattle.pr_num.specs.Control.{rlc_mode}
use Rattle.pr_num.specs.Limits.{all_faults, all_signals, read_limit}
use Rattle.pr_num.specs.Messages.{spelling}
use Rattle.pr_num.specs.declared.messages.Message.TheVariants as message
use Rattle.pr_report_laws.specs.Attachments.{HasFile, IsLetGo, WasInterrupted}
use Rattle.pr_report_laws.specs.Grips.{IsOfOther}
use Rattle.pr_report_laws.specs.Holds.{KeepsHold, LetsGoIn}
use Rattle.pr_report_laws.specs.OwnOpens.{IsGoingOn}
use Rattle.pr_report_laws.specs.Watching.{watches}
use Rattle.pr_truss.specs.FunctionCalls.{next_function_call_of, plant_call, read_code_call, with_copying}
use Rattle.pr_truss.specs.FunctionFeeding.{is_to_plant}
use Rattle.pr_truss.specs.Messages.{all_modes, message_call, traced_entries, traced_exits}
use Rattle.pr_truss_laws.specs.Exchanges.{Exchange, IsGranted, calls_in, exchange_of, exchanges}
use Rattle.pr_truss_laws.specs.Given.{reply_at}
use Rattle.pr_function_laws.specs.Opened.{functions_at}
use Rattle.pr_function_laws.specs.Planted.{Look, Plants, Reads, look_at}

-- ---- the opening of a process

-- The calls of an opening up to its traced sets: the four files; no mode but run-on-last-close; a stop, and the wait
-- for it; a look at the lwps; and the four sets: all signals, all faults, and besides the calls that the options choose
-- those that copy or replace the memory, at their entry and at their exit. Its control file and that of its lwps have
-- these handles, and its wait ends at this clock in any case.
abbrev pub setting_calls_with : Options → ℕ → ℕ → ℕ → ℕ → List Call
setting_calls_with o pid control lstatus until =
    call.Open pid 0 file.Ctl WriteExcl ∷ call.Open pid 0 file.Status Read ∷ call.Open pid 0 file.Lstatus Read
    ∷ call.Open pid 0 file.Mem Read ∷ message_call control (message.Unset all_modes)
    ∷ message_call control (message.Set rlc_mode) ∷ message_call control message.Stop
    ∷ call.CtlWait control until (spelling message.Stop []) ∷ call.Read lstatus 0 read_limit
    ∷ message_call control (message.Strace all_signals) ∷ message_call control (message.Sfault all_faults)
    ∷ message_call control (message.Sentry (with_copying (traced_entries o)))
    ∷ message_call control (message.Sexit (with_copying (traced_exits o))) ∷ []

-- the same, with the handles that the first and the third reply gave, and the clock that the seventh gave
unfoldable pub setting_calls : Options → ℕ → List Exchange → List Call
setting_calls o pid xs =
    setting_calls_with o pid (handle_in (reply_at xs 0)) (handle_in (reply_at xs 2)) (until_in (reply_at xs 6))

-- The calls behind them, to the file of this handle, from this look at a function on. It reads the first instruction of
-- one function after another. Where it read the code of the function, and no function before that has its address, it
-- plants the breakpoint next. Behind the last one it runs the process, with no run flag, and that is the last of these
-- exchanges.
abbrev pub LooksAndRuns : Options → ℕ → Option Look → List Exchange → Type 0
LooksAndRuns o control look [] = ⊥
LooksAndRuns o control None (x ∷ xs) = (x.call ≡ message_call control (message.Run 0)) × (xs ≡ [])
LooksAndRuns o control (Some (Reads function)) (x ∷ xs) =
    (x.call ≡ read_code_call o control function)
    × LooksAndRuns o control
    (if is_to_plant o function (bytes_in x.reply) then Some (Plants function) else look_at o (function + 1)) xs
LooksAndRuns o control (Some (Plants function)) (x ∷ xs) =
    (x.call ≡ plant_call o control function) × LooksAndRuns o control (look_at o (function + 1)) xs

-- A whole opening, of which no call was refused.
pub record IsWholeFunctionOpening (o : Options) (pid : ℕ) (xs : List Exchange) : Type 0 where
  pub settings : List Exchange
  pub looks : List Exchange
  pub is : xs ≡ settings ++ looks
  pub calls : calls_in settings ≡ setting_calls o pid settings
  pub runs : LooksAndRuns o (handle_in (reply_at settings 0)) (look_at o 0) looks
  pub granted : All IsGranted xs

-- ---- the hold

-- In this entry truss gets hold of a process: its last calls are a whole opening of the process.
pub record GetsHoldWithFunctions (k : ℕ) (o : Options) (pid : ℕ) (before : List Entry) (e : Entry) : Type 0 where
  pub last : Exchange
  pub own : exchange_of k e ≡ Some last
  pub earlier : List Exchange
  pub opening : List Exchange
  pub is : exchanges k (before ++ e ∷ []) ≡ earlier ++ opening
  pub whole : IsWholeFunctionOpening o pid opening

-- At the end of this history truss has hold of the process: it got hold of it, and has not let it go since.
pub record HasHoldWithFunctions (k : ℕ) (o : Options) (pid : ℕ) (s : TracedState) (h : List Entry) : Type 0 where
  pub front : List Entry
  pub opening : Entry
  pub hold : List Entry
  pub is : h ≡ front ++ opening ∷ hold
  pub begins : GetsHoldWithFunctions k o pid front opening
  pub keeps : KeepsHold k pid s (front ++ opening ∷ []) hold

-- ---- the watch

-- The watch of a process, which is a part of truss's own state, is told by calls and replies: wherever truss has come
-- to, it watches a process just while it has hold of it. Once it has finished it has hold of none.
pub record WatchesWhatItHolds (k : ℕ) (o : Options) (first : TracedState) (h : List Entry) : Type 0 where
  pub held : (before later : List Entry) (pid : ℕ) → h ≡ before ++ later → HasHoldWithFunctions k o pid first before
      → watches (functions_at k o before) pid ≡ true
  pub watched : (before later : List Entry) (pid : ℕ) → h ≡ before ++ later
      → watches (functions_at k o before) pid ≡ true → HasHoldWithFunctions k o pid first before
  pub finished : (pid : ℕ) → next_function_call_of (functions_at k o h) ≡ None → HasHoldWithFunctions k o pid first h
      → ⊥

-- ---- how a hold begins and ends

-- Truss gets hold of a process at most once. As long as it has hold of it, it closes no file of it. It lets none go
-- before it has polled, or a call of it was interrupted; and where it does, the process has ended, or truss was
-- interrupted and has read the statuses of its lwps.
pub record KeepsItsHolds (k : ℕ) (o : Options) (first : TracedState) (h : List Entry) : Type 0 where
  pub once : (before between later : List Entry) (e f : Entry) (pid : ℕ) → h ≡ before ++ e ∷ (between ++ f ∷ later)
      → GetsHoldWithFunctions k o pid before e → GetsHoldWithFunctions k o pid (before ++ e ∷ between) f → ⊥
  pub closes_none : (before later : List Entry) (e : Entry) (pid handle : ℕ) (f : File) (r : Reply)
      → h ≡ before ++ e ∷ later → exchange_of k e ≡ Some (record { call = call.Close handle; reply = r })
      → HasFile k pid f handle (state_after first before) → HasHoldWithFunctions k o pid first before → ⊥
  pub lets_go : (before later : List Entry) (e : Entry) (pid : ℕ) → h ≡ before ++ e ∷ later
      → HasHoldWithFunctions k o pid first before → LetsGoIn k pid first before e
      → (All IsGoingOn (exchanges k before) → ⊥) ⊎ WasInterrupted k before
  pub reasons : (before later : List Entry) (e : Entry) (pid : ℕ) → h ≡ before ++ e ∷ later
      → LetsGoIn k pid first before e → IsLetGo k pid first before e

-- ---- from the wait of an opening on

-- A whole opening of which the eighth call, the wait for the stop, is answered in an entry, and the last one, PCRUN, in
-- another one, after those between.
pub record IsOpenedFromWait (k : ℕ) (o : Options) (pid : ℕ) (before : List Entry) (waiting : Entry)
    (between : List Entry) (running : Entry) : Type 0 where
  pub gets : GetsHoldWithFunctions k o pid (before ++ waiting ∷ between) running
  pub begun : List Exchange
  pub wait : Exchange
  pub is : exchanges k before ≡ gets.earlier ++ begun
  pub seven : length begun ≡ 7
  pub own : exchange_of k waiting ≡ Some wait

-- The opening that this entry completes has its wait in an earlier one.
pub record HasWaited (k : ℕ) (o : Options) (pid : ℕ) (before : List Entry) (running : Entry) : Type 0 where
  pub front : List Entry
  pub waiting : Entry
  pub between : List Entry
  pub is : before ≡ front ++ waiting ∷ between
  pub opened : IsOpenedFromWait k o pid front waiting between running

-- So it is of each opening with which truss gets hold of a process; and from the answered wait on no event of the
-- process comes until truss has hold of it.
pub record OpensQuietly (k : ℕ) (o : Options) (first : TracedState) (h : List Entry) : Type 0 where
  pub waits : (before later : List Entry) (e : Entry) (pid : ℕ) → h ≡ before ++ e ∷ later
      → GetsHoldWithFunctions k o pid before e → HasWaited k o pid before e
  pub quiet : (before between later : List Entry) (waiting running : Entry) (pid : ℕ)
      → h ≡ before ++ waiting ∷ (between ++ running ∷ later) → IsOpenedFromWait k o pid before waiting between running
      → All (IsOfOther pid) (events_from (state_after first before) (waiting ∷ (between ++ running ∷ [])))
