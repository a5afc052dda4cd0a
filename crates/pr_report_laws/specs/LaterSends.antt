use Rattle.std.specs.Prelude.{◌≡◌, ◌≢◌, ℕ, true, All, List, ◌∷◌, ◌++◌, Some}
use Rattle.pr_line.specs.declared.options.Options.{Options}
use Rattle.pr_model.specs.Legal.{state_after}
use Rattle.pr_model.specs.Replies.{handle_in}
use Rattle.pr_model.specs.State.{TracedState}
use Rattle.pr_model.specs.declared.calls.Call.{Call}
use Rattle.pr_model.specs.declared.calls.File.TheVariants.{Ctl}
use Rattle.pr_model.specs.declared.events.Entry.{Entry}
use Rattle.pr_num.specs.Control.{fork_mode, rlc_mode}
use Rattle.pr_num.specs.declared.messages.Message.TheVariants.{Set, Unset}
use Rattle.pr_truss.specs.Messages.{message_call}
use Rattle.pr_truss.specs.NextCalls.{open_control, run_call}
use Rattle.pr_truss_laws.specs.Exchanges.{Exchange, exchange_of, exchanges}
use Rattle.pr_truss_laws.specs.Sent.{sends}
use Rattle.pr_report_laws.specs.Attachments.{HasFile, WasInterrupted}
use Rattle.pr_report_laws.specs.Holds.{HasHold}
use Rattle.pr_report_laws.specs.OwnOpens.{IsGoingOn, WasLastGranted}

-- What truss sends once it has polled, or was interrupted: it runs processes, sets PR_RLC of a child whose control file
-- it has just opened, and no longer has the children of a process followed that it leaves, of which it still has hold.
-- So it stops no process again, and traces nothing else of it. The last it never sends before it was interrupted.

-- the last of these exchanges opened the control file of this process, and gave this handle
pub record WasJustOpened (pid control : ℕ) (xs : List Exchange) : Type 0 where
  pub opens : WasLastGranted (open_control pid) xs
  pub gives : let x : Exchange = opens.last in handle_in x.reply ≡ control

-- What truss may send, or wait for with a message, after this history.
pub data MaySend (k : ℕ) (o : Options) (first : TracedState) (h : List Entry) : Call → Type 0 where
  as_given : {c : Call} → All IsGoingOn (exchanges k h) → ((control : ℕ) → c ≢ message_call control (Unset fork_mode))
      → MaySend k o first h c
  runs : {control : ℕ} → MaySend k o first h (run_call control)
  releases : {pid control : ℕ} → WasJustOpened pid control (exchanges k h)
      → MaySend k o first h (message_call control (Set rlc_mode))
  unfollows : {pid control : ℕ} → WasInterrupted k h → HasFile k pid Ctl control (state_after first h)
      → HasHold k o pid first h → MaySend k o first h (message_call control (Unset fork_mode))

pub record SendsLittleLater (k : ℕ) (o : Options) (first : TracedState) (h : List Entry) : Type 0 where
  pub each : (before later : List Entry) (e : Entry) (x : Exchange) → h ≡ before ++ e ∷ later
      → exchange_of k e ≡ Some x → sends x.call ≡ true → MaySend k o first before x.call
