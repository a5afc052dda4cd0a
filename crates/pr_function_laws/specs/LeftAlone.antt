-- What an interrupt leaves of a step: an lwp that truss met at a breakpoint moves alone, also where truss is
-- interrupted before it has planted the breakpoint again, until truss closes the control file of the process.
use Rattle.std.specs.Prelude.{◌≡◌, ◌++◌, ℕ, All, List, [], ◌∷◌, Some}
use Rattle.pr_line.specs.declared.options.Options.{Options}
use Rattle.pr_model.specs.Legal.{state_after}
use Rattle.pr_model.specs.State.{TracedState}
use Rattle.pr_model.specs.declared.calls.Call.TheVariants as call
use Rattle.pr_model.specs.declared.calls.Reply.TheVariants.{Fail}
use Rattle.pr_model.specs.declared.events.Entry.{Entry}
use Rattle.pr_num.specs.declared.errnos.Errno.TheVariants.{Intr}
use Rattle.pr_truss.specs.Trusses.{traced_at}
use Rattle.pr_truss_laws.specs.Exchanges.{Exchange, exchange_of, exchanges}
use Rattle.pr_function_laws.specs.Lifted.{HasControl}
use Rattle.pr_function_laws.specs.Opened.{ReadsBreakpoint, WasNotInterrupted, functions_at}
use Rattle.pr_function_laws.specs.Stretches.{OthersOnlyStop}

-- In the entry e truss reads that the lwp of this id of the process at a place stands at a breakpoint. In the entry c
-- a call of it is interrupted, and in the entries from e to c none was, and it made no call any more once it had read
-- the status of the process again. Before each entry behind c it has the control file of the process open still.
pub record IsLeftAtStep (k : ℕ) (o : Options) (first : TracedState) (before until behind : List Entry) (e c : Entry)
    (place id : ℕ) : Type 0 where
  pub reads : ReadsBreakpoint k (functions_at k o before) place id (state_after first before) e until
  pub x : Exchange
  pub own : exchange_of k c ≡ Some x
  pub interrupted : x.reply ≡ Fail Intr
  pub keeps_open : (front rest : List Entry) (d : Entry) → behind ≡ front ++ d ∷ rest
      → HasControl k (traced_at (functions_at k o before) place).pid
      (traced_at (functions_at k o before) place).control
      (state_after first (((before ++ e ∷ until) ++ c ∷ []) ++ front))

-- The call that is interrupted there is a poll, since truss makes no other call then that waits. And behind the
-- interrupt, too, no other lwp of the process begins an instruction, until truss closes that control file.
pub record IsLeftAlone (k : ℕ) (o : Options) (first : TracedState) (h : List Entry) : Type 0 where
  pub polls : (before until behind later : List Entry) (e c : Entry) (place id : ℕ)
      → h ≡ (before ++ e ∷ until) ++ c ∷ (behind ++ later) → All WasNotInterrupted (exchanges k before)
      → (w : IsLeftAtStep k o first before until behind e c place id)
      → (handles : List ℕ) × (w.x.call ≡ call.Poll handles)
  pub each : (before until behind later : List Entry) (e c : Entry) (place id : ℕ)
      → h ≡ (before ++ e ∷ until) ++ c ∷ (behind ++ later) → All WasNotInterrupted (exchanges k before)
      → IsLeftAtStep k o first before until behind e c place id
      → OthersOnlyStop (traced_at (functions_at k o before) place).pid id behind
