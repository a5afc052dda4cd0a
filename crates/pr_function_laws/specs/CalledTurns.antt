-- The calls of functions that truss tells in a history are turns of the machine.
use Rattle.std.specs.Prelude.{◌≡◌, ◌++◌, ℕ, All, List, [], ◌∷◌, Some}
use Rattle.pr_line.specs.declared.options.Options.{Options}
use Rattle.pr_model.specs.Legal.{after, state_after}
use Rattle.pr_model.specs.State.{TracedProcess, TracedState, live_process}
use Rattle.pr_model.specs.declared.events.Entry.{Entry}
use Rattle.pr_truss.specs.Marks.{address_of}
use Rattle.pr_truss.specs.NextCalls.{read_record}
use Rattle.pr_truss.specs.Trusses.{traced_at}
use Rattle.pr_truss.specs.declared.reports.Report.{Report}
use Rattle.pr_truss.specs.declared.reports.Report.TheVariants.{Called}
use Rattle.pr_truss_laws.specs.Exchanges.{Exchange, exchange_of, exchanges}
use Rattle.pr_function_laws.specs.Calls.{call_told}
use Rattle.pr_function_laws.specs.Met.{arguments_of}
use Rattle.pr_function_laws.specs.Opened.{ReadsBreakpoint, WasNotInterrupted, functions_at}
use Rattle.pr_function_laws.specs.Turns.{CompletesOnce, HasTrap, TellsOfLwp, TurnsOnce}

-- ---- the two reads of a stop at a breakpoint

-- In an entry of a history truss, which has not been interrupted, reads that the lwp of this id of the process at a
-- place stands at a breakpoint; and in a later one it reads the status of the process again, which lives then, not
-- having read it between.
pub record ReadsTwice (k : ℕ) (o : Options) (first : TracedState) (h before : List Entry) (e : Entry)
    (between : List Entry) (again : Entry) (later : List Entry) (place id : ℕ) : Type 0 where
  pub is : h ≡ before ++ e ∷ (between ++ again ∷ later)
  pub calm : All WasNotInterrupted (exchanges k before)
  pub breakpoint : ReadsBreakpoint k (functions_at k o before) place id (state_after first before) e
      (between ++ again ∷ [])
  pub y : Exchange
  pub own : exchange_of k again ≡ Some y
  pub reads : y.call ≡ read_record (traced_at (functions_at k o before) place).status
  pub process : TracedProcess
  pub live : live_process (state_after (state_after first before) (e ∷ between)).system
      (traced_at (functions_at k o before) place).pid ≡ Some process

module _ (k : ℕ) (o : Options) (first : TracedState) (h before : List Entry) (e : Entry) (between : List Entry)
    (again : Entry) (later : List Entry) (place id : ℕ)
    (r : ReadsTwice k o first h before e between again later place id)
  where
    -- what the second read tells of calls
    abbrev pub told_at_second : List Report
    told_at_second = call_told (functions_at k o (before ++ e ∷ between)) r.y.reply

    -- the call of the function at whose breakpoint the lwp stood, with r1 to r3 of then
    abbrev pub call_met : Report
    call_met =
        Called (traced_at (functions_at k o before) place).pid id r.breakpoint.meets.function
        (arguments_of r.breakpoint.meets.l)

    -- Between the reads the lwp had one turn alone, which completed the instruction at the address of the function,
    -- with r1 to r3 of then before it.
    abbrev pub HasItsTurn : Type 0
    HasItsTurn =
        CompletesOnce (traced_at (functions_at k o before) place).pid id (after (state_after first before) e) between
        (address_of (functions_at k o before).options r.breakpoint.meets.function) (arguments_of r.breakpoint.meets.l)

-- ---- all of them

-- Between the reads the lwp had one turn alone, and the second read tells of that lwp, at a signal or a fault. A call
-- that it tells is the one at whose breakpoint the lwp stood, and that turn; and it tells that call where the turn
-- ended with a trace trap.
pub record CallsAreTurns (k : ℕ) (o : Options) (first : TracedState) (h : List Entry) : Type 0 where
  pub once : (before between later : List Entry) (e again : Entry) (place id : ℕ)
      → (r : ReadsTwice k o first h before e between again later place id)
      → TurnsOnce (traced_at (functions_at k o before) place).pid id between
  pub tells : (before between later : List Entry) (e again : Entry) (place id : ℕ)
      → (r : ReadsTwice k o first h before e between again later place id) → TellsOfLwp r.y.reply id
  pub call : (before between later : List Entry) (e again : Entry) (place id : ℕ)
      → (r : ReadsTwice k o first h before e between again later place id) → (report : Report)
      → told_at_second k o first h before e between again later place id r ≡ report ∷ []
      → report ≡ call_met k o first h before e between again later place id r
  pub turn : (before between later : List Entry) (e again : Entry) (place id : ℕ)
      → (r : ReadsTwice k o first h before e between again later place id) → (report : Report)
      → told_at_second k o first h before e between again later place id r ≡ report ∷ []
      → HasItsTurn k o first h before e between again later place id r
  pub told : (before between later : List Entry) (e again : Entry) (place id : ℕ)
      → (r : ReadsTwice k o first h before e between again later place id)
      → HasTrap (traced_at (functions_at k o before) place).pid id between
      → told_at_second k o first h before e between again later place id r
      ≡ call_met k o first h before e between again later place id r ∷ []
