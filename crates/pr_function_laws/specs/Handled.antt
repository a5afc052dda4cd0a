-- What became of each process that truss with calls of functions was given.
use Rattle.std.specs.Prelude.{◌≡◌, ◌≢◌, ◌⊎◌, ◌++◌, ℕ, true, All, List, [], ◌∷◌, None, Some}
use Rattle.pr_line.specs.declared.options.Options.{Options}
use Rattle.pr_model.specs.declared.calls.Call.TheVariants as call
use Rattle.pr_model.specs.declared.calls.Reply.{Reply}
use Rattle.pr_model.specs.declared.calls.Reply.TheVariants as reply
use Rattle.pr_model.specs.declared.events.Entry.{Entry}
use Rattle.pr_num.specs.declared.errnos.Errno.{Errno}
use Rattle.pr_num.specs.declared.errnos.Errno.TheVariants.{Intr}
use Rattle.pr_report_laws.specs.SoonOpen.{HasPolled}
use Rattle.pr_truss.specs.FunctionCalls.{next_function_call_of}
use Rattle.pr_truss.specs.NextCalls.{next_call_of}
use Rattle.pr_truss.specs.Openings.{pid_in}
use Rattle.pr_truss.specs.Trusses.{first_truss}
use Rattle.pr_truss.specs.declared.reports.Report.TheVariants.{CannotTrace}
use Rattle.pr_truss_laws.specs.Exchanges.{Exchange, errno_in, exchange_of, exchanges, truss_after}
use Rattle.pr_truss_laws.specs.Given.{IsHandled, IsHandledSoFar}
use Rattle.pr_function_laws.specs.Holds.{GetsHoldWithFunctions}
use Rattle.pr_function_laws.specs.Opened.{WasNotInterrupted, functions_at}
use Rattle.pr_function_laws.specs.Ordinary.{IsTrussBeside, ordinary_among}
use Rattle.pr_function_laws.specs.Runs.{functions_after}

-- ---- by the exchanges of a truss that its own are like

-- By the exchanges of a truss that its own are like, and by its own reports but for the calls of functions: each of
-- these processes was opened, or its refusal is reported, in their order, as far as it has come; and where it has
-- finished, each was, unless it was interrupted before.
pub record HandlesItsGiven (o : Options) (xs : List Exchange) (w : IsTrussBeside o xs) : Type 0 where
  pub so_far : IsHandledSoFar o (next_call_of (truss_after (first_truss o) w.others)) o.program
      (ordinary_among (functions_after (first_truss o) xs).reports) w.others
  pub in_the_end : next_function_call_of (functions_after (first_truss o) xs) ≡ None
      → IsHandled o o.program (ordinary_among (functions_after (first_truss o) xs).reports) w.others

-- ---- by its own calls

-- These are the processes that truss was given, in their order: those that its words name; and where they name a
-- program, the process that its first call has made comes before them.
pub data AreGiven (o : Options) (xs : List Exchange) (given : List ℕ) : Type 0 where
  named : o.program ≡ None → given ≡ o.pids → AreGiven o xs given
  made : (program : List ℕ) (r : Reply) (later : List Exchange) → o.program ≡ Some program
      → xs ≡ record { call = call.Spawn program true; reply = r } ∷ later → errno_in r ≡ None
      → given ≡ pid_in r ∷ o.pids → AreGiven o xs given

-- In this entry truss says that it cannot trace a process, for this reason. Of calls of functions this does not speak.
pub record SaysCannotTrace (k : ℕ) (o : Options) (pid : ℕ) (before : List Entry) (e : Entry) : Type 0 where
  pub errno : Errno
  pub told : ordinary_among (functions_at k o (before ++ e ∷ [])).reports
      ≡ ordinary_among (functions_at k o before).reports ++ CannotTrace pid errno ∷ []

-- In this entry truss has done with the opening of a process: it gets hold of it, or says that it cannot trace it.
pub data IsDoneWith (k : ℕ) (o : Options) (pid : ℕ) (before : List Entry) (e : Entry) : Type 0 where
  gets_hold : GetsHoldWithFunctions k o pid before e → IsDoneWith k o pid before e
  says_not : SaysCannotTrace k o pid before e → IsDoneWith k o pid before e

-- So it is of this process in an entry among these, which come behind those; and what comes later is as Next has it.
pub record IsDoneFirst (k : ℕ) (o : Options) (pid : ℕ) (Next : List Entry → List Entry → Type 0)
    (before h : List Entry) : Type 0 where
  pub between : List Entry
  pub entry : Entry
  pub later : List Entry
  pub is : h ≡ between ++ entry ∷ later
  pub done : IsDoneWith k o pid (before ++ between) entry
  pub next : Next ((before ++ between) ++ entry ∷ []) later

-- So it is of each of these processes, each in a later entry than the one before it.
abbrev pub AreDoneWith : ℕ → Options → List ℕ → List Entry → List Entry → Type 0
AreDoneWith k o [] before h = Unit {0}
AreDoneWith k o (pid ∷ pids) before h = IsDoneFirst k o pid (AreDoneWith k o pids) before h

-- The process is one that truss was given, and it has done with all those before it.
pub record IsNextGiven (k : ℕ) (o : Options) (pid : ℕ) (before : List Entry) : Type 0 where
  pub given : List ℕ
  pub are : AreGiven o (exchanges k before) given
  pub earlier : List ℕ
  pub later : List ℕ
  pub is : given ≡ earlier ++ pid ∷ later
  pub done : AreDoneWith k o earlier [] before

-- A process stands in a list twice.
pub record StandsTwice (pid : ℕ) (pids : List ℕ) : Type 0 where
  pub first : List ℕ
  pub between : List ℕ
  pub last : List ℕ
  pub is : pids ≡ first ++ pid ∷ (between ++ pid ∷ last)

-- Truss gets hold of no process, and says of none that it cannot trace it, but of those that it was given, one after
-- another. Once it has polled, or has finished, it has done so with each of them, unless a call of it was interrupted
-- before. With a process that it was given once it does so once: it never gets hold of such a one of which it has said
-- that it cannot trace it, and never says that of one that it has got hold of. And where it says so the call in that
-- entry was refused, for this reason, and was not interrupted.
pub record HoldsOrRefusesItsGiven (k : ℕ) (o : Options) (h : List Entry) : Type 0 where
  pub in_order : (before later : List Entry) (e : Entry) (pid : ℕ) → h ≡ before ++ e ∷ later
      → IsDoneWith k o pid before e → IsNextGiven k o pid before
  pub all : (before later : List Entry) (given : List ℕ) → h ≡ before ++ later
      → AreGiven o (exchanges k before) given → All WasNotInterrupted (exchanges k before)
      → HasPolled (exchanges k before) ⊎ (next_function_call_of (functions_at k o before) ≡ None)
      → AreDoneWith k o given [] before
  pub once : (before between later : List Entry) (e f : Entry) (pid : ℕ) (given : List ℕ)
      → h ≡ before ++ e ∷ (between ++ f ∷ later) → AreGiven o (exchanges k h) given → IsDoneWith k o pid before e
      → IsDoneWith k o pid (before ++ e ∷ between) f → StandsTwice pid given
  pub reasons : (before later : List Entry) (e : Entry) (x : Exchange) (pid : ℕ) → h ≡ before ++ e ∷ later
      → exchange_of k e ≡ Some x → (w : SaysCannotTrace k o pid before e)
      → (x.reply ≡ reply.Fail w.errno) × (w.errno ≢ Intr)
