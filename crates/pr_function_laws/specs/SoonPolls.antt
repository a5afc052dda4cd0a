-- How soon truss with calls of functions polls, or has finished.
use Rattle.std.specs.Prelude.{◌≡◌, ◌≤◌, ◌+◌, ◌*◌, ◌++◌, ℕ, All, List, [], ◌∷◌, length}
use Rattle.pr_line.specs.declared.options.Options.{Options}
use Rattle.pr_model.specs.Legal.{state_after}
use Rattle.pr_model.specs.State.{TracedState}
use Rattle.pr_model.specs.declared.calls.Reply.{Reply}
use Rattle.pr_model.specs.declared.calls.Reply.TheVariants as reply
use Rattle.pr_model.specs.declared.events.Entry.{Entry}
use Rattle.pr_num.specs.declared.errnos.Errno.TheVariants.{Intr}
use Rattle.pr_truss_laws.specs.Exchanges.{Exchange, exchanges}
use Rattle.pr_truss_laws.specs.Soon.{IsNoPoll}
use Rattle.pr_report_laws.specs.SoonOpen.{HasPolled, controls_open}

-- how many of these exchanges were interrupted
abbrev pub interrupts_in : Reply → ℕ
interrupts_in (reply.Fail Intr) = 1
interrupts_in _ = 0

abbrev pub interrupts : List Exchange → ℕ
interrupts [] = 0
interrupts (x ∷ xs) = interrupts_in x.reply + interrupts xs

-- How many calls come at most for each one of a truss without calls of functions: it, and two messages for each
-- function and one more, by which code is read, breakpoints are planted and lifted, and a fault is cleared.
abbrev pub times_as_many : Options → ℕ
times_as_many o = 2 + 2 * length o.functions

-- Wherever it has come to, truss polls or has finished after at most so many times 39 calls; and 12 more for each
-- control file that it has open there, and as long as it has not polled 40 more for each process that its words name,
-- as many times. Each interrupt makes it ask for a stop again, and wait for it, where it leaves its processes.
pub record PollsByItsFilesOf (k : ℕ) (o : Options) (first : TracedState) (h : List Entry) : Type 0 where
  pub soon : (before between later : List Entry) → h ≡ before ++ (between ++ later)
      → All IsNoPoll (exchanges k between) → length (exchanges k between)
      ≤ times_as_many o * (39 + 12 * controls_open k (state_after first before) + 40 * length o.pids)
      + 2 * interrupts (exchanges k between)
  pub polled : (before between later : List Entry) → h ≡ before ++ (between ++ later)
      → All IsNoPoll (exchanges k between) → HasPolled (exchanges k before) → length (exchanges k between)
      ≤ times_as_many o * (39 + 12 * controls_open k (state_after first before))
      + 2 * interrupts (exchanges k between)
