use Rattle.std.specs.Prelude.{◌≡◌, ◌≤◌, ◌==◌, ◌&&◌, ◌+◌, ◌*◌, ℕ, Bool, false, All, List, ◌∷◌, ◌++◌, Option, Some, None, length}
use Rattle.std.specs.List.{count_by}
use Rattle.pr_line.specs.declared.options.Options.{Options}
use Rattle.pr_model.specs.Handles.{is_control}
use Rattle.pr_model.specs.Legal.{state_after}
use Rattle.pr_model.specs.State.{TracedState}
use Rattle.pr_model.specs.declared.calls.Call.TheVariants.{Poll}
use Rattle.pr_model.specs.declared.calls.Reply.{Reply}
use Rattle.pr_model.specs.declared.events.Entry.{Entry}
use Rattle.pr_model.specs.declared.handles.Held.{Held}
use Rattle.pr_truss_laws.specs.Exchanges.{Exchange, exchanges}
use Rattle.pr_truss_laws.specs.Soon.{IsNoPoll}

-- How soon truss polls, or has finished, by the control files that it has open.

-- whether a place holds a control file that this controller has open
abbrev pub is_control_of : ℕ → Option Held → Bool
is_control_of k None = false
is_control_of k (Some h) = (h.controller == k) && is_control h.file

-- how many control files a controller has open in a state
abbrev pub controls_open : ℕ → TracedState → ℕ
controls_open k s = count_by (is_control_of k) s.opens

-- a poll is among these exchanges
pub record HasPolled (xs : List Exchange) : Type 0 where
  pub before : List Exchange
  pub handles : List ℕ
  pub reply : Reply
  pub after : List Exchange
  pub is : xs ≡ before ++ record { call = Poll handles; reply = reply } ∷ after

-- Wherever it has come to, truss makes at most 38 calls until it polls, or has finished; 12 more for each control file
-- that it has open there; and as long as it has not polled 40 more for each process that its words name.
pub record PollsByItsFiles (k : ℕ) (o : Options) (first : TracedState) (h : List Entry) : Type 0 where
  pub soon : (before between later : List Entry) → h ≡ before ++ (between ++ later)
      → All IsNoPoll (exchanges k between) → length (exchanges k between)
      ≤ 38 + 12 * controls_open k (state_after first before) + 40 * length o.pids
  pub polled : (before between later : List Entry) → h ≡ before ++ (between ++ later)
      → All IsNoPoll (exchanges k between) → HasPolled (exchanges k before) → length (exchanges k between)
      ≤ 38 + 12 * controls_open k (state_after first before)
