use Rattle.std.specs.Prelude.{ℕ, List}
use Rattle.pr_function_laws.specs.Opened.{IsFunctionRun}
use Rattle.pr_line.specs.declared.options.Options.{Options}
use Rattle.pr_model.specs.State.{TracedState}
use Rattle.pr_model.specs.declared.events.Entry.{Entry}
use Rattle.pr_reached.specs.ByteHistories.{HasBytes}
use Rattle.pr_reached.specs.Reached.{IsReached}

-- Runs of truss with calls of functions of which each state is reached.

-- Such a run from a state that the machine reaches, in which controllers write bytes.
pub record IsReachedFunctionRun (n k : ℕ) (o : Options) (s : TracedState) (h : List Entry) : Type 0 where
  pub of : IsFunctionRun n k o s h
  pub reached : IsReached s
  pub bytes : HasBytes h
