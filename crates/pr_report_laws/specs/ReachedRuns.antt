use Rattle.std.specs.Prelude.{ℕ, List}
use Rattle.pr_line.specs.declared.options.Options.{Options}
use Rattle.pr_model.specs.State.{TracedState}
use Rattle.pr_model.specs.declared.events.Entry.{Entry}
use Rattle.pr_reached.specs.ByteHistories.{HasBytes}
use Rattle.pr_reached.specs.Reached.{IsReached}
use Rattle.pr_truss_laws.specs.Runs.{IsTrussRun}

-- Runs of truss of which each state is reached.

-- A run of truss from a state that the machine reaches, in which controllers write bytes.
pub record IsReachedTrussRun (n k : ℕ) (o : Options) (s : TracedState) (h : List Entry) : Type 0 where
  pub of : IsTrussRun n k o s h
  pub reached : IsReached s
  pub bytes : HasBytes h
