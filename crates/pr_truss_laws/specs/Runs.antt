use Rattle.std.specs.Prelude.{ℕ, List}
use Rattle.pr_line.specs.declared.options.Options.{Options}
use Rattle.pr_model.specs.Lawful.{IsLawful}
use Rattle.pr_model.specs.Legal.{IsLegal}
use Rattle.pr_model.specs.State.{TracedState}
use Rattle.pr_model.specs.declared.events.Entry.{Entry}
use Rattle.pr_truss.specs.Trusses.{first_truss}
use Rattle.pr_truss_laws.specs.Exchanges.{Makes, exchanges}
use Rattle.pr_truss_laws.specs.Handles.{HasNothingOpen}

-- A history in which a controller is truss.

-- The history is legal, from a lawful state in which the controller of this number has nothing open, and it makes the
-- calls in it that a truss with these options makes.
pub record IsTrussRun (n k : ℕ) (o : Options) (s : TracedState) (h : List Entry) : Type 0 where
  pub lawful : IsLawful s
  pub nothing_open : HasNothingOpen k s
  pub legal : IsLegal n s h
  pub makes : Makes (first_truss o) (exchanges k h)
