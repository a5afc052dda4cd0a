use Rattle.pr_hidden.proofs.Covers.RunCovers.{stepped_return-hidden}
use Rattle.pr_hidden.proofs.steps.stepped_returns_are_hidden.Goals as goal

-- src/steps.rt
pub returns : goal.returns
returns c = stepped_return-hidden
