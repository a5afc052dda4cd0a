use Rattle.pr_function_laws.proofs.OrdinaryTruss.HandledLaws.{handles-its-given}
use Rattle.pr_function_laws.proofs.handled.beside_its_breakpoints_it_handles_what_it_was_given.Goals as goal

pub returns : goal.returns
returns c = handles-its-given
