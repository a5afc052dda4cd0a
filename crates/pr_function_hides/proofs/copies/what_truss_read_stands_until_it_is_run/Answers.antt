use Rattle.pr_function_hides.proofs.Copying.CopyRows.{read-stands, still-stands, unmet-stands}
use Rattle.pr_function_hides.proofs.copies.what_truss_read_stands_until_it_is_run.Goals as goal

pub returns-clause-event : goal.returns-clause-event
returns-clause-event c =
    λ p flags e rises leads m its tells n treated stands.
    read-stands p flags e rises leads m its tells n treated stands

pub returns-clause-none : goal.returns-clause-none
returns-clause-none c =
    λ p flags e rises leads m n none planted lifted stepped stands.
    still-stands p flags e rises leads m n none planted lifted stepped stands

pub returns-clause-unmet : goal.returns-clause-unmet
returns-clause-unmet c =
    λ p flags e rises leads m n unmet planted lifted stepped stands.
    unmet-stands p flags e rises leads m n unmet planted lifted stepped stands
