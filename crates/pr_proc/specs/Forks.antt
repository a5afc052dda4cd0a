use Rattle.std.specs.Prelude.{ℕ, List, [], Some, None}
use Rattle.pr_num.specs.Files.{no_descriptors}
use Rattle.pr_num.specs.Spaces.{Space}
use Rattle.pr_model.specs.Lives.{Birth, forked}
use Rattle.pr_model.specs.Machines.{traced}
use Rattle.pr_model.specs.State.{TracedLwp, TracedProcess}

-- a child that a call with these arguments made, before it has its memory and its descriptors
unfoldable pub bare_child : Birth → ℕ → TracedProcess → TracedLwp → List ℕ → ℕ → TracedProcess
bare_child birth pid p l args clock =
    record (forked traced birth pid p l args clock) { space = []; lender = None; fds = no_descriptors }

-- a child with memory that it borrowed from the process of an id
unfoldable pub with_loan : ℕ → Space → TracedProcess → TracedProcess
with_loan lender space p = record p { space = space; lender = Some lender }
