use Rattle.std.proofs.Common.{arith}
use Rattle.pr_file_laws.proofs.TableLemmas.{IsFileTable-created}
use Rattle.pr_file.proofs.files.Files.create_file.Goals as goal

pub invariant_of-self-2 : goal.invariant_of-self-2
invariant_of-self-2 c =
    rw c.in_ok-place.ensures.ok
    (IsFileTable-created _ _ _ (omega arith) (rw c.self.view_is c.requires.new_name) c.self.invariant)
