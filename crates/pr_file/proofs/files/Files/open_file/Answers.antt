use Rattle.pr_file_laws.proofs.TableLemmas.{IsFileTable-opened}
use Rattle.pr_file.proofs.files.Files.open_file.Goals as goal

pub invariant_of-self-2 : goal.invariant_of-self-2
invariant_of-self-2 c =
    rw c.in_ok-place.ensures.ok (IsFileTable-opened _ _ _ (rw c.self.view_is c.requires.file) c.self.invariant)
