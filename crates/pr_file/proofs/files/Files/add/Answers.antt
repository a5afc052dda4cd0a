use Rattle.pr_file_laws.proofs.TableLemmas.{IsFileTable-with_file}
use Rattle.pr_file.proofs.files.Files.add.Goals as goal

pub invariant_of-self-2 : goal.invariant_of-self-2
invariant_of-self-2 c =
    rw c.in_ok-add_file.ensures.ok
    (IsFileTable-with_file _ _ _ (rw c.self.view_is c.requires.few) c.requires.short
    (rw c.self.view_is c.requires.new_name) c.self.invariant)
