use Rattle.pr_file_laws.proofs.TableLemmas.{IsFileTable-user_added}
use Rattle.pr_file.proofs.files.Files.dup.Goals as goal

pub invariant_of-self : goal.invariant_of-self
invariant_of-self c = rw c.add_user.ensures (IsFileTable-user_added _ _ c.self.invariant)
