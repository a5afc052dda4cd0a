use Rattle.pr_file_laws.proofs.TableLemmas.{IsFileTable-user_gone}
use Rattle.pr_file.proofs.files.Files.close.Goals as goal

pub invariant_of-self : goal.invariant_of-self
invariant_of-self c = rw c.remove_user.ensures (IsFileTable-user_gone _ _ c.self.invariant)
