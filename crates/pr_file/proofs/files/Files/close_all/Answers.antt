use Rattle.pr_file_laws.proofs.UserLemmas.{IsFileTable-all_closed}
use Rattle.pr_file.proofs.files.Files.close_all.Goals as goal

pub invariant_of-self : goal.invariant_of-self
invariant_of-self c = rw c.remove_users.ensures (IsFileTable-all_closed _ _ c.self.invariant)
