use Rattle.pr_file_laws.proofs.UserLemmas.{IsFileTable-all_shared}
use Rattle.pr_file.proofs.files.Files.share.Goals as goal

pub invariant_of-self : goal.invariant_of-self
invariant_of-self c = rw c.add_users.ensures (IsFileTable-all_shared _ _ c.self.invariant)
