use Rattle.pr_file_laws.proofs.TableLemmas.{IsFileTable-dropped}
use Rattle.pr_file.proofs.files.Files.read_pipe.Goals as goal

pub invariant_of-self : goal.invariant_of-self
invariant_of-self c = rw c.take_front.ensures (IsFileTable-dropped _ _ _ c.self.invariant)
