use Rattle.std.proofs.Common.{arith}
use Rattle.pr_file_laws.proofs.TableLemmas.{IsFileTable-with_pipe}
use Rattle.pr_file.proofs.files.Files.pipe.Goals as goal

pub invariant_of-self-2 : goal.invariant_of-self-2
invariant_of-self-2 c = rw c.in_ok-read_end.ensures.ok (IsFileTable-with_pipe _ (omega arith) c.self.invariant)
