use Rattle.std.proofs.Common.{length, ap, arith}
use Rattle.pr_file_laws.proofs.TableLemmas.{IsFileTable-extended}
use Rattle.pr_file.proofs.files.Files.write_pipe.Goals as goal

pub invariant_of-self-2 : goal.invariant_of-self-2
invariant_of-self-2 c =
    rw c.in_ok-extend_pipe.ensures.ok
    (IsFileTable-extended _ _ _ (omega (arith, ap length c.pipe_bytes-held.ensures)) c.self.invariant)
