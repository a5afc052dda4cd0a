use Rattle.pr_file_laws.proofs.TableLemmas.{IsFileTable-written}
use Rattle.pr_file.proofs.files.Files.write_file.Goals as goal

pub invariant_of-self-2 : goal.invariant_of-self-2
invariant_of-self-2 c =
    rw (c.set_open.ensures, c.in_ok-write_over.ensures.ok)
    (IsFileTable-written _ _ _ c.args.file _
    (rw c.self.view_is c.requires.in_order) c.if-offset-gt-FILE_SIZE_LIMIT.false c.self.invariant)
