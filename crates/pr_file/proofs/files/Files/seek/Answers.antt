use Rattle.pr_file_laws.proofs.TableLemmas.{IsFileTable-moved}
use Rattle.pr_file.proofs.files.Files.seek.Goals as goal

pub invariant_of-self : goal.invariant_of-self
invariant_of-self c =
    rw c.set_open.ensures
    (IsFileTable-moved _ _ _ c.in-Some.file
    (rw c.self.view_is c.in-Some.ensures.in_order) c.if-offset-gt-FILE_SIZE_LIMIT.false c.self.invariant)
