use Rattle.std.proofs.Common.{length, ap, arith}
use Rattle.pr_file_laws.proofs.TableLemmas.{IsFileTable-moved, length-contents, read_within}
use Rattle.pr_file.proofs.files.Files.read_file.Goals as goal

pub invariant_of-self : goal.invariant_of-self
invariant_of-self c =
    let short = length-contents c.self.inside.tables c.args.file.target c.self.invariant in
    let within =
    read_within c.contents-bytes.result.now c.args.file.offset _ _ _ _ c.min-start.ensures
    c.copy_front-count.ensures.count
    (omega (arith, ap length c.contents-bytes.ensures)) c.requires.in_order.within in
    rw c.set_open.ensures
    (IsFileTable-moved _ _ _ c.args.file (rw c.self.view_is c.requires.in_order) within c.self.invariant)
