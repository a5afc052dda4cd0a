use Rattle.std.proofs.Common.{refl}
use Rattle.pr_rec.proofs.statuses.columns.Goals as goal

pub returns : goal.returns
returns c = rw (c.copy_from_slice.ensures.after, c.copy_from_slice-2.ensures.after) refl
