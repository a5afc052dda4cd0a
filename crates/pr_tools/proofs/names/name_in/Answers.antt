use Rattle.std.proofs.Common.{arith, sym, ap, ◌∙◌}
use Rattle.pr_rec.proofs.ReadLemmas.{AreBytes-each}
use Rattle.pr_tools.specs.Texts.{name_in}
use Rattle.pr_tools.proofs.FieldLemmas.{name_back}
use Rattle.pr_tools.proofs.names.name_in.Goals as goal

pub returns : goal.returns
unfolding name_in
returns c =
    c.before_zero.ensures
    ∙ sym (ap name_in (name_back c.args.field.now (omega arith) (AreBytes-each c.args.field.now c.fits-field)))
