use Rattle.std.proofs.Common.{Some, arith, sym, ap, ◌∙◌}
use Rattle.std.specs.Result.{result_ok}
use Rattle.pr_rec.proofs.ReadLemmas.{AreBytes-fits}
use Rattle.pr_tools.proofs.FieldLemmas.{list_entry-read}
use Rattle.pr_tools.proofs.decoding.read_list_entry.Goals as goal

pub returns-then-words-2 : goal.returns-then-words-2
returns-then-words-2 c =
    ap Some c.list_entry_of.ensures
    ∙ sym (ap result_ok
    (list_entry-read c.args.bytes.now c.fill.new.words (AreBytes-fits c.args.bytes.now c.type_inv.bytes)
    (omega arith) c.fill.ensures (omega arith) (omega arith)))
