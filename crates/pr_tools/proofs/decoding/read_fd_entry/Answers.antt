use Rattle.std.proofs.Common.{Some, arith, sym, ap, ◌∙◌}
use Rattle.std.specs.Result.{result_ok}
use Rattle.pr_rec.proofs.ReadLemmas.{AreBytes-fits}
use Rattle.pr_tools.proofs.FieldLemmas.{fd_entry-read}
use Rattle.pr_tools.proofs.decoding.read_fd_entry.Goals as goal

pub returns-then-words-lt3 : goal.returns-then-words-lt3
returns-then-words-lt3 c =
    ap Some c.fd_entry_of.ensures
    ∙ sym (ap result_ok
    (fd_entry-read c.args.bytes.now c.fill.new.words (AreBytes-fits c.args.bytes.now c.type_inv.bytes)
    (omega arith) c.fill.ensures (omega arith) (omega arith) (omega arith) (omega arith)))
