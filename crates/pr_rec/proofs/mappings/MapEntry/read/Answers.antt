use Rattle.std.proofs.Common.{Ok, sym, ap, ◌∙◌}
use Rattle.std.proofs.lemmas.Result.{err_from_is_err_and}
use Rattle.std.proofs.lemmas.Bool.{ltb-true}
use Rattle.pr_rec.proofs.FieldLemmas.{mapping_kind-from, mapping_kind-to}
use Rattle.pr_num.specs.Records.{map_entry_ranges}
use Rattle.pr_rec.proofs.RecordLemmas.{read-at}
use Rattle.pr_rec.proofs.mappings.MapEntry.read.Goals as goal

pub returns-in_err-read_record-clause-err : goal.returns-in_err-read_record-clause-err
returns-in_err-read_record-clause-err c =
    let p = err_from_is_err_and c.from_residual.result c.from_residual.ensures.1 in
    rw (p.1, p.2) (c.in_err-read_record.ensures.err)

pub from_words-requires-clause-prot : goal.from_words-requires-clause-prot
from_words-requires-clause-prot c =
    ltb-true _ _ (read-at map_entry_ranges c.args.bytes.now c.read_record.new.words 2 c.in_ok-read_record.ensures.ok)

pub from_words-requires-clause-from : goal.from_words-requires-clause-from
from_words-requires-clause-from c =
    mapping_kind-from _
    (read-at map_entry_ranges c.args.bytes.now c.read_record.new.words 3 c.in_ok-read_record.ensures.ok)

pub from_words-requires-clause-to : goal.from_words-requires-clause-to
from_words-requires-clause-to c =
    mapping_kind-to _
    (read-at map_entry_ranges c.args.bytes.now c.read_record.new.words 3 c.in_ok-read_record.ensures.ok)

pub returns-clause-ok : goal.returns-clause-ok
returns-clause-ok c =
    c.in_ok-read_record.ensures.ok ∙ ap Ok (sym c.from_words.ensures.words)
