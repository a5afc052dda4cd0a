use Rattle.std.proofs.Common.{Ok, sym, ap, ◌∙◌}
use Rattle.std.proofs.lemmas.Result.{err_from_is_err_and}
use Rattle.pr_num.specs.Records.{lwpstatus_ranges}
use Rattle.pr_rec.proofs.RecordLemmas.{read-ranged}
use Rattle.pr_rec.proofs.LwpStatusLemmas.{lwpstatus_fields}
use Rattle.pr_rec.proofs.lwps.LwpStatus.read.Goals as goal

pub returns-in_err-read_record-clause-err : goal.returns-in_err-read_record-clause-err
returns-in_err-read_record-clause-err c =
    let p = err_from_is_err_and c.from_residual.result c.from_residual.ensures.1 in
    rw (p.1, p.2) (c.in_err-read_record.ensures.err)

pub from_words-requires : goal.from_words-requires
from_words-requires c =
    lwpstatus_fields c.read_record.new.words c.read_record.auto.words
    (read-ranged lwpstatus_ranges c.args.bytes.now c.read_record.new.words c.in_ok-read_record.ensures.ok)

pub returns-clause-ok : goal.returns-clause-ok
returns-clause-ok c =
    c.in_ok-read_record.ensures.ok ∙ ap Ok (sym c.from_words.ensures.words)
