use Rattle.std.proofs.Common.{Ok, sym, ap, ◌∙◌}
use Rattle.std.proofs.lemmas.Result.{err_from_is_err_and}
use Rattle.std.proofs.lemmas.Bool.{ltb-true}
use Rattle.pr_num.specs.Records.{psinfo_ranges}
use Rattle.pr_rec.proofs.RecordLemmas.{read-at}
use Rattle.pr_rec.proofs.processes.Psinfo.read.Goals as goal

pub returns-in_err-read_record-clause-err : goal.returns-in_err-read_record-clause-err
returns-in_err-read_record-clause-err c =
    let p = err_from_is_err_and c.from_residual.result c.from_residual.ensures.1 in
    rw (p.1, p.2) (c.in_err-read_record.ensures.err)

pub from_words-requires-clause-id : goal.from_words-requires-clause-id
from_words-requires-clause-id c =
    ltb-true _ _ (read-at psinfo_ranges c.args.bytes.now c.read_record.new.words 0 c.in_ok-read_record.ensures.ok)

pub from_words-requires-clause-parent : goal.from_words-requires-clause-parent
from_words-requires-clause-parent c =
    ltb-true _ _ (read-at psinfo_ranges c.args.bytes.now c.read_record.new.words 1 c.in_ok-read_record.ensures.ok)

pub from_words-requires-clause-zombie : goal.from_words-requires-clause-zombie
from_words-requires-clause-zombie c =
    ltb-true _ _ (read-at psinfo_ranges c.args.bytes.now c.read_record.new.words 3 c.in_ok-read_record.ensures.ok)

pub from_words-requires-clause-job_stop : goal.from_words-requires-clause-job_stop
from_words-requires-clause-job_stop c =
    ltb-true _ _ (read-at psinfo_ranges c.args.bytes.now c.read_record.new.words 7 c.in_ok-read_record.ensures.ok)

pub returns-clause-ok : goal.returns-clause-ok
returns-clause-ok c =
    c.in_ok-read_record.ensures.ok ∙ ap Ok (sym c.from_words.ensures.words)
