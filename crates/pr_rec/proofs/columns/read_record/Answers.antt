use Rattle.std.proofs.Common.{ap, ◌∙◌}
use Rattle.pr_rec.specs.Reading.{unless_out}
use Rattle.pr_rec.proofs.ReadLemmas.{record_read-columns}
use Rattle.pr_rec.proofs.columns.read_record.Goals as goal

pub returns-in-None-clause-ok : goal.returns-in-None-clause-ok
returns-in-None-clause-ok c =
    record_read-columns c.args.columns.now c.args.bytes.now c.fill.new.words _ _ c.requires c.if-bytes-count.false
    c.fill.ensures c.first_out_of_range.ensures.value
    ∙ ap (unless_out c.fill.new.words) c.in-None.is

pub returns-in-Some-clause-err : goal.returns-in-Some-clause-err
returns-in-Some-clause-err c =
    record_read-columns c.args.columns.now c.args.bytes.now c.fill.new.words _ _ c.requires c.if-bytes-count.false
    c.fill.ensures c.first_out_of_range.ensures.value
    ∙ ap (unless_out c.fill.new.words) c.in-Some.is
