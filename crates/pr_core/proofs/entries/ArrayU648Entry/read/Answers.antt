use Rattle.std.proofs.Common.{arith, ap, ◌∙◌}
use Rattle.pr_num.specs.Records.{fd_entry_ranges}
use Rattle.pr_rec.proofs.ReadLemmas.{record_read-whole}
use Rattle.pr_rec.specs.Reading.{unless_out}
use Rattle.pr_core.proofs.EntryLemmas.{short-read}
use Rattle.pr_core.proofs.entries.ArrayU648Entry.read.Goals as goal

pub returns-then-bytes-lt64-clause-err : goal.returns-then-bytes-lt64-clause-err
returns-then-bytes-lt64-clause-err c = short-read fd_entry_ranges c.args.bytes.now (omega arith)

pub returns-in-None-clause-ok : goal.returns-in-None-clause-ok
returns-in-None-clause-ok c =
    record_read-whole fd_entry_ranges c.args.bytes.now c.fill.new.words _ (omega arith) c.fill.ensures
    c.first_bad.ensures
    ∙ ap (unless_out c.fill.new.words) c.in-None.is

pub returns-in-Some-clause-err : goal.returns-in-Some-clause-err
returns-in-Some-clause-err c =
    record_read-whole fd_entry_ranges c.args.bytes.now c.fill.new.words _ (omega arith) c.fill.ensures
    c.first_bad.ensures
    ∙ ap (unless_out c.fill.new.words) c.in-Some.is
