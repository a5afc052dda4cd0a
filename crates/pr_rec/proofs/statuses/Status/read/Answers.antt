use Rattle.std.proofs.Common.{Ok, drop, sym, ap, ◌∙◌, arith, length-drop}
use Rattle.std.proofs.lemmas.Bool.{ltb-true}
use Rattle.std.proofs.lemmas.Result.{err_from_is_err_and}
use Rattle.pr_num.specs.Records.{status_ranges}
use Rattle.pr_rec.proofs.RecordLemmas.{read-at, read-ranged, AreRanged-drop}
use Rattle.pr_rec.proofs.LwpStatusLemmas.{lwpstatus_fields}
use Rattle.pr_rec.proofs.statuses.Status.read.Goals as goal

pub returns-in_err-read_record-clause-err : goal.returns-in_err-read_record-clause-err
returns-in_err-read_record-clause-err c =
    let p = err_from_is_err_and c.from_residual.result c.from_residual.ensures.1 in
    rw (p.1, p.2) (rw c.columns.ensures at c.in_err-read_record.ensures.err)

pub from_words-requires-clause-flags : goal.from_words-requires-clause-flags
from_words-requires-clause-flags c =
    ltb-true _ _
    (read-at status_ranges c.args.bytes.now c.read_record.new.words 0
    (rw c.columns.ensures at c.in_ok-read_record.ensures.ok))

pub from_words-requires-clause-id : goal.from_words-requires-clause-id
from_words-requires-clause-id c =
    ltb-true _ _
    (read-at status_ranges c.args.bytes.now c.read_record.new.words 1
    (rw c.columns.ensures at c.in_ok-read_record.ensures.ok))

pub from_words-requires-clause-parent : goal.from_words-requires-clause-parent
from_words-requires-clause-parent c =
    ltb-true _ _
    (read-at status_ranges c.args.bytes.now c.read_record.new.words 2
    (rw c.columns.ensures at c.in_ok-read_record.ensures.ok))

pub from_words-requires-clause-pending : goal.from_words-requires-clause-pending
from_words-requires-clause-pending c =
    ltb-true _ _
    (read-at status_ranges c.args.bytes.now c.read_record.new.words 4
    (rw c.columns.ensures at c.in_ok-read_record.ensures.ok))

pub from_words-requires-clause-signals : goal.from_words-requires-clause-signals
from_words-requires-clause-signals c =
    ltb-true _ _
    (read-at status_ranges c.args.bytes.now c.read_record.new.words 5
    (rw c.columns.ensures at c.in_ok-read_record.ensures.ok))

pub from_words-requires-clause-faults : goal.from_words-requires-clause-faults
from_words-requires-clause-faults c =
    ltb-true _ _
    (read-at status_ranges c.args.bytes.now c.read_record.new.words 6
    (rw c.columns.ensures at c.in_ok-read_record.ensures.ok))

pub from_words-requires-clause-entries : goal.from_words-requires-clause-entries
from_words-requires-clause-entries c =
    ltb-true _ _
    (read-at status_ranges c.args.bytes.now c.read_record.new.words 7
    (rw c.columns.ensures at c.in_ok-read_record.ensures.ok))

pub from_words-requires-clause-exits : goal.from_words-requires-clause-exits
from_words-requires-clause-exits c =
    ltb-true _ _
    (read-at status_ranges c.args.bytes.now c.read_record.new.words 8
    (rw c.columns.ensures at c.in_ok-read_record.ensures.ok))

pub from_words-requires-clause-agent : goal.from_words-requires-clause-agent
from_words-requires-clause-agent c =
    ltb-true _ _
    (read-at status_ranges c.args.bytes.now c.read_record.new.words 11
    (rw c.columns.ensures at c.in_ok-read_record.ensures.ok))

pub from_words-requires-clause-lwp : goal.from_words-requires-clause-lwp
from_words-requires-clause-lwp c =
    lwpstatus_fields (drop 13 c.read_record.new.words)
    (omega (arith, c.read_record.auto.words, length-drop 13 c.read_record.new.words))
    (AreRanged-drop 13 status_ranges c.read_record.new.words
    (read-ranged status_ranges c.args.bytes.now c.read_record.new.words
    (rw c.columns.ensures at c.in_ok-read_record.ensures.ok)))

pub returns-clause-ok : goal.returns-clause-ok
returns-clause-ok c =
    (rw c.columns.ensures at c.in_ok-read_record.ensures.ok) ∙ ap Ok (sym c.from_words.ensures.words)
