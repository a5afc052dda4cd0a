use Rattle.std.proofs.Common.{arith}
use Rattle.pr_plain.proofs.HistoryLaws.{read_begins, read_few, refusal_names, read_only}
use Rattle.pr_plain.proofs.reading.read_history.Goals as goal

pub returns-clause-read : goal.returns-clause-read
returns-clause-read c =
    read_begins (λ h. h.entries) c.args.first_line c.args.text.now c.read_text.result c.read_text.ensures

pub returns-clause-only : goal.returns-clause-only
returns-clause-only c =
    λ es begins.
    read_only (λ h. h.entries) c.args.first_line c.args.text.now c.read_text.result
    (omega arith) c.read_text.ensures es begins

pub returns-clause-refused : goal.returns-clause-refused
returns-clause-refused c =
    refusal_names (λ h. h.entries) c.args.first_line c.args.text.now c.read_text.result c.read_text.ensures

pub returns-clause-few : goal.returns-clause-few
returns-clause-few c =
    read_few (λ h. h.entries) c.args.text.now c.read_text.result
    (read_begins (λ h. h.entries) c.args.first_line c.args.text.now c.read_text.result c.read_text.ensures)
