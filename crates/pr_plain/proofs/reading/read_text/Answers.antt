use Rattle.std.proofs.Common.{ℕ, List, Result, sym, subst}
use Rattle.pr_model.specs.declared.events.Entry.{Entry}
use Rattle.pr_plain.proofs.EntryLoop.{begins-left, begins-not, begins-read}
use Rattle.pr_plain.specs.Readings.{Answers}
use Rattle.pr_plain.proofs.reading.read_text.Goals as goal

pub read_entries-requires-clause-unread : goal.read_entries-requires-clause-unread
read_entries-requires-clause-unread c = begins-read c.args.first_line c.args.text.now _ c.in-Ok.ensures

pub returns-in-Err : goal.returns-in-Err
returns-in-Err c = begins-not c.args.first_line c.args.text.now _ c.in-Err.ensures

pub returns-in_ok-history-in-Ok : goal.returns-in_ok-history-in-Ok
returns-in_ok-history-in-Ok c =
    subst (λ (read : Result (List Entry) ℕ). Answers (λ h. h.entries) c.read_entries.result read)
    (sym (begins-left c.args.first_line c.args.text.now _ c.in-Ok.ensures)) c.read_entries.ensures
