use Rattle.std.proofs.Common.{Result, Ok, Err, IfOk, ◌≡◌, ◌↔◌, List, ℕ, refl}
use Rattle.pr_num.specs.Records.{lwpstatus_ranges}
use Rattle.pr_rec.specs.InRange.{HasArraySizes, IsLwpStatus}
use Rattle.pr_rec.specs.Reading.{BeginsWith}
use Rattle.pr_rec.specs.RecordWords.{lwpstatus_words_of}
use Rattle.pr_rec.specs.declared.faults.RecFault.{RecFault}
use Rattle.pr_rec.specs.declared.lwps.LwpStatus.{LwpStatus}
use Rattle.pr_core.proofs.EntryLemmas.{lwpstatus-begins}
use Rattle.pr_core.proofs.entries.LwpStatusEntry.read.Goals as goal

of_decoded : (bytes : List ℕ) (r : Result LwpStatus RecFault)
    → ((l : LwpStatus) → (r ≡ Ok l) ↔ (HasArraySizes l × BeginsWith lwpstatus_ranges bytes (lwpstatus_words_of l)))
    → IfOk r IsLwpStatus
of_decoded bytes (Ok l) decoded =
    let whole = (decoded l).0 refl in
    lwpstatus-begins bytes l whole.0 whole.1
of_decoded bytes (Err fault) decoded = tt

pub returns-clause-ranged : goal.returns-clause-ranged
returns-clause-ranged c = of_decoded c.args.bytes.now c.decode.result c.decode.ensures.encoded
