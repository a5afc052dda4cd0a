use Rattle.std.proofs.Common.{◌≡◌, ◌+◌, ◌%◌, ◌/◌, ◌==◌, ℕ, Ok, subst}
use Rattle.std.proofs.lemmas.Result.{err_from_is_err_and}
use Rattle.pr_core.proofs.FaultLemmas.{fault-then, fault-after}
use Rattle.pr_core.proofs.StepLemmas.{given_of}
use Rattle.pr_core.specs.CoreReading.{any_records, records_at, section_size, are_whole, size_of, IsFaultOf}
use Rattle.pr_core.proofs.record_sections.any_records.Goals as goal

pub returns-in_err-records-clause-err : goal.returns-in_err-records-clause-err
unfolding any_records
returns-in_err-records-clause-err g c =
    let p = err_from_is_err_and c.from_residual-in_err-records.result c.from_residual-in_err-records.ensures.1 in
    let ranges = g.R.Entry.ranges in
    let size : ℕ = c.in_ok-size.size in
    let fault = c.in_err-records.field-0.0 in
    let one : c.size-record.result ≡ size_of ranges = c.size-record.ensures.value in
    let sized : section_size c.args.kind (are_whole ranges) c.args.bytes.now c.args.at ≡ Ok size =
    given_of (λ (n : ℕ). section_size c.args.kind (λ (s : ℕ). s % n == 0) c.args.bytes.now c.args.at)
    c.size-record.result (size_of ranges) (Ok size) one c.in_ok-size.ensures.value in
    let records : IsFaultOf (records_at ranges (size / size_of ranges) c.args.bytes.now (c.args.at + 16)) fault =
    subst (λ (n : ℕ). IsFaultOf (records_at ranges (size / n) c.args.bytes.now (c.args.at + 16)) fault) one
    c.in_err-records.ensures.err in
    rw (p.1, p.2) (fault-after _ _ size fault sized (fault-then _ _ fault records))
