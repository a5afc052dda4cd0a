use Rattle.std.proofs.Common.{◌≡◌, ◌+◌, ◌-◌, ◌%◌, ◌/◌, ◌==◌, ◌&&◌, nat_le, ℕ, Ok, Err, subst, arith}
use Rattle.std.proofs.lemmas.Result.{err_from_is_err_and}
use Rattle.pr_core.proofs.FaultLemmas.{is_fault, fault-then, fault-after}
use Rattle.pr_core.proofs.StepLemmas.{given_of}
use Rattle.pr_core.specs.CoreReading.{counted_records, records_at, section_size, word_in, exactly, are_counted, size_of, IsFaultOf}
use Rattle.pr_core.proofs.record_sections.counted_records.Goals as goal

pub returns-in_err-count-clause-err : goal.returns-in_err-count-clause-err
unfolding counted_records
returns-in_err-count-clause-err g c =
    let p = err_from_is_err_and c.from_residual-in_err-count.result c.from_residual-in_err-count.ensures.1 in
    let ranges = g.R.Entry.ranges in
    let size : ℕ = c.in_ok-size.size in
    let fault = c.in_err-count.field-0.0 in
    let one : c.size-record.result ≡ size_of ranges = c.size-record.ensures.value in
    let sized : section_size c.args.kind (are_counted ranges) c.args.bytes.now c.args.at ≡ Ok size =
    given_of (λ (n : ℕ). section_size c.args.kind (λ (s : ℕ). nat_le 8 s && ((s - 8) % n == 0)) c.args.bytes.now
    c.args.at)
    c.size-record.result (size_of ranges) (Ok size) one c.in_ok-size.ensures.value in
    let count : word_in (exactly ((size - 8) / size_of ranges)) c.args.bytes.now (c.args.at + 16) ≡ Err fault =
    given_of (λ (n : ℕ). word_in (exactly ((size - 8) / n)) c.args.bytes.now (c.args.at + 16))
    c.size-record.result (size_of ranges) (Err fault) one c.in_err-count.ensures.value in
    rw (p.1, p.2) (fault-after _ _ size fault sized (fault-then _ _ fault (is_fault _ fault count)))

pub returns-in_err-records-clause-err : goal.returns-in_err-records-clause-err
unfolding counted_records
returns-in_err-records-clause-err g c =
    let p = err_from_is_err_and c.from_residual-in_err-records.result c.from_residual-in_err-records.ensures.1 in
    let ranges = g.R.Entry.ranges in
    let size : ℕ = c.in_ok-size.size in
    let number : ℕ = c.in_ok-count.count in
    let fault = c.in_err-records.field-0.0 in
    let one : c.size-record.result ≡ size_of ranges = c.size-record.ensures.value in
    let sized : section_size c.args.kind (are_counted ranges) c.args.bytes.now c.args.at ≡ Ok size =
    given_of (λ (n : ℕ). section_size c.args.kind (λ (s : ℕ). nat_le 8 s && ((s - 8) % n == 0)) c.args.bytes.now
    c.args.at)
    c.size-record.result (size_of ranges) (Ok size) one c.in_ok-size.ensures.value in
    let count : word_in (exactly ((size - 8) / size_of ranges)) c.args.bytes.now (c.args.at + 16) ≡ Ok number =
    given_of (λ (n : ℕ). word_in (exactly ((size - 8) / n)) c.args.bytes.now (c.args.at + 16))
    c.size-record.result (size_of ranges) (Ok number) one c.in_ok-count.ensures.value in
    let begin : c.args.at + 16 + 8 ≡ c.args.at + 24 = omega arith in
    let records : IsFaultOf (records_at ranges number c.args.bytes.now (c.args.at + 24)) fault =
    subst (λ (n : ℕ). IsFaultOf (records_at ranges number c.args.bytes.now n) fault) begin
    c.in_err-records.ensures.err in
    rw (p.1, p.2) (fault-after _ _ size fault sized (fault-after _ _ number fault count (fault-then _ _ fault records)))
