use Rattle.std.proofs.Common.{◌≡◌, ◌≢◌, ◌*◌, ◌/◌, ◌%◌, ◌^◌, ◌<◌, ◌==◌, ℕ, Bool, true, false, Option, Some, None, is_some, sym, ap, ◌∙◌, arith}
use Rattle.std.proofs.lemmas.Bool.{false≢true}
use Rattle.std.proofs.lemmas.Nat.Bits.{and_pow}
use Rattle.pr_core.specs.Gcores.{lends}
use Rattle.pr_lawful.proofs.LawfulTurns.EndLemmas.{found-live}
use Rattle.pr_model.specs.Lawful.{IsLawfulSystem}
use Rattle.pr_model.specs.Reads.{part_read}
use Rattle.pr_model.specs.State.{TracedProcess, TracedSystem, live_process}
use Rattle.pr_model.specs.Statuses.{process_flags, status_of}
use Rattle.pr_num.specs.Control.{has_flags, vforkp_flag}
use Rattle.pr_num.specs.Limits.{read_limit}
use Rattle.pr_num.specs.Records.{status_ranges}
use Rattle.pr_num.specs.Sets.{common_word}
use Rattle.pr_reached.proofs.RecordsInRange.EntryRanges.{records-range}
use Rattle.pr_reached.proofs.StatesInRange.ProcessRanges.{process-range}
use Rattle.pr_reached.specs.InRange.{IsInRange}
use Rattle.pr_rec.specs.Fields.{process_flags_of}
use Rattle.pr_rec.specs.InRange.{IsStatus}
use Rattle.pr_rec.specs.Reading.{record_read}
use Rattle.pr_rec.specs.RecordBytes.{status_bytes}
use Rattle.pr_core_laws.proofs.OneState.ReadLemmas.{lent-flags}

-- A status that shows that memory was lent is that of a process that has lent its memory.

-- flags below 32 do not have the one of 32
no-flag : (word : ℕ) → word < 32 → has_flags word vforkp_flag ≡ false
unfolding has_flags common_word
no-flag word small =
    ap (λ (n : ℕ). n == 32)
    (and_pow word 5 ∙ ap (λ (b : ℕ). b * 32) (let bit : word / 2 ^ 5 % 2 ≡ 0 = omega arith in bit))

own-flags : (modes : ℕ) (system : Bool) (o : Option ℕ) → o ≡ None → modes < 16
    → process_flags_of modes system (is_some o) < 32
own-flags modes true None none small = omega (arith, small)
own-flags modes false None none small = omega (arith, small)
own-flags modes system (Some b) none small = cc

pub lends-lent : (s : TracedSystem) (pid : ℕ) (p : TracedProcess) → IsLawfulSystem s → IsInRange s
    → live_process s pid ≡ Some p
    → lends (record_read status_ranges (part_read (status_bytes (status_of s pid p)) 0 read_limit)) ≡ true
    → p.borrower ≢ None
unfolding process_flags
lends-lent s pid p lawful range live lent none =
    let found = (found-live s pid p live).0 in
    let status : IsStatus (status_of s pid p) = ((records-range s lawful range).processes pid p found).status in
    let small = (process-range s pid p range found).control.modes in
    let low : process_flags pid p < 32 =
    own-flags p.control.modes (pid == 0) p.borrower none (omega (arith, small)) in
    false≢true (sym (lent-flags s pid p status ∙ no-flag (process_flags pid p) low) ∙ lent)
