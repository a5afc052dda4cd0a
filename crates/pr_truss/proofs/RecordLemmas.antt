-- What truss reads in the records of processes.
use Rattle.std.proofs.Common.{◌≡◌, ◌<◌, ◌+◌, ℕ, List, drop, Some, None, Ok, Err, option_map, ap, refl, ◌∙◌}
use Rattle.std.specs.Result.{result_ok}
use Rattle.pr_num.specs.Faults.{faults, fault_number, fault_of_number}
use Rattle.pr_num.specs.Limits.{fault_count, signal_count, syscall_count}
use Rattle.pr_num.specs.Records.{lwpstatus_ranges, status_ranges}
use Rattle.pr_num.specs.Signals.{signals, signal_number, signal_of_number}
use Rattle.pr_num.specs.Syscalls.{syscalls, syscall_number, syscall_of_number}
use Rattle.pr_num.proofs.NumberedLemmas.{faults_counted, signals_counted, syscalls_counted}
use Rattle.pr_rec.proofs.FieldLemmas.{entry_back, reason_back, reason_small, signal_small, fault_small, call_small, errno_back, an_errno-field}
use Rattle.pr_rec.proofs.LwpStatusLemmas.{same_lwpstatus}
use Rattle.pr_rec.specs.Fields.{disposition_number, disposition_of, number_or_zero}
use Rattle.pr_rec.specs.InRange.{HasArraySizes}
use Rattle.pr_rec.specs.Reading.{record_read}
use Rattle.pr_rec.specs.RecordWords.{lwpstatus_words_of, status_words_of}
use Rattle.pr_rec.specs.declared.faults.RecFault.{RecFault}
use Rattle.pr_rec.specs.declared.lwps.Disposition.{Disposition}
use Rattle.pr_rec.specs.declared.lwps.Disposition.TheVariants.{Default, Ignored, Caught}
use Rattle.pr_rec.specs.declared.lwps.LwpStatus.{LwpStatus}
use Rattle.pr_rec.specs.declared.statuses.Status.{Status}
use Rattle.pr_truss.specs.Records.{lwp_of, lwp_in, status_lwp}

-- a disposition is that of its number
disposition_back : (d : Disposition) → disposition_number (disposition_of (disposition_number d)) ≡ disposition_number d
disposition_back Default = refl
disposition_back Ignored = refl
disposition_back Caught = refl

-- a signal, a fault and a call are what their numbers give
signal_back : (w : ℕ) → w < signal_count + 1 → number_or_zero signal_number (signal_of_number w) ≡ w
unfolding signal_of_number
signal_back w small = entry_back signal_number signals signal_count signals_counted refl _ w refl small

fault_back : (w : ℕ) → w < fault_count + 1 → number_or_zero fault_number (fault_of_number w) ≡ w
unfolding fault_of_number
fault_back w small = entry_back fault_number faults fault_count faults_counted refl _ w refl small

call_back : (w : ℕ) → w < syscall_count + 1 → number_or_zero syscall_number (syscall_of_number w) ≡ w
unfolding syscall_of_number
call_back w small = entry_back syscall_number syscalls syscall_count syscalls_counted refl _ w refl small

-- an lwp's status is what its words give
pub lwp_back : (l : LwpStatus) → HasArraySizes l → lwp_of (lwpstatus_words_of l) ≡ l
unfolding lwp_of
lwp_back l sizes =
    same_lwpstatus _ l (record { arguments = refl; regs = refl }) sizes
    (rw (
      reason_back _ (reason_small l.why),
      signal_back _ (signal_small l.signal),
      fault_back _ (fault_small l.fault),
      call_back _ (call_small l.call),
      errno_back _ (an_errno-field l.errno),
      disposition_back l.disposition,
    ) refl)

pub lwp_found : (bytes : List ℕ) (l : LwpStatus) → HasArraySizes l
    → record_read lwpstatus_ranges bytes ≡ Ok (lwpstatus_words_of l) → lwp_in bytes ≡ Some l
unfolding lwp_in
lwp_found bytes l sizes is = ap (λ r. option_map lwp_of (result_ok r)) is ∙ ap Some (lwp_back l sizes)

pub lwp_missed : (bytes : List ℕ) (fault : RecFault) → record_read lwpstatus_ranges bytes ≡ Err fault
    → lwp_in bytes ≡ None
unfolding lwp_in
lwp_missed bytes fault is = ap (λ r. option_map lwp_of (result_ok r)) is

pub status_found : (bytes : List ℕ) (s : Status) → HasArraySizes s.lwp
    → record_read status_ranges bytes ≡ Ok (status_words_of s) → status_lwp bytes ≡ Some s.lwp
unfolding status_lwp
status_found bytes s sizes is =
    ap (λ r. option_map (λ words. lwp_of (drop 13 words)) (result_ok r)) is ∙ ap Some (lwp_back s.lwp sizes)

pub status_missed : (bytes : List ℕ) (fault : RecFault) → record_read status_ranges bytes ≡ Err fault
    → status_lwp bytes ≡ None
unfolding status_lwp
status_missed bytes fault is = ap (λ r. option_map (λ words. lwp_of (drop 13 words)) (result_ok r)) is
