use Rattle.std.proofs.Common.{◌≡◌, ◌≢◌, ◌↔◌, ◌⊎◌, ℕ, ◌≤◌, true, false, Some, None, IsSome, List, drop, refl, sym, ◌∙◌, inl, inr}
use Rattle.std.specs.List.{find}
use Rattle.std.specs.Str.{bytes_eq}
use Rattle.std.proofs.lemmas.Bool.{eqb-true, eqb-false, or_cases, or_parts, false≢true}
use Rattle.std.proofs.lemmas.Slice.Eq.{bytes_eq-Decides}
use Rattle.pr_num.specs.declared.signals.Sig.{Sig}
use Rattle.pr_num.specs.declared.signals.Sig.TheVariants.{Hup}
use Rattle.pr_num.specs.declared.faults.Flt.{Flt}
use Rattle.pr_num.specs.declared.faults.Flt.TheVariants.{Ill}
use Rattle.pr_num.specs.declared.errnos.Errno.{Errno}
use Rattle.pr_num.specs.declared.errnos.Errno.TheVariants.{Perm}
use Rattle.pr_num.specs.declared.syscalls.Sysno.{Sysno}
use Rattle.pr_num.specs.declared.syscalls.Sysno.TheVariants.{Exit}
use Rattle.pr_num.specs.declared.stop_reasons.StopReason.{StopReason}
use Rattle.pr_num.specs.declared.stop_reasons.StopReason.TheVariants.{Requested}
use Rattle.pr_num.specs.Limits.{signal_count, syscall_count}
use Rattle.pr_num.specs.Tables.{entry_at, counts_from}
use Rattle.pr_num.specs.Signals.{signals, signal_number, signal_name, signal_of_number, signal_of_name, is_named as is_signal_named}
use Rattle.pr_num.specs.Faults.{faults, fault_number, fault_name, fault_of_number, fault_of_name, is_named as is_fault_named}
use Rattle.pr_num.specs.Errnos.{errnos, errno_number, errno_name, errno_of_number, errno_of_name, is_numbered, is_named as is_errno_named}
use Rattle.pr_num.specs.Syscalls.{syscalls, syscall_number, syscall_name, syscall_of_number, syscall_of_name, is_named as is_syscall_named}
use Rattle.pr_num.specs.StopReasons.{stop_reasons, reason_number, reason_name, is_reason_named}
use Rattle.pr_num.proofs.SearchLemmas.{find-passes, none-passes}
use Rattle.pr_num.proofs.NumberedLemmas.{number-entry_at, IsSome-entry_at, signals_counted, faults_counted, syscalls_counted}

-- ---- names

-- bytes that are tested against a name
same_bytes : (a b : List ℕ) → bytes_eq a b ≡ true → a ≡ b
same_bytes a b e = (bytes_eq-Decides a b).0 e

other_bytes : (a b : List ℕ) → bytes_eq a b ≡ false → a ≢ b
other_bytes a b e same = false≢true (sym e ∙ (bytes_eq-Decides a b).1 same)

-- ---- signals

pub signal_of_number-number : (signal : Sig) → signal_of_number (signal_number signal) ≡ Some signal
unfolding signal_of_number signal_number entry_at
signal_of_number-number Hup = refl
signal_of_number-number _ = refl

pub signal_number-of_number : (n : ℕ) (found : Sig) → signal_of_number n ≡ Some found → signal_number found ≡ n
unfolding signal_of_number
signal_number-of_number n found e = number-entry_at signal_number signals signals_counted n found e

pub signal_numbers-range : (n : ℕ) → IsSome (signal_of_number n) ↔ ((1 ≤ n) × (n ≤ signal_count))
unfolding signal_of_number
signal_numbers-range n = IsSome-entry_at signals n

pub signal_of_name-name : (signal : Sig) → signal_of_name (signal_name signal) ≡ Some signal
unfolding signal_of_name signal_name
signal_of_name-name Hup = refl
signal_of_name-name _ = refl

pub signal_of_name-short : (signal : Sig) → signal_of_name (drop 3 (signal_name signal)) ≡ Some signal
unfolding signal_of_name signal_name
signal_of_name-short Hup = refl
signal_of_name-short _ = refl

pub signal_name-of_name : (bytes : List ℕ) (found : Sig) → signal_of_name bytes ≡ Some found
    → (bytes ≡ signal_name found) ⊎ (bytes ≡ drop 3 (signal_name found))
unfolding signal_of_name
signal_name-of_name bytes found e =
    elim (or_cases _ _ (find-passes (is_signal_named bytes) signals found e))
    [ inl whole ↦ inl (same_bytes _ _ whole) | inr short ↦ inr (same_bytes _ _ short) ]

pub signal_name-none : (bytes : List ℕ) (other : Sig) → signal_of_name bytes ≡ None
    → (bytes ≢ signal_name other) × (bytes ≢ drop 3 (signal_name other))
unfolding signal_of_name
signal_name-none bytes other none =
    let fails =
    or_parts _ _
    (none-passes (is_signal_named bytes) (is_signal_named (signal_name other)) signals other
    (signal_of_name-name other) none) in
    (other_bytes _ _ fails.0, other_bytes _ _ fails.1)

-- ---- faults

pub fault_of_number-number : (fault : Flt) → fault_of_number (fault_number fault) ≡ Some fault
unfolding fault_of_number fault_number entry_at
fault_of_number-number Ill = refl
fault_of_number-number _ = refl

pub fault_number-of_number : (n : ℕ) (found : Flt) → fault_of_number n ≡ Some found → fault_number found ≡ n
unfolding fault_of_number
fault_number-of_number n found e = number-entry_at fault_number faults faults_counted n found e

pub fault_numbers-range : (n : ℕ) → IsSome (fault_of_number n) ↔ ((1 ≤ n) × (n ≤ 8))
unfolding fault_of_number
fault_numbers-range n = IsSome-entry_at faults n

pub fault_of_name-name : (fault : Flt) → fault_of_name (fault_name fault) ≡ Some fault
unfolding fault_of_name fault_name
fault_of_name-name Ill = refl
fault_of_name-name _ = refl

pub fault_name-of_name : (bytes : List ℕ) (found : Flt) → fault_of_name bytes ≡ Some found → bytes ≡ fault_name found
unfolding fault_of_name
fault_name-of_name bytes found e = same_bytes _ _ (find-passes (is_fault_named bytes) faults found e)

pub fault_name-none : (bytes : List ℕ) (other : Flt) → fault_of_name bytes ≡ None → bytes ≢ fault_name other
unfolding fault_of_name
fault_name-none bytes other none =
    other_bytes _ _
    (none-passes (is_fault_named bytes) (is_fault_named (fault_name other)) faults other
    (fault_of_name-name other) none)

-- ---- errnos

pub errno_of_number-number : (errno : Errno) → errno_of_number (errno_number errno) ≡ Some errno
unfolding errno_of_number errno_number
errno_of_number-number Perm = refl
errno_of_number-number _ = refl

pub errno_number-of_number : (n : ℕ) (found : Errno) → errno_of_number n ≡ Some found → errno_number found ≡ n
unfolding errno_of_number
errno_number-of_number n found e = eqb-true _ n (find-passes (is_numbered n) errnos found e)

pub errno_number-none : (n : ℕ) (other : Errno) → errno_of_number n ≡ None → errno_number other ≢ n
unfolding errno_of_number
errno_number-none n other none =
    eqb-false _ n
    (none-passes (is_numbered n) (is_numbered (errno_number other)) errnos other
    (errno_of_number-number other) none)

pub errno_of_name-name : (errno : Errno) → errno_of_name (errno_name errno) ≡ Some errno
unfolding errno_of_name errno_name
errno_of_name-name Perm = refl
errno_of_name-name _ = refl

pub errno_name-of_name : (bytes : List ℕ) (found : Errno) → errno_of_name bytes ≡ Some found → bytes ≡ errno_name found
unfolding errno_of_name
errno_name-of_name bytes found e = same_bytes _ _ (find-passes (is_errno_named bytes) errnos found e)

pub errno_name-none : (bytes : List ℕ) (other : Errno) → errno_of_name bytes ≡ None → bytes ≢ errno_name other
unfolding errno_of_name
errno_name-none bytes other none =
    other_bytes _ _
    (none-passes (is_errno_named bytes) (is_errno_named (errno_name other)) errnos other
    (errno_of_name-name other) none)

-- ---- calls

pub syscall_of_number-number : (syscall : Sysno) → syscall_of_number (syscall_number syscall) ≡ Some syscall
unfolding syscall_of_number syscall_number entry_at
syscall_of_number-number Exit = refl
syscall_of_number-number _ = refl

pub syscall_number-of_number : (n : ℕ) (found : Sysno) → syscall_of_number n ≡ Some found → syscall_number found ≡ n
unfolding syscall_of_number
syscall_number-of_number n found e = number-entry_at syscall_number syscalls syscalls_counted n found e

pub syscall_numbers-range : (n : ℕ) → IsSome (syscall_of_number n) ↔ ((1 ≤ n) × (n ≤ syscall_count))
unfolding syscall_of_number
syscall_numbers-range n = IsSome-entry_at syscalls n

pub syscall_of_name-name : (syscall : Sysno) → syscall_of_name (syscall_name syscall) ≡ Some syscall
unfolding syscall_of_name syscall_name
syscall_of_name-name Exit = refl
syscall_of_name-name _ = refl

pub syscall_name-of_name : (bytes : List ℕ) (found : Sysno) → syscall_of_name bytes ≡ Some found
    → bytes ≡ syscall_name found
unfolding syscall_of_name
syscall_name-of_name bytes found e = same_bytes _ _ (find-passes (is_syscall_named bytes) syscalls found e)

pub syscall_name-none : (bytes : List ℕ) (other : Sysno) → syscall_of_name bytes ≡ None → bytes ≢ syscall_name other
unfolding syscall_of_name
syscall_name-none bytes other none =
    other_bytes _ _
    (none-passes (is_syscall_named bytes) (is_syscall_named (syscall_name other)) syscalls other
    (syscall_of_name-name other) none)

-- ---- stop reasons

pub reasons_counted : counts_from reason_number 1 stop_reasons ≡ true
unfolding reason_number
reasons_counted = refl

pub reason_of_number-number : (reason : StopReason) → entry_at stop_reasons (reason_number reason) ≡ Some reason
unfolding entry_at reason_number
reason_of_number-number Requested = refl
reason_of_number-number _ = refl

pub reason_number-of_number : (n : ℕ) (found : StopReason) → entry_at stop_reasons n ≡ Some found
    → reason_number found ≡ n
reason_number-of_number n found e = number-entry_at reason_number stop_reasons reasons_counted n found e

pub reason_numbers-range : (n : ℕ) → IsSome (entry_at stop_reasons n) ↔ ((1 ≤ n) × (n ≤ 7))
reason_numbers-range n = IsSome-entry_at stop_reasons n

pub reason_of_name-name : (reason : StopReason) → find (is_reason_named (reason_name reason)) stop_reasons ≡ Some reason
unfolding reason_name
reason_of_name-name Requested = refl
reason_of_name-name _ = refl

pub reason_name-of_name : (bytes : List ℕ) (found : StopReason) → find (is_reason_named bytes) stop_reasons ≡ Some found
    → bytes ≡ reason_name found
reason_name-of_name bytes found e = same_bytes _ _ (find-passes (is_reason_named bytes) stop_reasons found e)

pub reason_name-none : (bytes : List ℕ) (other : StopReason) → find (is_reason_named bytes) stop_reasons ≡ None
    → bytes ≢ reason_name other
reason_name-none bytes other none =
    other_bytes _ _
    (none-passes (is_reason_named bytes) (is_reason_named (reason_name other)) stop_reasons other
    (reason_of_name-name other) none)
