-- A field of a record and its word are found by each other.
use Rattle.std.proofs.Common.{length, ◌+◌, ◌≡◌, ◌↔◌, ◌^◌, ◌<◌, ◌≤◌, ℕ, zero, suc, Bool, true, false, eqb, leb, inl, inr, List, [], ◌∷◌, Option, None, Some, IsSome, is_some, IsTrue, refl, sym, ap, ◌∙◌, arith}
use Rattle.std.specs.List.{list_any, slice_get}
use Rattle.std.proofs.lemmas.Option.{same_Some}
use Rattle.std.proofs.lemmas.Bool.{eqb-true, false≢true, or_cases, and_parts, leb-true}
use Rattle.pr_num.specs.Limits.{signal_count, syscall_count, fault_count}
use Rattle.pr_num.specs.Tables.{entry_at, counts_from}
use Rattle.pr_num.specs.Records.{an_errno, a_mapping_kind}
use Rattle.pr_num.specs.Spaces.{kind_number}
use Rattle.pr_num.specs.declared.mappings.MappingKind.{MappingKind}
use Rattle.pr_num.specs.declared.mappings.MappingKind.TheVariants.{Text, Data, Heap, Stack, Mapped}
use Rattle.pr_num.specs.Signals.{signals, signal_number, signal_of_number}
use Rattle.pr_num.specs.Faults.{faults, fault_number, fault_of_number}
use Rattle.pr_num.specs.Syscalls.{syscalls, syscall_number, syscall_of_number}
use Rattle.pr_num.specs.Errnos.{errnos, errno_number, errno_of_number, is_numbered}
use Rattle.pr_num.specs.StopReasons.{stop_reasons, reason_number}
use Rattle.pr_num.specs.declared.signals.Sig.{Sig}
use Rattle.pr_num.specs.declared.faults.Flt.{Flt}
use Rattle.pr_num.specs.declared.syscalls.Sysno.{Sysno}
use Rattle.pr_num.specs.declared.errnos.Errno.{Errno}
use Rattle.pr_num.specs.declared.errnos.Errno.TheVariants.{Perm}
use Rattle.pr_num.specs.declared.stop_reasons.StopReason.{StopReason}
use Rattle.pr_num.proofs.EntryLemmas.{signal_of_number-number, signal_numbers-range, fault_of_number-number, fault_numbers-range, syscall_of_number-number, syscall_numbers-range, errno_of_number-number, errno_number-of_number, reason_of_number-number, reason_number-of_number, reason_numbers-range}
use Rattle.pr_rec.specs.Fields.{number_or_zero, truth_word, disposition_number, disposition_of}
use Rattle.pr_rec.specs.declared.lwps.Disposition.{Disposition}
use Rattle.pr_rec.specs.declared.lwps.Disposition.TheVariants.{Default, Ignored, Caught}
use Rattle.pr_num.proofs.NumberedLemmas.{number-entry_at, IsSome-entry_at}
use Rattle.pr_num.proofs.SearchLemmas.{list_any-find_none}

-- ---- the entry of a number

-- the number of what a number gives is that number, where nothing stands for 0 alone
number-back : {T : Type 0} (number : T → ℕ) (o : Option T) (w : ℕ) → ((x : T) → o ≡ Some x → number x ≡ w)
    → (o ≡ None → w ≡ 0) → number_or_zero number o ≡ w
number-back number None w some none = sym (none refl)
number-back number (Some x) w some none = some x refl

none_where_zero : {T : Type 0} (o : Option T) (w most : ℕ) → (IsSome o ↔ ((1 ≤ w) × (w ≤ most))) → w < suc most
    → o ≡ None → w ≡ 0
none_where_zero o zero most range small e = refl
none_where_zero o (suc w) most range small e =
    absurd (false≢true (sym (ap is_some e) ∙ range.1 (omega arith, omega arith)))

pub entry_back : {T : Type 0} (number : T → ℕ) (xs : List T) (count : ℕ) → counts_from number 1 xs ≡ true
    → length xs ≡ count → (o : Option T) (w : ℕ) → o ≡ entry_at xs w → w < count + 1 → number_or_zero number o ≡ w
entry_back number xs count counted whole o w is small =
    number-back number o w (λ x e. number-entry_at number xs counted w x (sym is ∙ e))
    (none_where_zero o w (length xs) (rw is (IsSome-entry_at xs w)) (omega arith))

pub reason_back : (w : ℕ) → w < 8 → number_or_zero reason_number (entry_at stop_reasons w) ≡ w
reason_back w small =
    number-back reason_number (entry_at stop_reasons w) w (reason_number-of_number w)
    (none_where_zero _ w 7 (reason_numbers-range w) small)

errno_none : (w : ℕ) → an_errno w ≡ true → errno_of_number w ≡ None → w ≡ 0
unfolding errno_of_number
errno_none w ok e =
    elim (or_cases (eqb w 0) (list_any (is_numbered w) errnos) ok) [
      | inl is ↦ eqb-true w 0 is
      | inr some ↦ absurd (false≢true (sym (list_any-find_none (is_numbered w) errnos e) ∙ some))
    ]

pub errno_back : (w : ℕ) → IsTrue (an_errno w) → number_or_zero errno_number (errno_of_number w) ≡ w
errno_back w ok = number-back errno_number (errno_of_number w) w (errno_number-of_number w) (errno_none w ok)

-- ---- the number of an entry

-- an entry is what its number gives, and nothing is what 0 gives
of_number-back : {T : Type 0} (number : T → ℕ) (of_number : ℕ → Option T) → ((x : T) → of_number (number x) ≡ Some x)
    → of_number 0 ≡ None → (o : Option T) → of_number (number_or_zero number o) ≡ o
of_number-back number of_number back none None = none
of_number-back number of_number back none (Some x) = back x

-- so that two with one number are one
same_entry : {T : Type 0} (number : T → ℕ) (of_number : ℕ → Option T) → ((x : T) → of_number (number x) ≡ Some x)
    → of_number 0 ≡ None → (a b : Option T) → number_or_zero number a ≡ number_or_zero number b → a ≡ b
same_entry number of_number back none a b e =
    sym (of_number-back number of_number back none a) ∙ ap of_number e ∙ of_number-back number of_number back none b

nothing_at_zero : {T : Type 0} (xs : List T) → entry_at xs 0 ≡ None
unfolding entry_at
nothing_at_zero xs = refl

pub same_signal : (a b : Option Sig) → number_or_zero signal_number a ≡ number_or_zero signal_number b → a ≡ b
unfolding signal_of_number
same_signal = same_entry signal_number signal_of_number signal_of_number-number (nothing_at_zero signals)

pub same_fault : (a b : Option Flt) → number_or_zero fault_number a ≡ number_or_zero fault_number b → a ≡ b
unfolding fault_of_number
same_fault = same_entry fault_number fault_of_number fault_of_number-number (nothing_at_zero faults)

pub same_call : (a b : Option Sysno) → number_or_zero syscall_number a ≡ number_or_zero syscall_number b → a ≡ b
unfolding syscall_of_number
same_call = same_entry syscall_number syscall_of_number syscall_of_number-number (nothing_at_zero syscalls)

pub same_reason : (a b : Option StopReason) → number_or_zero reason_number a ≡ number_or_zero reason_number b → a ≡ b
same_reason = same_entry reason_number (entry_at stop_reasons) reason_of_number-number (nothing_at_zero stop_reasons)

no_errno_zero : errno_of_number 0 ≡ None
unfolding errno_of_number errno_number
no_errno_zero = refl

pub same_errno : (a b : Option Errno) → number_or_zero errno_number a ≡ number_or_zero errno_number b → a ≡ b
same_errno = same_entry errno_number errno_of_number errno_of_number-number no_errno_zero

pub same_truth : (a b : Bool) → truth_word a ≡ truth_word b → a ≡ b
same_truth true true e = refl
same_truth true false e = absurd (omega arith)
same_truth false true e = absurd (omega arith)
same_truth false false e = refl

kinds : List MappingKind
kinds = Text ∷ Data ∷ Heap ∷ Stack ∷ Mapped ∷ []

kind_back : (k : MappingKind) → entry_at kinds (kind_number k) ≡ Some k
unfolding entry_at kind_number kinds
kind_back Text = refl
kind_back _ = refl

pub same_kind : (a b : MappingKind) → kind_number a ≡ kind_number b → a ≡ b
same_kind a b e = same_Some a b (sym (kind_back a) ∙ ap (entry_at kinds) e ∙ kind_back b)

dispositions : List Disposition
dispositions = Default ∷ Ignored ∷ Caught ∷ []

disposition_back : (d : Disposition) → slice_get dispositions (disposition_number d) ≡ Some d
unfolding dispositions
disposition_back Default = refl
disposition_back _ = refl

pub same_disposition : (a b : Disposition) → disposition_number a ≡ disposition_number b → a ≡ b
same_disposition a b e = same_Some a b (sym (disposition_back a) ∙ ap (slice_get dispositions) e ∙ disposition_back b)

-- ---- the ranges of these words

small_entry : {T : Type 0} (number : T → ℕ) (most : ℕ) → ((x : T) → number x ≤ most) → (o : Option T)
    → number_or_zero number o < suc most
small_entry number most small None = omega arith
small_entry number most small (Some x) = omega (arith, small x)

signal_most : (s : Sig) → signal_number s ≤ signal_count
signal_most s = ((signal_numbers-range (signal_number s)).0 (ap is_some (signal_of_number-number s))).1

fault_most : (f : Flt) → fault_number f ≤ 8
fault_most f = ((fault_numbers-range (fault_number f)).0 (ap is_some (fault_of_number-number f))).1

call_most : (c : Sysno) → syscall_number c ≤ syscall_count
call_most c = ((syscall_numbers-range (syscall_number c)).0 (ap is_some (syscall_of_number-number c))).1

-- what a stop is about has a number below 40
pub signal_number-lt : (s : Sig) → signal_number s < signal_count + 1
signal_number-lt s = omega (arith, signal_most s)

pub fault_number-lt : (f : Flt) → fault_number f < signal_count + 1
fault_number-lt f = omega (arith, fault_most f)

pub syscall_number-lt : (c : Sysno) → syscall_number c < signal_count + 1
syscall_number-lt c = omega (arith, call_most c)

pub ruleset number_bounds = (signal_number-lt, fault_number-lt, syscall_number-lt)

pub signal_small : (o : Option Sig) → number_or_zero signal_number o < signal_count + 1
signal_small = small_entry signal_number signal_count signal_most

pub fault_small : (o : Option Flt) → number_or_zero fault_number o < fault_count + 1
fault_small = small_entry fault_number 8 fault_most

pub call_small : (o : Option Sysno) → number_or_zero syscall_number o < syscall_count + 1
call_small = small_entry syscall_number syscall_count call_most

pub reason_small : (o : Option StopReason) → number_or_zero reason_number o < 8
reason_small =
    small_entry reason_number 7
    (λ r. ((reason_numbers-range (reason_number r)).0 (ap is_some (reason_of_number-number r))).1)

errno_ok : (e : Errno) → an_errno (errno_number e) ≡ true
unfolding errno_number
errno_ok Perm = refl
errno_ok _ = refl

pub an_errno-field : (o : Option Errno) → an_errno (number_or_zero errno_number o) ≡ true
an_errno-field None = refl
an_errno-field (Some e) = errno_ok e

errno_number-lt : (e : Errno) → errno_number e ≤ 48
unfolding errno_number
errno_number-lt Perm = omega arith
errno_number-lt _ = omega arith

pub errno-word : (w : ℕ) → an_errno w ≡ true → w < 2 ^ 64
errno-word w ok = omega (arith, small_entry errno_number 48 errno_number-lt (errno_of_number w), errno_back w ok)

pub truth_small : (b : Bool) → truth_word b < 2
truth_small true = omega arith
truth_small false = omega arith

pub disposition_small : (d : Disposition) → disposition_number d < 3
disposition_small Default = omega arith
disposition_small Ignored = omega arith
disposition_small Caught = omega arith

pub a_mapping_kind-field : (k : MappingKind) → a_mapping_kind (kind_number k) ≡ true
unfolding kind_number
a_mapping_kind-field Text = refl
a_mapping_kind-field _ = refl

pub mapping_kind-from : (w : ℕ) → a_mapping_kind w ≡ true → 1 ≤ w
mapping_kind-from w ok = leb-true 1 w (and_parts (leb 1 w) (leb w 5) ok).0

pub mapping_kind-to : (w : ℕ) → a_mapping_kind w ≡ true → w ≤ 5
mapping_kind-to w ok = leb-true w 5 (and_parts (leb 1 w) (leb w 5) ok).1

-- the disposition of a number is that of a word which is no handler's address
pub disposition_of-back : (w : ℕ) → w < 3 → disposition_number (disposition_of w) ≡ w
disposition_of-back zero small = refl
disposition_of-back (suc zero) small = refl
disposition_of-back (suc (suc zero)) small = refl
disposition_of-back (suc (suc (suc w))) small = absurd (omega arith)

pub ruleset numbers_back = (reason_back, errno_back, disposition_of-back)
