-- The counts of truss(1) with -c.
use Rattle.std.specs.Prelude.{◌+◌, ◌≡◌, ◌==◌, ◌<◌, ℕ, Bool, true, false, Option, Some, None, List, [], ◌∷◌, ◌++◌, codes, decimal, length, filter, not, slice_index, Result, Ok, Err, if◌then◌else◌}
use Rattle.std.specs.List.{flat_map}
use Rattle.pr_num.specs.Limits.{signal_count}
use Rattle.pr_line.specs.Events.{event_of}
use Rattle.pr_line.specs.declared.events.Event.{Event}
use Rattle.pr_line.specs.declared.events.Event.TheVariants.{Entered, Left, Received, Incurred}
use Rattle.pr_num.specs.Faults.{faults, fault_number, fault_name}
use Rattle.pr_num.specs.Signals.{signals, signal_number, signal_name}
use Rattle.pr_num.specs.Syscalls.{syscalls, syscall_number, syscall_name}
use Rattle.pr_num.specs.declared.errnos.Errno.{Errno}
use Rattle.pr_num.specs.declared.faults.Flt.{Flt}
use Rattle.pr_num.specs.declared.signals.Sig.{Sig}
use Rattle.pr_num.specs.declared.syscalls.Sysno.{Sysno}
use Rattle.pr_rec.specs.Fields.{number_or_zero}
use Rattle.pr_text.specs.TextLines.{newline}
use Rattle.pr_truss.specs.declared.counts.Kind.{Kind}
use Rattle.pr_truss.specs.declared.counts.Kind.TheVariants.{Calls, Errors, Signals, Faults}
use Rattle.pr_truss.specs.declared.reports.Report.{Report}
use Rattle.pr_truss.specs.declared.reports.Report.TheVariants as report

-- ---- what an event counts as

-- the event of a report; a refusal is none, and the call of a function is not counted
abbrev pub event_in : Report → Option Event
event_in (report.CannotStart program errno) = None
event_in (report.CannotTrace pid errno) = None
event_in (report.Event pid lwp text) = event_of lwp
event_in (report.Called pid lwp function arguments) = None

-- A call counts as it ends, and exit and lwp_exit as they are entered.
abbrev pub call_in : Option Event → Option Sysno
call_in (Some (Entered call arguments)) = Some call
call_in (Some (Left call arguments result)) = Some call
call_in _ = None

abbrev pub is_error : Result ℕ Errno → Bool
is_error (Ok value) = false
is_error (Err errno) = true

-- whether a call ended with an errno
abbrev pub has_failed : Option Event → Bool
has_failed (Some (Left call arguments result)) = is_error result
has_failed _ = false

abbrev pub signal_in : Option Event → Option Sig
signal_in (Some (Received signal disposition info)) = Some signal
signal_in _ = None

abbrev pub fault_in : Option Event → Option Flt
fault_in (Some (Incurred fault pc)) = Some fault
fault_in _ = None

-- ---- the counts

-- The number of what a report counts as, a row a kind: a call; a call that ended with an errno; a signal; a fault. 0
-- where it counts as none.
unfoldable pub number_in : Kind → Report → ℕ
number_in Calls r = number_or_zero syscall_number (call_in (event_in r))
number_in Errors r = if has_failed (event_in r) then number_or_zero syscall_number (call_in (event_in r)) else 0
number_in Signals r = number_or_zero signal_number (signal_in (event_in r))
number_in Faults r = number_or_zero fault_number (fault_in (event_in r))

abbrev pub counts_as : Kind → ℕ → Report → Bool
counts_as kind n r = number_in kind r == n

-- how many reports count as the entry of a number
unfoldable pub count_of : List Report → Kind → ℕ → ℕ
count_of reports kind n = length (filter (counts_as kind n) reports)

abbrev pub counts_at_all : Kind → Report → Bool
counts_at_all kind r = not (number_in kind r == 0)

-- how many reports count as any entry
unfoldable pub total_of : List Report → Kind → ℕ
total_of reports kind = length (filter (counts_at_all kind) reports)

-- a table of the counts of one kind, by number
pub record IsTable (reports : List Report) (kind : Kind) (table : List ℕ) : Type 0 where
  pub size : length table ≡ signal_count + 1
  pub rows : (n : ℕ) → n < signal_count + 1 → slice_index table n ≡ count_of reports kind n

-- ---- the rows

-- a name with a count, and one with two
abbrev pub one_count_row : List ℕ → ℕ → List ℕ
one_count_row name count = name ++ codes " " ++ decimal count ++ newline ∷ []

abbrev pub two_counts_row : List ℕ → ℕ → ℕ → List ℕ
two_counts_row name count errors = name ++ codes " " ++ decimal count ++ codes " " ++ decimal errors ++ newline ∷ []

-- a row for what came at all
abbrev pub if_any : ℕ → List ℕ → List ℕ
if_any count row = if count == 0 then [] else row

abbrev pub row_of_call : Sysno → ℕ → ℕ → List ℕ
row_of_call call count errors = if_any count (two_counts_row (syscall_name call) count errors)

-- the row of a call in tables of the counts of calls and of errors
abbrev pub call_row_in : List ℕ → List ℕ → Sysno → List ℕ
call_row_in counts errors call =
    row_of_call call (slice_index counts (syscall_number call)) (slice_index errors (syscall_number call))

unfoldable pub call_row : List Report → Sysno → List ℕ
call_row reports call =
    row_of_call call (count_of reports Calls (syscall_number call)) (count_of reports Errors (syscall_number call))

unfoldable pub total_row : List Report → List ℕ
total_row reports = two_counts_row (codes "total") (total_of reports Calls) (total_of reports Errors)

-- a name with its count, where anything was counted
abbrev pub row_of : List ℕ → ℕ → List ℕ
row_of name count = if_any count (one_count_row name count)

-- the row of a signal, and of a fault, in a table of their counts
abbrev pub signal_row_in : List ℕ → Sig → List ℕ
signal_row_in counts signal = row_of (signal_name signal) (slice_index counts (signal_number signal))

abbrev pub fault_row_in : List ℕ → Flt → List ℕ
fault_row_in counts fault = row_of (fault_name fault) (slice_index counts (fault_number fault))

unfoldable pub signal_row : List Report → Sig → List ℕ
signal_row reports signal = row_of (signal_name signal) (count_of reports Signals (signal_number signal))

unfoldable pub fault_row : List Report → Flt → List ℕ
fault_row reports fault = row_of (fault_name fault) (count_of reports Faults (fault_number fault))

-- the calls with their errors, by number, and their total
unfoldable pub call_counts : List Report → List ℕ
call_counts reports =
    codes "syscall calls errors" ++ newline ∷ [] ++ flat_map (call_row reports) syscalls ++ total_row reports

-- the signals and then the faults, by number
unfoldable pub other_counts : List Report → List ℕ
other_counts reports = flat_map (signal_row reports) signals ++ flat_map (fault_row reports) faults

unfoldable pub counts_text : List Report → List ℕ
counts_text reports = call_counts reports ++ other_counts reports
