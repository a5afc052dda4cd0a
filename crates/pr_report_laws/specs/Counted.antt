use Rattle.std.specs.Prelude.{◌≡◌, ◌==◌, ◌++◌, ℕ, Bool, true, false, Option, None, List, [], ◌∷◌, codes, decimal, filter, length, if◌then◌else◌, Err}
use Rattle.std.specs.List.{filter_map, flat_map}
use Rattle.pr_line.specs.Events.{event_of}
use Rattle.pr_line.specs.declared.events.Event.{Event}
use Rattle.pr_line.specs.declared.events.Event.TheVariants.{Entered, Left, Received, Incurred}
use Rattle.pr_line.specs.declared.options.Options.{Options}
use Rattle.pr_num.specs.Faults.{faults, fault_name, fault_number}
use Rattle.pr_num.specs.Signals.{signals, signal_name, signal_number}
use Rattle.pr_num.specs.Syscalls.{syscalls, syscall_name, syscall_number}
use Rattle.pr_num.specs.declared.faults.Flt.{Flt}
use Rattle.pr_num.specs.declared.signals.Sig.{Sig}
use Rattle.pr_num.specs.declared.syscalls.Sysno.{Sysno}
use Rattle.pr_text.specs.TextLines.{newline}
use Rattle.pr_truss.specs.Printing.{printed}
use Rattle.pr_truss.specs.Reports.{all_reports}
use Rattle.pr_truss.specs.Trusses.{first_truss}
use Rattle.pr_truss.specs.declared.reports.Report.{Report}
use Rattle.pr_truss.specs.declared.reports.Report.TheVariants as report
use Rattle.pr_truss_laws.specs.Exchanges.{Exchange, truss_after}
use Rattle.pr_truss_laws.specs.Lines.{line_of}

-- What truss(1) prints with -c: the lines of what was refused, and then how many events of each kind it has reported.

-- ---- the events

-- the event of a report, where it is one of an event
abbrev pub event_shown : Report → Option Event
event_shown (report.Event pid l text) = event_of l
event_shown _ = None

-- the line of a report that is no event
abbrev pub other_line : Options → Report → List ℕ
other_line o (report.CannotStart program errno) = line_of o (report.CannotStart program errno)
other_line o (report.CannotTrace pid errno) = line_of o (report.CannotTrace pid errno)
other_line o _ = []

-- ---- how many there are of a kind

-- an event of this call, which is told as it ends, or as it is entered where it never returns
abbrev pub is_of_call : Sysno → Event → Bool
is_of_call call (Entered of arguments) = syscall_number of == syscall_number call
is_of_call call (Left of arguments result) = syscall_number of == syscall_number call
is_of_call call _ = false

-- one of this call, which failed
abbrev pub is_failure_of : Sysno → Event → Bool
is_failure_of call (Left of arguments (Err errno)) = syscall_number of == syscall_number call
is_failure_of call _ = false

abbrev pub is_of_signal : Sig → Event → Bool
is_of_signal signal (Received of disposition info) = signal_number of == signal_number signal
is_of_signal signal _ = false

abbrev pub is_of_fault : Flt → Event → Bool
is_of_fault fault (Incurred of pc) = fault_number of == fault_number fault
is_of_fault fault _ = false

-- one of any call, and one of any call that failed
abbrev pub is_call : Event → Bool
is_call (Entered of arguments) = true
is_call (Left of arguments result) = true
is_call _ = false

abbrev pub is_failure : Event → Bool
is_failure (Left of arguments (Err errno)) = true
is_failure _ = false

abbrev pub how_many : (Event → Bool) → List Event → ℕ
how_many is events = length (filter is events)

-- ---- the table

-- a line of a name and numbers
abbrev pub count_line : List ℕ → ℕ → List ℕ
count_line name count = name ++ codes " " ++ decimal count ++ newline ∷ []

abbrev pub counts_line : List ℕ → ℕ → ℕ → List ℕ
counts_line name count failed = name ++ codes " " ++ decimal count ++ codes " " ++ decimal failed ++ newline ∷ []

-- the line of what came at all
abbrev pub unless_none : ℕ → List ℕ → List ℕ
unless_none count line = if count == 0 then [] else line

abbrev pub line_of_call : List Event → Sysno → List ℕ
line_of_call events call =
    unless_none (how_many (is_of_call call) events)
    (counts_line (syscall_name call) (how_many (is_of_call call) events) (how_many (is_failure_of call) events))

abbrev pub line_of_signal : List Event → Sig → List ℕ
line_of_signal events signal =
    unless_none (how_many (is_of_signal signal) events)
    (count_line (signal_name signal) (how_many (is_of_signal signal) events))

abbrev pub line_of_fault : List Event → Flt → List ℕ
line_of_fault events fault =
    unless_none (how_many (is_of_fault fault) events)
    (count_line (fault_name fault) (how_many (is_of_fault fault) events))

-- the calls by number, with those of them that failed, and all of them; the signals; and the faults
abbrev pub table_of : List Event → List ℕ
table_of events =
    (codes "syscall calls errors" ++ newline ∷ [] ++ flat_map (line_of_call events) syscalls
    ++ counts_line (codes "total") (how_many is_call events) (how_many is_failure events))
    ++ (flat_map (line_of_signal events) signals ++ flat_map (line_of_fault events) faults)

-- With -c truss prints the line of each refusal that it has reported, in their order, and the table of all events that
-- it has reported, each counted once; and nothing else.
pub record PrintsItsCounts (o : Options) (xs : List Exchange) : Type 0 where
  pub is : o.count ≡ true
      → printed (truss_after (first_truss o) xs)
      ≡ flat_map (other_line o) (all_reports (truss_after (first_truss o) xs))
      ++ table_of (filter_map event_shown (all_reports (truss_after (first_truss o) xs)))
