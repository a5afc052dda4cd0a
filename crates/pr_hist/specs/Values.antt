-- What a word of a record says, by its kind, with a blank before it.
use Rattle.std.specs.Prelude.{ℕ, ◌==◌, ◌||◌, not, Bool, true, false, Option, Some, None, List, [], ◌++◌, codes, decimal, if◌then◌else◌}
use Rattle.pr_num.specs.Errnos.{errno_name, errno_of_number}
use Rattle.pr_num.specs.Faults.{fault_name, fault_of_number}
use Rattle.pr_num.specs.StopReasons.{stop_reasons, reason_name}
use Rattle.pr_num.specs.Syscalls.{syscall_name, syscall_of_number}
use Rattle.pr_num.specs.Tables.{entry_at}
use Rattle.pr_num.specs.declared.errnos.Errno.{Errno}
use Rattle.pr_num.specs.declared.faults.Flt.{Flt}
use Rattle.pr_num.specs.declared.stop_reasons.StopReason.{StopReason}
use Rattle.pr_num.specs.declared.stop_reasons.StopReason.TheVariants.{Requested, Signalled, SysEntry, SysExit, JobControl, Faulted, Suspended}
use Rattle.pr_num.specs.declared.syscalls.Sysno.{Sysno}
use Rattle.pr_text.specs.Quotes.{quoted_text}
use Rattle.pr_hist.specs.Flags.{lwp_flags_text, process_flags_text, protection_text, watch_flags_text}
use Rattle.pr_hist.specs.Listings.{Listing}
use Rattle.pr_hist.specs.Messages.{address_text, calls_text, code_text, faults_text, signal_text, signals_text}
use Rattle.pr_hist.specs.Texts.{name_in, number_text}
use Rattle.pr_hist.specs.declared.fields.Kind.{Kind}
use Rattle.pr_hist.specs.declared.fields.Kind.TheVariants.{Count, Place, Number, Address, Code, LwpFlags, ProcessFlags, WatchFlags, Protection, Why, What, Signal, Fault, Call, Errno as AnErrno, Signals, Faults, Calls, Disposition, Handler, Origin, MappingKind, DescriptorKind, Access, Name, Rest}

-- numbers
unfoldable pub count_text : ℕ → List ℕ
count_text w = codes " " ++ decimal w

unfoldable pub plain_text : ℕ → List ℕ
plain_text w = codes " " ++ number_text w

-- what has a name, or a number where it has none
abbrev pub reason_or_number : ℕ → Option StopReason → List ℕ
reason_or_number w None = plain_text w
reason_or_number w (Some r) = codes " " ++ reason_name r

unfoldable pub why_text : ℕ → List ℕ
why_text w = reason_or_number w (entry_at stop_reasons w)

abbrev pub fault_or_number : ℕ → Option Flt → List ℕ
fault_or_number w None = plain_text w
fault_or_number w (Some f) = codes " " ++ fault_name f

unfoldable pub fault_text : ℕ → List ℕ
fault_text w = fault_or_number w (fault_of_number w)

abbrev pub call_or_number : ℕ → Option Sysno → List ℕ
call_or_number w None = plain_text w
call_or_number w (Some c) = codes " " ++ syscall_name c

unfoldable pub call_text : ℕ → List ℕ
call_text w = call_or_number w (syscall_of_number w)

abbrev pub errno_or_number : ℕ → Option Errno → List ℕ
errno_or_number w None = plain_text w
errno_or_number w (Some e) = codes " " ++ errno_name e

unfoldable pub errno_text : ℕ → List ℕ
errno_text w = errno_or_number w (errno_of_number w)

-- what an lwp is stopped on, a row a reason; a number where no reason is known
unfoldable pub what_for : StopReason → ℕ → List ℕ
what_for Requested w = plain_text w
what_for Signalled w = signal_text w
what_for SysEntry w = call_text w
what_for SysExit w = call_text w
what_for JobControl w = signal_text w
what_for Faulted w = fault_text w
what_for Suspended w = plain_text w

abbrev pub what_by : Option StopReason → ℕ → List ℕ
what_by None w = plain_text w
what_by (Some r) w = what_for r w

unfoldable pub what_text : ℕ → ℕ → List ℕ
what_text why w = what_by (entry_at stop_reasons why) w

-- how a signal is disposed of, and the address of its handler
unfoldable pub disposition_text : ℕ → List ℕ
disposition_text w = if w == 1 then codes " ignored" else (if w == 2 then codes " caught" else plain_text w)

unfoldable pub handler_text : Option Listing → ℕ → List ℕ
handler_text l w = if w == 1 then codes " ignored" else code_text l w

-- where a signal came from
unfoldable pub origin_text : ℕ → List ℕ
origin_text w =
    if w == 1 then codes " kill" else (if w == 2 then codes " sigqueue" else (if w == 3 then codes " kernel"
    else (if w == 4 then codes " fault" else (if w == 5 then codes " control" else plain_text w))))

-- kinds of mappings and of descriptors, and for what a descriptor is open
unfoldable pub mapping_text : ℕ → List ℕ
mapping_text w =
    if w == 1 then codes " text" else (if w == 2 then codes " data" else (if w == 3 then codes " heap"
    else (if w == 4 then codes " stack" else (if w == 5 then codes " mapped" else plain_text w))))

unfoldable pub descriptor_text : ℕ → List ℕ
descriptor_text w =
    if w == 1 then codes " file" else (if w == 2 then codes " pipe, read"
    else (if w == 3 then codes " pipe, write" else plain_text w))

unfoldable pub access_text : ℕ → List ℕ
access_text w =
    if w == 0 then codes " read" else (if w == 1 then codes " write"
    else (if w == 2 then codes " both" else plain_text w))

-- a name: its bytes up to the first zero
unfoldable pub name_text : List ℕ → List ℕ
name_text bytes = codes " " ++ quoted_text (name_in bytes) false

-- A word of a record of a process that runs this program, a row a kind. Before it stands the word `before`; `bytes` are
-- its own and those behind it.
unfoldable pub value_text : Option Listing → Kind → ℕ → ℕ → List ℕ → List ℕ
value_text l Count before w bytes = count_text w
value_text l Place before w bytes = count_text w
value_text l Number before w bytes = plain_text w
value_text l Address before w bytes = address_text w
value_text l Code before w bytes = code_text l w
value_text l LwpFlags before w bytes = lwp_flags_text w
value_text l ProcessFlags before w bytes = process_flags_text w
value_text l WatchFlags before w bytes = watch_flags_text w
value_text l Protection before w bytes = protection_text w
value_text l Why before w bytes = why_text w
value_text l What before w bytes = what_text before w
value_text l Signal before w bytes = signal_text w
value_text l Fault before w bytes = fault_text w
value_text l Call before w bytes = call_text w
value_text l AnErrno before w bytes = errno_text w
value_text l Signals before w bytes = signals_text w
value_text l Faults before w bytes = faults_text w
value_text l Calls before w bytes = calls_text w
value_text l Disposition before w bytes = disposition_text w
value_text l Handler before w bytes = handler_text l w
value_text l Origin before w bytes = origin_text w
value_text l MappingKind before w bytes = mapping_text w
value_text l DescriptorKind before w bytes = descriptor_text w
value_text l Access before w bytes = access_text w
value_text l Name before w bytes = name_text bytes
value_text l Rest before w bytes = []

-- whether a word says something: most do where they are not 0
unfoldable pub says_something : Kind → ℕ → Bool
says_something Place w = true
says_something Access w = true
says_something Rest w = false
says_something _ w = not (w == 0)

-- whether a word is told: where it says something, or where all fields are; what belongs to a name before it never is
unfoldable pub is_shown : Bool → Kind → ℕ → Bool
is_shown full Rest w = false
is_shown full kind w = full || says_something kind w
