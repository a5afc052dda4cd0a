use Rattle.std.specs.Prelude.{ℕ, List, [], ◌∷◌, ◌++◌}
use Rattle.pr_num.specs.Errnos.{errno_number}
use Rattle.pr_num.specs.Faults.{fault_number}
use Rattle.pr_num.specs.Signals.{signal_number}
use Rattle.pr_num.specs.Spaces.{kind_number}
use Rattle.pr_num.specs.StopReasons.{reason_number}
use Rattle.pr_num.specs.Syscalls.{syscall_number}
use Rattle.pr_rec.specs.Fields.{number_or_zero, truth_word, disposition_number, info_words, elements, name_words}
use Rattle.pr_rec.specs.declared.entries.FdEntry.{FdEntry}
use Rattle.pr_rec.specs.declared.entries.ListEntry.{ListEntry}
use Rattle.pr_rec.specs.declared.entries.WatchEntry.{WatchEntry}
use Rattle.pr_rec.specs.declared.lwps.LwpStatus.{LwpStatus}
use Rattle.pr_rec.specs.declared.mappings.MapEntry.{MapEntry}
use Rattle.pr_rec.specs.declared.processes.Psinfo.{Psinfo}
use Rattle.pr_rec.specs.declared.statuses.Status.{Status}
use Rattle.pr_rec.specs.declared.usages.Usage.{Usage}
use Rattle.pr_num.specs.Files.{fd_kind_number, access_number}

-- The words of each record (proc(4)), a row a word. What each word may hold stands in pr_num's Records.

-- the 33 words of an lwp's status
abbrev pub lwpstatus_words_of : LwpStatus → List ℕ
lwpstatus_words_of l =
    (l.flags
    ∷ l.id
    ∷ number_or_zero reason_number l.why
    ∷ l.what
    ∷ number_or_zero signal_number l.signal
    ∷ number_or_zero fault_number l.fault
    ∷ l.fault_address
    ∷ number_or_zero syscall_number l.call
    ∷ elements 6 l.arguments)
    ++ (l.result
    ∷ number_or_zero errno_number l.errno
    ∷ l.held
    ∷ l.pending
    ∷ elements 11 l.regs)
    ++ disposition_number l.disposition
    ∷ info_words l.info

-- the 46 words of a process's status: 13 of its own, and those of its representative lwp
abbrev pub own_words_of : Status → List ℕ
own_words_of s =
    s.flags
    ∷ s.id
    ∷ s.parent
    ∷ s.lwps
    ∷ s.pending
    ∷ s.traced_signals
    ∷ s.traced_faults
    ∷ s.traced_entries
    ∷ s.traced_exits
    ∷ s.heap_base
    ∷ s.heap_size
    ∷ s.agent
    ∷ s.areas
    ∷ []

abbrev pub status_words_of : Status → List ℕ
status_words_of s = own_words_of s ++ lwpstatus_words_of s.lwp

-- the 12 words of what ps(1) shows of a process
abbrev pub psinfo_words_of : Psinfo → List ℕ
psinfo_words_of p =
    p.id
    ∷ p.parent
    ∷ p.lwps
    ∷ truth_word p.zombie
    ∷ p.wait_status
    ∷ p.mapped
    ∷ p.made_at
    ∷ number_or_zero signal_number p.job_stop
    ∷ name_words p.program

-- the 5 words of what a process has used
abbrev pub usage_words_of : Usage → List ℕ
usage_words_of u =
    u.id
    ∷ u.calls
    ∷ u.signals
    ∷ u.faults
    ∷ u.instructions
    ∷ []

-- the 8 words of a mapping
abbrev pub map_entry_words_of : MapEntry → List ℕ
map_entry_words_of m =
    m.at
    ∷ m.size
    ∷ m.prot
    ∷ kind_number m.kind
    ∷ name_words m.name

-- the 3 words of a watched area
abbrev pub watch_entry_words_of : WatchEntry → List ℕ
watch_entry_words_of w =
    w.at
    ∷ w.size
    ∷ w.flags
    ∷ []

-- the 8 words of a descriptor
abbrev pub fd_entry_words_of : FdEntry → List ℕ
fd_entry_words_of d =
    d.descriptor
    ∷ fd_kind_number d.kind
    ∷ access_number d.access
    ∷ d.offset
    ∷ name_words d.name

-- the 6 words of a process in a list of processes
abbrev pub list_entry_words_of : ListEntry → List ℕ
list_entry_words_of p =
    p.id
    ∷ p.parent
    ∷ name_words p.program
