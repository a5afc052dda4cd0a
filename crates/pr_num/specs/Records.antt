use Rattle.std.specs.Prelude.{◌≡◌, ◌-◌, length, replicate, ◌==◌, ◌||◌, ◌&&◌, ◌+◌, ◌*◌, ◌^◌, ℕ, Bool, List, [], ◌∷◌, ◌++◌, Option, Some, None, nat_lt, nat_le, if◌then◌else◌}
use Rattle.std.specs.List.{flat_map, list_any}
use Rattle.pr_num.specs.Errnos.{errnos, errno_number}
use Rattle.pr_num.specs.Limits.{descriptor_limit, fault_count, signal_count, syscall_count}
use Rattle.pr_num.specs.Words.{words_bytes}

-- The records of the process file system (proc(4)), each a list of words. Here stands what each word may hold; the
-- words of a state's records are told by the state.

-- a test that a word of a record has to pass
abbrev pub Range : Type 0
Range = ℕ → Bool

-- a word below a bound
abbrev pub below : ℕ → Range
below bound w = nat_lt w bound

-- a truth value
abbrev pub truth : Range
truth = below 2

-- any word
abbrev pub any_word : Range
any_word = below (2 ^ 64)

-- a process id or an lwp id
abbrev pub an_id : Range
an_id = below (2 ^ 32)

-- a signal's number, or 0 for none
abbrev pub a_signal : Range
a_signal = below (signal_count + 1)

-- a fault's number, or 0 for none
abbrev pub a_fault : Range
a_fault = below (fault_count + 1)

-- a system call's number, or 0 for none
abbrev pub a_call : Range
a_call = below (syscall_count + 1)

-- a stop reason's number, or 0 for none
abbrev pub a_reason : Range
a_reason = below 8

-- what a stop is about: a signal's, a fault's or a call's number, or 0; of these tables that of signals is the longest
abbrev pub a_matter : Range
a_matter = below (signal_count + 1)

-- a set of signals, of faults, of system calls
abbrev pub signal_set : Range
signal_set = below (2 ^ signal_count)

abbrev pub fault_set : Range
fault_set = below (2 ^ fault_count)

abbrev pub call_set : Range
call_set = below (2 ^ syscall_count)

-- the number of an errno, or 0 for none
abbrev pub an_errno : Range
an_errno w = (w == 0) || list_any (λ e. errno_number e == w) errnos

-- how a process disposes of a signal: by default, by ignoring it, by catching it
abbrev pub a_disposition : Range
a_disposition = below 3

-- where a signal came from: kill(2), sigqueue(3C), the kernel, a fault, a controller; or 0 for nowhere
abbrev pub an_origin : Range
an_origin = below 6

-- a kind of mapping: text, data, heap, stack, mapped
abbrev pub a_mapping_kind : Range
a_mapping_kind w = nat_le 1 w && nat_le w 5

-- the words of an lwp's status, and its bytes
abbrev pub lwpstatus_word_count : ℕ
lwpstatus_word_count = 33

abbrev pub lwpstatus_size : ℕ
lwpstatus_size = 8 * lwpstatus_word_count

-- The words of an lwp's status: flags, lwp id, why and what it stands stopped for, current signal, current fault
-- and its address, system call, its 6 arguments, result and errno, held set, pending set, the registers r0 to r7,
-- sp, fp and pc, the disposition of the current signal, and the code, process id and value of its information.
abbrev pub lwpstatus_ranges : List Range
lwpstatus_ranges =
    below 64 ∷ an_id ∷ a_reason ∷ a_matter ∷ a_signal ∷ a_fault ∷ any_word ∷ a_call
    ∷ any_word ∷ any_word ∷ any_word ∷ any_word ∷ any_word ∷ any_word ∷ any_word ∷ an_errno ∷ signal_set ∷ signal_set
    ∷ any_word ∷ any_word ∷ any_word ∷ any_word ∷ any_word ∷ any_word ∷ any_word ∷ any_word ∷ any_word ∷ any_word
    ∷ any_word
    ∷ a_disposition ∷ an_origin ∷ an_id ∷ any_word ∷ []

-- The 30 words of an lwp's status as it was before signals had information (version 1): signals up to 31, and system
-- calls up to 29. These ranges are for good.
abbrev pub first_lwpstatus_ranges : List Range
first_lwpstatus_ranges =
    below 64 ∷ an_id ∷ a_reason ∷ below 32 ∷ below 32 ∷ a_fault ∷ any_word ∷ below 30
    ∷ any_word ∷ any_word ∷ any_word ∷ any_word ∷ any_word ∷ any_word ∷ any_word ∷ an_errno ∷ below (2 ^ 31)
    ∷ below (2 ^ 31)
    ∷ any_word ∷ any_word ∷ any_word ∷ any_word ∷ any_word ∷ any_word ∷ any_word ∷ any_word ∷ any_word ∷ any_word
    ∷ any_word
    ∷ a_disposition ∷ []

-- The 46 words of a process's status: flags, process id, parent's id, number of lwps, pending set, traced signals,
-- traced faults, calls traced at entry and at exit, base and size of the heap, the agent's id or 0, number of
-- watched areas, and the status of the representative lwp.
abbrev pub status_ranges : List Range
status_ranges =
    (below 64 ∷ an_id ∷ an_id ∷ any_word ∷ signal_set ∷ signal_set ∷ fault_set ∷ call_set ∷ call_set
    ∷ any_word ∷ any_word ∷ an_id ∷ any_word ∷ []) ++ lwpstatus_ranges

-- The 12 words of what ps(1) shows of a process: process id, parent's id, number of lwps, whether it is a zombie, its
-- wait status, mapped bytes, the clock at its making, the job stop's signal, and the 4 words of its program's name.
abbrev pub psinfo_ranges : List Range
psinfo_ranges =
    an_id ∷ an_id ∷ any_word ∷ truth ∷ any_word ∷ any_word ∷ any_word ∷ a_signal ∷ any_word ∷ any_word ∷ any_word
    ∷ any_word ∷ []

-- The 8 words of a mapping: address, size, protection, kind, and the 4 words of a name.
abbrev pub map_entry_ranges : List Range
map_entry_ranges = any_word ∷ any_word ∷ below 8 ∷ a_mapping_kind ∷ any_word ∷ any_word ∷ any_word ∷ any_word ∷ []

-- The 5 words of a process's usage: process id, calls ended, signals taken, faults incurred, instructions begun.
abbrev pub usage_ranges : List Range
usage_ranges = an_id ∷ any_word ∷ any_word ∷ any_word ∷ any_word ∷ []

-- The 39 words of a process's dispositions, of the signals 1 to 39: 0 default, 1 ignored, and else the address of a
-- handler.
abbrev pub sigact_ranges : List Range
sigact_ranges = replicate signal_count any_word

-- The 3 words of a watched area: address, size, flags.
abbrev pub watch_entry_ranges : List Range
watch_entry_ranges = any_word ∷ any_word ∷ below 16 ∷ []

-- a descriptor's number
abbrev pub a_descriptor : Range
a_descriptor = below descriptor_limit

-- what a descriptor stands for: a file, the read end of a pipe, its write end
abbrev pub a_file_kind : Range
a_file_kind w = nat_le 1 w && nat_le w 3

-- for what a file is open: reading, writing, both
abbrev pub an_access : Range
an_access = below 3

-- The 8 words of a descriptor: its number, kind, open mode, offset, and the 4 words of the file's name.
abbrev pub fd_entry_ranges : List Range
fd_entry_ranges = a_descriptor ∷ a_file_kind ∷ an_access ∷ any_word ∷ any_word ∷ any_word ∷ any_word ∷ any_word ∷ []

-- The 6 words of a process in a list of processes: process id, parent's id, and the 4 words of its program's name.
abbrev pub list_entry_ranges : List Range
list_entry_ranges = an_id ∷ an_id ∷ any_word ∷ any_word ∷ any_word ∷ any_word ∷ []

-- Entries one after the other, as in the records of mappings, watched areas, descriptors and processes; and after
-- their number, as in the record of all lwps of a process.
abbrev pub entries_words : List (List ℕ) → List ℕ
entries_words entries = flat_map (λ (words : List ℕ). words) entries

abbrev pub counted_words : List (List ℕ) → List ℕ
counted_words entries = length entries ∷ entries_words entries

-- The place of the first word that is out of its range, if there is one, counted from a place on. Words and ranges are
-- as many.
abbrev pub first_out_from : ℕ → List Range → List ℕ → Option ℕ
first_out_from at [] words = None
first_out_from at (r ∷ rs) [] = None
first_out_from at (r ∷ rs) (w ∷ ws) = if r w then first_out_from (at + 1) rs ws else Some at

abbrev pub first_out_of_range : List Range → List ℕ → Option ℕ
first_out_of_range ranges words = first_out_from 0 ranges words

-- The wire format of records: these bytes encode a record of these words, each in its range.
pub record EncodesRecord (ranges : List Range) (bytes words : List ℕ) : Type 0 where
  pub count : length words ≡ length ranges
  pub ranged : first_out_of_range ranges words ≡ None
  pub encoded : bytes ≡ words_bytes words

-- a name of at most 31 bytes in a record: 32 bytes, with zeros after the name
abbrev pub name_field : List ℕ → List ℕ
name_field name = name ++ replicate (32 - length name) 0
