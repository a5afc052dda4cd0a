-- The fields of records (proc(4), "Records, by byte offset"): the name and the kind of each word, by its place, which
-- counts from 0. Names are those of Solaris where it has the field.
use Rattle.std.specs.Prelude.{ℕ, ◌==◌, ◌-◌, ◌+◌, ◌%◌, Bool, false, Option, Some, None, List, codes, nat_lt, if◌then◌else◌}
use Rattle.pr_num.specs.Signals.{signal_name, signal_of_number}
use Rattle.pr_num.specs.declared.signals.Sig.{Sig}
use Rattle.pr_model.specs.declared.calls.File.{File}
use Rattle.pr_model.specs.declared.calls.File.TheVariants as file
use Rattle.pr_hist.specs.declared.fields.Kind.{Kind}
use Rattle.pr_hist.specs.declared.fields.Kind.TheVariants.{Count, Place, Number, Address, Code, LwpFlags, ProcessFlags, WatchFlags, Protection, Why, What, Signal, Fault, Call, Errno, Signals, Faults, Calls, Disposition, Handler, Origin, MappingKind, DescriptorKind, Access, Name, Rest}
use Rattle.pr_hist.specs.declared.fields.Layout.{Layout}
use Rattle.pr_hist.specs.declared.fields.Layout.TheVariants as layout

-- a status of an lwp
unfoldable pub lwp_name : ℕ → List ℕ
lwp_name p =
    if p == 0 then codes "pr_flags"
    else (if p == 1 then codes "pr_lwpid"
    else (if p == 2 then codes "pr_why"
    else (if p == 3 then codes "pr_what"
    else (if p == 4 then codes "pr_cursig"
    else (if p == 5 then codes "pr_fault"
    else (if p == 6 then codes "pr_faddr"
    else (if p == 7 then codes "pr_syscall"
    else (if p == 8 then codes "pr_sysarg[0]"
    else (if p == 9 then codes "pr_sysarg[1]"
    else (if p == 10 then codes "pr_sysarg[2]"
    else (if p == 11 then codes "pr_sysarg[3]"
    else (if p == 12 then codes "pr_sysarg[4]"
    else (if p == 13 then codes "pr_sysarg[5]"
    else (if p == 14 then codes "pr_rval1"
    else (if p == 15 then codes "pr_errno"
    else (if p == 16 then codes "pr_lwphold"
    else (if p == 17 then codes "pr_lwppend"
    else (if p == 18 then codes "r0"
    else (if p == 19 then codes "r1"
    else (if p == 20 then codes "r2"
    else (if p == 21 then codes "r3"
    else (if p == 22 then codes "r4"
    else (if p == 23 then codes "r5"
    else (if p == 24 then codes "r6"
    else (if p == 25 then codes "r7"
    else (if p == 26 then codes "sp"
    else (if p == 27 then codes "fp"
    else (if p == 28 then codes "pc"
    else (if p == 29 then codes "pr_action"
    else (if p == 30 then codes "si_code"
    else (if p == 31 then codes "si_pid"
    else (if p == 32 then codes "si_value"
    else codes "word"))))))))))))))))))))))))))))))))

unfoldable pub lwp_kind : ℕ → Kind
lwp_kind p =
    if p == 0 then LwpFlags
    else (if p == 1 then Count
    else (if p == 2 then Why
    else (if p == 3 then What
    else (if p == 4 then Signal
    else (if p == 5 then Fault
    else (if p == 6 then Code
    else (if p == 7 then Call
    else (if p == 8 then Number
    else (if p == 9 then Number
    else (if p == 10 then Number
    else (if p == 11 then Number
    else (if p == 12 then Number
    else (if p == 13 then Number
    else (if p == 14 then Number
    else (if p == 15 then Errno
    else (if p == 16 then Signals
    else (if p == 17 then Signals
    else (if p == 18 then Number
    else (if p == 19 then Number
    else (if p == 20 then Number
    else (if p == 21 then Number
    else (if p == 22 then Number
    else (if p == 23 then Number
    else (if p == 24 then Number
    else (if p == 25 then Number
    else (if p == 26 then Address
    else (if p == 27 then Address
    else (if p == 28 then Code
    else (if p == 29 then Disposition
    else (if p == 30 then Origin
    else (if p == 31 then Count
    else (if p == 32 then Number
    else Number))))))))))))))))))))))))))))))))

-- the status of a process, its lwp aside
unfoldable pub own_name : ℕ → List ℕ
own_name p =
    if p == 0 then codes "pr_flags"
    else (if p == 1 then codes "pr_pid"
    else (if p == 2 then codes "pr_ppid"
    else (if p == 3 then codes "pr_nlwp"
    else (if p == 4 then codes "pr_sigpend"
    else (if p == 5 then codes "pr_sigtrace"
    else (if p == 6 then codes "pr_flttrace"
    else (if p == 7 then codes "pr_sysentry"
    else (if p == 8 then codes "pr_sysexit"
    else (if p == 9 then codes "pr_brkbase"
    else (if p == 10 then codes "pr_brksize"
    else (if p == 11 then codes "pr_agentid"
    else (if p == 12 then codes "pr_nwarea"
    else codes "word"))))))))))))

unfoldable pub own_kind : ℕ → Kind
own_kind p =
    if p == 0 then ProcessFlags
    else (if p == 1 then Count
    else (if p == 2 then Count
    else (if p == 3 then Count
    else (if p == 4 then Signals
    else (if p == 5 then Signals
    else (if p == 6 then Faults
    else (if p == 7 then Calls
    else (if p == 8 then Calls
    else (if p == 9 then Address
    else (if p == 10 then Number
    else (if p == 11 then Count
    else (if p == 12 then Count
    else Number))))))))))))

-- what ps(1) shows
unfoldable pub psinfo_name : ℕ → List ℕ
psinfo_name p =
    if p == 0 then codes "pr_pid"
    else (if p == 1 then codes "pr_ppid"
    else (if p == 2 then codes "pr_nlwp"
    else (if p == 3 then codes "pr_nzomb"
    else (if p == 4 then codes "pr_wstat"
    else (if p == 5 then codes "pr_size"
    else (if p == 6 then codes "pr_start"
    else (if p == 7 then codes "pr_jobsig"
    else (if p == 8 then codes "pr_fname"
    else codes "word"))))))))

unfoldable pub psinfo_kind : ℕ → Kind
psinfo_kind p =
    if p == 0 then Count
    else (if p == 1 then Count
    else (if p == 2 then Count
    else (if p == 3 then Count
    else (if p == 4 then Number
    else (if p == 5 then Number
    else (if p == 6 then Count
    else (if p == 7 then Signal
    else (if p == 8 then Name
    else Rest))))))))

-- a mapping
unfoldable pub mapping_name : ℕ → List ℕ
mapping_name p =
    if p == 0 then codes "pr_vaddr"
    else (if p == 1 then codes "pr_size"
    else (if p == 2 then codes "pr_mflags"
    else (if p == 3 then codes "pr_kind"
    else (if p == 4 then codes "pr_mapname"
    else codes "word"))))

unfoldable pub mapping_kind : ℕ → Kind
mapping_kind p =
    if p == 0 then Address
    else (if p == 1 then Number
    else (if p == 2 then Protection
    else (if p == 3 then MappingKind
    else (if p == 4 then Name
    else Rest))))

-- what a process has used
unfoldable pub usage_name : ℕ → List ℕ
usage_name p =
    if p == 0 then codes "pr_pid"
    else (if p == 1 then codes "pr_sysc"
    else (if p == 2 then codes "pr_sigs"
    else (if p == 3 then codes "pr_flts"
    else (if p == 4 then codes "pr_insns"
    else codes "word"))))

unfoldable pub usage_kind : ℕ → Kind
usage_kind p =
    if p == 0 then Count
    else (if p == 1 then Count
    else (if p == 2 then Count
    else (if p == 3 then Count
    else (if p == 4 then Count
    else Number))))

-- a watched area
unfoldable pub area_name : ℕ → List ℕ
area_name p =
    if p == 0 then codes "pr_vaddr"
    else (if p == 1 then codes "pr_size"
    else (if p == 2 then codes "pr_wflags"
    else codes "word"))

unfoldable pub area_kind : ℕ → Kind
area_kind p =
    if p == 0 then Address
    else (if p == 1 then Number
    else (if p == 2 then WatchFlags
    else Number))

-- a descriptor
unfoldable pub descriptor_name : ℕ → List ℕ
descriptor_name p =
    if p == 0 then codes "fd"
    else (if p == 1 then codes "kind"
    else (if p == 2 then codes "mode"
    else (if p == 3 then codes "offset"
    else (if p == 4 then codes "name"
    else codes "word"))))

unfoldable pub descriptor_kind : ℕ → Kind
descriptor_kind p =
    if p == 0 then Place
    else (if p == 1 then DescriptorKind
    else (if p == 2 then Access
    else (if p == 3 then Number
    else (if p == 4 then Name
    else Rest))))

-- a process in the list of processes
unfoldable pub listed_name : ℕ → List ℕ
listed_name p =
    if p == 0 then codes "pr_pid"
    else (if p == 1 then codes "pr_ppid"
    else (if p == 2 then codes "pr_fname"
    else codes "word"))

unfoldable pub listed_kind : ℕ → Kind
listed_kind p =
    if p == 0 then Count
    else (if p == 1 then Count
    else (if p == 2 then Name
    else Rest))

-- the signal of a word of sigact
abbrev pub name_or_word : Option Sig → List ℕ
name_or_word None = codes "word"
name_or_word (Some s) = signal_name s

unfoldable pub signal_name_at : ℕ → List ℕ
signal_name_at p = name_or_word (signal_of_number (p + 1))

-- the record of a file that is read
unfoldable pub layout_of : File → Layout
layout_of file.Status = layout.Status
layout_of file.Lstatus = layout.Lstatus
layout_of file.Psinfo = layout.Psinfo
layout_of file.Map = layout.Map
layout_of file.Usage = layout.Usage
layout_of file.Sigact = layout.Sigact
layout_of file.Watch = layout.Watch
layout_of file.Fds = layout.Fds
layout_of file.Lwpstatus = layout.Lwpstatus
layout_of file.Mem = layout.Raw
layout_of file.Ctl = layout.Raw
layout_of file.Lwpctl = layout.Raw

-- the name of a word of a record, by its place
unfoldable pub field_name : Layout → ℕ → List ℕ
field_name layout.Status p = if nat_lt p 13 then own_name p else lwp_name (p - 13)
field_name layout.Lstatus p = if p == 0 then codes "pr_nent" else lwp_name ((p - 1) % 33)
field_name layout.Lwpstatus p = lwp_name p
field_name layout.Psinfo p = psinfo_name p
field_name layout.Map p = mapping_name (p % 8)
field_name layout.Usage p = usage_name p
field_name layout.Sigact p = signal_name_at p
field_name layout.Watch p = area_name (p % 3)
field_name layout.Fds p = descriptor_name (p % 8)
field_name layout.List p = listed_name (p % 6)
field_name layout.Raw p = codes "word"

-- its kind
unfoldable pub field_kind : Layout → ℕ → Kind
field_kind layout.Status p = if nat_lt p 13 then own_kind p else lwp_kind (p - 13)
field_kind layout.Lstatus p = if p == 0 then Count else lwp_kind ((p - 1) % 33)
field_kind layout.Lwpstatus p = lwp_kind p
field_kind layout.Psinfo p = psinfo_kind p
field_kind layout.Map p = mapping_kind (p % 8)
field_kind layout.Usage p = usage_kind p
field_kind layout.Sigact p = Handler
field_kind layout.Watch p = area_kind (p % 3)
field_kind layout.Fds p = descriptor_kind (p % 8)
field_kind layout.List p = listed_kind (p % 6)
field_kind layout.Raw p = Number

-- whether a record, or the part of a record that is of one lwp, begins with a word
unfoldable pub starts_record : Layout → ℕ → Bool
starts_record layout.Status p = p == 13
starts_record layout.Lstatus p = (p - 1) % 33 == 0
starts_record layout.Map p = p % 8 == 0
starts_record layout.Watch p = p % 3 == 0
starts_record layout.Fds p = p % 8 == 0
starts_record layout.List p = p % 6 == 0
starts_record _ p = false
