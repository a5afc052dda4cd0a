-- The text of pflags(1): the flags of each lwp, and why it is stopped.
use Rattle.std.specs.Prelude.{ℕ, ◌==◌, ◌||◌, Bool, false, List, [], ◌∷◌, ◌++◌, Option, Some, None, option_map, slice_index, codes, if◌then◌else◌}
use Rattle.std.specs.List.{flat_map}
use Rattle.pr_num.specs.Control.{has_flags, stopped_flag, istop_flag, dstop_flag, step_flag, asleep_flag, agent_flag}
use Rattle.pr_num.specs.Faults.{fault_name, fault_of_number}
use Rattle.pr_num.specs.Signals.{signal_name, signal_of_number}
use Rattle.pr_num.specs.StopReasons.{stop_reasons, reason_name}
use Rattle.pr_num.specs.Syscalls.{syscall_name, syscall_of_number}
use Rattle.pr_num.specs.Tables.{entry_at}
use Rattle.pr_num.specs.declared.stop_reasons.StopReason.{StopReason}
use Rattle.pr_num.specs.declared.stop_reasons.StopReason.TheVariants.{Requested, Signalled, SysEntry, SysExit, JobControl, Faulted, Suspended}
use Rattle.pr_tools.specs.Entries.{lwps_in}
use Rattle.pr_tools.specs.Texts.{header, lwp_label, line_end}

-- a flag by name, where it is set; a bar stands before each but the first
unfoldable pub flag_text : Bool → ℕ → ℕ → List ℕ → List ℕ
flag_text begun flags flag name = if has_flags flags flag then (if begun then codes "|" else []) ++ name else []

-- whether a flag was written, now that this one was tried
abbrev pub is_begun : Bool → ℕ → ℕ → Bool
is_begun begun flags flag = begun || has_flags flags flag

-- a flag of an lwp
pub record Flag : Type 0 where
  pub bit : ℕ
  pub name : List ℕ

-- the flags of an lwp, by their bits (proc(4), "pr_flags")
abbrev pub lwp_flag_table : List Flag
lwp_flag_table =
    record { bit = stopped_flag; name = codes "STOPPED" }
    ∷ record { bit = istop_flag; name = codes "ISTOP" }
    ∷ record { bit = dstop_flag; name = codes "DSTOP" }
    ∷ record { bit = step_flag; name = codes "STEP" }
    ∷ record { bit = asleep_flag; name = codes "ASLEEP" }
    ∷ record { bit = agent_flag; name = codes "AGENT" }
    ∷ []

-- the names of the flags of a table that are set
abbrev pub set_flags : Bool → ℕ → List Flag → List ℕ
set_flags begun flags [] = []
set_flags begun flags (f ∷ fs) = flag_text begun flags f.bit f.name ++ set_flags (is_begun begun flags f.bit) flags fs

-- the flags of an lwp by name, joined by bars; a dash where none is set
unfoldable pub flags_text : ℕ → List ℕ
flags_text flags = if flags == 0 then codes "-" else set_flags false flags lwp_flag_table

-- the name of what an lwp is stopped for: a signal, a system call or a fault, as the reason says; where it has one
unfoldable pub matter_name : StopReason → ℕ → Option (List ℕ)
matter_name Requested what = None
matter_name Signalled what = option_map signal_name (signal_of_number what)
matter_name SysEntry what = option_map syscall_name (syscall_of_number what)
matter_name SysExit what = option_map syscall_name (syscall_of_number what)
matter_name JobControl what = option_map signal_name (signal_of_number what)
matter_name Faulted what = option_map fault_name (fault_of_number what)
matter_name Suspended what = None

-- a word with a blank before it, where there is one
abbrev pub behind_blank : Option (List ℕ) → List ℕ
behind_blank None = []
behind_blank (Some word) = codes " " ++ word

-- why an lwp is stopped and what for, where it is stopped
unfoldable pub stop_text : Option StopReason → ℕ → List ℕ
stop_text None what = []
stop_text (Some reason) what = codes " " ++ reason_name reason ++ behind_blank (matter_name reason what)

-- the same, of an lwp's status
abbrev pub why_text : List ℕ → List ℕ
why_text words = stop_text (entry_at stop_reasons (slice_index words 2)) (slice_index words 3)

-- the line of an lwp
unfoldable pub lwp_line : List ℕ → List ℕ
lwp_line words =
    lwp_label (slice_index words 1) ++ codes " " ++ flags_text (slice_index words 0) ++ why_text words ++ line_end

-- the lines of the lwps, where their status is not malformed
abbrev pub lwp_lines : Option (List (List ℕ)) → List ℕ
lwp_lines None = []
lwp_lines (Some lwps) = flat_map lwp_line lwps

-- the text of a process, of the status of all its lwps
unfoldable pub pflags_text : ℕ → List ℕ → List ℕ
pflags_text pid bytes = header pid ++ lwp_lines (lwps_in bytes)
