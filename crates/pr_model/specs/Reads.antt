use Rattle.std.specs.Prelude.{◌==◌, ◌||◌, ◌+◌, ◌%◌, ◌^◌, ℕ, zero, suc, List, [], ◌∷◌, Option, Some, None, Result, Ok, Err, take, drop, nat_lt, if◌then◌else◌}
use Rattle.pr_num.specs.Limits.{read_limit}
use Rattle.pr_num.specs.Spaces.{Space, byte_for}
use Rattle.pr_num.specs.declared.errnos.Errno.TheVariants.{Inval, Noent, Badf, Io}
use Rattle.pr_num.specs.declared.mappings.BadByte.{BadByte}
use Rattle.pr_rec.specs.RecordBytes.{status_bytes, lwpstatus_bytes, lstatus_bytes, psinfo_bytes, map_bytes, usage_bytes, sigact_bytes, watch_bytes, fds_bytes}
use Rattle.pr_model.specs.Handles.{is_control, handle_of, outlives}
use Rattle.pr_model.specs.Readers.{space_seen}
use Rattle.pr_model.specs.Records.{lstatus_of, psinfo_of, usage_of, map_of, watch_of, fds_of}
use Rattle.pr_model.specs.State.{TracedState, TracedSystem, TracedProcess, TracedLwp, process_of, live_process, lwp_of}
use Rattle.pr_model.specs.Statuses.{lwpstatus_of, status_of}
use Rattle.pr_model.specs.declared.calls.File.{File}
use Rattle.pr_model.specs.declared.calls.File.TheVariants.{Ctl, Status, Lstatus, Psinfo, Map, Usage, Mem, Sigact, Watch, Fds, Lwpctl, Lwpstatus}
use Rattle.pr_model.specs.declared.calls.Reply.{Reply}
use Rattle.pr_model.specs.declared.calls.Reply.TheVariants.{Bytes, Fail}
use Rattle.pr_model.specs.declared.handles.Held.{Held}

-- Reading the files of a process (proc(4)). A read changes nothing.

-- the part of a record from a byte on, at most so many bytes
unfoldable pub part_read : List ℕ → ℕ → ℕ → List ℕ
part_read bytes from len = take len (drop from bytes)

abbrev pub part : ℕ → ℕ → List ℕ → Reply
part from len bytes = Bytes (part_read bytes from len)

-- ---- the address space

-- the bytes from an address on, at most so many, up to the first that is not mapped
unfoldable pub mapped_from : Space → ℕ → ℕ → List ℕ
mapped_from space at zero = []
mapped_from space at (suc n) = before (byte_for 0 space at) (mapped_from space ((at + 1) % 2 ^ 64) n)
  where
    before : Result ℕ BadByte → List ℕ → List ℕ
    before (Err bad) rest = []
    before (Ok byte) rest = byte ∷ rest

-- what is read of memory. EIO: the first byte is not mapped.
abbrev pub unless_none : List ℕ → Reply
unless_none [] = Fail Io
unless_none (b ∷ bytes) = Bytes (b ∷ bytes)

-- ---- the files

-- what a read of the status of one lwp gives. ENOENT: it has ended.
abbrev pub of_lwp : TracedProcess → ℕ → ℕ → ℕ → Option TracedLwp → Reply
of_lwp p id from len None = Fail Noent
of_lwp p id from len (Some l) = part from len (lwpstatus_bytes (lwpstatus_of p id l))

-- What a read of a file of a process gives from a byte on, a row a file; control files are not read.
unfoldable pub file_reply : TracedSystem → ℕ → TracedProcess → ℕ → ℕ → ℕ → File → Reply
file_reply s pid p id from len Ctl = Fail Badf
file_reply s pid p id from len Lwpctl = Fail Badf
file_reply s pid p id from len Status = part from len (status_bytes (status_of s pid p))
file_reply s pid p id from len Lstatus = part from len (lstatus_bytes (lstatus_of p))
file_reply s pid p id from len Psinfo = part from len (psinfo_bytes (psinfo_of s pid p))
file_reply s pid p id from len Map = part from len (map_bytes (map_of s p))
file_reply s pid p id from len Usage = part from len (usage_bytes (usage_of pid p))
file_reply s pid p id from len Mem = unless_none (mapped_from (space_seen s p) from len)
file_reply s pid p id from len Sigact = part from len (sigact_bytes p.dispositions)
file_reply s pid p id from len Watch = part from len (watch_bytes (watch_of p))
file_reply s pid p id from len Fds = part from len (fds_bytes (fds_of s.files p))
file_reply s pid p id from len Lwpstatus = of_lwp p id from len (lwp_of p id)

-- the process of a file that is read: most files end with it, and some stand until it is reaped
unfoldable pub read_process : TracedSystem → ℕ → File → Option TracedProcess
read_process s pid file = if outlives file then process_of s pid else live_process s pid

-- ENOENT: the process has ended.
abbrev pub of_process : TracedSystem → ℕ → ℕ → ℕ → ℕ → File → Option TracedProcess → Reply
of_process s pid id from len file None = Fail Noent
of_process s pid id from len file (Some p) = file_reply s pid p id from len file

-- what a read of a file gives, with a length of 1 to 20,480 bytes. EINVAL: another length.
unfoldable pub file_read : TracedSystem → ℕ → ℕ → ℕ → ℕ → File → Reply
file_read s pid id from len file =
    if (len == 0)
    || nat_lt read_limit len then Fail Inval else of_process s pid id from len file (read_process s pid file)

-- a handle that can be read
abbrev pub readable : Option Held → Option Held
readable None = None
readable (Some h) = if is_control h.file then None else Some h

abbrev pub held_read : TracedSystem → Option Held → ℕ → ℕ → Reply
held_read s None from len = Fail Badf
held_read s (Some h) from len = file_read s h.pid h.lwp from len h.file

-- A read's refusals come in the order: no such handle or one of a control file, a length of 0 or above 20,480, the
-- process or the lwp has ended.
unfoldable pub read_reply : TracedState → ℕ → ℕ → ℕ → ℕ → Reply
read_reply s by handle from len = held_read s.system (readable (handle_of s.opens by handle)) from len
