use Rattle.std.specs.Prelude.{◌==◌, ◌||◌, ◌&&◌, ℕ, Bool, true, false, not, [], Option, Some, None, is_some, is_none, slice_get, slice_set, if◌then◌else◌}
use Rattle.std.specs.List.{list_any}
use Rattle.pr_num.specs.ById.{map_each}
use Rattle.pr_num.specs.Control.{has_flags, rlc_mode, klc_mode}
use Rattle.pr_num.specs.Signals.{signal_number}
use Rattle.pr_num.specs.declared.errnos.Errno.{Errno}
use Rattle.pr_num.specs.declared.errnos.Errno.TheVariants.{Inval, Noent, Busy}
use Rattle.pr_num.specs.declared.signals.Sig.TheVariants.{Kill}
use Rattle.pr_model.specs.Lives.{with_this_ended}
use Rattle.pr_model.specs.Machines.{traced}
use Rattle.pr_model.specs.State.{TracedState, TracedSystem, Places, TracedControl, TracedProcess, TracedLwp, lwp_of, process_of, live_process, with_process}
use Rattle.pr_model.specs.declared.calls.File.{File}
use Rattle.pr_model.specs.declared.calls.File.TheVariants.{Ctl, Psinfo, Usage, Lwpctl, Lwpstatus}
use Rattle.pr_model.specs.declared.calls.Mode.{Mode}
use Rattle.pr_model.specs.declared.calls.Mode.TheVariants.{Read, Write, WriteExcl}
use Rattle.pr_model.specs.declared.handles.Held.{Held}

-- Opening and closing the files of a process (proc(4), "PROGRAMMING NOTES").

-- whether a file takes control messages
abbrev pub is_control : File → Bool
is_control Ctl = true
is_control Lwpctl = true
is_control _ = false

-- whether a file belongs to one lwp
abbrev pub is_of_lwp : File → Bool
is_of_lwp Lwpctl = true
is_of_lwp Lwpstatus = true
is_of_lwp _ = false

-- whether a file outlives its process, until that is reaped
abbrev pub outlives : File → Bool
outlives Psinfo = true
outlives Usage = true
outlives _ = false

-- whether a mode is for writing
abbrev pub is_writable : Mode → Bool
is_writable Read = false
is_writable Write = true
is_writable WriteExcl = true

-- whether a mode is exclusive
abbrev pub is_exclusive : Mode → Bool
is_exclusive WriteExcl = true
is_exclusive _ = false

-- Control files are opened for writing and all others for reading; an lwp is named for a file of one lwp and for no
-- other.
abbrev pub fits_file : File → Mode → ℕ → Bool
fits_file file mode id =
    ((is_control file && is_writable mode) || (not (is_control file) && not (is_writable mode)))
    && ((is_of_lwp file && not (id == 0)) || (not (is_of_lwp file) && (id == 0)))

-- whether a place holds a handle of this process for writing; for writing exclusively
abbrev pub is_writer : ℕ → Option Held → Bool
is_writer pid None = false
is_writer pid (Some h) = (h.pid == pid) && is_writable h.mode

abbrev pub is_exclusive_writer : ℕ → Option Held → Bool
is_exclusive_writer pid None = false
is_exclusive_writer pid (Some h) = (h.pid == pid) && is_exclusive h.mode

-- whether a controller has the process open for writing; for writing exclusively
abbrev pub has_writer : ℕ → Places → Bool
has_writer pid opens = list_any (is_writer pid) opens

abbrev pub has_exclusive_writer : ℕ → Places → Bool
has_exclusive_writer pid opens = list_any (is_exclusive_writer pid) opens

-- An exclusive open wants no writer beside it, and a writer no exclusive one.
abbrev pub conflicts : ℕ → Mode → Places → Bool
conflicts pid mode opens =
    (is_exclusive mode && has_writer pid opens) || (is_writable mode && has_exclusive_writer pid opens)

-- whether a process, if there is one, has the file that is asked for
abbrev pub has_file : Option TracedProcess → File → ℕ → Bool
has_file None file id = false
has_file (Some p) file id =
    (is_none p.ended || outlives file) && (not (is_of_lwp file) || is_some (lwp_of p id))

-- what refuses an open while there are free places, in the order in which it is tried
unfoldable pub open_refusal : TracedState → ℕ → ℕ → File → Mode → Option Errno
open_refusal s pid id file mode =
    if not (fits_file file mode id) then Some Inval
    else (if not (has_file (process_of s.system pid) file id) then Some Noent
    else (if conflicts pid mode s.opens then Some Busy
    else None))

-- an open that is not refused takes the least free place
unfoldable pub with_opened : Held → ℕ → TracedState → TracedState
with_opened h place s = record s { opens = slice_set s.opens place (Some h) }

-- the handle of a number, if this controller has it open
abbrev pub own : ℕ → Option (Option Held) → Option Held
own by (Some (Some h)) = if h.controller == by then Some h else None
own by (Some None) = None
own by None = None

unfoldable pub handle_of : Places → ℕ → ℕ → Option Held
handle_of opens by number = own by (slice_get opens number)

-- ---- the last close for writing

-- an lwp with nothing that a controller asked of it: it runs again if it stood on an event of interest
unfoldable pub released_lwp : TracedLwp → TracedLwp
released_lwp l = record l { control = record l.control { stop = None; directed = false; step = false } }

-- nothing traced and nothing watched; the modes stay
unfoldable pub released_control : TracedControl → TracedControl
released_control c =
    record c { traced_signals = 0; traced_faults = 0; traced_entries = 0; traced_exits = 0; areas = [] }

-- a process of which nothing is traced, watched, directed or stopped on an event of interest any more
unfoldable pub released : TracedProcess → TracedProcess
released p = record p { lwps = map_each released_lwp p.lwps; control = released_control p.control }

-- what the last close for writing does to a live process (proc(4), "PR_KLC", "PR_RLC"): under PR_KLC it ends as by
-- SIGKILL; else under PR_RLC it is released
unfoldable pub with_last_close : ℕ → TracedProcess → TracedSystem → TracedSystem
with_last_close pid p s =
    if has_flags p.control.modes klc_mode then with_this_ended traced pid p (signal_number Kill) s
    else (if has_flags p.control.modes rlc_mode then with_process pid released s else s)

abbrev pub after_last_close : ℕ → Option TracedProcess → TracedSystem → TracedSystem
after_last_close pid None s = s
after_last_close pid (Some p) s = with_last_close pid p s

-- whether a handle that is closed was the last one for writing on its process
abbrev pub was_last_writer : Held → Places → Bool
was_last_writer h others = is_writable h.mode && not (has_writer h.pid others)

-- A handle closed, and what follows where no other handle for writing is left on its process.
unfoldable pub with_closed : Held → ℕ → TracedState → TracedState
with_closed h number s = record s {
  system =
      if was_last_writer h (slice_set s.opens number None) then after_last_close h.pid
      (live_process s.system h.pid) s.system
      else s.system;
  opens = slice_set s.opens number None;
}
