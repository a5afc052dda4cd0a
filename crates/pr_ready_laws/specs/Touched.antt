use Rattle.std.specs.Prelude.{◌==◌, ◌||◌, ◌&&◌, ℕ, Bool, true, false, List, Option, Some, None, slice_index}
use Rattle.pr_num.specs.declared.syscalls.Sysno.{Sysno}
use Rattle.pr_num.specs.declared.syscalls.Sysno.TheVariants.{Kill as KillCall, Sigqueue}
use Rattle.pr_model.specs.Handles.{handle_of}
use Rattle.pr_model.specs.Lives.{is_id}
use Rattle.pr_model.specs.Registers.{arguments}
use Rattle.pr_model.specs.State.{TracedLwp, TracedProcess, TracedState, TracedSystem, process_of}
use Rattle.pr_model.specs.declared.calls.Call.{Call}
use Rattle.pr_model.specs.declared.calls.Call.TheVariants.{Close, Ctl, Kill, Spawn}
use Rattle.pr_model.specs.declared.handles.Held.{Held}
use Rattle.pr_model.specs.declared.lwps.Phase.{Phase}
use Rattle.pr_model.specs.declared.lwps.Phase.TheVariants.{Entered, Asleep}
use Rattle.pr_ready_laws.specs.Reach.{Reach, reaches_around}

-- Which processes a step touches: no other one has an lwp that can move after the step but could not before, unless
-- that lwp waits for files or for the clock. All is told by the state that the step finds, and by what a turn did.

-- ---- those around a process

-- whether an id is that of the parent of a process, of its lender or of its borrower (vfork(2))
abbrev pub is_kin : TracedProcess → ℕ → Bool
is_kin p other = (p.parent == other) || (is_id other p.lender || is_id other p.borrower)

-- the same of a process, if there is one
abbrev pub is_kin_of : Option TracedProcess → ℕ → Bool
is_kin_of None other = false
is_kin_of (Some p) other = is_kin p other

-- whether an id is that of a process, or of one around it
unfoldable pub is_with_kin : TracedSystem → ℕ → ℕ → Bool
is_with_kin s pid other = (pid == other) || is_kin_of (process_of s pid) other

-- the same where a process is named
abbrev pub is_with_kin_of : TracedSystem → Option ℕ → ℕ → Bool
is_with_kin_of s None other = false
is_with_kin_of s (Some pid) other = is_with_kin s pid other

-- ---- turns

-- the process that a call with these arguments sends a signal to (kill(2), sigqueue(3C))
abbrev pub target_of_call : Sysno → List ℕ → Option ℕ
target_of_call KillCall args = Some (slice_index args 0)
target_of_call Sigqueue args = Some (slice_index args 0)
target_of_call _ args = None

-- the same of an lwp that is at a call, or asleep in one, by its phase and its registers
abbrev pub target_in : Phase → List ℕ → Option ℕ
target_in (Entered call) regs = target_of_call call (arguments regs)
target_in (Asleep call args since) regs = target_of_call call args
target_in _ regs = None

-- Whether an id is that of the next process that is made, of one around the process, or of the target of a signal or of
-- one around that.
abbrev pub is_near : TracedSystem → TracedProcess → TracedLwp → ℕ → Bool
is_near s p l other =
    (s.made == other) || (is_kin p other || is_with_kin_of s (target_in l.phase l.regs) other)

-- whether a turn of this reach, by an lwp of the process of an id, touches the process of another id
unfoldable pub turn_touches : TracedSystem → ℕ → TracedProcess → TracedLwp → Reach → ℕ → Bool
turn_touches s pid p l reach other = (pid == other) || (reaches_around reach && is_near s p l other)

-- ---- calls of controllers

-- the process whose handle is used
abbrev pub process_held : Option Held → Option ℕ
process_held None = None
process_held (Some held) = Some held.pid

-- whom a call may end, and so those around it: the process of a handle that is closed, or that takes a message, and the
-- target of a signal
abbrev pub target_of : TracedState → ℕ → Call → Option ℕ
target_of s by (Close handle) = process_held (handle_of s.opens by handle)
target_of s by (Ctl handle bytes) = process_held (handle_of s.opens by handle)
target_of s by (Kill pid number) = Some pid
target_of s by _ = None

-- whether an id is that of a process that a call makes
abbrev pub is_made_by : TracedSystem → Call → ℕ → Bool
is_made_by s (Spawn name held) other = s.made == other
is_made_by s _ other = false

-- whether a call of a controller touches the process of an id
unfoldable pub call_touches : TracedState → ℕ → Call → ℕ → Bool
call_touches s by call other =
    is_made_by s.system call other || is_with_kin_of s.system (target_of s by call) other

-- whether files may differ after a call: a process may have ended
abbrev pub call_changes_files : Call → Bool
call_changes_files (Close handle) = true
call_changes_files (Ctl handle bytes) = true
call_changes_files (Kill pid number) = true
call_changes_files _ = false
