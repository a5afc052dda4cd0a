use Rattle.std.specs.Prelude.{◌-◌, ℕ, Bool, true, false, List, [], ◌∷◌, Option, Some, None, length, nat_lt, slice_get, take}
use Rattle.std.specs.List.{list_any}
use Rattle.pr_num.specs.declared.syscalls.Sysno.{Sysno}
use Rattle.pr_num.specs.declared.syscalls.Sysno.TheVariants.{Fork, Vfork, Write, Open, Exec, Pipe, Brk, Mmap, LwpCreate, Fstat, Wait, Read, Exit, Getpid, Getppid, Sigaction, Sigmask, Pause, Sigreturn, Time, Sleep, LwpExit, LwpSuspend, LwpContinue}
use Rattle.pr_model.specs.CallEffects.{call_effect}
use Rattle.pr_model.specs.Changes as changes
use Rattle.pr_model.specs.Changes.{all_changed, ended, with_disposition_of, with_held, with_suspended, resumed}
use Rattle.pr_model.specs.Machines.{traced}
use Rattle.pr_model.specs.State.{TracedSystem, TracedProcess, TracedLwp, with_lwp}
use Rattle.pr_model.specs.declared.events.Res.TheVariants.{Value}
use Rattle.pr_model.specs.declared.frames.Frame.{Frame}
use Rattle.pr_call.specs.declared.requests.Change.{Change}
use Rattle.pr_call.specs.declared.requests.Change.TheVariants.{Held, Disposition, Resumed, Suspended}
use Rattle.pr_call.specs.declared.requests.Effect.{Effect}
use Rattle.pr_call.specs.declared.requests.Effect.TheVariants.{Does, Sleeps, Ends, EndsLwp}
use Rattle.pr_call.specs.declared.requests.Performed.{Performed}
use Rattle.pr_call.specs.declared.requests.Performed.TheVariants as performed
use Rattle.pr_call.specs.declared.requests.Request.{Request}

-- What the crate's own types say, in the words of the definitions.

-- the effect of the call that an lwp makes
abbrev pub effect_of : TracedSystem → TracedProcess → TracedLwp → Request → changes.Effect
effect_of s p l r = call_effect s r.pid p r.lwp l r.since r.call r.args

-- what comes of an effect
abbrev pub outcome_of : changes.Effect → Performed
outcome_of (changes.does result made) = performed.Done result
outcome_of changes.sleeps = performed.Sleep
outcome_of (changes.ends how) = performed.Ended

-- What an effect makes of the system, of a call of the lwp of an id in the process of an id, which were as is said
-- here.
unfoldable pub after_effect : ℕ → TracedProcess → ℕ → TracedLwp → changes.Effect → TracedSystem → TracedSystem
after_effect pid p id l (changes.does result made) s = all_changed traced pid p id l made s
after_effect pid p id l changes.sleeps s = s
after_effect pid p id l (changes.ends how) s = ended traced pid p id how s

-- ---- effects as code has them

-- back to a frame, if there is one
abbrev pub resuming : Option Frame → List Frame → List changes.Change
resuming None frames = []
resuming (Some frame) frames = changes.resumes frame frames ∷ []

-- the changes that are meant, or none
abbrev pub changes_meant : TracedLwp → Option Change → List changes.Change
changes_meant l None = []
changes_meant l (Some (Held held)) = changes.held_is held ∷ []
changes_meant l (Some (Disposition g disposition)) = changes.disposition_is g disposition ∷ []
changes_meant l (Some (Suspended other on)) = changes.suspends other on ∷ []
changes_meant l (Some Resumed) =
    resuming (slice_get l.frames (length l.frames - 1)) (take (length l.frames - 1) l.frames)

-- the effect that is meant
abbrev pub effect_meant : TracedLwp → Effect → changes.Effect
effect_meant l (Does result made) = changes.does result (changes_meant l made)
effect_meant l Sleeps = changes.sleeps
effect_meant l (Ends status) = changes.ends (changes.ends_process status)
effect_meant l EndsLwp = changes.ends changes.ends_lwp

-- ---- what changes make of the caller's process

-- back to the last frame, if there is one
abbrev pub resumed_to : Option Frame → TracedLwp → TracedLwp
resumed_to None l = l
resumed_to (Some frame) l = resumed frame (take (length l.frames - 1) l.frames) l

unfoldable pub resumed_last : TracedLwp → TracedLwp
resumed_last l = resumed_to (slice_get l.frames (length l.frames - 1)) l

-- the caller itself after a change
unfoldable pub lwp_changed : Change → TracedLwp → TracedLwp
lwp_changed (Held held) = with_held held
lwp_changed Resumed = resumed_last
lwp_changed (Disposition g disposition) = λ l. l
lwp_changed (Suspended other on) = λ l. l

-- its process
unfoldable pub process_changed : ℕ → Change → TracedProcess → TracedProcess
process_changed id (Held held) = with_lwp id (lwp_changed (Held held))
process_changed id Resumed = with_lwp id (lwp_changed Resumed)
process_changed id (Disposition g disposition) = with_disposition_of g disposition
process_changed id (Suspended other on) = with_lwp other (with_suspended on)

-- ---- kinds of calls

-- whether all that a call does is known before anything changes
abbrev pub is_plain : Sysno → Bool
is_plain Exit = true
is_plain Getpid = true
is_plain Getppid = true
is_plain Sigaction = true
is_plain Sigmask = true
is_plain Pause = true
is_plain Sigreturn = true
is_plain Time = true
is_plain Sleep = true
is_plain LwpExit = true
is_plain LwpSuspend = true
is_plain LwpContinue = true
is_plain _ = false

-- whether a call answers a value
abbrev pub is_granted : changes.Effect → Bool
is_granted (changes.does (Value value) made) = true
is_granted _ = false

-- ---- memory

-- whether a change stores bytes in memory: the pages where they stand are copied if another process shares them
abbrev pub is_store : changes.Change → Bool
is_store (changes.space_is space) = true
is_store _ = false

-- whether a call answers a value, and stores bytes in memory
abbrev pub stores_bytes : changes.Effect → Bool
stores_bytes (changes.does (Value value) made) = list_any is_store made
stores_bytes _ = false

-- whether a read gives bytes; one that gives none, as at the end of a file, stores none
abbrev pub gives_bytes : changes.Effect → Bool
gives_bytes (changes.does (Value count) made) = nat_lt 0 count
gives_bytes _ = false

-- Whether a call may take memory, by its effect: one that makes a process, an lwp, an open file, a pipe or a mapping,
-- runs another program or writes, where it is granted; one that only stores bytes in memory, where it stores some.
abbrev pub takes_memory : Sysno → changes.Effect → Bool
takes_memory Fork effect = is_granted effect
takes_memory Vfork effect = is_granted effect
takes_memory Exec effect = is_granted effect
takes_memory LwpCreate effect = is_granted effect
takes_memory Brk effect = is_granted effect
takes_memory Mmap effect = is_granted effect
takes_memory Open effect = is_granted effect
takes_memory Pipe effect = is_granted effect
takes_memory Write effect = is_granted effect
takes_memory Read effect = gives_bytes effect
takes_memory Fstat effect = stores_bytes effect
takes_memory Wait effect = stores_bytes effect
takes_memory _ effect = false
