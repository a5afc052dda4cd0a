use Rattle.std.specs.Prelude.{◌==◌, ◌&&◌, ◌||◌, ◌++◌, ℕ, Bool, true, false, not, List, [], ◌∷◌, Option, Some, None, Result, Ok, Err, find, is_some, option_and_then, if◌then◌else◌}
use Rattle.std.specs.List.{list_any}
use Rattle.std.specs.Str.{bytes_eq}
use Rattle.pr_num.specs.Layout.{stack_base, text_base}
use Rattle.pr_num.specs.Messages.{first_message}
use Rattle.pr_num.specs.Spaces.{Space, bytes_for}
use Rattle.pr_num.specs.declared.faults.Flt.{Flt}
use Rattle.pr_num.specs.declared.faults.Flt.TheVariants.{Bpt, Trace}
use Rattle.pr_num.specs.declared.mappings.BadByte.{BadByte}
use Rattle.pr_num.specs.declared.messages.Message.{Message}
use Rattle.pr_num.specs.declared.messages.Message.TheVariants.{Agent, Write}
use Rattle.pr_num.specs.declared.messages.MsgFault.{MsgFault}
use Rattle.pr_num.specs.declared.syscalls.Sysno.{Sysno}
use Rattle.pr_num.specs.declared.syscalls.Sysno.TheVariants.{Exec, LwpExit, Vfork}
use Rattle.pr_model.specs.ControlMessages.{tail_of, target_of}
use Rattle.pr_model.specs.Handles.{handle_of}
use Rattle.pr_model.specs.Legal.{after}
use Rattle.pr_model.specs.Registers.{pc_of}
use Rattle.pr_model.specs.State.{Places, TracedLwp, TracedProcess, TracedState, TracedSystem, live_process, lwp_of}
use Rattle.pr_model.specs.declared.calls.Call as calls
use Rattle.pr_model.specs.declared.calls.Call.TheVariants as call
use Rattle.pr_model.specs.declared.calls.File.{File}
use Rattle.pr_model.specs.declared.calls.File.TheVariants.{Ctl}
use Rattle.pr_model.specs.declared.calls.Reply.{Reply}
use Rattle.pr_model.specs.declared.calls.Reply.TheVariants as reply
use Rattle.pr_model.specs.declared.events.Act.{Act}
use Rattle.pr_model.specs.declared.events.Act.TheVariants as act
use Rattle.pr_model.specs.declared.events.Actor.{Actor}
use Rattle.pr_model.specs.declared.events.Actor.TheVariants.{Controller, Lwp}
use Rattle.pr_model.specs.declared.events.Did.{Did}
use Rattle.pr_model.specs.declared.events.Did.TheVariants.{Faulted, Made}
use Rattle.pr_model.specs.declared.events.Entry.{Entry}
use Rattle.pr_model.specs.declared.events.Res.{Res}
use Rattle.pr_model.specs.declared.events.Res.TheVariants.{Ended, Value}
use Rattle.pr_model.specs.declared.handles.Held.{Held}
use Rattle.pr_hidden.specs.Covers.{Cover, Covers, Patch, keeps_lwp, no_cover, with_cover}
use Rattle.pr_hidden.specs.Hiding.{with_fault, with_own_agent, with_patches}

-- Who hides what it does, and what is hidden after each entry of a history.

-- The controllers that hide what they do. One sets breakpoints at functions of a program: where each begins, with the
-- code that stands there. Another is a probe: an agent of its own makes system calls in a process for it.
pub record Hiders : Type 0 where
  pub functions : ℕ → List Patch
  pub probes : ℕ → Bool

-- no controller does
abbrev pub nobody : Hiders
nobody = record { functions = λ k. []; probes = λ k. false }

-- nothing is hidden of any process
abbrev pub no_covers : Covers
no_covers pid = no_cover

abbrev pub are_some : List Patch → Bool
are_some [] = false
are_some (f ∷ fs) = true

-- whether a controller is one of them
abbrev pub hides : Hiders → ℕ → Bool
hides who k = are_some (who.functions k) || who.probes k

-- whether a file is that of a process's control messages
abbrev pub is_ctl : File → Bool
is_ctl Ctl = true
is_ctl _ = false

-- whether a controller with functions has a process's "ctl" open
abbrev pub is_hold : Hiders → ℕ → Option Held → Bool
is_hold who pid None = false
is_hold who pid (Some h) = (h.pid == pid) && (is_ctl h.file && are_some (who.functions h.controller))

unfoldable pub has_hold : Hiders → Places → ℕ → Bool
has_hold who opens pid = list_any (is_hold who pid) opens

-- ---- what is written

-- the patch that begins at an address, and the patches without it
abbrev pub begins_at : ℕ → Patch → Bool
begins_at at p = p.at == at

abbrev pub patch_at : ℕ → List Patch → Option Patch
patch_at at [] = None
patch_at at (p ∷ ps) = if begins_at at p then Some p else patch_at at ps

abbrev pub without_patch : ℕ → List Patch → List Patch
without_patch at [] = []
without_patch at (p ∷ ps) = if begins_at at p then ps else p ∷ without_patch at ps

-- with one more, unless one begins there
abbrev pub with_patch : Patch → List Patch → List Patch
with_patch f ps = if is_some (patch_at f.at ps) then ps else f ∷ ps

-- PCWRITE where a function begins, of these bytes: its code lifts the breakpoint, and other bytes plant it.
abbrev pub function_written : Option Patch → List ℕ → List Patch → List Patch
function_written None bytes ps = ps
function_written (Some f) bytes ps = if bytes_eq bytes f.bytes then without_patch f.at ps else with_patch f ps

-- where a probe writes: its agent's instructions over the text, and what the agent is told on the stack; and how many
-- bytes
abbrev pub instructions_size : ℕ
instructions_size = 32

abbrev pub answer_size : ℕ
answer_size = 24

-- what stands in a range, if all of it is mapped, as a patch
abbrev pub as_patch : ℕ → Result (List ℕ) BadByte → List Patch
as_patch at (Err bad) = []
as_patch at (Ok bytes) = record { at = at; bytes = bytes } ∷ []

abbrev pub saved_in : Space → List Patch
saved_in space =
    as_patch text_base (bytes_for 0 space text_base instructions_size)
    ++ as_patch stack_base (bytes_for 0 space stack_base answer_size)

-- PCWRITE of a probe: what stands at both places is saved before its first one, and is a patch until it is written
-- back.
abbrev pub probe_written : Option Patch → Space → ℕ → List ℕ → List Patch → List Patch
probe_written None space at bytes ps = saved_in space
probe_written (Some p) space at bytes ps = if bytes_eq bytes p.bytes then without_patch at ps else ps

abbrev pub patches_written : Hiders → ℕ → Space → ℕ → List ℕ → List Patch → List Patch
patches_written who k space at bytes ps =
    if who.probes k then probe_written (patch_at at ps) space at bytes ps
    else function_written (patch_at at (who.functions k)) bytes ps

-- ---- what is hidden after the calls of controllers

-- What a message that was taken leaves hidden of its process. PCAGENT of a probe makes an agent of its own.
unfoldable pub cover_sent : Hiders → ℕ → TracedProcess → Message → List ℕ → Cover → Cover
cover_sent who k p (Write at size) tail c = with_patches (patches_written who k p.space at tail c.patches) c
cover_sent who k p (Agent regs) tail c = if who.probes k then with_own_agent true c else c
cover_sent who k p _ tail c = c

abbrev pub covers_sent : Hiders → ℕ → ℕ → TracedProcess → List ℕ → Result (Message × ℕ) MsgFault → Covers → Covers
covers_sent who k pid p bytes (Err fault) covers = covers
covers_sent who k pid p bytes (Ok (m, len)) covers =
    with_cover pid (cover_sent who k p m (tail_of m bytes) (covers pid)) covers

abbrev pub covers_targeted : Hiders → ℕ → Held → Option TracedProcess → List ℕ → Covers → Covers
covers_targeted who k h None bytes covers = covers
covers_targeted who k h (Some p) bytes covers = covers_sent who k h.pid p bytes (first_message bytes) covers

abbrev pub covers_controlled : Hiders → ℕ → TracedSystem → Option Held → List ℕ → Covers → Covers
covers_controlled who k s None bytes covers = covers
covers_controlled who k s (Some h) bytes covers = covers_targeted who k h (target_of s h) bytes covers

-- A hider that closes "ctl" has finished: no patch of its process and no fault is hidden from then on. A probe's agent
-- that stands there still is hidden until it ends, by its own lwp_exit or by another lwp's exec.
abbrev pub finished : Cover → Cover
finished c = with_own_agent c.agent no_cover

abbrev pub covers_closed : Hiders → ℕ → Option Held → Covers → Covers
covers_closed who k None covers = covers
covers_closed who k (Some h) covers =
    if hides who k && is_ctl h.file then with_cover h.pid (finished (covers h.pid)) covers else covers

unfoldable pub covers_called : Hiders → Covers → TracedState → ℕ → calls.Call → Reply → Covers
covers_called who covers s k (call.Ctl handle bytes) (reply.Used used) =
    covers_controlled who k s.system (handle_of s.opens k handle) bytes covers
covers_called who covers s k (call.Close handle) reply.Done = covers_closed who k (handle_of s.opens k handle) covers
covers_called who covers s k c r = covers

-- ---- what is hidden after turns

-- the lwp of an id in the live process of an id
abbrev pub lwp_in : Option TracedProcess → ℕ → Option TracedLwp
lwp_in None id = None
lwp_in (Some p) id = lwp_of p id

abbrev pub lwp_at : TracedSystem → ℕ → ℕ → Option TracedLwp
lwp_at s pid id = lwp_in (live_process s pid) id

abbrev pub is_directed : Option TracedLwp → Bool
is_directed None = false
is_directed (Some l) = l.control.directed

-- whether the pc of an lwp is where a patch begins
abbrev pub is_at_patch : List Patch → Option TracedLwp → Bool
is_at_patch ps None = false
is_at_patch ps (Some l) = is_some (patch_at (pc_of l.regs) ps)

-- Whether a turn is a fault that a controller with functions brought about, whose "ctl" is open: FLTBPT at one of its
-- breakpoints, and FLTTRACE, which comes of its step marks.
abbrev pub is_own_fault : Bool → Bool → Did → Bool
is_own_fault held at_patch (Faulted Bpt) = held && at_patch
is_own_fault held at_patch (Faulted Trace) = held
is_own_fault held at_patch did = false

unfoldable pub is_own : Hiders → Covers → TracedState → ℕ → ℕ → Did → Bool
is_own who covers s pid id did =
    is_own_fault (has_hold who s.opens pid) (is_at_patch (covers pid).patches (lwp_at s.system pid id)) did

-- whether a turn ends its lwp by lwp_exit(2)
abbrev pub exits : Did → Bool
exits (Made LwpExit Ended) = true
exits did = false

-- whether a turn is a vfork(2) or an exec(2) that was granted
abbrev pub is_value : Res → Bool
is_value (Value value) = true
is_value result = false

abbrev pub replaces : Sysno → Bool
replaces Vfork = true
replaces Exec = true
replaces call = false

abbrev pub replaces_memory : Did → Bool
replaces_memory (Made call result) = replaces call && is_value result
replaces_memory did = false

-- After that a child has the memory too, or the memory is another: no breakpoint counts as planted in the process any
-- more, and FLTBPT where one stood is a fault like others. Who plants traces the exits of these calls, so that the
-- process goes no further before that exit was read. No agent is hidden after it either: an exec ends the other lwps of
-- its process, and a vfork is granted only where there is no other. An agent that comes later has the same id.
abbrev pub without_replaced : Did → Cover → Cover
without_replaced did c = if replaces_memory did then with_own_agent false (with_patches [] c) else c

-- What the turn of an lwp leaves hidden of its process. A probe's agent that ends is there no more; each other turn of
-- it leaves all as it was. Another lwp that stops as it was directed stays where it was, and any other turn of it says
-- whether it stands at a fault of a controller's, and leaves no patch and no agent if it was a vfork or an exec that
-- was granted. An agent ends with its process too, and needs no row for that: no other process has its id.
abbrev pub cover_turned : Hiders → Covers → TracedState → ℕ → ℕ → Did → Cover → Cover
cover_turned who covers s pid id did c =
    if not (keeps_lwp c id) then (if exits did then with_own_agent false c else c)
    else without_replaced did
    (if is_directed (lwp_at s.system pid id) then c else with_fault id (is_own who covers s pid id did) c)

unfoldable pub covers_turned : Hiders → Covers → TracedState → ℕ → ℕ → Did → Covers
covers_turned who covers s pid id did = with_cover pid (cover_turned who covers s pid id did (covers pid)) covers

-- ---- what is hidden after entries

-- What is hidden after an entry, where so much was hidden in the state that the entry finds.
unfoldable pub covers_after : Hiders → Covers → TracedState → Entry → Covers
covers_after who covers s e = by e.actor e.act
  where
    by : Actor → Act → Covers
    by (Controller k) (act.Call c r) = covers_called who covers s k c r
    by (Lwp pid id) (act.Turn t) = covers_turned who covers s pid id t.did
    by _ _ = covers

abbrev pub covers_from : Hiders → Covers → TracedState → List Entry → Covers
covers_from who covers s [] = covers
covers_from who covers s (e ∷ es) = covers_from who (covers_after who covers s e) (after s e) es

-- and after a history from a state in which nothing is hidden
abbrev pub covers_at : Hiders → TracedState → List Entry → Covers
covers_at who s h = covers_from who no_covers s h
