-- A script as a controller of the kernel: the call that it makes next, and what the reply makes of it. It knows the
-- machine by replies alone.
use Rattle.std.specs.Prelude.{ℕ, ◌+◌, Option, Some, None, List, drop, length, map, slice_get, nat_le, if◌then◌else◌}
use Rattle.pr_model.specs.declared.calls.Call.{Call}
use Rattle.pr_model.specs.declared.calls.Call.TheVariants as call
use Rattle.pr_model.specs.declared.calls.Reply.{Reply}
use Rattle.pr_model.specs.declared.calls.Reply.TheVariants as reply
use Rattle.pr_model.specs.Replies.{handle_in}
use Rattle.pr_scen.specs.Bindings.{Bindings, handle_of, bound, unbound}
use Rattle.pr_scen.specs.declared.scripts.Present.{Present}
use Rattle.pr_scen.specs.declared.scripts.Present.TheVariants.{Over, Opens, Writes, Other}
use Rattle.pr_scen.specs.declared.script_lines.ScriptLine.{ScriptLine}
use Rattle.pr_scen.specs.declared.script_lines.ScriptLine.TheVariants as line

-- A script on its way through its lines: those lines, the place of the line whose call comes next, how many bytes of
-- that line's write were taken, the end of the wait that this write has to make now, if one (0: no end), and the
-- handles that its names stand for.
pub record ScriptState : Type 0 where
  pub lines : List ScriptLine
  pub place : ℕ
  pub taken : ℕ
  pub wait : Option ℕ
  pub bindings : Bindings

-- a script before its first call
unfoldable pub first_script : List ScriptLine → ScriptState
first_script lines = record { lines = lines; place = 0; taken = 0; wait = None; bindings = unbound lines }

-- A write carries all bytes that are left. Where the first half of a message that waits was done, the same bytes go
-- into the wait.
abbrev pub write_call : Option ℕ → ℕ → List ℕ → Call
write_call None handle left = call.Ctl handle left
write_call (Some until) handle left = call.CtlWait handle until left

-- the call of a line, a row a line
unfoldable pub call_of : ScriptState → ScriptLine → Call
call_of s (line.Open name pid lwp file mode) = call.Open pid lwp file mode
call_of s (line.Close name) = call.Close (handle_of s.bindings name)
call_of s (line.Read name at len) = call.Read (handle_of s.bindings name) at len
call_of s (line.Poll names) = call.Poll (map (handle_of s.bindings) names)
call_of s (line.Write name bytes) = write_call s.wait (handle_of s.bindings name) (drop s.taken bytes)
call_of s (line.Interrupt controller) = call.Interrupt controller
call_of s (line.Spawn program held) = call.Spawn program held
call_of s (line.Kill pid sig) = call.Kill pid sig
call_of s (line.Until moment) = call.Until moment
call_of s line.List = call.List

abbrev pub call_at : ScriptState → Option ScriptLine → Option Call
call_at s None = None
call_at s (Some l) = Some (call_of s l)

-- the call that a script makes next; none where it has finished
unfoldable pub next_call_of : ScriptState → Option Call
next_call_of s = call_at s (slice_get s.lines s.place)

-- a line is over: the next line's call comes next
unfoldable pub with_line_over : ScriptState → ScriptState
with_line_over s = record s { place = s.place + 1; taken = 0; wait = None }

-- a name stands for a handle from now on
abbrev pub with_bound : ScriptState → List ℕ → ℕ → ScriptState
with_bound s name handle = record s { bindings = bound s.bindings name handle }

-- So many bytes more of a write of `total` bytes were taken. The write is over where nothing is left.
unfoldable pub with_taken : ScriptState → ℕ → ℕ → ScriptState
with_taken s total n =
    if nat_le total (s.taken + n) then with_line_over s else record s { taken = s.taken + n; wait = None }

-- the length of the one message that is answered with bytes, PCREAD
abbrev pub read_length : ℕ
read_length = 24

-- What a reply to a Ctl makes of a write, a row a reply: the message was taken; it was a PCREAD and its bytes came; or
-- its first half was done, and it waits. Any other reply refuses, and what is left of the write is dropped.
unfoldable pub with_ctl_answered : ScriptState → ℕ → Reply → ScriptState
with_ctl_answered s total (reply.Used n) = with_taken s total n
with_ctl_answered s total (reply.Bytes bytes) = with_taken s total read_length
with_ctl_answered s total (reply.Half until) = record s { wait = Some until }
with_ctl_answered s total (reply.Handle handle) = with_line_over s
with_ctl_answered s total reply.Done = with_line_over s
with_ctl_answered s total (reply.Pid pid) = with_line_over s
with_ctl_answered s total (reply.Ready handle) = with_line_over s
with_ctl_answered s total (reply.Fail errno) = with_line_over s

-- The same of the reply to a CtlWait: the message was taken, or what is left is dropped.
unfoldable pub with_wait_answered : ScriptState → ℕ → Reply → ScriptState
with_wait_answered s total (reply.Used n) = with_taken s total n
with_wait_answered s total (reply.Bytes bytes) = with_line_over s
with_wait_answered s total (reply.Half until) = with_line_over s
with_wait_answered s total (reply.Handle handle) = with_line_over s
with_wait_answered s total reply.Done = with_line_over s
with_wait_answered s total (reply.Pid pid) = with_line_over s
with_wait_answered s total (reply.Ready handle) = with_line_over s
with_wait_answered s total (reply.Fail errno) = with_line_over s

abbrev pub with_write_answered : Option ℕ → ScriptState → ℕ → Reply → ScriptState
with_write_answered None s total r = with_ctl_answered s total r
with_write_answered (Some until) s total r = with_wait_answered s total r

-- what the present line is, as far as its reply goes: none; it opens a file, which a name then stands for; it writes so
-- many bytes; or it is over with its reply
unfoldable pub present_of : Option ScriptLine → Present
present_of None = Over
present_of (Some (line.Open name pid lwp file mode)) = Opens name
present_of (Some (line.Close name)) = Other
present_of (Some (line.Read name at len)) = Other
present_of (Some (line.Poll names)) = Other
present_of (Some (line.Write name bytes)) = Writes (length bytes)
present_of (Some (line.Interrupt controller)) = Other
present_of (Some (line.Spawn program held)) = Other
present_of (Some (line.Kill pid sig)) = Other
present_of (Some (line.Until moment)) = Other
present_of (Some line.List) = Other

-- what a reply makes of a script, a row a line; every line but a write is over with its reply
unfoldable pub with_answer : ScriptState → Reply → Present → ScriptState
with_answer s r Over = s
with_answer s r (Opens name) = with_line_over (with_bound s name (handle_in r))
with_answer s r (Writes total) = with_write_answered s.wait s total r
with_answer s r Other = with_line_over s

-- a script that was fed the reply to its call; one that has finished stays as it is
unfoldable pub fed : ScriptState → Reply → ScriptState
fed s r = with_answer s r (present_of (slice_get s.lines s.place))
