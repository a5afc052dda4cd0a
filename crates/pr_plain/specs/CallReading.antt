-- How calls and replies are read from the words of a line. A row stands beside each row of what is written of them.
use Rattle.std.specs.Prelude.{ℕ, ◌==◌, ◌&&◌, not, Bool, true, false, Option, Some, None, List, [], ◌∷◌, codes, if◌then◌else◌}
use Rattle.std.specs.List.{slice_split, list_any}
use Rattle.std.specs.Str.{bytes_eq}
use Rattle.pr_model.specs.declared.calls.Call.{Call}
use Rattle.pr_model.specs.declared.calls.Call.TheVariants as call
use Rattle.pr_model.specs.declared.calls.Reply.{Reply}
use Rattle.pr_model.specs.declared.calls.Reply.TheVariants as reply
use Rattle.pr_plain.specs.DecimalWords.{decimal_id_of}
use Rattle.pr_plain.specs.Readings.{◌>>=◌}
use Rattle.pr_plain.specs.WordReading.{Words, word_at, is_done, number_at, id_at, bytes_at, errno_at, file_at, mode_at, program_at}

-- the byte between a process and its lwp
abbrev pub slash : ℕ
slash = 47

abbrev pub is_slash : ℕ → Bool
is_slash b = b == slash

-- an lwp: the id of its process, a slash and its own
unfoldable pub lwp_of : List ℕ → Option (ℕ × ℕ)
lwp_of w = do
  p ← id_at (slice_split is_slash w)
  l ← id_at p.1
  if is_done l.1 then Some (p.0, l.0) else None

-- whose file is opened: a process, or an lwp whose id is not 0
unfoldable pub target_of : List ℕ → Option (ℕ × ℕ)
target_of w = do
  p ← id_at (slice_split is_slash w)
  if is_done p.1 then Some (p.0, 0) else
      (id_at p.1 >>= λ l. if is_done l.1 && not (l.0 == 0) then Some (p.0, l.0) else None)

unfoldable pub target_at : Words → Option ((ℕ × ℕ) × Words)
target_at ws = do
  w ← word_at ws
  target ← target_of w.0
  Some (target, w.1)

-- whether a process is directed to stop: the word behind its program
abbrev pub held_by : Option (List ℕ × Words) → Words → Bool × Words
held_by None ws = (false, ws)
held_by (Some w) ws = if bytes_eq w.0 (codes "held") then (true, w.1) else (false, ws)

unfoldable pub held_at : Words → Bool × Words
held_at ws = held_by (word_at ws) ws

-- the word between a call and its reply
abbrev pub arrow : List ℕ
arrow = codes "->"

-- handles, up to the arrow
unfoldable pub handles_at : Words → Option (List ℕ × Words)
handles_at [] = None
handles_at (w ∷ ws) =
    if bytes_eq w arrow then Some ([], w ∷ ws)
    else (decimal_id_of w >>= λ h. (handles_at ws >>= λ hs. Some (h ∷ hs.0, hs.1)))

-- ---- a row for each form of call, behind its first word

unfoldable pub open_at : Words → Option (Call × Words)
open_at ws = do
  target ← target_at ws
  file ← file_at target.1
  mode ← mode_at file.1
  Some (call.Open target.0.0 target.0.1 file.0 mode.0, mode.1)

unfoldable pub close_at : Words → Option (Call × Words)
close_at ws = do
  h ← id_at ws
  Some (call.Close h.0, h.1)

unfoldable pub ctl_at : Words → Option (Call × Words)
ctl_at ws = do
  h ← id_at ws
  bytes ← bytes_at h.1
  Some (call.Ctl h.0 bytes.0, bytes.1)

unfoldable pub ctl_wait_at : Words → Option (Call × Words)
ctl_wait_at ws = do
  h ← id_at ws
  until ← number_at h.1
  bytes ← bytes_at until.1
  Some (call.CtlWait h.0 until.0 bytes.0, bytes.1)

unfoldable pub read_at : Words → Option (Call × Words)
read_at ws = do
  h ← id_at ws
  at ← number_at h.1
  len ← number_at at.1
  Some (call.Read h.0 at.0 len.0, len.1)

unfoldable pub poll_at : Words → Option (Call × Words)
poll_at ws = do
  hs ← handles_at ws
  Some (call.Poll hs.0, hs.1)

unfoldable pub interrupt_at : Words → Option (Call × Words)
interrupt_at ws = do
  k ← id_at ws
  Some (call.Interrupt k.0, k.1)

unfoldable pub spawn_at : Words → Option (Call × Words)
spawn_at ws = do
  program ← program_at ws
  Some (call.Spawn program.0 (held_at program.1).0, (held_at program.1).1)

unfoldable pub kill_at : Words → Option (Call × Words)
kill_at ws = do
  p ← id_at ws
  s ← number_at p.1
  Some (call.Kill p.0 s.0, s.1)

unfoldable pub until_at : Words → Option (Call × Words)
until_at ws = do
  n ← number_at ws
  Some (call.Until n.0, n.1)

-- the first words of calls
abbrev pub call_names : List (List ℕ)
call_names =
    codes "open" ∷ codes "close" ∷ codes "ctl" ∷ codes "ctlwait" ∷ codes "read" ∷ codes "poll" ∷ codes "interrupt"
    ∷ codes "spawn" ∷ codes "kill" ∷ codes "until" ∷ codes "list" ∷ []

unfoldable pub begins_call : List ℕ → Bool
begins_call w = list_any (bytes_eq w) call_names

-- the form that a first word begins
unfoldable pub call_behind : List ℕ → Words → Option (Call × Words)
call_behind w ws =
    if bytes_eq w (codes "open") then open_at ws
    else (if bytes_eq w (codes "close") then close_at ws
    else (if bytes_eq w (codes "ctl") then ctl_at ws
    else (if bytes_eq w (codes "ctlwait") then ctl_wait_at ws
    else (if bytes_eq w (codes "read") then read_at ws
    else (if bytes_eq w (codes "poll") then poll_at ws
    else (if bytes_eq w (codes "interrupt") then interrupt_at ws
    else (if bytes_eq w (codes "spawn") then spawn_at ws
    else (if bytes_eq w (codes "kill") then kill_at ws
    else (if bytes_eq w (codes "until") then until_at ws
    else (if bytes_eq w (codes "list") then Some (call.List, ws)
    else None))))))))))

unfoldable pub call_at : Words → Option (Call × Words)
call_at ws = do
  w ← word_at ws
  call_behind w.0 w.1

-- ---- a row for each form of reply, behind its first word

unfoldable pub handle_at : Words → Option (Reply × Words)
handle_at ws = do
  h ← id_at ws
  Some (reply.Handle h.0, h.1)

unfoldable pub used_at : Words → Option (Reply × Words)
used_at ws = do
  n ← number_at ws
  Some (reply.Used n.0, n.1)

unfoldable pub half_at : Words → Option (Reply × Words)
half_at ws = do
  n ← number_at ws
  Some (reply.Half n.0, n.1)

unfoldable pub reply_bytes_at : Words → Option (Reply × Words)
reply_bytes_at ws = do
  bytes ← bytes_at ws
  Some (reply.Bytes bytes.0, bytes.1)

unfoldable pub pid_at : Words → Option (Reply × Words)
pid_at ws = do
  p ← id_at ws
  Some (reply.Pid p.0, p.1)

unfoldable pub ready_at : Words → Option (Reply × Words)
ready_at ws = do
  h ← id_at ws
  Some (reply.Ready h.0, h.1)

unfoldable pub fail_at : Words → Option (Reply × Words)
fail_at ws = do
  e ← errno_at ws
  Some (reply.Fail e.0, e.1)

-- the form without bytes that a first word begins
unfoldable pub plain_reply_behind : List ℕ → Words → Option (Reply × Words)
plain_reply_behind w ws =
    if bytes_eq w (codes "handle") then handle_at ws
    else (if bytes_eq w (codes "done") then Some (reply.Done, ws)
    else (if bytes_eq w (codes "used") then used_at ws
    else (if bytes_eq w (codes "half") then half_at ws
    else (if bytes_eq w (codes "pid") then pid_at ws
    else (if bytes_eq w (codes "ready") then ready_at ws
    else (if bytes_eq w (codes "fail") then fail_at ws
    else None))))))

-- the form that a first word begins
unfoldable pub reply_behind : List ℕ → Words → Option (Reply × Words)
reply_behind w ws = if bytes_eq w (codes "bytes") then reply_bytes_at ws else plain_reply_behind w ws

unfoldable pub reply_at : Words → Option (Reply × Words)
reply_at ws = do
  w ← word_at ws
  reply_behind w.0 w.1
