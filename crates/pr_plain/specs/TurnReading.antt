-- How turns of lwps are read from the words of a line. A row stands beside each row of what is written of a turn.
use Rattle.std.specs.Prelude.{ℕ, Bool, true, false, Option, Some, None, List, codes, if◌then◌else◌}
use Rattle.std.specs.Str.{bytes_eq}
use Rattle.pr_num.specs.declared.errnos.Errno.{Errno}
use Rattle.pr_num.specs.Errnos.{errno_of_name}
use Rattle.pr_num.specs.Faults.{fault_signal}
use Rattle.pr_num.specs.Signals.{signal_name}
use Rattle.pr_model.specs.declared.events.Did.{Did}
use Rattle.pr_model.specs.declared.events.Did.TheVariants.{Stopped, Ran, Entered, Made, Slept, Woke, Returned, Faulted, Posted, Took, Acted}
use Rattle.pr_model.specs.declared.events.How.{How}
use Rattle.pr_model.specs.declared.events.How.TheVariants.{Caught, Ignored, JobStop, Died}
use Rattle.pr_model.specs.declared.events.Res.{Res}
use Rattle.pr_model.specs.declared.events.Res.TheVariants.{Value, Error, Ended}
use Rattle.pr_model.specs.declared.events.Turned.{Turned}
use Rattle.pr_plain.specs.Readings.{◌>>=◌}
use Rattle.pr_plain.specs.WordReading.{Words, word_at, is_done, behind_word, number_at, syscall_at, fault_at, signal_at}

-- What a system call gave: = and its value, an errno, or no word where the call ended its lwp. What the next word says
-- is told by that word.
abbrev pub errno_or_ended : Option Errno → Words → Words → Res × Words
errno_or_ended (Some e) rest ws = (Error e, rest)
errno_or_ended None rest ws = (Ended, ws)

abbrev pub result_by : Option (List ℕ × Words) → Words → Option (Res × Words)
result_by None ws = Some (Ended, ws)
result_by (Some w) ws =
    if bytes_eq w.0 (codes "=") then (number_at w.1 >>= λ n. Some (Value n.0, n.1))
    else Some (errno_or_ended (errno_of_name w.0) w.1 ws)

unfoldable pub result_at : Words → Option (Res × Words)
result_at ws = result_by (word_at ws) ws

-- how a signal was acted on
unfoldable pub how_of : List ℕ → Option How
how_of w =
    if bytes_eq w (codes "caught") then Some Caught
    else (if bytes_eq w (codes "ignored") then Some Ignored
    else (if bytes_eq w (codes "stopped") then Some JobStop
    else (if bytes_eq w (codes "died") then Some Died
    else None)))

unfoldable pub how_at : Words → Option (How × Words)
how_at ws = do
  w ← word_at ws
  how ← how_of w.0
  Some (how, w.1)

-- ---- a row for each form of turn, behind its first word

unfoldable pub stopped_at : Words → Option (Did × Words)
stopped_at ws = do
  rest ← behind_word (codes "requested") ws
  Some (Stopped, rest)

unfoldable pub entered_at : Words → Option (Did × Words)
entered_at ws = do
  c ← syscall_at ws
  Some (Entered c.0, c.1)

unfoldable pub made_at : Words → Option (Did × Words)
made_at ws = do
  c ← syscall_at ws
  r ← result_at c.1
  Some (Made c.0 r.0, r.1)

unfoldable pub slept_at : Words → Option (Did × Words)
slept_at ws = do
  c ← syscall_at ws
  Some (Slept c.0, c.1)

unfoldable pub woke_at : Words → Option (Did × Words)
woke_at ws = do
  c ← syscall_at ws
  r ← result_at c.1
  Some (Woke c.0 r.0, r.1)

unfoldable pub returned_at : Words → Option (Did × Words)
returned_at ws = do
  c ← syscall_at ws
  Some (Returned c.0, c.1)

unfoldable pub faulted_at : Words → Option (Did × Words)
faulted_at ws = do
  f ← fault_at ws
  Some (Faulted f.0, f.1)

-- behind a fault that was posted stands its own signal
unfoldable pub posted_at : Words → Option (Did × Words)
posted_at ws = do
  f ← fault_at ws
  rest ← behind_word (signal_name (fault_signal f.0)) f.1
  Some (Posted f.0, rest)

unfoldable pub took_at : Words → Option (Did × Words)
took_at ws = do
  s ← signal_at ws
  Some (Took s.0, s.1)

unfoldable pub acted_at : Words → Option (Did × Words)
acted_at ws = do
  s ← signal_at ws
  how ← how_at s.1
  Some (Acted s.0 how.0, how.1)

-- the form that a first word begins
unfoldable pub did_behind : List ℕ → Words → Option (Did × Words)
did_behind w ws =
    if bytes_eq w (codes "stopped") then stopped_at ws
    else (if bytes_eq w (codes "ran") then Some (Ran, ws)
    else (if bytes_eq w (codes "entered") then entered_at ws
    else (if bytes_eq w (codes "made") then made_at ws
    else (if bytes_eq w (codes "slept") then slept_at ws
    else (if bytes_eq w (codes "woke") then woke_at ws
    else (if bytes_eq w (codes "returned") then returned_at ws
    else (if bytes_eq w (codes "faulted") then faulted_at ws
    else (if bytes_eq w (codes "posted") then posted_at ws
    else (if bytes_eq w (codes "took") then took_at ws
    else (if bytes_eq w (codes "acted") then acted_at ws
    else None))))))))))

unfoldable pub did_at : Words → Option (Did × Words)
did_at ws = do
  w ← word_at ws
  did_behind w.0 w.1

-- whether the lwp stopped: `stop` stands behind the turn, and nothing behind that; or nothing does
abbrev pub stop_by : Option (List ℕ × Words) → Option Bool
stop_by None = Some false
stop_by (Some w) = if bytes_eq w.0 (codes "stop") then (if is_done w.1 then Some true else None) else None

unfoldable pub stop_of : Words → Option Bool
stop_of ws = stop_by (word_at ws)

-- a turn, of all the words
unfoldable pub turn_of : Words → Option Turned
turn_of ws = do
  d ← did_at ws
  stop ← stop_of d.1
  Some (record { did = d.0; stop = stop })
