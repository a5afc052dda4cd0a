-- What truss(1) reads in the records of processes (proc(4), "status", "lstatus").
use Rattle.std.specs.Prelude.{◌≡◌, ◌==◌, ◌&&◌, ◌^◌, ◌+◌, ℕ, zero, suc, Bool, true, false, Option, Some, None, List, [], ◌∷◌, length, take, drop, filter, is_none, is_some, nat_lt, not, option_map, option_and_then, slice_get, slice_index, unwrap_or, if◌then◌else◌}
use Rattle.std.specs.Result.{result_ok}
use Rattle.pr_line.specs.Events.{event_of}
use Rattle.pr_num.specs.Errnos.{errno_of_number}
use Rattle.pr_num.specs.Faults.{fault_of_number}
use Rattle.pr_num.specs.Records.{lwpstatus_ranges, status_ranges, lwpstatus_size}
use Rattle.pr_num.specs.Signals.{signal_of_number}
use Rattle.pr_num.specs.StopReasons.{stop_reasons}
use Rattle.pr_num.specs.Syscalls.{is_fork_call, syscall_of_number}
use Rattle.pr_num.specs.Tables.{entry_at}
use Rattle.pr_codec.specs.Words.{word_at}
use Rattle.pr_num.specs.declared.stop_reasons.StopReason.{StopReason}
use Rattle.pr_num.specs.declared.stop_reasons.StopReason.TheVariants.{SysExit}
use Rattle.pr_num.specs.declared.syscalls.Sysno.{Sysno}
use Rattle.pr_rec.specs.Fields.{disposition_of}
use Rattle.pr_rec.specs.Reading.{record_read}
use Rattle.pr_rec.specs.declared.lwps.LwpStatus.{LwpStatus}
use Rattle.pr_truss.specs.declared.records.Stops.{Stops}

-- ---- records as bytes

-- the lwp of the 33 words of its status
unfoldable pub lwp_of : List ℕ → LwpStatus
lwp_of words = record {
  flags = slice_index words 0;
  id = slice_index words 1;
  why = entry_at stop_reasons (slice_index words 2);
  what = slice_index words 3;
  signal = signal_of_number (slice_index words 4);
  fault = fault_of_number (slice_index words 5);
  fault_address = slice_index words 6;
  call = syscall_of_number (slice_index words 7);
  arguments = take 6 (drop 8 words);
  result = slice_index words 14;
  errno = errno_of_number (slice_index words 15);
  held = slice_index words 16;
  pending = slice_index words 17;
  regs = take 11 (drop 18 words);
  disposition = disposition_of (slice_index words 29);
  info = record { code = slice_index words 30; pid = slice_index words 31; value = slice_index words 32 };
}

-- the lwp with whose status bytes begin
unfoldable pub lwp_in : List ℕ → Option LwpStatus
lwp_in bytes = option_map lwp_of (result_ok (record_read lwpstatus_ranges bytes))

-- the representative lwp with which the status of a process ends, after 13 words of the process itself
unfoldable pub status_lwp : List ℕ → Option LwpStatus
status_lwp bytes = option_map (λ words. lwp_of (drop 13 words)) (result_ok (record_read status_ranges bytes))

-- so many statuses of lwps, one after another, and nothing else
unfoldable pub lwps_in : ℕ → List ℕ → Option (List LwpStatus)
lwps_in zero bytes = if length bytes == 0 then Some [] else None
lwps_in (suc n) bytes =
    option_and_then (λ lwp. option_map (λ more. lwp ∷ more) (lwps_in n (drop lwpstatus_size bytes))) (lwp_in bytes)

-- the lwps of a process: their number, and the status of each
unfoldable pub lstatus_lwps : List ℕ → Option (List LwpStatus)
lstatus_lwps bytes = if nat_lt (length bytes) 8 then None else lwps_in (word_at bytes 0) (drop 8 bytes)

-- ---- events

-- whether an lwp stands on an event: at a system call, a signal or a fault
unfoldable pub is_on_event : LwpStatus → Bool
is_on_event l = is_some (event_of l)

-- the lwps of a process that stand on events; none where the record is not one of lwps
unfoldable pub event_stops : Option (List ℕ) → List LwpStatus
event_stops bytes = filter is_on_event (unwrap_or (option_and_then lstatus_lwps bytes) [])

-- with one lwp more
abbrev pub noted : Stops → LwpStatus → Stops
noted s l = if is_on_event l then record { count = s.count + 1; first = Some (unwrap_or s.first l) } else s

-- how many of the lwps of a record stand on events, and which one does first
abbrev pub Sees : Option Stops → Option (List LwpStatus) → Type 0
Sees None None = Unit {0}
Sees None (Some lwps) = ⊥
Sees (Some stops) None = ⊥
Sees (Some stops) (Some lwps) =
    (stops.count ≡ length (filter is_on_event lwps)) × (stops.first ≡ slice_get (filter is_on_event lwps) 0)

-- ---- the exit of a call that makes a child

abbrev pub is_exit : Option StopReason → Bool
is_exit (Some SysExit) = true
is_exit _ = false

abbrev pub is_fork : Option Sysno → Bool
is_fork (Some call) = is_fork_call call
is_fork None = false

-- whether an lwp stands at the exit of such a call that has a value
unfoldable pub has_ended_fork : LwpStatus → Bool
has_ended_fork l = is_exit l.why && is_fork l.call && is_none l.errno

-- The child that an lwp has just made, where its call's value is a process id. In the child itself the call gives 0.
unfoldable pub child_of : LwpStatus → Option ℕ
child_of l = if has_ended_fork l && not (l.result == 0) && nat_lt l.result (2 ^ 32) then Some l.result else None
