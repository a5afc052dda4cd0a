use Rattle.std.specs.Prelude.{◌≡◌, ℕ, Bool, true, false, Option, Some, None, Result, Ok, Err, option_map}
use Rattle.pr_line.specs.Events.{event_of as event_shown}
use Rattle.pr_line.specs.declared.events.Event.{Event}
use Rattle.pr_line.specs.declared.events.Event.TheVariants.{Entered, Left, Received, Incurred}
use Rattle.pr_model.specs.Events.{Event as MachineEvent, entry, event_of, exit, fault, gone, signal}
use Rattle.pr_model.specs.State.{TracedLwp, TracedProcess}
use Rattle.pr_model.specs.Statuses.{lwpstatus_of}
use Rattle.pr_model.specs.declared.events.Did.{Did}
use Rattle.pr_model.specs.declared.events.Did.TheVariants.{Made, Woke}
use Rattle.pr_model.specs.declared.events.Res.{Res}
use Rattle.pr_model.specs.declared.events.Res.TheVariants.{Value, Error, Ended}
use Rattle.pr_num.specs.declared.errnos.Errno.{Errno}
use Rattle.pr_rec.specs.Fields.{disposition_of as class_of}

-- What the status of an lwp tells of an event that the machine logs.

abbrev pub result_told : Res → Option (Result ℕ Errno)
result_told (Value v) = Some (Ok v)
result_told (Error e) = Some (Err e)
result_told Ended = None

-- A call that ended its lwp or its process is told as it is entered alone. Of a disposition its class is told.
unfoldable pub told : MachineEvent → Option Event
told (entry call args) = Some (Entered call args)
told (exit call args result) = option_map (Left call args) (result_told result)
told (gone call args) = None
told (signal g disposition info) = Some (Received g (class_of disposition) info)
told (fault f pc) = Some (Incurred f pc)

-- whether a turn ended its lwp or its process by a call
abbrev pub has_ended : Did → Bool
has_ended (Made call Ended) = true
has_ended (Woke call Ended) = true
has_ended _ = false

-- After a turn that did this, of an lwp that was l in a process p, the status of the lwp k that is in q then tells the
-- event that the turn logged.
pub record TellsItsEvent (p : TracedProcess) (l : TracedLwp) (did : Did) (q : TracedProcess) (id : ℕ)
    (k : TracedLwp) : Type 0 where
  pub event : MachineEvent
  pub logged : event_of p l (Some k) did ≡ Some event
  pub tells : event_shown (lwpstatus_of q id k) ≡ told event
