use Rattle.std.specs.Prelude.{ℕ, List, [], ◌∷◌, ◌++◌, Option, Some, None}
use Rattle.pr_num.specs.Infos.{no_info}
use Rattle.pr_num.specs.declared.faults.Flt.{Flt}
use Rattle.pr_num.specs.declared.infos.Info.{Info}
use Rattle.pr_num.specs.declared.signals.Sig.{Sig}
use Rattle.pr_num.specs.declared.syscalls.Sysno.{Sysno}
use Rattle.pr_num.specs.Spaces.{Space}
use Rattle.pr_model.specs.Legal.{after}
use Rattle.pr_model.specs.Readers.{space_seen}
use Rattle.pr_model.specs.Reads.{mapped_from}
use Rattle.pr_model.specs.Registers.{arguments, pc_of}
use Rattle.pr_model.specs.ShownBytes.{shown_range}
use Rattle.pr_model.specs.Signals.{disposition_of}
use Rattle.pr_model.specs.State.{TracedState, TracedSystem, TracedProcess, TracedLwp, live_process, lwp_of}
use Rattle.pr_model.specs.Statuses.{arguments_in, info_in}
use Rattle.pr_model.specs.declared.events.Act.{Act}
use Rattle.pr_model.specs.declared.events.Act.TheVariants as act
use Rattle.pr_model.specs.declared.events.Actor.{Actor}
use Rattle.pr_model.specs.declared.events.Actor.TheVariants as actor
use Rattle.pr_model.specs.declared.events.Did.{Did}
use Rattle.pr_model.specs.declared.events.Did.TheVariants.{Entered, Made, Woke, Faulted, Took}
use Rattle.pr_model.specs.declared.events.Entry.{Entry}
use Rattle.pr_model.specs.declared.events.Res.{Res}
use Rattle.pr_model.specs.declared.events.Res.TheVariants.{Value, Error, Ended}

-- The event log of a history: what a tracer can be told of (truss(1)). A child's stop at its birth is no event.

-- What happened to an lwp: it came to a call, with these arguments; the call gave a result; the call ended its lwp or
-- its process; it took a signal, under this disposition and with this information; it incurred a fault at this pc.
pub data Event : Type 0 where
  entry : Sysno → List ℕ → Event
  exit : Sysno → List ℕ → Res → Event
  gone : Sysno → List ℕ → Event
  signal : Sig → ℕ → Info → Event
  fault : Flt → ℕ → Event

-- an event of an lwp, and the bytes of memory that stand in its line as a text, if it has one
pub record Logged : Type 0 where
  pub pid : ℕ
  pub id : ℕ
  pub event : Event
  pub text : Option (List ℕ)

-- ---- the text of an event

-- what a call gave, none where it failed
abbrev pub value_of : Res → Option ℕ
value_of (Value v) = Some v
value_of (Error e) = None
value_of Ended = None

-- which bytes of memory the line of an event asks for; only the exit of a call has any
unfoldable pub text_asked : Event → Option (ℕ × ℕ)
text_asked (exit call args result) = shown_range call args (value_of result)
text_asked _ = None

-- those bytes, up to the first that is not mapped
abbrev pub unless_empty : List ℕ → Option (List ℕ)
unless_empty [] = None
unless_empty (b ∷ bytes) = Some (b ∷ bytes)

abbrev pub text_in : Space → Option (ℕ × ℕ) → Option (List ℕ)
text_in space None = None
text_in space (Some asked) = unless_empty (mapped_from space asked.0 asked.1)

abbrev pub text_of_process : TracedSystem → Option TracedProcess → Option (ℕ × ℕ) → Option (List ℕ)
text_of_process s None asked = None
text_of_process s (Some p) asked = text_in (space_seen s p) asked

-- ---- the events

-- what an lwp shows after its turn
abbrev pub pc_after : Option TracedLwp → ℕ
pc_after None = 0
pc_after (Some l) = pc_of l.regs

abbrev pub info_after : Option TracedLwp → Info
info_after None = no_info
info_after (Some l) = info_in l.current

-- the event of a turn, of the lwp and its process before it, and of the lwp after it
abbrev pub result_event : Sysno → List ℕ → Res → Event
result_event call args (Value v) = exit call args (Value v)
result_event call args (Error e) = exit call args (Error e)
result_event call args Ended = gone call args

unfoldable pub event_of : TracedProcess → TracedLwp → Option TracedLwp → Did → Option Event
event_of p l new (Entered call) = Some (entry call (arguments l.regs))
event_of p l new (Made call result) = Some (result_event call (arguments_in l.regs l.phase) result)
event_of p l new (Woke call result) = Some (result_event call (arguments_in l.regs l.phase) result)
event_of p l new (Took s) = Some (signal s (disposition_of p.dispositions s) (info_after new))
event_of p l new (Faulted f) = Some (fault f (pc_after new))
event_of p l new _ = None

-- an lwp, with its process
abbrev pub found_in : TracedProcess → Option TracedLwp → Option (TracedProcess × TracedLwp)
found_in p None = None
found_in p (Some l) = Some (p, l)

abbrev pub found_lwp : ℕ → Option TracedProcess → Option (TracedProcess × TracedLwp)
found_lwp id None = None
found_lwp id (Some p) = found_in p (lwp_of p id)

unfoldable pub lwp_in_state : TracedState → ℕ → ℕ → Option (TracedProcess × TracedLwp)
lwp_in_state s pid id = found_lwp id (live_process s.system pid)

abbrev pub lwp_alone : Option (TracedProcess × TracedLwp) → Option TracedLwp
lwp_alone None = None
lwp_alone (Some found) = Some found.1

abbrev pub event_between : Option (TracedProcess × TracedLwp) → Option TracedLwp → Did → Option Event
event_between None new did = None
event_between (Some found) new did = event_of found.0 found.1 new did

-- an event with its text, as memory is after the turn
abbrev pub logged : TracedState → ℕ → ℕ → Option Event → List Logged
logged new pid id None = []
logged new pid id (Some e) =
    record {
      pid = pid;
      id = id;
      event = e;
      text =
          text_of_process new.system (live_process new.system pid) (text_asked e);
    } ∷ []

-- the events of an entry, in the state that it finds
unfoldable pub events_of : TracedState → Entry → List Logged
events_of s e = by e.actor e.act
  where
    by : Actor → Act → List Logged
    by (actor.Lwp pid id) (act.Turn t) =
        logged (after s e) pid id
        (event_between (lwp_in_state s pid id) (lwp_alone (lwp_in_state (after s e) pid id)) t.did)
    by _ _ = []

-- the event log of a history from a state
abbrev pub events_from : TracedState → List Entry → List Logged
events_from s [] = []
events_from s (e ∷ es) = events_of s e ++ events_from (after s e) es
