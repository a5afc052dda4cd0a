-- Since when a lane shows what: by which act of its own an lwp comes to stand so, and by which entry of another actor.
use Rattle.std.specs.Prelude.{◌≡◌, ◌↔◌, ◌⊎◌, ◌&&◌, ◌||◌, not, Bool, true, false, List}
use Rattle.pr_model.specs.declared.events.Act.{Act}
use Rattle.pr_model.specs.declared.events.Act.TheVariants as act
use Rattle.pr_model.specs.declared.events.Actor.{Actor}
use Rattle.pr_model.specs.declared.events.Did.{Did}
use Rattle.pr_model.specs.declared.events.Did.TheVariants.{Stopped, Slept, Made, Woke, Acted}
use Rattle.pr_model.specs.declared.events.Entry.{Entry}
use Rattle.pr_model.specs.declared.events.How.TheVariants.{JobStop, Died}
use Rattle.pr_model.specs.declared.events.Res.TheVariants.{Ended}
use Rattle.pr_hist.specs.Lanes.{born, is_ended, is_same, is_some_same}
use Rattle.pr_hist.specs.Laws.{StoodSince, all_leave, stand_behind}
use Rattle.pr_hist.specs.declared.lanes.Stand.{Stand}
use Rattle.pr_hist.specs.declared.lanes.Stand.TheVariants.{Absent, Ends}

-- ---- what an lwp did in a turn

-- it stopped as it was directed to
unfoldable pub is_stopped : Did → Bool
is_stopped Stopped = true
is_stopped _ = false

-- its current signal stopped its process
unfoldable pub is_job_stop : Did → Bool
is_job_stop (Acted s JobStop) = true
is_job_stop _ = false

-- it fell asleep in a call
unfoldable pub is_sleep : Did → Bool
is_sleep (Slept c) = true
is_sleep _ = false

-- its current signal ended its process, or its call ended it or its process
unfoldable pub is_end : Did → Bool
is_end (Acted s Died) = true
is_end (Made c Ended) = true
is_end (Woke c Ended) = true
is_end _ = false

-- ---- acts; who met what is traced stopped on that, whatever else it did

unfoldable pub stops_on_event : Act → Bool
stops_on_event (act.Call c r) = false
stops_on_event (act.Turn t) = t.stop
stops_on_event (act.Tick n) = false

unfoldable pub stops_on_request : Act → Bool
stops_on_request (act.Call c r) = false
stops_on_request (act.Turn t) = not t.stop && is_stopped t.did
stops_on_request (act.Tick n) = false

unfoldable pub stops_by_signal : Act → Bool
stops_by_signal (act.Call c r) = false
stops_by_signal (act.Turn t) = not t.stop && is_job_stop t.did
stops_by_signal (act.Tick n) = false

unfoldable pub falls_asleep : Act → Bool
falls_asleep (act.Call c r) = false
falls_asleep (act.Turn t) = not t.stop && is_sleep t.did
falls_asleep (act.Tick n) = false

unfoldable pub ends_itself : Act → Bool
ends_itself (act.Call c r) = false
ends_itself (act.Turn t) = not t.stop && is_end t.did
ends_itself (act.Tick n) = false

-- none of these: also any call of a controller, and any tick of the clock
unfoldable pub goes_on : Act → Bool
goes_on (act.Call c r) = true
goes_on (act.Turn t) =
    not t.stop && not (is_stopped t.did || (is_job_stop t.did || (is_sleep t.did || is_end t.did)))
goes_on (act.Tick n) = true

-- ---- entries

-- an act of its own of a kind
abbrev pub is_own : (Act → Bool) → Entry → Actor → Bool
is_own kind e a = is_same e.actor a && kind e.act

-- an act of another actor that made it
unfoldable pub is_made_by_another : Entry → Actor → Bool
is_made_by_another e a = not (is_same e.actor a) && is_some_same (born e) a

-- an act of another actor that ended it, and did not make it
unfoldable pub is_ended_by_another : Entry → Actor → Bool
is_ended_by_another e a = not (is_same e.actor a) && (not (is_some_same (born e) a) && is_ended e a)

-- ---- what lanes show

-- whether an lwp is there, so that it can be ended
unfoldable pub is_there : Stand → Bool
is_there Absent = false
is_there Ends = false
is_there _ = true

-- A lane shows behind entries that its lwp stands so exactly where one of them begins that, and each one behind it
-- leaves the lwp so; or it showed that before them, and each one leaves it so.
abbrev pub ShowsSince : Stand → (Entry → Actor → Bool) → Type 0
ShowsSince stand begins = (a : Actor) (s : Stand) (es : List Entry)
    → (stand_behind a s es ≡ stand) ↔ (StoodSince begins a es ⊎ ((s ≡ stand) × (all_leave a es ≡ true)))
