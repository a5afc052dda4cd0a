-- Lanes: a column for each actor of a history, and how its lwp stands after an entry, as its own turns tell it.
use Rattle.std.specs.Prelude.{ℕ, ◌==◌, ◌+◌, ◌&&◌, ◌||◌, not, Bool, true, false, Option, Some, None, List, [], ◌∷◌, ◌++◌, map, nat_lt, if◌then◌else◌}
use Rattle.std.specs.List.{list_any}
use Rattle.pr_model.specs.declared.calls.Call.{Call}
use Rattle.pr_model.specs.declared.calls.Call.TheVariants as call
use Rattle.pr_model.specs.declared.calls.Reply.{Reply}
use Rattle.pr_model.specs.declared.calls.Reply.TheVariants as reply
use Rattle.pr_model.specs.declared.events.Act.{Act}
use Rattle.pr_model.specs.declared.events.Act.TheVariants as act
use Rattle.pr_model.specs.declared.events.Actor.{Actor}
use Rattle.pr_model.specs.declared.events.Actor.TheVariants.{Controller, Lwp, Clock}
use Rattle.pr_model.specs.declared.events.Did.{Did}
use Rattle.pr_model.specs.declared.events.Did.TheVariants.{Stopped, Slept, Made, Woke, Acted}
use Rattle.pr_model.specs.declared.events.Entry.{Entry}
use Rattle.pr_model.specs.declared.events.How.TheVariants.{JobStop, Died}
use Rattle.pr_model.specs.declared.events.Res.TheVariants.{Value, Ended}
use Rattle.pr_model.specs.declared.events.Turned.{Turned}
use Rattle.pr_num.specs.Agents.{agent_id}
use Rattle.pr_num.specs.declared.syscalls.Sysno.{Sysno}
use Rattle.pr_num.specs.declared.syscalls.Sysno.TheVariants.{Exit, Exec, Fork, Vfork, Kill, LwpCreate, Sigqueue}
use Rattle.pr_hist.specs.declared.lanes.Lane.{Lane}
use Rattle.pr_hist.specs.declared.lanes.Stand.{Stand}
use Rattle.pr_hist.specs.declared.lanes.Stand.TheVariants.{Absent, New, Runs, OnEvent, Requested, Asleep, JobStopped, Ends}
use Rattle.pr_hist.specs.declared.selections.Who.{Who}
use Rattle.pr_hist.specs.declared.selections.Who.TheVariants as who

-- ---- actors

unfoldable pub is_same : Actor → Actor → Bool
is_same (Controller j) (Controller k) = j == k
is_same (Lwp p l) (Lwp q m) = p == q && l == m
is_same Clock Clock = true
is_same _ _ = false

abbrev pub is_some_same : Option Actor → Actor → Bool
is_some_same None a = false
is_some_same (Some b) a = is_same b a

-- whether an lwp is of a process
unfoldable pub is_lwp_of : ℕ → Actor → Bool
is_lwp_of p (Lwp q m) = q == p
is_lwp_of p _ = false

-- ---- what an entry makes and ends

-- the process that a call made, and its first lwp
abbrev pub spawned : Call → Reply → Option Actor
spawned (call.Spawn program held) (reply.Pid p) = Some (Lwp p 1)
spawned _ _ = None

-- the id of a value, where it can be one
unfoldable pub id_in : ℕ → Option ℕ
id_in n = if nat_lt n 4294967296 then Some n else None

abbrev pub child_of : Option ℕ → Option Actor
child_of None = None
child_of (Some p) = Some (Lwp p 1)

abbrev pub lwp_in : ℕ → Option ℕ → Option Actor
lwp_in p None = None
lwp_in p (Some l) = Some (Lwp p l)

-- the lwp that a turn of an lwp of a process made: the first one of a child, or one more of its own process
unfoldable pub made_by : ℕ → Did → Option Actor
made_by p (Made Fork (Value n)) = child_of (id_in n)
made_by p (Made Vfork (Value n)) = child_of (id_in n)
made_by p (Made LwpCreate (Value n)) = lwp_in p (id_in n)
made_by p _ = None

abbrev pub made_in : Actor → Did → Option Actor
made_in (Lwp p l) did = made_by p did
made_in _ did = None

-- the lwp that an entry made
unfoldable pub born : Entry → Option Actor
born e = by e.act
  where
    by : Act → Option Actor
    by (act.Call c r) = spawned c r
    by (act.Turn t) = made_in e.actor t.did
    by (act.Tick n) = None

-- whether a turn leaves no other lwp of its process: it ended the process, or began another program in it
unfoldable pub ends_others : Did → Bool
ends_others (Made Exit Ended) = true
ends_others (Made Kill Ended) = true
ends_others (Made Sigqueue Ended) = true
ends_others (Made Exec (Value n)) = true
ends_others (Acted s Died) = true
ends_others _ = false

abbrev pub turn_ends : Actor → Did → Actor → Bool
turn_ends (Lwp p l) did a = ends_others did && is_lwp_of p a
turn_ends _ did a = false

-- SIGKILL from outside
abbrev pub call_ends : Call → Reply → Actor → Bool
call_ends (call.Kill p sig) reply.Done a = sig == 9 && is_lwp_of p a
call_ends _ _ a = false

-- whether an entry of another actor ended an lwp
unfoldable pub is_ended : Entry → Actor → Bool
is_ended e a = by e.act
  where
    by : Act → Bool
    by (act.Call c r) = call_ends c r a
    by (act.Turn t) = turn_ends e.actor t.did a
    by (act.Tick n) = false

-- ---- how an lwp stands

-- after a turn of its own
unfoldable pub by_turn : Did → Stand
by_turn Stopped = Requested
by_turn (Slept c) = Asleep
by_turn (Acted s JobStop) = JobStopped
by_turn (Acted s Died) = Ends
by_turn (Made c Ended) = Ends
by_turn (Woke c Ended) = Ends
by_turn _ = Runs

unfoldable pub after_turn : Turned → Stand
after_turn t = if t.stop then OnEvent else by_turn t.did

-- after an act of its own; controllers and the clock stand still at nothing
abbrev pub after_act : Act → Stand
after_act (act.Call c r) = Runs
after_act (act.Turn t) = after_turn t
after_act (act.Tick n) = Runs

-- after its end, which one entry shows
unfoldable pub settled : Stand → Stand
settled Ends = Absent
settled s = s

-- where another actor ended it
unfoldable pub ended : Stand → Stand
ended Absent = Absent
ended Ends = Absent
ended s = Ends

-- how an actor stands after an entry: by its own act, else it was made, or ended, or all is as it was
unfoldable pub stand_after : Entry → Actor → Stand → Stand
stand_after e a s =
    if is_same e.actor a then after_act e.act
    else (if is_some_same (born e) a then New
    else (if is_ended e a then ended s
    else settled s))

unfoldable pub lane_after : Entry → Lane → Lane
lane_after e lane = record lane { stand = stand_after e lane.actor lane.stand }

abbrev pub lanes_after : Entry → List Lane → List Lane
lanes_after e lanes = map (lane_after e) lanes

-- ---- which lanes there are

-- controllers stand before the clock, and that before lwps
unfoldable pub rank : Actor → ℕ
rank (Controller k) = 0
rank Clock = 1
rank (Lwp p l) = 2

-- whether an actor has a lane where these entries are told
unfoldable pub is_asked : Option Who → Actor → Bool
is_asked None a = true
is_asked (Some (who.Controller k)) (Controller j) = j == k
is_asked (Some (who.Controller k)) Clock = false
is_asked (Some (who.Controller k)) (Lwp p l) = true
is_asked (Some (who.Process q)) (Controller j) = true
is_asked (Some (who.Process q)) Clock = false
is_asked (Some (who.Process q)) (Lwp p l) = p == q
is_asked (Some (who.Lwp q m)) (Controller j) = false
is_asked (Some (who.Lwp q m)) Clock = false
is_asked (Some (who.Lwp q m)) (Lwp p l) = p == q && l == m

-- An actor whose first act is met was there from the beginning, but for the agent, which no turn makes.
unfoldable pub at_first : Actor → Stand
at_first (Lwp p l) = if l == agent_id then Absent else Runs
at_first _ = Runs

-- whether a lane is an actor's
unfoldable pub is_lane_of : Actor → Lane → Bool
is_lane_of a lane = is_same lane.actor a

-- the lanes with one for an actor of a rank, where it has none
unfoldable pub with_lane : ℕ → Option Who → Stand → Actor → List Lane → List Lane
with_lane r w s a lanes =
    if rank a == r && (is_asked w a && not (list_any (is_lane_of a) lanes))
    then lanes ++ record { actor = a; stand = s } ∷ [] else lanes

abbrev pub with_born : ℕ → Option Who → Option Actor → List Lane → List Lane
with_born r w None lanes = lanes
with_born r w (Some a) lanes = with_lane r w Absent a lanes

-- the lanes with those of an entry: of who acted, and of whom it made
unfoldable pub with_entry : ℕ → Option Who → Entry → List Lane → List Lane
with_entry r w e lanes = with_born r w (born e) (with_lane r w (at_first e.actor) e.actor lanes)

unfoldable pub with_entries : ℕ → Option Who → List Lane → List Entry → List Lane
with_entries r w lanes [] = lanes
with_entries r w lanes (e ∷ es) = with_entries r w (with_entry r w e lanes) es

-- the lanes of a history before its first entry: controllers, the clock and lwps, each in the order in which they come
unfoldable pub lanes_of : Option Who → List Entry → List Lane
lanes_of w es = with_entries 2 w (with_entries 1 w (with_entries 0 w [] es) es) es
