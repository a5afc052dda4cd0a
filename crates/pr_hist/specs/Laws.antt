-- What holds of histories in words, said of entries and handles alone.
use Rattle.std.specs.Prelude.{◌≡◌, ◌≢◌, ◌==◌, ◌&&◌, ◌||◌, not, Bool, true, false, ℕ, List, [], ◌∷◌, ◌++◌, ◌+◌, Some, None, map}
use Rattle.pr_num.specs.ById.{under}
use Rattle.pr_model.specs.declared.calls.Call.TheVariants as call
use Rattle.pr_model.specs.declared.calls.File.{File}
use Rattle.pr_model.specs.declared.calls.Mode.{Mode}
use Rattle.pr_model.specs.declared.calls.Reply.TheVariants as reply
use Rattle.pr_model.specs.declared.events.Act.{Act}
use Rattle.pr_model.specs.declared.events.Act.TheVariants as act
use Rattle.pr_model.specs.declared.events.Actor.{Actor}
use Rattle.pr_model.specs.declared.events.Did.{Did}
use Rattle.pr_model.specs.declared.events.Did.TheVariants.{Stopped, Acted}
use Rattle.pr_model.specs.declared.events.Entry.{Entry}
use Rattle.pr_model.specs.declared.events.How.TheVariants.{JobStop}
use Rattle.pr_hist.specs.Lanes.{born, is_ended, is_same, is_some_same, stand_after}
use Rattle.pr_hist.specs.Names.{Handles, Names, handles_after}
use Rattle.pr_hist.specs.News.{names_beyond}
use Rattle.pr_hist.specs.declared.lanes.Lane.{Lane}
use Rattle.pr_hist.specs.declared.lanes.Stand.{Stand}
use Rattle.pr_hist.specs.declared.lanes.Stand.TheVariants.{OnEvent, Requested, JobStopped}
use Rattle.pr_hist.specs.declared.names.Known.{Known}

-- what is known after entries that count from a number, where this was known before them
unfoldable pub names_behind : Names → ℕ → List Entry → Names
names_behind names n [] = names
names_behind names n (e ∷ es) = names_behind (names_beyond names n e) (n + 1) es

-- ---- which handles are open

-- an open that gave a handle names it, and leaves the names of all others
pub record NamesOpened (names : Handles) (pid lwp : ℕ) (file : File) (mode : Mode) (h : ℕ) : Type 0 where
  pub its_own : under h (handles_after names (act.Call (call.Open pid lwp file mode) (reply.Handle h)))
      ≡ Some (record { pid = pid; lwp = lwp; file = file; mode = mode })
  pub others : (other : ℕ) → h ≢ other
      → under other (handles_after names (act.Call (call.Open pid lwp file mode) (reply.Handle h))) ≡ under other names

-- a close that was done takes the name off its handle, and leaves those of all others
pub record NamesClosed (names : Handles) (h : ℕ) : Type 0 where
  pub its_own : under h (handles_after names (act.Call (call.Close h) reply.Done)) ≡ None
  pub others : (other : ℕ) → h ≢ other
      → under other (handles_after names (act.Call (call.Close h) reply.Done)) ≡ under other names

-- whether an act opens or closes a handle: an open that gave it, or a close of it that was done
unfoldable pub opens_or_closes : Act → ℕ → Bool
opens_or_closes (act.Call (call.Open pid lwp file mode) (reply.Handle g)) h = g == h
opens_or_closes (act.Call (call.Close g) reply.Done) h = g == h
opens_or_closes _ h = false

unfoldable pub none_opens_or_closes : ℕ → List Entry → Bool
none_opens_or_closes h [] = true
none_opens_or_closes h (e ∷ es) = not (opens_or_closes e.act h) && none_opens_or_closes h es

-- A handle stands for this behind entries: one of them is the open that gave it so, and none behind that gives it
-- anew or closes it.
pub record OpenSince (h : ℕ) (k : Known) (es : List Entry) : Type 0 where
  pub before : List Entry
  pub opening : Entry
  pub behind : List Entry
  pub are : es ≡ before ++ opening ∷ behind
  pub is : opening.act ≡ act.Call (call.Open k.pid k.lwp k.file k.mode) (reply.Handle h)
  pub left : none_opens_or_closes h behind ≡ true

-- ---- who stands still

-- whether a lane shows that its lwp stands still
unfoldable pub stands : Stand → Bool
stands OnEvent = true
stands Requested = true
stands JobStopped = true
stands _ = false

-- how an actor stands behind entries, before which it stood so
unfoldable pub stand_behind : Actor → Stand → List Entry → Stand
stand_behind a s [] = s
stand_behind a s (e ∷ es) = stand_behind a (stand_after e a s) es

-- how lanes stand behind entries
unfoldable pub lane_behind : List Entry → Lane → Lane
lane_behind es lane = record lane { stand = stand_behind lane.actor lane.stand es }

abbrev pub lanes_behind : List Lane → List Entry → List Lane
lanes_behind lanes es = map (lane_behind es) lanes

-- whether an lwp stops in a turn: as it was directed to, or by a signal; or on what is traced
unfoldable pub stops : Did → Bool
stops Stopped = true
stops (Acted s JobStop) = true
stops _ = false

abbrev pub stops_by : Act → Bool
stops_by (act.Call c r) = false
stops_by (act.Turn t) = t.stop || stops t.did
stops_by (act.Tick n) = false

-- whether an entry is a stop of an lwp: a turn of its own in which it stopped
unfoldable pub is_stop : Entry → Actor → Bool
is_stop e a = is_same e.actor a && stops_by e.act

-- whether an entry leaves an lwp as it stands: it is no turn of its own, and neither makes nor ends it
unfoldable pub leaves : Entry → Actor → Bool
leaves e a = not (is_same e.actor a) && (not (is_some_same (born e) a) && not (is_ended e a))

unfoldable pub all_leave : Actor → List Entry → Bool
all_leave a [] = true
all_leave a (e ∷ es) = leaves e a && all_leave a es

-- An lwp stands so behind entries since one of them: that is such an entry, and each one behind it leaves the lwp so.
pub record StoodSince (begins : Entry → Actor → Bool) (a : Actor) (es : List Entry) : Type 0 where
  pub before : List Entry
  pub entry : Entry
  pub behind : List Entry
  pub are : es ≡ before ++ entry ∷ behind
  pub is : begins entry a ≡ true
  pub left : all_leave a behind ≡ true
