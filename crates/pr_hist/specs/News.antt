-- What an entry tells of what a process runs, and what is known after it.
use Rattle.std.specs.Prelude.{ℕ, ◌+◌, ◌-◌, ◌&&◌, Bool, true, false, Option, Some, None, List, [], ◌∷◌, drop, is_some, length, nat_le, if◌then◌else◌}
use Rattle.pr_num.specs.ById.{inserted, put_under, under, without_id}
use Rattle.pr_num.specs.declared.syscalls.Sysno.TheVariants.{Exec}
use Rattle.pr_model.specs.declared.calls.Call.{Call}
use Rattle.pr_model.specs.declared.calls.Call.TheVariants as call
use Rattle.pr_model.specs.declared.calls.File.{File}
use Rattle.pr_model.specs.declared.calls.File.TheVariants as file
use Rattle.pr_model.specs.declared.calls.Reply.{Reply}
use Rattle.pr_model.specs.declared.calls.Reply.TheVariants as reply
use Rattle.pr_model.specs.declared.events.Act.{Act}
use Rattle.pr_model.specs.declared.events.Act.TheVariants as act
use Rattle.pr_model.specs.declared.events.Actor.{Actor}
use Rattle.pr_model.specs.declared.events.Actor.TheVariants.{Lwp}
use Rattle.pr_model.specs.declared.events.Did.{Did}
use Rattle.pr_model.specs.declared.events.Did.TheVariants.{Made}
use Rattle.pr_model.specs.declared.events.Entry.{Entry}
use Rattle.pr_model.specs.declared.events.Res.TheVariants.{Value}
use Rattle.pr_hist.specs.Lanes.{made_by}
use Rattle.pr_hist.specs.Listings.{Listing, listed_at}
use Rattle.pr_hist.specs.Names.{Names, handles_after, named}
use Rattle.pr_hist.specs.Texts.{name_in}
use Rattle.pr_hist.specs.declared.names.Known.{Known}
use Rattle.pr_hist.specs.declared.news.News.{News}

-- A process that was spawned runs the program that was asked for.
unfoldable pub spawn_news : List Listing → List ℕ → Reply → Option News
spawn_news listings program (reply.Pid p) = Some (record { pid = p; place = listed_at listings program })
spawn_news listings program _ = None

-- The first part of psinfo has the name of the program, in bytes 64 to 95: what these bytes from a place on show of it.
unfoldable pub name_shown : ℕ → List ℕ → Option (List ℕ)
name_shown at bytes =
    if nat_le at 64 && nat_le (64 - at + 32) (length bytes) then Some (name_in (drop (64 - at) bytes)) else None

unfoldable pub is_psinfo : File → Bool
is_psinfo file.Psinfo = true
is_psinfo _ = false

abbrev pub shown_news : List Listing → ℕ → Option (List ℕ) → Option News
shown_news listings pid None = None
shown_news listings pid (Some name) = Some (record { pid = pid; place = listed_at listings name })

abbrev pub known_news : List Listing → Option Known → ℕ → List ℕ → Option News
known_news listings None at bytes = None
known_news listings (Some k) at bytes =
    if is_psinfo k.file then shown_news listings k.pid (name_shown at bytes) else None

-- A read of psinfo shows what its process runs.
unfoldable pub read_news : Names → ℕ → ℕ → Reply → Option News
read_news names h at (reply.Bytes bytes) = known_news names.listings (under h names.handles) at bytes
read_news names h at _ = None

unfoldable pub call_news : Names → Call → Reply → Option News
call_news names (call.Spawn program held) r = spawn_news names.listings program r
call_news names (call.Read h at len) r = read_news names h at r
call_news names _ r = None

-- A child runs what its parent runs. Which program exec begins, its turn does not tell.
abbrev pub inherited : List (ℕ × ℕ) → ℕ → Option Actor → Option News
inherited running p (Some (Lwp child l)) = Some (record { pid = child; place = under p running })
inherited running p _ = None

unfoldable pub did_news : List (ℕ × ℕ) → ℕ → Did → Option News
did_news running p (Made Exec (Value n)) = Some (record { pid = p; place = None })
did_news running p did = inherited running p (made_by p did)

abbrev pub turn_news : List (ℕ × ℕ) → Actor → Did → Option News
turn_news running (Lwp p l) did = did_news running p did
turn_news running _ did = None

unfoldable pub news_of : Names → Entry → Option News
news_of names e = by e.act
  where
    by : Act → Option News
    by (act.Call c r) = call_news names c r
    by (act.Turn t) = turn_news names.running e.actor t.did
    by (act.Tick n) = None

-- what processes run after that
abbrev pub runs_now : ℕ → Option ℕ → List (ℕ × ℕ) → List (ℕ × ℕ)
runs_now p None running = without_id p running
runs_now p (Some place) running = named p place running

unfoldable pub running_after : Option News → List (ℕ × ℕ) → List (ℕ × ℕ)
running_after None running = running
running_after (Some news) running = runs_now news.pid news.place running

-- the entry of a number as the one in which a process last moved
unfoldable pub moved_now : ℕ → ℕ → List (ℕ × ℕ) → List (ℕ × ℕ)
moved_now p n moved = if is_some (under p moved) then put_under p n moved else inserted p n moved

-- the same where it is a turn of one of its lwps
unfoldable pub moved_after : ℕ → Actor → List (ℕ × ℕ) → List (ℕ × ℕ)
moved_after n (Lwp p l) moved = moved_now p n moved
moved_after n _ moved = moved

-- what is known after the entry of a number
unfoldable pub names_beyond : Names → ℕ → Entry → Names
names_beyond names n e = record {
  listings = names.listings;
  handles = handles_after names.handles e.act;
  running = running_after (news_of names e) names.running;
  moved = moved_after n e.actor names.moved;
}

-- ---- what is known before the first entry

-- nothing: a history stands alone
abbrev pub nothing_known : Names
nothing_known = record { listings = []; handles = []; running = []; moved = [] }

-- processes that are made before the first turn, in their order, each by the place of its program; this is the first
unfoldable pub started : ℕ → List (ℕ × ℕ) → List ℕ → List (ℕ × ℕ)
started pid running [] = running
started pid running (place ∷ places) = started (pid + 1) (named pid place running) places

-- the programs of a scenario, and which of them its first processes run
abbrev pub known_at_start : List Listing → List ℕ → Names
known_at_start listings spawns = record {
  listings = listings;
  handles = [];
  running = started 1 [] spawns;
  moved = [];
}
