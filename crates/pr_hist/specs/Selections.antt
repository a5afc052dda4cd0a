-- Which entries of a history are told: those of one actor, or of one process; and those between two numbers. Handles
-- keep their names, and entries their numbers, whatever is left out.
use Rattle.std.specs.Prelude.{ℕ, ◌==◌, ◌&&◌, ◌+◌, Bool, true, false, Option, Some, None, List, [], ◌∷◌, ◌++◌, nat_le, if◌then◌else◌}
use Rattle.std.specs.List.{list_any}
use Rattle.pr_num.specs.ById.{under}
use Rattle.pr_model.specs.declared.calls.Call.{Call}
use Rattle.pr_model.specs.declared.calls.Call.TheVariants as call
use Rattle.pr_model.specs.declared.calls.Reply.{Reply}
use Rattle.pr_model.specs.declared.calls.Reply.TheVariants as reply
use Rattle.pr_model.specs.declared.events.Act.{Act}
use Rattle.pr_model.specs.declared.events.Act.TheVariants as act
use Rattle.pr_model.specs.declared.events.Actor.{Actor}
use Rattle.pr_model.specs.declared.events.Actor.TheVariants as actor
use Rattle.pr_model.specs.declared.events.Entry.{Entry}
use Rattle.pr_hist.specs.Entries.{words_of}
use Rattle.pr_hist.specs.Names.{Names}
use Rattle.pr_hist.specs.News.{names_beyond}
use Rattle.pr_hist.specs.declared.names.Known.{Known}
use Rattle.pr_hist.specs.declared.selections.Selection.{Selection}
use Rattle.pr_hist.specs.declared.selections.Who.{Who}
use Rattle.pr_hist.specs.declared.selections.Who.TheVariants as who

-- whether a handle stands for a file of a process or of its lwps
abbrev pub is_known_of : ℕ → Option Known → Bool
is_known_of p None = false
is_known_of p (Some k) = k.pid == p

unfoldable pub stands_for : ℕ → Names → ℕ → Bool
stands_for p names h = is_known_of p (under h names.handles)

-- whether a process was made that has this id
unfoldable pub made : ℕ → Reply → Bool
made p (reply.Pid q) = q == p
made p _ = false

-- whether a call is about a process, a row a call
unfoldable pub is_call_about : ℕ → Names → Call → Reply → Bool
is_call_about p names (call.Open pid lwp file mode) r = pid == p
is_call_about p names (call.Close h) r = stands_for p names h
is_call_about p names (call.Ctl h bytes) r = stands_for p names h
is_call_about p names (call.CtlWait h until bytes) r = stands_for p names h
is_call_about p names (call.Read h at len) r = stands_for p names h
is_call_about p names (call.Poll hs) r = list_any (stands_for p names) hs
is_call_about p names (call.Interrupt k) r = false
is_call_about p names (call.Spawn program held) r = made p r
is_call_about p names (call.Kill pid sig) r = pid == p
is_call_about p names (call.Until moment) r = false
is_call_about p names call.List r = false

unfoldable pub is_about : ℕ → Names → Act → Bool
is_about p names (act.Call c r) = is_call_about p names c r
is_about p names (act.Turn t) = false
is_about p names (act.Tick n) = false

-- whether an entry is of one controller; of one lwp; of a process: a turn of an lwp of it, or a call about it
unfoldable pub is_of_controller : ℕ → Actor → Bool
is_of_controller k (actor.Controller j) = j == k
is_of_controller k (actor.Lwp p l) = false
is_of_controller k actor.Clock = false

unfoldable pub is_of_lwp : ℕ → ℕ → Actor → Bool
is_of_lwp p l (actor.Controller k) = false
is_of_lwp p l (actor.Lwp q m) = q == p && m == l
is_of_lwp p l actor.Clock = false

unfoldable pub is_of_process : ℕ → Names → Entry → Bool
is_of_process p names e = by e.actor
  where
    by : Actor → Bool
    by (actor.Controller k) = is_about p names e.act
    by (actor.Lwp q l) = q == p
    by actor.Clock = false

abbrev pub is_of : Who → Names → Entry → Bool
is_of (who.Controller k) names e = is_of_controller k e.actor
is_of (who.Process p) names e = is_of_process p names e
is_of (who.Lwp p l) names e = is_of_lwp p l e.actor

abbrev pub is_of_any : Option Who → Names → Entry → Bool
is_of_any None names e = true
is_of_any (Some w) names e = is_of w names e

-- whether an entry is told, before which these handles are open
unfoldable pub is_told : Selection → ℕ → Names → Entry → Bool
is_told s n names e = nat_le s.from n && (nat_le n s.to && is_of_any s.who names e)

-- its block, where it is told
unfoldable pub selected : Selection → ℕ → Names → Entry → List ℕ
selected s n names e = if is_told s n names e then words_of s.full n names e else []

-- the blocks of those entries that are told, which count from a number
unfoldable pub selected_blocks : Selection → ℕ → Names → List Entry → List ℕ
selected_blocks s n names [] = []
selected_blocks s n names (e ∷ es) = selected s n names e ++ selected_blocks s (n + 1) (names_beyond names n e) es

-- a part of a history in words, before which this is known
abbrev pub selected_text : Selection → Names → List Entry → List ℕ
selected_text s names es = selected_blocks s 0 names es
