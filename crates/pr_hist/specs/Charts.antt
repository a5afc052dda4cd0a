-- Charts of a history: a row an entry, in it a cell a lane, and between cells the messages and the births. A row of
-- lanes is a line of text; the picture is in Pictures.
use Rattle.std.specs.Prelude.{ℕ, ◌==◌, ◌+◌, ◌-◌, ◌/◌, ◌&&◌, ◌||◌, not, Bool, true, false, Option, Some, None, List, [], ◌∷◌, ◌++◌, codes, decimal, length, max, min, replicate, take, if◌then◌else◌}
use Rattle.std.specs.List.{list_any}
use Rattle.pr_num.specs.ById.{under}
use Rattle.pr_model.specs.declared.calls.Call.{Call}
use Rattle.pr_model.specs.declared.calls.Call.TheVariants as call
use Rattle.pr_model.specs.declared.calls.Reply.{Reply}
use Rattle.pr_model.specs.declared.calls.Reply.TheVariants as reply
use Rattle.pr_model.specs.declared.events.Act.{Act}
use Rattle.pr_model.specs.declared.events.Act.TheVariants as act
use Rattle.pr_model.specs.declared.events.Actor.{Actor}
use Rattle.pr_model.specs.declared.events.Actor.TheVariants.{Controller, Lwp}
use Rattle.pr_model.specs.declared.events.Entry.{Entry}
use Rattle.pr_plain.specs.HistoryText.{actor_text}
use Rattle.pr_hist.specs.Briefs.{brief_text}
use Rattle.pr_hist.specs.Entries.{words_of}
use Rattle.pr_hist.specs.Lanes.{born, is_lane_of, is_lwp_of, is_same, is_some_same}
use Rattle.pr_hist.specs.Names.{Names}
use Rattle.pr_hist.specs.Pictures.{picture_cell, picture_foot, picture_head, picture_name, picture_row}
use Rattle.pr_hist.specs.Texts.{trimmed}
use Rattle.pr_hist.specs.declared.charts.Chart.{Chart}
use Rattle.pr_hist.specs.declared.charts.Chart.TheVariants as chart
use Rattle.pr_hist.specs.declared.charts.Marks.{Marks}
use Rattle.pr_hist.specs.declared.charts.Sheet.{Sheet}
use Rattle.pr_hist.specs.declared.lanes.Lane.{Lane}
use Rattle.pr_hist.specs.declared.lanes.Stand.{Stand}
use Rattle.pr_hist.specs.declared.lanes.Stand.TheVariants.{Absent, New, Runs, OnEvent, Requested, Asleep, JobStopped, Ends}
use Rattle.pr_hist.specs.declared.names.Known.{Known}

-- ---- messages between lanes

-- whether a control file is an lwp's: that of its process, or its own
abbrev pub known_aims : Option Known → Actor → Bool
known_aims None a = false
known_aims (Some k) a = is_lwp_of k.pid a && (k.lwp == 0 || is_same (Lwp k.pid k.lwp) a)

-- whether a call sends something to an actor: a message, a signal, an interrupt
unfoldable pub call_aims : Names → Call → Actor → Bool
call_aims names (call.Ctl h bytes) a = known_aims (under h names.handles) a
call_aims names (call.Kill p sig) a = is_lwp_of p a
call_aims names (call.Interrupt k) a = is_same (Controller k) a
call_aims names _ a = false

unfoldable pub is_refusal : Reply → Bool
is_refusal (reply.Fail e) = true
is_refusal _ = false

unfoldable pub act_aims : Names → Act → Actor → Bool
act_aims names (act.Call c r) a = not (is_refusal r) && call_aims names c a
act_aims names (act.Turn t) a = false
act_aims names (act.Tick n) a = false

unfoldable pub is_absent : Stand → Bool
is_absent Absent = true
is_absent _ = false

-- whether an entry comes to a lane: it made its lwp, or sent it something; not where there is none
unfoldable pub is_target : Names → Entry → Lane → Bool
is_target names e lane =
    not (is_absent lane.stand) && (is_some_same (born e) lane.actor || act_aims names e.act lane.actor)

abbrev pub is_first_target : Names → Entry → List Lane → Bool
is_first_target names e [] = false
is_first_target names e (lane ∷ rest) = is_target names e lane

-- What a cell has besides how its lane stands: the words of the entry, in the lane of who acted; the arrow, from there
-- to the last lane that the entry comes to; and its tip, before each such lane. `passed`: the lane of who acted stands
-- before this one; `rest`: the lanes behind it.
unfoldable pub marks_of : Names → Entry → Bool → Lane → List Lane → Marks
marks_of names e passed lane rest = record {
  acts = is_lane_of e.actor lane;
  arrow = (passed || is_lane_of e.actor lane) && list_any (is_target names e) rest;
  tip = (passed || is_lane_of e.actor lane) && is_first_target names e rest;
}

-- ---- a line of text

-- how a lane stands
unfoldable pub mark : Stand → List ℕ
mark Absent = codes " "
mark New = codes "+"
mark Runs = codes "|"
mark OnEvent = codes "#"
mark Requested = codes "="
mark Asleep = codes "z"
mark JobStopped = codes "T"
mark Ends = codes "x"

-- a text in so many columns: cut, or with a byte behind it as often as needed
unfoldable pub fitted : ℕ → ℕ → List ℕ → List ℕ
fitted fill width t = take width t ++ replicate (width - length t) fill

-- how wide a cell is where so many lanes share a line
unfoldable pub cell_width : ℕ → ℕ → ℕ
cell_width width lanes = if lanes == 0 then 8 else min (max ((width - 8) / lanes) 8) 1000

-- the line of an arrow, or blanks
unfoldable pub fill : Marks → ℕ
fill m = if m.arrow then 45 else 32

unfoldable pub tip : Marks → List ℕ
tip m = if m.tip then codes ">" else (if m.arrow then codes "-" else codes " ")

-- the words of the entry, with room for an arrow behind them
unfoldable pub label_text : ℕ → Marks → List ℕ → List ℕ
label_text width m label = if m.acts then codes " " ++ (take (width - 4) label ++ codes " ") else []

unfoldable pub lanes_cell : ℕ → Marks → Stand → List ℕ → List ℕ
lanes_cell width m stand label =
    mark stand ++ (fitted (fill m) (width - 2) (label_text width m label) ++ tip m)

-- ---- cells, by the kind of chart

unfoldable pub cell : Sheet → Marks → Lane → ℕ → List ℕ → List ℕ
cell sheet m lane behind label = by sheet.chart
  where
    by : Chart → List ℕ
    by (chart.Lanes width) = lanes_cell (cell_width width sheet.lanes) m lane.stand label
    by chart.Picture = picture_cell sheet.row (sheet.lanes - (behind + 1)) m lane.stand label

-- the cell of the first of these lanes; `passed`: the lane of who acted stands before them
unfoldable pub first_cell : Sheet → Names → Entry → List ℕ → Bool → List Lane → List ℕ
first_cell sheet names e label passed [] = []
first_cell sheet names e label passed (lane ∷ rest) =
    cell sheet (marks_of names e passed lane rest) lane (length rest) label

-- whether the lane of who acted stands before the second of these lanes
unfoldable pub has_passed : Entry → Bool → List Lane → Bool
has_passed e passed [] = passed
has_passed e passed (lane ∷ rest) = passed || is_lane_of e.actor lane

-- the cells of lanes
unfoldable pub cells : Sheet → Names → Entry → List ℕ → Bool → List Lane → List ℕ
cells sheet names e label passed [] = []
cells sheet names e label passed (lane ∷ rest) =
    first_cell sheet names e label passed (lane ∷ rest)
    ++ cells sheet names e label (has_passed e passed (lane ∷ rest)) rest

-- the name of a lane above its cells
unfoldable pub name_cell : Sheet → Lane → ℕ → List ℕ
name_cell sheet lane behind = by sheet.chart
  where
    by : Chart → List ℕ
    by (chart.Lanes width) = fitted 32 (cell_width width sheet.lanes) (actor_text lane.actor)
    by chart.Picture = picture_name (sheet.lanes - (behind + 1)) (actor_text lane.actor)

unfoldable pub first_name : Sheet → List Lane → List ℕ
first_name sheet [] = []
first_name sheet (lane ∷ rest) = name_cell sheet lane (length rest)

unfoldable pub name_cells : Sheet → List Lane → List ℕ
name_cells sheet [] = []
name_cells sheet (lane ∷ rest) = first_name sheet (lane ∷ rest) ++ name_cells sheet rest

-- ---- rows

unfoldable pub line_text : List ℕ → List ℕ → List ℕ
line_text number t = trimmed (fitted 32 8 number ++ t) ++ codes "\n"

-- the row of the entry of a number, before which these handles are open, and after which lanes stand so
unfoldable pub row_text : Sheet → Bool → ℕ → Names → List Lane → Entry → List ℕ
row_text sheet full n names lanes e = by sheet.chart
  where
    drawn : List ℕ
    drawn = cells sheet names e (brief_text names e.act) false lanes

    by : Chart → List ℕ
    by (chart.Lanes width) = line_text (decimal n) drawn
    by chart.Picture = picture_row sheet.row n (words_of full n names e) drawn

-- what stands above the rows, of which there are so many, and below them
unfoldable pub marks_above : List ℕ
marks_above = codes "| runs  + made, no turn yet  # stopped on an event  = stopped on request"

unfoldable pub marks_besides : List ℕ
marks_besides = codes "  z asleep  T stopped by a signal  x ends\n"

unfoldable pub legend : List ℕ
legend = marks_above ++ marks_besides

unfoldable pub head_text : Sheet → List Lane → List ℕ
head_text sheet lanes = by sheet.chart
  where
    by : Chart → List ℕ
    by (chart.Lanes width) = legend ++ line_text [] (name_cells sheet lanes)
    by chart.Picture = picture_head sheet.row sheet.lanes ++ name_cells sheet lanes

unfoldable pub foot_text : Chart → List ℕ
foot_text (chart.Lanes width) = []
foot_text chart.Picture = picture_foot
