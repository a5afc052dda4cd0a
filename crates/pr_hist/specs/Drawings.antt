-- Whole charts: the lanes of a history, and a row for each entry that is told.
use Rattle.std.specs.Prelude.{ℕ, ◌+◌, ◌&&◌, Bool, false, Option, Some, None, List, [], ◌∷◌, ◌++◌, length, nat_lt, if◌then◌else◌}
use Rattle.pr_model.specs.declared.events.Entry.{Entry}
use Rattle.pr_hist.specs.Charts.{foot_text, head_text, row_text}
use Rattle.pr_hist.specs.Lanes.{lanes_after, lanes_of}
use Rattle.pr_hist.specs.Names.{Names}
use Rattle.pr_hist.specs.News.{names_beyond, nothing_known}
use Rattle.pr_hist.specs.Selections.{is_told}
use Rattle.pr_hist.specs.declared.charts.Chart.{Chart}
use Rattle.pr_hist.specs.declared.charts.Chart.TheVariants as chart
use Rattle.pr_hist.specs.declared.charts.Sheet.{Sheet}
use Rattle.pr_hist.specs.declared.lanes.Lane.{Lane}
use Rattle.pr_hist.specs.declared.selections.Selection.{Selection}

-- the chart, the number of the row, and how many lanes there are
abbrev pub sheet_of : Chart → ℕ → List Lane → Sheet
sheet_of c row lanes = record { chart = c; row = row; lanes = length lanes }

-- how many rows there are with an entry, where it is told
unfoldable pub row_after : Selection → ℕ → ℕ → Names → Entry → ℕ
row_after s n row names e = if is_told s n names e then row + 1 else row

-- the row of an entry, where it is told
unfoldable pub drawn_row : Chart → Selection → ℕ → ℕ → Names → List Lane → Entry → List ℕ
drawn_row c s n row names lanes e =
    if is_told s n names e then row_text (sheet_of c row lanes) s.full n names lanes e else []

-- The rows of entries that count from a number. Before them there are so many rows, these handles are open, and lanes
-- stand so.
unfoldable pub rows_text : Chart → Selection → ℕ → ℕ → Names → List Lane → List Entry → List ℕ
rows_text c s n row names lanes [] = []
rows_text c s n row names lanes (e ∷ es) =
    drawn_row c s n row names (lanes_after e lanes) e
    ++ rows_text c s (n + 1) (row_after s n row names e) (names_beyond names n e) (lanes_after e lanes) es

-- how many rows there are behind entries
unfoldable pub rows_from : Selection → ℕ → ℕ → Names → List Entry → ℕ
rows_from s n row names [] = row
rows_from s n row names (e ∷ es) = rows_from s (n + 1) (row_after s n row names e) (names_beyond names n e) es

-- Which entries are told, their handles say, and not what processes run.
abbrev pub rows_of : Selection → List Entry → ℕ
rows_of s es = rows_from s 0 0 nothing_known es

-- whether a chart has too many rows: a picture of more than 5,000 is none
unfoldable pub is_too_long : Chart → ℕ → Bool
is_too_long (chart.Lanes width) rows = false
is_too_long chart.Picture rows = nat_lt 5000 rows

-- a chart with these lanes and so many rows, before which this is known
unfoldable pub drawn : Chart → Selection → Names → List Lane → ℕ → List Entry → List ℕ
drawn c s names lanes rows es =
    head_text (sheet_of c rows lanes) lanes ++ (rows_text c s 0 0 names lanes es ++ foot_text c)

-- the chart of a history, or of a part of it; none where it has too many rows
unfoldable pub chart_of : Chart → Selection → Names → List Entry → Option (List ℕ)
chart_of c s names es =
    if is_too_long c (rows_of s es) then None else Some (drawn c s names (lanes_of s.who es) (rows_of s es) es)
