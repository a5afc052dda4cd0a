-- The picture of a history in SVG 1.1, without a script, a font or a file from elsewhere: a row an entry, with a title
-- that says the entry in words, and in it for each lane a bar by how it stands, a dot and a few words for who acted,
-- and arrows for messages and births.
use Rattle.std.specs.Prelude.{ℕ, ◌==◌, ◌+◌, ◌*◌, List, [], ◌∷◌, ◌++◌, codes, decimal, max, min, take, if◌then◌else◌}
use Rattle.std.specs.List.{flat_map}
use Rattle.pr_hist.specs.declared.charts.Marks.{Marks}
use Rattle.pr_hist.specs.declared.lanes.Stand.{Stand}
use Rattle.pr_hist.specs.declared.lanes.Stand.TheVariants.{Absent, New, Runs, OnEvent, Requested, Asleep, JobStopped, Ends}
use Rattle.pr_hist.specs.declared.pictures.Piece.{Piece}
use Rattle.pr_hist.specs.declared.pictures.Piece.TheVariants as piece

-- the fixed texts between what is drawn, each under a name
unfoldable pub piece_text : Piece → List ℕ
piece_text piece.Open = codes "<svg class='phist' xmlns='http://www.w3.org/2000/svg' version='1.1' width='"
piece_text piece.Height = codes "' height='"
piece_text piece.Font = codes "' font-family='monospace' font-size='11'>\n<style>\n"
piece_text piece.StyleText = codes ".phist text,.phist circle{fill:#222}path.t{fill:#2d6a4f}\n"
piece_text piece.StyleRuns = codes "path.r,path.n{stroke:#8a8f98;stroke-width:2}path.n{stroke-dasharray:2 3}\n"
piece_text piece.StyleStops = codes "path.e{stroke:#c0392b;stroke-width:8}path.q{stroke:#e09f1f;stroke-width:8}\n"
piece_text piece.StyleOthers =
    codes "path.j{stroke:#7d3c98;stroke-width:8}path.s{stroke:#3f7fbf;stroke-width:4;stroke-dasharray:3}\n"
piece_text piece.StyleEnds =
    codes "path.x{stroke:#222;stroke-width:5;stroke-dasharray:2 2}path.m{stroke:#2d6a4f}\n</style>\n"
piece_text piece.Page = codes "<rect width='100%' height='100%' fill='#fdfcf8'/>\n"
piece_text piece.LegendRuns = codes "<path class='r' d='M12 10v18'/><text x='22' y='23'>runs</text>\n"
piece_text piece.LegendNew = codes "<path class='n' d='M72 10v18'/><text x='82' y='23'>made, no turn yet</text>\n"
piece_text piece.LegendEvent = codes "<path class='e' d='M208 10v18'/><text x='218' y='23'>stopped on an event</text>\n"
piece_text piece.LegendRequested =
    codes "<path class='q' d='M364 10v18'/><text x='374' y='23'>stopped on request</text>\n"
piece_text piece.LegendAsleep = codes "<path class='s' d='M514 10v18'/><text x='524' y='23'>asleep</text>\n"
piece_text piece.LegendJob = codes "<path class='j' d='M586 10v18'/><text x='596' y='23'>stopped by a signal</text>\n"
piece_text piece.LegendEnds = codes "<path class='x' d='M742 10v18'/><text x='752' y='23'>ends</text>\n"
piece_text piece.Close = codes "</svg>\n"
piece_text piece.RowTitle = codes "<g><title>"
piece_text piece.RowNumber = codes "</title><text x='8' dy='4' y='"
piece_text piece.RowEnd = codes "</g>\n"
piece_text piece.Bar = codes "<path class='"
piece_text piece.From = codes "' d='M"
piece_text piece.Down = codes "v22'/>"
piece_text piece.Arrow = codes "<path class='m' d='M"
piece_text piece.Across = codes "h180'/>"
piece_text piece.Tip = codes "<path class='t' d='M"
piece_text piece.Head = codes "m176 0l-9-4v8z'/>"
piece_text piece.Dot = codes "<circle r='4' cx='"
piece_text piece.DotRow = codes "' cy='"
piece_text piece.Shut = codes "'/>"
piece_text piece.Label = codes "<text dx='9' dy='-6' x='"
piece_text piece.LabelRow = codes "' y='"
piece_text piece.TextOpen = codes "'>"
piece_text piece.TextEnd = codes "</text>"
piece_text piece.Name = codes "<text y='58' font-weight='bold' text-anchor='middle' x='"

-- text in XML
unfoldable pub escaped_byte : ℕ → List ℕ
escaped_byte b =
    if b == 38 then codes "&amp;" else (if b == 60 then codes "&lt;" else (if b == 62 then codes "&gt;" else b ∷ []))

unfoldable pub escaped : List ℕ → List ℕ
escaped t = flat_map escaped_byte t

-- ---- places

-- where a column and a row stand; what lies beyond the last ones of a picture stands on these
unfoldable pub across : ℕ → List ℕ
across column = decimal (80 + 180 * min column 10000)

unfoldable pub down : ℕ → List ℕ
down row = decimal (84 + 22 * min row 5000)

unfoldable pub point : ℕ → ℕ → List ℕ
point row column = across column ++ (codes " " ++ down row)

-- ---- cells

-- the kind of a bar, by how its lane stands
unfoldable pub bar_kind : Stand → List ℕ
bar_kind Absent = []
bar_kind New = codes "n"
bar_kind Runs = codes "r"
bar_kind OnEvent = codes "e"
bar_kind Requested = codes "q"
bar_kind Asleep = codes "s"
bar_kind JobStopped = codes "j"
bar_kind Ends = codes "x"

unfoldable pub bar_of : ℕ → ℕ → List ℕ → List ℕ
bar_of row column kind =
    piece_text piece.Bar ++ (kind ++ (piece_text piece.From ++ (point row column ++ piece_text piece.Down)))

unfoldable pub bar : ℕ → ℕ → Stand → List ℕ
bar row column Absent = []
bar row column stand = bar_of row column (bar_kind stand)

-- the part of an arrow behind a lane, and its tip
unfoldable pub arrow : ℕ → ℕ → List ℕ
arrow row column = piece_text piece.Arrow ++ (point row column ++ piece_text piece.Across)

unfoldable pub arrow_tip : ℕ → ℕ → List ℕ
arrow_tip row column = piece_text piece.Tip ++ (point row column ++ piece_text piece.Head)

-- a dot and the words of the entry
unfoldable pub dot : ℕ → ℕ → List ℕ
dot row column =
    piece_text piece.Dot ++ (across column ++ (piece_text piece.DotRow ++ (down row ++ piece_text piece.Shut)))

unfoldable pub label_place : ℕ → ℕ → List ℕ
label_place row column = piece_text piece.Label ++ (across column ++ (piece_text piece.LabelRow ++ down row))

unfoldable pub label_words : List ℕ → List ℕ
label_words words = piece_text piece.TextOpen ++ (escaped (take 25 words) ++ piece_text piece.TextEnd)

unfoldable pub label : ℕ → ℕ → List ℕ → List ℕ
label row column words = label_place row column ++ label_words words

unfoldable pub arrow_if : ℕ → ℕ → Marks → List ℕ
arrow_if row column m =
    if m.arrow then arrow row column ++ (if m.tip then arrow_tip row column else []) else []

unfoldable pub act_if : ℕ → ℕ → Marks → List ℕ → List ℕ
act_if row column m words = if m.acts then dot row column ++ label row column words else []

unfoldable pub picture_cell : ℕ → ℕ → Marks → Stand → List ℕ → List ℕ
picture_cell row column m stand words =
    bar row column stand ++ (arrow_if row column m ++ act_if row column m words)

-- ---- rows, and what stands around them

-- a row: its title, the number of the entry, and the cells
unfoldable pub row_title : List ℕ → List ℕ
row_title words = piece_text piece.RowTitle ++ escaped words

unfoldable pub row_number : ℕ → ℕ → List ℕ
row_number row n =
    piece_text piece.RowNumber ++ (down row ++ (piece_text piece.TextOpen ++ (decimal n ++ piece_text piece.TextEnd)))

unfoldable pub picture_row : ℕ → ℕ → List ℕ → List ℕ → List ℕ
picture_row row n words drawn = row_title words ++ (row_number row n ++ (drawn ++ piece_text piece.RowEnd))

unfoldable pub picture_name : ℕ → List ℕ → List ℕ
picture_name column name =
    piece_text piece.Name ++ (across column ++ (piece_text piece.TextOpen ++ (name ++ piece_text piece.TextEnd)))

-- what stands behind the size of a picture: its styles, its ground and the legend
abbrev pub page : List Piece
page =
    piece.Font ∷ piece.StyleText ∷ piece.StyleRuns ∷ piece.StyleStops ∷ piece.StyleOthers ∷ piece.StyleEnds ∷ piece.Page
    ∷ piece.LegendRuns ∷ piece.LegendNew ∷ piece.LegendEvent ∷ piece.LegendRequested ∷ piece.LegendAsleep
    ∷ piece.LegendJob ∷ piece.LegendEnds ∷ []

-- the head of a picture of so many rows and lanes
unfoldable pub picture_head : ℕ → ℕ → List ℕ
picture_head rows lanes =
    piece_text piece.Open
    ++ (across (max lanes 4) ++ (piece_text piece.Height ++ (down rows ++ flat_map piece_text page)))

unfoldable pub picture_foot : List ℕ
picture_foot = piece_text piece.Close
