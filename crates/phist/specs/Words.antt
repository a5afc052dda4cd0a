-- What the words after the program's name ask for.
use Rattle.std.specs.Prelude.{ℕ, ◌==◌, ◌+◌, ◌-◌, ◌^◌, ◌&&◌, Bool, true, false, nat_le, Option, Some, None, List, [], ◌∷◌, codes, drop, take, is_some, option_map, option_and_then, position, if◌then◌else◌}
use Rattle.std.specs.List.{flat_map}
use Rattle.std.specs.Str.{bytes_eq}
use Rattle.pr_hist.specs.declared.charts.Chart.{Chart}
use Rattle.pr_hist.specs.declared.charts.Chart.TheVariants.{Lanes, Picture}
use Rattle.pr_hist.specs.declared.selections.Selection.{Selection}
use Rattle.pr_hist.specs.declared.selections.Who.{Who}
use Rattle.pr_hist.specs.declared.selections.Who.TheVariants.{Controller, Process, Lwp}
use Rattle.pr_text.specs.NumberWords.{id_of, number_of}
use Rattle.pr_hist.specs.Texts.{spaced_text}
use Rattle.phist.specs.declared.words.Asking.{Asking}
use Rattle.phist.specs.declared.words.Operand.{Operand}
use Rattle.phist.specs.declared.words.Operand.TheVariants as operand
use Rattle.phist.specs.declared.words.Work.{Work}
use Rattle.phist.specs.declared.words.Work.TheVariants.{Tells, Selects, Draws, Spells, Explains}

-- what stands before and behind the first byte of a kind, where there is one
abbrev pub around : List ℕ → Option ℕ → Option (List ℕ × List ℕ)
around w None = None
around w (Some i) = Some (take i w, drop (i + 1) w)

unfoldable pub cut_at : ℕ → List ℕ → Option (List ℕ × List ℕ)
cut_at b w = around w (position (λ c. c == b) w)

-- an lwp: the id of its process, a slash and its own
abbrev pub lwp_with : Option ℕ → Option ℕ → Option Who
lwp_with (Some p) (Some l) = Some (Lwp p l)
lwp_with _ _ = None

abbrev pub lwp_by : Option (List ℕ × List ℕ) → Option Who
lwp_by None = None
lwp_by (Some ids) = lwp_with (id_of ids.0) (id_of ids.1)

unfoldable pub lwp_of : List ℕ → Option Who
lwp_of w = lwp_by (cut_at 47 w)

-- the numbers of two entries, with a dash between
abbrev pub range_with : Option ℕ → Option ℕ → Option (ℕ × ℕ)
range_with (Some from) (Some to) = Some (from, to)
range_with _ _ = None

abbrev pub range_by : Option (List ℕ × List ℕ) → Option (ℕ × ℕ)
range_by None = None
range_by (Some ends) = range_with (number_of ends.0) (number_of ends.1)

unfoldable pub range_of : List ℕ → Option (ℕ × ℕ)
range_of w = range_by (cut_at 45 w)

-- options, none of which awaits its operand, with this selection
abbrev pub ready : Asking → Selection → Asking
ready a s = record { chart = a.chart; selection = s; operand = None }

-- whose entries are told; once one is named, no other may be
abbrev pub with_who : Asking → Option Who → Option Asking
with_who a None = None
with_who a (Some w) =
    if is_some a.selection.who then None else Some (ready a (record a.selection { who = Some w }))

abbrev pub with_range : Asking → Option (ℕ × ℕ) → Option Asking
with_range a None = None
with_range a (Some ends) = Some (ready a (record a.selection { from = ends.0; to = ends.1 }))

-- whether lines may be so wide
unfoldable pub is_width : ℕ → Bool
is_width n = nat_le 20 n && nat_le n 1000

abbrev pub with_width : Asking → Option ℕ → Option Asking
with_width a None = None
with_width a (Some n) =
    if is_width n then Some (record { chart = Some (Lanes n); selection = a.selection; operand = None }) else None

-- an option with its operand, a row an option
unfoldable pub with_operand : Asking → Operand → List ℕ → Option Asking
with_operand a operand.Process w = with_who a (option_map Process (id_of w))
with_operand a operand.Controller w = with_who a (option_map Controller (id_of w))
with_operand a operand.Lwp w = with_who a (lwp_of w)
with_operand a operand.Numbers w = with_range a (range_of w)
with_operand a operand.Width w = with_width a (number_of w)

abbrev pub waiting : Asking → Operand → Asking
waiting a o = record { chart = a.chart; selection = a.selection; operand = Some o }

-- whether lines are drawn, which have a width
abbrev pub has_width : Option Chart → Bool
has_width None = false
has_width (Some (Lanes n)) = true
has_width (Some Picture) = false

-- an option; those but -v have an operand
unfoldable pub with_flag : Asking → List ℕ → Option Asking
with_flag a w =
    if bytes_eq w (codes "-v") then Some (ready a (record a.selection { full = true }))
    else (if bytes_eq w (codes "-p") then Some (waiting a operand.Process)
    else (if bytes_eq w (codes "-c") then Some (waiting a operand.Controller)
    else (if bytes_eq w (codes "-l") then Some (waiting a operand.Lwp)
    else (if bytes_eq w (codes "-n") then Some (waiting a operand.Numbers)
    else (if bytes_eq w (codes "-w") && has_width a.chart then Some (waiting a operand.Width)
    else None)))))

-- one word more
abbrev pub word_by : Asking → List ℕ → Option Operand → Option Asking
word_by a w None = with_flag a w
word_by a w (Some o) = with_operand a o w

unfoldable pub with_word : Asking → List ℕ → Option Asking
with_word a w = word_by a w a.operand

unfoldable pub with_words : Asking → List (List ℕ) → Option Asking
with_words a [] = Some a
with_words a (w ∷ ws) = option_and_then (λ b. with_words b ws) (with_word a w)

-- every entry
abbrev pub every : Selection
every = record { who = None; from = 0; to = 2 ^ 64 - 1; full = false }

-- before the first option
abbrev pub begun : Option Chart → Asking
begun c = record { chart = c; selection = every; operand = None }

-- what options ask for, none of which may await its operand
abbrev pub work_by : Selection → Option Operand → Option Chart → Work
work_by s (Some o) c = Explains
work_by s None None = Selects s
work_by s None (Some c) = Draws c s

abbrev pub work_with : Option Asking → Work
work_with None = Explains
work_with (Some a) = work_by a.selection a.operand a.chart

-- what options ask for, with this chart or with words
unfoldable pub asked_for : Option Chart → List (List ℕ) → Work
asked_for c ws = work_with (with_words (begun c) ws)

-- words on a line, each behind a blank; + parts words as a blank does
abbrev pub joined : List (List ℕ) → List ℕ
joined ws = flat_map spaced_text ws

-- No words: the whole history is told. `bytes` and words: the bytes that they spell. `lanes`, `svg` and options: a
-- chart of the history or of a part of it. Options alone: a part of it, or all of it with all fields. Other words ask
-- for nothing.
unfoldable pub work_of : List (List ℕ) → Work
work_of [] = Tells
work_of (w ∷ ws) =
    if bytes_eq w (codes "bytes") then Spells (joined ws)
    else (if bytes_eq w (codes "lanes") then asked_for (Some (Lanes 80)) ws
    else (if bytes_eq w (codes "svg") then asked_for (Some Picture) ws
    else asked_for None (w ∷ ws)))
