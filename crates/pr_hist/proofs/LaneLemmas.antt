-- The lanes of a history and the rows of a chart, one entry after another.
use Rattle.std.proofs.Common.{◌≡◌, ℕ, ◌+◌, ◌≤◌, List, ◌++◌, Option, Some, length, drop, sym, ap, ◌∙◌, append_assoc}
use Rattle.std.proofs.lemmas.List.{append-nil}
use Rattle.std.specs.List.{slice_get}
use Rattle.pr_num.proofs.ListLemmas.{drop-at}
use Rattle.pr_model.specs.declared.events.Entry.{Entry}
use Rattle.pr_hist.specs.Drawings.{drawn_row, row_after, rows_from, rows_text}
use Rattle.pr_hist.specs.Lanes.{lanes_after, with_entries, with_entry}
use Rattle.pr_hist.specs.Names.{Names}
use Rattle.pr_hist.specs.News.{names_beyond}
use Rattle.pr_hist.specs.declared.charts.Chart.{Chart}
use Rattle.pr_hist.specs.declared.lanes.Lane.{Lane}
use Rattle.pr_hist.specs.declared.selections.Selection.{Selection}
use Rattle.pr_hist.specs.declared.selections.Who.{Who}
use Rattle.pr_hist.proofs.BlockLemmas.{drop-past}

-- ---- lanes

with_entries-more : (r : ℕ) (w : Option Who) (i : ℕ) (lanes : List Lane) (h : List Entry) (e : Entry)
    → slice_get h i ≡ Some e
    → with_entries r w lanes (drop i h) ≡ with_entries r w (with_entry r w e lanes) (drop (i + 1) h)
unfolding with_entries
with_entries-more r w i lanes h e here = ap (with_entries r w lanes) (drop-at h i e here)

pub with_entries-next : (r : ℕ) (w : Option Who) (i : ℕ) (lanes next : List Lane) (h : List Entry) (e : Entry)
    (all : List Lane) → slice_get h i ≡ Some e → next ≡ with_entry r w e lanes
    → with_entries r w lanes (drop i h) ≡ all → with_entries r w next (drop (i + 1) h) ≡ all
with_entries-next r w i lanes next h e all here is before =
    ap (λ ls. with_entries r w ls (drop (i + 1) h)) is ∙ sym (with_entries-more r w i lanes h e here) ∙ before

pub with_entries-done : (r : ℕ) (w : Option Who) (i : ℕ) (lanes : List Lane) (h : List Entry) (all : List Lane)
    → length h ≤ i → with_entries r w lanes (drop i h) ≡ all → lanes ≡ all
unfolding with_entries
with_entries-done r w i lanes h all past is = ap (with_entries r w lanes) (sym (drop-past i h past)) ∙ is

-- ---- how many rows there are

rows_from-more : (s : Selection) (i row : ℕ) (names : Names) (h : List Entry) (e : Entry) → slice_get h i ≡ Some e
    → rows_from s i row names (drop i h)
    ≡ rows_from s (i + 1) (row_after s i row names e) (names_beyond names i e) (drop (i + 1) h)
unfolding rows_from
rows_from-more s i row names h e here = ap (rows_from s i row names) (drop-at h i e here)

pub rows_from-next : (s : Selection) (i row next : ℕ) (names beyond : Names) (h : List Entry) (e : Entry) (all : ℕ)
    → slice_get h i ≡ Some e → next ≡ row_after s i row names e → beyond ≡ names_beyond names i e
    → rows_from s i row names (drop i h) ≡ all → rows_from s (i + 1) next beyond (drop (i + 1) h) ≡ all
rows_from-next s i row next names beyond h e all here is noted before =
    ap (λ r. rows_from s (i + 1) r beyond (drop (i + 1) h)) is
    ∙ ap (λ ns. rows_from s (i + 1) (row_after s i row names e) ns (drop (i + 1) h)) noted
    ∙ sym (rows_from-more s i row names h e here)
    ∙ before

pub rows_from-done : (s : Selection) (i row : ℕ) (names : Names) (h : List Entry) (all : ℕ) → length h ≤ i
    → rows_from s i row names (drop i h) ≡ all → row ≡ all
unfolding rows_from
rows_from-done s i row names h all past is = ap (rows_from s i row names) (sym (drop-past i h past)) ∙ is

-- ---- rows

rows_text-more : (c : Chart) (s : Selection) (i row : ℕ) (names : Names) (lanes : List Lane) (h : List Entry)
    (e : Entry)
    → slice_get h i ≡ Some e
    → rows_text c s i row names lanes (drop i h)
    ≡ drawn_row c s i row names (lanes_after e lanes) e
    ++ rows_text c s (i + 1) (row_after s i row names e) (names_beyond names i e) (lanes_after e lanes) (drop (i + 1) h)
unfolding rows_text
rows_text-more c s i row names lanes h e here = ap (rows_text c s i row names lanes) (drop-at h i e here)

pub rows_text-next : (c : Chart) (s : Selection) (i row further : ℕ) (names beyond : Names) (lanes moved : List Lane)
    (h : List Entry) (e : Entry) (now next all : List ℕ)
    → slice_get h i ≡ Some e → further ≡ row_after s i row names e → beyond ≡ names_beyond names i e
    → moved ≡ lanes_after e lanes → next ≡ now ++ drawn_row c s i row names moved e
    → now ++ rows_text c s i row names lanes (drop i h) ≡ all
    → next ++ rows_text c s (i + 1) further beyond moved (drop (i + 1) h) ≡ all
rows_text-next c s i row further names beyond lanes moved h e now next all here counted noted moves is before =
    ap (λ t. t ++ rows_text c s (i + 1) further beyond moved (drop (i + 1) h)) is
    ∙ ap (λ r. (now ++ drawn_row c s i row names moved e) ++ rows_text c s (i + 1) r beyond moved (drop (i + 1) h))
    counted
    ∙ ap (λ ns. (now ++ drawn_row c s i row names moved e)
    ++ rows_text c s (i + 1) (row_after s i row names e) ns moved (drop (i + 1) h)) noted
    ∙ ap (λ ls. (now ++ drawn_row c s i row names ls e)
    ++ rows_text c s (i + 1) (row_after s i row names e) (names_beyond names i e) ls (drop (i + 1) h)) moves
    ∙ append_assoc now (drawn_row c s i row names (lanes_after e lanes) e)
    (rows_text c s (i + 1) (row_after s i row names e) (names_beyond names i e) (lanes_after e lanes) (drop (i + 1) h))
    ∙ ap (λ t. now ++ t) (sym (rows_text-more c s i row names lanes h e here))
    ∙ before

pub rows_text-done : (c : Chart) (s : Selection) (i row : ℕ) (names : Names) (lanes : List Lane) (h : List Entry)
    (now all : List ℕ) → length h ≤ i → now ++ rows_text c s i row names lanes (drop i h) ≡ all → now ≡ all
unfolding rows_text
rows_text-done c s i row names lanes h now all past is =
    sym (append-nil now) ∙ ap (λ es. now ++ rows_text c s i row names lanes es) (sym (drop-past i h past)) ∙ is
