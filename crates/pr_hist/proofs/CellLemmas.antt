-- The cells of a row and the names above them, one lane after another.
use Rattle.std.proofs.Common.{◌≡◌, ℕ, ◌+◌, ◌<◌, ◌≤◌, Bool, List, [], ◌∷◌, ◌++◌, length, drop, get_or, sym, ap, ◌∙◌, append_assoc, arith}
use Rattle.std.proofs.lemmas.List.{append-nil, drop_more, length-drop, nil_from_length}
use Rattle.pr_model.specs.declared.events.Actor.TheVariants.{Clock}
use Rattle.pr_model.specs.declared.events.Entry.{Entry}
use Rattle.pr_hist.specs.Charts.{cells, first_cell, first_name, has_passed, name_cells}
use Rattle.pr_hist.specs.Names.{Names}
use Rattle.pr_hist.specs.declared.charts.Sheet.{Sheet}
use Rattle.pr_hist.specs.declared.lanes.Lane.{Lane}
use Rattle.pr_hist.specs.declared.lanes.Stand.TheVariants.{Absent}

-- a lane, where one is asked for
nobody : Lane
nobody = record { actor = Clock; stand = Absent }

none-left : (i : ℕ) (lanes : List Lane) → length lanes ≤ i → drop i lanes ≡ []
none-left i lanes past = nil_from_length (drop i lanes) (omega (arith, past, length-drop i lanes))

cells-more : (sheet : Sheet) (names : Names) (e : Entry) (label : List ℕ) (passed : Bool) (left rest : List Lane)
    (lane : Lane) → left ≡ lane ∷ rest
    → cells sheet names e label passed left
    ≡ first_cell sheet names e label passed left ++ cells sheet names e label (has_passed e passed left) rest
unfolding cells
cells-more sheet names e label passed left rest lane is =
    ap (cells sheet names e label passed) is
    ∙ ap (λ ls. first_cell sheet names e label passed ls ++ cells sheet names e label (has_passed e passed ls) rest)
    (sym is)

pub cells-next : (sheet : Sheet) (names : Names) (e : Entry) (label : List ℕ) (passed beyond : Bool) (i : ℕ)
    (lanes : List Lane) (now next all : List ℕ) → i < length lanes
    → next ≡ now ++ first_cell sheet names e label passed (drop i lanes) → beyond ≡ has_passed e passed (drop i lanes)
    → now ++ cells sheet names e label passed (drop i lanes) ≡ all
    → next ++ cells sheet names e label beyond (drop (i + 1) lanes) ≡ all
cells-next sheet names e label passed beyond i lanes now next all within is passes before =
    ap (λ t. t ++ cells sheet names e label beyond (drop (i + 1) lanes)) is
    ∙ ap (λ b. (now ++ first_cell sheet names e label passed (drop i lanes))
    ++ cells sheet names e label b (drop (i + 1) lanes)) passes
    ∙ append_assoc now (first_cell sheet names e label passed (drop i lanes))
    (cells sheet names e label (has_passed e passed (drop i lanes)) (drop (i + 1) lanes))
    ∙ ap (λ t. now ++ t) (sym (cells-more sheet names e label passed (drop i lanes) (drop (i + 1) lanes)
    (get_or lanes i nobody) (drop_more lanes i nobody within)))
    ∙ before

pub cells-done : (sheet : Sheet) (names : Names) (e : Entry) (label : List ℕ) (passed : Bool) (i : ℕ)
    (lanes : List Lane) (now all : List ℕ) → length lanes ≤ i
    → now ++ cells sheet names e label passed (drop i lanes) ≡ all → now ≡ all
unfolding cells
cells-done sheet names e label passed i lanes now all past is =
    sym (append-nil now)
    ∙ ap (λ ls. now ++ cells sheet names e label passed ls) (sym (none-left i lanes past)) ∙ is

name_cells-more : (sheet : Sheet) (left rest : List Lane) (lane : Lane) → left ≡ lane ∷ rest
    → name_cells sheet left ≡ first_name sheet left ++ name_cells sheet rest
unfolding name_cells
name_cells-more sheet left rest lane is =
    ap (name_cells sheet) is ∙ ap (λ ls. first_name sheet ls ++ name_cells sheet rest) (sym is)

pub name_cells-next : (sheet : Sheet) (i : ℕ) (lanes : List Lane) (now next all : List ℕ) → i < length lanes
    → next ≡ now ++ first_name sheet (drop i lanes) → now ++ name_cells sheet (drop i lanes) ≡ all
    → next ++ name_cells sheet (drop (i + 1) lanes) ≡ all
name_cells-next sheet i lanes now next all within is before =
    ap (λ t. t ++ name_cells sheet (drop (i + 1) lanes)) is
    ∙ append_assoc now (first_name sheet (drop i lanes)) (name_cells sheet (drop (i + 1) lanes))
    ∙ ap (λ t. now ++ t) (sym (name_cells-more sheet (drop i lanes) (drop (i + 1) lanes) (get_or lanes i nobody)
    (drop_more lanes i nobody within)))
    ∙ before

pub name_cells-done : (sheet : Sheet) (i : ℕ) (lanes : List Lane) (now all : List ℕ) → length lanes ≤ i
    → now ++ name_cells sheet (drop i lanes) ≡ all → now ≡ all
unfolding name_cells
name_cells-done sheet i lanes now all past is =
    sym (append-nil now) ∙ ap (λ ls. now ++ name_cells sheet ls) (sym (none-left i lanes past)) ∙ is
