-- A part of a history in words, and a chart, grow by what an entry adds, if it is told.
use Rattle.std.proofs.Common.{◌≡◌, ℕ, ◌+◌, ◌&&◌, Bool, true, false, if◌then◌else◌, Option, None, Some, List, [], ◌∷◌, ◌++◌, length, nat_le, refl, sym, ap, ◌∙◌, append_assoc, arith}
use Rattle.std.proofs.lemmas.List.{append-nil, length-map}
use Rattle.std.specs.List.{list_any}
use Rattle.pr_num.specs.ById.{under}
use Rattle.pr_model.specs.declared.calls.Call.{Call}
use Rattle.pr_model.specs.declared.calls.Call.TheVariants as call
use Rattle.pr_model.specs.declared.calls.Reply.{Reply}
use Rattle.pr_model.specs.declared.events.Act.{Act}
use Rattle.pr_model.specs.declared.events.Act.TheVariants as act
use Rattle.pr_model.specs.declared.events.Actor.{Actor}
use Rattle.pr_model.specs.declared.events.Actor.TheVariants as actor
use Rattle.pr_model.specs.declared.events.Entry.{Entry}
use Rattle.pr_hist.specs.Charts.{row_text}
use Rattle.pr_hist.specs.Drawings.{drawn_row, row_after, rows_from, rows_of, rows_text, sheet_of}
use Rattle.pr_hist.specs.Entries.{words_of}
use Rattle.pr_hist.specs.Lanes.{lane_after, lanes_after}
use Rattle.pr_hist.specs.Laws.{lane_behind, lanes_behind, names_behind, stand_behind}
use Rattle.pr_hist.specs.Names.{Names, handles_after}
use Rattle.pr_hist.specs.News.{names_beyond, nothing_known}
use Rattle.pr_hist.specs.Selections.{is_about, is_call_about, is_known_of, is_of, is_of_any, is_of_process, is_told, selected, selected_blocks, selected_text, stands_for}
use Rattle.pr_hist.specs.declared.charts.Chart.{Chart}
use Rattle.pr_hist.specs.declared.lanes.Lane.{Lane}
use Rattle.pr_hist.specs.declared.selections.Selection.{Selection}
use Rattle.pr_hist.specs.declared.selections.Who.{Who}
use Rattle.pr_hist.specs.declared.selections.Who.TheVariants as who

-- ---- parts

pub selected_text-none : (s : Selection) (names : Names) → selected_text s names [] ≡ []
unfolding selected_blocks
selected_text-none s names = refl

-- the blocks of one entry more
selected-end : (s : Selection) (n : ℕ) (names : Names) (es : List Entry) (e : Entry)
    → selected_blocks s n names (es ++ e ∷ [])
    ≡ selected_blocks s n names es ++ selected s (n + length es) (names_behind names n es) e
unfolding selected_blocks names_behind
selected-end s n names [] e =
    append-nil (selected s n names e) ∙ ap (λ k. selected s k names e) {x = n} {y = n + 0} (omega arith)
selected-end s n names (d ∷ es) e =
    ap (λ t. selected s n names d ++ t) (selected-end s (n + 1) (names_beyond names n d) es e)
    ∙ sym (append_assoc (selected s n names d) (selected_blocks s (n + 1) (names_beyond names n d) es)
    (selected s (n + 1 + length es) (names_behind (names_beyond names n d) (n + 1) es) e))
    ∙ ap (λ k. selected s n names d ++ selected_blocks s (n + 1) (names_beyond names n d) es
    ++ selected s k (names_behind (names_beyond names n d) (n + 1) es) e)
    {x = n + 1 + length es} {y = n + length (d ∷ es)} (omega arith)

-- the same by whether that is told
selected-if : (s : Selection) (names : Names) (es : List Entry) (e : Entry) (b : Bool)
    → is_told s (length es) (names_behind names 0 es) e ≡ b
    → selected_text s names (es ++ e ∷ []) ≡ selected_text s names es
    ++ (if b then words_of s.full (length es) (names_behind names 0 es) e else [])
unfolding selected
selected-if s names es e b is =
    selected-end s 0 names es e
    ∙ ap (λ k. selected_text s names es ++ selected s k (names_behind names 0 es) e)
    {x = 0 + length es} {y = length es} (omega arith)
    ∙ ap (λ t. selected_text s names es ++ (if t then words_of s.full (length es) (names_behind names 0 es) e else []))
    is

pub selected_text-told : (s : Selection) (names : Names) (es : List Entry) (e : Entry)
    → is_told s (length es) (names_behind names 0 es) e ≡ true
    → selected_text s names (es ++ e ∷ [])
    ≡ selected_text s names es ++ words_of s.full (length es) (names_behind names 0 es) e
selected_text-told s names es e told = selected-if s names es e true told

pub selected_text-left_out : (s : Selection) (names : Names) (es : List Entry) (e : Entry)
    → is_told s (length es) (names_behind names 0 es) e ≡ false
    → selected_text s names (es ++ e ∷ []) ≡ selected_text s names es
selected_text-left_out s names es e out = selected-if s names es e false out ∙ append-nil (selected_text s names es)

-- ---- how lanes stand

lanes_behind-one : (e : Entry) (lanes : List Lane) → lanes_behind lanes (e ∷ []) ≡ lanes_after e lanes
unfolding lane_behind lane_after stand_behind
lanes_behind-one e [] = refl
lanes_behind-one e (lane ∷ lanes) = ap (λ ls. lane_after e lane ∷ ls) (lanes_behind-one e lanes)

lanes_behind-more : (d : Entry) (es : List Entry) (lanes : List Lane)
    → lanes_behind lanes (d ∷ es) ≡ lanes_behind (lanes_after d lanes) es
unfolding lane_behind lane_after stand_behind
lanes_behind-more d es [] = refl
lanes_behind-more d es (lane ∷ lanes) = ap (λ ls. lane_behind (d ∷ es) lane ∷ ls) (lanes_behind-more d es lanes)

-- ---- charts

pub rows_text-none : (c : Chart) (s : Selection) (names : Names) (lanes : List Lane)
    → rows_text c s 0 0 names lanes [] ≡ []
unfolding rows_text
rows_text-none c s names lanes = refl

-- the rows of one entry more
rows-end : (c : Chart) (s : Selection) (n row : ℕ) (names : Names) (lanes : List Lane) (es : List Entry) (e : Entry)
    → rows_text c s n row names lanes (es ++ e ∷ [])
    ≡ rows_text c s n row names lanes es
    ++ drawn_row c s (n + length es) (rows_from s n row names es) (names_behind names n es)
    (lanes_behind lanes (es ++ e ∷ [])) e
unfolding rows_text rows_from names_behind
rows-end c s n row names lanes [] e =
    append-nil (drawn_row c s n row names (lanes_after e lanes) e)
    ∙ ap (λ ls. drawn_row c s n row names ls e) (sym (lanes_behind-one e lanes))
    ∙ ap (λ k. drawn_row c s k row names (lanes_behind lanes (e ∷ [])) e) {x = n} {y = n + 0} (omega arith)
rows-end c s n row names lanes (d ∷ es) e =
    let now : List ℕ = drawn_row c s n row names (lanes_after d lanes) d in
    let next : ℕ = row_after s n row names d in
    let beyond : Names = names_beyond names n d in
    let moved : List Lane = lanes_after d lanes in
    let rest : List ℕ = rows_text c s (n + 1) next beyond moved es in
    ap (λ t. now ++ t) (rows-end c s (n + 1) next beyond moved es e)
    ∙ sym (append_assoc now rest
    (drawn_row c s (n + 1 + length es) (rows_from s (n + 1) next beyond es) (names_behind beyond (n + 1) es)
    (lanes_behind moved (es ++ e ∷ [])) e))
    ∙ ap (λ ls. now ++ rest
    ++ drawn_row c s (n + 1 + length es) (rows_from s (n + 1) next beyond es) (names_behind beyond (n + 1) es) ls e)
    (sym (lanes_behind-more d (es ++ e ∷ []) lanes))
    ∙ ap (λ k. now ++ rest
    ++ drawn_row c s k (rows_from s (n + 1) next beyond es) (names_behind beyond (n + 1) es)
    (lanes_behind lanes (d ∷ es ++ e ∷ [])) e)
    {x = n + 1 + length es} {y = n + length (d ∷ es)} (omega arith)

-- the same by whether that is told
rows-if : (c : Chart) (s : Selection) (names : Names) (lanes : List Lane) (es : List Entry) (e : Entry) (b : Bool)
    → is_told s (length es) (names_behind names 0 es) e ≡ b
    → rows_text c s 0 0 names lanes (es ++ e ∷ []) ≡ rows_text c s 0 0 names lanes es
    ++ (if b then row_text (sheet_of c (rows_from s 0 0 names es) lanes) s.full (length es) (names_behind names 0 es)
    (lanes_behind lanes (es ++ e ∷ [])) e else [])
unfolding drawn_row
rows-if c s names lanes es e b is =
    let row : ℕ = rows_from s 0 0 names es in
    let before : Names = names_behind names 0 es in
    let stood : List Lane = lanes_behind lanes (es ++ e ∷ []) in
    rows-end c s 0 0 names lanes es e
    ∙ ap (λ k. rows_text c s 0 0 names lanes es ++ drawn_row c s k row before stood e)
    {x = 0 + length es} {y = length es} (omega arith)
    ∙ ap (λ t. rows_text c s 0 0 names lanes es
    ++ (if t then row_text (sheet_of c row stood) s.full (length es) before stood e else [])) is
    ∙ ap (λ (k : ℕ). rows_text c s 0 0 names lanes es
    ++ (if b then row_text (record { chart = c; row = row; lanes = k }) s.full (length es) before stood e else []))
    (length-map lanes (lane_behind (es ++ e ∷ [])))

pub rows_text-told : (c : Chart) (s : Selection) (names : Names) (lanes : List Lane) (es : List Entry) (e : Entry)
    → is_told s (length es) (names_behind names 0 es) e ≡ true
    → rows_text c s 0 0 names lanes (es ++ e ∷ []) ≡ rows_text c s 0 0 names lanes es
    ++ row_text (sheet_of c (rows_from s 0 0 names es) lanes) s.full (length es) (names_behind names 0 es)
    (lanes_behind lanes (es ++ e ∷ [])) e
rows_text-told c s names lanes es e told = rows-if c s names lanes es e true told

pub rows_text-left_out : (c : Chart) (s : Selection) (names : Names) (lanes : List Lane) (es : List Entry) (e : Entry)
    → is_told s (length es) (names_behind names 0 es) e ≡ false
    → rows_text c s 0 0 names lanes (es ++ e ∷ []) ≡ rows_text c s 0 0 names lanes es
rows_text-left_out c s names lanes es e out =
    rows-if c s names lanes es e false out ∙ append-nil (rows_text c s 0 0 names lanes es)

-- ---- how many rows there are

pub rows_from-none : (s : Selection) (names : Names) → rows_from s 0 0 names [] ≡ 0
unfolding rows_from
rows_from-none s names = refl

rows_from-end : (s : Selection) (n row : ℕ) (names : Names) (es : List Entry) (e : Entry)
    → rows_from s n row names (es ++ e ∷ [])
    ≡ row_after s (n + length es) (rows_from s n row names es) (names_behind names n es) e
unfolding rows_from names_behind
rows_from-end s n row names [] e = ap (λ k. row_after s k row names e) {x = n} {y = n + 0} (omega arith)
rows_from-end s n row names (d ∷ es) e =
    let next : ℕ = row_after s n row names d in
    let beyond : Names = names_beyond names n d in
    rows_from-end s (n + 1) next beyond es e
    ∙ ap (λ k. row_after s k (rows_from s (n + 1) next beyond es) (names_behind beyond (n + 1) es) e)
    {x = n + 1 + length es} {y = n + length (d ∷ es)} (omega arith)

rows_from-if : (s : Selection) (names : Names) (es : List Entry) (e : Entry) (b : Bool)
    → is_told s (length es) (names_behind names 0 es) e ≡ b
    → rows_from s 0 0 names (es ++ e ∷ [])
    ≡ (if b then rows_from s 0 0 names es + 1 else rows_from s 0 0 names es)
unfolding row_after
rows_from-if s names es e b is =
    rows_from-end s 0 0 names es e
    ∙ ap (λ k. row_after s k (rows_from s 0 0 names es) (names_behind names 0 es) e)
    {x = 0 + length es} {y = length es} (omega arith)
    ∙ ap (λ t. if t then rows_from s 0 0 names es + 1 else rows_from s 0 0 names es) is

pub rows_from-told : (s : Selection) (names : Names) (es : List Entry) (e : Entry)
    → is_told s (length es) (names_behind names 0 es) e ≡ true
    → rows_from s 0 0 names (es ++ e ∷ []) ≡ rows_from s 0 0 names es + 1
rows_from-told s names es e told = rows_from-if s names es e true told

pub rows_from-left_out : (s : Selection) (names : Names) (es : List Entry) (e : Entry)
    → is_told s (length es) (names_behind names 0 es) e ≡ false
    → rows_from s 0 0 names (es ++ e ∷ []) ≡ rows_from s 0 0 names es
rows_from-left_out s names es e out = rows_from-if s names es e false out

-- ---- whether an entry is told, its handles say alone

stands_for-alike : (p : ℕ) (names others : Names) (h : ℕ) → names.handles ≡ others.handles
    → stands_for p names h ≡ stands_for p others h
unfolding stands_for
stands_for-alike p names others h same = ap (λ hs. is_known_of p (under h hs)) same

any-alike : (p : ℕ) (names others : Names) (hs : List ℕ) → names.handles ≡ others.handles
    → list_any (stands_for p names) hs ≡ list_any (stands_for p others) hs
unfolding stands_for
any-alike p names others hs same = ap (λ known. list_any (λ h. is_known_of p (under h known)) hs) same

call-alike : (p : ℕ) (names others : Names) (c : Call) (r : Reply) → names.handles ≡ others.handles
    → is_call_about p names c r ≡ is_call_about p others c r
unfolding is_call_about
call-alike p names others (call.Open pid lwp file mode) r same = refl
call-alike p names others (call.Close h) r same = stands_for-alike p names others h same
call-alike p names others (call.Ctl h bytes) r same = stands_for-alike p names others h same
call-alike p names others (call.CtlWait h until bytes) r same = stands_for-alike p names others h same
call-alike p names others (call.Read h at len) r same = stands_for-alike p names others h same
call-alike p names others (call.Poll hs) r same = any-alike p names others hs same
call-alike p names others (call.Interrupt k) r same = refl
call-alike p names others (call.Spawn program held) r same = refl
call-alike p names others (call.Kill pid sig) r same = refl
call-alike p names others (call.Until moment) r same = refl
call-alike p names others call.List r same = refl

about-alike : (p : ℕ) (names others : Names) (a : Act) → names.handles ≡ others.handles
    → is_about p names a ≡ is_about p others a
unfolding is_about
about-alike p names others (act.Call c r) same = call-alike p names others c r same
about-alike p names others (act.Turn t) same = refl
about-alike p names others (act.Tick n) same = refl

process-alike : (p : ℕ) (names others : Names) (by : Actor) (a : Act) → names.handles ≡ others.handles
    → is_of_process p names (record { actor = by; act = a }) ≡ is_of_process p others (record { actor = by; act = a })
unfolding is_of_process
process-alike p names others (actor.Controller k) a same = about-alike p names others a same
process-alike p names others (actor.Lwp q l) a same = refl
process-alike p names others actor.Clock a same = refl

of-alike : (w : Who) (names others : Names) (e : Entry) → names.handles ≡ others.handles
    → is_of w names e ≡ is_of w others e
of-alike (who.Controller k) names others e same = refl
of-alike (who.Process p) names others e same = process-alike p names others e.actor e.act same
of-alike (who.Lwp p l) names others e same = refl

of_any-alike : (w : Option Who) (names others : Names) (e : Entry) → names.handles ≡ others.handles
    → is_of_any w names e ≡ is_of_any w others e
of_any-alike None names others e same = refl
of_any-alike (Some w) names others e same = of-alike w names others e same

told-alike : (s : Selection) (n : ℕ) (names others : Names) (e : Entry) → names.handles ≡ others.handles
    → is_told s n names e ≡ is_told s n others e
unfolding is_told
told-alike s n names others e same =
    ap (λ b. nat_le s.from n && (nat_le n s.to && b)) (of_any-alike s.who names others e same)

rows_from-alike : (s : Selection) (n row : ℕ) (names others : Names) (es : List Entry)
    → names.handles ≡ others.handles → rows_from s n row names es ≡ rows_from s n row others es
unfolding rows_from row_after names_beyond
rows_from-alike s n row names others [] same = refl
rows_from-alike s n row names others (e ∷ es) same =
    ap (λ (b : Bool). rows_from s (n + 1) (if b then row + 1 else row) (names_beyond names n e) es)
    (told-alike s n names others e same)
    ∙ rows_from-alike s (n + 1) (row_after s n row others e) (names_beyond names n e) (names_beyond others n e) es
    (ap (λ hs. handles_after hs e.act) same)

pub rows_of-counted : (s : Selection) (names : Names) (es : List Entry) → names.handles ≡ []
    → rows_of s es ≡ rows_from s 0 0 names es
rows_of-counted s names es none = rows_from-alike s 0 0 nothing_known names es (sym none)
