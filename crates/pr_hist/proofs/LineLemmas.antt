-- Lines of a chart, written in place: what fills a cell behind its words, and where the blanks of a line end.
use Rattle.std.proofs.Common.{◌≡◌, ℕ, ◌+◌, ◌-◌, ◌<◌, ◌≤◌, Bool, true, false, List, [], ◌∷◌, ◌++◌, length, take, drop, refl, sym, ap, ◌∙◌, append_assoc, arith}
use Rattle.std.specs.Char.{is_ascii_whitespace}
use Rattle.std.specs.List.{suffix_len}
use Rattle.std.specs.Prelude.{codes, replicate, if◌then◌else◌}
use Rattle.std.proofs.Math.Seq.{take-append_seam, drop-append_seam}
use Rattle.std.proofs.lemmas.List.{drop-take, length-append, length-take, take_all, take-append-drop, take-take}
use Rattle.pr_hist.specs.Charts.{fitted, label_text, line_text}
use Rattle.pr_hist.specs.Texts.{trimmed}
use Rattle.pr_hist.specs.declared.charts.Marks.{Marks}

trimmed-whole : (t : List ℕ) → take (length (trimmed t)) t ≡ trimmed t
unfolding trimmed
trimmed-whole t =
    let kept = length t - suffix_len is_ascii_whitespace t in
    ap (λ n. take n t) {y = kept} (omega (arith, length-take kept t))

-- what is kept of a text whose end is trimmed from a place on
trimmed_from : (t : List ℕ) (start kept : ℕ) → kept ≡ length (trimmed (drop start t))
    → take (start + kept) t ≡ take start t ++ trimmed (drop start t)
trimmed_from t start kept is =
    sym (take-append-drop start (take (start + kept) t))
    ∙ ap (λ u. u ++ drop start (take (start + kept) t)) (take-take start (start + kept) t (omega arith))
    ∙ ap (λ u. take start t ++ u) (drop-take start kept t ∙ ap (λ n. take n (drop start t)) is
    ∙ trimmed-whole (drop start t))

-- a text of which a line is kept so, and ended
pub line_ended : (t kept cut now end : List ℕ) (start : ℕ) → kept ≡ trimmed (drop start t)
    → cut ≡ take (start + length kept) t → now ≡ cut ++ end
    → now ≡ take start t ++ (trimmed (drop start t) ++ end)
line_ended t kept cut now end start keeps cuts is =
    is ∙ ap (λ u. u ++ end) (cuts ∙ trimmed_from t start (length kept) (ap length keeps))
    ∙ append_assoc (take start t) (trimmed (drop start t)) end

label-fits : (width : ℕ) (m : Marks) (label : List ℕ) → 8 ≤ width → length (label_text width m label) ≤ width - 2
unfolding label_text
label-fits width m label wide = by m.acts
  where
    by : (acts : Bool) → length (if acts then codes " " ++ (take (width - 4) label ++ codes " ") else []) ≤ width - 2
    by true = omega (arith, length-append (take (width - 4) label) (codes " "), length-take (width - 4) label)
    by false = omega arith

-- the words of an entry, and what fills their cell
pub filled : (old now label : List ℕ) (fill width room : ℕ) (m : Marks) → 8 ≤ width
    → now ≡ old ++ label_text width m label → room ≡ (width - 2) - (length now - length old)
    → now ++ replicate room fill ≡ old ++ fitted fill (width - 2) (label_text width m label)
unfolding fitted
filled old now label fill width room m wide is left =
    let words = label_text width m label in
    let fits : length words ≤ width - 2 = label-fits width m label wide in
    let same : room ≡ (width - 2) - length words = omega (arith, left, ap length is, length-append old words) in
    ap (λ t. t ++ replicate room fill) is ∙ append_assoc old words (replicate room fill)
    ∙ ap (λ t. old ++ t) (ap (λ n. words ++ replicate n fill) same
    ∙ ap (λ t. t ++ replicate ((width - 2) - length words) fill) (sym (take_all (width - 2) words fits)))

-- a line behind a text, whose end is trimmed
pub ended : (old first now number drawn : List ℕ) (start : ℕ) → start ≡ length old → first ≡ old ++ fitted 32 8 number
    → now ≡ first ++ drawn → take start now ++ (trimmed (drop start now) ++ codes "\n") ≡ old ++ line_text number drawn
unfolding line_text
ended old first now number drawn start begins fits is =
    let line = fitted 32 8 number ++ drawn in
    let whole : now ≡ old ++ line =
    is ∙ ap (λ t. t ++ drawn) fits ∙ append_assoc old (fitted 32 8 number) drawn in
    ap (λ t. take start t ++ (trimmed (drop start t) ++ codes "\n")) whole
    ∙ ap (λ n. take n (old ++ line) ++ (trimmed (drop n (old ++ line)) ++ codes "\n")) begins
    ∙ ap (λ t. t ++ (trimmed (drop (length old) (old ++ line)) ++ codes "\n")) (take-append_seam old line)
    ∙ ap (λ t. old ++ (trimmed t ++ codes "\n")) (drop-append_seam old line)
