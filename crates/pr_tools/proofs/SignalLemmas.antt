-- The lines of signals, one by one.
use Rattle.std.proofs.Common.{◌≡◌, ◌<◌, ◌+◌, ℕ, zero, suc, List, [], ◌∷◌, ◌++◌, length, take, get_or, sym, ap, ◌∙◌, arith, append_assoc}
use Rattle.std.proofs.lemmas.List.{append-nil}
use Rattle.pr_num.specs.declared.signals.Sig.{Sig}
use Rattle.pr_tools.specs.Psig.{signal_line, signal_lines}

lines-more : (ss : List Sig) (ws : List ℕ) (i : ℕ) (d : Sig) → i < length ss → i < length ws
    → signal_lines (take (suc i) ss) (take (suc i) ws)
    ≡ signal_lines (take i ss) (take i ws) ++ signal_line (get_or ss i d) (get_or ws i 0)
lines-more [] ws i d inside there = absurd (omega arith)
lines-more (s ∷ ss) [] i d inside there = absurd (omega arith)
lines-more (s ∷ ss) (w ∷ ws) zero d inside there = append-nil (signal_line s w)
lines-more (s ∷ ss) (w ∷ ws) (suc i) d inside there =
    ap (λ rest. signal_line s w ++ rest) (lines-more ss ws i d (omega arith) (omega arith))
    ∙ sym (append_assoc (signal_line s w) _ _)

-- a text with the lines of the first signals, and that of one more
pub signal_lines-next : (ss : List Sig) (ws : List ℕ) (i : ℕ) (d : Sig) (old text new : List ℕ) → i < length ss
    → i < length ws → text ≡ old ++ signal_lines (take i ss) (take i ws)
    → new ≡ text ++ signal_line (get_or ss i d) (get_or ws i 0)
    → new ≡ old ++ signal_lines (take (i + 1) ss) (take (i + 1) ws)
signal_lines-next ss ws i d old text new inside there before line =
    let next : suc i ≡ i + 1 = omega arith in
    line ∙ ap (λ t. t ++ signal_line (get_or ss i d) (get_or ws i 0)) before
    ∙ append_assoc old (signal_lines (take i ss) (take i ws)) (signal_line (get_or ss i d) (get_or ws i 0))
    ∙ ap (λ l. old ++ l) (sym (lines-more ss ws i d inside there))
    ∙ ap (λ (k : ℕ). old ++ signal_lines (take k ss) (take k ws)) next
