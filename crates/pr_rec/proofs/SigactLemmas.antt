-- The words of dispositions are in their ranges.
use Rattle.std.proofs.Common.{◌≡◌, ℕ, zero, suc, List, [], ◌∷◌, length, replicate, All, arith}
use Rattle.std.proofs.lemmas.List.Elements.{All-head, All-tail}
use Rattle.pr_num.specs.Words.{IsWord}
use Rattle.pr_num.specs.Records.{any_word}
use Rattle.pr_rec.proofs.RecordLemmas.{AreRanged, word-any}

pub any_words-ranged : (n : ℕ) (ws : List ℕ) → length ws ≡ n → All IsWord ws → AreRanged (replicate n any_word) ws
any_words-ranged zero ws size fit = tt
any_words-ranged (suc n) [] size fit = absurd (omega arith)
any_words-ranged (suc n) (w ∷ ws) size fit =
    (word-any w (All-head IsWord w ws fit), any_words-ranged n ws (omega arith) (All-tail IsWord w ws fit))
