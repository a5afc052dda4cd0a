-- What an old status of an lwp becomes.
use Rattle.std.proofs.Common.{◌≡◌, ◌+◌, ◌≤◌, ℕ, true, List, [], ◌∷◌, ◌++◌, length, take, drop, replicate, All, Ok, refl, sym, ap, subst, ◌∙◌, arith, length-append}
use Rattle.std.proofs.lemmas.Bool.{lt-ltb, ltb-true}
use Rattle.std.proofs.lemmas.List.{take_all}
use Rattle.pr_num.specs.Records.{Range, below, first_lwpstatus_ranges, lwpstatus_ranges, EncodesRecord}
use Rattle.pr_num.specs.Words.{IsByte, word_bytes, words_bytes}
use Rattle.pr_rec.proofs.FieldLemmas.{errno-word}
use Rattle.pr_rec.proofs.ReadLemmas.{words_bytes-append}
use Rattle.pr_rec.proofs.RecordLemmas.{AreRanged, TakeWords, below-word, any-word, ranged-encodes, ranged-first_out, read-begins}
use Rattle.pr_rec.specs.Reading.{record_read, IsUpgrade}

-- the second ranges take what the first take
abbrev IsWider : List Range → List Range → Type 0
IsWider [] [] = Unit {0}
IsWider [] (s ∷ ss) = ⊥
IsWider (r ∷ rs) [] = ⊥
IsWider (r ∷ rs) (s ∷ ss) = ((w : ℕ) → r w ≡ true → s w ≡ true) × IsWider rs ss

AreRanged-wider : (rs ss : List Range) (ws : List ℕ) → IsWider rs ss → AreRanged rs ws → AreRanged ss ws
AreRanged-wider [] [] ws wider ranged = tt
AreRanged-wider [] (s ∷ ss) ws wider ranged = absurd wider
AreRanged-wider (r ∷ rs) [] ws wider ranged = absurd wider
AreRanged-wider (r ∷ rs) (s ∷ ss) [] wider ranged = absurd ranged
AreRanged-wider (r ∷ rs) (s ∷ ss) (w ∷ ws) wider ranged =
    (wider.0 w ranged.0, AreRanged-wider rs ss ws wider.1 ranged.1)

AreRanged-append : (rs ss : List Range) (ws vs : List ℕ) → length ws ≡ length rs → AreRanged rs ws → AreRanged ss vs
    → AreRanged (rs ++ ss) (ws ++ vs)
AreRanged-append [] ss [] vs size ranged others = others
AreRanged-append [] ss (w ∷ ws) vs size ranged others = absurd (omega arith)
AreRanged-append (r ∷ rs) ss [] vs size ranged others = absurd ranged
AreRanged-append (r ∷ rs) ss (w ∷ ws) vs size ranged others =
    (ranged.0, AreRanged-append rs ss ws vs (omega arith) ranged.1 others)

wider_below : (a b : ℕ) → a ≤ b → (w : ℕ) → below a w ≡ true → below b w ≡ true
wider_below a b le w e = lt-ltb w b (omega (arith, ltb-true w a e))

same_range : (r : Range) (w : ℕ) → r w ≡ true → r w ≡ true
same_range r w e = e

today_is_wider : IsWider first_lwpstatus_ranges (take 30 lwpstatus_ranges)
today_is_wider = (
  same_range _,
  (
    same_range _,
    (
      same_range _,
      (
        wider_below _ _ (omega arith),
        (
          wider_below _ _ (omega arith),
          (
            same_range _,
            (
              same_range _,
              (
                wider_below _ _ (omega arith),
                (
                  same_range _,
                  (
                    same_range _,
                    (
                      same_range _,
                      (
                        same_range _,
                        (
                          same_range _,
                          (
                            same_range _,
                            (
                              same_range _,
                              (
                                same_range _,
                                (
                                  wider_below _ _ (omega arith),
                                  (
                                    wider_below _ _ (omega arith),
                                    (
                                      same_range _,
                                      (
                                        same_range _,
                                        (
                                          same_range _,
                                          (
                                            same_range _,
                                            (
                                              same_range _,
                                              (
                                                same_range _,
                                                (
                                                  same_range _,
                                                  (
                                                    same_range _,
                                                    (
                                                      same_range _,
                                                      (same_range _, (same_range _, (same_range _, tt))),
                                                    ),
                                                  ),
                                                ),
                                              ),
                                            ),
                                          ),
                                        ),
                                      ),
                                    ),
                                  ),
                                ),
                              ),
                            ),
                          ),
                        ),
                      ),
                    ),
                  ),
                ),
              ),
            ),
          ),
        ),
      ),
    ),
  ),
)

first_take : TakeWords first_lwpstatus_ranges
first_take = (
  below-word _ (omega arith),
  (
    below-word _ (omega arith),
    (
      below-word _ (omega arith),
      (
        below-word _ (omega arith),
        (
          below-word _ (omega arith),
          (
            below-word _ (omega arith),
            (
              any-word,
              (
                below-word _ (omega arith),
                (
                  any-word,
                  (
                    any-word,
                    (
                      any-word,
                      (
                        any-word,
                        (
                          any-word,
                          (
                            any-word,
                            (
                              any-word,
                              (
                                errno-word,
                                (
                                  below-word _ (omega arith),
                                  (
                                    below-word _ (omega arith),
                                    (
                                      any-word,
                                      (
                                        any-word,
                                        (
                                          any-word,
                                          (
                                            any-word,
                                            (
                                              any-word,
                                              (
                                                any-word,
                                                (
                                                  any-word,
                                                  (
                                                    any-word,
                                                    (
                                                      any-word,
                                                      (any-word, (any-word, (below-word _ (omega arith), tt))),
                                                    ),
                                                  ),
                                                ),
                                              ),
                                            ),
                                          ),
                                        ),
                                      ),
                                    ),
                                  ),
                                ),
                              ),
                            ),
                          ),
                        ),
                      ),
                    ),
                  ),
                ),
              ),
            ),
          ),
        ),
      ),
    ),
  ),
)

zero_words : words_bytes (0 ∷ 0 ∷ 0 ∷ []) ≡ replicate 24 0
unfolding word_bytes
zero_words = refl

pub upgrades : (old new words : List ℕ) → length old ≡ 240 → All IsByte old
    → record_read first_lwpstatus_ranges old ≡ Ok words → new ≡ old ++ replicate 24 0 → IsUpgrade old new
upgrades old new words size small read is =
    let begins = read-begins first_lwpstatus_ranges first_take old words small read in
    let before : EncodesRecord first_lwpstatus_ranges old words =
    subst (λ bytes. EncodesRecord first_lwpstatus_ranges bytes words) (take_all 240 old (omega arith)) begins.encoded in
    let ranged = ranged-first_out first_lwpstatus_ranges words 0 before.count before.ranged in
    let wider = AreRanged-wider first_lwpstatus_ranges (take 30 lwpstatus_ranges) words today_is_wider ranged in
    let all : AreRanged lwpstatus_ranges (words ++ 0 ∷ 0 ∷ 0 ∷ []) =
    AreRanged-append (take 30 lwpstatus_ranges) (drop 30 lwpstatus_ranges) words (0 ∷ 0 ∷ 0 ∷ []) before.count wider
    (refl, (refl, (refl, tt))) in
    record {
      words = words;
      before = before;
      after = ranged-encodes lwpstatus_ranges (words ++ 0 ∷ 0 ∷ 0 ∷ []) new
          (length-append words (0 ∷ 0 ∷ 0 ∷ []) ∙ ap (λ (n : ℕ). n + 3) before.count) all
          (is ∙ ap (λ bytes. bytes ++ replicate 24 0) before.encoded
          ∙ ap (λ bytes. words_bytes words ++ bytes) (sym zero_words)
          ∙ sym (words_bytes-append words (0 ∷ 0 ∷ 0 ∷ [])));
    }
