-- Bytes encode the words of one record at most.
use Rattle.std.proofs.Common.{◌≡◌, ℕ, List, All, sym, ◌∙◌}
use Rattle.pr_num.specs.Words.{IsWord}
use Rattle.pr_num.specs.Records.{Range, EncodesRecord}
use Rattle.pr_codec.proofs.WordLemmas.{same_words}
use Rattle.pr_rec.proofs.RecordLemmas.{TakeWords, AreWords-ranged, ranged-first_out}

module _ (ranges : List Range) (take_words : TakeWords ranges) (bytes : List ℕ) where
  are_words : (words : List ℕ) → EncodesRecord ranges bytes words → All IsWord words
  are_words words encodes =
      AreWords-ranged ranges words take_words
      (ranged-first_out ranges words 0 encodes.count encodes.ranged) encodes.count

  pub same_encoded : (xs ys : List ℕ) → EncodesRecord ranges bytes xs → EncodesRecord ranges bytes ys → xs ≡ ys
  same_encoded xs ys here there =
      same_words xs ys (are_words xs here) (are_words ys there) (sym here.encoded ∙ there.encoded)
