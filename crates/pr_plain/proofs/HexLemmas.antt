-- Bytes are read back from the word that says them, and no other word says them.
use Rattle.std.specs.Prelude.{◌==◌}
use Rattle.std.proofs.Common.{◌≡◌, ℕ, Bool, true, false, cond, Some, None, List, [], ◌∷◌, refl, sym, ap, ◌∙◌}
use Rattle.std.proofs.lemmas.Bool.{eqb-true}
use Rattle.std.proofs.lemmas.List.Elements.{recursion_from_All}
use Rattle.std.proofs.lemmas.Option.{cond_some}
use Rattle.std.specs.List.{All, AllByRecursion}
use Rattle.pr_num.specs.Words.{IsByte}
use Rattle.pr_text.specs.HexWords.{byte_digits}
use Rattle.pr_text.proofs.HexLemmas.{bytes_of_digits-digits, digits-bytes_of_digits, bytes_of_digits-bytes}
use Rattle.pr_plain.specs.HexWords.{dash, hex_word, bytes_of_word}

-- a word is read as the bytes that it says
pub bytes_of_word-hex_word : (bs : List ℕ) → All IsByte bs → bytes_of_word (hex_word bs) ≡ Some bs
unfolding bytes_of_word hex_word byte_digits
bytes_of_word-hex_word [] h = refl
bytes_of_word-hex_word (b ∷ bs) h = bytes_of_digits-digits (b ∷ bs) (recursion_from_All IsByte (b ∷ bs) h)

dash_alone : (c : ℕ) (bs : List ℕ) (t : Bool) → (c == dash) ≡ t → cond t (Some []) None ≡ Some bs → hex_word bs ≡ c ∷ []
unfolding hex_word
dash_alone c bs true is e = let none : bs ≡ [] = cc in ap hex_word none ∙ ap (λ x. x ∷ []) (sym (eqb-true c dash is))
dash_alone c bs false is e = cc

-- and no other word is read as them
pub hex_word-bytes_of_word : (w bs : List ℕ) → bytes_of_word w ≡ Some bs → hex_word bs ≡ w
unfolding bytes_of_word hex_word
hex_word-bytes_of_word [] bs e = cc
hex_word-bytes_of_word (c ∷ []) bs e = dash_alone c bs (c == dash) refl e
hex_word-bytes_of_word (c ∷ d ∷ rest) [] e = let back = digits-bytes_of_digits (c ∷ d ∷ rest) [] e in cc
hex_word-bytes_of_word (c ∷ d ∷ rest) (b ∷ bs) e = digits-bytes_of_digits (c ∷ d ∷ rest) (b ∷ bs) e

-- what a word says are bytes
pub bytes_of_word-bytes : (w bs : List ℕ) → bytes_of_word w ≡ Some bs → AllByRecursion IsByte bs
unfolding bytes_of_word
bytes_of_word-bytes [] bs e = cc
bytes_of_word-bytes (c ∷ []) [] e = tt
bytes_of_word-bytes (c ∷ []) (b ∷ bs) e = let none : [] ≡ b ∷ bs = (cond_some (c == dash) [] (b ∷ bs) e).1 in cc
bytes_of_word-bytes (c ∷ d ∷ rest) bs e = bytes_of_digits-bytes (c ∷ d ∷ rest) bs e

pub ruleset hex_words = (bytes_of_word-hex_word, hex_word-bytes_of_word)
