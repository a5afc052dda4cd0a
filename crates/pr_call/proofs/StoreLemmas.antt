use Rattle.std.proofs.Common.{◌≡◌, ℕ, List, [], ◌∷◌, ◌++◌, length, refl, sym, ap, ◌∙◌, arith}
use Rattle.std.proofs.lemmas.List.{append_assoc}
use Rattle.pr_num.specs.Spaces.{Space}
use Rattle.pr_num.specs.Words.{word_bytes, words_bytes}
use Rattle.pr_parts.specs.AddressSpaces.{with_bytes, with_written, written_bytes}
use Rattle.pr_parts.proofs.AccessLemmas.{written_bytes-outside}
use Rattle.pr_codec.proofs.WordLemmas.{words_bytes-two}

-- What calls store.

-- no bytes change nothing
pub nothing-stored : (at : ℕ) (bytes : List ℕ) (space : Space) → length bytes ≡ 0 → space ≡ with_bytes at bytes space
unfolding with_bytes with_written
nothing-stored at bytes [] none = refl
nothing-stored at bytes (m ∷ space) none =
    let stays : m.bytes ≡ written_bytes at bytes m.at m.bytes =
    sym (written_bytes-outside at bytes m.at m.bytes (λ k h low high. omega arith)) in
    ap (λ (xs : List ℕ). record m { bytes = xs } ∷ space) stays
    ∙ ap (λ (ms : Space). record m { bytes = written_bytes at bytes m.at m.bytes } ∷ ms)
    (nothing-stored at bytes space none)

pub ruleset storing = (nothing-stored)

pub three-words : (first second third : ℕ)
    → words_bytes (first ∷ second ∷ third ∷ []) ≡ word_bytes first ++ word_bytes second ++ word_bytes third
three-words first second third =
    rw append_assoc (ap (λ (bytes : List ℕ). word_bytes first ++ bytes) (words_bytes-two second third))

pub ruleset words = (words_bytes-two, three-words)
