use Rattle.std.proofs.Common.{◌≡◌, ◌+◌, ◌%◌, ◌^◌, ℕ, zero, suc, Result, Ok, Err, List, [], ◌∷◌, length, refl, sym, ap, ◌∙◌}
use Rattle.pr_num.specs.Spaces.{Space, byte_for, bytes_for, one_more}
use Rattle.pr_num.specs.declared.mappings.BadByte.{BadByte}

-- Bytes of memory: there are as many as were asked for.

pub length-bytes_for : (need : ℕ) (space : Space) (at size : ℕ) (bytes : List ℕ)
    → bytes_for need space at size ≡ Ok bytes → length bytes ≡ size
unfolding bytes_for
length-bytes_for need space at zero bytes is = let none : [] ≡ bytes = cc in ap length (sym none)
length-bytes_for need space at (suc n) bytes is =
    of (byte_for need space at) (bytes_for need space ((at + 1) % 2 ^ 64) n)
    (λ others rest. length-bytes_for need space ((at + 1) % 2 ^ 64) n others rest) is
  where
    of : (b : Result ℕ BadByte) (r : Result (List ℕ) BadByte) → ((others : List ℕ) → r ≡ Ok others → length others ≡ n)
        → one_more b r ≡ Ok bytes → length bytes ≡ suc n
    of (Err bad) r rest e = absurd (cc)
    of (Ok byte) (Err bad) rest e = absurd (cc)
    of (Ok byte) (Ok others) rest e = let whole : byte ∷ others ≡ bytes = cc in
        ap length (sym whole) ∙ ap suc (rest others refl)
