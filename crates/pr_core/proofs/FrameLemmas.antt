-- The lines of the frames of a stack, one after the other.
use Rattle.std.proofs.Common.{◌≡◌, ◌-◌, ◌<◌, ◌≤◌, ◌==◌, ℕ, zero, suc, true, false, List, [], ◌∷◌, ◌++◌, length, nat_le, Option, refl, sym, ap, ◌∙◌, arith, append_assoc}
use Rattle.std.specs.List.{flat_map}
use Rattle.std.proofs.lemmas.Bool.{le-leb, lt-leb, ne_eqb}
use Rattle.std.proofs.lemmas.List.{append-nil}
use Rattle.pr_codec.specs.Words.{word_at}
use Rattle.pr_model.specs.Reads.{mapped_from}
use Rattle.pr_num.specs.Programs.{Program}
use Rattle.pr_num.specs.Spaces.{Space}
use Rattle.pr_tools.specs.Calls.{short_read}
use Rattle.pr_tools.specs.Pstack.{frame_line}
use Rattle.pr_tools.specs.SpaceStacks.{return_and, returns_from}

module _ (program : Option Program) (space : Space) where
  -- the lines of so many frames from a pointer on
  abbrev pub lines_from : ℕ → ℕ → List ℕ
  lines_from n frame = flat_map (frame_line program) (returns_from space n frame)

  pub none-left : (frame : ℕ) (text : List ℕ) → text ++ lines_from 0 frame ≡ text
  unfolding returns_from
  none-left frame text = append-nil text

  -- the pointer 0 is that of no frame
  pub no-pointer : (n : ℕ) (text : List ℕ) → text ++ lines_from n 0 ≡ text
  unfolding returns_from
  no-pointer zero text = append-nil text
  no-pointer (suc n) text = append-nil text

  module _ (left frame : ℕ) (text bytes : List ℕ) (more : 0 < left) (some : 0 < frame)
      (read : bytes ≡ mapped_from space frame short_read) where
    there : (frame == 0) ≡ false
    there = ne_eqb frame 0 (λ none. absurd (omega (arith, none, some)))

    one : returns_from space left frame ≡ return_and (returns_from space (left - 1)) bytes
    unfolding returns_from
    one = by left more
      where
        by : (n : ℕ) → 0 < n → returns_from space n frame ≡ return_and (returns_from space (n - 1)) bytes
        by zero less = absurd (omega arith)
        by (suc n) less =
            let same : suc n - 1 ≡ n = omega arith in
            rw (there, same, read) refl

    -- fewer bytes are mapped than a frame has
    pub no-frame : length bytes < 16 → text ++ lines_from left frame ≡ text
    no-frame few =
        let not_whole : nat_le 16 (length bytes) ≡ false = lt-leb 16 (length bytes) few in
        let none : return_and (returns_from space (left - 1)) bytes ≡ [] = rw not_whole refl in
        ap (λ (pcs : List ℕ). text ++ flat_map (frame_line program) pcs) (one ∙ none) ∙ append-nil text

    -- a frame, and those behind it
    pub next-frame : 16 ≤ length bytes
        → text ++ lines_from left frame
        ≡ (text ++ frame_line program (word_at bytes 8)) ++ lines_from (left - 1) (word_at bytes 0)
    next-frame enough =
        let whole : nat_le 16 (length bytes) ≡ true = le-leb 16 (length bytes) enough in
        let pcs : return_and (returns_from space (left - 1)) bytes
        ≡ word_at bytes 8 ∷ returns_from space (left - 1) (word_at bytes 0) = rw whole refl in
        ap (λ (xs : List ℕ). text ++ flat_map (frame_line program) xs) (one ∙ pcs)
        ∙ sym (append_assoc text (frame_line program (word_at bytes 8)) (lines_from (left - 1) (word_at bytes 0)))
