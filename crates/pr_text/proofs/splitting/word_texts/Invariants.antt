use Rattle.std.proofs.Common.{◌≡◌, ◌++◌, List, ℕ, map, Bor}
use Rattle.std.specs.List.{All}
use Rattle.pr_text.specs.Words.{text_of, texts_of}
use Rattle.pr_text.specs.Division.{StandsIn}
use Rattle.pr_text.proofs.splitting.word_texts.Given as goal

abbrev pub invariant-loop-word : goal.invariant-loop-word
invariant-loop-word l = record {
  can : (goal.iterator-loop-word).can_next l.left;
  finite : (goal.iterator-loop-word).is_finite l.left;
  so_far : map (λ (t : Bor (List ℕ)). t.now) l.texts.items ++ map (text_of l.line) l.left ≡ texts_of l.line;
  stand : All (StandsIn l.line) l.left;
}
