use Rattle.std.proofs.Common.{◌≡◌, List, ℕ, [], ◌∷◌, ◌++◌, map, sym, ap, ◌∙◌, Bor}
use Rattle.std.proofs.lemmas.List.{map_push, append_assoc}
use Rattle.std.proofs.lemmas.List.Elements.{All-rest}
use Rattle.pr_text.specs.declared.spans.Word.{Word}
use Rattle.pr_text.specs.Words.{text_of, texts_of}
use Rattle.pr_text.specs.Division.{StandsIn}
use Rattle.pr_text.proofs.splitting.word_texts.Goals as goal

-- one word's bytes more
texts_more : (line : List ℕ) (texts new : List (Bor (List ℕ))) (t : Bor (List ℕ)) (w : Word) (left rest : List Word)
    → new ≡ texts ++ t ∷ [] → t.now ≡ text_of line w → left ≡ w ∷ rest
    → map (λ (t : Bor (List ℕ)). t.now) texts ++ map (text_of line) left ≡ texts_of line
    → map (λ (t : Bor (List ℕ)). t.now) new ++ map (text_of line) rest ≡ texts_of line
texts_more line texts new t w left rest pushed text next so_far =
    ap (λ xs. map (λ (t : Bor (List ℕ)). t.now) xs ++ map (text_of line) rest) pushed
    ∙ ap (λ front. front ++ map (text_of line) rest) (map_push (λ (t : Bor (List ℕ)). t.now) texts t)
    ∙ append_assoc (map (λ (t : Bor (List ℕ)). t.now) texts) (t.now ∷ []) (map (text_of line) rest)
    ∙ ap (λ x. map (λ (t : Bor (List ℕ)). t.now) texts ++ x ∷ map (text_of line) rest) text
    ∙ ap (λ ws. map (λ (t : Bor (List ℕ)). t.now) texts ++ map (text_of line) ws) (sym next)
    ∙ so_far

pub loop-word-preserved : goal.loop-word-preserved
loop-word-preserved c = record {
  can = c.loop-word.invariant.can;
  finite = c.loop-word.invariant.finite;
  so_far =
      texts_more c.args.line.now c.loop-word.texts.items c.push.new.self.items c.text.result c.in-Some.word
      c.loop-word.left c.next.new.self c.in_ok-push.ensures.items c.text.ensures c.in-Some.ensures.steps
      c.loop-word.invariant.so_far;
  stand = All-rest
      (StandsIn c.args.line.now) c.in-Some.word c.next.new.self c.loop-word.left c.in-Some.ensures.steps
      c.loop-word.invariant.stand;
}
