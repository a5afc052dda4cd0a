-- What is judged of entries that are heard one after another.
use Rattle.std.proofs.Common.{◌≡◌, ◌+◌, ℕ, Bool, true, false, cond, Option, Some, None, option_map, is_some, List, [], ◌∷◌, ◌++◌, length, suc, refl, sym, ◌∙◌, ap, subst, arith, length-append}
use Rattle.pr_model.proofs.HistoryLemmas.{state_after-push}
use Rattle.pr_model.specs.Legal.{after, state_after}
use Rattle.pr_model.specs.State.{TracedState}
use Rattle.pr_model.specs.declared.events.Entry.{Entry}
use Rattle.pr_judge.proofs.FirstLemmas.{first-judges, judged-first}
use Rattle.pr_judge.specs.Hearings.{HasHeard, Hearing}
use Rattle.pr_judge.specs.Judgements.{Judges, first_illegal, is_legal_entry}
use Rattle.pr_judge.specs.Players.{HasTried}

-- what is found of entries with one more behind them, which is legal or is not, where so much is found without it
abbrev found_next : Option ℕ → Bool → ℕ → Option ℕ
found_next (Some place) legal count = Some place
found_next None legal count = cond legal None (Some count)

found_behind : (o : Option ℕ) (legal : Bool) (count : ℕ)
    → option_map (λ place. suc place) (found_next o legal count)
    ≡ found_next (option_map (λ place. suc place) o) legal (suc count)
found_behind (Some place) legal count = refl
found_behind None true count = refl
found_behind None false count = refl

found_first : (b : Bool) → cond b (option_map (λ place. suc place) None) (Some 0) ≡ cond b None (Some 0)
found_first true = refl
found_first false = refl

found_below : (b legal : Bool) (o more : Option ℕ) (count : ℕ) → more ≡ found_next o legal count
    → cond b (option_map (λ place. suc place) more) (Some 0)
    ≡ found_next (cond b (option_map (λ place. suc place) o) (Some 0)) legal (suc count)
found_below true legal o more count h = ap (option_map (λ place. suc place)) h ∙ found_behind o legal count
found_below false legal o more count h = refl

first_illegal-push : (n : ℕ) (s : TracedState) (es : List Entry) (e : Entry)
    → first_illegal n s (es ++ e ∷ [])
    ≡ found_next (first_illegal n s es) (is_legal_entry n (state_after s es) e) (length es)
unfolding first_illegal
first_illegal-push n s [] e = found_first (is_legal_entry n s e)
first_illegal-push n s (x ∷ es) e =
    found_below (is_legal_entry n s x) (is_legal_entry n (state_after (after s x) es) e)
    (first_illegal n (after s x) es) (first_illegal n (after s x) (es ++ e ∷ [])) (length es)
    (first_illegal-push n (after s x) es e)

-- ---- nothing is heard yet

pub heard-nothing : (judge : Hearing) (first : TracedState) → judge.state ≡ first → judge.heard ≡ 0
    → judge.first ≡ None → HasHeard first [] judge
heard-nothing judge first state heard none = record {
  heard = heard;
  judges = subst (λ (o : Option ℕ). Judges judge.controllers first [] o) (sym none) tt;
  state = λ e. state;
}

-- ---- one entry more is heard

kept : (o : Option ℕ) (legal : Bool) (count : ℕ) → is_some o ≡ true → o ≡ found_next o legal count
kept (Some place) legal count h = refl
kept None legal count h = cc

no-first : (o : Option ℕ) → is_some o ≡ false → o ≡ None
no-first None h = refl
no-first (Some place) h = cc

is-legal : (b : Bool) (count : ℕ) → cond b None (Some count) ≡ None → b ≡ true
is-legal true count h = refl
is-legal false count h = cc

module _ (s : TracedState) (es : List Entry) (e : Entry) (old new : Hearing) (so_far : HasHeard s es old)
    (same : new.controllers ≡ old.controllers) (count : new.heard ≡ old.heard + 1) where
  found : old.first ≡ first_illegal old.controllers s es
  found = judged-first old.controllers s es old.first so_far.judges

  heard-count : new.heard ≡ length (es ++ e ∷ [])
  heard-count = omega (arith, count, so_far.heard, length-append es (e ∷ []))

  judged : new.first ≡ found_next old.first (is_legal_entry old.controllers (state_after s es) e) (length es)
      → Judges new.controllers s (es ++ e ∷ []) new.first
  judged is =
      let first : new.first ≡ first_illegal old.controllers s (es ++ e ∷ []) =
      is ∙ ap (λ (o : Option ℕ). found_next o (is_legal_entry old.controllers (state_after s es) e) (length es)) found
      ∙ sym (first_illegal-push old.controllers s es e) in
      subst (λ (k : ℕ). Judges k s (es ++ e ∷ []) new.first) (sym same)
      (subst (λ (o : Option ℕ). Judges old.controllers s (es ++ e ∷ []) o) (sym first)
      (first-judges old.controllers s (es ++ e ∷ [])))

  -- one before it was not legal
  pub heard-still : is_some old.first ≡ true → new.first ≡ old.first → HasHeard s (es ++ e ∷ []) new
  heard-still wrong stays = record {
    heard = heard-count;
    judges = judged (stays ∙ kept old.first _ _ wrong);
    state = λ none.
        let no : false ≡ true = sym (ap (λ (o : Option ℕ). is_some o) (sym stays ∙ none)) ∙ wrong in
        cc;
  }

  -- all before it are legal
  pub heard-tried : (legal : Bool) (next : TracedState) → is_some old.first ≡ false
      → HasTried old.controllers e old.state next legal → new.first ≡ cond legal None (Some old.heard)
      → new.state ≡ next → HasHeard s (es ++ e ∷ []) new
  heard-tried legal next some tried first state =
      let none : old.first ≡ None = no-first old.first some in
      let here : old.state ≡ state_after s es = so_far.state none in
      let is : legal ≡ is_legal_entry old.controllers (state_after s es) e =
      tried.is ∙ ap (λ (t : TracedState). is_legal_entry old.controllers t e) here in
      record {
        heard = heard-count;
        judges =
            judged
            (first ∙ ap (λ (k : ℕ). cond legal None (Some k)) so_far.heard
            ∙ ap (λ (b : Bool). found_next None b (length es)) is
            ∙ ap (λ (o : Option ℕ). found_next o (is_legal_entry old.controllers (state_after s es) e) (length es))
            (sym none));
        state = λ to.
            state ∙ tried.state (is-legal legal old.heard (sym first ∙ to))
            ∙ ap (λ (t : TracedState). after t e) here ∙ sym (state_after-push s es e);
      }
