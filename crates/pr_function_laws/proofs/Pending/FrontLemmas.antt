use Rattle.std.proofs.Common.{◌≡◌, ◌≢◌, ◌++◌, ℕ, true, Option, Some, None, List, [], ◌∷◌, refl, subst, ap, ◌∙◌}
use Rattle.std.specs.List.{All, cons_option}
use Rattle.pr_line.specs.declared.options.Options.{Options}
use Rattle.pr_model.specs.Legal.{IsLegal, IsLegalEntry, after, state_after}
use Rattle.pr_model.specs.State.{TracedState}
use Rattle.pr_model.specs.declared.events.Entry.{Entry}
use Rattle.pr_report_laws.proofs.Files.WatchHistories.{cons-exchanges, exchanges-both, exchanges-push}
use Rattle.pr_report_laws.proofs.SeenChildren.Splits.{state_after-both}
use Rattle.pr_truss.specs.FunctionCalls.{next_function_call_of}
use Rattle.pr_truss.specs.Marks.{has_functions}
use Rattle.pr_truss.specs.Replies.{answer_of}
use Rattle.pr_truss.specs.Trusses.{TrussState, first_truss}
use Rattle.pr_truss.specs.declared.replies.Answer.TheVariants.{Interrupted}
use Rattle.pr_truss_laws.proofs.Replies.AnswerLemmas.{IsAnswer, answer-is}
use Rattle.pr_truss_laws.specs.Exchanges.{Exchange, exchange_of, exchanges}
use Rattle.pr_function_laws.proofs.CallTurns.CalledLaws.{functions-both}
use Rattle.pr_function_laws.proofs.OpenedProcesses.OpenedLaws.{Goes, before-goes, calls-rest}
use Rattle.pr_function_laws.specs.Opened.{IsFunctionRun, WasNotInterrupted, functions_at}
use Rattle.pr_function_laws.specs.Runs.{MakesFunctionCalls, functions_after, functions_on}
use Rattle.std.proofs.lemmas.List.Elements.{All-head}
use Rattle.pr_report_laws.proofs.Watching.HistoryParts.{all-rest, legal-rest}

-- An entry of a history of truss with functions, and what truss and the machine are before it and behind it.

pub calm-answer : (x : Exchange) → WasNotInterrupted x → answer_of x.reply ≢ Interrupted
unfolding IsAnswer
calm-answer x calm interrupted = calm.unbroken (subst (IsAnswer x.reply) interrupted (answer-is x.reply))

one-more : (t : TrussState) (x : Option Exchange) → functions_after t (cons_option x []) ≡ functions_on t x
one-more t None = refl
one-more t (Some x) = refl

-- what is so of all exchanges is so of the one of an entry
pub all-entry : (P : Exchange → Type 0) (k : ℕ) (front rest : List Entry) (e : Entry) (x : Exchange)
    → All P (exchanges k (front ++ e ∷ rest)) → exchange_of k e ≡ Some x → P x
all-entry P k front rest e x all own =
    All-head P x (exchanges k rest)
    (subst (λ (y : Option Exchange). All P (cons_option y (exchanges k rest))) own
    (subst (All P) (cons-exchanges k e rest)
    (all-rest P (exchanges k front) (exchanges k (e ∷ rest))
    (subst (All P) (exchanges-both k front (e ∷ rest)) all))))

module _ (n k : ℕ) (o : Options) (s : TracedState) (h : List Entry) (run : IsFunctionRun n k o s h)
    (front : List Entry) (e : Entry) (later : List Entry) (is : h ≡ front ++ e ∷ later)
    (calm : All WasNotInterrupted (exchanges k front)) where
  abbrev t : TrussState
  t = functions_at k o front

  -- what truss has done so far
  pub here : Goes ⊥ k o t (state_after s front)
  here = before-goes n k o s h run front (e ∷ later) is calm ⊥ (λ none. absurd none) (λ none. absurd none)

  pub legal : IsLegalEntry n (state_after s front) e
  legal = let rest = legal-rest n s front (e ∷ later) (subst (IsLegal n s) is run.legal) in rest.0

  pub has : has_functions t.options ≡ true
  has = let g = here in ap has_functions g.options ∙ run.has

  pub makes-next : (x : Exchange) → exchange_of k e ≡ Some x → next_function_call_of t ≡ Some x.call
  makes-next x own =
      let makes : MakesFunctionCalls t (exchanges k (e ∷ later)) =
      calls-rest (first_truss o) (exchanges k front) (exchanges k (e ∷ later))
      (subst (MakesFunctionCalls (first_truss o))
      (ap (exchanges k) is ∙ exchanges-both k front (e ∷ later)) run.makes) in
      let first : MakesFunctionCalls t (x ∷ exchanges k later) =
      subst (λ y. MakesFunctionCalls t (cons_option y (exchanges k later))) own
      (subst (MakesFunctionCalls t) (cons-exchanges k e later) makes) in
      first.0

  -- the entry is one more
  pub pushed : functions_at k o (front ++ e ∷ []) ≡ functions_on t (exchange_of k e)
  pushed =
      ap (functions_after (first_truss o)) (exchanges-push k front e)
      ∙ functions-both (first_truss o) (exchanges k front) (cons_option (exchange_of k e) [])
      ∙ one-more t (exchange_of k e)

  pub next-state : state_after s (front ++ e ∷ []) ≡ after (state_after s front) e
  next-state = state_after-both s front (e ∷ [])
