use Rattle.std.proofs.Common.{◌≡◌, ◌++◌, ℕ, List, [], ◌∷◌, subst, ap, ◌∙◌}
use Rattle.std.proofs.lemmas.List.Elements.{All-cons, All-head, All-nil, All-tail}
use Rattle.std.specs.List.{All}
use Rattle.pr_line.specs.declared.options.Options.{Options}
use Rattle.pr_model.specs.Legal.{IsLegal, after, state_after}
use Rattle.pr_model.specs.State.{TracedState}
use Rattle.pr_model.specs.declared.events.Entry.{Entry}
use Rattle.pr_truss.specs.Trusses.{first_truss}
use Rattle.pr_truss_laws.specs.Exchanges.{Makes, exchanges, truss_after, truss_at}
use Rattle.pr_truss_laws.specs.Runs.{IsTrussRun}
use Rattle.pr_reached.specs.ByteHistories.{IsEntryOfBytes}
use Rattle.pr_report_laws.specs.ReachedRuns.{IsReachedTrussRun}
use Rattle.pr_report_laws.proofs.Files.WatchHistories.{after-append, exchanges-both, makes-front, makes-rest}

-- A history in which truss makes its calls, in two parts.

-- ---- lists in two parts

pub all-front : {X : Type 0} (P : X → Type 0) (xs ys : List X) → All P (xs ++ ys) → All P xs
all-front P [] ys all = All-nil P
all-front P (x ∷ xs) ys all =
    All-cons P x xs (All-head P x (xs ++ ys) all) (all-front P xs ys (All-tail P x (xs ++ ys) all))

pub all-rest : {X : Type 0} (P : X → Type 0) (xs ys : List X) → All P (xs ++ ys) → All P ys
all-rest P [] ys all = all
all-rest P (x ∷ xs) ys all = all-rest P xs ys (All-tail P x (xs ++ ys) all)

-- ---- a history in two parts

pub legal-front : (n : ℕ) (s : TracedState) (xs ys : List Entry) → IsLegal n s (xs ++ ys) → IsLegal n s xs
legal-front n s [] ys legal = tt
legal-front n s (x ∷ xs) ys legal = (legal.0, legal-front n (after s x) xs ys legal.1)

pub legal-rest : (n : ℕ) (s : TracedState) (xs ys : List Entry) → IsLegal n s (xs ++ ys)
    → IsLegal n (state_after s xs) ys
legal-rest n s [] ys legal = legal
legal-rest n s (x ∷ xs) ys legal = legal-rest n (after s x) xs ys legal.1

pub truss_at-both : (k : ℕ) (o : Options) (xs ys : List Entry)
    → truss_at k o (xs ++ ys) ≡ truss_after (truss_at k o xs) (exchanges k ys)
truss_at-both k o xs ys =
    ap (truss_after (first_truss o)) (exchanges-both k xs ys)
    ∙ after-append (first_truss o) (exchanges k xs) (exchanges k ys)

module _ (n k : ℕ) (o : Options) (s : TracedState) (xs ys : List Entry) (run : IsTrussRun n k o s (xs ++ ys)) where
  both-make : Makes (first_truss o) (exchanges k xs ++ exchanges k ys)
  both-make = subst (Makes (first_truss o)) (exchanges-both k xs ys) run.makes

  pub front-run : IsTrussRun n k o s xs
  front-run = record {
    lawful = run.lawful;
    nothing_open = run.nothing_open;
    legal = legal-front n s xs ys run.legal;
    makes = makes-front (first_truss o) (exchanges k xs) (exchanges k ys) both-make;
  }

  pub rest-legal : IsLegal n (state_after s xs) ys
  rest-legal = legal-rest n s xs ys run.legal

  pub rest-makes : Makes (truss_at k o xs) (exchanges k ys)
  rest-makes = makes-rest (first_truss o) (exchanges k xs) (exchanges k ys) both-make

-- so it is of a run of which each state is reached
pub front-reached : (n k : ℕ) (o : Options) (s : TracedState) (xs ys : List Entry)
    → IsReachedTrussRun n k o s (xs ++ ys) → IsReachedTrussRun n k o s xs
front-reached n k o s xs ys run = record {
  of = front-run n k o s xs ys run.of;
  reached = run.reached;
  bytes = all-front IsEntryOfBytes xs ys run.bytes;
}
