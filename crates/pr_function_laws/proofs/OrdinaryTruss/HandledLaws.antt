use Rattle.std.proofs.Common.{◌≡◌, true, List, subst, ap, ◌∙◌}
use Rattle.pr_line.specs.declared.options.Options.{Options}
use Rattle.pr_truss.specs.Marks.{has_functions}
use Rattle.pr_truss.specs.NextCalls.{next_call_of}
use Rattle.pr_truss.specs.Trusses.{TrussState, first_truss}
use Rattle.pr_truss_laws.proofs.GivenProcesses.GivenLemmas.{handled-so-far}
use Rattle.pr_truss_laws.specs.Exchanges.{Exchange, truss_after}
use Rattle.pr_truss_laws.specs.Given.{IsHandledSoFar}
use Rattle.pr_function_laws.proofs.OrdinaryTruss.OrdinaryLaws.{function-ends}
use Rattle.pr_function_laws.proofs.NextCalls.TreatedLaws.{options-at}
use Rattle.pr_function_laws.specs.Handled.{HandlesItsGiven}
use Rattle.pr_function_laws.specs.Ordinary.{IsTrussBeside, ordinary_among}
use Rattle.pr_function_laws.specs.Runs.{functions_after}

-- What became of each process that truss with calls of functions was given is told by the exchanges of a truss that its
-- own are like.

pub handles-its-given : (o : Options) (xs : List Exchange) → has_functions o ≡ true → (w : IsTrussBeside o xs)
    → HandlesItsGiven o xs w
handles-its-given o xs has w =
    let t : TrussState = functions_after (first_truss o) xs in
    let so_far : IsHandledSoFar o (next_call_of (truss_after (first_truss o) w.others)) o.program
    (ordinary_among t.reports) w.others =
    subst
    (λ reports. IsHandledSoFar o (next_call_of (truss_after (first_truss o) w.others)) o.program reports w.others)
    (ap (λ (v : TrussState). v.reports) w.is) (handled-so-far o w.others w.makes) in
    record {
      so_far = so_far;
      in_the_end = λ finished.
          subst (λ due. IsHandledSoFar o due o.program (ordinary_among t.reports) w.others)
          (ap next_call_of w.is ∙ function-ends t (ap has_functions (options-at o xs) ∙ has) finished) so_far;
    }
