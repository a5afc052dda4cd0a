use Rattle.pr_function_hides.proofs.Replies.TreatedEvents.{read-treats, treated-now, treats-on}
use Rattle.pr_function_hides.proofs.treats.what_truss_does_at_an_event_comes_before_its_run.Goals as goal

pub returns-clause-begins : goal.returns-clause-begins
returns-clause-begins c =
    λ t r place l e has follow off within idle reads accepted told fresh.
    read-treats t r place l e has follow off within idle reads accepted told fresh

pub returns-clause-goes_on : goal.returns-clause-goes_on
returns-clause-goes_on c = λ t r m e place calm w has other. treats-on t r m e place calm w has other

pub returns-clause-done : goal.returns-clause-done
returns-clause-done c = λ m e place t w idle. treated-now m e place t w idle
