use Rattle.std.specs.Prelude.{◌≡◌, List}
use Rattle.pr_hidden.specs.Covers.{Covers}
use Rattle.pr_hidden.specs.HiddenSteps.{hidden_steps}
use Rattle.pr_hidden.specs.Hiders.{Hiders, covers_at}
use Rattle.pr_hide.specs.Bare.{bare}
use Rattle.pr_model.specs.Legal.{state_after}
use Rattle.pr_model.specs.State.{TracedState}
use Rattle.pr_model.specs.UntracedSteps.{Memory, nothing_yet, remembered_all}
use Rattle.pr_model.specs.declared.events.Entry.{Entry}
use Rattle.pr_model.specs.declared.steps.Step.{Step}

-- What a walk over a history has come to: the steps that are not hidden, what is remembered, what is hidden but for
-- faults, and the state.
pub record HasHidden (who : Hiders) (s : TracedState) (h : List Entry) (steps : List Step) (m : Memory)
    (covers : Covers)
    (now : TracedState) : Type 0 where
  pub steps_are : steps ≡ hidden_steps who s h
  pub remembers : m ≡ remembered_all nothing_yet h
  pub hides : covers ≡ bare (covers_at who s h)
  pub state_is : now ≡ state_after s h
