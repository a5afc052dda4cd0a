use Rattle.std.specs.Prelude.{◌≡◌, List}
use Rattle.std.specs.List.{flat_map}
use Rattle.pr_model.specs.Erasure.{erased}
use Rattle.pr_model.specs.Legal.{state_after}
use Rattle.pr_model.specs.State.{TracedState}
use Rattle.pr_model.specs.UntracedMachine.{UntracedRun, traced_step}
use Rattle.pr_model.specs.UntracedSteps.{untraced_steps, untraced_trace}
use Rattle.pr_model.specs.declared.events.Entry.{Entry}

-- Tracing is transparent (proc(4), truss(1)): a program that is traced does what it could have done untraced.

-- A history from a state is transparent: the machine without controllers can make its untraced steps, and they lead
-- from what programs can see of that state to what they can see of the last one; and the trace of that run, which is
-- the calls that were made or are over, the faults and the taken signals, is the trace of the history.
pub record IsTransparent (s : TracedState) (h : List Entry) : Type 0 where
  pub run : UntracedRun (erased s) (untraced_steps h) (erased (state_after s h))
  pub trace : untraced_trace h ≡ flat_map traced_step (untraced_steps h)
