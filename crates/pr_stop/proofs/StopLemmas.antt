use Rattle.std.proofs.Common.{◌≡◌, Some, None, refl}
use Rattle.pr_num.specs.Agents.{agent_id}
use Rattle.pr_model.specs.State.{TracedLwp, TracedProcess, lwp_of}
use Rattle.pr_model.specs.Stops.{representative}
use Rattle.pr_stop.specs.Classes.{in_classes}
use Rattle.pr_model.proofs.StateLemmas.{representative-agent}

-- The representative lwp, by whether there is an agent.

pub representative-classes : (p : TracedProcess) → lwp_of p agent_id ≡ None → representative p ≡ in_classes p
unfolding representative in_classes
representative-classes p e = rw e refl

pub ruleset representing = (representative-agent, representative-classes)
