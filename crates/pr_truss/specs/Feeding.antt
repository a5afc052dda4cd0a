-- What the reply to its call makes of truss(1).
use Rattle.pr_model.specs.declared.calls.Reply.{Reply}
use Rattle.pr_truss.specs.Children.{with_child_control_answered, with_child_answered, with_freeing_answered}
use Rattle.pr_truss.specs.Closings.{with_closed}
use Rattle.pr_truss.specs.Openings.{with_start_answered, with_control_answered, with_step_answered}
use Rattle.pr_truss.specs.Replies.{answer_of}
use Rattle.pr_truss.specs.Stops.{with_poll_answered, with_status_answered, with_text_answered, with_run_answered, with_unfollowed, with_lwps_answered}
use Rattle.pr_truss.specs.Trusses.{TrussState}
use Rattle.pr_truss.specs.declared.stages.Stage.{Stage}
use Rattle.pr_truss.specs.declared.stages.Stage.TheVariants.{Spawning, OpeningControl, Opening, Polling, ReadingStatus, ReadingText, OpeningChildControl, OpeningChild, Running, Closing, Unfollowing, ReadingLwps, FreeingChild, Finished}

-- a row a step
unfoldable pub with_reply : TrussState → Reply → Stage → TrussState
with_reply s r (Spawning program) = with_start_answered s program r (answer_of r)
with_reply s r (OpeningControl pid) = with_control_answered s pid r (answer_of r)
with_reply s r (Opening place step) = with_step_answered s place step r (answer_of r)
with_reply s r Polling = with_poll_answered s r (answer_of r)
with_reply s r (ReadingStatus place) = with_status_answered s place r (answer_of r)
with_reply s r (ReadingText place lwp at len) = with_text_answered s place lwp len r
with_reply s r (OpeningChildControl parent child) = with_child_control_answered s parent child r (answer_of r)
with_reply s r (OpeningChild parent place step) = with_child_answered s parent place step r (answer_of r)
with_reply s r (Running place) = with_run_answered s place (answer_of r)
with_reply s r (Closing place next) = with_closed s place next
with_reply s r Unfollowing = with_unfollowed s (answer_of r)
with_reply s r ReadingLwps = with_lwps_answered s r (answer_of r)
with_reply s r (FreeingChild child step) = with_freeing_answered s child step r
with_reply s r Finished = s

-- truss that was fed the reply to its call; one that has finished stays as it is
unfoldable pub fed : TrussState → Reply → TrussState
fed s r = with_reply s r s.stage
