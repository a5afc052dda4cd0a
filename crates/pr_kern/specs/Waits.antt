use Rattle.std.specs.Prelude.{◌==◌, ◌||◌, ℕ, List, not, Option, Some, None, find, length, nat_le, nat_lt, option_map, if◌then◌else◌}
use Rattle.std.specs.List.{list_all}
use Rattle.pr_num.specs.Limits.{handle_limit}
use Rattle.pr_num.specs.declared.errnos.Errno.TheVariants.{Badf, Inval, Intr}
use Rattle.pr_model.specs.Calls.{is_interrupted, is_open_by, is_polled_ready}
use Rattle.pr_model.specs.State.{TracedState}
use Rattle.pr_model.specs.declared.calls.Reply.{Reply}
use Rattle.pr_model.specs.declared.calls.Reply.TheVariants.{Done, Fail, Ready}

-- The replies to waits. None: the wait goes on. EINTR is how a controller sees that it was interrupted.

-- to the wait for a moment of the clock
unfoldable pub until_reply : TracedState → ℕ → ℕ → Option Reply
until_reply s by moment =
    if is_interrupted s by then Some (Fail Intr) else (if nat_le moment s.system.clock then Some Done else None)

-- to the wait for the first ready handle of a list
unfoldable pub poll_reply : TracedState → ℕ → List ℕ → Option Reply
poll_reply s by handles =
    if not (list_all (is_open_by s.opens by) handles) then Some (Fail Badf)
    else (if (length handles == 0) || nat_lt handle_limit (length handles) then Some (Fail Inval)
    else (if is_interrupted s by then Some (Fail Intr)
    else option_map Ready (find (is_polled_ready s by) handles)))
