use Rattle.std.proofs.Common.{◌≡◌, ◌==◌, ◌||◌, ℕ, Bool, true, false, not, cond, Option, Some, None, List, length, option_map, refl}
use Rattle.std.specs.List.{find, list_all}
use Rattle.std.specs.Prelude.{nat_le, nat_lt}
use Rattle.pr_num.specs.Limits.{handle_limit}
use Rattle.pr_num.specs.declared.errnos.Errno.TheVariants.{Badf, Inval, Intr}
use Rattle.pr_model.specs.Calls.{answered, interrupted_answer, is_interrupted, is_open_by, is_polled_ready, poll_answer, ready_answer, refused, until_answer, waited}
use Rattle.pr_model.specs.State.{TracedState}
use Rattle.pr_model.specs.declared.calls.Reply.TheVariants.{Done, Fail, Ready}
use Rattle.pr_kern.specs.Waits.{poll_reply, until_reply}

-- The answers to waits are what their replies make of the state.

module _ (s : TracedState) (by : ℕ) where
  until_of : (interrupted come : Bool)
      → option_map (waited s by) (cond interrupted (Some (Fail Intr)) (cond come (Some Done) None))
      ≡ cond interrupted (Some (interrupted_answer s by)) (cond come (Some (answered s Done)) None)
  until_of true come = refl
  until_of false true = refl
  until_of false false = refl

  pub until-waited : (moment : ℕ) → option_map (waited s by) (until_reply s by moment) ≡ until_answer s by moment
  unfolding until_reply until_answer
  until-waited moment = until_of (is_interrupted s by) (nat_le moment s.system.clock)

  ready_of : (o : Option ℕ) → option_map (waited s by) (option_map Ready o) ≡ ready_answer s o
  ready_of None = refl
  ready_of (Some handle) = refl

  poll_of : (closed bad interrupted : Bool) (o : Option ℕ)
      → option_map (waited s by)
      (cond closed (Some (Fail Badf))
      (cond bad (Some (Fail Inval)) (cond interrupted (Some (Fail Intr)) (option_map Ready o))))
      ≡ cond closed (Some (refused s Badf))
      (cond bad (Some (refused s Inval)) (cond interrupted (Some (interrupted_answer s by)) (ready_answer s o)))
  poll_of true bad interrupted o = refl
  poll_of false true interrupted o = refl
  poll_of false false true o = refl
  poll_of false false false o = ready_of o

  pub poll-waited : (handles : List ℕ) → option_map (waited s by) (poll_reply s by handles) ≡ poll_answer s by handles
  unfolding poll_reply poll_answer
  poll-waited handles =
      poll_of (not (list_all (is_open_by s.opens by) handles))
      ((length handles == 0) || nat_lt handle_limit (length handles)) (is_interrupted s by)
      (find (is_polled_ready s by) handles)

pub ruleset wait_laws = (until-waited, poll-waited)
