use Rattle.std.specs.Prelude.{◌≡◌, ◌<◌, ℕ, Bool, true, false}
use Rattle.pr_num.specs.Limits.{process_limit}
use Rattle.pr_model.specs.State.{TracedSystem, live_process}
use Rattle.pr_pids.specs.Members.{has_pid}
use Rattle.pr_ready.specs.Ready.{Covers, IsDue, ReadySets, some_answer_of, some_woken_of}

-- How the sets follow a step: those that it touches are looked at, and so are those that may have waited for files or
-- for a moment to which the clock has come, where these may differ; nobody else leaves a set, or is looked at later
-- than the moment until which it sleeps.
pub record KeepsUp (touches : ℕ → Bool) (files clock : Bool) (answer : ℕ × ℕ → Bool) (u : TracedSystem)
    (old new : ReadySets) : Type 0 where
  pub touched : (pid : ℕ) → touches pid ≡ true → pid < process_limit → Covers answer u new pid
  pub movable : (pid : ℕ) → touches pid ≡ false → has_pid old.movable pid ≡ true → has_pid new.movable pid ≡ true
  pub at_pipes : (pid : ℕ) → touches pid ≡ false → has_pid old.at_pipes pid ≡ true → has_pid new.at_pipes pid ≡ true
  pub dozing : (pid : ℕ) → touches pid ≡ false → has_pid old.dozing pid ≡ true → has_pid new.dozing pid ≡ true
  pub by_files : files ≡ true → (pid : ℕ) → touches pid ≡ false → has_pid old.at_pipes pid ≡ true
      → some_answer_of answer pid (live_process u pid) ≡ true → has_pid new.movable pid ≡ true
  pub by_clock : clock ≡ true → (pid : ℕ) → touches pid ≡ false → pid < process_limit → IsDue old.moments pid u.clock
      → some_answer_of answer pid (live_process u pid) ≡ true → has_pid new.movable pid ≡ true
  pub moments : (pid moment : ℕ) → touches pid ≡ false → pid < process_limit → IsDue old.moments pid moment
      → some_woken_of u.clock moment (live_process u pid) ≡ true → IsDue new.moments pid moment
