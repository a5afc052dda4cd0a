use Rattle.std.proofs.Common.{◌≡◌, ◌<◌, ℕ, Bool, true, List}
use Rattle.pr_model.specs.State.{TracedSystem, live_process}
use Rattle.pr_pids.specs.Members.{has_pid}
use Rattle.pr_ready.specs.Ready.{some_answer_of}

-- Those of a set are looked at one after another.

-- each of the set below an id was looked at
abbrev pub WokenBelow : (ℕ × ℕ → Bool) → TracedSystem → List ℕ → List ℕ → ℕ → Type 0
WokenBelow answer s sleepers movable end =
    (pid : ℕ) → pid < end → has_pid sleepers pid ≡ true → some_answer_of answer pid (live_process s pid) ≡ true
    → has_pid movable pid ≡ true
