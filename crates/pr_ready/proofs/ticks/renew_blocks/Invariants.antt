use Rattle.std.proofs.Common.{◌≡◌, ◌/◌, ◌<◌, ◌≤◌, ℕ, true}
use Rattle.std.specs.Prelude.{slice_index}
use Rattle.pr_model.specs.State.{live_process}
use Rattle.pr_pids.specs.Members.{has_pid}
use Rattle.pr_ready.specs.Ready.{HasAll, some_answer_of, some_woken_of}
use Rattle.pr_ready.proofs.ticks.renew_blocks.Given as goal

-- the blocks so far were looked at, and the others stand as they stood; none left the set
abbrev pub invariant-loop-block : goal.invariant-loop-block
invariant-loop-block g l = record {
  looked :
      (pid : ℕ) → pid / 64 < l.block → slice_index l.initial.blocks (pid / 64) ≤ l.sys.clock
      → some_answer_of (g.Q.Question.answer l.question) pid (live_process l.sys pid) ≡ true
      → has_pid l.movable pid ≡ true;
  next :
      (pid moment : ℕ) → pid / 64 < l.block → slice_index l.initial.blocks (pid / 64) ≤ moment
      → some_woken_of l.sys.clock moment (live_process l.sys pid) ≡ true → slice_index l.blocks (pid / 64) ≤ moment;
  others : (other : ℕ) → l.block ≤ other → slice_index l.blocks other ≡ slice_index l.initial.blocks other;
  grows : HasAll l.initial.movable l.movable;
}
