use Rattle.std.proofs.Common.{◌≡◌, ◌≤◌, ℕ, refl}
use Rattle.pr_num.specs.Limits.{worker_limit}
use Rattle.pr_commands.specs.Commands.{HasWorkers}
use Rattle.pr_commands.specs.Rows.{row_of}
use Rattle.pr_output.specs.declared.runs.Showing.{Showing}
use Rattle.pr_commands.specs.declared.commands.Work.{Work}
use Rattle.pr_commands.specs.declared.commands.Work.TheVariants.{Shares}
use Rattle.pr_commands.proofs.CheckLemmas.{judges-history, leaves-nothing}
use Rattle.pr_commands.proofs.CoreLemmas.{core-leaves-nothing}
use Rattle.pr_commands.proofs.RunEndLemmas.{history-kept, runs-scenario}
use Rattle.pr_commands.proofs.SharedLemmas.{shared-kept, shares-scenario}
use Rattle.pr_commands.proofs.running.carry_out.Goals as goal

pub returns-in-Explains-clause-ends : goal.returns-in-Explains-clause-ends
unfolding row_of
returns-in-Explains-clause-ends g c = rw c.in-Explains.is (record {
  responds = c.explain.ensures.responds;
  had_memory = c.explain.ensures.had_memory;
  no_history = c.explain.ensures.no_history;
  unread = refl;
  no_read_fault = refl;
})

pub returns-in-Generates-clause-ends : goal.returns-in-Generates-clause-ends
unfolding row_of
returns-in-Generates-clause-ends g c = rw c.in-Generates.is (record {
  responds = c.generate.ensures.responds;
  had_memory = c.generate.ensures.had_memory;
  no_history = c.generate.ensures.no_history;
  unread = refl;
  no_read_fault = refl;
})

pub returns-in-Runs-clause-ends : goal.returns-in-Runs-clause-ends
unfolding row_of
returns-in-Runs-clause-ends g c = rw c.in-Runs.is c.run.ensures

pub returns-in-Runs-clause-does_work : goal.returns-in-Runs-clause-does_work
returns-in-Runs-clause-does_work g c = rw c.in-Runs.is (runs-scenario _ _ _ _ _ c.run.ensures)

pub returns-in-Runs-clause-kept : goal.returns-in-Runs-clause-kept
unfolding row_of
returns-in-Runs-clause-kept g c = rw c.in-Runs.is (history-kept _ _ _ _ _ c.run.ensures)

pub returns-in-Strips-clause-ends : goal.returns-in-Strips-clause-ends
unfolding row_of
returns-in-Strips-clause-ends g c = rw c.in-Strips.is c.strip.ensures

pub returns-in-Strips-clause-does_work : goal.returns-in-Strips-clause-does_work
returns-in-Strips-clause-does_work g c = rw c.in-Strips.is (runs-scenario _ _ _ _ _ c.strip.ensures)

pub returns-in-Strips-clause-kept : goal.returns-in-Strips-clause-kept
unfolding row_of
returns-in-Strips-clause-kept g c = rw c.in-Strips.is (history-kept _ _ _ _ _ c.strip.ensures)

pub returns-in-Checks-clause-ends : goal.returns-in-Checks-clause-ends
unfolding row_of
returns-in-Checks-clause-ends g c = rw c.in-Checks.is c.check.ensures

pub returns-in-Checks-clause-does_work : goal.returns-in-Checks-clause-does_work
returns-in-Checks-clause-does_work g c = rw c.in-Checks.is (judges-history _ _ _ _ c.check.ensures)

pub returns-in-Checks-clause-kept : goal.returns-in-Checks-clause-kept
unfolding row_of
returns-in-Checks-clause-kept g c = rw c.in-Checks.is (leaves-nothing _ _ _ _ c.check.ensures)

pub returns-in-ShowsCore-clause-ends : goal.returns-in-ShowsCore-clause-ends
unfolding row_of
returns-in-ShowsCore-clause-ends g c = rw c.in-ShowsCore.is c.show_over_core.ensures

pub returns-in-ShowsCore-clause-kept : goal.returns-in-ShowsCore-clause-kept
unfolding row_of
returns-in-ShowsCore-clause-kept g c = rw c.in-ShowsCore.is (core-leaves-nothing _ _ _ _ _ c.show_over_core.ensures)

pub returns-in-Explains-clause-kept : goal.returns-in-Explains-clause-kept
unfolding row_of
returns-in-Explains-clause-kept g c = rw c.in-Explains.is c.explain.ensures.no_history

pub returns-in-Generates-clause-kept : goal.returns-in-Generates-clause-kept
unfolding row_of
returns-in-Generates-clause-kept g c = rw c.in-Generates.is c.generate.ensures.no_history

-- the workers of a run on several threads
workers : (work : Work) (showing : Showing) (n : ℕ) → work ≡ Shares showing n → HasWorkers work
    → (1 ≤ n) × (n ≤ worker_limit)
workers work showing n is h = rw is at h

pub run_on_threads-requires-clause-some : goal.run_on_threads-requires-clause-some
run_on_threads-requires-clause-some g c κs within =
    (workers c.args.work c.in-Shares.showing c.in-Shares.workers c.in-Shares.is c.requires.workers).0

pub run_on_threads-requires-clause-most : goal.run_on_threads-requires-clause-most
run_on_threads-requires-clause-most g c κs within =
    (workers c.args.work c.in-Shares.showing c.in-Shares.workers c.in-Shares.is c.requires.workers).1

pub returns-in-Shares-clause-ends : goal.returns-in-Shares-clause-ends
unfolding row_of
returns-in-Shares-clause-ends g c = rw c.in-Shares.is c.run_on_threads.ensures

pub returns-in-Shares-clause-does_work : goal.returns-in-Shares-clause-does_work
returns-in-Shares-clause-does_work g c = rw c.in-Shares.is (shares-scenario _ _ _ _ _ c.run_on_threads.ensures)

pub returns-in-Shares-clause-kept : goal.returns-in-Shares-clause-kept
unfolding row_of
returns-in-Shares-clause-kept g c = rw c.in-Shares.is (shared-kept _ _ _ _ _ c.run_on_threads.ensures)
