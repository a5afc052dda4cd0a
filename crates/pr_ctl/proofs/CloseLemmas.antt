use Rattle.std.proofs.Common.{◌≡◌, ℕ, Some, refl}
use Rattle.pr_model.specs.Lives.{with_ended, with_this_ended}
use Rattle.pr_model.specs.Machines.{traced}
use Rattle.pr_model.specs.State.{TracedProcess, TracedSystem, live_process}

-- The end of the live process of an id is the end of that process.
pub with_ended-this : (s : TracedSystem) (pid status : ℕ) (p : TracedProcess) → live_process s pid ≡ Some p
    → with_ended traced pid status s ≡ with_this_ended traced pid p status s
unfolding with_ended
with_ended-this s pid status p e = rw e refl

pub ruleset close_laws = (with_ended-this)
