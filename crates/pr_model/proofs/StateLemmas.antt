use Rattle.std.proofs.Common.{◌≡◌, ℕ, ◌+◌, Bool, true, false, cond, Option, Some, None, is_none, refl, sym, ◌∙◌, ap}
use Rattle.std.specs.Option.{option_and_then}
use Rattle.std.proofs.lemmas.Option.{same_Some}
use Rattle.pr_num.specs.Agents.{agent_id}
use Rattle.pr_num.specs.Programs.{Program}
use Rattle.pr_model.specs.Lives.{with_made, with_spawned}
use Rattle.pr_model.specs.Machines.{traced}
use Rattle.pr_model.specs.State.{TracedLwp, TracedProcess, TracedSystem, if_live, live_process, lwp_of, process_of}
use Rattle.pr_model.specs.Stops.{representative}

-- What several crates need of states, processes and their lwps.

-- a process that is looked for among the live ones is that one, and live
pub live-found : (o : Option TracedProcess) (p : TracedProcess) → option_and_then if_live o ≡ Some p
    → (o ≡ Some p) × (is_none p.ended ≡ true)
live-found None p e = cc
live-found (Some q) p e = by (is_none q.ended) refl e
  where
    by : (b : Bool) → is_none q.ended ≡ b → cond b (Some q) None ≡ Some p → (Some q ≡ Some p) × (is_none p.ended ≡ true)
    by true is e = (e, ap (λ (x : TracedProcess). is_none x.ended) (sym (same_Some q p e)) ∙ is)
    by false is e = cc

pub live_process-found : (s : TracedSystem) (pid : ℕ) (p : TracedProcess) → live_process s pid ≡ Some p
    → process_of s pid ≡ Some p
unfolding live_process
live_process-found s pid p e = (live-found (process_of s pid) p e).0

pub live_process-live : (s : TracedSystem) (pid : ℕ) (p : TracedProcess) → live_process s pid ≡ Some p
    → is_none p.ended ≡ true
unfolding live_process
live_process-live s pid p e = (live-found (process_of s pid) p e).1

-- an agent is the representative
pub representative-agent : (p : TracedProcess) (l : TracedLwp) → lwp_of p agent_id ≡ Some l
    → representative p ≡ Some (agent_id, l)
unfolding representative
representative-agent p l agent = rw agent refl

-- a spawn makes one process
pub with_spawned-made : (program : Program) (s : TracedSystem) → (with_spawned traced program false s).made ≡ s.made + 1
unfolding with_spawned with_made
with_spawned-made program s = refl
