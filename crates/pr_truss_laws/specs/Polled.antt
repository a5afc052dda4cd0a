use Rattle.std.specs.Prelude.{◌≡◌, ◌≢◌, ◌+◌, ◌*◌, ℕ, Bool, Some, position, if◌then◌else◌}
use Rattle.pr_model.specs.declared.calls.Call.TheVariants.{Close}
use Rattle.pr_model.specs.declared.calls.Reply.{Reply}
use Rattle.pr_model.specs.declared.calls.Reply.TheVariants.{Ready}
use Rattle.pr_truss.specs.NextCalls.{run_call}
use Rattle.pr_truss.specs.Stops.{has_control}
use Rattle.pr_truss.specs.Trusses.{TrussState}
use Rattle.pr_truss.specs.declared.processes.Traced.{Traced}
use Rattle.pr_truss.specs.declared.stages.Stage.TheVariants.{Polling}
use Rattle.pr_truss_laws.specs.Exchanges.{Exchange}

-- The process that a poll named, until truss runs it or closes a file of it.

-- the reply to a poll of truss names the control file of the process at this place
pub record PollNames (s : TrussState) (r : Reply) (place : ℕ) : Type 0 where
  pub polls : s.stage ≡ Polling
  pub handle : ℕ
  pub ready : r ≡ Ready handle
  pub there : position (has_control handle) s.traced ≡ Some place

-- none of the files of a process that are open has this handle
pub record IsNoFileOf (t : Traced) (handle : ℕ) : Type 0 where
  pub control : t.control ≢ handle
  pub status : t.status ≢ Some handle
  pub lstatus : t.lstatus ≢ Some handle
  pub memory : t.memory ≢ Some handle

-- a call that neither runs a process nor closes a file of it
pub record IsNoEndOf (t : Traced) (x : Exchange) : Type 0 where
  pub not_run : x.call ≢ run_call t.control
  pub not_closed : (handle : ℕ) → x.call ≡ Close handle → IsNoFileOf t handle

-- How many calls come at most before such an end: the reads of its status and of its memory, the six of the opening of
-- a child, and the closes of the child's four files. Where truss leaves its processes meanwhile, each that it opened
-- before this one costs ten at most: two that look at it, a read of memory, three that set a child free, four closes.
abbrev pub calls_meanwhile : Bool → ℕ → ℕ
calls_meanwhile leaving place = 12 + (if leaving then 10 * place else 0)
