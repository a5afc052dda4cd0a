use Rattle.std.specs.Prelude.{ℕ, Bool, true, List, Option, Some, None, if◌then◌else◌}
use Rattle.pr_num.specs.ById.{change_under, map_each}
use Rattle.pr_num.specs.declared.errnos.Errno.TheVariants.{Busy}
use Rattle.pr_model.specs.Messages.{Controlled, refused, with_process_changed}
use Rattle.pr_model.specs.Running.{lwp_run_refused, run_lwp, run_refused, with_flags_on, with_request, with_run, without_directive}
use Rattle.pr_model.specs.State.{TracedLwp, TracedProcess, TracedSystem, lwp_of, with_lwp}

-- PCRUN by ids: of an lwp, of a process, and of a process by the id of its representative.

-- what refuses PCRUN on the lwp of an id, or where none is named on the process
abbrev pub refuses_run_of : TracedProcess → ℕ → Option TracedLwp → Bool
refuses_run_of p id None = true
refuses_run_of p id (Some l) = lwp_run_refused p id l

unfoldable pub refuses_run : TracedProcess → Option ℕ → Bool
refuses_run p None = run_refused p
refuses_run p (Some id) = refuses_run_of p id (lwp_of p id)

-- what PCRUN makes of the process
unfoldable pub ran : ℕ → Option ℕ → TracedProcess → TracedProcess
ran flags None p = with_run flags p
ran flags (Some id) p = with_lwp id (run_lwp flags) p

-- the answer to it
unfoldable pub run_by_id : TracedSystem → ℕ → TracedProcess → Option ℕ → ℕ → ℕ → Controlled
run_by_id s pid p id flags len =
    if refuses_run p id then refused s Busy else with_process_changed s pid p len (ran flags id)

-- PCRUN on a process with PRSTEP or PRSTOP, and without, where its representative has this id or there is none
unfoldable pub one_run : ℕ → Option ℕ → TracedProcess → TracedProcess
one_run flags None p = p
one_run flags (Some id) p = with_lwp id (run_lwp flags) p

unfoldable pub representative_run : ℕ → Option ℕ → List (ℕ × TracedLwp) → List (ℕ × TracedLwp)
representative_run flags None lwps = map_each without_directive lwps
representative_run flags (Some id) lwps =
    change_under id with_request (map_each without_directive (change_under id (with_flags_on flags) lwps))
