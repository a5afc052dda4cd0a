use Rattle.std.specs.Prelude.{ℕ, Option, Some, None, if◌then◌else◌}
use Rattle.pr_num.specs.Infos.{by_controller}
use Rattle.pr_num.specs.declared.errnos.Errno.TheVariants.{Again}
use Rattle.pr_num.specs.declared.signals.Sig.{Sig}
use Rattle.pr_parts.specs.PendingSignals.{Pending, has_room}
use Rattle.pr_model.specs.Machines.{traced}
use Rattle.pr_model.specs.Messages.{Controlled, lwp_without_one, process_without_one, refused}
use Rattle.pr_model.specs.Signals.{generated}
use Rattle.pr_model.specs.State.{TracedLwp, TracedProcess, TracedSystem, lwp_of, with_lwp}
use Rattle.pr_model.specs.declared.calls.Reply.TheVariants.{Used}

-- PCKILL and PCUNKILL by ids: on the lwp of an id, or where none is named on the process.

-- the signals among which one pends that is sent there
abbrev pub pending_found : TracedProcess → Option TracedLwp → Pending
pending_found p None = p.pending
pending_found p (Some l) = l.pending

unfoldable pub pending_for : TracedProcess → Option ℕ → Pending
pending_for p None = p.pending
pending_for p (Some id) = pending_found p (lwp_of p id)

-- the answer to PCKILL
unfoldable pub kill_by_id : TracedSystem → ℕ → TracedProcess → Option ℕ → ℕ → Sig → Controlled
kill_by_id s pid p id len g =
    if has_room g
    (pending_for p id) then record { system = generated traced pid id g by_controller s; reply = Used len }
    else refused s Again

-- what PCUNKILL makes of the process
unfoldable pub unkilled : TracedSystem → ℕ → TracedProcess → Sig → Option ℕ → TracedProcess → TracedProcess
unkilled s pid p g None q = process_without_one s pid p g q
unkilled s pid p g (Some id) q = with_lwp id (lwp_without_one g) q
