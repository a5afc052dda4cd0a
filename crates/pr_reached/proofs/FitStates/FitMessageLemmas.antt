use Rattle.std.proofs.Common.{ℕ, List, refl, ap}
use Rattle.pr_num.specs.Agents.{agent_id}
use Rattle.pr_num.specs.declared.messages.Message.{Message}
use Rattle.pr_keeps.specs.LwpEdits as lwp
use Rattle.pr_keeps.specs.LwpEdits.{LwpEdit, LwpEdits}
use Rattle.pr_keeps.specs.ProcessEdits as process
use Rattle.pr_keeps.specs.ProcessEdits.{ProcessEdit}
use Rattle.pr_keeps.proofs.KeepsLemmas.{lwp-edits-keep}
use Rattle.pr_model.specs.Changes.{with_space}
use Rattle.pr_model.specs.Lives.{new_lwp}
use Rattle.pr_model.specs.Messages.{lwp_without_one, with_held_set, with_registers, with_address, agent_lwp, with_agent}
use Rattle.pr_model.specs.Running.{without_current, without_fault, with_step, with_abort, with_directive, without_directive, let_go}
use Rattle.pr_model.specs.State.{TracedLwp, TracedProcess}
use Rattle.pr_model.specs.declared.lwps.Phase.{Phase}
use Rattle.pr_reached.proofs.FitStates.FitLemmas.{KeepsFit, keeps-each, keeps-more, keeps-one, nothing-spares, requested-fits, stopless-fits, taken-spares}
use Rattle.pr_reached.specs.Fits.{IsFitLwp, IsFitProcess}

-- Each edit of a control message leaves a process fit: a line a kind of edit.

-- ---- lwps

-- an lwp at the entry or the exit of a call has no fault to clear
unfaulted-fits : (l : TracedLwp) → IsFitLwp l → IsFitLwp (without_fault l)
unfolding without_fault
unfaulted-fits l h =
    let cleared : Phase → Phase = λ phase. (without_fault (record l { phase = phase })).phase in
    record {
      entry = λ call is. ap cleared (h.entry call is);
      exit = λ call is. let was = h.exit call is in (was.0, (was.1.0, ap cleared was.1.1));
      pending = h.pending;
    }

edited-lwp : (m : Message) (l k : TracedLwp) → LwpEdit m l k → IsFitLwp l → IsFitLwp k
unfolding without_current with_directive without_directive let_go with_step with_abort lwp_without_one with_held_set
    with_registers with_address
edited-lwp m l k (lwp.drops_fault is) h = unfaulted-fits l h
edited-lwp m l k lwp.lets_go h = stopless-fits k refl h.pending
edited-lwp m l k (lwp.requests stands) h = requested-fits k refl h.pending
edited-lwp m l k (lwp.ends_request requested) h = stopless-fits k refl h.pending
edited-lwp m l k (lwp.takes_back {g = g} is) h =
    record { entry = h.entry; exit = h.exit; pending = taken-spares g l.pending h.pending }
edited-lwp m l k _ h = record { entry = h.entry; exit = h.exit; pending = h.pending }

edits-keep : (m : Message) (f : TracedLwp → TracedLwp) → ((l : TracedLwp) → LwpEdits m l (f l)) → KeepsFit f
edits-keep m f edits l h = lwp-edits-keep m IsFitLwp (edited-lwp m) l (f l) (edits l) h

-- ---- processes

pub edited-process : (m : Message) (tail : List ℕ) (x y : TracedProcess) → ProcessEdit m tail x y → IsFitProcess x
    → IsFitProcess y
unfolding with_space with_agent agent_lwp new_lwp
edited-process m tail x y (process.one_lwp id f edits) h = keeps-one id f (edits-keep m f edits) x h
edited-process m tail x y (process.each_lwp f edits) h = keeps-each f (edits-keep m f edits) x h
edited-process m tail x y (process.takes_back {g = g} is) h =
    record { lwps = h.lwps; pending = taken-spares g x.pending h.pending }
edited-process m tail x y (process.gets_agent {regs = regs} none room) h =
    keeps-more agent_id (agent_lwp regs) x y (requested-fits (agent_lwp regs) refl nothing-spares) refl refl h
edited-process m tail x y _ h = record { lwps = h.lwps; pending = h.pending }
