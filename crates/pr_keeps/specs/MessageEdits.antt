use Rattle.std.specs.Prelude.{◌≡◌, ℕ, true, List, Option, Some, None}
use Rattle.pr_num.specs.Infos.{by_controller}
use Rattle.pr_num.specs.Signals.{signal_number, signal_of_number}
use Rattle.pr_num.specs.declared.messages.Message.{Message}
use Rattle.pr_num.specs.declared.messages.Message.TheVariants.{Ssig, Kill}
use Rattle.pr_num.specs.declared.signals.Sig.{Sig}
use Rattle.pr_num.specs.declared.signals.Sig.TheVariants as sig
use Rattle.pr_parts.specs.PendingSignals.{has_room}
use Rattle.pr_model.specs.Lives.{with_this_ended}
use Rattle.pr_model.specs.Machines.{traced}
use Rattle.pr_model.specs.Signals.{generated}
use Rattle.pr_model.specs.State.{TracedLwp, TracedProcess, TracedSystem, lwp_of, with_process}
use Rattle.pr_keeps.specs.ProcessEdits.{ProcessEdits}

-- What a control message makes of the system, where its process is as is said here: a closed list.

-- whether a signal that is sent to a process, or to one of its lwps, has room where it is to pend
abbrev pub HasRoomIn : TracedProcess → Sig → Option ℕ → Type 0
HasRoomIn x g None = has_room g x.pending ≡ true
HasRoomIn x g (Some id) = (l : TracedLwp) → lwp_of x id ≡ Some l → has_room g l.pending ≡ true

pub data MessageEdit (s : TracedSystem) (pid : ℕ) (p : TracedProcess) : Message → List ℕ → TracedSystem → Type 0 where
  -- nothing
  nothing : {m : Message} {tail : List ℕ} → MessageEdit s pid p m tail s
  -- the process is edited in its place
  a_process : {m : Message} {tail : List ℕ} (f : TracedProcess → TracedProcess) → ProcessEdits m tail p (f p)
      → MessageEdit s pid p m tail (with_process pid f s)
  -- the process ends as by SIGKILL
  an_end : {number : ℕ} {tail : List ℕ}
      → MessageEdit s pid p (Ssig number) tail (with_this_ended traced pid p (signal_number sig.Kill) s)
  -- a signal is generated for it, which has room
  a_signal : {number : ℕ} {tail : List ℕ} (target : Option ℕ) (g : Sig) → signal_of_number number ≡ Some g
      → HasRoomIn p g target → MessageEdit s pid p (Kill number) tail (generated traced pid target g by_controller s)
