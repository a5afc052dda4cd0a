use Rattle.pr_num.specs.Faults.{fault_signal}
use Rattle.pr_num.specs.ById.{map_each}
use Rattle.pr_model.specs.Machines.{Nothing, Place, in_program, at_call, sleeping, UntracedLwp, UntracedProcess, UntracedSystem}
use Rattle.pr_parts.specs.PendingSignals.{Pending, added}
use Rattle.pr_num.specs.Infos.{of_fault}
use Rattle.pr_model.specs.State.{LwpOf, ProcessOf, SystemOf, TracedState, TracedSystem, TracedProcess, TracedLwp}
use Rattle.pr_model.specs.declared.lwps.Phase.{Phase}
use Rattle.pr_model.specs.declared.lwps.Phase.TheVariants.{User, Entered, Asleep, Exiting, Faulted}

-- Erasure forgets what controllers have set, and the counts of usage, which only they can read: of the traced state it
-- keeps what programs can see.

-- An lwp at a call that it has not made is at the call; one on its way out of a call, or between a fault and its
-- posting, is in its program.
unfoldable pub erased_phase : Phase → Place
erased_phase User = in_program
erased_phase (Entered call) = at_call call
erased_phase (Asleep call args since) = sleeping call args since
erased_phase (Exiting call args result) = in_program
erased_phase (Faulted f address) = in_program

-- the signal of a fault that was incurred is pending already, although it is posted later
unfoldable pub erased_pending : Phase → Pending → Pending
erased_pending User pending = pending
erased_pending (Entered call) pending = pending
erased_pending (Asleep call args since) pending = pending
erased_pending (Exiting call args result) pending = pending
erased_pending (Faulted f address) pending = added (fault_signal f) (of_fault address) pending

unfoldable pub erased_lwp : TracedLwp → UntracedLwp
erased_lwp l = record {
  regs = l.regs;
  held = l.held;
  pending = erased_pending l.phase l.pending;
  current = l.current;
  frames = l.frames;
  suspended = l.suspended;
  phase = erased_phase l.phase;
  control = tt;
}

unfoldable pub erased_process : TracedProcess → UntracedProcess
erased_process p = record {
  parent = p.parent;
  program = p.program;
  made_at = p.made_at;
  ended = p.ended;
  space = p.space;
  lender = p.lender;
  borrower = p.borrower;
  fds = p.fds;
  dispositions = p.dispositions;
  pending = p.pending;
  job_stop = p.job_stop;
  next_lwp = p.next_lwp;
  lwps = map_each erased_lwp p.lwps;
  control = tt;
}

unfoldable pub erased_system : TracedSystem → UntracedSystem
erased_system s = record {
  programs = s.programs;
  clock = s.clock;
  made = s.made;
  files = s.files;
  processes = map_each erased_process s.processes;
}

-- open handles and interrupts are forgotten
abbrev pub erased : TracedState → UntracedSystem
erased s = erased_system s.system

-- ---- what controllers have set, forgotten alone

-- The traced state without what controllers have set, in which an lwp is where the kernel has it: what is the same in
-- two states but for that is the same in their erasures.
abbrev pub UncontrolledLwp : Type 0
UncontrolledLwp = LwpOf Phase Nothing

abbrev pub UncontrolledProcess : Type 0
UncontrolledProcess = ProcessOf Nothing Phase Nothing

abbrev pub UncontrolledSystem : Type 0
UncontrolledSystem = SystemOf Nothing Phase Nothing

unfoldable pub uncontrolled_lwp : TracedLwp → UncontrolledLwp
uncontrolled_lwp l = record {
  regs = l.regs;
  held = l.held;
  pending = l.pending;
  current = l.current;
  frames = l.frames;
  suspended = l.suspended;
  phase = l.phase;
  control = tt;
}

unfoldable pub uncontrolled_process : TracedProcess → UncontrolledProcess
uncontrolled_process p = record {
  parent = p.parent;
  program = p.program;
  made_at = p.made_at;
  ended = p.ended;
  space = p.space;
  lender = p.lender;
  borrower = p.borrower;
  fds = p.fds;
  dispositions = p.dispositions;
  pending = p.pending;
  job_stop = p.job_stop;
  next_lwp = p.next_lwp;
  lwps = map_each uncontrolled_lwp p.lwps;
  control = tt;
}

unfoldable pub uncontrolled_system : TracedSystem → UncontrolledSystem
uncontrolled_system s = record {
  programs = s.programs;
  clock = s.clock;
  made = s.made;
  files = s.files;
  processes = map_each uncontrolled_process s.processes;
}
