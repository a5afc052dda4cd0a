use Rattle.std.specs.Prelude.{◌==◌, ◌+◌, ℕ, Bool, false, List, [], ◌∷◌, Option, Some, None, is_some, length, map, nat_lt, replicate, if◌then◌else◌}
use Rattle.pr_num.specs.Files.{no_descriptors, with_all_closed}
use Rattle.pr_num.specs.Programs.{Program}
use Rattle.pr_num.specs.Spaces.{first_space, first_registers}
use Rattle.pr_num.specs.declared.signals.Sig.TheVariants.{Cld}
use Rattle.pr_num.specs.declared.syscalls.Sysno.{Sysno}
use Rattle.pr_num.specs.declared.syscalls.Sysno.TheVariants.{Fork, Vfork}
use Rattle.pr_parts.specs.FileCalls.{with_all_shared}
use Rattle.pr_num.specs.ById.{change_under, inserted, map_each, without_id}
use Rattle.pr_model.specs.Generation.{signalled}
use Rattle.pr_model.specs.Machines.{Machine}
use Rattle.pr_parts.specs.PendingSignals.{nothing_pending}
use Rattle.pr_model.specs.Registers.{with_result}
use Rattle.pr_num.specs.Infos.{of_child}
use Rattle.pr_num.specs.Limits.{signal_count}
use Rattle.pr_model.specs.State.{LwpOf, ProcessOf, SystemOf, live_process, lwp_of, with_process, with_process_if}
use Rattle.pr_model.specs.declared.events.Res.TheVariants.{Value}

-- How processes and lwps begin and end.

-- default dispositions
abbrev pub default_dispositions : List ℕ
default_dispositions = replicate signal_count 0

-- a process that runs another program keeps what it ignores, and catches nothing (exec(2))
abbrev pub uncaught : ℕ → ℕ
uncaught disposition = if nat_lt 1 disposition then 0 else disposition

-- how a child is made: with a copy of its parent's memory, or with that memory itself, which is lent to it
pub data Birth : Type 0 where
  by_fork : Birth
  by_vfork : Birth

-- the call that makes a child so
abbrev pub call_of : Birth → Sysno
call_of by_fork = Fork
call_of by_vfork = Vfork

-- whose memory a child has, where it is made by this process
abbrev pub lender_of : Birth → ℕ → Option ℕ
lender_of by_fork pid = None
lender_of by_vfork pid = Some pid

-- whether this is the id, if there is one
abbrev pub is_id : ℕ → Option ℕ → Bool
is_id pid None = false
is_id pid (Some other) = other == pid

module _ {C H K : Type 0} where
  -- ---- lent memory (vfork(2))

  -- a process whose memory is lent to a child
  unfoldable pub lent_to : ℕ → ProcessOf C H K → ProcessOf C H K
  lent_to child p = record p { space = []; borrower = Some child }

  -- a system in which a process that makes a child so has lent it its memory
  abbrev pub with_lent : Birth → ℕ → ℕ → SystemOf C H K → SystemOf C H K
  with_lent by_fork pid child s = s
  with_lent by_vfork pid child s = with_process pid (lent_to child) s

  -- A process that ends or runs another program gives what it borrowed back to its lender: the memory, or, where it has
  -- lent that on, the borrower of it.
  unfoldable pub with_loan_back : ℕ → ProcessOf C H K → ProcessOf C H K → ProcessOf C H K
  with_loan_back pid p lender =
      if is_id pid lender.borrower then record lender { space = p.space; borrower = p.borrower } else lender

  -- A process that ends leaves its own lender, if it has one, to its borrower.
  unfoldable pub with_lender_of : ℕ → ProcessOf C H K → ProcessOf C H K → ProcessOf C H K
  with_lender_of pid p borrower = if is_id pid borrower.lender then record borrower { lender = p.lender } else borrower

  unfoldable pub with_loans_passed : ℕ → ProcessOf C H K → SystemOf C H K → SystemOf C H K
  with_loans_passed pid p s =
      with_process_if p.lender (with_loan_back pid p) (with_process_if p.borrower (with_lender_of pid p) s)

  -- a system with one process more, under the next id
  unfoldable pub with_made : ProcessOf C H K → SystemOf C H K → SystemOf C H K
  with_made p s = record s { made = s.made + 1; processes = inserted s.made p s.processes }

  -- a child of a process that has ended gets process 0 as its parent
  unfoldable pub orphaned : ℕ → ProcessOf C H K → ProcessOf C H K
  orphaned pid p = if p.parent == pid then record p { parent = 0 } else p

  -- the parent of a process that ended gets SIGCLD, unless that is process 0
  unfoldable pub with_parent_signalled : ℕ → ℕ → ℕ → SystemOf C H K → SystemOf C H K
  with_parent_signalled parent pid status s =
      if parent == 0 then s else with_process parent (signalled None Cld (of_child pid status)) s

  unfoldable pub without_lwp : ℕ → ProcessOf C H K → ProcessOf C H K
  without_lwp id p = record p { lwps = without_id id p.lwps }

  -- a zombie is reaped (wait(3C))
  unfoldable pub with_reaped : ℕ → SystemOf C H K → SystemOf C H K
  with_reaped pid s = record s { processes = without_id pid s.processes }

module _ {C H K : Type 0} (m : Machine C H K) where
  -- ---- beginnings

  -- an lwp with these registers and this held set, in its program, with nothing pending
  unfoldable pub new_lwp : List ℕ → ℕ → K → LwpOf H K
  new_lwp regs held marks = record {
    regs = regs;
    held = held;
    pending = nothing_pending;
    current = None;
    frames = [];
    suspended = false;
    phase = m.in_user;
    control = marks;
  }

  -- the lwp of a new process, directed to stop or not
  unfoldable pub first_lwp : Bool → LwpOf H K
  first_lwp held = new_lwp first_registers 0 (m.marks held)

  -- a process with no lwp, no memory, no descriptor and nothing set, of this parent, program name and moment
  unfoldable pub bare_process : ℕ → List ℕ → ℕ → ProcessOf C H K
  bare_process parent name clock = record {
    parent = parent;
    program = name;
    made_at = clock;
    ended = None;
    space = [];
    lender = None;
    borrower = None;
    fds = no_descriptors;
    dispositions = default_dispositions;
    pending = nothing_pending;
    job_stop = None;
    next_lwp = 1;
    lwps = [];
    control = m.unset;
  }

  -- a new process of a program, whose parent is process 0
  unfoldable pub new_process : Program → ℕ → Bool → ProcessOf C H K
  new_process program clock held =
      record (bare_process 0 program.name clock)
      { space = first_space program; next_lwp = 2; lwps = (1, first_lwp held) ∷ [] }

  unfoldable pub with_spawned : Program → Bool → SystemOf C H K → SystemOf C H K
  with_spawned program held s = with_made (new_process program s.clock held) s

  -- The lwp of a forked child: it is on its way out of the call that made it, with 0 as its result. It has the held
  -- set, the frames and the registers of the lwp that made the call, and nothing pending (fork(2)).
  unfoldable pub forked_lwp : Birth → List ℕ → C → LwpOf H K → LwpOf H K
  forked_lwp birth args set l = record {
    regs = with_result (Value 0) l.regs;
    held = l.held;
    pending = nothing_pending;
    current = None;
    frames = l.frames;
    suspended = false;
    phase = m.exiting (call_of birth) args (Value 0);
    control = m.at_birth (call_of birth) set;
  }

  -- A forked child: a copy of its parent with that lwp alone, with nothing pending and no job stop. It has the memory
  -- as its own, or as a loan.
  unfoldable pub forked : Birth → ℕ → ProcessOf C H K → LwpOf H K → List ℕ → ℕ → ProcessOf C H K
  forked birth pid p l args clock = record {
    parent = pid;
    program = p.program;
    made_at = clock;
    ended = None;
    space = p.space;
    lender = lender_of birth pid;
    borrower = None;
    fds = p.fds;
    dispositions = p.dispositions;
    pending = nothing_pending;
    job_stop = None;
    next_lwp = 2;
    lwps = (1, forked_lwp birth args p.control l) ∷ [];
    control = m.of_child p.control;
  }

  -- a system with a forked child, which shares its parent's open files
  unfoldable pub with_child : Birth → ℕ → ProcessOf C H K → LwpOf H K → List ℕ → SystemOf C H K → SystemOf C H K
  with_child birth pid p l args s =
      with_made (forked birth pid p l args s.clock)
      (with_lent birth pid s.made (record s { files = with_all_shared s.files p.fds }))

  -- An lwp that runs another program keeps its held set, its pending signals and what is set on it (exec(2)).
  unfoldable pub started : LwpOf H K → LwpOf H K
  started l = record l { regs = first_registers; frames = [] }

  -- A process that runs another program, with the lwp of this id alone: its space is the program's, and no loan; it
  -- keeps its descriptors, the signals that it ignores, and those that are pending.
  unfoldable pub with_program : ℕ → LwpOf H K → Program → ProcessOf C H K → ProcessOf C H K
  with_program id l program p = record p {
    program = program.name;
    space = first_space program;
    lender = None;
    dispositions = map uncaught p.dispositions;
    lwps = (id, started l) ∷ [];
    control = m.of_exec p.control;
  }

  -- an lwp more in a process, under an id that none has yet (lwp_create(2))
  unfoldable pub with_new_lwp : ℕ → List ℕ → ℕ → ProcessOf C H K → ProcessOf C H K
  with_new_lwp id regs held p =
      if is_some (lwp_of p id) then p
      else record p { next_lwp = id + 1; lwps = inserted id (new_lwp regs held (m.marks false)) p.lwps }

  -- ---- ends

  -- What is left of a process that has ended: it waits to be reaped under its id, parent and program name, with its
  -- wait status (wait(3C)).
  unfoldable pub zombie : ℕ → ProcessOf C H K → ProcessOf C H K
  zombie status p =
      record (bare_process p.parent p.program p.made_at) { ended = Some status; control = m.of_zombie p.control }

  -- A live process ends with a wait status: it loses its lwps, its descriptors and its memory, what it borrowed or lent
  -- is passed on, its children get process 0 as their parent, and its own parent gets SIGCLD.
  unfoldable pub with_this_ended : ℕ → ProcessOf C H K → ℕ → SystemOf C H K → SystemOf C H K
  with_this_ended pid p status s =
      with_parent_signalled p.parent pid status
      (with_loans_passed pid p (record s {
        files = with_all_closed s.files p.fds;
        processes = map_each (orphaned pid) (change_under pid (zombie status) s.processes);
      }))

  abbrev pub ended_if_live : ℕ → ℕ → SystemOf C H K → Option (ProcessOf C H K) → SystemOf C H K
  ended_if_live pid status s None = s
  ended_if_live pid status s (Some p) = with_this_ended pid p status s

  -- the live process of an id ends, if there is one
  unfoldable pub with_ended : ℕ → ℕ → SystemOf C H K → SystemOf C H K
  with_ended pid status s = ended_if_live pid status s (live_process s pid)

  -- one lwp ends, and with the last one its process, with wait status 0
  unfoldable pub with_lwp_ended : ℕ → ProcessOf C H K → ℕ → SystemOf C H K → SystemOf C H K
  with_lwp_ended pid p id s =
      if length p.lwps == 1 then with_this_ended pid p 0 s else with_process pid (without_lwp id) s
