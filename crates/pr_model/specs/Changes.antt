use Rattle.std.specs.Prelude.{◌==◌, ◌&&◌, ℕ, Bool, true, false, List, [], ◌∷◌, Some, None, if◌then◌else◌}
use Rattle.pr_num.specs.Files.{FileTable, Descriptors}
use Rattle.pr_num.specs.Programs.{Program}
use Rattle.pr_num.specs.Spaces.{Space}
use Rattle.pr_num.specs.declared.errnos.Errno.{Errno}
use Rattle.pr_num.specs.declared.signals.Sig.{Sig}
use Rattle.pr_model.specs.Lives.{Birth, with_loan_back, with_child, with_program, with_new_lwp, with_reaped, with_this_ended, with_lwp_ended}
use Rattle.pr_model.specs.Machines.{Machine}
use Rattle.pr_parts.specs.PendingSignals.{without_one}
use Rattle.pr_model.specs.Signals.{generated, is_kill, with_disposition}
use Rattle.pr_model.specs.State.{LwpOf, ProcessOf, SystemOf, with_process, with_process_if, with_lwp}
use Rattle.pr_model.specs.declared.events.Res.{Res}
use Rattle.pr_model.specs.declared.events.Res.TheVariants.{Value, Error}
use Rattle.pr_model.specs.declared.frames.Frame.{Frame}
use Rattle.pr_num.specs.declared.infos.Info.{Info}

-- What a turn of an lwp changes of the system, beside the lwp itself, as data: a row a kind of change. No change ends
-- the lwp whose turn it is, nor its process: an ending does.

pub data Change : Type 0 where
  -- the files, and the descriptors of the process
  files_are : FileTable → Descriptors → Change
  -- the address space of the process
  space_is : Space → Change
  -- a signal is generated for a process; for the lwp itself
  signals : ℕ → Sig → Info → Change
  signals_itself : Sig → Info → Change
  -- a signal that pends for the process is taken by the lwp
  takes_shared : Sig → Change
  -- the process is stopped by job control
  job_stops : Sig → Change
  -- what the process does with a signal; the signals that the lwp holds
  disposition_is : Sig → ℕ → Change
  held_is : ℕ → Change
  -- the lwp goes back to what a handler interrupted, with these frames left
  resumes : Frame → List Frame → Change
  -- a child is made, by a call with these arguments; a zombie child is reaped
  forks : Birth → List ℕ → Change
  reaps : ℕ → Change
  -- the process runs another program, and gives back the memory that it borrowed
  becomes : Program → Change
  -- an lwp is made under an id, with these registers and this held set; one is suspended, or goes on
  makes_lwp : ℕ → List ℕ → ℕ → Change
  suspends : ℕ → Bool → Change

-- how a turn may end its process, with a wait status, or its lwp
pub data Ending : Type 0 where
  ends_process : ℕ → Ending
  ends_lwp : Ending

-- what a system call does: it gives a result and changes the system; its lwp falls asleep in it; or it ends its lwp or
-- its process, and gives nothing
pub data Effect : Type 0 where
  does : Res → List Change → Effect
  sleeps : Effect
  ends : Ending → Effect

-- a call that gives a value, with what it changes; and one that is refused
abbrev pub gives : ℕ → List Change → Effect
gives value changes = does (Value value) changes

abbrev pub fails : Errno → Effect
fails e = does (Error e) []

-- whether an effect is not that the lwp sleeps
abbrev pub is_over : Effect → Bool
is_over (does result changes) = true
is_over sleeps = false
is_over (ends ending) = true

module _ {C H K : Type 0} where
  unfoldable pub with_fds : Descriptors → ProcessOf C H K → ProcessOf C H K
  with_fds fds p = record p { fds = fds }

  unfoldable pub with_space : Space → ProcessOf C H K → ProcessOf C H K
  with_space space p = record p { space = space }

  unfoldable pub with_shared_taken : Sig → ProcessOf C H K → ProcessOf C H K
  with_shared_taken s p = record p { pending = without_one s p.pending }

  unfoldable pub with_job_stop : Sig → ProcessOf C H K → ProcessOf C H K
  with_job_stop s p = record p { job_stop = Some s }

  unfoldable pub with_disposition_of : Sig → ℕ → ProcessOf C H K → ProcessOf C H K
  with_disposition_of s disposition p = record p { dispositions = with_disposition s disposition p.dispositions }

module _ {H K : Type 0} where
  unfoldable pub with_held : ℕ → LwpOf H K → LwpOf H K
  with_held held l = record l { held = held }

  unfoldable pub resumed : Frame → List Frame → LwpOf H K → LwpOf H K
  resumed frame frames l = record l { regs = frame.regs; held = frame.held; frames = frames }

  unfoldable pub with_suspended : Bool → LwpOf H K → LwpOf H K
  with_suspended suspended l = record l { suspended = suspended }

-- What a change makes of the system, in the turn of the lwp of an id, which with its process was as is said here when
-- the turn began. By a change a turn never sends SIGKILL to its own process, nor reaps it, nor makes it anew.
module _ {C H K : Type 0} (m : Machine C H K) (pid : ℕ) (p : ProcessOf C H K) (id : ℕ) (l : LwpOf H K) where
  unfoldable pub changed : Change → SystemOf C H K → SystemOf C H K
  changed (files_are files fds) s = with_process pid (with_fds fds) (record s { files = files })
  changed (space_is space) s = with_process pid (with_space space) s
  changed (signals target g info) s = if is_kill g && (target == pid) then s else generated m target None g info s
  changed (signals_itself g info) s = if is_kill g then s else generated m pid (Some id) g info s
  changed (takes_shared g) s = with_process pid (with_shared_taken g) s
  changed (job_stops g) s = with_process pid (with_job_stop g) s
  changed (disposition_is g disposition) s = with_process pid (with_disposition_of g disposition) s
  changed (held_is held) s = with_process pid (with_lwp id (with_held held)) s
  changed (resumes frame frames) s = with_process pid (with_lwp id (resumed frame frames)) s
  changed (forks birth args) s = if s.made == pid then s else with_child m birth pid p l args s
  changed (reaps child) s = if child == pid then s else with_reaped child s
  changed (becomes program) s =
      with_process_if p.lender (with_loan_back pid p) (with_process pid (with_program m id l program) s)
  changed (makes_lwp new regs held) s = with_process pid (with_new_lwp m new regs held) s
  changed (suspends other suspended) s = with_process pid (with_lwp other (with_suspended suspended)) s

  -- changes one after another
  unfoldable pub all_changed : List Change → SystemOf C H K → SystemOf C H K
  all_changed [] s = s
  all_changed (c ∷ cs) s = all_changed cs (changed c s)

-- what an ending makes of the system
module _ {C H K : Type 0} (m : Machine C H K) (pid : ℕ) (p : ProcessOf C H K) (id : ℕ) where
  unfoldable pub ended : Ending → SystemOf C H K → SystemOf C H K
  ended (ends_process status) s = with_this_ended m pid p status s
  ended ends_lwp s = with_lwp_ended m pid p id s
