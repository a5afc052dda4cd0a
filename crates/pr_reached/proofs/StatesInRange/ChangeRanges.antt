use Rattle.std.proofs.Common.{◌==◌, ◌&&◌, ◌-◌, ℕ, Bool, false, ltb, is_some, map, Some, None, List, [], ◌∷◌, refl, ◌∙◌, arith}
use Rattle.std.specs.List.{All}
use Rattle.std.proofs.Math.ListN.{length-set}
use Rattle.std.proofs.lemmas.List.{length-map}
use Rattle.std.proofs.lemmas.List.Elements.{All-nil, All-cons, All-from_recursion, All-head, All-map, All-set, All-tail, All-weaker}
use Rattle.pr_keeps.proofs.LoanLemmas.{lent-keeps, process_if-keeps}
use Rattle.pr_num.proofs.ByIdLaws.{All-inserted}
use Rattle.pr_num.specs.Control.{has_flags, fork_mode}
use Rattle.pr_num.specs.Files.{Descriptors}
use Rattle.pr_num.specs.Programs.{Program}
use Rattle.pr_num.specs.Signals.{signal_number}
use Rattle.pr_num.specs.Spaces.{Space, first_registers}
use Rattle.pr_num.specs.Words.{IsWord}
use Rattle.pr_num.specs.declared.signals.Sig.{Sig}
use Rattle.pr_parts.specs.FileCalls.{with_all_shared}
use Rattle.pr_parts.specs.PendingSignals.{without_one}
use Rattle.pr_lawful.proofs.ProcessParts.FileLemmas.{choice}
use Rattle.pr_model.specs.Changes.{Change, files_are, space_is, signals, signals_itself, takes_shared, job_stops, disposition_is, held_is, resumes, forks, reaps, becomes, makes_lwp, suspends, with_fds, with_space, with_shared_taken, with_job_stop, with_disposition_of, with_held, resumed, with_suspended, changed, all_changed}
use Rattle.pr_model.specs.Lives.{Birth, bare_process, first_lwp, forked, forked_lwp, new_lwp, new_process, started, uncaught, with_child, with_new_lwp, with_program, with_spawned, lent_to, with_lent, with_loan_back}
use Rattle.pr_model.specs.Machines.{child_control, exec_control, no_marks, traced}
use Rattle.pr_model.specs.Signals.{is_kill}
use Rattle.pr_model.specs.State.{TracedControl, TracedLwp, TracedProcess, TracedSystem, lwp_of, with_lwp}
use Rattle.pr_model.specs.declared.frames.Frame.{Frame}
use Rattle.pr_model.specs.declared.lwps.LwpControl.{LwpControl}
use Rattle.pr_reached.proofs.StatesInRange.EndRanges.{default-dispositions, generated-range, job-kept, nothing-set, pending-kept, lent_to-keeps, loaned_back-range}
use Rattle.pr_reached.proofs.StatesInRange.FileRanges.{all_shared-range}
use Rattle.pr_reached.proofs.StatesInRange.MemoryRanges.{first-range}
use Rattle.pr_reached.proofs.StatesInRange.PendingRanges.{nothing-words, taken-words}
use Rattle.pr_reached.proofs.StatesInRange.ProcessRanges.{KeepsLwp, KeepsProcess, LwpInRange, changed-one, keeps-one, made-range, reaped-range, with_files}
use Rattle.pr_reached.proofs.StatesInRange.RegisterRanges.{result_0-registers}
use Rattle.pr_reached.specs.InRange.{AreArguments, AreDispositions, AreFilesInRange, AreRegisters, HasWord, IsAreaInRange, IsControlInRange, IsFrameInRange, IsInRange, IsLwpInRange, IsProcessInRange, IsProgramInRange, IsSignalSet, IsSpaceInRange}

-- What begins is in range, and each change that a turn makes beside its lwp leaves a system in range where what it puts
-- there is in range.

-- ---- beginnings

pub first-registers : AreRegisters first_registers
first-registers = record { words = each; count = refl }
  where
    each : All IsWord first_registers
    each =
        All-from_recursion IsWord first_registers (
          omega arith,
          (
            omega arith,
            (
              omega arith,
              (
                omega arith,
                (
                  omega arith,
                  (
                    omega arith,
                    (omega arith, (omega arith, (omega arith, (omega arith, (omega arith, tt))))),
                  ),
                ),
              ),
            ),
          ),
        )

pub new_lwp-range : (regs : List ℕ) (held : ℕ) (marks : LwpControl) → AreRegisters regs → IsSignalSet held
    → IsLwpInRange (new_lwp traced regs held marks)
unfolding new_lwp traced
new_lwp-range regs held marks is_regs is_held = record {
  regs = is_regs;
  held = is_held;
  frames = All-nil IsFrameInRange;
  pending = nothing-words;
  current = tt;
  phase = tt;
}

new_process-range : (program : Program) (clock : ℕ) (held : Bool) → IsProgramInRange program → IsWord clock
    → IsProcessInRange (new_process traced program clock held)
unfolding new_process bare_process first_lwp traced
new_process-range program clock held it moment = record {
  program = it.name;
  made_at = moment;
  ended = tt;
  space = first-range program it;
  dispositions = default-dispositions;
  pending = nothing-words;
  lwps =
      All-cons LwpInRange (1, first_lwp traced held) []
      (new_lwp-range first_registers 0 (no_marks held) first-registers (omega arith)) (All-nil LwpInRange);
  control = nothing-set;
}

pub spawned-range : (s : TracedSystem) (program : Program) (held : Bool) → IsProgramInRange program → IsInRange s
    → IsInRange (with_spawned traced program held s)
unfolding with_spawned
spawned-range s program held it h =
    made-range s (new_process traced program s.clock held)
    (new_process-range program s.clock held it (let now = h.clock in omega arith)) h

-- ---- fork

child-control : (c : TracedControl) → IsControlInRange c → IsControlInRange (child_control c)
unfolding child_control
child-control c h =
    choice IsControlInRange (has_flags c.modes fork_mode) _ _
    (λ forks. record {
      signals = h.signals;
      faults = h.faults;
      entries = h.entries;
      exits = h.exits;
      modes = omega
          arith;
      areas = All-nil IsAreaInRange;
      few_areas = omega arith;
    }) (λ alone. nothing-set)

forked_lwp-range : (birth : Birth) (args : List ℕ) (c : TracedControl) (l : TracedLwp) → AreArguments args
    → IsLwpInRange l → IsLwpInRange (forked_lwp traced birth args c l)
unfolding forked_lwp traced
forked_lwp-range birth args c l given h = record {
  regs = result_0-registers l.regs h.regs;
  held = h.held;
  frames = h.frames;
  pending = nothing-words;
  current = tt;
  phase = (given, omega arith);
}

child-range : (birth : Birth) (s : TracedSystem) (pid : ℕ) (p : TracedProcess) (l : TracedLwp) (args : List ℕ)
    → AreArguments args → IsProcessInRange p → IsLwpInRange l → IsInRange s
    → IsInRange (with_child traced birth pid p l args s)
unfolding with_child forked traced
child-range birth s pid p l args given own own_lwp h =
    let shared : TracedSystem = record s { files = with_all_shared s.files p.fds } in
    made-range (with_lent birth pid s.made shared) (forked traced birth pid p l args s.clock) (record {
      program = own.program;
      made_at = let now = h.clock in omega arith;
      ended = tt;
      space = own.space;
      dispositions = own.dispositions;
      pending = nothing-words;
      lwps =
          All-cons LwpInRange (1, forked_lwp traced birth args p.control l) []
          (forked_lwp-range birth args p.control l given own_lwp) (All-nil LwpInRange);
      control = child-control p.control own.control;
    }) (lent-keeps IsInRange birth pid s.made
    (λ t it. changed-one t pid (lent_to s.made) (lent_to-keeps s.made) it) shared
    (with_files s (with_all_shared s.files p.fds) (all_shared-range s.files p.fds h.files) h))

-- ---- exec, and a new lwp

started-keeps : KeepsLwp (started traced)
unfolding started
started-keeps l h = record {
  regs = first-registers;
  held = h.held;
  frames = All-nil IsFrameInRange;
  pending = h.pending;
  current = h.current;
  phase = h.phase;
}

uncaught-word : (disposition : ℕ) → IsWord disposition → IsWord (uncaught disposition)
uncaught-word disposition fits = choice IsWord (ltb 1 disposition) 0 disposition (λ caught. omega arith) (λ other. fits)

uncaught-dispositions : (ds : List ℕ) → AreDispositions ds → AreDispositions (map uncaught ds)
uncaught-dispositions ds h = record {
  words = All-map IsWord uncaught ds (All-weaker IsWord (λ d. IsWord (uncaught d)) uncaught-word ds h.words);
  count = length-map ds uncaught ∙ h.count;
}

program-keeps : (id : ℕ) (l : TracedLwp) (program : Program) → IsLwpInRange l → IsProgramInRange program
    → KeepsProcess (with_program traced id l program)
unfolding with_program traced exec_control
program-keeps id l program own it x h = record {
  program = it.name;
  made_at = h.made_at;
  ended = h.ended;
  space = first-range program it;
  dispositions = uncaught-dispositions x.dispositions h.dispositions;
  pending = h.pending;
  lwps = All-cons LwpInRange (id, started traced l) [] (started-keeps l own) (All-nil LwpInRange);
  control = record {
    signals = h.control.signals;
    faults = h.control.faults;
    entries = h.control.entries;
    exits = h.control.exits;
    modes = h.control.modes;
    areas = All-nil IsAreaInRange;
    few_areas = omega arith;
  };
}

new-keeps : (new held : ℕ) (regs : List ℕ) → AreRegisters regs → IsSignalSet held
    → KeepsProcess (with_new_lwp traced new regs held)
unfolding with_new_lwp traced
new-keeps new held regs is_regs is_held x h =
    let l = new_lwp traced regs held (no_marks false) in
    choice IsProcessInRange (is_some (lwp_of x new)) _ _ (λ stands. h)
    (λ free. record {
      program = h.program;
      made_at = h.made_at;
      ended = h.ended;
      space = h.space;
      dispositions = h.dispositions;
      pending = h.pending;
      lwps = All-inserted LwpInRange new l x.lwps (new_lwp-range regs held (no_marks false) is_regs is_held) h.lwps;
      control = h.control;
    })

-- ---- the kinds of change

held-keeps : (held : ℕ) → IsSignalSet held → KeepsLwp (with_held held)
unfolding with_held
held-keeps held it l h = record {
  regs = h.regs;
  held = it;
  frames = h.frames;
  pending = h.pending;
  current = h.current;
  phase = h.phase;
}

resumed-keeps : (frame : Frame) (frames : List Frame) → IsFrameInRange frame → All IsFrameInRange frames
    → KeepsLwp (resumed frame frames)
unfolding resumed
resumed-keeps frame frames it left l h = record {
  regs = it.regs;
  held = it.held;
  frames = left;
  pending = h.pending;
  current = h.current;
  phase = h.phase;
}

suspended-keeps : (suspended : Bool) → KeepsLwp (with_suspended suspended)
unfolding with_suspended
suspended-keeps suspended l h = record {
  regs = h.regs;
  held = h.held;
  frames = h.frames;
  pending = h.pending;
  current = h.current;
  phase = h.phase;
}

fds-keeps : (fds : Descriptors) → KeepsProcess (with_fds fds)
unfolding with_fds
fds-keeps fds x h = record {
  program = h.program;
  made_at = h.made_at;
  ended = h.ended;
  space = h.space;
  dispositions = h.dispositions;
  pending = h.pending;
  lwps = h.lwps;
  control = h.control;
}

pub space-keeps : (space : Space) → IsSpaceInRange space → KeepsProcess (with_space space)
unfolding with_space
space-keeps space it x h = record {
  program = h.program;
  made_at = h.made_at;
  ended = h.ended;
  space = it;
  dispositions = h.dispositions;
  pending = h.pending;
  lwps = h.lwps;
  control = h.control;
}

shared-keeps : (g : Sig) → KeepsProcess (with_shared_taken g)
unfolding with_shared_taken
shared-keeps g x h = pending-kept x (without_one g x.pending) (taken-words g x.pending h.pending) h

job-keeps : (g : Sig) → KeepsProcess (with_job_stop g)
unfolding with_job_stop
job-keeps g x h = job-kept x (Some g) h

disposition-keeps : (g : Sig) (d : ℕ) → IsWord d → KeepsProcess (with_disposition_of g d)
unfolding with_disposition_of
disposition-keeps g d fits x h = record {
  program = h.program;
  made_at = h.made_at;
  ended = h.ended;
  space = h.space;
  dispositions = record {
    words = All-set IsWord x.dispositions (signal_number g - 1) d fits h.dispositions.words;
    count = length-set x.dispositions (signal_number g - 1) d ∙ h.dispositions.count;
  };
  pending = h.pending;
  lwps = h.lwps;
  control = h.control;
}

-- what a change puts in the system is in range
abbrev pub IsChangeInRange : Change → Type 0
IsChangeInRange (files_are files fds) = AreFilesInRange files
IsChangeInRange (space_is space) = IsSpaceInRange space
IsChangeInRange (signals target g info) = HasWord info
IsChangeInRange (signals_itself g info) = HasWord info
IsChangeInRange (takes_shared g) = Unit {0}
IsChangeInRange (job_stops g) = Unit {0}
IsChangeInRange (disposition_is g d) = IsWord d
IsChangeInRange (held_is held) = IsSignalSet held
IsChangeInRange (resumes frame frames) = IsFrameInRange frame × All IsFrameInRange frames
IsChangeInRange (forks birth args) = AreArguments args
IsChangeInRange (reaps child) = Unit {0}
IsChangeInRange (becomes program) = IsProgramInRange program
IsChangeInRange (makes_lwp new regs held) = AreRegisters regs × IsSignalSet held
IsChangeInRange (suspends other suspended) = Unit {0}

module _ (pid : ℕ) (p : TracedProcess) (id : ℕ) (l : TracedLwp) (own : IsProcessInRange p)
    (own_lwp : IsLwpInRange l) where
  changed-range : (c : Change) (s : TracedSystem) → IsChangeInRange c → IsInRange s
      → IsInRange (changed traced pid p id l c s)
  unfolding changed
  changed-range (files_are files fds) s it h =
      changed-one (record s { files = files }) pid (with_fds fds) (fds-keeps fds) (with_files s files it h)
  changed-range (space_is space) s it h = changed-one s pid (with_space space) (space-keeps space it) h
  changed-range (signals target g info) s it h =
      choice IsInRange (is_kill g && (target == pid)) _ _ (λ itself. h)
      (λ other. generated-range s target None g info it h)
  changed-range (signals_itself g info) s it h =
      choice IsInRange (is_kill g) _ _ (λ kill. h) (λ other. generated-range s pid (Some id) g info it h)
  changed-range (takes_shared g) s it h = changed-one s pid (with_shared_taken g) (shared-keeps g) h
  changed-range (job_stops g) s it h = changed-one s pid (with_job_stop g) (job-keeps g) h
  changed-range (disposition_is g d) s it h = changed-one s pid (with_disposition_of g d) (disposition-keeps g d it) h
  changed-range (held_is held) s it h =
      changed-one s pid (with_lwp id (with_held held)) (keeps-one id (with_held held) (held-keeps held it)) h
  changed-range (resumes frame frames) s it h =
      changed-one s pid (with_lwp id (resumed frame frames))
      (keeps-one id (resumed frame frames) (resumed-keeps frame frames it.0 it.1)) h
  changed-range (forks birth args) s it h =
      choice IsInRange (s.made == pid) _ _ (λ own_id. h) (λ apart. child-range birth s pid p l args it own own_lwp h)
  changed-range (reaps child) s it h =
      choice IsInRange (child == pid) _ _ (λ itself. h) (λ apart. reaped-range s child h)
  changed-range (becomes program) s it h =
      process_if-keeps IsInRange p.lender (with_loan_back pid p) (loaned_back-range pid p own) _
      (changed-one s pid (with_program traced id l program) (program-keeps id l program own_lwp it) h)
  changed-range (makes_lwp new regs held) s it h =
      changed-one s pid (with_new_lwp traced new regs held) (new-keeps new held regs it.0 it.1) h
  changed-range (suspends other suspended) s it h =
      changed-one s pid (with_lwp other (with_suspended suspended))
      (keeps-one other (with_suspended suspended) (suspended-keeps suspended)) h

  pub all_changed-range : (cs : List Change) (s : TracedSystem) → All IsChangeInRange cs → IsInRange s
      → IsInRange (all_changed traced pid p id l cs s)
  unfolding all_changed
  all_changed-range [] s all h = h
  all_changed-range (c ∷ cs) s all h =
      all_changed-range cs (changed traced pid p id l c s) (All-tail IsChangeInRange c cs all)
      (changed-range c s (All-head IsChangeInRange c cs all) h)
