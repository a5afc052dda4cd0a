use Rattle.std.specs.Prelude.{◌≡◌, ◌≤◌, ◌&&◌, ◌+◌, ℕ, Bool, true, false, List, Some, None, nat_le, nat_lt, slice_index}
use Rattle.pr_num.specs.declared.syscalls.Sysno.TheVariants.{Read, Write, Sleep}
use Rattle.pr_model.specs.Readers.{all_live, children_of}
use Rattle.pr_model.specs.State.{TracedLwp, TracedProcess, TracedSystem, live_process, lwp_of, process_of}
use Rattle.pr_model.specs.declared.lwps.Phase.{Phase}
use Rattle.pr_model.specs.declared.lwps.Phase.TheVariants.{Asleep}

-- What a step leaves of a process that it does not touch.

-- Where a process lives later, it stands as it stood but for its parent, which may have ended; and where all its
-- children lived before, they live still. Files and clock are the same, unless it is said that they may differ, and the
-- clock never goes back.
pub record IsLeft (pid : ℕ) (files clock : Bool) (s u : TracedSystem) : Type 0 where
  pub process : (q : TracedProcess) → process_of u pid ≡ Some q → q.ended ≡ None
      → (p : TracedProcess) × ((process_of s pid ≡ Some p) × (q ≡ record p { parent = q.parent }))
  pub children : children_of s pid ≡ all_live → children_of u pid ≡ all_live
  pub same_files : files ≡ false → u.files ≡ s.files
  pub same_clock : clock ≡ false → u.clock ≡ s.clock
  pub goes_on : s.clock ≤ u.clock

-- ---- lwps that wait

-- whether an lwp sleeps in read or write: at a pipe
abbrev pub sleeps_at_pipe : Phase → Bool
sleeps_at_pipe (Asleep Read args since) = true
sleeps_at_pipe (Asleep Write args since) = true
sleeps_at_pipe _ = false

-- whether it sleeps in sleep: until a moment of the clock
abbrev pub dozes : Phase → Bool
dozes (Asleep Sleep args since) = true
dozes _ = false

-- the moment until which a call of sleep lasts, by its arguments and when it began
abbrev pub moment_of : List ℕ → ℕ → ℕ
moment_of args since = since + slice_index args 0

-- whether the clock comes to a moment on its way from one to another
abbrev pub comes_between : ℕ → ℕ → ℕ → Bool
comes_between from to moment = nat_lt from moment && nat_le moment to

-- whether it sleeps in sleep until a moment to which the clock comes on its way from one to another
abbrev pub wakes_between : ℕ → ℕ → Phase → Bool
wakes_between from to (Asleep Sleep args since) = comes_between from to (moment_of args since)
wakes_between from to _ = false

-- whether it sleeps for what may differ: files, or the clock, which goes from one moment to another
abbrev pub waits : Bool → ℕ → ℕ → Phase → Bool
waits files from to (Asleep Read args since) = files
waits files from to (Asleep Write args since) = files
waits files from to (Asleep Sleep args since) = comes_between from to (moment_of args since)
waits files from to _ = false

-- an lwp of a live process that is of some kind by its phase
pub record HasLwp (is : Phase → Bool) (s : TracedSystem) (pid id : ℕ) : Type 0 where
  pub process : TracedProcess
  pub lwp : TracedLwp
  pub live : live_process s pid ≡ Some process
  pub there : lwp_of process id ≡ Some lwp
  pub kind : is lwp.phase ≡ true
