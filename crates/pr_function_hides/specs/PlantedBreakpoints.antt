-- What programs leave alone, so that each breakpoint stands that truss has marked as planted: these functions.
use Rattle.std.specs.Prelude.{◌≡◌, ◌<◌, ◌++◌, ℕ, true, false, List, ◌∷◌, Some, length, slice_get}
use Rattle.pr_function_hides.specs.CountedFunctions.{LeavesAlone}
use Rattle.pr_function_laws.specs.Opened.{functions_at}
use Rattle.pr_hidden.specs.Covers.{Patch}
use Rattle.pr_line.specs.declared.functions.Function.{Function}
use Rattle.pr_line.specs.declared.options.Options.{Options}
use Rattle.pr_model.specs.Legal.{state_after}
use Rattle.pr_model.specs.State.{TracedLwp, TracedProcess, TracedState, live_process, lwp_of}
use Rattle.pr_model.specs.declared.events.Act.TheVariants.{Turn}
use Rattle.pr_model.specs.declared.events.Actor.TheVariants.{Lwp}
use Rattle.pr_model.specs.declared.events.Entry.{Entry}
use Rattle.pr_model.specs.declared.events.Turned.{Turned}
use Rattle.pr_truss.specs.Asides.{marks_at}
use Rattle.pr_truss.specs.Marks.{breakpoint, has_function}
use Rattle.pr_truss.specs.Trusses.{traced_at}

-- the breakpoint of a function, as bytes in memory
abbrev pub breakpoint_of : Function → Patch
breakpoint_of f = record { at = f.at; bytes = breakpoint }

-- Programs leave alone each function that truss has marked as planted in their process: an lwp that is not directed to
-- stop runs no instruction that stores there, and neither makes a call that asks for memory there nor sleeps in one;
-- but for exec, which asks for a path. So no mapping is made there either. Nothing is said of what else they do there:
-- their instructions may read it and run into it, and they may unmap and protect it; nor of other processes and
-- controllers.
pub record LeavesPlanted (k : ℕ) (o : Options) (first : TracedState) (h : List Entry) : Type 0 where
  pub alone : (front later : List Entry) (place id function : ℕ) (t : Turned) (p : TracedProcess) (l : TracedLwp)
      (f : Function)
      → h
      ≡ front ++ record { actor = Lwp (traced_at (functions_at k o front) place).pid id; act = Turn t } ∷ later
      → place < length (functions_at k o front).traced
      → live_process (state_after first front).system (traced_at (functions_at k o front) place).pid ≡ Some p
      → lwp_of p id ≡ Some l → l.control.directed ≡ false
      → slice_get (functions_at k o front).options.functions function ≡ Some f
      → has_function (marks_at (functions_at k o front) place).planted function ≡ true
      → LeavesAlone (breakpoint_of f) p l
