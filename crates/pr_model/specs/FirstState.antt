use Rattle.std.specs.Prelude.{ℕ, List, [], ◌∷◌, Option, Some, None, false, codes, slice_get, sum_by}
use Rattle.pr_num.specs.Programs.{Program}
use Rattle.pr_num.specs.Spaces.{first_space, mapped_size}
use Rattle.pr_num.specs.declared.files.StoredFile.{StoredFile}
use Rattle.pr_model.specs.Lives.{bare_process, with_spawned}
use Rattle.pr_model.specs.Machines.{traced}
use Rattle.pr_model.specs.State.{TracedState, TracedSystem, TracedProcess, nothing_open}

-- The state before the first step.

-- process 0, the system process: it has no lwp, no memory and no descriptor, and is never stopped
unfoldable pub system_process : TracedProcess
system_process = bare_process traced 0 (codes "sched") 0

-- a file as the system keeps it, of its name and its bytes
abbrev pub stored_file : List ℕ × List ℕ → StoredFile
stored_file f = record { name = f.0; bytes = f.1 }

-- how many bytes the process of a program maps when it begins
abbrev pub first_size : Program → ℕ
first_size program = mapped_size (first_space program)

abbrev pub size_at_start : Option Program → ℕ
size_at_start None = 0
size_at_start (Some program) = first_size program

-- how many bytes the processes of the programs at these places map when they begin
abbrev pub mapped_at_start : List Program → List ℕ → ℕ
mapped_at_start programs spawns = sum_by (λ place. size_at_start (slice_get programs place)) spawns

-- nothing but process 0, these programs and these files
unfoldable pub bare_system : List Program → List StoredFile → TracedSystem
bare_system programs files = record {
  programs = programs;
  clock = 0;
  made = 1;
  files = record { files = files; pipes = []; opens = [] };
  processes = (0, system_process) ∷ [];
}

-- a process of the program at a place
abbrev pub spawned_at : Option Program → TracedSystem → TracedSystem
spawned_at None s = s
spawned_at (Some program) s = with_spawned traced program false s

-- processes of these programs, one after another, each of the program at a place
unfoldable pub with_spawns : List ℕ → TracedSystem → TracedSystem
with_spawns [] s = s
with_spawns (place ∷ places) s = with_spawns places (spawned_at (slice_get s.programs place) s)

-- the system with the processes that are spawned at the start
abbrev pub first_system : List Program → List StoredFile → List ℕ → TracedSystem
first_system programs files spawns = with_spawns spawns (bare_system programs files)

-- nothing is open, and no controller was interrupted
unfoldable pub first_state : List Program → List StoredFile → List ℕ → TracedState
first_state programs files spawns =
    record { system = first_system programs files spawns; opens = nothing_open; interrupted = 0 }
