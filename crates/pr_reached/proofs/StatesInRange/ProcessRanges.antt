use Rattle.std.proofs.Common.{◌≡◌, ℕ, true, Some, List}
use Rattle.std.specs.List.{All}
use Rattle.pr_num.proofs.ByIdLaws.{All-change_under, All-inserted, All-map_each, All-under, All-without_id}
use Rattle.pr_num.specs.ById.{change_under, inserted, map_each}
use Rattle.pr_num.specs.Files.{FileTable}
use Rattle.pr_lawful.proofs.ProcessParts.FileLemmas.{choice}
use Rattle.pr_keeps.proofs.KeepsLemmas.{all-replaced}
use Rattle.pr_model.specs.Lives.{with_made, with_reaped}
use Rattle.pr_model.specs.State.{TracedLwp, TracedProcess, TracedSystem, lwp_of, process_of, with_lwp, with_process}
use Rattle.pr_model.specs.Stops.{directed, has_event_stop, with_all_directed}
use Rattle.pr_model.specs.declared.lwps.LwpControl.{LwpControl}
use Rattle.pr_model.specs.declared.lwps.Phase.{Phase}
use Rattle.pr_parts.specs.PendingSignals.{Pending}
use Rattle.pr_reached.specs.InRange.{AreFilesInRange, HaveWords, IsInRange, IsLwpInRange, IsPhaseInRange, IsProcessInRange}

-- Changes of lwps, of processes and of systems that leave them in range.

-- ---- lwps

abbrev pub LwpInRange : ℕ × TracedLwp → Type 0
LwpInRange e = IsLwpInRange e.1

-- a change of an lwp that leaves it in range
abbrev pub KeepsLwp : (TracedLwp → TracedLwp) → Type 0
KeepsLwp f = (l : TracedLwp) → IsLwpInRange l → IsLwpInRange (f l)

-- what is set on an lwp has no range
pub with_marks : (l : TracedLwp) (control : LwpControl) → IsLwpInRange l → IsLwpInRange (record l { control = control })
with_marks l control h = record {
  regs = h.regs;
  held = h.held;
  frames = h.frames;
  pending = h.pending;
  current = h.current;
  phase = h.phase;
}

pub in_phase : (l : TracedLwp) (phase : Phase) → IsPhaseInRange phase → IsLwpInRange l
    → IsLwpInRange (record l { phase = phase })
in_phase l phase it h = record {
  regs = h.regs;
  held = h.held;
  frames = h.frames;
  pending = h.pending;
  current = h.current;
  phase = it;
}

pub with_pending_set : (l : TracedLwp) (pending : Pending) → HaveWords pending → IsLwpInRange l
    → IsLwpInRange (record l { pending = pending })
with_pending_set l pending it h = record {
  regs = h.regs;
  held = h.held;
  frames = h.frames;
  pending = it;
  current = h.current;
  phase = h.phase;
}

pub directed-keeps : KeepsLwp directed
unfolding directed
directed-keeps l h =
    choice IsLwpInRange (has_event_stop l) _ _ (λ stands. h)
    (λ runs. with_marks l (record l.control { directed = true }) h)

-- ---- processes

abbrev pub KeepsProcess : (TracedProcess → TracedProcess) → Type 0
KeepsProcess f = (x : TracedProcess) → IsProcessInRange x → IsProcessInRange (f x)

-- other lwps
pub with_lwps : (x : TracedProcess) (lwps : List (ℕ × TracedLwp)) → All LwpInRange lwps → IsProcessInRange x
    → IsProcessInRange (record x { lwps = lwps })
with_lwps x lwps all h = record {
  program = h.program;
  made_at = h.made_at;
  ended = h.ended;
  space = h.space;
  dispositions = h.dispositions;
  pending = h.pending;
  lwps = all;
  control = h.control;
}

pub lwp-range : (p : TracedProcess) (id : ℕ) (l : TracedLwp) → IsProcessInRange p → lwp_of p id ≡ Some l
    → IsLwpInRange l
lwp-range p id l h there = All-under LwpInRange id l p.lwps h.lwps there

-- the lwp of an id is changed, and every lwp is
pub keeps-at : (id : ℕ) (f : TracedLwp → TracedLwp) (x : TracedProcess)
    → ((l : TracedLwp) → lwp_of x id ≡ Some l → IsLwpInRange l → IsLwpInRange (f l)) → IsProcessInRange x
    → IsProcessInRange (with_lwp id f x)
unfolding with_lwp
keeps-at id f x keeps h =
    with_lwps x (change_under id f x.lwps) (All-change_under LwpInRange id f x.lwps keeps h.lwps) h

pub keeps-one : (id : ℕ) (f : TracedLwp → TracedLwp) → KeepsLwp f → KeepsProcess (with_lwp id f)
keeps-one id f keeps x h = keeps-at id f x (λ l there it. keeps l it) h

pub keeps-each : (f : TracedLwp → TracedLwp) → KeepsLwp f → KeepsProcess (λ x. record x { lwps = map_each f x.lwps })
keeps-each f keeps x h =
    with_lwps x (map_each f x.lwps) (All-map_each LwpInRange LwpInRange f (λ e it. keeps e.1 it) x.lwps h.lwps) h

pub all_directed-keeps : KeepsProcess with_all_directed
unfolding with_all_directed
all_directed-keeps x h = keeps-each directed directed-keeps x h

-- an lwp joins
pub keeps-more : (id : ℕ) (l : TracedLwp) (x : TracedProcess) → IsLwpInRange l → IsProcessInRange x
    → IsProcessInRange (record x { lwps = inserted id l x.lwps })
keeps-more id l x new h = with_lwps x (inserted id l x.lwps) (All-inserted LwpInRange id l x.lwps new h.lwps) h

-- ---- systems

abbrev pub ProcessInRange : ℕ × TracedProcess → Type 0
ProcessInRange e = IsProcessInRange e.1

pub process-range : (s : TracedSystem) (pid : ℕ) (p : TracedProcess) → IsInRange s → process_of s pid ≡ Some p
    → IsProcessInRange p
process-range s pid p h found = All-under ProcessInRange pid p s.processes h.processes found

-- other processes, and other files
pub with_processes : (s : TracedSystem) (es : List (ℕ × TracedProcess)) → All ProcessInRange es → IsInRange s
    → IsInRange (record s { processes = es })
with_processes s es all h = record { programs = h.programs; clock = h.clock; files = h.files; processes = all }

pub with_files : (s : TracedSystem) (files : FileTable) → AreFilesInRange files → IsInRange s
    → IsInRange (record s { files = files })
with_files s files it h = record { programs = h.programs; clock = h.clock; files = it; processes = h.processes }

-- a process is changed in its place
pub changed-at : (s : TracedSystem) (pid : ℕ) (f : TracedProcess → TracedProcess)
    → ((x : TracedProcess) → process_of s pid ≡ Some x → IsProcessInRange x → IsProcessInRange (f x)) → IsInRange s
    → IsInRange (with_process pid f s)
unfolding with_process
changed-at s pid f keeps h =
    with_processes s (change_under pid f s.processes)
    (All-change_under ProcessInRange pid f s.processes keeps h.processes) h

pub changed-one : (s : TracedSystem) (pid : ℕ) (f : TracedProcess → TracedProcess) → KeepsProcess f → IsInRange s
    → IsInRange (with_process pid f s)
changed-one s pid f keeps h = changed-at s pid f (λ x there it. keeps x it) h

-- the process that stands there is changed
pub changed-found : (s : TracedSystem) (pid : ℕ) (p : TracedProcess) (f : TracedProcess → TracedProcess)
    → process_of s pid ≡ Some p → (IsProcessInRange p → IsProcessInRange (f p)) → IsInRange s
    → IsInRange (with_process pid f s)
unfolding with_process
changed-found s pid p f found keeps h =
    with_processes s (change_under pid f s.processes)
    (all-replaced ProcessInRange pid f p s.processes found keeps h.processes) h

-- every process is changed
pub changed-each : (es : List (ℕ × TracedProcess)) (f : TracedProcess → TracedProcess) → KeepsProcess f
    → All ProcessInRange es → All ProcessInRange (map_each f es)
changed-each es f keeps h = All-map_each ProcessInRange ProcessInRange f (λ e it. keeps e.1 it) es h

-- one is made, and one is reaped
pub made-range : (s : TracedSystem) (p : TracedProcess) → IsProcessInRange p → IsInRange s → IsInRange (with_made p s)
unfolding with_made
made-range s p new h = record {
  programs = h.programs;
  clock = h.clock;
  files = h.files;
  processes = All-inserted ProcessInRange s.made p s.processes new h.processes;
}

pub reaped-range : (s : TracedSystem) (child : ℕ) → IsInRange s → IsInRange (with_reaped child s)
unfolding with_reaped
reaped-range s child h = with_processes s _ (All-without_id ProcessInRange child s.processes h.processes) h
