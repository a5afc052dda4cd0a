use Rattle.std.specs.Prelude.{◌≡◌, ◌<◌, ◌≤◌, ◌/◌, ℕ, Bool, true, false, List, Option, Some, None, slice_index}
use Rattle.std.specs.List.{list_any}
use Rattle.pr_num.specs.Limits.{process_limit}
use Rattle.pr_model.specs.State.{TracedLwp, TracedProcess, TracedSystem, live_process}
use Rattle.pr_pids.specs.Members.{has_pid}
use Rattle.pr_ready.specs.declared.ready.Ready as ready
use Rattle.pr_ready.specs.declared.moments.Moments.{Moments}
use Rattle.pr_ready_laws.specs.Left.{dozes, sleeps_at_pipe, wakes_between}

-- Which processes are looked at for a turn, and when the clock has to look at those that sleep. A question is asked of
-- lwps, each named after its process's id; which one it is, is left open here.

abbrev pub ReadySets : Type 0
ReadySets = ready.Ready

-- ---- the lwps of a process

-- whether the answer about some lwp of a process is yes
abbrev pub is_asked : (ℕ × ℕ → Bool) → ℕ → ℕ × TracedLwp → Bool
is_asked answer pid e = answer (pid, e.0)

abbrev pub some_answer : (ℕ × ℕ → Bool) → ℕ → TracedProcess → Bool
some_answer answer pid p = list_any (is_asked answer pid) p.lwps

abbrev pub some_answer_of : (ℕ × ℕ → Bool) → ℕ → Option TracedProcess → Bool
some_answer_of answer pid None = false
some_answer_of answer pid (Some p) = some_answer answer pid p

-- whether some lwp of a process sleeps in read or write, and whether one sleeps in sleep
abbrev pub is_at_pipe : ℕ × TracedLwp → Bool
is_at_pipe e = sleeps_at_pipe e.1.phase

abbrev pub some_at_pipe : TracedProcess → Bool
some_at_pipe p = list_any is_at_pipe p.lwps

abbrev pub is_dozing : ℕ × TracedLwp → Bool
is_dozing e = dozes e.1.phase

abbrev pub some_dozing : TracedProcess → Bool
some_dozing p = list_any is_dozing p.lwps

-- whether some lwp of a process sleeps in sleep until a moment to which the clock comes on its way from one to another
abbrev pub is_woken : ℕ → ℕ → ℕ × TracedLwp → Bool
is_woken from to e = wakes_between from to e.1.phase

abbrev pub some_woken : ℕ → ℕ → TracedProcess → Bool
some_woken from to p = list_any (is_woken from to) p.lwps

abbrev pub some_woken_of : ℕ → ℕ → Option TracedProcess → Bool
some_woken_of from to None = false
some_woken_of from to (Some p) = some_woken from to p

-- ---- moments

-- the process of an id is looked at when the clock comes to a moment: it is not before that of its block, nor before
-- that of all
pub record IsDue (m : Moments) (pid moment : ℕ) : Type 0 where
  pub block : slice_index m.blocks (pid / 64) ≤ moment
  pub all : m.all ≤ moment

-- who is looked at at a moment still is
abbrev pub StaysDue : Moments → Moments → Type 0
StaysDue old new = (pid moment : ℕ) → IsDue old pid moment → IsDue new pid moment

-- ---- the sets

-- The sets have the process of an id where they have to: the first one if the answer about some lwp of it is yes, the
-- second one if some lwp of it sleeps at a pipe, and the third one if some lwp of it sleeps in sleep. And where one
-- sleeps there until a moment that is still to come, the process is looked at when the clock comes to it.
pub record Covers (answer : ℕ × ℕ → Bool) (s : TracedSystem) (r : ReadySets) (pid : ℕ) : Type 0 where
  pub moves : (p : TracedProcess) → live_process s pid ≡ Some p → some_answer answer pid p ≡ true
      → has_pid r.movable pid ≡ true
  pub waits : (p : TracedProcess) → live_process s pid ≡ Some p → some_at_pipe p ≡ true
      → has_pid r.at_pipes pid ≡ true
  pub dozes : (p : TracedProcess) → live_process s pid ≡ Some p → some_dozing p ≡ true → has_pid r.dozing pid ≡ true
  pub wakes : (p : TracedProcess) (moment : ℕ) → live_process s pid ≡ Some p → some_woken s.clock moment p ≡ true
      → IsDue r.moments pid moment

-- So it is with each process of some ids. No process has an id from 4,096 on.
pub record CoversEach (is : ℕ → Bool) (answer : ℕ × ℕ → Bool) (s : TracedSystem) (r : ReadySets) : Type 0 where
  pub each : (pid : ℕ) → is pid ≡ true → pid < process_limit → Covers answer s r pid

-- and with every process
abbrev pub every : ℕ → Bool
every pid = true

-- ---- sets that grow

abbrev pub HasAll : List ℕ → List ℕ → Type 0
HasAll words more = (pid : ℕ) → has_pid words pid ≡ true → has_pid more pid ≡ true

-- no process leaves a set, and none is looked at later than it was
pub record Grows (old new : ReadySets) : Type 0 where
  pub movable : HasAll old.movable new.movable
  pub at_pipes : HasAll old.at_pipes new.at_pipes
  pub dozing : HasAll old.dozing new.dozing
  pub moments : StaysDue old.moments new.moments

abbrev pub HasAllBut : ℕ → List ℕ → List ℕ → Type 0
HasAllBut one words more = (pid : ℕ) → (pid ≡ one → ⊥) → has_pid words pid ≡ true → has_pid more pid ≡ true

-- none but this one leaves a set
pub record GrowsBut (one : ℕ) (old new : ReadySets) : Type 0 where
  pub movable : HasAllBut one old.movable new.movable
  pub at_pipes : HasAllBut one old.at_pipes new.at_pipes
  pub dozing : HasAllBut one old.dozing new.dozing
  pub moments : StaysDue old.moments new.moments

-- ---- what one set has to have

-- the answer about lwps is no, but of those of a set
pub record CoversMoves (answer : ℕ × ℕ → Bool) (s : TracedSystem) (movable : List ℕ) : Type 0 where
  pub each : (pid : ℕ) (p : TracedProcess) → live_process s pid ≡ Some p → some_answer answer pid p ≡ true
      → has_pid movable pid ≡ true

-- no lwp sleeps in sleep, but of those of a set
pub record CoversDozing (s : TracedSystem) (dozing : List ℕ) : Type 0 where
  pub each : (pid : ℕ) (p : TracedProcess) → live_process s pid ≡ Some p → some_dozing p ≡ true
      → has_pid dozing pid ≡ true

-- those of a set about whom the answer is yes are in another, as far as some id
pub record IsWoken (answer : ℕ × ℕ → Bool) (s : TracedSystem) (sleepers movable : List ℕ) : Type 0 where
  pub each : (pid : ℕ) → has_pid sleepers pid ≡ true → some_answer_of answer pid (live_process s pid) ≡ true
      → has_pid movable pid ≡ true
