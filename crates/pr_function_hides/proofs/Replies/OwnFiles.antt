-- What truss has of the processes that it traces, and where it stands as long as it was not interrupted.
use Rattle.std.specs.Prelude.{◌≡◌, ◌≢◌, ◌<◌, ℕ, false, All, List, [], Some, length}
use Rattle.std.specs.List.{cons_option}
use Rattle.pr_function_laws.specs.Lifted.{HasControl}
use Rattle.pr_hidden.specs.Hiders.{is_ctl}
use Rattle.pr_model.specs.Handles.{handle_of}
use Rattle.pr_model.specs.State.{TracedState}
use Rattle.pr_model.specs.declared.handles.Held.{Held}
use Rattle.pr_truss.specs.Trusses.{TrussState, traced_at}
use Rattle.pr_truss.specs.declared.asides.Aside.{Aside}
use Rattle.pr_truss.specs.declared.asides.Aside.TheVariants.{Nothing, Reading, Planting, Patching}
use Rattle.pr_truss.specs.declared.processes.Traced.{Traced}
use Rattle.pr_truss.specs.declared.stages.AfterClosing.TheVariants.{OpenNext, GoOn}
use Rattle.pr_truss.specs.declared.stages.Stage.{Stage}
use Rattle.pr_truss.specs.declared.stages.Stage.TheVariants.{Spawning, OpeningControl, Opening, Polling, ReadingStatus, ReadingText, Running, Closing, Finished}

-- What truss does next it does for one of so many processes, or for none, and it neither leaves them nor follows their
-- children.
abbrev pub IsWithin : ℕ → Stage → Type 0
IsWithin n (Spawning program) = Unit {0}
IsWithin n (OpeningControl pid) = Unit {0}
IsWithin n (Opening place step) = place < n
IsWithin n Polling = Unit {0}
IsWithin n (ReadingStatus place) = place < n
IsWithin n (ReadingText place l from len) = place < n
IsWithin n (Running place) = place < n
IsWithin n (Closing place OpenNext) = place < n
IsWithin n (Closing place GoOn) = place < n
IsWithin n Finished = Unit {0}
IsWithin n _ = ⊥

-- and so what comes before it
abbrev pub IsBeside : ℕ → Aside → Type 0
IsBeside n Nothing = Unit {0}
IsBeside n (Reading place function) = place < n
IsBeside n (Planting place function) = place < n
IsBeside n (Patching place plants lifts clear) = place < n
IsBeside n _ = ⊥

-- the handles of a process but for that of its control file
abbrev pub other_handles : Traced → List ℕ
other_handles t = cons_option t.memory (cons_option t.lstatus (cons_option t.status []))

-- a handle is of no control file
pub record IsOfOtherFile (k : ℕ) (s : TracedState) (number : ℕ) : Type 0 where
  pub other : (held : Held) → handle_of s.opens k number ≡ Some held → is_ctl held.file ≡ false

-- Truss has the control file of each process that it traces open, for itself alone; its other handles are of other
-- files; and it traces no process twice.
pub record HasItsFiles (k : ℕ) (t : TrussState) (s : TracedState) : Type 0 where
  pub control : (place : ℕ) → place < length t.traced
      → HasControl k (traced_at t place).pid (traced_at t place).control s
  pub others : (place : ℕ) → place < length t.traced → All (IsOfOtherFile k s) (other_handles (traced_at t place))
  pub apart : (i j : ℕ) → i < length t.traced → j < length t.traced → i ≢ j
      → (traced_at t i).pid ≢ (traced_at t j).pid

-- It does not leave its processes, nor follow their children.
pub record GoesOn (t : TrussState) : Type 0 where
  pub off : t.leaving ≡ false
  pub follow : t.options.follow ≡ false
  pub stage : IsWithin (length t.traced) t.stage
  pub beside : IsBeside (length t.traced) t.aside

-- both
pub record HoldsItsFiles (k : ℕ) (t : TrussState) (s : TracedState) : Type 0 where
  pub off : t.leaving ≡ false
  pub follow : t.options.follow ≡ false
  pub stage : IsWithin (length t.traced) t.stage
  pub beside : IsBeside (length t.traced) t.aside
  pub control : (place : ℕ) → place < length t.traced
      → HasControl k (traced_at t place).pid (traced_at t place).control s
  pub others : (place : ℕ) → place < length t.traced → All (IsOfOtherFile k s) (other_handles (traced_at t place))
  pub apart : (i j : ℕ) → i < length t.traced → j < length t.traced → i ≢ j
      → (traced_at t i).pid ≢ (traced_at t j).pid

pub both-hold : (k : ℕ) (t : TrussState) (s : TracedState) → GoesOn t → HasItsFiles k t s → HoldsItsFiles k t s
both-hold k t s g f = record {
  off = g.off;
  follow = g.follow;
  stage = g.stage;
  beside = g.beside;
  control = f.control;
  others = f.others;
  apart = f.apart;
}

pub files-alone : (k : ℕ) (t : TrussState) (s : TracedState) → HoldsItsFiles k t s → HasItsFiles k t s
files-alone k t s h = record { control = h.control; others = h.others; apart = h.apart }
