use Rattle.std.specs.Prelude.{◌≡◌, ◌≢◌, ◌==◌, ◌<◌, ◌≤◌, ◌/◌, ⊤, ℕ, Bool, true, List, Option, Some, None, is_some, nat_lt, if◌then◌else◌}
use Rattle.pr_num.specs.ById.{under}
use Rattle.pr_num.specs.Limits.{process_limit}
use Rattle.pr_model.specs.State.{TracedProcess}
use Rattle.pr_pids.specs.Blocks.{has_block}

-- In which blocks of 64 ids the children of each process stand, and in which those that have ended, so that they are
-- found without a walk over others.

-- the block of an id; the last one has all ids behind it too
unfoldable pub block_of : ℕ → ℕ
block_of id = if nat_lt id process_limit then id / 64 else 63

-- the block of an id is marked for a process; what is no id of a process has no marks
unfoldable pub IsMarked : List ℕ → ℕ → ℕ → Type 0
IsMarked words parent id = parent < process_limit → has_block words parent (block_of id) ≡ true

-- which processes are meant: all; those that have ended
abbrev pub any_process : TracedProcess → Bool
any_process p = true

abbrev pub has_ended : TracedProcess → Bool
has_ended p = is_some p.ended

-- the block of each process of a kind but that of an id is marked for its parent
pub record AreMarkedBut (kind : TracedProcess → Bool) (out : ℕ) (words : List ℕ)
    (es : List (ℕ × TracedProcess)) : Type 0 where
  pub each : (id : ℕ) (p : TracedProcess) → under id es ≡ Some p → kind p ≡ true → id ≢ out → IsMarked words p.parent id

-- that of each process of the kind is
pub record AreMarked (kind : TracedProcess → Bool) (words : List ℕ) (es : List (ℕ × TracedProcess)) : Type 0 where
  pub each : (id : ℕ) (p : TracedProcess) → under id es ≡ Some p → kind p ≡ true → IsMarked words p.parent id

-- ---- no child

-- a process has no child of a kind from one id on, before another one
pub record HasNone (kind : TracedProcess → Bool) (parent from to : ℕ) (es : List (ℕ × TracedProcess)) : Type 0 where
  pub each : (id : ℕ) (p : TracedProcess) → under id es ≡ Some p → kind p ≡ true → from ≤ id → id < to
      → p.parent ≢ parent

-- nor any from one id on
pub record HasNoneFrom (kind : TracedProcess → Bool) (parent from : ℕ) (es : List (ℕ × TracedProcess)) : Type 0 where
  pub each : (id : ℕ) (p : TracedProcess) → under id es ≡ Some p → kind p ≡ true → from ≤ id → p.parent ≢ parent

-- nor any in a block
pub record HasNoneIn (kind : TracedProcess → Bool) (parent block : ℕ) (es : List (ℕ × TracedProcess)) : Type 0 where
  pub each : (id : ℕ) (p : TracedProcess) → under id es ≡ Some p → kind p ≡ true → block_of id ≡ block
      → p.parent ≢ parent

-- the same of all children
abbrev pub HasNoChild : ℕ → ℕ → ℕ → List (ℕ × TracedProcess) → Type 0
HasNoChild parent from to es = HasNone any_process parent from to es

abbrev pub HasNoChildFrom : ℕ → ℕ → List (ℕ × TracedProcess) → Type 0
HasNoChildFrom parent from es = HasNoneFrom any_process parent from es

-- of those that have ended
abbrev pub HasNoZombie : ℕ → ℕ → ℕ → List (ℕ × TracedProcess) → Type 0
HasNoZombie parent from to es = HasNone has_ended parent from to es

abbrev pub HasNoZombieFrom : ℕ → ℕ → List (ℕ × TracedProcess) → Type 0
HasNoZombieFrom parent from es = HasNoneFrom has_ended parent from es

-- the wait status of a process, if it is a child of another one and has ended
abbrev pub zombie_status : ℕ → TracedProcess → Option ℕ
zombie_status parent p = if p.parent == parent then p.ended else None

-- an id stands before another one; where there is none, every id does
abbrev pub IsBefore : ℕ → Option ℕ → Type 0
IsBefore id None = ⊤
IsBefore id (Some start) = id < start
