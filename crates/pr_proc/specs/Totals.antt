use Rattle.std.specs.Prelude.{◌≡◌, ◌≢◌, ◌==◌, ◌+◌, ◌≤◌, ℕ, List, [], ◌∷◌, Option, Some, None, if◌then◌else◌}
use Rattle.std.specs.List.{All}
use Rattle.pr_num.specs.ById.{under}
use Rattle.pr_num.specs.Limits.{mapping_limit}
use Rattle.pr_model.specs.Readers.{size_of}
use Rattle.pr_model.specs.State.{TracedProcess}

-- How the number of bytes that all processes have mapped is kept: the sum is that of all but one, which may be lent.

abbrev pub size_in : Option TracedProcess → ℕ
size_in None = 0
size_in (Some p) = size_of p

-- how many bytes the process of an id has mapped, 0 where there is none
abbrev pub size_under : ℕ → List (ℕ × TracedProcess) → ℕ
size_under id es = size_in (under id es)

-- how many bytes all processes have mapped but that of an id
abbrev pub sizes_but : ℕ → List (ℕ × TracedProcess) → ℕ
sizes_but out [] = 0
sizes_but out (e ∷ es) = if e.0 == out then sizes_but out es else size_of e.1 + sizes_but out es

-- a process has no more mapped than one may, unless it is that of an id
abbrev pub IsSmallBut : ℕ → ℕ × TracedProcess → Type 0
IsSmallBut out e = e.0 ≢ out → size_of e.1 ≤ mapping_limit

-- no process has more mapped than one may
abbrev pub IsSmall : ℕ × TracedProcess → Type 0
IsSmall e = size_of e.1 ≤ mapping_limit

pub record AreSmall (es : List (ℕ × TracedProcess)) : Type 0 where
  pub each : All IsSmall es

-- so many bytes are mapped by all processes but that of an id, none of which has more than one may
pub record IsTotal (others out : ℕ) (es : List (ℕ × TracedProcess)) : Type 0 where
  pub sum : others ≡ sizes_but out es
  pub small : All (IsSmallBut out) es
