use Rattle.std.specs.Prelude.{◌≡◌, ◌≤◌, ◌/◌, ℕ, Some, length}
use Rattle.std.specs.List.{All}
use Rattle.pr_num.specs.Layout.{page_size}
use Rattle.pr_num.specs.Limits.{mapping_limit}
use Rattle.pr_num.specs.Spaces.{IsSpace}
use Rattle.pr_num.specs.declared.mappings.Mapping.{Mapping}
use Rattle.pr_model.specs.Readers.{space_seen}
use Rattle.pr_model.specs.State.{TracedProcess, TracedSystem, process_of}

-- How many mappings a process has, and how they stand.

-- As many pages as a process can map, 256: no process has more mappings than these, as each has a page at least.
abbrev pub most_mappings : ℕ
most_mappings = mapping_limit / page_size

pub record HasAPage (m : Mapping) : Type 0 where
  pub page : page_size ≤ length m.bytes

pub record HasFewMappings (p : TracedProcess) : Type 0 where
  pub pages : All HasAPage p.space
  pub few : length p.space ≤ most_mappings

-- of each process, live or a zombie
pub record HaveFewMappings (s : TracedSystem) : Type 0 where
  pub processes : All (λ (e : ℕ × TracedProcess). HasFewMappings e.1) s.processes

-- What each process, live or a zombie, has mapped is an address space: its mappings stand by rising address and apart,
-- none is empty or reaches past the last address, and together they have at most 1 MiB. So is what it shows of its
-- memory, which is that of its borrower where it has lent it (vfork(2)).
pub record HaveAddressSpaces (s : TracedSystem) : Type 0 where
  pub own : (pid : ℕ) (p : TracedProcess) → process_of s pid ≡ Some p → IsSpace p.space
  pub shown : (pid : ℕ) (p : TracedProcess) → process_of s pid ≡ Some p → IsSpace (space_seen s p)
