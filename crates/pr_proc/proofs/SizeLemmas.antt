use Rattle.std.proofs.Common.{◌≤◌}
use Rattle.pr_num.specs.Spaces.{IsSpace, Space, mapped_size, mapping_limit}

-- How many bytes processes have mapped.

pub mapped-limit : (space : Space) → IsSpace space → mapped_size space ≤ mapping_limit
mapped-limit space h = h.limit

pub ruleset size_laws = (mapped-limit)
