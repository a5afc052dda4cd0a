use Rattle.std.specs.Prelude.{◌≡◌, ◌==◌, ◌||◌, ◌&&◌, ◌<◌, ◌≤◌, ◌+◌, ◌^◌, ℕ, Bool, nat_le, nat_lt, [], ◌∷◌, Result, Ok, Err, None}
use Rattle.pr_num.specs.Programs.{rounded}
use Rattle.pr_num.specs.Spaces.{Space, mapping_limit}
use Rattle.pr_num.specs.declared.errnos.Errno.{Errno}
use Rattle.pr_num.specs.declared.mappings.MappingKind.TheVariants.{Mapped}
use Rattle.pr_parts.specs.AddressSpaces.{with_mapping, zeros_at}
use Rattle.pr_mem.specs.Answers.{map_refusal}
use Rattle.pr_model.specs.Changes.{Effect, fails, gives, space_is}
use Rattle.pr_model.specs.MemoryCalls.{prot_limit}
use Rattle.pr_model.specs.Readers.{size_of, total_has_room}
use Rattle.pr_model.specs.State.{TracedProcess, TracedSystem}

-- Where mmap(2) maps.

-- whether a length or a protection is refused
abbrev pub are_bad : ℕ → ℕ → Bool
are_bad len prot = (len == 0) || (nat_lt mapping_limit len || nat_lt prot_limit prot)

-- whether a process can map so many bytes more
abbrev pub can_grow : TracedSystem → TracedProcess → ℕ → Bool
can_grow s p size =
    nat_le (size_of p + size) mapping_limit && total_has_room s (size_of p + size) (size_of p)

-- the effect of an mmap that maps there, or is refused
abbrev pub place_meant : Space → ℕ → ℕ → Result ℕ Errno → Effect
place_meant space len prot (Ok at) =
    gives at (space_is (with_mapping (zeros_at at (rounded len) prot Mapped) space) ∷ [])
place_meant space len prot (Err e) = fails e

-- a range can be mapped
pub record CanMap (space : Space) (len protection at : ℕ) : Type 0 where
  pub some : 0 < rounded len
  pub short : rounded len ≤ mapping_limit
  pub end : at + rounded len < 2 ^ 64
  pub prot : protection < 8
  pub free : map_refusal at (rounded len) space ≡ None
