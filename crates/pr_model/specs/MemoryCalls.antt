use Rattle.std.specs.Prelude.{◌==◌, ◌||◌, ◌&&◌, ℕ, Bool, true, false, List, [], ◌∷◌, Option, Some, None, Result, Ok, Err, is_ok, nat_lt, nat_le, if◌then◌else◌}
use Rattle.std.specs.List.{list_any}
use Rattle.pr_num.specs.Layout.{heap_base, break_limit}
use Rattle.pr_num.specs.Control.{prot_read, prot_write}
use Rattle.pr_num.specs.Limits.{path_limit}
use Rattle.pr_num.specs.Programs.{rounded}
use Rattle.pr_num.specs.Spaces.{Space, bytes_for, mapped_size, mapping_limit}
use Rattle.pr_num.specs.declared.errnos.Errno.{Errno}
use Rattle.pr_num.specs.declared.errnos.Errno.TheVariants.{Inval, Nomem, Fault}
use Rattle.pr_num.specs.declared.mappings.BadByte.{BadByte}
use Rattle.pr_num.specs.declared.mappings.Mapping.{Mapping}
use Rattle.pr_num.specs.declared.mappings.MappingKind.{MappingKind}
use Rattle.pr_num.specs.declared.mappings.MappingKind.TheVariants.{Mapped}
use Rattle.pr_parts.specs.AddressSpaces.{with_break, gap_in, zeros_at, with_mapping, is_range, has_range, without_range, with_protected, text_at}
use Rattle.pr_model.specs.Changes.{Effect, gives, fails, space_is}
use Rattle.pr_model.specs.Readers.{size_of, total_has_room}
use Rattle.pr_model.specs.State.{ProcessOf, SystemOf}

-- The system calls on memory, a definition a call. Each tries its refusals in their order.

-- ---- what calls read and write of memory

-- whether a call may read, or write, all of so many bytes
abbrev pub can_read : Space → ℕ → ℕ → Bool
can_read space at size = is_ok (bytes_for prot_read space at size)

abbrev pub can_write : Space → ℕ → ℕ → Bool
can_write space at size = is_ok (bytes_for prot_write space at size)

-- A path: the bytes up to the first zero. EFAULT: a byte before that cannot be read; EINVAL: there is none among 32, or
-- it comes at once.
unfoldable pub path_at : Space → ℕ → Result (List ℕ) Errno
path_at space at = of (text_at space at path_limit)
  where
    of : Result (Option (List ℕ)) BadByte → Result (List ℕ) Errno
    of (Err bad) = Err Fault
    of (Ok None) = Err Inval
    of (Ok (Some [])) = Err Inval
    of (Ok (Some (b ∷ bytes))) = Ok (b ∷ bytes)

-- ---- the calls

-- whether a mapping was made by mmap
abbrev pub is_mapped_kind : MappingKind → Bool
is_mapped_kind Mapped = true
is_mapped_kind _ = false

abbrev pub is_mapped_range : ℕ → ℕ → Mapping → Bool
is_mapped_range at size m = is_range at size m && is_mapped_kind m.kind

-- the greatest protection
abbrev pub prot_limit : ℕ
prot_limit = 7

module _ {C H K : Type 0} (s : SystemOf C H K) (p : ProcessOf C H K) where
  -- another space of the process, where it passes neither the limit of one process nor that of all
  abbrev pub unless_too_big : ℕ → Space → Effect
  unless_too_big value space =
      if nat_le (mapped_size space) mapping_limit && total_has_room s (mapped_size space) (size_of p)
      then gives value (space_is space ∷ []) else fails Nomem

  -- brk(2): the break comes to an address. EINVAL: it cannot stand there; ENOMEM: too much would be mapped.
  unfoldable pub brk_effect : ℕ → Effect
  brk_effect end =
      if nat_lt end heap_base || nat_lt break_limit end then fails Inval else unless_too_big 0 (with_break end p.space)

  -- mmap(2): gives the address of a new mapping. EINVAL: a length of 0 or above 1 MiB, no protection; ENOMEM: too much
  -- would be mapped, or no gap is wide enough.
  unfoldable pub mmap_effect : ℕ → ℕ → Effect
  mmap_effect len prot =
      if (len == 0) || (nat_lt mapping_limit len || nat_lt prot_limit prot) then fails Inval
      else at (gap_in (rounded len) p.space)
    where
      at : Option ℕ → Effect
      at None = fails Nomem
      at (Some address) = unless_too_big address (with_mapping (zeros_at address (rounded len) prot Mapped) p.space)

  -- munmap(2). EINVAL: the range, rounded up, is not one whole mapping that mmap made.
  unfoldable pub munmap_effect : ℕ → ℕ → Effect
  munmap_effect at len =
      if list_any (is_mapped_range at (rounded len)) p.space then gives 0
      (space_is (without_range at (rounded len) p.space) ∷ [])
      else fails Inval

  -- mprotect(2). EINVAL: the range, rounded up, is not one whole mapping, or no protection.
  unfoldable pub mprotect_effect : ℕ → ℕ → ℕ → Effect
  mprotect_effect at len prot =
      if has_range at (rounded len) p.space && nat_le prot prot_limit
      then gives 0 (space_is (with_protected at (rounded len) prot p.space) ∷ []) else fails Inval
