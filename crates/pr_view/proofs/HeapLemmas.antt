use Rattle.std.proofs.Common.{◌≡◌, ℕ, ◌+◌, ◌<◌, ◌≤◌, ◌^◌, Bool, true, false, cond, [], ◌∷◌, length, arith}
use Rattle.std.specs.Prelude.{sum_by}
use Rattle.std.proofs.lemmas.List.Sums.{sum_by-cons}
use Rattle.pr_num.specs.declared.mappings.Mapping.{Mapping}
use Rattle.pr_num.specs.Spaces.{Space, IsSpace, heap_size, is_heap, mapped_size}

-- The heap is a part of what is mapped.

part : (b : Bool) (n : ℕ) → cond b n 0 ≤ n
part true n = omega arith
part false n = omega arith

heap_size-mapped : (space : Space) → heap_size space ≤ mapped_size space
heap_size-mapped [] = omega arith
heap_size-mapped (m ∷ space) =
    let cons : (f : Mapping → ℕ) → sum_by f (m ∷ space) ≡ f m + sum_by f space = λ f. sum_by-cons f m space in
    omega (
      arith,
      cons (λ n. cond (is_heap n.kind) (length n.bytes) 0),
      cons (λ n. length n.bytes),
      part (is_heap m.kind) (length m.bytes),
      heap_size-mapped space,
    )

-- its size is a word
pub IsSpace-heap : (space : Space) → IsSpace space → heap_size space < 2 ^ 64
IsSpace-heap space is = omega (arith, heap_size-mapped space, is.limit)

pub ruleset heap_laws = (IsSpace-heap)
