use Rattle.std.proofs.Common.{◌≤◌, [], ◌∷◌, sym, subst, arith}
use Rattle.std.specs.List.{slice_get, sum_by}
use Rattle.std.proofs.lemmas.List.Sums.{sum_by-cons}
use Rattle.pr_num.specs.Limits.{all_mappings_limit}
use Rattle.pr_num.specs.Programs.{Program, text_of}
use Rattle.pr_num.specs.Spaces.{Space, first_space, mapped_size, mapping_limit}
use Rattle.pr_parts.proofs.FirstLemmas.{IsSpace-first, first_space-mappings}
use Rattle.pr_model.specs.Lawful.{IsLawfulProgram}
use Rattle.pr_proc.proofs.SpaceLemmas.{text-within}
use Rattle.pr_model.specs.FirstState.{size_at_start}

-- How much is mapped at the start.

first-size : (p : Program) → IsLawfulProgram p → mapped_size (first_space p) ≤ mapping_limit
first-size p h =
    let space = IsSpace-first (text_of p) p.bytes (text-within p h.code) h.bytes in
    subst (λ (s : Space). mapped_size s ≤ mapping_limit) (sym (first_space-mappings p)) space.limit

-- what one process of one program maps can be mapped
pub one-maps : (p : Program) → IsLawfulProgram p
    → sum_by (λ place. size_at_start (slice_get (p ∷ []) place)) (0 ∷ []) ≤ all_mappings_limit
one-maps p h = omega (arith, sum_by-cons (λ place. size_at_start (slice_get (p ∷ []) place)) 0 [], first-size p h)
