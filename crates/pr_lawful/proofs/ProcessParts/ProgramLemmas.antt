use Rattle.std.proofs.Common.{◌≡◌, ℕ, zero, suc, ◌+◌, ◌≤◌, true, false, leb, cond, Some, List, [], ◌∷◌, sym, subst, arith}
use Rattle.std.specs.List.{All, find, slice_get}
use Rattle.std.proofs.lemmas.Bool.{le-leb, or_right}
use Rattle.std.proofs.lemmas.List.Elements.{All-head, All-tail}
use Rattle.std.proofs.lemmas.Option.{same_Some, none-some}
use Rattle.pr_num.specs.Layout.{break_limit, gap_base, heap_base, page_size}
use Rattle.pr_num.proofs.ListLemmas.{length-text}
use Rattle.pr_num.specs.Programs.{Program, text_of}
use Rattle.pr_num.specs.Spaces.{Space, first_space, mapped_size, mapping_limit}
use Rattle.pr_parts.specs.AddressSpaces.{LeavesHeapPlace, gap_from, gap_in, is_gap, is_outside_heap_place}
use Rattle.pr_parts.proofs.FirstLemmas.{IsSpace-first, first_space-mappings}
use Rattle.pr_parts.proofs.HeapPlaceLemmas.{LeavesHeapPlace-first}
use Rattle.pr_model.specs.Lawful.{IsLawfulProgram}
use Rattle.pr_model.specs.ProcessCalls.{is_program_of, program_named}

-- Programs within their limits begin in spaces that leave the heap its place; and so do the mappings of mmap(2).

-- ---- the programs that are found

found-lawful : (name : List ℕ) (programs : List Program) (program : Program) → All IsLawfulProgram programs
    → find (is_program_of name) programs ≡ Some program → IsLawfulProgram program
found-lawful name [] program all found = absurd (none-some program found)
found-lawful name (p ∷ programs) program all found =
    elim (is_program_of name p) as
    (λ b. cond b (Some p) (find (is_program_of name) programs) ≡ Some program → IsLawfulProgram program) [
      | true ↦ λ here. subst IsLawfulProgram (same_Some p program here) (All-head IsLawfulProgram p programs all)
      | false ↦ λ there. found-lawful name programs program (All-tail IsLawfulProgram p programs all) there
    ] found

pub named-lawful : (name : List ℕ) (programs : List Program) (program : Program) → All IsLawfulProgram programs
    → program_named programs name ≡ Some program → IsLawfulProgram program
unfolding program_named
named-lawful name programs program all found = found-lawful name programs program all found

pub placed-lawful : (programs : List Program) (place : ℕ) (program : Program) → All IsLawfulProgram programs
    → slice_get programs place ≡ Some program → IsLawfulProgram program
placed-lawful [] place program all found = absurd (none-some program found)
placed-lawful (p ∷ programs) zero program all found =
    subst IsLawfulProgram (same_Some p program found) (All-head IsLawfulProgram p programs all)
placed-lawful (p ∷ programs) (suc place) program all found =
    placed-lawful programs place program (All-tail IsLawfulProgram p programs all) found

-- ---- where a program begins

pub program-leaves : (program : Program) → IsLawfulProgram program → All LeavesHeapPlace (first_space program)
program-leaves program h =
    let text = length-text program.code in
    let code = h.code in
    subst (λ (space : Space). All LeavesHeapPlace space) (sym (first_space-mappings program))
    (LeavesHeapPlace-first (text_of program) program.bytes (omega arith) h.bytes)

-- a program begins within the limit of a space
pub program-small : (program : Program) → IsLawfulProgram program → mapped_size (first_space program) ≤ mapping_limit
program-small program h =
    let text = length-text program.code in
    let code = h.code in
    subst (λ (space : Space). mapped_size space ≤ mapping_limit) (sym (first_space-mappings program))
    (IsSpace-first (text_of program) program.bytes (omega arith) h.bytes).limit

-- ---- where mmap(2) maps

gap-above : (size : ℕ) (space : Space) (at places found : ℕ) → gap_from size space at places ≡ Some found → at ≤ found
unfolding gap_from
gap-above size space at zero found is = absurd (none-some found is)
gap-above size space at (suc places) found is =
    elim (is_gap size space at) as
    (λ b. cond b (Some at) (gap_from size space (at + page_size) places) ≡ Some found → at ≤ found) [
      | true ↦ λ here. let same = same_Some at found here in omega arith
      | false ↦ λ there. let above = gap-above size space (at + page_size) places found there in omega arith
    ] is

pub gap-outside : (size : ℕ) (space : Space) (at : ℕ) → gap_in size space ≡ Some at
    → is_outside_heap_place at size ≡ true
unfolding gap_in
gap-outside size space at is =
    let above = gap-above size space gap_base _ at is in
    or_right (leb (at + size) heap_base) (leb break_limit at) (le-leb break_limit at (omega arith))
