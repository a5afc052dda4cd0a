use Rattle.std.proofs.Common.{◌≡◌, ◌+◌, ℕ, leb, Option, Some, None, Result, Ok, Err, List, [], ◌∷◌, refl, ◌∙◌, ap}
use Rattle.std.specs.Option.{option_map}
use Rattle.std.specs.List.{slice_index}
use Rattle.pr_num.specs.ById.{map_each}
use Rattle.pr_num.specs.Infos.{killed_by, queued_by}
use Rattle.pr_num.specs.Spaces.{mapped_size, first_space}
use Rattle.pr_model.specs.SignalCalls.{send_effect}
use Rattle.pr_parts.specs.AddressSpaces.{with_break, with_mapping, zeros_at, gap_in}
use Rattle.pr_num.specs.Programs.{Program, rounded}
use Rattle.pr_num.specs.declared.errnos.Errno.{Errno}
use Rattle.pr_num.specs.declared.mappings.MappingKind.TheVariants.{Mapped}
use Rattle.pr_num.specs.Limits.{all_mappings_limit}
use Rattle.pr_num.specs.declared.syscalls.Sysno.{Sysno}
use Rattle.pr_num.specs.declared.syscalls.Sysno.TheVariants as sys
use Rattle.pr_num.proofs.ByIdLaws.{length-map_each}
use Rattle.pr_model.specs.CallEffects.{call_effect}
use Rattle.pr_model.specs.Erasure.{erased_lwp, erased_process, erased_system}
use Rattle.pr_model.specs.LwpCalls.{lwp_create_effect, lwp_suspend_effect, lwp_continue_effect}
use Rattle.pr_model.specs.MemoryCalls.{path_at, brk_effect, mmap_effect, munmap_effect, mprotect_effect}
use Rattle.pr_model.specs.ProcessCalls.{program_named, fork_effect, vfork_effect, given_up, exec_effect, wait_effect}
use Rattle.pr_model.specs.Readers.{children_among, children_of, life_of, size_of, sizes_of, total_size, total_has_room}
use Rattle.pr_model.specs.State.{TracedLwp, TracedProcess, TracedSystem, process_of}
use Rattle.pr_erasure.proofs.SeenParts.LifeLemmas.{stands-erased}
use Rattle.pr_erasure.proofs.SeenParts.StateLemmas.{process-erased}

-- What a system call does is decided by what programs see alone.

-- ---- what calls read of the rest of the system

children_among-erased : (pid : ℕ) (ps : List (ℕ × TracedProcess))
    → children_among pid (map_each erased_process ps) ≡ children_among pid ps
unfolding erased_process
children_among-erased pid [] = refl
children_among-erased pid (e ∷ es) = rw (children_among-erased pid es) refl

children-erased : (s : TracedSystem) (pid : ℕ) → children_of (erased_system s) pid ≡ children_of s pid
unfolding erased_system children_of
children-erased s pid = children_among-erased pid s.processes

sizes-erased : (ps : List (ℕ × TracedProcess)) → sizes_of (map_each erased_process ps) ≡ sizes_of ps
unfolding erased_process size_of
sizes-erased [] = refl
sizes-erased (e ∷ es) = ap (λ n. size_of e.1 + n) (sizes-erased es)

total_size-erased : (s : TracedSystem) → total_size (erased_system s) ≡ total_size s
unfolding erased_system total_size
total_size-erased s = sizes-erased s.processes

pub made-erased : (s : TracedSystem) → (erased_system s).made ≡ s.made
unfolding erased_system
made-erased s = refl

pub programs-erased : (s : TracedSystem) → (erased_system s).programs ≡ s.programs
unfolding erased_system
programs-erased s = refl

pub room-erased : (s : TracedSystem) (more less : ℕ)
    → total_has_room (erased_system s) more less ≡ total_has_room s more less
unfolding total_has_room
room-erased s more less = ap (λ n. leb (n + more) (all_mappings_limit + less)) (total_size-erased s)

pub life-erased : (s : TracedSystem) (pid : ℕ) → life_of (erased_system s) pid ≡ life_of s pid
unfolding life_of erased_process
life-erased s pid = found (process_of s pid) refl
  where
    ended : (p : TracedProcess) (e : Option ℕ) → p.ended ≡ e → process_of s pid ≡ Some p
        → life_of (erased_system s) pid ≡ life_of s pid
    ended p None ends is = rw (process-erased s pid ∙ ap (option_map erased_process) is, is, ends) refl
    ended p (Some status) ends is = rw (process-erased s pid ∙ ap (option_map erased_process) is, is, ends) refl

    found : (o : Option TracedProcess) → process_of s pid ≡ o → life_of (erased_system s) pid ≡ life_of s pid
    found None is = rw (process-erased s pid ∙ ap (option_map erased_process) is, is) refl
    found (Some p) is = ended p p.ended refl is

fork-erased : (s : TracedSystem) (p : TracedProcess) (id : ℕ) (args : List ℕ)
    → fork_effect (erased_system s) (erased_process p) id args ≡ fork_effect s p id args
unfolding fork_effect erased_process size_of
fork-erased s p id args = rw (room-erased s (mapped_size p.space) 0, made-erased s) refl

vfork-erased : (s : TracedSystem) (p : TracedProcess) (id : ℕ) (args : List ℕ)
    → vfork_effect (erased_system s) (erased_process p) id args ≡ vfork_effect s p id args
unfolding vfork_effect erased_process
vfork-erased s p id args = rw (length-map_each erased_lwp p.lwps, made-erased s) refl

exec-erased : (s : TracedSystem) (p : TracedProcess) (id at : ℕ)
    → exec_effect (erased_system s) (erased_process p) id at ≡ exec_effect s p id at
unfolding exec_effect given_up erased_process size_of
exec-erased s p id at = path (path_at p.space at) refl
  where
    named : (name : List ℕ) (o : Option Program) → path_at p.space at ≡ Ok name → program_named s.programs name ≡ o
        → exec_effect (erased_system s) (erased_process p) id at ≡ exec_effect s p id at
    named name None is found = rw (is, ap (λ ps. program_named ps name) (programs-erased s) ∙ found, found) refl
    named name (Some program) is found =
        rw (
          is,
          ap (λ ps. program_named ps name) (programs-erased s)
              ∙ found,
          found,
          room-erased s (mapped_size (first_space program)) (given_up s p id),
        ) refl

    path : (r : Result (List ℕ) Errno) → path_at p.space at ≡ r
        → exec_effect (erased_system s) (erased_process p) id at ≡ exec_effect s p id at
    path (Err e) is = rw is refl
    path (Ok name) is = named name (program_named s.programs name) is refl

brk-erased : (s : TracedSystem) (p : TracedProcess) (end : ℕ)
    → brk_effect (erased_system s) (erased_process p) end ≡ brk_effect s p end
unfolding brk_effect erased_process size_of
brk-erased s p end = rw (room-erased s (mapped_size (with_break end p.space)) (mapped_size p.space)) refl

mmap-erased : (s : TracedSystem) (p : TracedProcess) (len prot : ℕ)
    → mmap_effect (erased_system s) (erased_process p) len prot ≡ mmap_effect s p len prot
unfolding mmap_effect erased_process size_of
mmap-erased s p len prot = gap (gap_in (rounded len) p.space) refl
  where
    gap : (o : Option ℕ) → gap_in (rounded len) p.space ≡ o
        → mmap_effect (erased_system s) (erased_process p) len prot ≡ mmap_effect s p len prot
    gap None is = rw is refl
    gap (Some at) is =
        rw (
          is,
          room-erased s (mapped_size (with_mapping (zeros_at at (rounded len) prot Mapped) p.space))
              (mapped_size p.space),
        ) refl

create-erased : (p : TracedProcess) (id held pc sp r1 : ℕ)
    → lwp_create_effect (erased_process p) id held pc sp r1 ≡ lwp_create_effect p id held pc sp r1
unfolding lwp_create_effect erased_process
create-erased p id held pc sp r1 = rw (length-map_each erased_lwp p.lwps) refl

suspend-erased : (p : TracedProcess) (id other : ℕ)
    → lwp_suspend_effect (erased_process p) id other ≡ lwp_suspend_effect p id other
unfolding lwp_suspend_effect
suspend-erased p id other = rw (stands-erased p other) refl

continue-erased : (p : TracedProcess) (other : ℕ)
    → lwp_continue_effect (erased_process p) other ≡ lwp_continue_effect p other
unfolding lwp_continue_effect
continue-erased p other = rw (stands-erased p other) refl

-- ---- the calls

pub decided : (s : TracedSystem) (pid : ℕ) (p : TracedProcess) (id : ℕ) (l : TracedLwp) (since : ℕ) (call : Sysno)
    (args : List ℕ)
    → call_effect (erased_system s) pid (erased_process p) id
    (erased_lwp l) since call args ≡ call_effect s pid p id l since call args
unfolding call_effect erased_system erased_process erased_lwp munmap_effect mprotect_effect
decided s pid p id l since sys.Exit args = refl
decided s pid p id l since sys.Fork args = fork-erased s p id args
decided s pid p id l since sys.Vfork args = vfork-erased s p id args
decided s pid p id l since sys.Read args = refl
decided s pid p id l since sys.Write args = refl
decided s pid p id l since sys.Open args = refl
decided s pid p id l since sys.Close args = refl
decided s pid p id l since sys.Wait args = ap (λ c. wait_effect p.space c (slice_index args 0)) (children-erased s pid)
decided s pid p id l since sys.Getpid args = refl
decided s pid p id l since sys.Getppid args = refl
decided s pid p id l since sys.Exec args = exec-erased s p id (slice_index args 0)
decided s pid p id l since sys.Pipe args = refl
decided s pid p id l since sys.Dup args = refl
decided s pid p id l since sys.Lseek args = refl
decided s pid p id l since sys.Kill args =
    ap (send_effect pid (slice_index args 0) (slice_index args 1) (killed_by pid)) (life-erased s (slice_index args 0))
decided s pid p id l since sys.Sigaction args = refl
decided s pid p id l since sys.Sigmask args = refl
decided s pid p id l since sys.Pause args = refl
decided s pid p id l since sys.Sigreturn args = refl
decided s pid p id l since sys.Brk args = brk-erased s p (slice_index args 0)
decided s pid p id l since sys.Mmap args = mmap-erased s p (slice_index args 0) (slice_index args 1)
decided s pid p id l since sys.Munmap args = refl
decided s pid p id l since sys.Mprotect args = refl
decided s pid p id l since sys.Time args = refl
decided s pid p id l since sys.Sleep args = refl
decided s pid p id l since sys.LwpCreate args =
    create-erased p id l.held (slice_index args 0) (slice_index args 1) (slice_index args 2)
decided s pid p id l since sys.LwpExit args = refl
decided s pid p id l since sys.LwpSuspend args = suspend-erased p id (slice_index args 0)
decided s pid p id l since sys.LwpContinue args = continue-erased p (slice_index args 0)
decided s pid p id l since sys.Fstat args = refl
decided s pid p id l since sys.Sigqueue args =
    ap (send_effect pid (slice_index args 0) (slice_index args 1) (queued_by pid (slice_index args 2)))
    (life-erased s (slice_index args 0))
