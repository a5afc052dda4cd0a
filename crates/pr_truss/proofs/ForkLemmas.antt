use Rattle.std.proofs.Common.{◌≡◌, ◌==◌, ◌<◌, ◌≤◌, ◌^◌, ◌||◌, ℕ, true, false, is_some, refl, ap, ◌∙◌, arith}
use Rattle.std.proofs.Math.Bool.{or_assoc}
use Rattle.std.proofs.lemmas.Bool.{or_right}
use Rattle.pr_num.proofs.BoolLemmas.{or_false}
use Rattle.pr_num.proofs.EntryLemmas.{syscall_numbers-range, syscall_of_number-number}
use Rattle.pr_num.proofs.SetLemmas.{has_number-with, with_number-lt}
use Rattle.pr_num.specs.Limits.{syscall_count}
use Rattle.pr_num.specs.Sets.{has_number, with_number}
use Rattle.pr_num.specs.Syscalls.{is_fork_call, syscall_number}
use Rattle.pr_num.specs.declared.syscalls.Sysno.{Sysno}
use Rattle.pr_num.specs.declared.syscalls.Sysno.TheVariants.{Fork, Vfork}
use Rattle.pr_truss.specs.Messages.{with_forks}

-- A set of calls with those that make a child.

pub call_number-range : (c : Sysno) → (1 ≤ syscall_number c) × (syscall_number c ≤ syscall_count)
call_number-range c = (syscall_numbers-range (syscall_number c)).0 (ap is_some (syscall_of_number-number c))

-- the numbers that are added are those of the calls that make a child
forks-numbered : (c : Sysno)
    → ((syscall_number c == syscall_number Fork) || (syscall_number c == syscall_number Vfork)) ≡ is_fork_call c
unfolding is_fork_call syscall_number
forks-numbered Fork = refl
forks-numbered Vfork = refl
forks-numbered _ = refl

with_forks-is : (calls : ℕ) (c : Sysno)
    → has_number (with_forks calls) (syscall_number c) ≡ (has_number calls (syscall_number c) || is_fork_call c)
unfolding with_forks
with_forks-is calls c =
    let n : ℕ = syscall_number c in
    has_number-with (with_number calls (syscall_number Fork)) (syscall_number Vfork) n (call_number-range Vfork).0
    (call_number-range c).0
    ∙ ap (λ b. b || (n == syscall_number Vfork))
    (has_number-with calls (syscall_number Fork) n (call_number-range Fork).0
    (call_number-range c).0)
    ∙ or_assoc (has_number calls n) (n == syscall_number Fork) (n == syscall_number Vfork)
    ∙ ap (λ b. has_number calls n || b) (forks-numbered c)

-- It has each of them.
pub with_forks-has : (calls : ℕ) (c : Sysno) → is_fork_call c ≡ true
    → has_number (with_forks calls) (syscall_number c) ≡ true
with_forks-has calls c fork =
    with_forks-is calls c ∙ or_right (has_number calls (syscall_number c)) (is_fork_call c) fork

-- The others are in it as they were.
pub with_forks-others : (calls : ℕ) (c : Sysno) → is_fork_call c ≡ false
    → has_number (with_forks calls) (syscall_number c) ≡ has_number calls (syscall_number c)
with_forks-others calls c other =
    with_forks-is calls c ∙ ap (λ b. has_number calls (syscall_number c) || b) other
    ∙ or_false (has_number calls (syscall_number c))

-- It stays a word.
pub with_forks-word : (calls : ℕ) → calls < 2 ^ 64 → with_forks calls < 2 ^ 64
unfolding with_forks syscall_number
with_forks-word calls small =
    with_number-lt 64 (with_number calls (syscall_number Fork)) (syscall_number Vfork)
    (with_number-lt 64 calls (syscall_number Fork) small (omega arith) (omega arith)) (omega arith) (omega arith)
