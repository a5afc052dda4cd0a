use Rattle.std.proofs.Common.{◌≡◌, ◌||◌, ℕ, Bool, true, false, eqb, refl, ap, ◌∙◌, arith}
use Rattle.std.proofs.lemmas.Bool.{false≢true}
use Rattle.pr_line.specs.declared.options.Options.{Options}
use Rattle.pr_model.specs.Points.{is_traced}
use Rattle.pr_model.specs.State.{TracedControl}
use Rattle.pr_num.proofs.SetLemmas.{has_number-with}
use Rattle.pr_num.specs.Sets.{has_number, with_number}
use Rattle.pr_num.specs.Syscalls.{is_fork_call, syscall_number}
use Rattle.pr_num.specs.declared.syscalls.Sysno.{Sysno}
use Rattle.pr_num.specs.declared.syscalls.Sysno.TheVariants.{Exec, Fork, Vfork}
use Rattle.pr_truss.specs.FunctionCalls.{with_copying}
use Rattle.pr_truss.specs.FunctionEvents.{copies_memory}
use Rattle.pr_truss.specs.Messages.{traced_entries, with_forks}
use Rattle.pr_function_laws.specs.Opened.{TracesAll}
use Rattle.pr_function_hides.specs.Copying.{StopsAtCopies}

-- The lwps of a process that truss traces stop at the entry of each fork, vfork and exec.

or-right : (b : Bool) → (b || true) ≡ true
or-right true = refl
or-right false = refl

pub copying-has : (w : ℕ) (call : Sysno) → copies_memory call ≡ true
    → has_number (with_copying w) (syscall_number call) ≡ true
unfolding with_copying with_forks copies_memory is_fork_call syscall_number
copying-has w Fork is =
    has_number-with (with_number (with_number w (syscall_number Fork)) (syscall_number Vfork)) (syscall_number Exec)
    (syscall_number Fork) (omega arith) (omega arith)
    ∙ ap (λ b. b || eqb (syscall_number Fork) (syscall_number Exec))
    (has_number-with (with_number w (syscall_number Fork)) (syscall_number Vfork) (syscall_number Fork) (omega arith)
    (omega arith)
    ∙ ap (λ b. b || eqb (syscall_number Fork) (syscall_number Vfork))
    (has_number-with w (syscall_number Fork) (syscall_number Fork) (omega arith) (omega arith)
    ∙ or-right (has_number w (syscall_number Fork))))
copying-has w Vfork is =
    has_number-with (with_number (with_number w (syscall_number Fork)) (syscall_number Vfork)) (syscall_number Exec)
    (syscall_number Vfork) (omega arith) (omega arith)
    ∙ ap (λ b. b || eqb (syscall_number Vfork) (syscall_number Exec))
    (has_number-with (with_number w (syscall_number Fork)) (syscall_number Vfork) (syscall_number Vfork) (omega arith)
    (omega arith) ∙ or-right (has_number (with_number w (syscall_number Fork)) (syscall_number Vfork)))
copying-has w Exec is =
    has_number-with (with_number (with_number w (syscall_number Fork)) (syscall_number Vfork)) (syscall_number Exec)
    (syscall_number Exec) (omega arith) (omega arith)
    ∙ or-right (has_number (with_number (with_number w (syscall_number Fork)) (syscall_number Vfork))
    (syscall_number Exec))
copying-has w _ is = absurd (false≢true is)

pub traced-stops : (o : Options) (c : TracedControl) → TracesAll o c → StopsAtCopies c
unfolding is_traced
traced-stops o c all = record {
  traced = λ call copies.
      ap (λ w. has_number w (syscall_number call)) all.entries ∙ copying-has (traced_entries o) call copies;
}

pub ruleset copy_sets = (traced-stops)
