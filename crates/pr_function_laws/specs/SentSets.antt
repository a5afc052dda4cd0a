-- Which calls truss with calls of functions has traced, in words of its options.
use Rattle.std.specs.Prelude.{◌≡◌, ℕ, false}
use Rattle.pr_line.specs.declared.options.Options.{Options}
use Rattle.pr_num.specs.Sets.{common_word, minus_word, with_number}
use Rattle.pr_num.specs.Syscalls.{syscall_number}
use Rattle.pr_num.specs.declared.syscalls.Sysno.TheVariants.{Exec}
use Rattle.pr_report_laws.specs.Asked.{and_forks, calls_without_return}
use Rattle.pr_truss.specs.FunctionCalls.{with_copying}
use Rattle.pr_truss.specs.Messages.{traced_entries, traced_exits}

-- a set of calls with fork, vfork and exec
abbrev pub and_copying : ℕ → ℕ
and_copying calls = with_number (and_forks calls) (syscall_number Exec)

-- Of the calls that its options choose those that never return are traced at their entry, and the others at their exit;
-- and fork, vfork and exec besides at both.
pub record TracesItsWords (o : Options) : Type 0 where
  pub entries : with_copying (traced_entries o) ≡ and_copying (common_word o.calls calls_without_return)
  pub exits : o.follow ≡ false
      → with_copying (traced_exits o) ≡ and_copying (minus_word o.calls calls_without_return)
