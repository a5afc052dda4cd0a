use Rattle.std.proofs.Common.{◌≡◌, ◌||◌, ◌==◌, nat_lt, ℕ, cond, None, Some, sym, ap, ◌∙◌}
use Rattle.pr_keeps.proofs.LoanLemmas.{own-space}
use Rattle.pr_model.specs.Reads.{file_read, file_reply, mapped_from, of_process, read_process, unless_none}
use Rattle.pr_model.specs.State.{TracedProcess, TracedSystem, live_process}
use Rattle.pr_model.specs.declared.calls.File.TheVariants.{Mem}
use Rattle.pr_model.specs.declared.calls.Reply.{Reply}
use Rattle.pr_model.specs.declared.calls.Reply.TheVariants.{Fail}
use Rattle.pr_num.specs.Limits.{read_limit}
use Rattle.pr_num.specs.Spaces.{Space}
use Rattle.pr_num.specs.declared.errnos.Errno.TheVariants.{Inval}

-- What is read of the memory file of a process that has its own memory.

memory-is : (s : TracedSystem) (pid from len : ℕ) (p : TracedProcess) → live_process s pid ≡ Some p
    → p.borrower ≡ None
    → of_process s pid 0 from len Mem (read_process s pid Mem) ≡ unless_none (mapped_from p.space from len)
unfolding read_process file_reply
memory-is s pid from len p live own =
    ap (of_process s pid 0 from len Mem) live
    ∙ ap (λ (space : Space). unless_none (mapped_from space from len)) (own-space s p own)

-- it is the same where the memory is
pub same-bytes : (s u : TracedSystem) (pid from len : ℕ) (p q : TracedProcess) → live_process s pid ≡ Some p
    → live_process u pid ≡ Some q → p.borrower ≡ None → q.borrower ≡ None → q.space ≡ p.space
    → file_read u pid 0 from len Mem ≡ file_read s pid 0 from len Mem
unfolding file_read
same-bytes s u pid from len p q live there own later_own same =
    ap (λ (r : Reply). cond ((len == 0) || nat_lt read_limit len) (Fail Inval) r)
    (memory-is u pid from len q there later_own
    ∙ ap (λ (space : Space). unless_none (mapped_from space from len)) same
    ∙ sym (memory-is s pid from len p live own))
