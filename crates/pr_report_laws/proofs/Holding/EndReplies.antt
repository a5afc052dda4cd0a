use Rattle.std.proofs.Common.{◌≡◌, ◌⊎◌, ◌==◌, ◌||◌, ℕ, cond, nat_lt, Option, Some, None, refl, ap, ◌∙◌, inl, inr}
use Rattle.pr_model.specs.Calls.{Answer, answer_to}
use Rattle.pr_model.specs.Handles.{handle_of}
use Rattle.pr_model.specs.Reads.{file_read, file_reply, of_process}
use Rattle.pr_model.specs.State.{TracedProcess, TracedState, live_process}
use Rattle.pr_model.specs.declared.calls.Call.TheVariants as call
use Rattle.pr_model.specs.declared.calls.File.TheVariants as file
use Rattle.pr_model.specs.declared.calls.Reply.{Reply}
use Rattle.pr_model.specs.declared.calls.Reply.TheVariants as reply
use Rattle.pr_model.specs.declared.handles.Held.{Held}
use Rattle.pr_num.specs.Limits.{read_limit}
use Rattle.pr_num.specs.declared.errnos.Errno.{Errno}
use Rattle.pr_num.specs.declared.errnos.Errno.TheVariants.{Inval, Intr, Noent}
use Rattle.pr_truss.specs.Replies.{answer_of, refusal_of}
use Rattle.pr_truss.specs.declared.replies.Answer.TheVariants.{Gone}
use Rattle.pr_report_laws.proofs.Machine.GoneLaws.{GivesBytes}
use Rattle.pr_report_laws.proofs.Machine.RecordLaws.{held-is, lives-by, read-is}

-- Which reply says that a process has ended.

errno-gone : (e : Errno) → refusal_of e ≡ Gone → e ≡ Noent
errno-gone Noent is = refl
errno-gone Intr is = cc
errno-gone _ is = cc

pub reply-gone : (r : Reply) → answer_of r ≡ Gone → r ≡ reply.Fail Noent
unfolding answer_of
reply-gone (reply.Fail errno) is = ap reply.Fail (errno-gone errno is)
reply-gone _ is = cc

-- The statuses of its lwps are read, or truss is told that the process has ended.
module _ (s : TracedState) (k m : ℕ) (h : Held) (held : handle_of s.opens k m ≡ Some h) (same : h.file ≡ file.Lstatus)
    (a : Answer) (is : answer_to s k (call.Read m 0 read_limit) ≡ Some a) where
  lwps-reply : a.reply ≡ cond ((read_limit == 0) || nat_lt read_limit read_limit) (reply.Fail Inval)
      (of_process s.system h.pid h.lwp 0 read_limit file.Lstatus (live_process s.system h.pid))
  unfolding file_read
  lwps-reply =
      ap (λ (x : Answer). x.reply) (read-is s k m 0 read_limit a is)
      ∙ held-is s k m 0 read_limit h file.Lstatus held same refl
      ∙ ap (λ o. cond ((read_limit == 0) || nat_lt read_limit read_limit) (reply.Fail Inval)
      (of_process s.system h.pid h.lwp 0 read_limit file.Lstatus o)) (lives-by s.system h.pid file.Lstatus refl)

  pub lwps-told : (a.reply ≡ reply.Fail Noent) ⊎ GivesBytes a.reply
  unfolding file_reply
  lwps-told = by (live_process s.system h.pid) lwps-reply
    where
      by : (o : Option TracedProcess) → a.reply ≡ of_process s.system h.pid h.lwp 0 read_limit file.Lstatus o
          → (a.reply ≡ reply.Fail Noent) ⊎ GivesBytes a.reply
      by None told = inl told
      by (Some p) told = inr (record { bytes = _; is = told })
