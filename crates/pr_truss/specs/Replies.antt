-- What a reply of the kernel says to truss(1).
use Rattle.std.specs.Prelude.{ℕ, Option, Some, None}
use Rattle.pr_model.specs.declared.calls.Reply.{Reply}
use Rattle.pr_model.specs.declared.calls.Reply.TheVariants as reply
use Rattle.pr_num.specs.declared.errnos.Errno.{Errno}
use Rattle.pr_num.specs.declared.errnos.Errno.TheVariants.{Intr, Noent}
use Rattle.pr_truss.specs.declared.replies.Answer.{Answer}
use Rattle.pr_truss.specs.declared.replies.Answer.TheVariants.{Accepted, Interrupted, Gone, Refused}

-- An interrupt makes truss leave its processes. A process that has ended is no longer traced. Any other refusal has its
-- errno.
abbrev pub refusal_of : Errno → Answer
refusal_of Intr = Interrupted
refusal_of Noent = Gone
refusal_of errno = Refused errno

unfoldable pub answer_of : Reply → Answer
answer_of (reply.Fail errno) = refusal_of errno
answer_of _ = Accepted

-- the handle that a poll named
unfoldable pub ready_in : Reply → Option ℕ
ready_in (reply.Ready handle) = Some handle
ready_in _ = None
