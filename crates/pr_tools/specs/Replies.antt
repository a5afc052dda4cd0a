-- What a tool takes of a reply. A reply that is none of the call's gives nothing.
use Rattle.std.specs.Prelude.{ℕ, Bool, true, false, List, [], Option, Some, None, unwrap_or, if◌then◌else◌}
use Rattle.pr_num.specs.declared.errnos.Errno.{Errno}
use Rattle.pr_num.specs.declared.errnos.Errno.TheVariants.{Io}
use Rattle.pr_model.specs.Replies.{bytes_in}
use Rattle.pr_model.specs.declared.calls.Reply.{Reply}
use Rattle.pr_model.specs.declared.calls.Reply.TheVariants as reply
use Rattle.pr_tools.specs.declared.steps.Step.{Step}
use Rattle.pr_tools.specs.declared.steps.Step.TheVariants.{ReadText, ReadFrame, Release, Close}

-- the bytes that were read
abbrev pub bytes_read : Reply → List ℕ
bytes_read r = unwrap_or (bytes_in r) []

-- a read where no memory is mapped (EIO)
unfoldable pub is_unmapped : Errno → Bool
is_unmapped Io = true
is_unmapped _ = false

-- Whether a refusal at a step is passed over: the first instruction or a frame that is not mapped, and what comes of
-- running the process again after a refusal, and of closing.
unfoldable pub is_passed_over : Step → Errno → Bool
is_passed_over ReadText e = is_unmapped e
is_passed_over ReadFrame e = is_unmapped e
is_passed_over Release e = true
is_passed_over Close e = true
is_passed_over _ e = false

-- the errno with which a reply refuses a step
unfoldable pub refusal_in : Step → Reply → Option Errno
refusal_in step (reply.Fail e) = if is_passed_over step e then None else Some e
refusal_in _ _ = None
