use Rattle.std.proofs.Common.{◌≡◌, ◌≢◌, None, refl, sym, ap, subst, ◌∙◌}
use Rattle.pr_model.specs.declared.calls.Reply.{Reply}
use Rattle.pr_model.specs.declared.calls.Reply.TheVariants as reply
use Rattle.pr_num.specs.declared.errnos.Errno.{Errno}
use Rattle.pr_num.specs.declared.errnos.Errno.TheVariants.{Intr, Noent}
use Rattle.pr_truss.specs.Replies.{answer_of, refusal_of}
use Rattle.pr_truss.specs.declared.replies.Answer.{Answer}
use Rattle.pr_truss.specs.declared.replies.Answer.TheVariants.{Accepted, Interrupted, Gone, Refused}
use Rattle.pr_truss_laws.specs.Exchanges.{errno_in}

-- What a reply is that truss takes so.

unfoldable pub IsAnswer : Reply → Answer → Type 0
IsAnswer r Accepted = errno_in r ≡ None
IsAnswer r Interrupted = r ≡ reply.Fail Intr
IsAnswer r Gone = r ≡ reply.Fail Noent
IsAnswer r (Refused errno) = r ≡ reply.Fail errno

refusal-is : (errno : Errno) → IsAnswer (reply.Fail errno) (refusal_of errno)
unfolding IsAnswer
refusal-is Intr = refl
refusal-is _ = refl

pub answer-is : (r : Reply) → IsAnswer r (answer_of r)
unfolding IsAnswer answer_of
answer-is (reply.Fail errno) = refusal-is errno
answer-is _ = refl

-- ---- a refusal that is no interrupt

-- The reply refuses the call for this reason, which is no interrupt.
pub record Refuses (r : Reply) (errno : Errno) : Type 0 where
  pub is : r ≡ reply.Fail errno
  pub not_interrupted : errno ≢ Intr

pub gone-refuses : (r : Reply) → answer_of r ≡ Gone → Refuses r Noent
unfolding IsAnswer
gone-refuses r is =
    record { is = subst (IsAnswer r) is (answer-is r); not_interrupted = λ (same : Noent ≡ Intr). cc }

pub other-refuses : (r : Reply) (errno : Errno) → answer_of r ≡ Refused errno → Refuses r errno
unfolding IsAnswer answer_of
other-refuses r errno is =
    let it : r ≡ reply.Fail errno = subst (IsAnswer r) is (answer-is r) in
    record { is = it; not_interrupted = λ same. by (sym (ap answer_of (it ∙ ap reply.Fail same)) ∙ is) }
  where
    by : Interrupted ≡ Refused errno → ⊥
    by e = cc
