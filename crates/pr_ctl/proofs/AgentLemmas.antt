use Rattle.std.proofs.Common.{◌≡◌, ◌||◌, ℕ, Bool, true, false, cond, not, Option, Some, None, List, length, refl, sym, ap}
use Rattle.std.specs.List.{list_all}
use Rattle.std.specs.Prelude.{nat_le}
use Rattle.std.proofs.lemmas.Option.{same_Some}
use Rattle.pr_num.specs.Limits.{lwp_limit}
use Rattle.pr_num.specs.declared.errnos.Errno.{Errno}
use Rattle.pr_num.specs.declared.errnos.Errno.TheVariants.{Busy, Nomem}
use Rattle.pr_num.specs.declared.messages.Message.TheVariants.{Agent}
use Rattle.pr_model.specs.Messages.{Controlled, agent_answer, lets_agent, message_answer, refused, with_agent}
use Rattle.pr_model.specs.Readers.{has_lent}
use Rattle.pr_model.specs.State.{TracedProcess, TracedSystem, has_agent, with_process}
use Rattle.pr_model.specs.declared.calls.Reply.TheVariants.{Fail, Used}
use Rattle.pr_ctl.specs.Agents.{agent_refusal}
use Rattle.pr_ctl.specs.Aims.{aim_at}

-- PCAGENT, by what refuses it.

-- why none is made: the memory is lent, an lwp is in the way, or the process is full
abbrev refusal : Bool → Bool → Bool → Option Errno
refusal lent busy full = cond lent (Some Busy) (cond busy (Some Busy) (cond full (Some Nomem) None))

abbrev answer : TracedSystem → Controlled → Bool → Bool → Bool → Controlled
answer s made lent busy full =
    cond lent (refused s Busy) (cond busy (refused s Busy) (cond full (refused s Nomem) made))

refused_with : (a b c : Bool) (made : Controlled) (s : TracedSystem) (e : Errno) → refusal a b c ≡ Some e
    → refused s e ≡ answer s made a b c
refused_with true b c made s e h = ap (refused s) (sym (same_Some Busy e h))
refused_with false true c made s e h = ap (refused s) (sym (same_Some Busy e h))
refused_with false false true made s e h = ap (refused s) (sym (same_Some Nomem e h))
refused_with false false false made s e h = absurd (cc)

granted : (a b c : Bool) (made : Controlled) (s : TracedSystem) → refusal a b c ≡ None
    → made ≡ answer s made a b c
granted true b c made s h = absurd (cc)
granted false true c made s h = absurd (cc)
granted false false true made s h = absurd (cc)
granted false false false made s h = refl

left : (l a b c : Bool) → refusal l (a || b) c ≡ None → a ≡ false
left true a b c h = absurd (cc)
left false true b c h = absurd (cc)
left false false b c h = refl

module _ (s : TracedSystem) (pid : ℕ) (p : TracedProcess) (lwp : Option ℕ) (regs : List ℕ) (tail : List ℕ)
    (len : ℕ) where
  unstopped : Bool
  unstopped = has_agent p || not (list_all (lets_agent p.job_stop) p.lwps)

  full : Bool
  full = nat_le lwp_limit (length p.lwps)

  pub agent-refused : (e : Errno) → agent_refusal p ≡ Some e
      → (let c : Controlled = record { system = s; reply = Fail e } in c)
      ≡ message_answer s pid p (aim_at lwp) (Agent regs) tail len
  unfolding agent_refusal message_answer agent_answer unstopped full
  agent-refused e h = refused_with (has_lent p) unstopped full _ s e h

  pub agent-made : agent_refusal p ≡ None
      → (let c : Controlled = record { system = with_process pid (with_agent regs) s; reply = Used len } in c)
      ≡ message_answer s pid p (aim_at lwp) (Agent regs) tail len
  unfolding agent_refusal message_answer agent_answer unstopped full
  agent-made h = granted (has_lent p) unstopped full _ s h

pub agent-none : (p : TracedProcess) → agent_refusal p ≡ None → has_agent p ≡ false
unfolding agent_refusal
agent-none p h =
    left (has_lent p) (has_agent p) (not (list_all (lets_agent p.job_stop) p.lwps)) (nat_le lwp_limit (length p.lwps)) h

pub ruleset agent_laws = (agent-refused, agent-made, agent-none)
