use Rattle.std.proofs.Common.{◌≡◌, ◌⊎◌, ℕ, Bool, true, Option, Some, None, List, Result, Ok, Err, IfOk, IfSome, option_map, refl, ap, ◌∙◌, subst, inl, inr}
use Rattle.std.proofs.lemmas.Option.{same_Some}
use Rattle.pr_model.specs.Calls.{Answer, answer_to, is_interrupted, waited}
use Rattle.pr_model.specs.ControlMessages.{control_answer, control_handle, decoded_answer, decoded_wait, held_answer, held_wait, target_of, targeted_answer, targeted_wait, wait_reply}
use Rattle.pr_model.specs.Handles.{handle_of}
use Rattle.pr_model.specs.Passive.{is_passive_call, is_passive_message, is_passive_write}
use Rattle.pr_model.specs.State.{Places, TracedProcess, TracedState, TracedSystem}
use Rattle.pr_model.specs.declared.calls.Call.{Call}
use Rattle.pr_model.specs.declared.calls.Call.TheVariants as call
use Rattle.pr_model.specs.declared.calls.Reply.{Reply}
use Rattle.pr_model.specs.declared.calls.Reply.TheVariants as reply
use Rattle.pr_model.specs.declared.handles.Held.{Held}
use Rattle.pr_num.specs.Messages.{first_message}
use Rattle.pr_num.specs.declared.errnos.Errno.{Errno}
use Rattle.pr_num.specs.declared.errnos.Errno.TheVariants.{Badf, Intr, Inval, Noent}
use Rattle.pr_num.specs.declared.messages.Message.{Message}
use Rattle.pr_num.specs.declared.messages.MsgFault.{MsgFault}
use Rattle.pr_tool_laws.specs.PassiveCalls.{BeginsPassively, IsPassiveCall}

-- A call that sends a passive message, or none, is passive with the reply that the machine gives: bytes that begin with
-- no message are refused.

abbrev Read : Type 0
Read = Result (Message × ℕ) MsgFault

write-passive : (bytes : List ℕ) (m : Message) (len : ℕ) → first_message bytes ≡ Ok (m, len)
    → is_passive_message m ≡ true → is_passive_write (first_message bytes) ≡ true
write-passive bytes m len read passive = ap is_passive_write read ∙ passive

-- what holds of the reply in an answer that is given
answered : (P : Reply → Type 0) (a b : Answer) → Some a ≡ Some b → P a.reply → P b.reply
answered P a b is h = subst (λ (x : Answer). P x.reply) (same_Some a b is) h

-- ---- a write of messages

module _ (handle : ℕ) (bytes : List ℕ) where
  -- bytes begin with a message, or the reply refuses them
  abbrev pub IsReadUnless : Reply → Type 0
  IsReadUnless r = ((e : Errno) × (r ≡ reply.Fail e)) ⊎ ((first : Message × ℕ) × (first_message bytes ≡ Ok first))

  decoded-read : (s : TracedSystem) (h : Held) (p : TracedProcess) (q : Read) → first_message bytes ≡ q
      → IsReadUnless (decoded_answer s h p bytes q).reply
  decoded-read s h p (Err fault) read = inl (Inval, refl)
  decoded-read s h p (Ok first) read = inr (first, read)

  targeted-read : (s : TracedSystem) (h : Held) (o : Option TracedProcess)
      → IsReadUnless (targeted_answer s h o bytes).reply
  targeted-read s h None = inl (Noent, refl)
  targeted-read s h (Some p) = decoded-read s h p (first_message bytes) refl

  held-read : (s : TracedSystem) (o : Option Held) → IsReadUnless (held_answer s o bytes).reply
  held-read s None = inl (Badf, refl)
  held-read s (Some h) = targeted-read s h (target_of s h)

  control-read : (s : TracedSystem) (opens : Places) (by : ℕ)
      → IsReadUnless (control_answer s opens by handle bytes).reply
  unfolding control_answer
  control-read s opens by = held-read s (control_handle (handle_of opens by handle))

  pub write-reads : (s : TracedState) (by : ℕ) (a : Answer) → answer_to s by (call.Ctl handle bytes) ≡ Some a
      → IsReadUnless a.reply
  unfolding answer_to
  write-reads s by a is = answered IsReadUnless _ a is (control-read s.system s.opens by)

  abbrev IsPassiveReply : Reply → Type 0
  IsPassiveReply r = is_passive_call (call.Ctl handle bytes) r ≡ true

  any-reply : is_passive_write (first_message bytes) ≡ true → (r : Reply) → IsPassiveReply r
  any-reply passive (reply.Fail e) = refl
  any-reply passive _ = passive

  control-passive : (r : Reply) → IsReadUnless r → BeginsPassively bytes → IsPassiveReply r
  control-passive r (inl refused) passive = ap (is_passive_call (call.Ctl handle bytes)) refused.1
  control-passive r (inr first) passive =
      any-reply
      (write-passive bytes first.0.0 first.0.1 first.1
      (subst (λ (q : Read). IfOk q (λ f. is_passive_message f.0 ≡ true)) first.1 passive)) r

-- ---- a wait

module _ (handle until : ℕ) (bytes : List ℕ) where
  abbrev IsPassiveWait : Option Reply → Type 0
  IsPassiveWait o = IfSome o (λ r. is_passive_call (call.CtlWait handle until bytes) r ≡ true)

  any-wait : is_passive_write (first_message bytes) ≡ true → (o : Option Reply) → IsPassiveWait o
  any-wait passive None = tt
  any-wait passive (Some (reply.Fail e)) = refl
  any-wait passive (Some _) = passive

  decoded_wait-passive : (s : TracedSystem) (h : Held) (p : TracedProcess) (interrupted : Bool) (q : Read)
      → first_message bytes ≡ q → IfOk q (λ first. is_passive_message first.0 ≡ true)
      → IsPassiveWait (decoded_wait s h p until interrupted q)
  decoded_wait-passive s h p interrupted (Err fault) read passive = refl
  decoded_wait-passive s h p interrupted (Ok (m, len)) read passive =
      any-wait (write-passive bytes m len read passive) (decoded_wait s h p until interrupted (Ok (m, len)))

  targeted_wait-passive : (s : TracedSystem) (h : Held) (o : Option TracedProcess) (interrupted : Bool)
      → BeginsPassively bytes → IsPassiveWait (targeted_wait s h o until interrupted bytes)
  targeted_wait-passive s h None interrupted passive = refl
  targeted_wait-passive s h (Some p) interrupted passive =
      decoded_wait-passive s h p interrupted (first_message bytes) refl passive

  held_wait-passive : (s : TracedSystem) (o : Option Held) (interrupted : Bool) → BeginsPassively bytes
      → IsPassiveWait (held_wait s o until interrupted bytes)
  held_wait-passive s None interrupted passive = refl
  held_wait-passive s (Some h) interrupted passive = targeted_wait-passive s h (target_of s h) interrupted passive

  wait-passive : (s : TracedSystem) (opens : Places) (by : ℕ) (interrupted : Bool) → BeginsPassively bytes
      → IsPassiveWait (wait_reply s opens by handle until interrupted bytes)
  unfolding wait_reply
  wait-passive s opens by interrupted passive =
      held_wait-passive s (control_handle (handle_of opens by handle)) interrupted passive

-- the reply stays, also where an interrupt was seen
waited-reply : (s : TracedState) (by : ℕ) (r : Reply) → (waited s by r).reply ≡ r
waited-reply s by (reply.Fail e) = refused-reply e
  where
    refused-reply : (e : Errno) → (waited s by (reply.Fail e)).reply ≡ reply.Fail e
    refused-reply Intr = refl
    refused-reply _ = refl
waited-reply s by _ = refl

-- ---- any call

abbrev pub BearsNoMessage : Call → Type 0
BearsNoMessage (call.Ctl handle bytes) = ⊥
BearsNoMessage (call.CtlWait handle until bytes) = ⊥
BearsNoMessage _ = Unit {0}

pub calm : (c : Call) (r : Reply) → BearsNoMessage c → is_passive_call c r ≡ true
calm (call.Ctl handle bytes) r none = absurd none
calm (call.CtlWait handle until bytes) r none = absurd none
calm c (reply.Fail e) none = refl
calm c _ none = refl

pub reply-passive : (s : TracedState) (by : ℕ) (c : Call) (a : Answer) → answer_to s by c ≡ Some a → IsPassiveCall c
    → is_passive_call c a.reply ≡ true
unfolding answer_to IsPassiveCall
reply-passive s by (call.Ctl handle bytes) a is passive =
    control-passive handle bytes a.reply (write-reads handle bytes s by a is) passive
reply-passive s by (call.CtlWait handle until bytes) a is passive =
    of (wait_reply s.system s.opens by handle until (is_interrupted s by) bytes) is
    (wait-passive handle until bytes s.system s.opens by (is_interrupted s by) passive)
  where
    of : (o : Option Reply) → option_map (waited s by) o ≡ Some a
        → IfSome o (λ r. is_passive_call (call.CtlWait handle until bytes) r ≡ true)
        → is_passive_call (call.CtlWait handle until bytes) a.reply ≡ true
    of None is passive = absurd (cc)
    of (Some r) is passive =
        answered (λ r. is_passive_call (call.CtlWait handle until bytes) r ≡ true) (waited s by r) a is
        (rw (waited-reply s by r) passive)
reply-passive s by c a is passive = calm c a.reply tt
