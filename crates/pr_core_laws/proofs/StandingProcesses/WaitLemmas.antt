use Rattle.std.proofs.Common.{◌≡◌, ◌≢◌, ◌||◌, ◌==◌, ℕ, Bool, true, false, cond, Option, Some, None, Ok, Err, option_map, refl, sym, subst, ap, ◌∙◌}
use Rattle.std.proofs.lemmas.Option.{none-some, same_Some}
use Rattle.pr_model.specs.Calls.{Answer, answer_to, is_interrupted, waited}
use Rattle.pr_model.specs.ControlMessages.{decoded_wait, held_wait, target_stopped, targeted_wait, wait_over, wait_reply}
use Rattle.pr_model.specs.Handles.{handle_of}
use Rattle.pr_model.specs.State.{TracedProcess, TracedState, live_process}
use Rattle.pr_model.specs.Stops.{is_stopped}
use Rattle.pr_model.specs.declared.calls.Call.TheVariants as call
use Rattle.pr_model.specs.declared.calls.Reply.TheVariants as reply
use Rattle.pr_model.specs.declared.handles.Held.{Held}
use Rattle.pr_num.specs.Messages.{first_message}
use Rattle.pr_num.specs.declared.errnos.Errno.{Errno}
use Rattle.pr_num.specs.declared.errnos.Errno.TheVariants.{Busy, Intr, Inval}
use Rattle.pr_num.specs.declared.messages.Message.{Message}
use Rattle.pr_num.specs.declared.messages.Message.TheVariants as message
use Rattle.pr_tool_laws.proofs.Pstack.StackReads.{control_of}
use Rattle.pr_tools.specs.Calls.{stop_bytes}
use Rattle.pr_truss_laws.proofs.Machine.TakenLemmas.{Read, ReadsAs, control-held, stop-reads, target-live}

-- A wait for a process to stop that has no end of its own and was not refused: the process is stopped on an event.

or-false : (b : Bool) → (b || false) ≡ true → b ≡ true
or-false true is = refl
or-false false is = cc

module _ (s : TracedState) (k c pid : ℕ) (a : Answer) (stands : handle_of s.opens k c ≡ Some (control_of k pid))
    (given : answer_to s k (call.CtlWait c 0 stop_bytes) ≡ Some a) (granted : (e : Errno) → a.reply ≢ reply.Fail e)
    (p : TracedProcess) (live : live_process s.system pid ≡ Some p) where
  abbrev held : Held
  held = control_of k pid

  abbrev seen : Bool
  seen = is_interrupted s k

  waiting : (len : ℕ) (system interrupted over : Bool)
      → option_map (waited s k) (cond system (Some (reply.Fail Busy))
      (cond interrupted (Some (reply.Fail Intr)) (cond over (Some (reply.Used len)) None))) ≡ Some a → over ≡ true
  waiting len true interrupted over is =
      absurd (granted Busy (ap (λ (x : Answer). x.reply) (sym (same_Some _ a is))))
  waiting len false true over is = absurd (granted Intr (ap (λ (x : Answer). x.reply) (sym (same_Some _ a is))))
  waiting len false false true is = refl
  waiting len false false false is = absurd (none-some a is)

  decoded : (r : Read) → ReadsAs message.Stop r
      → option_map (waited s k) (decoded_wait s.system held p 0 seen r) ≡ Some a → wait_over s.system held p 0 ≡ true
  decoded (Err fault) reads is = absurd (granted Inval (ap (λ (x : Answer). x.reply) (sym (same_Some _ a is))))
  decoded (Ok first) reads is =
      waiting first.1 (pid == 0) seen (wait_over s.system held p 0)
      (subst (λ (m : Message). option_map (waited s k) (decoded_wait s.system held p 0 seen (Ok (m, first.1))) ≡ Some a)
      reads is)

  reply-is : wait_reply s.system s.opens k c 0 seen stop_bytes
      ≡ decoded_wait s.system held p 0 seen (first_message stop_bytes)
  unfolding wait_reply
  reply-is =
      ap (λ (o : Option Held). held_wait s.system o 0 seen stop_bytes) (control-held s k c held stands refl)
      ∙ ap (λ (o : Option TracedProcess). targeted_wait s.system held o 0 seen stop_bytes)
      (target-live s k c held stands refl ∙ live)

  over : wait_over s.system held p 0 ≡ true
  unfolding answer_to
  over =
      decoded (first_message stop_bytes) stop-reads
      (ap (option_map (waited s k)) (sym reply-is) ∙ given)

  pub wait-stopped : is_stopped p ≡ true
  unfolding target_stopped
  wait-stopped = or-false (is_stopped p) over
