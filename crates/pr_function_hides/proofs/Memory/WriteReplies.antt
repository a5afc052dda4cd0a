use Rattle.std.proofs.Common.{◌≡◌, ◌≢◌, ◌==◌, ℕ, Bool, true, false, cond, is_ok, is_some, Option, None, Some, Ok, List, length, Result, refl, sym, subst, ap, ◌∙◌}
use Rattle.std.proofs.lemmas.Bool.{false≢true, ne_eqb}
use Rattle.std.proofs.lemmas.Option.{same_Some}
use Rattle.pr_hidden.specs.Covers.{Patch}
use Rattle.pr_model.proofs.StateLemmas.{live_process-found}
use Rattle.pr_model.specs.Calls.{Answer, answer_to, controlled}
use Rattle.pr_model.specs.Changes.{with_space}
use Rattle.pr_model.specs.ControlMessages.{decoded_answer, system_refusal, tail_of, targeted_answer}
use Rattle.pr_model.specs.FirstState.{system_process}
use Rattle.pr_model.specs.Handles.{handle_of}
use Rattle.pr_model.specs.Lawful.{IsLawfulSystem}
use Rattle.pr_model.specs.Lives.{bare_process}
use Rattle.pr_model.specs.Messages.{Controlled, message_answer, refused, with_process_changed, write_answer}
use Rattle.pr_model.specs.Readers.{has_lent}
use Rattle.pr_model.specs.State.{TracedProcess, TracedState, TracedSystem, live_process, process_of}
use Rattle.pr_model.specs.declared.calls.Call.TheVariants as call
use Rattle.pr_model.specs.declared.calls.File.TheVariants as file
use Rattle.pr_model.specs.declared.calls.Reply.TheVariants as reply
use Rattle.pr_model.specs.declared.handles.Held.{Held}
use Rattle.pr_num.specs.Messages.{first_message}
use Rattle.pr_num.specs.Spaces.{bytes_for}
use Rattle.pr_num.specs.declared.errnos.Errno.TheVariants.{Busy, Io}
use Rattle.pr_num.specs.declared.messages.Message.{Message}
use Rattle.pr_num.specs.declared.messages.Message.TheVariants as message
use Rattle.pr_num.specs.declared.messages.MsgFault.{MsgFault}
use Rattle.pr_parts.specs.AddressSpaces.{with_bytes}
use Rattle.pr_truss_laws.proofs.Machine.TakenLemmas.{ctl-is}
use Rattle.pr_function_hides.proofs.Memory.MappedMemory.{none-mapped}
use Rattle.pr_function_hides.specs.TidyWrites.{IsMappedIn}

-- When PCWRITE is granted: where all of its range is mapped, and the process has lent its memory to nobody.

-- the system process has nothing mapped
pub mapped-user : (s : TracedSystem) (pid : ℕ) (p : TracedProcess) → IsLawfulSystem s → live_process s pid ≡ Some p
    → (f : Patch) → IsMappedIn p.space f → pid ≢ 0
unfolding system_process bare_process
mapped-user s pid p lawful live f mapped zeroth =
    let there : process_of s 0 ≡ Some p = ap (process_of s) (sym zeroth) ∙ live_process-found s pid p live in
    let is : p ≡ system_process = same_Some p system_process (sym there ∙ lawful.first) in
    none-mapped f (subst (λ (x : TracedProcess). IsMappedIn x.space f) is mapped)

module _ (s : TracedState) (k number : ℕ) (h : Held) (there : handle_of s.opens k number ≡ Some h)
    (control : h.file ≡ file.Ctl) (bytes : List ℕ) (at size len : ℕ)
    (read : first_message bytes ≡ Ok (message.Write at size, len)) (a : Answer)
    (given : answer_to s k (call.Ctl number bytes) ≡ Some a) (p : TracedProcess)
    (live : live_process s.system h.pid ≡ Some p) where
  abbrev tail : List ℕ
  tail = tail_of (message.Write at size) bytes

  abbrev fits : Bool
  fits = is_ok (bytes_for 0 p.space at (length tail))

  -- the answer by its three tests
  abbrev answered_by : Bool → Bool → Bool → Controlled
  answered_by zeroth lent mapped =
      cond zeroth (refused s.system (system_refusal (message.Write at size)))
      (cond lent (refused s.system Busy)
      (cond mapped (with_process_changed s.system h.pid p len (with_space (with_bytes at tail p.space)))
      (refused s.system Io)))

  reply-is : a.reply ≡ (controlled s (answered_by (h.pid == 0) (has_lent p) fits)).reply
  unfolding message_answer write_answer
  reply-is =
      ap (λ (x : Answer). x.reply) (ctl-is s k number h there control bytes a given)
      ∙ ap (λ o. (controlled s (targeted_answer s.system h o bytes)).reply) live
      ∙ ap (λ (x : Result (Message × ℕ) MsgFault). (controlled s (decoded_answer s.system h p bytes x)).reply) read

  pub write-mapped : (used : ℕ) → a.reply ≡ reply.Used used → fits ≡ true
  write-mapped used got = by (h.pid == 0) (has_lent p) fits (sym got ∙ reply-is)
    where
      by : (x y z : Bool) → reply.Used used ≡ (controlled s (answered_by x y z)).reply → z ≡ true
      by true y z is = absurd (let wrong = is in cc)
      by false true z is = absurd (let wrong = is in cc)
      by false false true is = refl
      by false false false is = absurd (let wrong = is in cc)

  pub write-granted : h.pid ≢ 0 → p.borrower ≡ None → fits ≡ true → (used : ℕ) × (a.reply ≡ reply.Used used)
  write-granted user own ok = (
    len,
    reply-is ∙ by (h.pid == 0) (has_lent p) fits (ne_eqb h.pid 0 user) (ap (λ (o : Option ℕ). is_some o) own) ok,
  )
    where
      by : (x y z : Bool) → x ≡ false → y ≡ false → z ≡ true
          → (controlled s (answered_by x y z)).reply ≡ reply.Used len
      by false false true one two three = refl
      by true y z one two three = absurd (false≢true (sym one))
      by false true z one two three = absurd (false≢true (sym two))
      by false false false one two three = absurd (false≢true three)
