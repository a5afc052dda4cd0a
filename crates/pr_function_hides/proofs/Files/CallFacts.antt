use Rattle.std.proofs.Common.{◌≡◌, ◌≢◌, ◌⊎◌, ◌&&◌, ◌==◌, ◌++◌, ◌<◌, ℕ, Bool, true, false, cond, Option, Some, None, Result, Ok, List, [], ◌∷◌, refl, sym, subst, ap, ◌∙◌, inl, inr}
use Rattle.std.proofs.lemmas.Bool.{cases_eq}
use Rattle.std.proofs.lemmas.Option.{none-some, same_Some}
use Rattle.pr_hidden.proofs.NothingHidden.CoverLemmas.{cover-other, cover-own}
use Rattle.pr_hidden.specs.Covers.{Cover, Covers, with_cover}
use Rattle.pr_hidden.specs.Hiders.{Hiders, covers_called, covers_closed, finished, hides, is_ctl}
use Rattle.pr_model.specs.Changes.{with_space}
use Rattle.pr_model.specs.Readers.{has_lent}
use Rattle.pr_model.specs.Calls.{Answer, answer_to, close_answer, close_held, controlled}
use Rattle.pr_model.specs.ControlMessages.{aim_of, decoded_answer, system_refusal, tail_of, targeted_answer}
use Rattle.pr_model.specs.Handles.{handle_of, has_writer, open_refusal}
use Rattle.pr_model.specs.Lawful.{IsLawfulSystem}
use Rattle.pr_model.specs.Legal.{IsLegal, IsLegalEntry, after, state_after}
use Rattle.pr_model.specs.Messages.{message_answer, refused, with_process_changed, write_answer}
use Rattle.pr_model.specs.State.{TracedProcess, TracedState, live_process, process_of}
use Rattle.pr_model.specs.declared.calls.Call.{Call}
use Rattle.pr_model.specs.declared.calls.Call.TheVariants as call
use Rattle.pr_model.specs.declared.calls.File.TheVariants as file
use Rattle.pr_model.specs.declared.calls.Mode.TheVariants.{WriteExcl}
use Rattle.pr_model.specs.declared.calls.Reply.{Reply}
use Rattle.pr_model.specs.declared.calls.Reply.TheVariants as reply
use Rattle.pr_model.specs.declared.events.Entry.{Entry}
use Rattle.pr_model.specs.declared.handles.Held.{Held}
use Rattle.pr_num.proofs.BoolLemmas.{either}
use Rattle.pr_num.specs.Messages.{first_message}
use Rattle.pr_num.specs.declared.errnos.Errno.{Errno}
use Rattle.pr_num.specs.declared.errnos.Errno.TheVariants.{Busy, Intr, Io, Noent}
use Rattle.pr_num.specs.declared.messages.Message.{Message}
use Rattle.pr_num.specs.declared.messages.Message.TheVariants as message
use Rattle.pr_num.specs.declared.messages.MsgFault.{MsgFault}
use Rattle.pr_parts.specs.AddressSpaces.{with_bytes}
use Rattle.pr_report_laws.proofs.Releasing.ReleaseStays.{not-allowed}
use Rattle.pr_truss.specs.Replies.{answer_of}
use Rattle.pr_truss.specs.Trusses.{TrussState}
use Rattle.pr_truss.specs.declared.replies.Answer.TheVariants.{Accepted, Interrupted}
use Rattle.pr_truss_laws.proofs.Replies.AnswerLemmas.{IsAnswer, answer-is}
use Rattle.pr_truss_laws.proofs.Machine.FrameLemmas.{was-made}
use Rattle.pr_truss_laws.proofs.Files.OpensLemmas.{close-closes, held_by, keeps_handles, open-opens, own-free, own-other, plain-leaves}
use Rattle.pr_truss_laws.proofs.Machine.TakenLemmas.{ctl-is}
use Rattle.pr_truss_laws.specs.Exchanges.{errno_in}
use Rattle.pr_world.specs.ControllerStates.{ControllerState, FnTruss}
use Rattle.pr_world.specs.Protocol.{controllers_after, controllers_at}
use Rattle.pr_tool_laws.specs.OwnCalls.{AreOwnCalls, IsOwnCall}

-- What calls are answered, which handles stay, and what a close leaves hidden.

pub not-accepted : (e : Errno) → answer_of (reply.Fail e) ≡ Accepted → ⊥
unfolding answer_of
not-accepted Intr same = cc
not-accepted Noent same = cc
not-accepted _ same = cc

-- a write to a process is answered by how much was used, or refused
pub shape-of : (s : TracedState) (k number : ℕ) (h : Held) (there : handle_of s.opens k number ≡ Some h)
    (control : h.file ≡ file.Ctl) (bytes : List ℕ) (at size len : ℕ)
    → first_message bytes ≡ Ok (message.Write at size, len) → (a : Answer)
    → answer_to s k (call.Ctl number bytes) ≡ Some a
    → ((used : ℕ) × (a.reply ≡ reply.Used used))
    ⊎ ((answer_of a.reply ≢ Accepted) × ((used : ℕ) → a.reply ≢ reply.Used used))
unfolding message_answer write_answer
shape-of s k number h there control bytes at size len read a given =
    subst Shape-of (sym (ap (λ (x : Answer). x.reply) (ctl-is s k number h there control bytes a given)))
    (by-process (live_process s.system h.pid))
  where
    Shape-of : Reply → Type 0
    Shape-of r = ((used : ℕ) × (r ≡ reply.Used used)) ⊎ ((answer_of r ≢ Accepted) × ((used : ℕ) → r ≢ reply.Used used))

    fails : (e : Errno) → Shape-of (reply.Fail e)
    fails e = inr ((λ accepted. not-accepted e accepted), λ used same. cc)

    room : (p : TracedProcess) (b : Bool)
        → Shape-of (controlled s
        (cond b (with_process_changed s.system h.pid p len
        (with_space (with_bytes at (tail_of (message.Write at size) bytes) p.space))) (refused s.system Io))).reply
    room p true = inl (len, refl)
    room p false = fails Io

    lent : (p : TracedProcess) (b : Bool)
        → Shape-of (controlled s
        (cond b (refused s.system Busy)
        (write_answer s.system h.pid p at (tail_of (message.Write at size) bytes) len))).reply
    lent p true = fails Busy
    lent p false = room p _

    zeroth : (p : TracedProcess) (b : Bool)
        → Shape-of (controlled s
        (cond b (refused s.system (system_refusal (message.Write at size)))
        (message_answer s.system h.pid p (aim_of h) (message.Write at size) (tail_of (message.Write at size) bytes)
        len))).reply
    zeroth p true = fails _
    zeroth p false = lent p (has_lent p)

    by-process : (o : Option TracedProcess) → Shape-of (controlled s (targeted_answer s.system h o bytes)).reply
    by-process None = fails Noent
    by-process (Some p) =
        subst
        (λ (x : Result (Message × ℕ) MsgFault). Shape-of (controlled s (decoded_answer s.system h p bytes x)).reply)
        (sym read) (zeroth p (h.pid == 0))

-- a close of what is open is done
pub close-done : (s : TracedState) (k number : ℕ) (h : Held) → handle_of s.opens k number ≡ Some h → (a : Answer)
    → answer_to s k (call.Close number) ≡ Some a → a.reply ≡ reply.Done
unfolding answer_to close_answer
close-done s k number h there a given =
    sym (ap (λ (x : Answer). x.reply) (same_Some _ a given))
    ∙ ap (λ (x : Option Held). (close_held s number x).reply) there

-- what was opened for writing by one alone, nobody had open for writing
pub open-finds : (s : TracedState) (k pid : ℕ) (a : Answer)
    → answer_to s k (call.Open pid 0 file.Ctl WriteExcl) ≡ Some a
    → answer_of a.reply ≡ Accepted → has_writer pid s.opens ≡ true → ⊥
unfolding IsAnswer
open-finds s k pid a given accepted writer =
    elim (open-opens s k pid 0 file.Ctl WriteExcl a given) [
      | inl ref ↦ refused ref.errno ref.reply
      | inr new ↦ not-allowed s pid writer new.allowed
    ]
  where
    refused : (e : Errno) → a.reply ≡ reply.Fail e → ⊥
    refused e is =
        let granted : IsAnswer a.reply Accepted = subst (IsAnswer a.reply) accepted (answer-is a.reply) in
        none-some e (sym granted ∙ ap errno_in is)

-- what can be opened for writing was made
has-file : (s : TracedState) (pid : ℕ) → open_refusal s pid 0 file.Ctl WriteExcl ≡ None
    → process_of s.system pid ≡ None → ⊥
unfolding open_refusal
has-file s pid allowed none = cc_of (rw none at allowed)
  where
    cc_of : Some Noent ≡ None → ⊥
    cc_of same = none-some Noent (sym same)

pub open-made : (s : TracedState) (k pid : ℕ) → IsLawfulSystem s.system → (a : Answer)
    → answer_to s k (call.Open pid 0 file.Ctl WriteExcl) ≡ Some a → answer_of a.reply ≡ Accepted → pid < s.system.made
unfolding IsAnswer
open-made s k pid lawful a given accepted =
    elim (open-opens s k pid 0 file.Ctl WriteExcl a given) [
      | inl ref ↦ refused ref.errno ref.reply
      | inr new ↦ there (process_of s.system pid) refl new.allowed
    ]
  where
    refused : (e : Errno) → a.reply ≡ reply.Fail e → pid < s.system.made
    refused e is = absurd (not-accepted e (ap answer_of (sym is) ∙ accepted))

    there : (o : Option TracedProcess) → process_of s.system pid ≡ o → open_refusal s pid 0 file.Ctl WriteExcl ≡ None
        → pid < s.system.made
    there None none allowed = absurd (has-file s pid allowed none)
    there (Some p) found allowed = was-made pid s.system p lawful found

-- own handles after a call
pub keeps-there : (s : TracedState) (k : ℕ) (c : Call) (a : Answer) → answer_to s k c ≡ Some a → (number : ℕ) (h : Held)
    → handle_of s.opens k number ≡ Some h → (c ≢ call.Close number)
    → handle_of a.state.opens k number ≡ Some h
keeps-there s k c a given number h there other = by c refl
  where
    by : (d : Call) → c ≡ d → handle_of a.state.opens k number ≡ Some h
    by (call.Open pid id f mode) is =
        elim (open-opens s k pid id f mode a (ap (answer_to s k) (sym is) ∙ given)) [
          | inl ref ↦ ap (λ p. handle_of p k number) ref.is ∙ there
          | inr new ↦
              ap (λ p. handle_of p k number) new.is
              ∙ own-other s.opens k new.place number (Some (held_by k pid id f mode))
              (λ same. none-some h (sym (own-free s.opens k new.place new.free)
              ∙ ap (handle_of s.opens k) same ∙ there)) ∙ there
        ]
    by (call.Close m) is =
        elim (close-closes s k m a (ap (answer_to s k) (sym is) ∙ given)) [
          | inl gone ↦ ap (λ p. handle_of p k number) gone.is ∙ there
          | inr it ↦
              let one = it.1 in
              ap (λ p. handle_of p k number) one.is
              ∙ own-other s.opens k m number None (λ same. other (is ∙ ap call.Close same)) ∙ there
        ]
    by d is = ap (λ p. handle_of p k number) (plain-leaves s k c a (ap keeps_handles is) given) ∙ there

pub calm-reply : (r : Reply) → r ≢ reply.Fail Intr → answer_of r ≢ Interrupted
unfolding IsAnswer
calm-reply r other interrupted = other (subst (IsAnswer r) interrupted (answer-is r))

-- ---- a close leaves nothing where nothing was

module _ (who : Hiders) (none : (k : ℕ) → who.probes k ≡ false) (covers : Covers) (s : TracedState) (k pid : ℕ) where
  pub close-bare : (number : ℕ) (r : Reply) → (covers pid).patches ≡ []
      → (covers_called who covers s k (call.Close number) r pid).patches ≡ []
  unfolding covers_called
  close-bare number reply.Done bare = by (handle_of s.opens k number)
    where
      by : (o : Option Held) → (covers_closed who k o covers pid).patches ≡ []
      by None = bare
      by (Some h) =
          either (λ (cs : Covers). (cs pid).patches ≡ []) (hides who k && is_ctl h.file)
          (with_cover h.pid (finished (covers h.pid)) covers) covers (closed (cases_eq pid h.pid)) bare
        where
          closed : (pid ≡ h.pid) ⊎ (pid ≢ h.pid) → (with_cover h.pid (finished (covers h.pid)) covers pid).patches ≡ []
          closed (inl same) =
              ap (λ n. (with_cover h.pid (finished (covers h.pid)) covers n).patches) same
              ∙ ap (λ (c : Cover). c.patches) (cover-own h.pid (finished (covers h.pid)) covers)
          closed (inr apart) =
              ap (λ (c : Cover). c.patches) (cover-other h.pid (finished (covers h.pid)) covers pid apart) ∙ bare
  close-bare number _ bare = bare

-- ---- fronts of a history

pub own-here : (controllers : List ControllerState) (front : List Entry) (e : Entry) (back : List Entry)
    → AreOwnCalls controllers (front ++ e ∷ back) → IsOwnCall (controllers_at controllers front) e
own-here controllers [] e back own = own.0
own-here controllers (x ∷ front) e back own = own-here (controllers_after controllers x) front e back own.1

pub legal-here : (n : ℕ) (s : TracedState) (front : List Entry) (e : Entry) (back : List Entry)
    → IsLegal n s (front ++ e ∷ back) → IsLegalEntry n (state_after s front) e
legal-here n s [] e back legal = legal.0
legal-here n s (x ∷ front) e back legal = legal-here n (after s x) front e back legal.1

pub controllers-push : (controllers : List ControllerState) (h : List Entry) (e : Entry)
    → controllers_at controllers (h ++ e ∷ []) ≡ controllers_after (controllers_at controllers h) e
controllers-push controllers [] e = refl
controllers-push controllers (x ∷ xs) e = controllers-push (controllers_after controllers x) xs e

-- one truss stands at a place
pub same-truss : (a b : TrussState) (o : Option ControllerState) → o ≡ Some (FnTruss a) → o ≡ Some (FnTruss b) → a ≡ b
same-truss a b o one two = let both : Some (FnTruss a) ≡ Some (FnTruss b) = sym one ∙ two in cc
