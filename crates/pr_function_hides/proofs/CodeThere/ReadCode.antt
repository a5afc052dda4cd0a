use Rattle.std.proofs.Common.{◌≡◌, ◌<◌, ◌≤◌, ◌+◌, ◌^◌, ◌==◌, ℕ, Bool, true, false, cond, Some, Result, Ok, Err, List, [], ◌∷◌, length, refl, sym, ap, ◌∙◌, arith}
use Rattle.std.proofs.lemmas.List.{append-nil}
use Rattle.std.proofs.lemmas.List.Elements.{All-cons, All-nil}
use Rattle.std.proofs.lemmas.Slice.Eq.{bytes_eq-Decides}
use Rattle.pr_codec.proofs.MessageLemmas.{spelt_is_read}
use Rattle.pr_function_hides.proofs.Files.CallFacts.{not-accepted}
use Rattle.pr_function_hides.proofs.CodeThere.TurnStands.{Stands}
use Rattle.pr_function_hides.specs.FunctionHiders.{IsPatchable, patch_of}
use Rattle.pr_hidden.proofs.PatchedSpaces.StandLemmas.{read-stands}
use Rattle.pr_line.specs.declared.functions.Function.{Function}
use Rattle.pr_model.specs.Calls.{Answer, answer_to, controlled}
use Rattle.pr_model.specs.ControlMessages.{decoded_answer, system_refusal, targeted_answer}
use Rattle.pr_model.specs.Handles.{handle_of}
use Rattle.pr_model.specs.Messages.{Controlled, message_answer, read_answer, read_of, refused}
use Rattle.pr_model.specs.Readers.{space_seen}
use Rattle.pr_model.specs.Replies.{bytes_in}
use Rattle.pr_model.specs.State.{TracedProcess, TracedState, live_process}
use Rattle.pr_model.specs.declared.calls.Call.TheVariants as call
use Rattle.pr_model.specs.declared.calls.File.TheVariants as file
use Rattle.pr_model.specs.declared.handles.Held.{Held}
use Rattle.pr_num.specs.Messages.{Spells, bad_operand, first_message, operand_count, operands, spelling, tail_length}
use Rattle.pr_num.specs.Spaces.{IsSpace, Space, bytes_for}
use Rattle.pr_num.specs.Words.{IsByte, IsWord}
use Rattle.pr_num.specs.declared.errnos.Errno.TheVariants.{Io}
use Rattle.pr_num.specs.declared.mappings.BadByte.{BadByte}
use Rattle.pr_num.specs.declared.messages.Message.{Message}
use Rattle.pr_num.specs.declared.messages.Message.TheVariants as message
use Rattle.pr_num.specs.declared.messages.MsgFault.{MsgFault}
use Rattle.pr_truss.specs.FunctionFeeding.{is_code}
use Rattle.pr_truss.specs.Replies.{answer_of}
use Rattle.pr_truss.specs.declared.replies.Answer.TheVariants.{Accepted}
use Rattle.pr_truss_laws.proofs.Machine.TakenLemmas.{ctl-is}

-- Where PCREAD gave the code of a function, it stands there, in the memory that the process shows.

-- the message is read as it was meant
read-reads : (at : ℕ) → at < 2 ^ 64
    → first_message (spelling (message.Read at 16) [])
    ≡ Ok (message.Read at 16, length (spelling (message.Read at 16) []))
unfolding operands operand_count bad_operand tail_length
read-reads at fits =
    let bytes : List ℕ = spelling (message.Read at 16) [] in
    let spells : Spells bytes (message.Read at 16) [] = record {
      words = All-cons IsWord at (16 ∷ []) fits (All-cons IsWord 16 [] (omega arith) (All-nil IsWord));
      count = refl;
      columns = refl;
      tail_bytes = All-nil IsByte;
      tail_fits = refl;
      spelt = refl;
    } in
    ap first_message (sym (append-nil bytes)) ∙ spelt_is_read bytes [] (message.Read at 16) [] spells

module _ (s : TracedState) (k number : ℕ) (h : Held) (there : handle_of s.opens k number ≡ Some h)
    (control : h.file ≡ file.Ctl) (at : ℕ) (fits : at < 2 ^ 64) (a : Answer)
    (given : answer_to s k (call.Ctl number (spelling (message.Read at 16) [])) ≡ Some a) where
  abbrev bytes : List ℕ
  bytes = spelling (message.Read at 16) []

  module _ (p : TracedProcess) (live : live_process s.system h.pid ≡ Some p) where
    abbrev shown : Space
    shown = space_seen s.system p

    abbrev answered_by : Bool → Result (List ℕ) BadByte → Controlled
    answered_by zeroth r =
        cond zeroth (refused s.system (system_refusal (message.Read at 16))) (read_of s.system h.pid p r)

    answer-is : a ≡ controlled s (answered_by (h.pid == 0) (bytes_for 0 shown at 16))
    unfolding message_answer read_answer
    answer-is =
        ctl-is s k number h there control bytes a given
        ∙ ap (λ o. controlled s (targeted_answer s.system h o bytes)) live
        ∙ ap (λ (x : Result (Message × ℕ) MsgFault). controlled s (decoded_answer s.system h p bytes x))
        (read-reads at fits)

    -- the reply gave the bytes that stand there
    record HasRead : Type 0 where
      same : a.state.system ≡ s.system
      found : List ℕ
      read : bytes_for 0 shown at 16 ≡ Ok found
      gives : bytes_in a.reply ≡ Some found

    has-read : answer_of a.reply ≡ Accepted → HasRead
    unfolding bytes_in
    has-read accepted = by (h.pid == 0) (bytes_for 0 shown at 16) refl answer-is
      where
        by : (z : Bool) (r : Result (List ℕ) BadByte) → bytes_for 0 shown at 16 ≡ r
            → a ≡ controlled s (answered_by z r) → HasRead
        by true r read is =
            absurd (not-accepted _ (sym (ap (λ (x : Answer). answer_of x.reply) is) ∙ accepted))
        by false (Err bad) read is =
            absurd (not-accepted Io (sym (ap (λ (x : Answer). answer_of x.reply) is) ∙ accepted))
        by false (Ok bs) read is = record {
          same = ap (λ (x : Answer). x.state.system) is;
          found = bs;
          read = read;
          gives = ap (λ (x : Answer). bytes_in x.reply) is;
        }

-- the first instruction of a function
module _ (s : TracedState) (k number : ℕ) (h : Held) (there : handle_of s.opens k number ≡ Some h)
    (control : h.file ≡ file.Ctl) (f : Function) (patchable : IsPatchable f) (a : Answer)
    (given : answer_to s k (call.Ctl number (spelling (message.Read f.at 16) [])) ≡ Some a) (p : TracedProcess)
    (live : live_process s.system h.pid ≡ Some p) (is_space : IsSpace (space_seen s.system p)) where
  -- the reply gave the code of the function
  pub read-shows : answer_of a.reply ≡ Accepted → is_code f.code (bytes_in a.reply) ≡ true
      → (a.state.system ≡ s.system) × Stands (patch_of f) (space_seen s.system p)
  read-shows accepted code =
      let size : length f.code ≡ 16 = patchable.size in
      let most : f.at + 16 ≤ 2 ^ 64 = patchable.within in
      let it = has-read s k number h there control f.at (omega (arith, most)) a given p live accepted in
      let same : it.found ≡ f.code =
      (bytes_eq-Decides it.found f.code).0 (sym (ap (is_code f.code) it.gives) ∙ code) in (
        it.same,
        read-stands (space_seen s.system p) f.at f.code is_space (omega (arith, most, size))
            (ap (bytes_for 0 (space_seen s.system p) f.at) size ∙ it.read
            ∙ ap (λ xs. let ok : Result (List ℕ) BadByte = Ok xs in ok) same),
      )
