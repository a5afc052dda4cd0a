use Rattle.std.proofs.Common.{◌≡◌, ◌<◌, ◌^◌, ◌++◌, ℕ, List, [], ◌∷◌, All, Some, Ok, inl, inr, length, replicate, take, refl, sym, ap, ◌∙◌, arith}
use Rattle.std.proofs.lemmas.List.{append-nil, take_all}
use Rattle.std.proofs.lemmas.Option.{same_Some, slice_get_cases}
use Rattle.std.specs.List.{slice_get}
use Rattle.std.proofs.lemmas.List.Elements.{All-cons, All-nil}
use Rattle.pr_codec.proofs.MessageLemmas.{spelt_is_read}
use Rattle.pr_model.specs.ControlMessages.{tail_of}
use Rattle.pr_num.specs.Instructions.{fields_of}
use Rattle.pr_num.specs.Messages.{Spells, bad_operand, first_message, message_code, operand_count, operands, padding, spelling, tail_length, unpadded_length}
use Rattle.pr_num.specs.Words.{IsByte, IsWord, word_bytes, words_bytes}
use Rattle.pr_line.specs.declared.functions.Function.{Function}
use Rattle.pr_line.specs.declared.options.Options.{Options}
use Rattle.pr_model.specs.declared.calls.Call.{Call}
use Rattle.pr_model.specs.declared.calls.Call.TheVariants as call
use Rattle.pr_num.specs.Limits.{instruction_size}
use Rattle.pr_truss.specs.FunctionCalls.{write_code_call}
use Rattle.pr_num.specs.declared.messages.Message.{Message}
use Rattle.pr_num.specs.declared.messages.Message.TheVariants as message
use Rattle.pr_truss.specs.Marks.{address_in, address_of, breakpoint, code_in, code_of}

-- A message that writes sixteen bytes is read as what it spells.

module _ (at : ℕ) (code : List ℕ) (fits : at < 2 ^ 64) (size : length code ≡ 16) (bytes : All IsByte code) where
  abbrev m : Message
  m = message.Write at 16

  abbrev all : List ℕ
  all = spelling m code

  spells : Spells all m code
  unfolding operands operand_count bad_operand tail_length
  spells = record {
    words = All-cons IsWord at (16 ∷ []) fits (All-cons IsWord 16 [] (omega arith) (All-nil IsWord));
    count = refl;
    columns = refl;
    tail_bytes = bytes;
    tail_fits = size;
    spelt = refl;
  }

  pub write-read : first_message (spelling (message.Write at 16) code) ≡ Ok (message.Write at 16, length all)
  write-read = ap first_message (sym (append-nil all)) ∙ spelt_is_read all [] m code spells

  all-taken : take 16 (code ++ []) ≡ code
  all-taken = ap (take 16) (append-nil code) ∙ take_all 16 code (omega (arith, size))

  pub write-tail : tail_of (message.Write at 16) (spelling (message.Write at 16) code) ≡ code
  unfolding unpadded_length operand_count tail_length message_code operands word_bytes
  write-tail =
      ap (λ n. tail_of m (words_bytes (message_code m ∷ operands m) ++ code ++ replicate (padding n) 0)) size
      ∙ all-taken

-- the code of a breakpoint
pub breakpoint-size : length breakpoint ≡ 16
unfolding fields_of word_bytes
breakpoint-size = refl

-- ---- the functions of the options

module _ (o : Options) where
  pub named-at : (i : ℕ) → i < length o.functions → (f : Function) × (slice_get o.functions i ≡ Some f)
  named-at i inside = elim (slice_get_cases o.functions i).1 [
    | inl h ↦ (h.0, h.2)
    | inr h ↦ absurd (let past = h.0 in omega (arith, past, inside))
  ]

  address-is : (i : ℕ) (f : Function) → slice_get o.functions i ≡ Some f → address_of o i ≡ f.at
  unfolding address_of
  address-is i f named = ap address_in named

  pub code-is : (i : ℕ) (f : Function) → slice_get o.functions i ≡ Some f → code_of o i ≡ f.code
  unfolding code_of
  code-is i f named = ap code_in named

  pub write-is : (c : Call) (control i : ℕ) (f : Function) (code given : List ℕ) → slice_get o.functions i ≡ Some f
      → given ≡ code
      → Some (write_code_call o control i given) ≡ Some c
      → c ≡ call.Ctl control (spelling (message.Write f.at 16) code)
  write-is c control i f code given named same is =
      sym (same_Some _ c is)
      ∙ ap (λ at. call.Ctl control (spelling (message.Write at instruction_size) given)) (address-is i f named)
      ∙ ap (λ bs. call.Ctl control (spelling (message.Write f.at 16) bs)) same
