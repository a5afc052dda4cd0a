use Rattle.std.proofs.Common.{◌≡◌, ◌∙◌, ℕ, Ok, Err, Result, ap, sym, arith}
use Rattle.std.proofs.lemmas.List.{length-take-le}
use Rattle.pr_num.specs.Control.{prot_read}
use Rattle.pr_num.specs.Spaces.{Space, bytes_for}
use Rattle.pr_num.specs.declared.mappings.BadByte.{BadByte}
use Rattle.pr_parts.specs.Accesses.{checked}
use Rattle.pr_mem.proofs.TextLemmas.{IsText, IsText-read, with_text-read}
use Rattle.pr_mem.proofs.texts.read_text.Goals as goal

-- the text can be read, so that its bytes can
no_fault : (space : Space) (at most len n : ℕ) (bad : BadByte) → IsText space at most len → n ≡ len
    → Err bad ≡ checked (bytes_for prot_read space at n) → ⊥
no_fault space at most len n bad is size e =
    let read : checked (bytes_for prot_read space at n) ≡ Ok tt =
    ap (λ m. checked (bytes_for prot_read space at m)) size ∙ ap checked is.bytes in
    apart (checked (bytes_for prot_read space at n)) bad (sym e) read
  where
    apart : (r : Result (Unit {0}) BadByte) (bad : BadByte) → r ≡ Err bad → r ≡ Ok tt → ⊥
    apart r bad p q = cc

pub slice_bounds-fill-end : goal.slice_bounds-fill-end
slice_bounds-fill-end c =
    let is =
    IsText-read c.args.mappings.now c.args.at c.args.most c.in-Some.len
    (sym c.length_at.ensures ∙ c.in_ok-len.was ∙ ap (λ o. Ok o) c.in-Some.is) in
    omega (arith, is.within, c.requires.room)

pub slice_bounds-fill-end-2 : goal.slice_bounds-fill-end-2
slice_bounds-fill-end-2 c =
    let is =
    IsText-read c.args.mappings.now c.args.at c.args.most c.in-Some.len
    (sym c.length_at.ensures ∙ c.in_ok-len.was ∙ ap (λ o. Ok o) c.in-Some.is) in
    sym (length-take-le c.in-Some.len c.args.out.now (omega (arith, is.within, c.requires.room)))

pub returns-in_err-fill-clause-answer : goal.returns-in_err-fill-clause-answer
returns-in_err-fill-clause-answer c =
    let is =
    IsText-read c.args.mappings.now c.args.at c.args.most c.in-Some.len
    (sym c.length_at.ensures ∙ c.in_ok-len.was ∙ ap (λ o. Ok o) c.in-Some.is) in
    let size = length-take-le c.in-Some.len c.args.out.now (omega (arith, is.within, c.requires.room)) in
    absurd (no_fault c.args.mappings.now c.args.at c.args.most c.in-Some.len _ c.in_err-fill.field-0.0 is size
    c.in_err-fill.ensures.answer)

pub returns-in_err-fill-clause-text : goal.returns-in_err-fill-clause-text
returns-in_err-fill-clause-text c =
    let is =
    IsText-read c.args.mappings.now c.args.at c.args.most c.in-Some.len
    (sym c.length_at.ensures ∙ c.in_ok-len.was ∙ ap (λ o. Ok o) c.in-Some.is) in
    let size = length-take-le c.in-Some.len c.args.out.now (omega (arith, is.within, c.requires.room)) in
    absurd (no_fault c.args.mappings.now c.args.at c.args.most c.in-Some.len _ c.in_err-fill.field-0.0 is size
    c.in_err-fill.ensures.answer)

pub returns-clause-text : goal.returns-clause-text
returns-clause-text c =
    let is =
    IsText-read c.args.mappings.now c.args.at c.args.most c.in-Some.len
    (sym c.length_at.ensures ∙ c.in_ok-len.was ∙ ap (λ o. Ok o) c.in-Some.is) in
    let size = length-take-le c.in-Some.len c.args.out.now (omega (arith, is.within, c.requires.room)) in
    with_text-read c.args.mappings.now c.args.at c.args.most c.in-Some.len c.args.out.now c.fill.new.out is
    (ap (bytes_for prot_read c.args.mappings.now c.args.at) (sym size) ∙ c.in_ok-fill.ensures.ok)
