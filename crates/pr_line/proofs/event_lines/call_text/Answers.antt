use Rattle.std.proofs.Common.{[], ◌∷◌, ◌++◌, ◌∙◌, ap}
use Rattle.std.proofs.lemmas.List.{append_assoc}
use Rattle.pr_line.specs.ArgumentTexts.{came_of}
use Rattle.pr_line.proofs.LengthLemmas.{length-call_text}
use Rattle.pr_line.proofs.PrefixLemmas.{kept_on_err}
use Rattle.pr_line.proofs.event_lines.call_text.Goals as goal

pub returns-in_err-text-clause-short : goal.returns-in_err-text-clause-short
returns-in_err-text-clause-short c =
    length-call_text c.args.call c.args.arguments.now c.args.size (came_of c.args.text) c.fits-arguments

pub returns-in_err-text-2-clause-short : goal.returns-in_err-text-2-clause-short
returns-in_err-text-2-clause-short c =
    length-call_text c.args.call c.args.arguments.now c.args.size (came_of c.args.text) c.fits-arguments

pub returns-in_err-arguments_text-clause-short : goal.returns-in_err-arguments_text-clause-short
returns-in_err-arguments_text-clause-short c =
    length-call_text c.args.call c.args.arguments.now c.args.size (came_of c.args.text) c.fits-arguments

pub returns-in_err-arguments_text-clause-err : goal.returns-in_err-arguments_text-clause-err
returns-in_err-arguments_text-clause-err c =
    let before = c.in_ok-text.ensures.ok in
    let after = c.in_ok-text-2.ensures.ok in
    kept_on_err c.from_residual-in_err-arguments_text.result c.args.line.now
    (c.as_bytes.result.now ++ 40 ∷ []) c.text-2.new.self c.arguments_text.new.line
    (after ∙ ap (λ xs. xs ++ 40 ∷ []) before ∙ append_assoc c.args.line.now c.as_bytes.result.now (40 ∷ []))
    c.in_err-arguments_text.ensures.err

pub returns-clause-short : goal.returns-clause-short
returns-clause-short c =
    length-call_text c.args.call c.args.arguments.now c.args.size (came_of c.args.text) c.fits-arguments
