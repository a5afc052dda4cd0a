use Rattle.pr_line.proofs.LengthLemmas.{length-called_text}
use Rattle.pr_line.proofs.function_lines.called_text.Goals as goal

pub returns-in_err-text-clause-short : goal.returns-in_err-text-clause-short
returns-in_err-text-clause-short c =
    length-called_text c.args.name.now c.args.arguments.now c.requires c.fits-arguments

pub returns-in_err-text-2-clause-short : goal.returns-in_err-text-2-clause-short
returns-in_err-text-2-clause-short c =
    length-called_text c.args.name.now c.args.arguments.now c.requires c.fits-arguments

pub returns-clause-short : goal.returns-clause-short
returns-clause-short c =
    length-called_text c.args.name.now c.args.arguments.now c.requires c.fits-arguments
