use Rattle.pr_line.proofs.LengthLemmas.{length-three_text}
use Rattle.pr_line.proofs.function_lines.three_text.Goals as goal

pub returns-in_err-hex_after-clause-short : goal.returns-in_err-hex_after-clause-short
returns-in_err-hex_after-clause-short c = length-three_text c.args.arguments.now c.fits-arguments

pub returns-in_err-hex_after-2-clause-short : goal.returns-in_err-hex_after-2-clause-short
returns-in_err-hex_after-2-clause-short c = length-three_text c.args.arguments.now c.fits-arguments

pub returns-in_err-hex_after-3-clause-short : goal.returns-in_err-hex_after-3-clause-short
returns-in_err-hex_after-3-clause-short c = length-three_text c.args.arguments.now c.fits-arguments

pub returns-clause-short : goal.returns-clause-short
returns-clause-short c = length-three_text c.args.arguments.now c.fits-arguments
