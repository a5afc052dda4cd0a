use Rattle.pr_line.proofs.LengthLemmas.{length-function_text}
use Rattle.pr_line.proofs.function_lines.whole_text.Goals as goal

pub returns-in_err-prefix-clause-short : goal.returns-in_err-prefix-clause-short
returns-in_err-prefix-clause-short c =
    length-function_text c.args.options.now c.args.pid c.args.lwp c.args.name.now c.args.arguments.now
    c.prefix.ensures.short
    c.requires c.fits-arguments
