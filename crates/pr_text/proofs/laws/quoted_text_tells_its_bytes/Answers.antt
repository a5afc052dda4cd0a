use Rattle.pr_text.proofs.TextLemmas.{quoted_text-printed, length-quoted_text, quoted_text-tells}
use Rattle.pr_text.proofs.laws.quoted_text_tells_its_bytes.Goals as goal

pub returns-clause-printed : goal.returns-clause-printed
returns-clause-printed c = quoted_text-printed

pub returns-clause-short : goal.returns-clause-short
returns-clause-short c = length-quoted_text

pub returns-clause-tells : goal.returns-clause-tells
returns-clause-tells c = quoted_text-tells
