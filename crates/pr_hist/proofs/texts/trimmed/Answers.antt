use Rattle.std.proofs.lemmas.Str.Ascii.{trim_ascii_end_is}
use Rattle.pr_hist.specs.Texts.{trimmed}
use Rattle.pr_hist.proofs.texts.trimmed.Goals as goal

pub returns : goal.returns
unfolding trimmed
returns c = trim_ascii_end_is c.args.bytes.now c.trim_ascii_end.result.now c.trim_ascii_end.ensures.value
