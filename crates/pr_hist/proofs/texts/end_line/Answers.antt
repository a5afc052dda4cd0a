use Rattle.std.proofs.Common.{◌≡◌, ◌+◌, [], ◌∷◌, length, take, drop}
use Rattle.std.proofs.lemmas.Result.{on_ok_weaker}
use Rattle.pr_hist.specs.Texts.{trimmed}
use Rattle.pr_hist.proofs.LineLemmas.{line_ended}
use Rattle.pr_hist.proofs.texts.end_line.Goals as goal

pub returns : goal.returns
returns c =
    let old = c.args.text.now in
    let kept = c.trimmed-kept.result.now in
    let cut = c.truncate.new.self in
    let keeps : kept ≡ trimmed (drop c.args.start old) = cc in
    let cuts : cut ≡ take (c.args.start + length kept) old = cc in
    on_ok_weaker c.text.result (line_ended old kept cut c.text.new.self (10 ∷ []) c.args.start keeps cuts)
    c.text.ensures
