use Rattle.std.proofs.Common.{◌+◌, ◌∙◌, ap, length, refl, arith}
use Rattle.std.proofs.lemmas.Result.{err_from_is_err_and}
use Rattle.pr_text.specs.Steps.{◌>>=◌}
use Rattle.pr_text.proofs.StepLemmas.{folded-more, folded-stop, folded-end, fails_whole, gives_whole}
use Rattle.pr_line.specs.Options.{word_taken}
use Rattle.pr_line.specs.Reading.{asked_in, all_asked}
use Rattle.pr_line.proofs.reading.read_in.Goals as goal

pub returns-in_err-take : goal.returns-in_err-take
unfolding asked_in
returns-in_err-take c =
    let p = err_from_is_err_and c.from_residual.result c.from_residual.ensures.1 in
    let i = c.loop-i.i in
    rw (p.1, p.2)
    (fails_whole c.in_err-take.field-0.0 _ _ c.in_err-take.ensures
    (λ fault stopped.
    ap (λ r. r >>= all_asked (length c.args.words.now))
    (folded-stop
    (word_taken c.args.lenient) i i c.loop-i.draft c.as_slice.result.now c.index-words-i.result c.args.words.now _
    fault (omega arith) (c.as_slice.ensures ∙ c.index-words-i.is) stopped c.loop-i.invariant)))

pub loop-i-preserved : goal.loop-i-preserved
loop-i-preserved c =
    let i = c.loop-i.i in
    folded-more (word_taken c.args.lenient) i i
    (i + 1) c.loop-i.draft c.take.new.self c.as_slice.result.now c.index-words-i.result c.args.words.now _
    (omega arith) (c.as_slice.ensures ∙ c.index-words-i.is) c.in_ok-take.ensures refl c.loop-i.invariant

pub returns : goal.returns
unfolding asked_in
returns c =
    let i = c.loop-i.i in
    gives_whole (λ o. o) c.finish.result _ _ c.finish.ensures
    (ap (λ r. r >>= all_asked (length c.args.words.now))
    (folded-end (word_taken c.args.lenient) i i c.loop-i.draft c.args.words.now _ (omega arith) c.loop-i.invariant))
