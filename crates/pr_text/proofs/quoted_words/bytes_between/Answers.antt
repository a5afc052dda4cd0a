use Rattle.std.proofs.Common.{◌∙◌, sym, ap}
use Rattle.pr_text.proofs.QuotedLemmas.{between-step, between-stop, between-end}
use Rattle.pr_text.proofs.quoted_words.bytes_between.Goals as goal
use Rattle.std.proofs.Common.{Some}

pub returns-in_default : goal.returns-in_default
returns-in_default c =
    between-stop _ _ c.args.text.now
    (sym c.is_empty.ensures ∙ c.loop-rest-test.true) c.in_default.ensures.value c.loop-rest.invariant

pub loop-rest-preserved : goal.loop-rest-preserved
loop-rest-preserved c =
    between-step _ _ _ c.args.text.now _ _
    (sym c.is_empty.ensures ∙ c.loop-rest-test.true) c.in-Some.ensures.value c.in_ok-push.ensures.items
    c.loop-rest.invariant

pub returns : goal.returns
returns c = ap Some c.from_vec.ensures ∙ between-end _ _ c.args.text.now c.loop-rest-test.ensures c.loop-rest.invariant
