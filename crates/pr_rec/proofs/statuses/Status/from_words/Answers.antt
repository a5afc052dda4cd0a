use Rattle.std.proofs.Common.{◌-◌, length, drop, ◌∙◌, arith, length-drop}
use Rattle.std.proofs.lemmas.List.{take_all}
use Rattle.pr_rec.proofs.StatusLemmas.{status_elements}
use Rattle.pr_rec.proofs.statuses.Status.from_words.Goals as goal

pub returns-clause-words : goal.returns-clause-words
returns-clause-words c =
    let ws = c.args.words.now in
    let behind =
    c.from_words.ensures.words ∙ take_all (length ws - 13) (drop 13 ws) (omega (arith, length-drop 13 ws)) in
    status_elements ws _ _ _ _ _ _ _ c.requires.size c.of_word.ensures c.of_word-2.ensures c.of_word-3.ensures
    c.of_word-4.ensures c.of_word-5.ensures c.of_word-6.ensures behind
