use Rattle.pr_rec.proofs.LwpStatusLemmas.{lwpstatus_elements}
use Rattle.pr_rec.proofs.lwps.LwpStatus.from_words.Goals as goal

pub returns-clause-words : goal.returns-clause-words
returns-clause-words c =
    lwpstatus_elements c.args.words.now _ _ _ _ _ _ _ _ _ _ c.requires.size c.of_word.ensures c.reason_of.ensures
    c.what_of.ensures c.entry_of.ensures c.entry_of-2.ensures c.entry_of-3.ensures c.errno_of.ensures
    c.of_word-2.ensures c.of_word-3.ensures c.disposition_of.ensures
