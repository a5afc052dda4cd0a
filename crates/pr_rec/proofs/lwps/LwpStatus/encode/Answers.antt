use Rattle.std.proofs.Common.{refl, subst, ap, ◌∙◌}
use Rattle.std.specs.List.{All}
use Rattle.pr_num.specs.Records.{lwpstatus_ranges}
use Rattle.pr_num.specs.Words.{IsWord, words_bytes}
use Rattle.pr_rec.proofs.RecordLemmas.{ranged-encodes}
use Rattle.pr_rec.proofs.LwpStatusLemmas.{lwpstatus-ranged, lwpstatus-typed}
use Rattle.pr_rec.specs.RecordWords.{lwpstatus_words_of}
use Rattle.pr_rec.proofs.lwps.LwpStatus.encode.Goals as goal

pub returns-clause-ranged : goal.returns-clause-ranged
returns-clause-ranged c info =
    lwpstatus-typed c.args.self.now c.words.ensures.sizes c.words.ensures.flags c.words.ensures.id c.words.ensures.what
    c.words.ensures.held c.words.ensures.pending
    (subst (All IsWord) c.words.ensures.words c.put_record.ensures.words) info

pub returns-clause-encoded : goal.returns-clause-encoded
returns-clause-encoded c info =
    ranged-encodes lwpstatus_ranges (lwpstatus_words_of c.args.self.now) _ refl
    (lwpstatus-ranged c.args.self.now (returns-clause-ranged c info))
    (c.put_record.ensures.bytes ∙ ap words_bytes c.words.ensures.words)
