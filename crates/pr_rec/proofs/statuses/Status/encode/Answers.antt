use Rattle.std.proofs.Common.{refl, subst, ◌∙◌}
use Rattle.std.specs.List.{All}
use Rattle.pr_num.specs.Records.{status_ranges}
use Rattle.pr_num.specs.Words.{IsWord}
use Rattle.pr_rec.proofs.LwpStatusLemmas.{lwpstatus-typed}
use Rattle.pr_rec.proofs.ReadLemmas.{two_parts}
use Rattle.pr_rec.proofs.RecordLemmas.{ranged-encodes}
use Rattle.pr_rec.proofs.StatusLemmas.{status-ranged, status-typed}
use Rattle.pr_rec.specs.RecordBytes.{status_bytes}
use Rattle.pr_rec.specs.RecordWords.{status_words_of}
use Rattle.pr_rec.proofs.statuses.Status.encode.Goals as goal

pub returns-clause-bytes : goal.returns-clause-bytes
unfolding status_bytes
returns-clause-bytes c = c.put_two.ensures.bytes ∙ two_parts _ _ _ _ c.own_words.ensures.words c.words.ensures.words

pub returns-clause-ranged : goal.returns-clause-ranged
returns-clause-ranged c info =
    let own = c.own_words.ensures in
    let lwp = c.words.ensures in
    status-typed c.args.self.now own.flags own.id own.parent own.pending own.signals own.faults own.entries own.exits
    own.agent (subst (All IsWord) own.words c.put_two.ensures.first)
    (lwpstatus-typed c.args.self.now.lwp lwp.sizes lwp.flags lwp.id lwp.what lwp.held lwp.pending
    (subst (All IsWord) lwp.words c.put_two.ensures.second) info)

pub returns-clause-encoded : goal.returns-clause-encoded
returns-clause-encoded c info =
    ranged-encodes status_ranges (status_words_of c.args.self.now) _ refl
    (status-ranged c.args.self.now (returns-clause-ranged c info))
    (c.put_two.ensures.bytes ∙ two_parts _ _ _ _ c.own_words.ensures.words c.words.ensures.words)
