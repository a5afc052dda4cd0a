use Rattle.std.proofs.Common.{subst}
use Rattle.std.specs.List.{All}
use Rattle.pr_num.specs.Words.{IsWord}
use Rattle.pr_rec.proofs.LwpStatusLemmas.{lwpstatus-typed}
use Rattle.pr_rec.proofs.entries.LwpStatusEntry.append.Goals as goal

pub returns-clause-ranged : goal.returns-clause-ranged
returns-clause-ranged c info =
    lwpstatus-typed c.args.self.now c.words.ensures.sizes c.words.ensures.flags c.words.ensures.id c.words.ensures.what
    c.words.ensures.held c.words.ensures.pending
    (subst (All IsWord) c.words.ensures.words c.append_words.ensures.words) info
