use Rattle.std.proofs.Common.{subst}
use Rattle.std.specs.List.{All}
use Rattle.pr_num.specs.Words.{IsWord}
use Rattle.pr_rec.proofs.ListEntryLemmas.{watch_entry-typed}
use Rattle.pr_rec.proofs.entries.WatchEntryEntry.append.Goals as goal

pub returns-clause-ranged : goal.returns-clause-ranged
returns-clause-ranged c =
    watch_entry-typed c.args.self.now c.words.ensures.flags
    (subst (All IsWord) c.words.ensures.words c.append_words.ensures.words)
