use Rattle.std.proofs.Common.{refl, subst, ap, ◌∙◌}
use Rattle.std.specs.List.{All}
use Rattle.pr_num.specs.Records.{map_entry_ranges}
use Rattle.pr_num.specs.Words.{IsWord, words_bytes}
use Rattle.pr_rec.proofs.RecordLemmas.{ranged-encodes}
use Rattle.pr_rec.proofs.MapEntryLemmas.{map_entry-ranged, map_entry-typed}
use Rattle.pr_rec.specs.RecordWords.{map_entry_words_of}
use Rattle.pr_rec.proofs.mappings.MapEntry.encode.Goals as goal

pub returns-clause-ranged : goal.returns-clause-ranged
returns-clause-ranged c =
    map_entry-typed c.args.self.now c.words.ensures.prot c.words.ensures.name
    (subst (All IsWord) c.words.ensures.words c.put_record.ensures.words)

pub returns-clause-encoded : goal.returns-clause-encoded
returns-clause-encoded c =
    ranged-encodes map_entry_ranges (map_entry_words_of c.args.self.now) _ refl
    (map_entry-ranged c.args.self.now (returns-clause-ranged c))
    (c.put_record.ensures.bytes ∙ ap words_bytes c.words.ensures.words)
