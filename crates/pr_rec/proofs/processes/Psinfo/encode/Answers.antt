use Rattle.std.proofs.Common.{refl, subst, ap, ◌∙◌}
use Rattle.std.specs.List.{All}
use Rattle.pr_num.specs.Records.{psinfo_ranges}
use Rattle.pr_num.specs.Words.{IsWord, words_bytes}
use Rattle.pr_rec.proofs.RecordLemmas.{ranged-encodes}
use Rattle.pr_rec.proofs.PsinfoLemmas.{psinfo-ranged, psinfo-typed}
use Rattle.pr_rec.specs.RecordWords.{psinfo_words_of}
use Rattle.pr_rec.proofs.processes.Psinfo.encode.Goals as goal

pub returns-clause-ranged : goal.returns-clause-ranged
returns-clause-ranged c =
    psinfo-typed c.args.self.now c.words.ensures.id c.words.ensures.parent c.words.ensures.name
    (subst (All IsWord) c.words.ensures.words c.put_record.ensures.words)

pub returns-clause-encoded : goal.returns-clause-encoded
returns-clause-encoded c =
    ranged-encodes psinfo_ranges (psinfo_words_of c.args.self.now) _ refl
    (psinfo-ranged c.args.self.now (returns-clause-ranged c))
    (c.put_record.ensures.bytes ∙ ap words_bytes c.words.ensures.words)
