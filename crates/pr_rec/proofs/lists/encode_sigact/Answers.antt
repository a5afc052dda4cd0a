use Rattle.std.proofs.Common.{◌≡◌, length, arith}
use Rattle.pr_num.specs.Limits.{signal_count}
use Rattle.pr_num.specs.Records.{sigact_ranges}
use Rattle.pr_rec.proofs.RecordLemmas.{ranged-encodes}
use Rattle.pr_rec.proofs.SigactLemmas.{any_words-ranged}
use Rattle.pr_rec.proofs.lists.encode_sigact.Goals as goal

pub returns-clause-encoded : goal.returns-clause-encoded
returns-clause-encoded c =
    let words = c.args.dispositions.now in
    let size : length words ≡ signal_count = omega arith in
    ranged-encodes sigact_ranges words _ size
    (any_words-ranged signal_count words size c.put_record.ensures.words) c.put_record.ensures.bytes
