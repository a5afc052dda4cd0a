use Rattle.std.proofs.Common.{arith, ◌*◌, ◌∙◌}
use Rattle.std.proofs.lemmas.List.Elements.{All-from_get_or}
use Rattle.pr_num.specs.Words.{IsByte}
use Rattle.pr_codec.proofs.WordLemmas.{little_number-word_at, words_bytes-read}
use Rattle.pr_codec.proofs.words.read_words.Goals as goal

pub returns : goal.returns
returns c =
    words_bytes-read c.read_u64_into.new.dst c.args.bytes.now (omega arith)
    (All-from_get_or IsByte c.args.bytes.now 0 (λ i inside. let fits = c.type_inv.bytes i in omega arith))
    (λ i inside. c.read_u64_into.ensures i inside ∙ little_number-word_at c.args.bytes.now (8 * i))
