use Rattle.std.proofs.Common.{arith, ◌≡◌, ◌-◌, ◌+◌, ap, ◌∙◌}
use Rattle.std.proofs.lemmas.List.Elements.{All-from_get_or}
use Rattle.pr_num.specs.Words.{IsByte, word_bytes}
use Rattle.pr_codec.specs.Words.{word_at}
use Rattle.pr_codec.proofs.WordLemmas.{read_word, word_bytes-word_at}
use Rattle.pr_codec.proofs.words.word.Goals as goal

pub returns-clause-value : goal.returns-clause-value
returns-clause-value c =
    c.read_u64.ensures ∙ read_word c.args.bytes.now c.args.at (c.args.at + 8 - c.args.at) (omega arith)

pub returns-clause-spelled : goal.returns-clause-spelled
returns-clause-spelled c =
    let value : c.read_u64.result ≡ word_at c.args.bytes.now c.args.at = returns-clause-value c in
    ap word_bytes value
    ∙ word_bytes-word_at c.args.bytes.now c.args.at (omega arith)
    (All-from_get_or IsByte c.args.bytes.now 0 (λ i inside. let fits = c.type_inv.bytes i in omega arith))
