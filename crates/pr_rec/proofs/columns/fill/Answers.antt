use Rattle.std.proofs.Common.{arith}
use Rattle.std.proofs.lemmas.List.Elements.{All-from_get_or}
use Rattle.pr_num.specs.Words.{IsWord}
use Rattle.pr_rec.proofs.ReadLemmas.{words-front_words}
use Rattle.pr_rec.proofs.columns.fill.Goals as goal

pub returns : goal.returns
returns c =
    words-front_words c.read_words.new.out c.args.bytes.now _ c.read_words.ensures (omega arith)
    (All-from_get_or IsWord c.read_words.new.out 0 (λ i inside. let fits = c.type_inv.words i in omega arith))
