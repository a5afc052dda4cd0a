use Rattle.std.proofs.Common.{arith, sym}
use Rattle.std.proofs.lemmas.List.Elements.{All-from_get_or}
use Rattle.pr_num.specs.Words.{IsWord}
use Rattle.pr_rec.proofs.ReadLemmas.{words-front_words}
use Rattle.pr_tools.proofs.decoding.name_of.Goals as goal

pub returns : goal.returns
returns c =
    sym (words-front_words c.args.words.now c.put_words.new.out 4 (sym c.put_words.ensures) c.requires
    (All-from_get_or IsWord c.args.words.now 0 (λ i inside. let fits = c.type_inv.words i in omega arith)))
