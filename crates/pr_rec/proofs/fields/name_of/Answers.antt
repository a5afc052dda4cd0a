use Rattle.std.proofs.Common.{ap, length, arith, sym, subst}
use Rattle.std.specs.List.{All}
use Rattle.std.proofs.lemmas.List.Elements.{All-from_get_or}
use Rattle.pr_num.specs.Words.{IsByte, IsWord}
use Rattle.pr_codec.proofs.WordLemmas.{length-words_bytes, AreBytes-words_bytes}
use Rattle.pr_rec.proofs.ReadLemmas.{words-front_words}
use Rattle.pr_rec.proofs.fields.name_of.Goals as goal

pub returns-clause-words : goal.returns-clause-words
returns-clause-words c =
    sym (words-front_words c.args.words.now c.put_words.new.out 4 (sym c.put_words.ensures) c.requires
    (All-from_get_or IsWord c.args.words.now 0 (λ i inside. let fits = c.type_inv.words i in omega arith)))

pub returns-clause-name : goal.returns-clause-name
returns-clause-name c =
    let e = c.put_words.ensures in
    record {
      whole = omega (arith, ap length e, length-words_bytes c.args.words.now);
      bytes =
          subst (All IsByte) (sym e) (AreBytes-words_bytes c.args.words.now);
    }
