use Rattle.std.proofs.Common.{arith}
use Rattle.std.proofs.lemmas.List.Elements.{All-from_get_or}
use Rattle.pr_num.specs.Words.{IsByte}
use Rattle.pr_msg.proofs.DecodeLemmas.{read-begins}
use Rattle.pr_msg.proofs.decoding.decode_one.Goals as goal

pub returns-clause-spelt : goal.returns-clause-spelt
returns-clause-spelt c =
    read-begins c.args.bytes.now c.first_message.result
    (All-from_get_or IsByte c.args.bytes.now 0 (λ i inside. let fits = c.type_inv.bytes i in omega arith))
    c.first_message.ensures
