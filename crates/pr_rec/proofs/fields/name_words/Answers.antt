use Rattle.std.proofs.Common.{arith}
use Rattle.pr_rec.proofs.ReadLemmas.{AreBytes-each}
use Rattle.pr_rec.proofs.fields.name_words.Goals as goal

pub returns-clause-name : goal.returns-clause-name
returns-clause-name c = record { whole = omega arith; bytes = AreBytes-each c.args.name.now c.fits-name }
