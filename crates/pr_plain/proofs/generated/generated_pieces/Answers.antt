use Rattle.pr_plain.proofs.GeneratedLemmas.{pieces_text}
use Rattle.pr_plain.proofs.generated.generated_pieces.Goals as goal

pub returns : goal.returns
returns c = λ n same. pieces_text n c.args.digits.now same
