use Rattle.pr_text.proofs.TokenLemmas.{others_stand}
use Rattle.pr_text.proofs.tokens.Tokens.next.Goals as goal

pub invariant_of-self-2 : goal.invariant_of-self-2
invariant_of-self-2 c =
    others_stand c.self.inside.line.now c.in_ok-word.word c.next.new.self c.self.inside.words c.self.invariant
    c.in_ok-word.ensures.steps
