use Rattle.std.proofs.Common.{◌≡◌, ◌∙◌, ◌+◌, None, Some, cond, is_some, true, false, refl, rules, sym, ap, subst}
use Rattle.pr_judge.proofs.HearingLemmas.{heard-still, heard-tried}
use Rattle.pr_judge.specs.Hearings.{Hearing}
use Rattle.pr_judge.specs.Players.{HasTried}
use Rattle.pr_judge.proofs.judges.Judge.hear.Goals as goal

pub returns-then-is_some-clause-heard : goal.returns-then-is_some-clause-heard
returns-then-is_some-clause-heard c = λ s entries so_far.
    let is = c.self.view_is in
    let wrong : is_some c.self.inside.first ≡ true = search rules in
    heard-still s entries c.args.entry.now c.args.self.now _ so_far (ap (λ (j : Hearing). j.controllers) is)
    (ap (λ (j : Hearing). j.heard + 1) is) (ap (λ (j : Hearing). is_some j.first) (sym is) ∙ wrong)
    (ap (λ (j : Hearing). j.first) is)

pub returns-clause-heard : goal.returns-clause-heard
returns-clause-heard c = λ s entries so_far.
    let is = c.self.view_is in
    let none : is_some c.self.inside.first ≡ false = search rules in
    let next = c.play.new.self.state in
    let old = c.args.self.now in
    let tried : HasTried old.controllers c.args.entry.now old.state next c.in_ok-legal.legal =
    subst (λ (j : Hearing). HasTried j.controllers c.args.entry.now j.state next c.in_ok-legal.legal) is
    c.in_ok-legal.ensures.tried in
    heard-tried s entries c.args.entry.now c.args.self.now _ so_far (ap (λ (j : Hearing). j.controllers) is)
    (ap (λ (j : Hearing). j.heard + 1) is) c.in_ok-legal.legal c.play.new.self.state
    (ap (λ (j : Hearing). is_some j.first) (sym is) ∙ none) tried
    (c.place_unless-self-inside.ensures ∙ ap (λ (j : Hearing). cond c.in_ok-legal.legal None (Some j.heard)) is) refl
