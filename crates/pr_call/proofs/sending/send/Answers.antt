use Rattle.std.proofs.Common.{refl, ap, ◌∙◌}
use Rattle.pr_call.specs.Effects.{after_effect, outcome_of}
use Rattle.pr_call.proofs.SendingLemmas.{outcome-refuses, send-sends, sent-own}
use Rattle.pr_call.proofs.sending.send.Goals as goal

pub deliver-requires-clause-sent : goal.deliver-requires-clause-sent
deliver-requires-clause-sent c = sent-own _ _ _ _ (c.in-Sent.ensures.sent _ _ refl)

pub returns-in-Sent-clause-system : goal.returns-in-Sent-clause-system
returns-in-Sent-clause-system c p found caller l =
    c.deliver.ensures.system p found caller l
    ∙ ap (λ e. after_effect c.args.own p caller l e c.args.sys.now)
    (send-sends _ _ _ _ _ _ _ c.in-Sent.ensures.value (c.in-Sent.ensures.sent _ _ refl).named)

pub returns-in-Sent-clause-outcome : goal.returns-in-Sent-clause-outcome
returns-in-Sent-clause-outcome c =
    c.deliver.ensures.outcome
    ∙ ap outcome_of (send-sends _ _ _ _ _ _ _ c.in-Sent.ensures.value (c.in-Sent.ensures.sent _ _ refl).named)

pub returns-in-Refused-clause-outcome : goal.returns-in-Refused-clause-outcome
returns-in-Refused-clause-outcome c = outcome-refuses _ _ _ _ _ _ c.in-Refused.ensures.value
