use Rattle.pr_truss_laws.proofs.Machine.ForeignLemmas.{call-leaves}
use Rattle.pr_truss_laws.proofs.stills.other_controllers_leave_an_exclusive_process_alone.Goals as goal

pub returns : goal.returns
returns c =
    λ s k number by h call a p q lawful mine mode other is before after. call-leaves s k number by h call a p q lawful
    mine mode other is before after
