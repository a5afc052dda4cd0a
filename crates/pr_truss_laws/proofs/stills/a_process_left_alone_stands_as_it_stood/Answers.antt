use Rattle.pr_truss_laws.proofs.EventStops.AloneLemmas.{alone-tells}
use Rattle.pr_truss_laws.proofs.stills.a_process_left_alone_stands_as_it_stood.Goals as goal

pub returns-clause-tells : goal.returns-clause-tells
returns-clause-tells c =
    λ p q alone id l k stop before after stands. alone-tells p q alone id l k stop before after stands
