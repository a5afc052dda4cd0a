use Rattle.pr_truss_laws.proofs.Machine.FrameLemmas.{turn-leaves}
use Rattle.pr_truss_laws.proofs.stills.a_turn_leaves_other_processes_alone.Goals as goal

pub returns : goal.returns
returns c =
    λ s pid other id t p q lawful before differs turn after. turn-leaves s pid other id t p q lawful before differs
    turn after
