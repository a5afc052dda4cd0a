-- Why apfiles was refused, that it has taken back its request then, and that it runs its process again unless that
-- stood.
pub mod LetsBe
pub mod ReasonLaw
pub mod ReasonStages
pub mod RunAgainLaw
pub mod RunAgainStages
pub mod TakesBack
