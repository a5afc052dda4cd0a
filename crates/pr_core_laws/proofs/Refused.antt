-- How gcore ends where it was refused, and that it runs its process again or takes back its request to stop.
pub mod CallStages
pub mod EndingLaw
pub mod RefusalStages
pub mod RequestStages
pub mod RunAgainStages
