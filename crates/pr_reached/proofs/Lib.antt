pub mod FitStates
pub mod StatesInRange
pub mod Sleepers
pub mod RecordsInRange
pub mod Usage
pub mod Together
