pub mod ScenariosInRange
pub mod BytesWritten
pub mod PassiveControllers
pub mod TrussControllers
pub mod KeptRuns
