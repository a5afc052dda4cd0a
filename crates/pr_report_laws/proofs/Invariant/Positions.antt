pub use Rattle.pr_report_laws.specs.AtBirth.{IsAtBirth, IsTracedBy, Waits, has_met, is_met_if, met_in}
pub use Rattle.pr_report_laws.specs.Positions.{HasEvent, IsHeld}

-- How a process stands that truss traces, as the machine has it.
