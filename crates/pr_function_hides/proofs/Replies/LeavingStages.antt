-- Where a truss stands that leaves its processes, as pr_function_laws says it.
pub use Rattle.pr_function_laws.proofs.LeavingProcesses.LeavingStages.{Alike, IsLeft, IsUnlooked, TellsLast, asks, awaits}
pub use Rattle.pr_function_laws.proofs.LeavingProcesses.LeavingStages.{closes_files, halts, has_ended, is_looked, lifted_after}
pub use Rattle.pr_function_laws.proofs.LeavingProcesses.LeavingStages.{lifts_all, looks, reads_text, waits_again, with_fewer}
pub use Rattle.pr_function_laws.proofs.LeavingProcesses.LeavingStages.{with_no_marks}
