-- What truss traces, selects, writes, looks at and asks for, of which refusals it tells, and what it prints with -c.
pub mod AskedLaws
pub mod CountLaws
pub mod HeldRefused
pub mod LeavingLooks
pub mod LookStages
pub mod LooksMade
pub mod MemoryAsked
pub mod NamedRuns
pub mod OnceShown
pub mod ReadShown
pub mod RefusedOpens
pub mod SelectedLaws
pub mod ShownLaws
