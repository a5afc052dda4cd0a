pub mod HiddenProbes
pub mod ProbeCalls
pub mod PutBack
pub mod Reasons
pub mod SetsBack
pub mod ShownDescriptors
pub mod StepMarks
pub mod TakesBack
