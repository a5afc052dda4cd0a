pub mod EventStops
pub mod Files
pub mod GivenProcesses
pub mod Machine
pub mod OwnBusiness
pub mod Replies
pub mod Soon
