-- Which calls the machine refuses apfiles while that hides something: none, but for a free handle.
pub mod AcceptedCalls
pub mod GrantedCalls
