-- What apfiles knows of its process and of the room for its agent, while all there do nothing but stop.
pub mod RoomCalls
pub mod RoomFrames
pub mod RoomReads
pub mod RoomStages
