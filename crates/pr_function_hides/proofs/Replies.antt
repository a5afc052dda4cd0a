-- What truss with functions has of its processes, and what a reply makes of that and of its marks, whatever the machine
-- is.
pub mod BareStages
pub mod ClosingStages
pub mod ClosingWalk
pub mod CountedFollows
pub mod CountedWalk
pub mod FilesWalk
pub mod FunctionSets
pub mod FunctionSteps
pub mod LeavingBegins
pub mod LeavingStages
pub mod LeavingTruss
pub mod LeavingWalk
pub mod OldPlaces
pub mod OwnFiles
pub mod PlacesCome
pub mod PlacesStay
pub mod PlantedReplies
pub mod PlantedWalk
pub mod RunFlags
pub mod StayedPlaces
pub mod ToldReplaced
pub mod TreatedEvents
pub mod UnopenedClean
pub mod UnplantedReplies
pub mod WaitingWalk
