-- That truss calls just files that it has open, opens each file in its place, closes nothing that it has hold of, and
-- all that it has of what has ended or of what it has looked at for the last time, the control file last, polls soon,
-- by the control files that it has open, and in the order of their opens, and what it sends once it has polled, or was
-- interrupted.
pub mod CalledFiles
pub mod ControlLists
pub mod ControlsLast
pub mod EndedFiles
pub mod KeptOpen
pub mod LeftFiles
pub mod OpenPlaces
pub mod OrderedPolls
pub mod PlacedOpens
pub mod SentLater
pub mod SoonOpens
