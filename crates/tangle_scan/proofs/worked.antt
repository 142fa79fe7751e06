pub mod WorkedAsMeant
pub mod WorkedLocations
pub mod WorkedSegments
pub mod WorkedWebs
