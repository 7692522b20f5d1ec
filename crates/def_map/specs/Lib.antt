pub mod Spots
pub mod Homes
pub mod MapText
pub mod SpotPlaces
pub mod Laws
