pub mod BlockTexts
pub mod Blocked
pub mod Laws
pub mod Links
pub mod SidePoints
