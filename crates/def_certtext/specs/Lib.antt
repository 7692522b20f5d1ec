pub mod CertLines
pub mod HeadLine
pub mod Laws
pub mod Reading
pub mod Risings
pub mod Rounds
pub mod Settings
