pub mod Sources
pub mod Sites
pub mod Laws
