-- What lies at the places that the answers tell.
pub mod Named
