pub mod Asked
pub mod Conditions
pub mod Made
pub mod Views
