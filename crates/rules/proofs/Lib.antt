pub mod Total
pub mod Steps
