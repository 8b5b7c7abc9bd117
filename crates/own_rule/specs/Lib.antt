pub mod NewestFirst
pub mod Composed
