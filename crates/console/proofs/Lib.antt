pub mod Appends
pub mod Newlines
pub mod Feeds
pub mod Standing
pub mod Turns
pub mod Breaking
pub mod Serves
