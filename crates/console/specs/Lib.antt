pub mod Text
pub mod Lines
pub mod Cuts
pub mod Answering
pub mod Wires
pub mod Sessions
pub mod Reading
pub mod Serving
