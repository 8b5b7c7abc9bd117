pub mod Tables
pub mod Lifting
pub mod Dividing
pub mod Neighbours
pub mod Numbering
pub mod Owning
pub mod Shapes
pub mod Defining
