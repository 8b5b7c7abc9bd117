pub mod Lasting
pub mod Composing
