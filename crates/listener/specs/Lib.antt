pub mod Signal
pub mod View
