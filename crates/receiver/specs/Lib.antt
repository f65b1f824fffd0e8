pub mod Feed
pub mod View
pub mod Keep
pub mod Hearing
