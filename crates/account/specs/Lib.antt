pub mod CallList
pub mod Reachable
pub mod Numbers
pub mod Rules
pub mod Tracked
pub mod Account
pub mod Closings
pub mod Runs
