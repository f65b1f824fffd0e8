pub mod Signed
pub mod Times
pub mod Views
pub mod Doors
pub mod Keeping
mod Handing
pub mod Outcomes
pub mod Taken
pub mod Accepted
pub mod Closing
mod Told
