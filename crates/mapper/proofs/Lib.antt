pub mod Numbers
pub mod Phases
pub mod Places
