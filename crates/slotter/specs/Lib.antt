pub mod Phases
pub mod Bursts
pub mod Uplink
pub mod Places
