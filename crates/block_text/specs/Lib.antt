pub mod BlockText
pub mod UplinkLines
pub mod Lines
