pub mod Dqpsk
pub mod Due
