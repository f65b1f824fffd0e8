mod Samples
mod Handing
mod Feeding
mod Keeping
mod Rows
mod Views
mod Told
