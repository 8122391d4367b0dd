pub mod AsBox
mod Handed
mod Starts
