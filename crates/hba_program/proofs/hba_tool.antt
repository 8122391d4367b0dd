mod Rows
mod Steps
mod Writers
mod Refusals
mod Waves
