mod Laid
mod Steps
