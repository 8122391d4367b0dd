mod Endings
mod Matches
