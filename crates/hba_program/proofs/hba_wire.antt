mod Heard
mod Pieces
