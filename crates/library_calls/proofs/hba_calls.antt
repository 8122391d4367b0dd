mod Bytes
mod Memories
