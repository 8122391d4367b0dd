mod Logs
mod Told
