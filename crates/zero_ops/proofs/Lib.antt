mod Copies
mod Messages
mod Parts
mod Places
mod Spelled
