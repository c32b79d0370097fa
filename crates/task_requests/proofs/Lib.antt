pub mod Living
mod Results
mod Lines
mod Beginning
mod Ending
mod Waiting
mod Handing
mod Sending
mod Answering
