pub mod Lines
mod Answering
mod Buffer
pub mod Sessions
pub mod Forms
pub mod Serving
pub mod EventSessions
