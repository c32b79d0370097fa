pub mod Tasking
pub mod Dues
pub mod Carried
pub mod Installing
pub mod Sounding
