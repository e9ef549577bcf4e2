pub mod Checked
pub mod Found
pub mod Reading
pub mod Coded
pub mod Codes
pub mod Calls
pub mod Laws
