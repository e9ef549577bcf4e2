pub mod Ids
pub mod IdColumns
pub mod Coded
pub mod Slots
pub mod Packing
pub mod Keys
pub mod Keyed
