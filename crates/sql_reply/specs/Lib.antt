pub mod Asked
pub mod Laws
pub mod Parts
pub mod Reply
pub mod SqlReply
