pub mod Command
pub mod CommandView
pub mod Notes
pub mod ServeLine
pub mod ServeView
