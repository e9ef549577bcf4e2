pub mod GeneratedColumns
