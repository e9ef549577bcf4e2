pub mod FieldLaw
pub mod FieldWalk
pub mod FieldSteps
pub mod SchemaLaw
