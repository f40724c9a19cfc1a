pub mod Accepted
pub mod CallText
pub mod ControlText
pub mod Kinds
pub mod ScriptText
pub mod StatementText
pub mod WordForms
pub mod code
