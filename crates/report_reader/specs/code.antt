-- The functions of the code, one for one, over the words of a line.
pub mod Readers
pub mod Forms
pub mod AnswerForms
pub mod LineForms
