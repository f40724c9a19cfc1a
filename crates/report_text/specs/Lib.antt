pub mod AnswerText
pub mod ReportText
pub mod Words
